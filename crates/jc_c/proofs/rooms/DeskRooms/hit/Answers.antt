use Rattle.std.proofs.Common.{◌≡◌, true, ℕ, sym, subst}
use Rattle.jc_model.specs.Cache.{Bytes}
use Rattle.jc_stripe.specs.DeskState.{DeskState}
use Rattle.jc_stripe.specs.DeskPhases.{HitsAtDesk}
use Rattle.jc_c.specs.declared.layouts.InlineValue.{InlineValue}
use Rattle.jc_c.specs.Layouts.{inline_value, is_inline_value, StaysBehindValue}
use Rattle.jc_c.specs.Exports.{HitsForC}
use Rattle.jc_c.proofs.rooms.DeskRooms.hit.Goals as goal

shown : (old inside : DeskState) (session : ℕ) (key value : Bytes) (call : ℕ) (new : DeskState) (before out : InlineValue) → inside ≡ old → inline_value out ≡ value → is_inline_value out ≡ true
    → StaysBehindValue before out → HitsAtDesk inside session key value call new → HitsForC old session key before out new
shown old inside session key value call new before out same is fits behind hits = record {
  call = call;
  hits = subst (λ (v : Bytes). HitsAtDesk old session key v call new) (sym is) (subst (λ (d : DeskState). HitsAtDesk d session key value call new) same hits);
  fits = fits;
  behind = behind;
}

pub returns-clause-hit : goal.returns-clause-hit
returns-clause-hit c = λ ok. shown c.args.self.now _ c.args.session c.args.key.now _ _ c.hit.new.self _ _ c.self.view_is c.show_value.ensures.value c.show_value.ensures.fits c.show_value.ensures.behind c.in-Some.ensures.some
