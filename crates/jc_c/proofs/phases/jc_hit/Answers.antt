use Rattle.std.proofs.Common.{◌≡◌, ℕ, subst, rules}
use Rattle.jc_model.specs.Cache.{Bytes}
use Rattle.jc_stripe.specs.DeskState.{DeskState}
use Rattle.jc_c.specs.declared.layouts.InlineValue.{InlineValue}
use Rattle.jc_c.specs.Exports.{HitsForC}
use Rattle.jc_c.proofs.phases.jc_hit.Goals as goal

carried : (old given : DeskState) (session : ℕ) (key bytes : Bytes) (before out : InlineValue) (new left : DeskState) → given ≡ old → key ≡ bytes → left ≡ new
    → HitsForC given session key before out left → HitsForC old session bytes before out new
carried old given session key bytes before out new left same is kept hits =
    subst (λ (d : DeskState). HitsForC d session bytes before out new) same
    (subst (λ (b : Bytes). HitsForC given session b before out new) is
    (subst (λ (d : DeskState). HitsForC given session key before out d) kept hits))

pub returns-clause-hit : goal.returns-clause-hit
returns-clause-hit c = λ ok.
    let given : c.deref_mut.result.now ≡ c.args.h.now.desk = search rules in
    let after : c.hit-code.new.self ≡ c.put.new.self.desk = search rules in
    carried c.args.h.now.desk _ c.args.session _ c.args.key.now c.args.out.now c.hit-code.new.out c.put.new.self.desk _ given c.in-Some.ensures.key after (c.hit-code.ensures.hit ok)
