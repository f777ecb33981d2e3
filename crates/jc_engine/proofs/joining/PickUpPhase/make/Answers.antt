use Rattle.jc_engine.proofs.Common.{◌∙◌, ap, inl, inr, refl, rules, subst, sym, PicksUp, polled_with, polled_counts, is_early}
use Rattle.jc_stripe.specs.declared.begun.Picked.{Picked}
use Rattle.jc_engine.proofs.joining.PickUpPhase.make.Goals as goal

pub returns-then-not-is_early-clause-made : goal.returns-then-not-is_early-clause-made
returns-then-not-is_early-clause-made c =
    let picked = c.pick_up-picked.result in
    let reply = c.pick_up-picked.new.reply in (
      record { picks = c.pick_up-picked.ensures.picks_up; last = sym c.is_early.ensures ∙ c.if-not-is_early.true },
      inr (inr (inr (inl (
        record { join = c.args.self.join; picked = polled_with picked reply; own = refl; picks_up = c.pick_up-picked.ensures.picks_up },
        sym (polled_counts picked reply),
      )))),
    )

pub returns-clause-back : goal.returns-clause-back
returns-clause-back c =
    let PicksSo : Picked → Type 0 = λ p. PicksUp c.args.stripe.now c.args.self.join (polled_with p c.pick_up-picked.new.reply) c.pick_up-picked.new.self in
    let early = subst PicksSo c.in-NotYet.is c.pick_up-picked.ensures.picks_up in (
      search rules,
      early.3,
      record {
        waits_is = sym (ap (is_early c.args.self.waits) c.in-NotYet.is) ∙ sym c.is_early.ensures ∙ c.if-not-is_early.false;
        not_yet = (early.0, early.1, refl, refl);
      },
    )
