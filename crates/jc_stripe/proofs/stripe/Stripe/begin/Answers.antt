use Rattle.std.proofs.Common.{length, inl, inr, refl}
use Rattle.jc_model.specs.declared.event.Op.TheVariants.{Get}
use Rattle.jc_stripe.specs.Outcomes as begun
use Rattle.jc_stripe.specs.Phases.{hit_done}
use Rattle.jc_stripe.proofs.stripe.Stripe.begin.Goals as goal

-- a hit is a first phase of its session
pub returns-clause-phase : goal.returns-clause-phase
returns-clause-phase c =
    let hit = c.if-not-find_and_use.ensures.found in
    inr (inl (record {
      caller = c.args.caller;
      key = c.args.key.now;
      op = Get;
      begun = begun.Done (hit_done (length c.args.self.now.history) hit.value);
      own = refl;
      may = c.requires.begins;
      begins = hit.begins;
    }))
