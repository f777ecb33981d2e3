use Rattle.jc_engine.proofs.Common.{rules, ◌≡◌, ◌∙◌, ap, inl, phase_of}
use Rattle.jc_engine.proofs.access.Access.hit.Goals as goal

pub give-requires-clause-phase : goal.give-requires-clause-phase
give-requires-clause-phase g c = (
  c.take-stripe.result.value,
  c.take-stripe.ensures.taken,
  rw (c.counted_hit.ensures, ← c.caller.ensures, ← c.deref_mut.ensures.value) c.hit_on-is_hit.ensures.counted,
)

pub returns-clause-made : goal.returns-clause-made
returns-clause-made g c =
    let who : c.caller.result ≡ c.args.self.now.agent.now.caller = c.caller.ensures ∙ ap (λ a. a.caller) c.take-stripe.ensures.agent in
    record {
      same = search rules;
      ready = search rules;
      agent = search rules;
      phase = (
        c.take-stripe.result.value,
        c.hit_on-is_hit.new.stripe,
        rw (← who, ← c.deref_mut.ensures.value) c.hit_on-is_hit.ensures.made,
        record {
          lends = record { gate = c.take-stripe.new.gate; token = c.take-stripe.new.token; took = c.take-stripe.ensures.takes; reached = c.take-stripe.ensures.found.1; gave = c.give.ensures.gives };
          finds_it = c.take-stripe.ensures.found.0;
          by = inl (rw (← who, ← c.deref_mut.ensures.value) (phase_of _ _ _ _ c.hit_on-is_hit.ensures.counted));
          next = λ a f. c.give.ensures.next _ a (c.take-stripe.ensures.speaks _ c.requires.ready.speaks) f;
        },
      );
    }
