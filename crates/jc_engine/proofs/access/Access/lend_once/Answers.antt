use Rattle.jc_engine.proofs.Common.{rules, ◌∙◌, ap, inl, inr, refl, subst, sym, true≢false, State, phase_of, is_renewable, IsLeft}
use Rattle.jc_engine.proofs.Rows.{left_once}
use Rattle.jc_engine.proofs.access.Access.lend_once.Goals as goal

pub make-requires-clause-needs : goal.make-requires-clause-needs
make-requires-clause-needs g c = rw (c.deref_mut.ensures.value) (c.requires.fits.needs_it _ c.in-Some.ensures.some.found.0)

pub give-requires-clause-phase : goal.give-requires-clause-phase
give-requires-clause-phase g c = (
  c.in-Some.stripe.value,
  c.in-Some.ensures.some.taken,
  rw (c.counted.ensures, ap (λ a. a.caller.session) c.in-Some.ensures.some.agent, ← c.requires.fits.who_is, ← c.deref_mut.ensures.value) c.in-Ok.ensures.made.1,
)

pub returns-in-Ok-clause-made : goal.returns-in-Ok-clause-made
returns-in-Ok-clause-made g c = (
  search rules,
  c.in-Some.stripe.value,
  c.make.new.stripe,
  rw (← c.deref_mut.ensures.value) c.in-Ok.ensures.made.0,
  rw (← c.requires.fits.who_is, ← c.deref_mut.ensures.value) (phase_of _ _ _ _ c.in-Ok.ensures.made.1),
  record {
    lends = record { gate = c.try_take.new.gate; token = c.try_take.new.token; took = c.in-Some.ensures.some.takes; reached = c.in-Some.ensures.some.found.1; gave = c.give.ensures.gives };
    finds_it = c.in-Some.ensures.some.found.0;
    by = inl (rw (← c.requires.fits.who_is, ← c.deref_mut.ensures.value) (phase_of _ _ _ _ c.in-Ok.ensures.made.1));
    next = λ a f. c.give.ensures.next _ a (c.in-Some.ensures.some.speaks _ c.requires.ready.speaks) f;
  },
)

pub returns-in-None-clause-ready : goal.returns-in-None-clause-ready
returns-in-None-clause-ready g c = (
  record { gate = refl; token = refl; agent = refl },
  record {
    held = ap (λ a. a.hands.held) c.in-None.ensures.none.none ∙ c.requires.ready.held;
    free = c.in-None.ensures.none.free;
    speaks = rw (ap (λ a. a.caller.session) c.in-None.ensures.none.none) (c.in-None.ensures.none.speaks _ c.requires.ready.speaks);
  },
)

pub returns-in-None-clause-back : goal.returns-in-None-clause-back
returns-in-None-clause-back g c = (refl, c.in-None.ensures.none.none, inl ((refl, c.in-None.ensures.none.missed, c.in-None.ensures.none.still), refl))

-- whether its generation stood in the way
pub returns-then-not-is_due-clause-back : goal.returns-then-not-is_due-clause-back
returns-then-not-is_due-clause-back g c =
    let found : State = c.in-Some.stripe.value in
    let some = c.in-Some.ensures.some in (
      refl,
      search rules,
      inr (
        (found, c.leave.ensures.left.left),
        left_once g.G.Gate.takes g.G.Gate.gives g.G.Gate.finds _ g.G.Gate.is_free g.G.Gate.speaks_for _ _ found c.try_take.new.gate c.try_take.new.token c.leave.new.self.gate.now c.leave.new.self.token.now some.takes some.found.0 some.found.1 (some.speaks _ c.requires.ready.speaks) c.leave.ensures.left,
        record { why = inl (λ due. true≢false (sym (c.is_due.ensures.1 (subst (g.P.Phase.due c.args.phase) (sym c.deref-2.ensures) due)) ∙ c.if-not-is_due.true)); way = c.leave.ensures.left.way },
        sym (c.is_renewable-ends.ensures ∙ ap is_renewable c.deref.ensures),
      ),
    )

pub returns-in-Err-clause-back : goal.returns-in-Err-clause-back
returns-in-Err-clause-back g c =
    let found : State = c.in-Some.stripe.value in
    let some = c.in-Some.ensures.some in
    let left : IsLeft g.G.Gate.gives g.G.Gate.finds g.G.Gate.is_free g.G.Gate.speaks_for c.try_take.new.gate c.try_take.new.token found c.leave-in-Err.new.self.gate.now c.leave-in-Err.new.self.token.now =
    subst (λ (s : State). IsLeft g.G.Gate.gives g.G.Gate.finds g.G.Gate.is_free g.G.Gate.speaks_for c.try_take.new.gate c.try_take.new.token s c.leave-in-Err.new.self.gate.now c.leave-in-Err.new.self.token.now)
    (c.in-Err.ensures.back.1 ∙ c.deref_mut.ensures.value) c.leave-in-Err.ensures.left in (
      c.in-Err.ensures.back.0,
      search rules,
      inr (
        (found, left.left),
        left_once g.G.Gate.takes g.G.Gate.gives g.G.Gate.finds _ g.G.Gate.is_free g.G.Gate.speaks_for _ _ found c.try_take.new.gate c.try_take.new.token c.leave-in-Err.new.self.gate.now c.leave-in-Err.new.self.token.now some.takes some.found.0 some.found.1 (some.speaks _ c.requires.ready.speaks) left,
        record { why = inr (subst (g.P.Phase.puts_off c.args.phase) c.deref_mut.ensures.value c.in-Err.ensures.back.2); way = left.way },
        sym (c.is_renewable-ends.ensures ∙ ap is_renewable c.deref.ensures),
      ),
    )
