use Rattle.jc_engine.proofs.Common.{rules, [], ◌∷◌, ◌++◌, ◌∙◌, ap, inl, inr, refl, subst, sym, true≢false, phase_of, IsPhaseOf, State, HasWaited, IsLeft}
use Rattle.jc_engine.proofs.Rows.{once, row_append}
use Rattle.jc_engine.proofs.Tries.{tries_start, tries_left}
use Rattle.jc_engine.proofs.access.Access.lend.Goals as goal

pub take-stripe-requires : goal.take-stripe-requires
take-stripe-requires g c = (ap (λ a. a.hands.held) c.loop.invariant.0 ∙ c.requires.ready.held, c.loop.invariant.2.free)

pub leave_and_pause-requires-clause-held : goal.leave_and_pause-requires-clause-held
leave_and_pause-requires-clause-held g c = (
  ap (λ a. a.hands.held) c.take-stripe.ensures.agent,
  rw (ap (λ a. a.caller.session) c.take-stripe.ensures.agent, ap (λ a. a.caller.session) c.loop.invariant.0)
      (c.take-stripe.ensures.speaks _ (c.loop.invariant.2.speaks _ c.requires.ready.speaks)),
)

pub leave_and_pause-requires-in-Err-clause-held : goal.leave_and_pause-requires-in-Err-clause-held
leave_and_pause-requires-in-Err-clause-held g c = (
  ap (λ a. a.hands.held) c.take-stripe.ensures.agent,
  rw (ap (λ a. a.caller.session) c.take-stripe.ensures.agent, ap (λ a. a.caller.session) c.loop.invariant.0)
      (c.take-stripe.ensures.speaks _ (c.loop.invariant.2.speaks _ c.requires.ready.speaks)),
)

pub make-requires-clause-needs : goal.make-requires-clause-needs
make-requires-clause-needs g c = rw (c.loop.invariant.1, c.deref_mut.ensures.value) (c.loop.invariant.2.finds_it _ c.take-stripe.ensures.found.0)

pub give-requires-clause-held : goal.give-requires-clause-held
give-requires-clause-held g c = (
  ap (λ a. a.hands.held) c.take-stripe.ensures.agent,
  rw (ap (λ a. a.caller.session) c.take-stripe.ensures.agent, ap (λ a. a.caller.session) c.loop.invariant.0)
      (c.take-stripe.ensures.speaks _ (c.loop.invariant.2.speaks _ c.requires.ready.speaks)),
)

pub give-requires-clause-phase : goal.give-requires-clause-phase
give-requires-clause-phase g c = (
  c.take-stripe.result.value,
  c.take-stripe.ensures.taken,
  rw (c.counted.ensures, ap (λ a. a.caller.session) c.take-stripe.ensures.agent, ap (λ a. a.caller.session) c.loop.invariant.0, ← c.requires.fits.who_is, ← c.loop.invariant.1, ← c.deref_mut.ensures.value)
      c.in-Ok.ensures.made.1,
)

pub returns-in-Ok : goal.returns-in-Ok
returns-in-Ok g c = record {
  same = search rules;
  ready = record {
    held = ap (λ a. a.hands.held) c.give.ensures.agent;
    free = c.give.ensures.free;
    speaks = rw (ap (λ a. a.caller.session) c.give.ensures.agent, ap (λ a. a.caller.session) c.take-stripe.ensures.agent, ap (λ a. a.caller.session) c.loop.invariant.0)
        (c.give.ensures.speaks _ (c.take-stripe.ensures.speaks _ (c.loop.invariant.2.speaks _ c.requires.ready.speaks)));
  };
  agent = search rules;
  phase =
      let a : State = c.take-stripe.result.value in
      let b : State = c.make.new.stripe in
      let so = c.loop.invariant.2 in
      let one : IsPhaseOf c.args.self.now.agent.now.caller.session a b = rw (← c.requires.fits.who_is, ← c.loop.invariant.1, ← c.deref_mut.ensures.value) (phase_of _ _ _ _ c.in-Ok.ensures.made.1) in (
        record {
          row = so.row ++ (a, b) ∷ [];
          lent = row_append g.G.Gate.takes g.G.Gate.gives g.G.Gate.finds _ _ _ so.row c.loop.self.gate.now c.loop.self.token.now ((a, b) ∷ []) c.give.new.gate c.give.new.token so.lent
              (once g.G.Gate.takes g.G.Gate.gives g.G.Gate.finds _ _ _ a b c.give.new.gate c.give.new.token record {
                lends = record { gate = c.take-stripe.new.gate; token = c.take-stripe.new.token; took = c.take-stripe.ensures.takes; reached = c.take-stripe.ensures.found.1; gave = c.give.ensures.gives };
                finds_it = c.take-stripe.ensures.found.0;
                by = inl one;
                next = λ x f. c.give.ensures.next _ x (c.take-stripe.ensures.speaks _ (so.speaks _ c.requires.ready.speaks)) f;
              });
          did = record { waits = so.row; found = a; left = b; row_is = refl; waited = so.waited; made = rw (← c.deref_mut.ensures.value, ← c.loop.invariant.1) c.in-Ok.ensures.made.0 };
          one = one;
        },
        rw (← c.requires.fits.who_is, ← c.loop.invariant.1, ← c.deref_mut.ensures.value) c.in-Ok.ensures.made.1,
      );
}

pub loop-init : goal.loop-init
loop-init g c = (refl, refl, tries_start g.G.Gate.takes g.G.Gate.gives g.G.Gate.finds g.G.Gate.is_free g.G.Gate.speaks_for _ _ _ _ _ c.requires.ready.free c.requires.fits.needs_it, record { gate = refl; token = refl; agent = refl })

pub loop-preserved-then-not-is_due : goal.loop-preserved-then-not-is_due
loop-preserved-then-not-is_due g c = (
  search rules,
  c.loop.invariant.1,
  tries_left g.G.Gate.takes g.G.Gate.gives g.G.Gate.finds g.G.Gate.is_free g.G.Gate.speaks_for (HasWaited (g.P.Phase.due c.args.phase) (g.P.Phase.puts_off c.args.phase)) (g.P.Phase.needs c.args.phase) c.args.self.now.agent.now.caller.session _ _ _ _ c.take-stripe.result.value _ _ _ _
      (λ x y after. g.met.P.Phase.stays c.args.phase x y (rw c.requires.fits.who_is after))
      c.loop.invariant.2 c.take-stripe.ensures.takes c.take-stripe.ensures.found.0 c.take-stripe.ensures.found.1 c.take-stripe.ensures.speaks c.requires.ready.speaks c.leave_and_pause.ensures.left
      record { why = inl (λ due. true≢false (sym (c.is_due.ensures.1 (rw (c.loop.invariant.1, c.deref.ensures) due)) ∙ c.if-not-is_due.true)); way = c.leave_and_pause.ensures.left.way },
  search rules,
)

pub loop-preserved : goal.loop-preserved
loop-preserved g c =
    let found : State = c.take-stripe.result.value in
    let left : IsLeft g.G.Gate.gives g.G.Gate.finds g.G.Gate.is_free g.G.Gate.speaks_for c.take-stripe.new.gate c.take-stripe.new.token found c.leave_and_pause-in-Err.new.self.gate.now c.leave_and_pause-in-Err.new.self.token.now =
    subst (λ (s : State). IsLeft g.G.Gate.gives g.G.Gate.finds g.G.Gate.is_free g.G.Gate.speaks_for c.take-stripe.new.gate c.take-stripe.new.token s c.leave_and_pause-in-Err.new.self.gate.now c.leave_and_pause-in-Err.new.self.token.now)
    (c.in-Err.ensures.back.1 ∙ c.deref_mut.ensures.value) c.leave_and_pause-in-Err.ensures.left in (
      search rules,
      c.in-Err.ensures.back.0 ∙ c.loop.invariant.1,
      tries_left g.G.Gate.takes g.G.Gate.gives g.G.Gate.finds g.G.Gate.is_free g.G.Gate.speaks_for (HasWaited (g.P.Phase.due c.args.phase) (g.P.Phase.puts_off c.args.phase)) (g.P.Phase.needs c.args.phase) c.args.self.now.agent.now.caller.session _ _ _ _ found c.take-stripe.new.gate c.take-stripe.new.token c.leave_and_pause-in-Err.new.self.gate.now c.leave_and_pause-in-Err.new.self.token.now
          (λ x y after. g.met.P.Phase.stays c.args.phase x y (rw c.requires.fits.who_is after))
          c.loop.invariant.2 c.take-stripe.ensures.takes c.take-stripe.ensures.found.0 c.take-stripe.ensures.found.1 c.take-stripe.ensures.speaks c.requires.ready.speaks left
          record { why = inr (rw (← c.loop.invariant.1, ← c.deref_mut.ensures.value) c.in-Err.ensures.back.2); way = left.way },
      search rules,
    )
