use Rattle.jc_engine.proofs.Common.{rules, ◌≡◌, ◌∙◌, Bool, inl, inr, IsSome, Ok, Some, [], ◌∷◌, length, sym, ap, refl, subst, Caller, Bytes, Get, State, hit_done, Done, ComesAfter, counts_after, BeginsIfClear, HasMissed, Hits, Starts, counted_hit, IsTurn, starting}
use Rattle.std.specs.Bool.{OnFalse}
use Rattle.jc_model.specs.declared.event.Reply.TheVariants.{Value}
use Rattle.jc_engine.specs.Stays.{begins-stays}
use Rattle.jc_engine.specs.Values.{value_into}
use Rattle.jc_engine.proofs.FromPhases.{unasked_call}
use Rattle.jc_engine.proofs.Later.{later_call}
use Rattle.jc_engine.proofs.Rounds.{at_once, done_row}
use Rattle.jc_engine.proofs.Rows.{once}
use Rattle.jc_engine.proofs.access.Access.get_into.Goals as goal

pub returns-then-hit : goal.returns-then-hit
returns-then-hit g c = record {
  same = search rules;
  ready = c.hit.ensures.made.ready;
  call =
      let old = c.args.self.now.agent.now in
      let x = c.hit.ensures.made.phase in
      let value = c.hit.new.value in
      let made : Starts old.caller c.args.key.now Get (Done (hit_done (length x.0.history) value)) x.0 x.1 = subst (λ (b : Bool). Hits old.caller c.args.key.now b value x.0 x.1) c.if-hit.true x.2 in
      let turn : IsTurn (starting old.caller c.args.key.now Get (Done (hit_done (length x.0.history) value))) ((x.0, x.1) ∷ []) = record { waits = []; found = x.0; left = x.1; row_is = refl; waited = tt; made = made } in (
        Ok (Value (Some value)),
        unasked_call _ _ _ _ g.G.Gate.takes g.G.Gate.gives g.G.Gate.finds old c.hit.new.self.agent.now c.args.key.now Get c.args.self.now.gate.now c.args.self.now.token.now ((x.0, x.1) ∷ []) (Ok (Value (Some value))) c.hit.new.self.gate.now c.hit.new.self.token.now
            (once g.G.Gate.takes g.G.Gate.gives g.G.Gate.finds old.caller.session c.args.self.now.gate.now c.args.self.now.token.now x.0 x.1 c.hit.new.self.gate.now c.hit.new.self.token.now x.3)
            (done_row old.caller c.args.key.now Get (Done (hit_done (length x.0.history) value)) (Ok (Value (Some value))) ((x.0, x.1) ∷ []) (at_once old.caller c.args.key.now Get (Done (hit_done (length x.0.history) value)) ((x.0, x.1) ∷ []) turn) (refl, refl, refl))
            (c.hit.ensures.made.agent ∙ ap (λ (b : Bool). record old { counts = counts_after old.counts (counted_hit b) }) c.if-hit.true)
            c.requires.ready.held,
        refl,
        record { found = x.0; left = x.1; others = []; row_is = refl; look = inr (refl, (value, subst (λ (b : Bool). Hits old.caller c.args.key.now b value x.0 x.1) c.if-hit.true x.2)) },
      );
}

pub get_in_phases-requires-clause-may : goal.get_in_phases-requires-clause-may
get_in_phases-requires-clause-may g c =
    let old = c.args.self.now.agent.now in
    let same : c.hit.new.self.agent.now ≡ old = c.hit.ensures.made.agent ∙ ap (λ (b : Bool). record old { counts = counts_after old.counts (counted_hit b) }) c.if-hit.false in
    let x = c.hit.ensures.made.phase in
    let missed : HasMissed old.caller c.args.key.now x.0 x.1 = subst (λ (b : Bool). Hits old.caller c.args.key.now b c.hit.new.value x.0 x.1) c.if-hit.false x.2 in
    let since : (a : State) → g.G.Gate.finds c.hit.new.self.gate.now c.hit.new.self.token.now a → ComesAfter old.caller.session x.0 a = λ a found. subst (λ s. ComesAfter old.caller.session s a) missed.same (x.3.next a found) in
    record {
      reservations = ap (λ z. z.counts.reservations) same ∙ c.requires.may.reservations;
      joins = ap (λ z. z.counts.joins) same ∙ c.requires.may.joins;
      begins = λ a found. subst (λ (w : Caller). BeginsIfClear w c.args.key.now a) (sym (ap (λ z. z.caller) same)) (begins-stays old.caller c.args.key.now x.0 a (since a found) (c.requires.may.begins x.0 x.3.finds_it));
      writes = λ a found through. subst IsSome (sym (ap (λ z. z.hands.outside.writer) same)) (c.requires.may.writes x.0 x.3.finds_it (sym (ap (λ k. k.write_through) (since a found).same.config) ∙ through));
    }

pub returns : goal.returns
returns g c = record {
  same = search rules;
  ready = c.get_in_phases.ensures.ready;
  call =
      let old = c.args.self.now.agent.now in
      let x = c.hit.ensures.made.phase in
      let missed : HasMissed old.caller c.args.key.now x.0 x.1 = subst (λ (b : Bool). Hits old.caller c.args.key.now b c.hit.new.value x.0 x.1) c.if-hit.false x.2 in
      let stays : c.hit.new.value ≡ c.args.value.now = subst (λ (b : Bool). OnFalse b (c.hit.new.value ≡ c.args.value.now)) c.if-hit.false c.hit.ensures.stays in
      let r = c.get_in_phases.ensures.call in (
        r.0,
        later_call _ _ _ _ g.G.Gate.takes g.G.Gate.gives g.G.Gate.finds old c.hit.new.self.agent.now c.get_in_phases.new.self.agent.now c.args.key.now c.args.self.now.gate.now c.args.self.now.token.now x.0 x.1 c.hit.new.self.gate.now c.hit.new.self.token.now
            r.0 c.get_in_phases.new.self.gate.now c.get_in_phases.new.self.token.now
            (c.hit.ensures.made.agent ∙ ap (λ (b : Bool). record old { counts = counts_after old.counts (counted_hit b) }) c.if-hit.false)
            missed x.3 r.1,
        r.2 ∙ ap (λ (room : Bytes). value_into room r.0) stays,
        record { found = x.0; left = x.1; others = _; row_is = refl; look = inl missed },
      );
}
