use Rattle.jc_explore.proofs.Common.{◌≡◌, ◌∙◌, List, ap, sym, subst, All, All-push, Any-push, all_pairs_push, Move, Finding, IsFound, IsWholeSchedule, AreWitnessed, AreDistinct, FinalValue, final_of, PlaysSchedule, opening, scene_state, AreNew}
use Rattle.jc_explore.proofs.Finals.{final-unique}
use Rattle.jc_explore.proofs.Searching.{grows-refl}
use Rattle.jc_explore.proofs.Shortest.{adds-none, adds-one}
use Rattle.jc_explore.proofs.search.note_end.Goals as goal

pub returns-then-is_found : goal.returns-then-is_found
returns-then-is_found c =
    record {
      witnessed = c.requires.witnessed;
      distinct = c.requires.distinct;
      kept = grows-refl c.args.found.now.items;
      fresh = adds-none (λ (x : Finding). (x.witness.items ≡ c.args.schedule.now) × (IsFound (final_of x.state) c.args.found.now.items → ⊥)) c.args.found.now.items;
      there = λ f final.
          subst (λ (v : FinalValue). IsFound v c.args.found.now.items) (final-unique (scene_state c.args.scene.now) (final_of c.in_ok-state.state) f c.in_ok-state.ensures final)
          (subst (λ (xs : List Finding). IsFound (final_of c.in_ok-state.state) xs) c.deref.ensures.value (c.is_found.ensures.there c.if-is_found.true));
    }

pub returns : goal.returns
returns c =
    let p = c.args.program.now in
    let s = scene_state c.args.scene.now in
    let found = c.args.found.now.items in
    let state = c.in_ok-state.state in
    let one : Finding = record { state = state; witness = c.in_ok-witness.witness } in
    let none = subst (λ (xs : List Finding). All (λ (x : Finding). final_of x.state ≡ final_of state → ⊥) xs) c.deref.ensures.value (c.is_found.ensures.none c.if-is_found.false) in
    let whole : IsWholeSchedule p c.in_ok-witness.witness.items (final_of state) =
    record {
      last = s;
      plays = subst (λ (ms : List Move). PlaysSchedule p (opening p) ms s) (sym c.in_ok-witness.ensures.items) c.requires.plays;
      ends = c.requires.ends;
      final = c.in_ok-state.ensures;
    } in
    record {
      witnessed = subst (AreWitnessed p) (sym c.in_ok-push.ensures.items)
          (All-push (λ (x : Finding). IsWholeSchedule p x.witness.items (final_of x.state)) found one c.requires.witnessed whole);
      distinct = subst AreDistinct (sym c.in_ok-push.ensures.items)
          (all_pairs_push (λ (x y : Finding). final_of x.state ≡ final_of y.state → ⊥) found one c.requires.distinct none);
      kept = (_, c.in_ok-push.ensures.items);
      fresh = subst (λ (xs : List Finding). AreNew c.args.schedule.now found xs) (sym c.in_ok-push.ensures.items)
          (adds-one (λ (x : Finding). (x.witness.items ≡ c.args.schedule.now) × (IsFound (final_of x.state) c.args.found.now.items → ⊥)) found one
          (c.in_ok-witness.ensures.items, λ h. none h.0 h.1 h.2 (ap (λ (x : Finding). final_of x.state) h.3 ∙ h.4)));
      there = λ f final.
          subst (λ (xs : List Finding). IsFound f xs) (sym c.in_ok-push.ensures.items)
          (Any-push (λ (x : Finding). final_of x.state ≡ f) found one (final-unique s (final_of state) f c.in_ok-state.ensures final));
    }
