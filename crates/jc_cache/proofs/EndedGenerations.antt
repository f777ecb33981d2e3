-- Generations that a session ends.
--     end_of           what a stripe says of it
--     turn_of          a generation was ended, or the stripe is as it was
--     ended_seen       the seat has seen what it had seen
--     ended_may        the session may call as before
use Rattle.jc_cache.proofs.Common.{◌≡◌, ℕ, inl, inr, ⊎_elim, List, [], ◌∷◌, set, slice_get, Option, Some, None, Result, Ok, Err, IfOk, IfErr, ◌++◌, refl, sym, ap, subst, ◌∙◌, arith, same_Some, Event, State, Renewal, Renews, StaysOrRenews, EndsGeneration, Finds, after_give, after_take, own_steps_of, View, present_generation, prefix-trans, same_on, CacheState, HasSeen, IsEndOf, KeepRow, MayCall, Session}
use mathlib.Core.List.{IsPrefix}
use mathlib.Core.Logic.{dite}
use native.Mathlib.Decide.{ℕ_discrete}
use Rattle.jc_cache.proofs.Lendings.{seen_itself}
use Rattle.jc_cache.proofs.Meetings.{got_set, got_other, row_set, may_stay, refreshed_seen}
use Rattle.jc_cache.proofs.Rows.{Seated}

pub turn_of : {A : Type 0} (answer : Result (Option ℕ) A) (old new : List Event) (found left : State) → IsEndOf answer old new found left → StaysOrRenews found left
turn_of (Ok None) old new found left end = inl end.2.2
turn_of (Ok (Some number)) old new found left end = inr end.2.0
turn_of (Err failed) old new found left end = inl end.1

pub end_of : {A : Type 0} (answer : Result (Option ℕ) A) (old new : List Event) (found left : State)
    → IfOk answer (λ ended. (events : List Event) × (new ≡ old ++ events) × EndsGeneration found ended events left) → IfErr answer (λ failed. (new ≡ old) × (left ≡ found))
    → IsEndOf answer old new found left
end_of (Ok ended) old new found left ok err = ok
end_of (Err failed) old new found left ok err = err

renewed_seen : (v : View) (found left : State) → (session : ℕ) × (v.session ≡ Some session) → Renewal → Finds v found → Renews found left → HasSeen v (after_give (after_take v found) left)
renewed_seen v found left session law finds renews =
    let r = law found left finds.reached renews in
    record {
      seat = record { session = refl; next_session = refl; spent = refl; free = refl; same = same_on v.noted found left finds.same r.same; next = (let low = finds.next in let e = r.next in omega arith); ended = prefix-trans v.noted.ended found.ended left.ended finds.ended (subst (λ (s : State). IsPrefix found.ended s.ended) (sym renews.after) (present_generation found ∷ [], refl)) };
      front = subst (IsPrefix v.front) (sym r.whole) finds.front;
      own = ap (λ o. own_steps_of o left) session.1 ∙ r.own session.0 ∙ finds.own session.0 session.1;
    }

pub ended_seen : (v : View) (found left : State) → (session : ℕ) × (v.session ≡ Some session) → Renewal → Finds v found → StaysOrRenews found left → HasSeen v (after_give (after_take v found) left)
ended_seen v found left session law finds turn = ⊎_elim
    (λ same. subst (λ (s : State). HasSeen v (after_give (after_take v found) s)) (sym same) (refreshed_seen v (after_give (after_take v found) found) found session finds refl))
    (λ renews. renewed_seen v found left session law finds renews)
    turn

pub ended_may : {I J : Type 0} {D : I → Type 0} {E : J → Type 0} → (cache : CacheState) (old new : Session I J D E) (at : ℕ) (t u : Seated) → MayCall cache old → new.agent ≡ old.agent
    → slice_get old.seats.items at ≡ Some t → new.seats.items ≡ set old.seats.items at u → u.0 ≡ t.0 → HasSeen t.1 u.1 → MayCall cache new
ended_may cache old new at t u may agent was now lock seen =
    may_stay cache old new may agent (subst (KeepRow old.seats.items) (sym now) (row_set old.seats.items old.seats.items at t u (record { locks = refl; total = refl }) was lock seen))
    (λ i b there.
    let here : slice_get (set old.seats.items at u) i ≡ Some b = ap (λ xs. slice_get xs i) (sym now) ∙ there in
    dite (ℕ_discrete i at)
    (λ e. (
      t,
      ap (slice_get old.seats.items) e ∙ was,
      subst (λ (z : Seated). HasSeen t.1 z.1) (same_Some u b (sym (got_set old.seats.items at t u was) ∙ ap (slice_get (set old.seats.items at u)) (sym e) ∙ here)) seen,
    ))
    (λ ne.
    let old_there : slice_get old.seats.items i ≡ Some b = sym (got_other old.seats.items at i u ne) ∙ here in
    (b, old_there, seen_itself b.1 (may.own.seats i b old_there).free)))
