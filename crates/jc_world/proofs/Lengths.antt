-- How many events a phase appends.
--     begun_length, ended_length     a victim, a step, the steps that share its load, of at most all joiners, and an eviction of its key
--     has_room                       an order that has room for them has it for what a phase puts down
use Rattle.jc_world.proofs.Common.{◌≡◌, ℕ, suc, ◌+◌, ◌-◌, ◌≤◌, Bool, true, false, cond, List, [], ◌∷◌, ◌++◌, map, length, Some, None, filter, Option, is_some, refl, sym, ap, subst, arith, length-append, length-map, Caller, HIT_PLACES, JOINERS_MAX, STEP_PLACES, Bytes, entry_at, Group, nothing_said, victim_events, evicted_events, step_event, shared_event, step_place, events_of, Cause, Op, Out, waits_for, callers_of, Joiner, new_group, Steps, Begins, after_commit, Ends, GivesBack, Invalidates, IsReached, is_reserved, State, Begun, StepDone, Reservation}
use Rattle.jc_world.proofs.Dropping.{marked_is}
use Rattle.jc_stripe.specs.State.{is_marked, with_mark}
use Rattle.jc_stripe.specs.Invalidating.{dropped_event, has_place, without_entry, is_dropped, end_with, drop_or_shut}

-- at most one is evicted before a step
victim_length : (victim : Option Bytes) → length (victim_events victim) ≤ 1
victim_length None = omega arith
victim_length (Some key) = omega arith

-- and at most one after it
evicted_length : (key : Bytes) (cause : Option Cause) → length (evicted_events key cause) ≤ 1
evicted_length key None = omega arith
evicted_length key (Some cause) = omega arith

-- at most as many
filter_length : {A : Type 0} (p : A → Bool) (xs : List A) → length (filter p xs) ≤ length xs
filter_length p [] = omega arith
filter_length p (x ∷ xs) =
    let rest = filter_length p xs in
    elim (p x) as (λ b. length (cond b (x ∷ filter p xs) (filter p xs)) ≤ suc (length xs)) [ true ↦ omega arith | false ↦ omega arith ]

-- a group has its step, two evictions at most, and a step for each that shares its load
group_length : (place : ℕ) (group : Group) → length (events_of place group) ≤ STEP_PLACES + length group.joined
group_length place group =
    let front = victim_events group.victim in
    let shared = map (shared_event (step_place place group) group.step.key group.step.out.load) group.joined in
    let own = evicted_events group.step.key group.evicted in
    let a = length-append (front ++ (step_event group ∷ shared)) own in
    let b = length-append front (step_event group ∷ shared) in
    let v = victim_length group.victim in
    let o = evicted_length group.step.key group.evicted in
    let m = length-map group.joined (shared_event (step_place place group) group.step.key group.step.out.load) in
    omega arith

-- a load has at most as many callers as there are joiners
callers_length : (load : ℕ) (js : List Joiner) → length (callers_of load js) ≤ length js
callers_length load js =
    let m : length (callers_of load js) ≡ length (filter (waits_for load) js) = length-map (filter (waits_for load) js) (λ (j : Joiner). j.caller) in
    let f = filter_length (waits_for load) js in
    omega arith

-- a history grows by at most so many events
pub record IsLongerBy (count : ℕ) (old new : State) : Type 0 where
  pub grows : length old.history ≤ length new.history
  pub within : length new.history ≤ length old.history + count

-- the events of one phase: a step's group, and the eviction of an invalidated key
abbrev pub IsLonger : State → State → Type 0
IsLonger old new = IsLongerBy (STEP_PLACES + JOINERS_MAX + HIT_PLACES) old new

-- a step lengthens the history by its group
steps_length : (old new : State) (caller : Caller) (key : Bytes) (op : Op) (out : Out) (callers : List Caller) (done : StepDone) → Steps old caller key op out callers done new → length callers ≤ JOINERS_MAX → IsLongerBy (STEP_PLACES + JOINERS_MAX) old new
steps_length old new caller key op out callers done steps few =
    let group = new_group old caller key op out callers steps.short in
    let is : length new.history ≡ length (old.history ++ events_of (length old.history) group) = ap (λ (s : State). length s.history) steps.after in
    let a = length-append old.history (events_of (length old.history) group) in
    let g : length (events_of (length old.history) group) ≤ STEP_PLACES + length callers = group_length (length old.history) group in
    record { grows = omega arith; within = omega arith }

-- a history that stays
same_length : (old new : State) → new.history ≡ old.history → IsLonger old new
same_length old new same = let e = ap length same in record { grows = omega arith; within = omega arith }

weaker_length : (old new : State) → IsLongerBy (STEP_PLACES + JOINERS_MAX) old new → IsLonger old new
weaker_length old new h = let g = h.grows in let w = h.within in record { grows = omega arith; within = omega arith }

-- one with an eviction more
end_length : (old ended : State) (marked : Bool) (key : Bytes) → IsLongerBy (STEP_PLACES + JOINERS_MAX) old ended → IsLonger old (end_with marked ended key)
end_length old ended marked key h =
    elim (is_dropped marked ended key) as (λ b. IsLonger old (cond b (without_entry ended key) ended)) [
      | true ↦ let e = length-append ended.history (dropped_event key ∷ []) in let g = h.grows in let w = h.within in record { grows = omega arith; within = omega arith }
      | false ↦ weaker_length old ended h
    ]

-- a first phase
pub begun_length : (old new : State) (caller : Caller) (key : Bytes) (op : Op) (b : Begun) → Begins old caller key op b new → IsLonger old new
begun_length old new caller key op (Begun.Refused refusal) h = same_length old new (ap (λ (s : State). s.history) h.1)
begun_length old new caller key op (Begun.Done done) h = weaker_length old new (steps_length old new caller key op nothing_said [] done h.2 (omega arith))
begun_length old new caller key op (Begun.Joined join) h = same_length old new (ap (λ (s : State). s.history) h.3)
begun_length old new caller key op (Begun.Asks ticket) h = same_length old new (ap (λ (s : State). s.history) h.5)

-- a last phase
pub ended_length : (old new : State) (r : Reservation) (out : Out) (done : StepDone) → IsReached old → Ends old r out done new → IsLonger old new
ended_length old new r out done reached (ended, step, commits, done_is, to_is) =
    let few : length (callers_of r.number old.joiners) ≤ JOINERS_MAX = let c = callers_length r.number old.joiners in let j = reached.few_joiners in omega arith in
    let grown = steps_length (after_commit old r step.place) ended r.caller r.key r.op out (callers_of r.number old.joiners) step commits.1 few in
    let longer : IsLongerBy (STEP_PLACES + JOINERS_MAX) old ended = record { grows = grown.grows; within = grown.within } in
    subst (IsLonger old) (sym to_is) (end_length old ended (is_marked old r.key) r.key longer)

-- a withdrawal
pub withdrawn_length : (old new : State) (r : Reservation) → GivesBack old r new → IsLonger old new
withdrawn_length old new r (ended, withdraws, to_is) =
    let e : length ended.history ≡ length old.history = ap (λ (s : State). length s.history) withdraws.1 in
    let same : IsLongerBy (STEP_PLACES + JOINERS_MAX) old ended = record { grows = omega arith; within = omega arith } in
    subst (IsLonger old) (sym to_is) (end_length old ended (is_marked old r.key) r.key same)

-- an invalidation
pub invalidated_length : (old new : State) (key : Bytes) → Invalidates old key new → IsLonger old new
invalidated_length old new key is =
    let mark = with_mark old key in
    subst (IsLonger old) (sym is)
    (elim (is_reserved old key) as (λ b. IsLonger old (cond b mark (cond (is_some (entry_at old.cache key)) (drop_or_shut old key) old))) [
      | true ↦ same_length old mark (ap (λ (s : State). s.history) (marked_is old key))
      | false ↦ elim (is_some (entry_at old.cache key)) as (λ b. IsLonger old (cond b (drop_or_shut old key) old)) [
        | true ↦ elim (has_place old) as (λ b. IsLonger old (cond b (without_entry old key) (record old { shut = true }))) [
          | true ↦ let e = length-append old.history (dropped_event key ∷ []) in record { grows = omega arith; within = omega arith }
          | false ↦ same_length old (record old { shut = true }) refl
        ]
        | false ↦ same_length old old refl
      ]
    ])

-- an order that has room for them has it for those that a stripe appends
pub has_room : (n capacity before : ℕ) (from to : State) → n + (STEP_PLACES + JOINERS_MAX + HIT_PLACES) ≤ capacity → before ≡ length from.history → IsLonger from to → n + (length to.history - before) ≤ capacity
has_room n capacity before from to room is longer = let g = longer.grows in let w = longer.within in omega arith

-- how long a history was is a place of it afterwards
pub still_place : (before : ℕ) (from to : State) → before ≡ length from.history → IsLonger from to → before ≤ length to.history
still_place before from to is longer = let g = longer.grows in omega arith
