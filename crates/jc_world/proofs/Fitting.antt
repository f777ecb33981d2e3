-- Events that fit: none of them is shown as a fault, and some fit directly after others.
--     fits_then      an event that fits, and what fits wherever it leads
--     one_fits       an event that fits, alone
--     new_under, new_free
--                    a call with a new number isn't under way, and is free of every key
--     looks_begun    the looks of a call, behind its begin
--     unjoined_held  a call that has reserved its key has not joined a load of it
use Rattle.jc_world.proofs.Common.{◌≡◌, ℕ, zero, suc, ◌+◌, ◌<◌, ◌≤◌, true, false, cond, not, ◌||◌, List, [], ◌∷◌, ◌++◌, is_some, is_none, IsSomeAnd, nat_lt, nat_le, Some, None, Option, find, sym, refl, ap, ◌∙◌, subst, inl, inr, arith, lt-ltb, and_parts, and_from, false_from_ne_true, nat_tests, nat_eq_equiv, find-append, get, list_any, option_or, Caller, Bytes, Op, Get, State, JoinClaim, Command, Outcome, Part, Shown, WorldEvent, at_each, SweepState, sweep_of, CallState, new_call, has_number, op_at, is_open, is_going, has_too_many_keys, opened, going_on, has_looked, has_looked_at_each, with_swept_keys, with_look, StartsAs, EndsAs, invalidated_as, eviction_place, EvictionPlace, home, Bool, is_reserved, Picks, Happens, is_fit, AllFit, is_new, is_free, is_to_look, may_look, fits, is_up_to, IsCallOf, IsSoundWorld, looks, WorldState, open_call, part_of, has_progress, is_untouched, is_joined}
use Rattle.jc_world.proofs.Holding.{call_on}
use Rattle.jc_world.proofs.Lemmas.{missing, same_found, found_number, fits_found, of_call-at, begun_cases, found_replaced, join_there, joined_no_part}
use Rattle.jc_world.proofs.Unseen.{missed, unseen, seen_below}

-- 1. What fits is shown as no fault.

-- a phase is no fault
started_fits : (w new : WorldState) (caller : Caller) (key : Bytes) (op : Op) (from to : State) (o : Outcome) → StartsAs w caller key op from to o new → is_fit o ≡ true
started_fits w new caller key op from to Outcome.Unfit h = absurd h
started_fits w new caller key op from to o h = refl

ended_fits : (w new : WorldState) (call : ℕ) (key : Bytes) (part : Part) (from to : State) (o : Outcome) → EndsAs w call key part from to o new → is_fit o ≡ true
ended_fits w new call key part from to Outcome.Unfit h = absurd h
ended_fits w new call key part from to o h = refl

picked_fits : (w new : WorldState) (call : ℕ) (key : Bytes) (join : JoinClaim) (from to : State) (o : Outcome) → Picks w call key join from to o new → is_fit o ≡ true
picked_fits w new call key join from to Outcome.Unfit h = absurd h
picked_fits w new call key join from to o h = refl

invalid_fits : (b : Bool) (place : Option EvictionPlace) → is_fit (cond b Outcome.Marked (Outcome.Invalidated place)) ≡ true
invalid_fits true place = refl
invalid_fits false place = refl

-- what happens is none
fit_shown : (old new : WorldState) (e : WorldEvent) (seen : Shown) → Happens old e seen new → is_fit seen.outcome ≡ true
fit_shown old new (WorldEvent.Call call session command) seen h = ap (λ (s : Shown). is_fit s.outcome) h.0 ∙ begun_cases (new_call call session command) (λ s. is_fit s.outcome ≡ true) refl refl
fit_shown old new (WorldEvent.Look call stripe) seen h = ap (λ (s : Shown). is_fit s.outcome) h.8
fit_shown old new (WorldEvent.Start call key) seen h = started_fits old new h.0.caller key h.1 h.4 h.6 seen.outcome h.7
fit_shown old new (WorldEvent.Change call key) seen h = ap (λ (s : Shown). is_fit s.outcome) h.4
fit_shown old new (WorldEvent.Commit call key) seen h = ended_fits old new call key h.0 h.2 h.4 seen.outcome h.5
fit_shown old new (WorldEvent.Withdraw call key) seen h = ap (λ (s : Shown). is_fit s.outcome) h.6
fit_shown old new (WorldEvent.Leave call) seen h = ap (λ (s : Shown). is_fit s.outcome) h.0
fit_shown old new (WorldEvent.PickUp call key) seen h = picked_fits old new call key h.0 h.2 h.4 seen.outcome h.5
fit_shown old new (WorldEvent.Invalidate key) seen h = ap (λ (s : Shown). is_fit s.outcome) h.4 ∙ invalid_fits (is_reserved h.0 key) (eviction_place (home old key) h.0 h.2)
fit_shown old new (WorldEvent.Reopen config) seen h = ap (λ (s : Shown). is_fit s.outcome) h.0
fit_shown old new (WorldEvent.Foreign key value) seen h = ap (λ (s : Shown). is_fit s.outcome) h.0
fit_shown old new e seen h = ap (λ (s : Shown). is_fit s.outcome) h.2

-- there is nothing that doesn't fit
pub none_fit : (w : WorldState) → AllFit w []
none_fit w [] new run = refl
none_fit w (s ∷ ss) new run = absurd run

-- an event that fits, and others that fit wherever it leads
pub fits_then : (w : WorldState) (e : WorldEvent) (es : List WorldEvent) → fits w e ≡ true → ((seen : Shown) (mid : WorldState) → Happens w e seen mid → AllFit mid es) → AllFit w (e ∷ es)
fits_then w e es fit more [] new run = absurd run
fits_then w e es fit more (s ∷ ss) new (next, inl (fit_now, happens), run) = and_from _ _ (fit_shown w next e s happens) (more s next happens ss new run)
fits_then w e es fit more (s ∷ ss) new (mid, inr (unfit, shows, is), run) = let t : true ≡ false = sym fit ∙ unfit in cc

-- an event that fits, alone
pub one_fits : (w : WorldState) (e : WorldEvent) → fits w e ≡ true → AllFit w (e ∷ [])
one_fits w e fit = fits_then w e [] fit (λ seen mid happens. none_fit mid)

-- 2. A call that has just begun.

-- a number isn't both above the last and up to it
above : (last : Option ℕ) (call : ℕ) → is_new last call ≡ true → is_up_to last call ≡ true → ⊥
above None call new up = cc
above (Some last) call new up = go last call new up
  where
    go : (last call : ℕ) → nat_lt last call ≡ true → nat_le call last ≡ true → ⊥
    go last call new up = grind (arith, nat_tests)

-- no call under way has a new number
pub new_under : (w : WorldState) (call : ℕ) → is_new w.last call ≡ true → IsSoundWorld w → open_call w call ≡ None
new_under w call new old = missing (open_call w call) (λ u here.
    above w.last call new (ap (is_up_to w.last) (sym (found_number call w.calls u here)) ∙ (fits_found w (has_number call) w.calls u here old.calls).number))

-- and what is of a call under way isn't of one that isn't
nobody : (w : WorldState) (call other : ℕ) (P : CallState → Type 0) → open_call w call ≡ None → other ≡ call → IsSomeAnd (open_call w other) P → ⊥
nobody w call other P none same h = let Q : Option CallState → Type 0 = λ o. IsSomeAnd o P in subst Q (ap (open_call w) same ∙ none) h

-- nor has a new number a part or a join
pub new_free : (w : WorldState) (call : ℕ) (key : Bytes) → is_new w.last call ≡ true → IsSoundWorld w → is_free w call key ≡ true
new_free w call key new old =
    let none = new_under w call new old in
    and_from _ _
    (ap is_none (missing (part_of w call key) (λ part is.
    let at = of_call-at call (get w.parts key) part is in
    nobody w call part.reservation.caller.call (λ u. op_at u key ≡ Some part.reservation.op) none at.1 (call_on w key part at.0 old))))
    (ap not (false_from_ne_true (is_joined w call key) (λ joined.
    let j = join_there w call key joined old.joins in
    nobody w call j.0.caller.call (IsCallOf j.0.caller.session j.0.key Get) none j.2 j.4.call)))

-- 3. A call that takes the keys that are cached.

look_now : (w : WorldState) (call stripe : ℕ) (u : CallState) (s : SweepState) → open_call w call ≡ Some u → u.sweep ≡ Some s → stripe < w.config.stripes → has_looked s.looked stripe ≡ false → fits w (WorldEvent.Look call stripe) ≡ true
look_now w call stripe u s here sweeps within fresh =
    ap (may_look w.config.stripes stripe) here ∙ and_from _ _ (lt-ltb stripe w.config.stripes within) (ap (is_to_look stripe) sweeps ∙ ap not fresh)

-- behind a look at a stripe that isn't the last
looked_next : (w : WorldState) (call stripe : ℕ) (keys : List Bytes) (s : SweepState) (u : CallState) → open_call w call ≡ Some u → has_looked_at_each (s.looked ++ stripe ∷ []) w.config.stripes ≡ false
    → (v : CallState) × (open_call (with_look w call stripe keys s) call ≡ Some v) × (v.sweep ≡ Some (record s { looked = s.looked ++ stripe ∷ [] }))
looked_next w call stripe keys s u here more =
    let next : Option SweepState → CallState = λ o. record u { tasks = u.tasks ++ at_each s.op keys; sweep = o } in
    let v : CallState = next (Some (record s { looked = s.looked ++ stripe ∷ [] })) in
    (v, found_replaced call (λ x. going_on (with_swept_keys w.config.stripes stripe keys s x)) u v w.calls here (ap (λ b. going_on (next (cond b None (Some (record s { looked = s.looked ++ stripe ∷ [] }))))) more) refl, refl)

-- what a look leaves
look_leaves : (w mid : WorldState) (call stripe : ℕ) (u : CallState) (s : SweepState) (seen : Shown) → open_call w call ≡ Some u → u.sweep ≡ Some s → (h : Happens w (WorldEvent.Look call stripe) seen mid) → mid ≡ with_look w call stripe h.6 s
look_leaves w mid call stripe u s seen here sweeps h =
    let same_u : h.0 ≡ u = same_found (open_call w call) h.0 u h.2 here in
    let same_s : h.1 ≡ s = same_found u.sweep h.1 s (ap (λ (x : CallState). x.sweep) (sym same_u) ∙ h.3) sweeps in
    h.9 ∙ ap (with_look w call stripe h.6) same_s

looks_fit : (call count from : ℕ) (w : WorldState) (u : CallState) (s : SweepState) → open_call w call ≡ Some u → u.sweep ≡ Some s → ((i : ℕ) → has_looked s.looked i ≡ true → i < from) → from + count ≤ w.config.stripes → AllFit w (looks call from count)
looks_fit call zero from w u s here sweeps below few = none_fit w
looks_fit call (suc zero) from w u s here sweeps below few =
    one_fits w (WorldEvent.Look call from) (look_now w call from u s here sweeps (omega (arith, few)) (unseen s.looked from below))
looks_fit call (suc (suc count)) from w u s here sweeps below few =
    let next = seen_below s.looked from below in
    let more = missed (s.looked ++ from ∷ []) (from + 1) w.config.stripes (unseen (s.looked ++ from ∷ []) (from + 1) next) (omega (arith, few)) in
    let rest : (from + 1) + suc count ≤ w.config.stripes = omega (arith, few) in
    fits_then w (WorldEvent.Look call from) (looks call (from + 1) (suc count)) (look_now w call from u s here sweeps (omega (arith, few)) (unseen s.looked from below)) (λ seen mid h.
    let v = looked_next w call from h.6 s u here more in
    subst (λ m. AllFit m (looks call (from + 1) (suc count))) (sym (look_leaves w mid call from u s seen here sweeps h))
    (looks_fit call (suc count) (from + 1) (with_look w call from h.6 s) v.0 (record s { looked = s.looked ++ from ∷ [] }) v.1 v.2 next rest))

-- a call that looks at the stripes names no key, and has looked at none
sweeping : (call session : ℕ) (c : Command) (s : SweepState) → sweep_of c ≡ Some s → (has_too_many_keys (new_call call session c) ≡ false) × (s.looked ≡ [])
sweeping call session Command.RemoveEvery s is = (refl, cc)
sweeping call session Command.Clear s is = (refl, cc)
sweeping call session c s is = cc

pub looks_begun : (w : WorldState) → IsSoundWorld w → (call session : ℕ) (c : Command) (s : SweepState) → fits w (WorldEvent.Call call session c) ≡ true → sweep_of c ≡ Some s → AllFit w (WorldEvent.Call call session c ∷ looks call 0 w.config.stripes)
looks_begun w old call session c s fit sweeps =
    let u : CallState = new_call call session c in
    let new : is_new w.last call ≡ true = (and_parts _ _ (and_parts _ _ fit).0).1 in
    let facts = sweeping call session c s sweeps in
    let opens : opened u ≡ u ∷ [] =
    ap (λ b. cond b [] (cond (is_going u) (u ∷ []) [])) facts.0 ∙ ap (λ o. cond (is_some o || list_any is_open u.tasks) (u ∷ []) []) sweeps
    in
    let here : find (has_number call) (w.calls ++ opened u) ≡ Some u =
    ap (λ more. find (has_number call) (w.calls ++ more)) opens
    ∙ find-append (has_number call) w.calls (u ∷ []) ∙ ap (λ o. option_or o (find (has_number call) (u ∷ []))) (new_under w call new old) ∙ ap (λ b. cond b (Some u) None) (nat_eq_equiv.refl call)
    in
    let next : WorldState = record w { last = Some call; calls = w.calls ++ opened u; is_fresh = false } in
    fits_then w (WorldEvent.Call call session c) (looks call 0 w.config.stripes) fit (λ seen mid happens.
    subst (λ m. AllFit m (looks call 0 w.config.stripes)) (sym happens.1)
    (looks_fit call w.config.stripes 0 next u s here sweeps (none_seen s.looked facts.1) (all_left w.config.stripes)))
  where
    none_seen : (looked : List ℕ) → looked ≡ [] → (i : ℕ) → has_looked looked i ≡ true → i < 0
    none_seen looked e i h = let t : false ≡ true = sym (ap (λ ls. has_looked ls i) e) ∙ h in cc

    all_left : (n : ℕ) → 0 + n ≤ n
    all_left n = omega arith

-- 4. A call that has reserved a key.

-- a call that has reserved its key has not joined a load of it
pub unjoined_held : (w : WorldState) (call : ℕ) (key : Bytes) → has_progress is_untouched (part_of w call key) ≡ true → IsSoundWorld w → is_joined w call key ≡ false
unjoined_held w call key held old = false_from_ne_true (is_joined w call key) (λ joined.
    let no : true ≡ false = sym held ∙ ap (has_progress is_untouched) (joined_no_part w call key joined old.joins) in cc)
