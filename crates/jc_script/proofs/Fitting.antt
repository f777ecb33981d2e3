-- The events of a line about a call under way fit, if it is the time for it.
use Rattle.jc_script.proofs.Common.{Outcome, EvictionPlace, is_reserved, eviction_place, home, ◌≡◌, ◌==◌, ◌∙◌, ◌&&◌, ◌||◌, ◌++◌, ◌+◌, ◌<◌, ℕ, Bool, true, false, not, List, [], ◌∷◌, Option, None, Some, find, is_none, is_some, length, filter, get_or, map, option_to_list, take, cond, refl, sym, ap, subst, append-nil, arith, zero, suc, inl, inr, pointwise, and_from, and_parts, or_parts, nat_list_eq_equiv, map-append, take_more, filter-append, is_among, Bytes, is_load_given, Part, CallState, op_at, open_keys, WorldState, is_joined, open_call, part_of, fits, is_being_written, is_free, may_change, may_report, may_start, AllFit, is_fit, Shown, Config, key_at, looks, FitTogether, ScriptAct, Read, ReadFail, Say, Apply, ApplyFail, ApplyLie, End, Drop, More, Take, Process, said_after, event_at, events_of_act, is_meant, is_started, is_time, key_events, keys_of_act, leaves, left_keys}
use Rattle.std.specs.List.{AllByRecursion, IsDistinct, list_all, list_any}
use Rattle.std.proofs.lemmas.Map.Keys.{apart_from_distinct, IsDistinct-cons, IsDistinct-head, IsDistinct-tail}
use Rattle.jc_model.specs.declared.event.LoadAnswer.{LoadAnswer}
use Rattle.jc_model.specs.declared.event.LoadAnswer.TheVariants.{Found, Nothing}
use Rattle.jc_world.specs.declared.event.WorldEvent.TheVariants as event
use Rattle.jc_world.proofs.CallerLemmas.{own_call}

-- ---- a call under way

-- a test that what is kept passes, passed by what comes of it
all_of_kept : {X Y : Type 0} (p : X → Bool) (f : X → Y) (q : Y → Bool) → ((x : X) → p x ≡ true → q (f x) ≡ true) → (xs : List X) → list_all q (map f (filter p xs)) ≡ true
all_of_kept p f q h [] = refl
all_of_kept p f q h (x ∷ xs) =
    elim (p x) as (λ b. p x ≡ b → list_all q (map f (cond b (x ∷ filter p xs) (filter p xs))) ≡ true) [
      | true ↦ λ e. and_from _ _ (h x e) (all_of_kept p f q h xs)
      | false ↦ λ e. all_of_kept p f q h xs
    ] refl

-- keys that differ differ among those that are kept
kept_differ : (p : Bytes → Bool) (keys : List Bytes) → IsDistinct (pointwise ◌==◌) keys → IsDistinct (pointwise ◌==◌) (filter p keys)
kept_differ p [] d = d
kept_differ p (key ∷ keys) d =
    let rest = kept_differ p keys (IsDistinct-tail (pointwise ◌==◌) key keys d) in
    elim (p key) as (λ b. IsDistinct (pointwise ◌==◌) (cond b (key ∷ filter p keys) (filter p keys))) [
      | true ↦ IsDistinct-cons (pointwise ◌==◌) key (filter p keys) (kept keys (IsDistinct-head (pointwise ◌==◌) key keys d)) rest
      | false ↦ rest
    ]
  where
    kept : (ks : List Bytes) → AllByRecursion (λ y. pointwise ◌==◌ key y ≡ false) ks → AllByRecursion (λ y. pointwise ◌==◌ key y ≡ false) (filter p ks)
    kept [] all = all
    kept (k ∷ ks) all =
        elim (p k) as (λ b. AllByRecursion (λ y. pointwise ◌==◌ key y ≡ false) (cond b (k ∷ filter p ks) (filter p ks))) [
          | true ↦ (all.0, kept ks all.1)
          | false ↦ kept ks all.1
        ]

-- what a loader says by pairs is an answer
said_given : (pairs : List (Bytes × Bytes)) (key : Bytes) (answer : LoadAnswer) → is_load_given answer ≡ true → is_load_given (said_after answer pairs key) ≡ true
said_given [] key answer given = given
said_given (pair ∷ pairs) key answer given =
    said_given pairs key (cond (pointwise ◌==◌ pair.0 key) (Found pair.1) answer)
    (elim (pointwise ◌==◌ pair.0 key) as (λ b. is_load_given (cond b (Found pair.1) answer) ≡ true) [ true ↦ refl | false ↦ given ])

-- an act whose events are at the call's keys, and no changes of the store
abbrev IsQuiet : ℕ → ScriptAct → Type 0
IsQuiet call act = (key : Bytes) → key_at call (event_at call act key) ≡ Some key

-- the events at the keys of such an act
keys_fit : (w : WorldState) → FitTogether w → (call : ℕ) (act : ScriptAct) → IsQuiet call act → (keys : List Bytes) → IsDistinct (pointwise ◌==◌) keys → list_all (fits w) (key_events w call act keys) ≡ true
    → AllFit w (key_events w call act keys)
keys_fit w together call act quiet keys differ fit = together.events call (event_at call act) (filter (is_meant w call act) keys) quiet (kept_differ (is_meant w call act) keys differ) fit

-- and nothing after them
alone_fit : (w : WorldState) → FitTogether w → (call : ℕ) (act : ScriptAct) → IsQuiet call act → (keys : List Bytes) → IsDistinct (pointwise ◌==◌) keys → list_all (fits w) (key_events w call act keys) ≡ true
    → AllFit w (key_events w call act keys ++ [])
alone_fit w together call act quiet keys differ fit = subst (AllFit w) (sym (append-nil (key_events w call act keys))) (keys_fit w together call act quiet keys differ fit)

-- the writer may return if it is asked for an open key
report_fits : (w : WorldState) (call : ℕ) (u : CallState) (left : List Bytes) (fault : Option ℕ) → open_call w call ≡ Some u → list_any (is_being_written w call) (open_keys u) ≡ true → fits w (event.Report call left fault) ≡ true
report_fits w call u left fault here asked = ap (may_report w call) here ∙ (λ i. list_any (λ key. may_change w call key (sym here i)) (open_keys u)) ∙ asked

-- the writer's changes, and its return
writer_fit : (w : WorldState) → FitTogether w → (call : ℕ) (p : Bytes → Bool) (u : CallState) (keys left : List Bytes) (fault : Option ℕ) → ((key : Bytes) → p key ≡ true → fits w (event.Change call key) ≡ true) → open_call w call ≡ Some u
    → keys ≡ open_keys u → IsDistinct (pointwise ◌==◌) keys → list_any (is_being_written w call) keys ≡ true → AllFit w (map (event.Change call) (filter p keys) ++ event.Report call left fault ∷ [])
writer_fit w together call p u keys left fault waits here is differ asked =
    together.report call (filter p keys) left fault (kept_differ p keys differ)
    (all_of_kept p (event.Change call) (fits w) waits keys)
    (report_fits w call u left fault here (ap (list_any (is_being_written w call)) (sym is) ∙ asked))

-- a weaker test
all_from_more : (q : Bytes → Bool) (r : Bytes → Bool) (keys : List Bytes) → ((key : Bytes) → q key ≡ true → r key ≡ true) → list_all q keys ≡ true → list_all r keys ≡ true
all_from_more q r [] h all = refl
all_from_more q r (key ∷ keys) h all = let parts = and_parts (q key) (list_all q keys) all in and_from _ _ (h key parts.0) (all_from_more q r keys h parts.1)

-- of a call without a join each open key is reserved, or free
reserved_or_free : (w : WorldState) (call : ℕ) (keys : List Bytes) → list_any (is_joined w call) keys ≡ false → list_all (λ key. is_among (filter (is_started w call) keys) key || is_free w call key) keys ≡ true
reserved_or_free w call [] free = refl
reserved_or_free w call (key ∷ keys) free =
    let alone = or_parts (is_joined w call key) (list_any (is_joined w call) keys) free in
    let rest = reserved_or_free w call keys alone.1 in
    elim (is_started w call key) as (λ b. is_started w call key ≡ b → list_all (λ k. is_among (cond b (key ∷ filter (is_started w call) keys) (filter (is_started w call) keys)) k || is_free w call k) (key ∷ keys) ≡ true) [
      | true ↦ λ e. and_from _ _ (ap (λ b. (b || is_among (filter (is_started w call) keys) key) || is_free w call key) (nat_list_eq_equiv.refl key))
          (all_from_more (λ k. is_among (filter (is_started w call) keys) k || is_free w call k) _ keys (λ k h. more k (is_free w call k) h) rest)
      | false ↦ λ e. and_from _ _ (or_true (is_among (filter (is_started w call) keys) key) (is_free w call key) (and_from _ _ (none (part_of w call key) e) (ap not alone.0))) rest
    ] refl
  where
    or_true : (a b : Bool) → b ≡ true → (a || b) ≡ true
    or_true true b e = refl
    or_true false b e = e

    none : (o : Option Part) → is_some o ≡ false → is_none o ≡ true
    none None e = refl
    none (Some part) e = cc

    more : (k : Bytes) (b : Bool) → (is_among (filter (is_started w call) keys) k || b) ≡ true → ((pointwise ◌==◌ k key || is_among (filter (is_started w call) keys) k) || b) ≡ true
    more k b h = go (pointwise ◌==◌ k key)
      where
        go : (c : Bool) → ((c || is_among (filter (is_started w call) keys) k) || b) ≡ true
        go true = refl
        go false = h

-- the events at one key more
pub key_events-more : (w : WorldState) (call : ℕ) (act : ScriptAct) (keys : List Bytes) (i : ℕ) (key : Bytes) → i < length keys → key ≡ get_or keys i key
    → key_events w call act (take (i + 1) keys) ≡ key_events w call act (take i keys) ++ key_events w call act (key ∷ [])
key_events-more w call act keys i key lt is =
    ap (key_events w call act) (take_more keys i key lt ∙ ap (λ k. take i keys ++ k ∷ []) (sym is))
    ∙ ap (map (event_at call act)) (filter-append (is_meant w call act) (take i keys) (key ∷ []))
    ∙ map-append (event_at call act) (filter (is_meant w call act) (take i keys)) (filter (is_meant w call act) (key ∷ []))

-- a key differs from those before it
not_before : (keys : List Bytes) (i : ℕ) (key : Bytes) → IsDistinct (pointwise ◌==◌) keys → i < length keys → key ≡ get_or keys i key → is_among (take i keys) key ≡ false
not_before [] zero key differ lt is = refl
not_before [] (suc i) key differ lt is = refl
not_before (k ∷ keys) zero key differ lt is = refl
not_before (k ∷ keys) (suc i) key differ lt is =
    let apart : pointwise ◌==◌ k (get_or keys i key) ≡ false = apart_from_distinct (pointwise ◌==◌) (k ∷ keys) 0 (suc i) key differ (omega (arith)) lt in
    ap (λ b. b || is_among (take i keys) key) (nat_list_eq_equiv.symm key k ∙ ap (pointwise ◌==◌ k) is ∙ apart)
    ∙ not_before keys i key (IsDistinct-tail (pointwise ◌==◌) k keys differ) (omega (arith, lt)) is

pub left_before : (p : Bytes → Bool) (keys : List Bytes) (i : ℕ) (key : Bytes) → IsDistinct (pointwise ◌==◌) keys → i < length keys → key ≡ get_or keys i key → is_among (filter p (take i keys)) key ≡ false
left_before p keys i key differ lt is = kept (take i keys) (not_before keys i key differ lt is)
  where
    kept : (ks : List Bytes) → is_among ks key ≡ false → is_among (filter p ks) key ≡ false
    kept [] h = h
    kept (k ∷ ks) h =
        let parts = or_parts (pointwise ◌==◌ key k) (is_among ks key) h in
        elim (p k) as (λ b. is_among (cond b (k ∷ filter p ks) (filter p ks)) key ≡ false) [
          | true ↦ ap (λ b. b || is_among (filter p ks) key) parts.0 ∙ kept ks parts.1
          | false ↦ kept ks parts.1
        ]

-- the keys that are kept, with one key more
pub left_more : (p : Bytes → Bool) (keys : List Bytes) (i : ℕ) (key : Bytes) → i < length keys → key ≡ get_or keys i key → filter p (take (i + 1) keys) ≡ filter p (take i keys) ++ filter p (key ∷ [])
left_more p keys i key lt is = ap (filter p) (take_more keys i key lt ∙ ap (λ k. take i keys ++ k ∷ []) (sym is)) ∙ filter-append p (take i keys) (key ∷ [])

-- one look more
pub looks-more : (call from count : ℕ) → looks call from (suc count) ≡ looks call from count ++ event.Look call (from + count) ∷ []
looks-more call from zero = let same : from ≡ from + 0 = omega (arith) in ap (λ n. event.Look call n ∷ []) same
looks-more call from (suc count) =
    let same : (from + 1) + count ≡ from + suc count = omega (arith) in
    ap (λ events. event.Look call from ∷ events) (looks-more call (from + 1) count ∙ ap (λ n. looks call (from + 1) count ++ event.Look call n ∷ []) same)

-- the first phases of a call that has just begun fit, at each of its keys
pub starts_fit : (w : WorldState) → FitTogether w → (call : ℕ) (u : CallState) → open_call w call ≡ Some u → ((key : Bytes) → is_free w call key ≡ true) → IsDistinct (pointwise ◌==◌) (open_keys u)
    → list_all (λ key. is_some (op_at u key)) (open_keys u) ≡ true → AllFit w (key_events w call More (open_keys u))
starts_fit w together call u here free differ opens =
    keys_fit w together call More (own_call call) (open_keys u) differ (all_kept (open_keys u) opens)
  where
    all_kept : (keys : List Bytes) → list_all (λ key. is_some (op_at u key)) keys ≡ true → list_all (fits w) (key_events w call More keys) ≡ true
    all_kept [] h = refl
    all_kept (key ∷ keys) h =
        let parts = and_parts (is_some (op_at u key)) (list_all (λ k. is_some (op_at u k)) keys) h in
        and_from _ _ (ap (may_start w call key) here ∙ and_from _ _ parts.0 (free key)) (all_kept keys parts.1)

-- one key, or none, differs from no other
pub one_differs : (o : Option Bytes) → IsDistinct (pointwise ◌==◌) (option_to_list o)
unfolding IsDistinct
one_differs None = tt
one_differs (Some key) = (tt, tt)

pub first_differs : (p : Bytes → Bool) (keys : List Bytes) → IsDistinct (pointwise ◌==◌) (option_to_list (find p keys))
first_differs p keys = one_differs (find p keys)

-- the events of an act fit if it is the time for it
pub act_fits : (w : WorldState) → FitTogether w → (call : ℕ) (act : ScriptAct) (u : CallState) (keys : List Bytes) → open_call w call ≡ Some u → keys ≡ keys_of_act w call act u → IsDistinct (pointwise ◌==◌) keys
    → is_time w call act keys (key_events w call act keys) ≡ true → AllFit w (events_of_act w call act keys)
act_fits w together call Read u keys here is differ time = alone_fit w together call Read (own_call call) keys differ (all_of_kept _ (event_at call Read) (fits w) (λ key h. h) keys)
act_fits w together call (ReadFail code) u keys here is differ time = alone_fit w together call (ReadFail code) (own_call call) keys differ (all_of_kept _ (event_at call (ReadFail code)) (fits w) (λ key h. h) keys)
act_fits w together call (Say pairs) u keys here is differ time = alone_fit w together call (Say pairs) (own_call call) keys differ (all_of_kept _ (event_at call (Say pairs)) (fits w) (λ key h. and_from _ _ (said_given pairs key Nothing refl) h) keys)
act_fits w together call (Apply left) u keys here is differ time =
    writer_fit w together call (is_meant w call (Apply left)) u keys (left_keys w call (Apply left) keys) None (λ key h. (and_parts (is_being_written w call key) (not (leaves (Apply left) key)) h).0) here is differ time
act_fits w together call (ApplyFail code left) u keys here is differ time =
    writer_fit w together call (is_meant w call (ApplyFail code left)) u keys (left_keys w call (ApplyFail code left) keys) (Some code) (λ key h. (and_parts (is_being_written w call key) (not (leaves (ApplyFail code left) key)) h).0) here is differ time
act_fits w together call (ApplyLie code) u keys here is differ time = writer_fit w together call (is_meant w call (ApplyLie code)) u keys (left_keys w call (ApplyLie code) keys) (Some code) (λ key h. h) here is differ time
act_fits w together call End u keys here is differ time = alone_fit w together call End (own_call call) keys differ (and_parts _ _ time).1
act_fits w together call Drop u keys here is differ time =
    let parts = and_parts (list_all (fits w) (key_events w call Drop keys)) (not (list_any (is_joined w call) keys)) time in
    together.leave call u (filter (is_started w call) keys) here (kept_differ (is_started w call) keys differ)
    parts.0
    (ap (list_all (λ key. is_among (filter (is_started w call) keys) key || is_free w call key)) (sym is) ∙ reserved_or_free w call keys (unset (list_any (is_joined w call) keys) parts.1))
  where
    unset : (b : Bool) → not b ≡ true → b ≡ false
    unset true e = cc
    unset false e = refl
act_fits w together call More u keys here is differ time = alone_fit w together call More (own_call call) keys differ (and_parts _ _ time).1
act_fits w together call Take u keys here is differ time = alone_fit w together call Take (own_call call) keys differ (all_of_kept _ (event_at call Take) (fits w) (λ key h. h) keys)
act_fits w together call (Process source calls fail) u keys here is differ time = alone_fit w together call (Process source calls fail) (own_call call) keys differ (all_of_kept _ (event_at call (Process source calls fail)) (fits w) (λ key h. h) keys)

-- ---- an invalidation

invalid_shown : (b : Bool) (place : Option EvictionPlace) → (is_fit (cond b Outcome.Marked (Outcome.Invalidated place)) && true) ≡ true
invalid_shown true place = refl
invalid_shown false place = refl

pub invalid_fits : (w : WorldState) (key : Bytes) → fits w (event.Invalidate key) ≡ true → AllFit w (event.Invalidate key ∷ [])
invalid_fits w key fit [] new run = absurd run
invalid_fits w key fit (s ∷ []) new (at, inl (fit_now, happens), run) = ap (λ (s : Shown). is_fit s.outcome && true) happens.4 ∙ invalid_shown (is_reserved happens.0 key) (eviction_place (home w key) happens.0 happens.2)
invalid_fits w key fit (s ∷ []) new (at, inr (unfit, shows, is), run) = let t : true ≡ false = sym fit ∙ unfit in cc
invalid_fits w key fit (s ∷ t ∷ more) new (at, step, run) = absurd run

-- ---- a reopening

pub reopening_fits : (w : WorldState) (config : Config) → fits w (event.Reopen config) ≡ true → AllFit w (event.Reopen config ∷ [])
reopening_fits w config fit [] new run = absurd run
reopening_fits w config fit (s ∷ []) new (at, inl (fit_now, happens), run) = ap (λ (s : Shown). is_fit s.outcome && true) happens.0
reopening_fits w config fit (s ∷ []) new (at, inr (unfit, shows, is), run) = let t : true ≡ false = sym fit ∙ unfit in cc
reopening_fits w config fit (s ∷ t ∷ more) new (at, step, run) = absurd run
