-- A call that was left alone asks outside once, if at all.
--     seats_grow      from one round's end to a later one's every front grows
--     are_keys        the keys that rounds ask for are keys of the call
--     few_asked       so they are no more than the call has
--     at_most_once    with no more keys than all stripes may have reserved, the second round that asks would ask for a key that the first
--                     one has put off
use Rattle.jc_rounds.proofs.Common.{◌≡◌, ◌==◌, ◌||◌, ◌⊎◌, ⊎_elim, inl, inr, ◌≤◌, ◌<◌, ◌+◌, ◌*◌, ◌++◌, ℕ, List, [], ◌∷◌, All, length, length-append, map, true, Option, refl, sym, ap, ◌∙◌, subst, arith, nat_list_eq_equiv, flat_map-append, list_any-append, All-head, All-tail, AllByRecursion, IsAmong, keys_of, pointwise, same_text, stripe_of, Caller, Config, RESERVATIONS_MAX, is_among, Bytes, Op, AsksEachOnce, AsksFor, changes_of, Get, HasJoined, IsHeldBack, first_asked, asks_loader, asks_processor, change_asked, IsShown, KeyRun, LoadAll, ProcessAll, Round, WriteAll, asked_in, keys_asked, HasGrown, view_at, view_of, AsksAtMostOnce, EachStartsAll, HasStartedAll, IsFull, IsLeftAlone, RoundEnd, rounds_asked, seats_after}
use Rattle.std.proofs.lemmas.Map.Made.{length-le_from_is_member}
use Rattle.jc_model.specs.declared.event.Change.{Change}
use Rattle.jc_rounds.proofs.Asked.{or_other, place_among}
use Rattle.jc_rounds.proofs.SoFar.{among_at}
use Rattle.jc_rounds.proofs.Underway.{as_many}
use Rattle.jc_rounds.proofs.Held.{held_later, held_since}
use Rattle.jc_rounds.proofs.SeatPhases.{Seated, grown_itself, grown_on}

-- 1. Fronts.

pub seats_grow : (caller : Caller) (stripes : ℕ) (targets : List (Bytes × Op)) (old : List Seated) (es : List RoundEnd) → EachStartsAll caller stripes targets old es → (i : ℕ) → HasGrown (view_at old i) (view_at (seats_after old es) i)
seats_grow caller stripes targets old [] each i = grown_itself (view_at old i)
seats_grow caller stripes targets old (e ∷ es) each i =
    grown_on (view_at old i) (view_at e.seats i) (view_at (seats_after e.seats es) i) (each.0.grown i) (seats_grow caller stripes targets e.seats es each.1 i)

-- 2. Keys.

among_mapped : {X : Type 0} (f : X → Bytes) (P : X → Type 0) (xs : List X) (key : Bytes) → All P xs → is_among (map f xs) key ≡ true → (x : X) × P x × (key ≡ f x)
among_mapped f P [] key all is = cc
among_mapped {X} f P (x ∷ xs) key all is = ⊎_elim (λ here. (x, All-head P x xs all, same_text key (f x) (sym here))) (λ there. among_mapped f P xs key (All-tail P x xs all) there) (or_other (pointwise ◌==◌ key (f x)) (is_among (map f xs) key) is)

all_itself : (keys : List Bytes) → map (λ (key : Bytes). key) keys ≡ keys
all_itself [] = refl
all_itself (k ∷ keys) = ap (λ ks. k ∷ ks) (all_itself keys)

is_key : (targets : List (Bytes × Op)) (key : Bytes) (op : Op) → IsAmong targets (key, op) → is_among (keys_of targets) key ≡ true
is_key targets key op among = let at = place_among targets (key, op) among in among_at targets at.0 key op at.2

all_after : {X : Type 0} (P : X → Type 0) (xs ys : List X) → All P (xs ++ ys) → All P ys
all_after P [] ys all = all
all_after P (x ∷ xs) ys all = all_after P xs ys (All-tail P x (xs ++ ys) all)

module _ (config : Config) (targets : List (Bytes × Op)) where
  -- what AsksFor says of each key of a round
  abbrev LoadsFor : Bytes → Type 0
  LoadsFor key = (op : Op) × (entry : Option Bytes) × IsAmong targets (key, op) × (asks_loader (first_asked config op entry) ≡ true)

  abbrev WritesFor : Bytes × Option Change → Type 0
  WritesFor c = (op : Op) × (entry : Option Bytes) × IsAmong targets (c.0, op) × (c.1 ≡ change_asked (first_asked config op entry))

  abbrev RunsFor : KeyRun → Type 0
  RunsFor run = (op : Op) × (entry : Option Bytes) × IsAmong targets (run.key, op) × (asks_processor (first_asked config op entry) ≡ true) × IsShown (first_asked config op entry) run

  one_key : (round : Round) (key : Bytes) → AsksFor config targets round → is_among (keys_asked round) key ≡ true → (op : Op) × IsAmong targets (key, op)
  one_key (LoadAll r) key for is =
      let x : (k : Bytes) × LoadsFor k × (key ≡ k) = among_mapped (λ (k : Bytes). k) LoadsFor r.keys key for (ap (λ ks. is_among ks key) (all_itself r.keys) ∙ is) in
      (x.1.0, subst (λ k. IsAmong targets (k, x.1.0)) (sym x.2) x.1.2)
  one_key (WriteAll r) key for is =
      let x : (c : Bytes × Option Change) × WritesFor c × (key ≡ c.0) = among_mapped (λ (c : Bytes × Option Change). c.0) WritesFor (changes_of r.batch) key for is in
      (x.1.0, subst (λ k. IsAmong targets (k, x.1.0)) (sym x.2) x.1.2)
  one_key (ProcessAll r) key for is =
      let x : (run : KeyRun) × RunsFor run × (key ≡ run.key) = among_mapped (λ (run : KeyRun). run.key) RunsFor r.runs key for is in
      (x.1.0, subst (λ k. IsAmong targets (k, x.1.0)) (sym x.2) x.1.2)

  pub are_keys : (rounds : List Round) (key : Bytes) → All (AsksFor config targets) rounds → is_among (asked_in rounds) key ≡ true → (op : Op) × IsAmong targets (key, op)
  are_keys [] key each is = cc
  are_keys (r ∷ rounds) key each is =
      ⊎_elim (λ here. one_key r key (All-head (AsksFor config targets) r rounds each) here) (λ there. are_keys rounds key (All-tail (AsksFor config targets) r rounds each) there)
      (or_other (is_among (keys_asked r) key) (is_among (asked_in rounds) key) (sym (list_any-append (pointwise ◌==◌ key) (keys_asked r) (asked_in rounds)) ∙ is))

  pub few_asked : (rounds : List Round) → AsksEachOnce config targets rounds → length (asked_in rounds) ≤ length targets
  few_asked rounds asks =
      subst (λ n. length (asked_in rounds) ≤ n) (as_many (λ (t : Bytes × Op). t.0) targets)
      (length-le_from_is_member nat_list_eq_equiv (asked_in rounds) (keys_of targets) asks.once (λ key is. let at = are_keys rounds key asks.each is in is_key targets key at.0 at.1))

-- 3. The call.

-- a round that asks has a key
some_key : (round : Round) (rounds : List Round) → (keys_asked round ≡ [] → ⊥) → (key : Bytes) × (is_among (asked_in (round ∷ rounds)) key ≡ true)
some_key round rounds some = by (keys_asked round) refl
  where
    by : (keys : List Bytes) → keys_asked round ≡ keys → (key : Bytes) × (is_among (asked_in (round ∷ rounds)) key ≡ true)
    by [] is = absurd (some is)
    by (k ∷ keys) is = (k, ap (λ ks. is_among (ks ++ asked_in rounds) k) is ∙ (λ i. nat_list_eq_equiv.refl k i || is_among (keys ++ asked_in rounds) k))

module _ (caller : Caller) (stripes : ℕ) (targets : List (Bytes × Op)) (config : Config) where
  -- after a round that has asked, no round asks
  none_later : (old new : List Seated) (e : RoundEnd) (es : List RoundEnd) → seats_after e.seats es ≡ new → EachStartsAll caller stripes targets old (e ∷ es) → All (AsksFor config targets) (rounds_asked es) → All (λ (r : Round). keys_asked r ≡ [] → ⊥) (rounds_asked es)
      → length (asked_in e.calls) ≤ RESERVATIONS_MAX * stripes → IsLeftAlone caller stripes targets old new → length (rounds_asked es) ≤ 0
  none_later old new e es last each asks some few alone = by (rounds_asked es) refl asks some
    where
      held_on : (key : Bytes) (op : Op) → IsAmong targets (key, op) → IsHeldBack caller (view_of stripes old key) (view_of stripes e.seats key) key op → ⊥
      held_on key op among back =
          alone key op among
          (held_later caller (view_of stripes old key) (view_of stripes e.seats key) (view_of stripes new key) key op
          (subst (λ (seats : List Seated). HasGrown (view_of stripes e.seats key) (view_of stripes seats key)) last (seats_grow caller stripes targets e.seats es each.1 (stripe_of key stripes))) back)

      none_joins : (keys : List Bytes) → 0 < length keys → AllByRecursion (λ (key : Bytes). IsAmong targets (key, Get) × HasJoined caller (view_of stripes old key) (view_of stripes e.seats key) key Get) keys → ⊥
      none_joins [] many all = omega (arith, many)
      none_joins (k ∷ keys) many all = held_on k Get all.0.0 (inr all.0.1)

      never : (key : Bytes) (op : Op) → IsAmong targets (key, op) → IsFull caller stripes targets old e.seats (length (asked_in e.calls)) ⊎ IsHeldBack caller (view_of stripes old key) (view_of stripes e.seats key) key op → ⊥
      never key op among (inl (inl full)) = omega (arith, full, few)
      never key op among (inl (inr full)) = none_joins full.joined (let many = full.many in omega (arith, many)) full.each
      never key op among (inr back) = held_on key op among back

      by : (rounds : List Round) → rounds_asked es ≡ rounds → All (AsksFor config targets) rounds → All (λ (r : Round). keys_asked r ≡ [] → ⊥) rounds → length rounds ≤ 0
      by [] is asks some = omega arith
      by (r ∷ rounds) is asks some =
          let key = some_key r rounds (All-head (λ (x : Round). keys_asked x ≡ [] → ⊥) r rounds some) in
          let at = are_keys config targets (r ∷ rounds) key.0 asks key.1 in
          absurd (never key.0 at.0 at.1 (each.0.put_off key.0 at.0 at.1 (ap (λ rs. is_among (asked_in rs) key.0) is ∙ key.1)))

  once_from : (old new : List Seated) (es : List RoundEnd) → seats_after old es ≡ new → EachStartsAll caller stripes targets old es → All (AsksFor config targets) (rounds_asked es) → All (λ (r : Round). keys_asked r ≡ [] → ⊥) (rounds_asked es)
      → length (asked_in (rounds_asked es)) ≤ RESERVATIONS_MAX * stripes → IsLeftAlone caller stripes targets old new → length (rounds_asked es) ≤ 1
  once_from old new [] last each asks some few alone = omega arith
  once_from old new (e ∷ es) last each asks some few alone =
      by e.calls refl
      (once_from e.seats new es last each.1 asks_later some_later (omega (arith, keys, few))
      (λ key op among back. alone key op among (held_since caller (view_of stripes old key) (view_of stripes e.seats key) (view_of stripes new key) key op (each.0.grown (stripe_of key stripes)) back)))
    where
      keys : length (asked_in (rounds_asked (e ∷ es))) ≡ length (asked_in e.calls) + length (asked_in (rounds_asked es))
      keys = ap length (flat_map-append keys_asked e.calls (rounds_asked es)) ∙ length-append (asked_in e.calls) (asked_in (rounds_asked es))

      asks_later : All (AsksFor config targets) (rounds_asked es)
      asks_later = all_after (AsksFor config targets) e.calls (rounds_asked es) asks

      some_later : All (λ (r : Round). keys_asked r ≡ [] → ⊥) (rounds_asked es)
      some_later = all_after (λ (r : Round). keys_asked r ≡ [] → ⊥) e.calls (rounds_asked es) some

      by : (calls : List Round) → e.calls ≡ calls → length (rounds_asked es) ≤ 1 → length (e.calls ++ rounds_asked es) ≤ 1
      by [] is later = subst (λ rs. length (rs ++ rounds_asked es) ≤ 1) (sym is) later
      by (r ∷ rs) is later =
          let none = none_later old new e es last each asks_later some_later (omega (arith, keys, few)) alone in
          let n = length-append e.calls (rounds_asked es) in
          let one = each.0.few in
          omega (arith, none, n, one)

  pub at_most_once : (old new : List Seated) (rounds : List Round) → AsksEachOnce config targets rounds → HasStartedAll caller stripes targets old new rounds → AsksAtMostOnce caller stripes targets old new rounds
  at_most_once old new rounds asks started all alone =
      let few : length (asked_in rounds) ≤ RESERVATIONS_MAX * stripes = (let n = few_asked config targets rounds asks in omega (arith, n, all)) in
      let here : AsksEachOnce config targets (rounds_asked started.ends) = subst (AsksEachOnce config targets) (sym started.calls_are) asks in
      subst (λ rs. length rs ≤ 1) started.calls_are
      (once_from old new started.ends started.seats_are started.each here.each here.some (subst (λ rs. length (asked_in rs) ≤ RESERVATIONS_MAX * stripes) (sym started.calls_are) few) alone)
