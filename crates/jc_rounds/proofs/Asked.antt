-- Which keys a call has asked for.
--     distinct_more                     keys that differ from one another and from earlier ones
--     all_out                           each of what is out is of a key that is so far
--     new_key                           a key that isn't reserved isn't among those that are
--     distinct_reserved                 the keys that are reserved differ
--     none_asked                        no key was asked for
--     unasked_at                        a key that is held back was not asked for
--     asked_set                         the key at a place goes on
--     asked_more, asked_on              one round more, for the keys that are reserved
--     types_on                          the loader and the writer stay of their types
use Rattle.jc_rounds.proofs.Common.{◌≡◌, ◌==◌, ◌||◌, ◌⊎◌, ⊎_elim, inl, inr, ◌<◌, ◌++◌, ℕ, zero, suc, List, [], ◌∷◌, append-nil, length, map, cond, set, slice_get, Bool, true, false, true≢false, MatchBool, Some, refl, sym, ap, ◌∙◌, subst, arith, nat_list_eq_equiv, flat_map-append, All-append, All-cons, All-nil, list_any-append, IsDistinct-cons, IsDistinct-head, IsDistinct-tail, same_Some, All, AllByRecursion, IsAmong, IsDistinct, filter, keys_of, pointwise, Caller, Config, is_among, Bytes, Op, Reservation, none_twice, JoinClaim, Agent, CacheState, Session, KeyProgress, Ended, IsTicketFor, Waiting, Reserved, Joined, AsksFor, HasAskedSoFar, IsInOrder, reserved_keys, holds_reservation, is_held_back, Round, asked_in, keys_asked, AreIn, IsSoFar, IsUnderway, IsOf}
use Rattle.jc_engine.specs.Asking.{KeepsTypes}
use Rattle.jc_rounds.proofs.SeatPhases.{Seated}
use Rattle.jc_rounds.proofs.SoFar.{or_parts}
use Rattle.jc_outside.proofs.CallerLemmas.{at_place}
use Rattle.jc_rounds.proofs.Out.{is_no}
use Rattle.jc_rounds.proofs.SoFar.{key_at, more_rounds}

-- 1. Lists.

pub all_map : {X : Type 0} (P Q : X → Type 0) (xs : List X) → ((x : X) → P x → Q x) → AllByRecursion P xs → AllByRecursion Q xs
all_map P Q [] f all = tt
all_map P Q (x ∷ xs) f all = (f x all.0, all_map P Q xs f all.1)

pub among_there : {X : Type 0} (xs : List X) (place : ℕ) (v : X) → slice_get xs place ≡ Some v → IsAmong xs v
among_there [] place v at = cc
among_there (x ∷ xs) zero v at = (zero, (omega arith, sym (same_Some x v at)))
among_there (x ∷ xs) (suc place) v at = let rest = among_there xs place v at in (suc rest.0, (let near = rest.1.0 in omega arith, rest.1.1))

pub place_among : {X : Type 0} (xs : List X) (v : X) → IsAmong xs v → (place : ℕ) × (place < length xs) × (slice_get xs place ≡ Some v)
place_among [] v is = absurd (let near = is.1.0 in omega arith)
place_among (x ∷ xs) v (zero, (lt, is)) = (zero, omega arith, ap Some (sym is))
place_among (x ∷ xs) v (suc i, (lt, is)) = let rest = place_among xs v (i, (omega (arith, lt), is)) in (suc rest.0, (let near = rest.1 in omega arith), rest.2)

pub all_mapped : {X Y : Type 0} (f : X → Y) (P : Y → Type 0) (xs : List X) → AllByRecursion (λ x. P (f x)) xs → All P (map f xs)
all_mapped f P [] all = All-nil P
all_mapped f P (x ∷ xs) all = All-cons P (f x) (map f xs) all.0 (all_mapped f P xs all.1)

pub some_there : (ts : List (Bytes × Op)) (ps : List KeyProgress) (place : ℕ) (t : Bytes × Op) → length ps ≡ length ts → slice_get ts place ≡ Some t → (p : KeyProgress) × (slice_get ps place ≡ Some p)
some_there [] ps place t many at = cc
some_there (u ∷ ts) [] place t many at = absurd (omega arith)
some_there (u ∷ ts) (p ∷ ps) zero t many at = (p, refl)
some_there (u ∷ ts) (p ∷ ps) (suc place) t many at = some_there ts ps place t (omega arith) at

pub by_cases : (b : Bool) → (b ≡ true) ⊎ (b ≡ false)
by_cases true = inl refl
by_cases false = inr refl

no_keys : (calls : List Reservation) → reserved_keys calls ≡ [] → calls ≡ []
no_keys [] is = refl
no_keys (r ∷ rs) is = cc

pub mapped_by : {X Y : Type 0} (f : X → Y) (P : Y → Type 0) (xs : List X) → AllByRecursion (λ x. P (f x)) xs → AllByRecursion P (map f xs)
mapped_by f P [] all = tt
mapped_by f P (x ∷ xs) all = (all.0, mapped_by f P xs all.1)

pub or_other : (a b : Bool) → (a || b) ≡ true → (a ≡ true) ⊎ (b ≡ true)
or_other true b is = inl refl
or_other false b is = inr is

-- 2. Keys that differ.

apart_more : (x : Bytes) (xs ys : List Bytes) → AllByRecursion (λ y. pointwise ◌==◌ x y ≡ false) xs → AllByRecursion (λ y. pointwise ◌==◌ x y ≡ false) ys → AllByRecursion (λ y. pointwise ◌==◌ x y ≡ false) (xs ++ ys)
apart_more x [] ys one two = two
apart_more x (y ∷ xs) ys one two = (one.0, apart_more x xs ys one.1 two)

pub distinct_more : (xs ys : List Bytes) → IsDistinct (pointwise ◌==◌) xs → IsDistinct (pointwise ◌==◌) ys → AllByRecursion (λ y. is_among xs y ≡ false) ys → IsDistinct (pointwise ◌==◌) (xs ++ ys)
distinct_more [] ys one two new = two
distinct_more (x ∷ xs) ys one two new =
    IsDistinct-cons (pointwise ◌==◌) x (xs ++ ys)
    (apart_more x xs ys (IsDistinct-head (pointwise ◌==◌) x xs one)
    (all_map (λ y. is_among (x ∷ xs) y ≡ false) (λ y. pointwise ◌==◌ x y ≡ false) ys (λ y isnt. nat_list_eq_equiv.symm x y ∙ (or_parts (pointwise ◌==◌ y x) (is_among xs y) isnt).0) new))
    (distinct_more xs ys (IsDistinct-tail (pointwise ◌==◌) x xs one) two
    (all_map (λ y. is_among (x ∷ xs) y ≡ false) (λ y. is_among xs y ≡ false) ys (λ y isnt. (or_parts (pointwise ◌==◌ y x) (is_among xs y) isnt).1) new))

apart_all : (key : Bytes) (keys : List Bytes) → is_among keys key ≡ false → AllByRecursion (λ y. pointwise ◌==◌ key y ≡ false) keys
apart_all key [] none = tt
apart_all key (y ∷ ys) none = let parts = or_parts (pointwise ◌==◌ key y) (is_among ys key) none in (parts.0, apart_all key ys parts.1)

-- 3. The keys that are reserved.

pub none_of : (caller : Caller) (config : Config) (key : Bytes) (ts : List (Bytes × Op)) (ps : List KeyProgress) (xs : List Reservation) → AllByRecursion (λ k. pointwise ◌==◌ key k ≡ false) (keys_of ts) → AreIn holds_reservation (IsTicketFor caller config) ts ps xs
    → is_among (reserved_keys xs) key ≡ false
none_of caller config key [] ps xs apart are = ap (λ ys. is_among (reserved_keys ys) key) are
none_of caller config key (t ∷ ts) [] xs apart are = ap (λ ys. is_among (reserved_keys ys) key) are
none_of caller config key (t ∷ ts) (p ∷ ps) [] apart are = refl
none_of caller config key (t ∷ ts) (p ∷ ps) (x ∷ xs) apart are = by (holds_reservation p) are (λ rest. none_of caller config key ts ps xs apart.1 rest) (λ rest. none_of caller config key ts ps (x ∷ xs) apart.1 rest)
  where
    by : (b : Bool) → MatchBool b (IsTicketFor caller config t.0 t.1 x × AreIn holds_reservation (IsTicketFor caller config) ts ps xs) (AreIn holds_reservation (IsTicketFor caller config) ts ps (x ∷ xs))
        → (AreIn holds_reservation (IsTicketFor caller config) ts ps xs → is_among (reserved_keys xs) key ≡ false) → (AreIn holds_reservation (IsTicketFor caller config) ts ps (x ∷ xs) → is_among (reserved_keys (x ∷ xs)) key ≡ false)
        → is_among (reserved_keys (x ∷ xs)) key ≡ false
    by true here f h = (λ i. (ap (pointwise ◌==◌ key) here.0.key_is ∙ apart.0) i || f here.1 i)
    by false later f h = h later

pub new_key : (caller : Caller) (config : Config) (ts : List (Bytes × Op)) (ps : List KeyProgress) (xs : List Reservation) (place : ℕ) (key : Bytes) (op : Op) (q : KeyProgress) → IsDistinct (pointwise ◌==◌) (keys_of ts) → slice_get ts place ≡ Some (key, op) → slice_get ps place ≡ Some q → holds_reservation q ≡ false
    → AreIn holds_reservation (IsTicketFor caller config) ts ps xs → is_among (reserved_keys xs) key ≡ false
new_key caller config [] ps xs place key op q d at there isnt are = cc
new_key caller config (t ∷ ts) [] xs place key op q d at there isnt are = cc
new_key caller config (t ∷ ts) (p ∷ ps) [] place key op q d at there isnt are = refl
new_key caller config (t ∷ ts) (p ∷ ps) (x ∷ xs) zero key op q d at there isnt are =
    let later = is_no (holds_reservation p) _ _ (ap holds_reservation (same_Some p q there) ∙ isnt) are in
    let apart = IsDistinct-head (pointwise ◌==◌) t.0 (keys_of ts) d in
    subst (λ k. is_among (reserved_keys (x ∷ xs)) k ≡ false) (ap (λ (u : Bytes × Op). u.0) (same_Some t (key, op) at)) (none_of caller config t.0 ts ps (x ∷ xs) apart later)
new_key caller config (t ∷ ts) (p ∷ ps) (x ∷ xs) (suc place) key op q d at there isnt are =
    by (holds_reservation p) are (λ rest. new_key caller config ts ps xs place key op q (IsDistinct-tail (pointwise ◌==◌) t.0 (keys_of ts) d) at there isnt rest)
    (λ rest. new_key caller config ts ps (x ∷ xs) place key op q (IsDistinct-tail (pointwise ◌==◌) t.0 (keys_of ts) d) at there isnt rest)
  where
    apart : pointwise ◌==◌ t.0 key ≡ false
    apart = at_place (λ k. pointwise ◌==◌ t.0 k ≡ false) (keys_of ts) place key (IsDistinct-head (pointwise ◌==◌) t.0 (keys_of ts) d) (key_at ts place key op at)

    by : (b : Bool) → MatchBool b (IsTicketFor caller config t.0 t.1 x × AreIn holds_reservation (IsTicketFor caller config) ts ps xs) (AreIn holds_reservation (IsTicketFor caller config) ts ps (x ∷ xs))
        → (AreIn holds_reservation (IsTicketFor caller config) ts ps xs → is_among (reserved_keys xs) key ≡ false) → (AreIn holds_reservation (IsTicketFor caller config) ts ps (x ∷ xs) → is_among (reserved_keys (x ∷ xs)) key ≡ false)
        → is_among (reserved_keys (x ∷ xs)) key ≡ false
    by true here f h = (λ i. (ap (pointwise ◌==◌ key) here.0.key_is ∙ nat_list_eq_equiv.symm key t.0 ∙ apart) i || f here.1 i)
    by false later f h = h later

pub distinct_reserved : (caller : Caller) (config : Config) (ts : List (Bytes × Op)) (ps : List KeyProgress) (xs : List Reservation) → IsDistinct (pointwise ◌==◌) (keys_of ts) → AreIn holds_reservation (IsTicketFor caller config) ts ps xs
    → IsDistinct (pointwise ◌==◌) (reserved_keys xs)
distinct_reserved caller config [] ps xs d are = subst (λ ys. IsDistinct (pointwise ◌==◌) (reserved_keys ys)) (sym are) none_twice
distinct_reserved caller config (t ∷ ts) [] xs d are = subst (λ ys. IsDistinct (pointwise ◌==◌) (reserved_keys ys)) (sym are) none_twice
distinct_reserved caller config (t ∷ ts) (p ∷ ps) [] d are = none_twice
distinct_reserved caller config (t ∷ ts) (p ∷ ps) (x ∷ xs) d are =
    by (holds_reservation p) are (λ rest. distinct_reserved caller config ts ps xs (IsDistinct-tail (pointwise ◌==◌) t.0 (keys_of ts) d) rest)
    (λ rest. distinct_reserved caller config ts ps (x ∷ xs) (IsDistinct-tail (pointwise ◌==◌) t.0 (keys_of ts) d) rest)
  where
    by : (b : Bool) → MatchBool b (IsTicketFor caller config t.0 t.1 x × AreIn holds_reservation (IsTicketFor caller config) ts ps xs) (AreIn holds_reservation (IsTicketFor caller config) ts ps (x ∷ xs))
        → (AreIn holds_reservation (IsTicketFor caller config) ts ps xs → IsDistinct (pointwise ◌==◌) (reserved_keys xs)) → (AreIn holds_reservation (IsTicketFor caller config) ts ps (x ∷ xs) → IsDistinct (pointwise ◌==◌) (reserved_keys (x ∷ xs)))
        → IsDistinct (pointwise ◌==◌) (reserved_keys (x ∷ xs))
    by true here f h =
        IsDistinct-cons (pointwise ◌==◌) x.key (reserved_keys xs)
        (apart_all x.key (reserved_keys xs) (ap (is_among (reserved_keys xs)) here.0.key_is ∙ none_of caller config t.0 ts ps xs (IsDistinct-head (pointwise ◌==◌) t.0 (keys_of ts) d) here.1))
        (f here.1)
    by false later f h = h later

abbrev pub IsOutAt : {X : Type 0} → (KeyProgress → Bool) → (Bytes → Op → X → Type 0) → List (Bytes × Op) → List KeyProgress → X → Type 0
IsOutAt has fits ts ps x = (place : ℕ) × (key : Bytes) × (op : Op) × (p : KeyProgress) × (slice_get ts place ≡ Some (key, op)) × (slice_get ps place ≡ Some p) × (has p ≡ true) × fits key op x

pub all_out : {X : Type 0} (has : KeyProgress → Bool) (fits : Bytes → Op → X → Type 0) (ts : List (Bytes × Op)) (ps : List KeyProgress) (xs : List X) → AreIn has fits ts ps xs → AllByRecursion (IsOutAt has fits ts ps) xs
all_out has fits [] ps xs are = subst (AllByRecursion (IsOutAt has fits [] ps)) (sym are) tt
all_out has fits (t ∷ ts) [] xs are = subst (AllByRecursion (IsOutAt has fits (t ∷ ts) [])) (sym are) tt
all_out has fits (t ∷ ts) (p ∷ ps) [] are = tt
all_out {X} has fits (t ∷ ts) (p ∷ ps) (x ∷ xs) are = by (has p) refl are (λ rest. all_out has fits ts ps xs rest) (λ rest. all_out has fits ts ps (x ∷ xs) rest)
  where
    later : (y : X) → IsOutAt has fits ts ps y → IsOutAt has fits (t ∷ ts) (p ∷ ps) y
    later y out = (suc out.0, out.1, out.2, out.3, out.4, out.5, out.6, out.7)

    by : (b : Bool) → has p ≡ b → MatchBool b (fits t.0 t.1 x × AreIn has fits ts ps xs) (AreIn has fits ts ps (x ∷ xs))
        → (AreIn has fits ts ps xs → AllByRecursion (IsOutAt has fits ts ps) xs) → (AreIn has fits ts ps (x ∷ xs) → AllByRecursion (IsOutAt has fits ts ps) (x ∷ xs))
        → AllByRecursion (IsOutAt has fits (t ∷ ts) (p ∷ ps)) (x ∷ xs)
    by true is here f h = ((zero, t.0, t.1, p, refl, refl, is, here.0), all_map (IsOutAt has fits ts ps) (IsOutAt has fits (t ∷ ts) (p ∷ ps)) xs later (f here.1))
    by false is rest f h = all_map (IsOutAt has fits ts ps) (IsOutAt has fits (t ∷ ts) (p ∷ ps)) (x ∷ xs) later (h rest)

-- the keys that are reserved, in the order of the call's
skip_key : (key : Bytes) (ks ts : List Bytes) → AllByRecursion (λ k. pointwise ◌==◌ key k ≡ false) ts → filter (is_among (key ∷ ks)) ts ≡ filter (is_among ks) ts
skip_key key ks [] apart = refl
skip_key key ks (t ∷ ts) apart = λ i. cond (same i) (t ∷ skip_key key ks ts apart.1 i) (skip_key key ks ts apart.1 i)
  where
    same : is_among (key ∷ ks) t ≡ is_among ks t
    same = λ i. (nat_list_eq_equiv.symm t key ∙ apart.0) i || is_among ks t

none_in_order : (ts : List Bytes) → [] ≡ filter (is_among []) ts
none_in_order [] = refl
none_in_order (t ∷ ts) = none_in_order ts

pub in_order : (caller : Caller) (config : Config) (ts : List (Bytes × Op)) (ps : List KeyProgress) (xs : List Reservation) → IsDistinct (pointwise ◌==◌) (keys_of ts) → AreIn holds_reservation (IsTicketFor caller config) ts ps xs
    → reserved_keys xs ≡ filter (is_among (reserved_keys xs)) (keys_of ts)
in_order caller config [] ps xs d are = ap reserved_keys are
in_order caller config (t ∷ ts) [] xs d are = subst (λ ys. reserved_keys ys ≡ filter (is_among (reserved_keys ys)) (keys_of (t ∷ ts))) (sym are) (none_in_order (keys_of (t ∷ ts)))
in_order caller config (t ∷ ts) (p ∷ ps) [] d are = none_in_order (keys_of (t ∷ ts))
in_order caller config (t ∷ ts) (p ∷ ps) (x ∷ xs) d are =
    by (holds_reservation p) are (λ rest. in_order caller config ts ps xs (IsDistinct-tail (pointwise ◌==◌) t.0 (keys_of ts) d) rest)
    (λ rest. in_order caller config ts ps (x ∷ xs) (IsDistinct-tail (pointwise ◌==◌) t.0 (keys_of ts) d) rest)
  where
    apart : AllByRecursion (λ k. pointwise ◌==◌ t.0 k ≡ false) (keys_of ts)
    apart = IsDistinct-head (pointwise ◌==◌) t.0 (keys_of ts) d

    here_first : (ks : List Bytes) → ks ≡ filter (is_among ks) (keys_of ts) → t.0 ∷ ks ≡ filter (is_among (t.0 ∷ ks)) (keys_of (t ∷ ts))
    here_first ks is =
        ap (λ zs. t.0 ∷ zs) (is ∙ sym (skip_key t.0 ks (keys_of ts) apart))
        ∙ sym (λ i. cond (nat_list_eq_equiv.refl t.0 i || is_among ks t.0) (t.0 ∷ filter (is_among (t.0 ∷ ks)) (keys_of ts)) (filter (is_among (t.0 ∷ ks)) (keys_of ts)))

    by : (b : Bool) → MatchBool b (IsTicketFor caller config t.0 t.1 x × AreIn holds_reservation (IsTicketFor caller config) ts ps xs) (AreIn holds_reservation (IsTicketFor caller config) ts ps (x ∷ xs))
        → (AreIn holds_reservation (IsTicketFor caller config) ts ps xs → reserved_keys xs ≡ filter (is_among (reserved_keys xs)) (keys_of ts))
        → (AreIn holds_reservation (IsTicketFor caller config) ts ps (x ∷ xs) → reserved_keys (x ∷ xs) ≡ filter (is_among (reserved_keys (x ∷ xs))) (keys_of ts))
        → reserved_keys (x ∷ xs) ≡ filter (is_among (reserved_keys (x ∷ xs))) (keys_of (t ∷ ts))
    by true here f h = subst (λ k. k ∷ reserved_keys xs ≡ filter (is_among (k ∷ reserved_keys xs)) (keys_of (t ∷ ts))) (sym here.0.key_is) (here_first (reserved_keys xs) (f here.1))
    by false later f h =
        h later
        ∙ sym (λ i. cond (none_of caller config t.0 ts ps (x ∷ xs) apart later i) (t.0 ∷ filter (is_among (reserved_keys (x ∷ xs))) (keys_of ts)) (filter (is_among (reserved_keys (x ∷ xs))) (keys_of ts)))

-- 4. What was asked for.

pub none_asked : (config : Config) (targets : List (Bytes × Op)) (ps : List KeyProgress) → HasAskedSoFar config targets [] ps
none_asked config targets ps = record {
  asked = record { each = All-nil (AsksFor config targets); some = All-nil (λ (r : Round). keys_asked r ≡ [] → ⊥); once = none_twice; ordered = All-nil (IsInOrder targets) };
  over = λ place key op at among. absurd (true≢false (sym among));
}

set_other : (ps : List KeyProgress) (i j : ℕ) (p r : KeyProgress) → (j ≡ i → ⊥) → slice_get ps j ≡ Some r → slice_get (set ps i p) j ≡ Some r
set_other [] i j p r other at = at
set_other (x ∷ ps) zero zero p r other at = absurd (other refl)
set_other (x ∷ ps) zero (suc j) p r other at = at
set_other (x ∷ ps) (suc i) zero p r other at = at
set_other (x ∷ ps) (suc i) (suc j) p r other at = set_other ps i j p r (λ is. other (ap suc is)) at

set_here : (ps : List KeyProgress) (i : ℕ) (p q : KeyProgress) → slice_get ps i ≡ Some q → slice_get (set ps i p) i ≡ Some p
set_here [] i p q at = cc
set_here (x ∷ ps) zero p q at = refl
set_here (x ∷ ps) (suc i) p q at = set_here ps i p q at

same_or : (i j : ℕ) → (j ≡ i) ⊎ (j ≡ i → ⊥)
same_or zero zero = inl refl
same_or zero (suc j) = inr (λ is. cc)
same_or (suc i) zero = inr (λ is. cc)
same_or (suc i) (suc j) = ⊎_elim (λ is. inl (ap suc is)) (λ isnt. inr (λ is. isnt (omega arith))) (same_or i j)

-- a key that was held back, or for which nobody was asked
pub unasked_at : (config : Config) (targets : List (Bytes × Op)) (rounds : List Round) (ps : List KeyProgress) (place : ℕ) (key : Bytes) (op : Op) (q : KeyProgress) → slice_get targets place ≡ Some (key, op) → slice_get ps place ≡ Some q → is_held_back q ≡ true
    → HasAskedSoFar config targets rounds ps → is_among (asked_in rounds) key ≡ false
unasked_at config targets rounds ps place key op q at there held a =
    ⊎_elim (λ is. absurd (let p = a.over place key op at is in true≢false (sym held ∙ ap is_held_back (same_Some q p.0 (sym there ∙ p.1)) ∙ p.2))) (λ isnt. isnt) (by_cases (is_among (asked_in rounds) key))

-- the key at a place goes on
pub asked_set : (config : Config) (targets : List (Bytes × Op)) (rounds : List Round) (ps : List KeyProgress) (place : ℕ) (key : Bytes) (op : Op) (q p : KeyProgress) → slice_get targets place ≡ Some (key, op) → slice_get ps place ≡ Some q
    → (is_among (asked_in rounds) key ≡ false) ⊎ (is_held_back p ≡ false) → HasAskedSoFar config targets rounds ps → HasAskedSoFar config targets rounds (set ps place p)
asked_set config targets rounds ps place key op q p at there either a = record {
  asked = a.asked;
  over = λ j k o is among. by j k o is among (same_or place j) either;
}
  where
    by : (j : ℕ) (k : Bytes) (o : Op) → slice_get targets j ≡ Some (k, o) → is_among (asked_in rounds) k ≡ true → (j ≡ place) ⊎ (j ≡ place → ⊥) → (is_among (asked_in rounds) key ≡ false) ⊎ (is_held_back p ≡ false)
        → (r : KeyProgress) × (slice_get (set ps place p) j ≡ Some r) × (is_held_back r ≡ false)
    by j k o is among (inl same) (inl none) =
        let key_is : k ≡ key = ap (λ (t : Bytes × Op). t.0) (same_Some (k, o) (key, op) (sym is ∙ ap (slice_get targets) same ∙ at)) in
        absurd (true≢false (sym among ∙ ap (is_among (asked_in rounds)) key_is ∙ none))
    by j k o is among (inl same) (inr over) = (p, ap (slice_get (set ps place p)) same ∙ set_here ps place p q there, over)
    by j k o is among (inr other) either = let r = a.over j k o is among in (r.0, set_other ps place j p r.0 other r.1, r.2)

-- one round more
reserved_here : (q : KeyProgress) → holds_reservation q ≡ true → is_held_back q ≡ false
reserved_here Waiting is = cc
reserved_here Reserved is = refl
reserved_here Joined is = cc
reserved_here (Ended e) is = cc

pub asked_more : (caller : Caller) (config : Config) (targets : List (Bytes × Op)) (rounds : List Round) (round : Round) (ps : List KeyProgress) (calls : List Reservation) → IsDistinct (pointwise ◌==◌) (keys_of targets) → length ps ≡ length targets
    → AreIn holds_reservation (IsTicketFor caller config) targets ps calls → (calls ≡ [] → ⊥) → AllByRecursion (λ (r : Reservation). is_among (asked_in rounds) r.key ≡ false) calls → keys_asked round ≡ reserved_keys calls → AsksFor config targets round
    → HasAskedSoFar config targets rounds ps → HasAskedSoFar config targets (rounds ++ round ∷ []) ps
asked_more caller config targets rounds round ps calls d many are some new keys for a = record {
  asked = record {
    each = All-append (AsksFor config targets) rounds (round ∷ []) a.asked.each (All-cons (AsksFor config targets) round [] for (All-nil (AsksFor config targets)));
    some = All-append (λ (r : Round). keys_asked r ≡ [] → ⊥) rounds (round ∷ []) a.asked.some
        (All-cons (λ (r : Round). keys_asked r ≡ [] → ⊥) round [] (λ nothing. some (no_keys calls (sym keys ∙ nothing))) (All-nil (λ (r : Round). keys_asked r ≡ [] → ⊥)));
    once = subst (IsDistinct (pointwise ◌==◌)) (sym all_keys)
        (distinct_more (asked_in rounds) (reserved_keys calls) a.asked.once (distinct_reserved caller config targets ps calls d are) (mapped_by (λ (r : Reservation). r.key) (λ y. is_among (asked_in rounds) y ≡ false) calls new));
    ordered = All-append (IsInOrder targets) rounds (round ∷ []) a.asked.ordered
        (All-cons (IsInOrder targets) round [] (keys ∙ in_order caller config targets ps calls d are ∙ ap (λ ks. filter (is_among ks) (keys_of targets)) (sym keys)) (All-nil (IsInOrder targets)));
  };
  over = λ place key op at among.
      let p = some_there targets ps place (key, op) many at in
      by place key op at p.0 p.1 (or_other (is_among (asked_in rounds) key) (is_among (reserved_keys calls) key) (sym (split key) ∙ among)) (by_cases (holds_reservation p.0));
}
  where
    all_keys : asked_in (rounds ++ round ∷ []) ≡ asked_in rounds ++ reserved_keys calls
    all_keys = flat_map-append keys_asked rounds (round ∷ []) ∙ ap (λ ks. asked_in rounds ++ ks) (append-nil (keys_asked round) ∙ keys)

    split : (key : Bytes) → is_among (asked_in (rounds ++ round ∷ [])) key ≡ (is_among (asked_in rounds) key || is_among (reserved_keys calls) key)
    split key = ap (λ ks. is_among ks key) all_keys ∙ list_any-append (pointwise ◌==◌ key) (asked_in rounds) (reserved_keys calls)

    by : (place : ℕ) (key : Bytes) (op : Op) → slice_get targets place ≡ Some (key, op) → (p : KeyProgress) → slice_get ps place ≡ Some p → (is_among (asked_in rounds) key ≡ true) ⊎ (is_among (reserved_keys calls) key ≡ true) → (holds_reservation p ≡ true) ⊎ (holds_reservation p ≡ false)
        → (r : KeyProgress) × (slice_get ps place ≡ Some r) × (is_held_back r ≡ false)
    by place key op at p there (inl before) either = a.over place key op at before
    by place key op at p there (inr reserved) (inl is) = (p, there, reserved_here p is)
    by place key op at p there (inr reserved) (inr isnt) = absurd (true≢false (sym reserved ∙ new_key caller config targets ps calls place key op p d at there isnt are))

module _ {I J : Type 0} {D : I → Type 0} {E : J → Type 0} where
  pub asked_on : (cache : CacheState) (caller : Caller) (targets : List (Bytes × Op)) (rounds : List Round) (round : Round) (first : List Seated) (old new : Session I J D E) (ps : List KeyProgress) (calls : List Reservation) (joins : List JoinClaim)
      → IsDistinct (pointwise ◌==◌) (keys_of targets) → keys_asked round ≡ reserved_keys calls
      → IsOf cache new → new ≡ record old { agent = record old.agent { hands = new.agent.hands } } → IsUnderway cache caller targets rounds first old ps calls joins → IsUnderway cache caller targets (rounds ++ round ∷ []) first new ps calls joins
  asked_on cache caller targets rounds round first old new ps calls joins d keys own rest u = record {
    own = own;
    caller_is = ap (λ (s : Session I J D E). s.agent.caller) rest ∙ u.caller_is;
    reservations = ap (λ (s : Session I J D E). s.agent.counts.reservations) rest ∙ u.reservations;
    joins_out = ap (λ (s : Session I J D E). s.agent.counts.joins) rest ∙ u.joins_out;
    so_far = subst (λ (seats : List Seated). IsSoFar cache.config caller cache.config.stripes targets (rounds ++ round ∷ []) first seats ps) (sym (ap (λ (s : Session I J D E). s.seats.items) rest))
        (more_rounds cache.config caller cache.config.stripes targets rounds (round ∷ []) first old.seats.items ps
        (λ place key op e at there. ap (λ ks. is_among ks key) (append-nil (keys_asked round) ∙ keys) ∙ new_key caller cache.config targets ps calls place key op (Ended e) d at there refl u.calls_are)
        u.so_far);
    calls_are = u.calls_are;
    joins_are = u.joins_are;
  }

-- 5. Types.

module _ {I J : Type 0} {D : I → Type 0} {E : J → Type 0} where
  pub types_on : (old mid new : Agent I J D E) → KeepsTypes old mid → KeepsTypes mid new → KeepsTypes old new
  types_on old mid new one two = (two.0 ∙ one.0, two.1 ∙ one.1)
