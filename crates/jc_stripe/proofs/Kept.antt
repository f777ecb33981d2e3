-- What a stripe keeps when it is opened: not too much, each key once, and of its own keys.
--     kept_few      there are not more than there is room for
--     kept_once     each key is there once
--     kept_own      they are of the stripe's keys
--     read_list     a list that is read at a number is the one that stands there
use Rattle.std.proofs.Common.{◌≡◌, ◌≤◌, ℕ, zero, suc, List, [], ◌∷◌, Bool, true, false, cond, length, filter, take, Some, is_none, option_map, slice_get, get_or, refl, arith}
use Rattle.std.specs.List.{list_all}
use Rattle.std.specs.FinMap.{find}
use Rattle.std.specs.Ordering.{eq_by_cmp}
use Rattle.std.proofs.lemmas.List.{length-take}
use Rattle.std.proofs.lemmas.Bool.{and_parts, and_from}
use Rattle.jc_types.specs.declared.config.Config.{Config}
use Rattle.jc_model.specs.Cache.{Bytes, key_cmp}
use Rattle.jc_model.specs.Listed.{has_distinct_keys}
use Rattle.jc_stripe.specs.Reopening.{belongs_to_stripe, entries_for, kept}

missing_left : (p : Bytes × Bytes → Bool) (q : Bytes) (es : List (Bytes × Bytes)) → is_none (find key_cmp q es) ≡ true → is_none (find key_cmp q (filter p es)) ≡ true
missing_left p q [] h = refl
missing_left p q (e ∷ es) h =
    elim (p e) as (λ b. is_none (find key_cmp q (cond b (e ∷ filter p es) (filter p es))) ≡ true) [
      | true ↦ elim (eq_by_cmp key_cmp q e.0) as (λ b. is_none (cond b (Some e.1) (find key_cmp q es)) ≡ true → is_none (cond b (Some e.1) (find key_cmp q (filter p es))) ≡ true) [
        | true ↦ λ h. h
        | false ↦ λ h. missing_left p q es h
      ] h
      | false ↦ missing_left p q es (rest (eq_by_cmp key_cmp q e.0) h)
    ]
  where
    rest : (b : Bool) → is_none (cond b (Some e.1) (find key_cmp q es)) ≡ true → is_none (find key_cmp q es) ≡ true
    rest true h = cc
    rest false h = h

missing_taken : (c : ℕ) (q : Bytes) (es : List (Bytes × Bytes)) → is_none (find key_cmp q es) ≡ true → is_none (find key_cmp q (take c es)) ≡ true
missing_taken zero q es h = refl
missing_taken (suc c) q [] h = refl
missing_taken (suc c) q (e ∷ es) h =
    elim (eq_by_cmp key_cmp q e.0) as (λ b. is_none (cond b (Some e.1) (find key_cmp q es)) ≡ true → is_none (cond b (Some e.1) (find key_cmp q (take c es))) ≡ true) [
      | true ↦ λ h. h
      | false ↦ λ h. missing_taken c q es h
    ] h

once_left : (p : Bytes × Bytes → Bool) (es : List (Bytes × Bytes)) → has_distinct_keys es ≡ true → has_distinct_keys (filter p es) ≡ true
once_left p [] h = refl
once_left p (e ∷ es) h =
    let parts = and_parts (is_none (find key_cmp e.0 es)) (has_distinct_keys es) h in
    elim (p e) as (λ b. has_distinct_keys (cond b (e ∷ filter p es) (filter p es)) ≡ true) [
      | true ↦ and_from _ _ (missing_left p e.0 es parts.0) (once_left p es parts.1)
      | false ↦ once_left p es parts.1
    ]

once_taken : (c : ℕ) (es : List (Bytes × Bytes)) → has_distinct_keys es ≡ true → has_distinct_keys (take c es) ≡ true
once_taken zero es h = refl
once_taken (suc c) [] h = refl
once_taken (suc c) (e ∷ es) h =
    let parts = and_parts (is_none (find key_cmp e.0 es)) (has_distinct_keys es) h in
    and_from _ _ (missing_taken c e.0 es parts.0) (once_taken c es parts.1)

own_left : (p : Bytes × Bytes → Bool) (es : List (Bytes × Bytes)) → list_all p (filter p es) ≡ true
own_left p [] = refl
own_left p (e ∷ es) =
    elim (p e) as (λ b. p e ≡ b → list_all p (cond b (e ∷ filter p es) (filter p es)) ≡ true) [
      | true ↦ λ h. and_from _ _ h (own_left p es)
      | false ↦ λ h. own_left p es
    ] refl

own_taken : (c : ℕ) (p : Bytes × Bytes → Bool) (es : List (Bytes × Bytes)) → list_all p es ≡ true → list_all p (take c es) ≡ true
own_taken zero p es h = refl
own_taken (suc c) p [] h = refl
own_taken (suc c) p (e ∷ es) h =
    let parts = and_parts (p e) (list_all p es) h in
    and_from _ _ parts.0 (own_taken c p es parts.1)

pub kept_few : (config : Config) (n : ℕ) (entries : List (Bytes × Bytes)) → length (kept config n entries) ≤ config.capacity
kept_few config n entries = omega (arith, length-take config.capacity (entries_for config n entries))

pub kept_once : (config : Config) (n : ℕ) (entries : List (Bytes × Bytes)) → has_distinct_keys entries ≡ true → has_distinct_keys (kept config n entries) ≡ true
kept_once config n entries h = once_taken config.capacity (entries_for config n entries) (once_left (belongs_to_stripe config n) entries h)

pub kept_own : (config : Config) (n : ℕ) (entries : List (Bytes × Bytes)) → list_all (belongs_to_stripe config n) (kept config n entries) ≡ true
kept_own config n entries = own_taken config.capacity (belongs_to_stripe config n) (entries_for config n entries) (own_left (belongs_to_stripe config n) entries)

-- a list that is read at a number
pub read_list : {V : Type 0} (f : V → List (Bytes × Bytes)) (lists : List V) (n : ℕ) (v : V) (xs : List (Bytes × Bytes)) → option_map f (slice_get lists n) ≡ Some xs → v ≡ get_or lists n v → f v ≡ xs
read_list f [] n v xs h is = cc
read_list f (l ∷ lists) zero v xs h is = cc
read_list f (l ∷ lists) (suc n) v xs h is = read_list f lists n v xs h is
