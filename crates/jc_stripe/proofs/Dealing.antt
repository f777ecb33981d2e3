-- Entries are dealt to the lists of their stripes, one after another.
--     HasLists        each list has what its stripe keeps of these entries
--     cut_in, cut_out
--                     a list with one element more, cut off at a length
--     deal_in         one entry more, for which there is room, and which isn't dropped
--     deal_out        one entry more, for which there is no room, and which is dropped
use Rattle.std.proofs.Common.{◌≡◌, ◌<◌, ◌≤◌, ℕ, zero, suc, List, [], ◌∷◌, ◌++◌, Bool, true, false, cond, length, take, set, Some, option_map, ⊎_elim, refl, sym, ap, ◌∙◌, subst, append_assoc, append-nil, arith}
use Rattle.std.specs.List.{slice_get}
use Rattle.std.proofs.lemmas.List.{take_all, take-append-le, length-take}
use Rattle.std.proofs.lemmas.List.Elements.{filter-append}
use Rattle.std.proofs.lemmas.Bool.{cases_eq, eq-eqb, ne_eqb, lt-leb, le-leb}
use Rattle.std.proofs.lemmas.Option.{slice_get_within}
use Rattle.jc_types.specs.declared.config.Config.{Config}
use Rattle.jc_types.specs.Stripes.{stripe_of}
use Rattle.jc_model.specs.Cache.{Bytes}
use Rattle.jc_stripe.specs.Reopening.{belongs_to_stripe, entries_for, kept, is_full_behind, dropped_behind, dropped}

-- 1. A list that is cut.

pub cut_in : (c : ℕ) (xs : List (Bytes × Bytes)) (x : Bytes × Bytes) → length (take c xs) < c → take c (xs ++ x ∷ []) ≡ take c xs ++ x ∷ []
cut_in zero xs x h = absurd (omega arith)
cut_in (suc c) [] x h = ap (λ zs. x ∷ zs) (take_all c [] (omega arith))
cut_in (suc c) (y ∷ ys) x h = ap (λ zs. y ∷ zs) (cut_in c ys x (omega arith))

pub cut_out : (c : ℕ) (xs : List (Bytes × Bytes)) (x : Bytes × Bytes) → c ≤ length (take c xs) → take c (xs ++ x ∷ []) ≡ take c xs
cut_out c xs x h = take-append-le c xs (x ∷ []) (omega (arith, length-take c xs))

-- 2. The lists of the stripes.

slice_get-set_same : {V : Type 0} (xs : List V) (i : ℕ) (y : V) → i < length xs → slice_get (set xs i y) i ≡ Some y
slice_get-set_same [] i y h = absurd (omega arith)
slice_get-set_same (x ∷ xs) zero y h = refl
slice_get-set_same (x ∷ xs) (suc i) y h = slice_get-set_same xs i y (omega arith)

slice_get-set_other : {V : Type 0} (xs : List V) (i j : ℕ) (y : V) → (j ≡ i → ⊥) → slice_get (set xs i y) j ≡ slice_get xs j
slice_get-set_other [] i j y h = refl
slice_get-set_other (x ∷ xs) zero zero y h = absurd (h refl)
slice_get-set_other (x ∷ xs) zero (suc j) y h = refl
slice_get-set_other (x ∷ xs) (suc i) zero y h = refl
slice_get-set_other (x ∷ xs) (suc i) (suc j) y h = slice_get-set_other xs i j y (λ e. h (ap suc e))

module _ {V : Type 0} (f : V → List (Bytes × Bytes)) (config : Config) where
  -- each list has what its stripe keeps of these entries
  pub record HasLists (before : List (Bytes × Bytes)) (lists : List V) : Type 0 where
    pub at : (n : ℕ) → n < config.stripes → option_map f (slice_get lists n) ≡ Some (kept config n before)

-- what is an entry's, and what isn't
entries_own : (config : Config) (before : List (Bytes × Bytes)) (x : Bytes × Bytes) → entries_for config (stripe_of x.0 config.stripes) (before ++ x ∷ []) ≡ entries_for config (stripe_of x.0 config.stripes) before ++ x ∷ []
entries_own config before x =
    filter-append (belongs_to_stripe config (stripe_of x.0 config.stripes)) before (x ∷ [])
    ∙ ap (λ b. entries_for config (stripe_of x.0 config.stripes) before ++ cond b (x ∷ []) []) (eq-eqb (stripe_of x.0 config.stripes) (stripe_of x.0 config.stripes) refl)

entries_other : (config : Config) (before : List (Bytes × Bytes)) (x : Bytes × Bytes) (n : ℕ) → (n ≡ stripe_of x.0 config.stripes → ⊥) → entries_for config n (before ++ x ∷ []) ≡ entries_for config n before
entries_other config before x n h =
    filter-append (belongs_to_stripe config n) before (x ∷ [])
    ∙ ap (λ b. entries_for config n before ++ cond b (x ∷ []) []) (ne_eqb (stripe_of x.0 config.stripes) n (λ e. h (sym e)))
    ∙ append-nil (entries_for config n before)

-- one more behind
dropped-last : (config : Config) (before xs : List (Bytes × Bytes)) (x : Bytes × Bytes) (b : Bool) → is_full_behind config (before ++ xs) x.0 ≡ b
    → dropped_behind config before (xs ++ x ∷ []) ≡ dropped_behind config before xs ++ cond b (x ∷ []) []
dropped-last config before [] x b h = ap (λ t. cond t (x ∷ []) []) (ap (λ l. is_full_behind config l x.0) (sym (append-nil before)) ∙ h)
dropped-last config before (y ∷ ys) x b h =
    let ih = dropped-last config (before ++ y ∷ []) ys x b (ap (λ l. is_full_behind config l x.0) (append_assoc before (y ∷ []) ys) ∙ h) in
    elim (is_full_behind config before y.0) as (λ t. cond t (y ∷ dropped_behind config (before ++ y ∷ []) (ys ++ x ∷ [])) (dropped_behind config (before ++ y ∷ []) (ys ++ x ∷ []))
    ≡ cond t (y ∷ dropped_behind config (before ++ y ∷ []) ys) (dropped_behind config (before ++ y ∷ []) ys) ++ cond b (x ∷ []) []) [
      | true ↦ ap (λ l. y ∷ l) ih
      | false ↦ ih
    ]

-- 3. One entry more.

module _ (config : Config) (before : List (Bytes × Bytes)) (x : Bytes × Bytes) where
  -- the stripe of its key, and the entries of that stripe
  abbrev stripe : ℕ
  stripe = stripe_of x.0 config.stripes

  abbrev own : List (Bytes × Bytes)
  own = entries_for config stripe before

  pub keeps_others : (n : ℕ) → (n ≡ stripe → ⊥) → kept config n (before ++ x ∷ []) ≡ kept config n before
  keeps_others n other = ap (take config.capacity) (entries_other config before x n other)

  pub adds_kept : length own < config.capacity → kept config stripe (before ++ x ∷ []) ≡ kept config stripe before ++ x ∷ []
  adds_kept room = ap (take config.capacity) (entries_own config before x) ∙ cut_in config.capacity own x (omega (arith, length-take config.capacity own))

  pub keeps_full : config.capacity ≤ length own → kept config stripe (before ++ x ∷ []) ≡ kept config stripe before
  keeps_full full = ap (take config.capacity) (entries_own config before x) ∙ cut_out config.capacity own x (omega (arith, length-take config.capacity own))

  pub drops_none : length own < config.capacity → dropped config (before ++ x ∷ []) ≡ dropped config before
  drops_none room = dropped-last config [] before x false (lt-leb config.capacity (length own) room) ∙ append-nil (dropped config before)

  pub drops_one : config.capacity ≤ length own → dropped config (before ++ x ∷ []) ≡ dropped config before ++ x ∷ []
  drops_one full = dropped-last config [] before x true (le-leb config.capacity (length own) full)

some_same : {A : Type 0} (x y : A) → Some x ≡ Some y → x ≡ y
some_same x y h = cc

module _ {V : Type 0} (f : V → List (Bytes × Bytes)) (config : Config) (before : List (Bytes × Bytes)) (lists : List V) (x : Bytes × Bytes) (old : V) where
  abbrev number : ℕ
  number = stripe_of x.0 config.stripes

  has_old : HasLists f config before lists → number < config.stripes → slice_get lists number ≡ Some old → f old ≡ kept config number before
  has_old has within at = some_same _ _ (sym (ap (option_map f) at) ∙ has.at number within)

  -- the entry's own list is another one, and the others are as they were
  dealt : (new : V) → HasLists f config before lists → number < length lists → f new ≡ kept config number (before ++ x ∷ []) → HasLists f config (before ++ x ∷ []) (set lists number new)
  dealt new has inside now = record {
    at = λ n lt. ⊎_elim
        (λ (same : n ≡ number). subst (λ m. option_map f (slice_get (set lists number new) m) ≡ Some (kept config m (before ++ x ∷ []))) (sym same)
        (ap (option_map f) (slice_get-set_same lists number new inside) ∙ ap Some now))
        (λ (other : n ≡ number → ⊥). ap (option_map f) (slice_get-set_other lists number n new other) ∙ has.at n lt ∙ ap Some (sym (keeps_others config before x n other)))
        (cases_eq n number);
  }

  pub deal_in : (new : V) → HasLists f config before lists → number < config.stripes → slice_get lists number ≡ Some old → length (f old) < config.capacity → f new ≡ f old ++ x ∷ []
      → HasLists f config (before ++ x ∷ []) (set lists number new) × (dropped config (before ++ x ∷ []) ≡ dropped config before)
  deal_in new has within at room push =
      let is : f old ≡ kept config number before = has_old has within at in
      let short : length (kept config number before) < config.capacity = subst (λ (l : List (Bytes × Bytes)). length l < config.capacity) is room in
      let free : length (entries_for config number before) < config.capacity = omega (arith, length-take config.capacity (entries_for config number before)) in (
        dealt new has (slice_get_within lists number old at) (push ∙ ap (λ l. l ++ x ∷ []) is ∙ sym (adds_kept config before x free)),
        drops_none config before x free,
      )

  pub deal_out : HasLists f config before lists → number < config.stripes → slice_get lists number ≡ Some old → config.capacity ≤ length (f old)
      → HasLists f config (before ++ x ∷ []) (set lists number old) × (dropped config (before ++ x ∷ []) ≡ dropped config before ++ x ∷ [])
  deal_out has within at full =
      let is : f old ≡ kept config number before = has_old has within at in
      let long : config.capacity ≤ length (kept config number before) = subst (λ (l : List (Bytes × Bytes)). config.capacity ≤ length l) is full in
      let none : config.capacity ≤ length (entries_for config number before) = omega (arith, length-take config.capacity (entries_for config number before)) in (
        dealt old has (slice_get_within lists number old at) (is ∙ sym (keeps_full config before x none)),
        drops_one config before x none,
      )
