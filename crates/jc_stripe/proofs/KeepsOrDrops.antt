-- What the stripes of a reopening keep and what is dropped are all the entries, each as often as it was given.
--     joined           lists by their numbers, end to end
--     joined_in        an element more at the end of one of them
--     keeps_or_drops   the law
use Rattle.std.proofs.Common.{rules, ◌≡◌, ◌<◌, ◌≤◌, ◌+◌, ℕ, zero, suc, List, [], ◌∷◌, ◌++◌, ⊎_elim, length, Ok, refl, sym, ap, ◌∙◌, subst, append_assoc, append-nil, arith}
use Rattle.std.specs.List.Sorted.{IsPermutation}
use Rattle.std.proofs.lemmas.List.Sorted.{IsPermutation-refl, IsPermutation-sym, IsPermutation-cons, IsPermutation-to_front, IsPermutation-middle, IsPermutation-append_left, IsPermutation-append_right, IsPermutation-trans}
use Rattle.std.proofs.lemmas.List.{take_all}
use Rattle.std.proofs.lemmas.Bool.{cases_eq, cases_lt}
use Rattle.jc_types.specs.declared.config.Config.{Config}
use Rattle.jc_types.specs.Limits.{check}
use Rattle.jc_types.specs.Stripes.{stripe_of}
use Rattle.jc_outside.specs.declared.done.Origin.{Origin}
use Rattle.jc_model.specs.Cache.{Bytes}
use Rattle.jc_stripe.specs.Reopening.{all_entries, entries_for, kept, dropped, opened_stripes, KeepsOrDrops}
use Rattle.jc_stripe.proofs.Dealing.{adds_kept, keeps_full, keeps_others, drops_none, drops_one}

-- 1. Lists end to end.

abbrev joined : (ℕ → List (Bytes × Bytes)) → ℕ → ℕ → List (Bytes × Bytes)
joined f n zero = []
joined f n (suc count) = f n ++ joined f (n + 1) count

joined_same : (f g : ℕ → List (Bytes × Bytes)) (n count : ℕ) → ((m : ℕ) → n ≤ m → f m ≡ g m) → joined f n count ≡ joined g n count
joined_same f g n zero same = refl
joined_same f g n (suc count) same = (λ i. same n (omega arith) i ++ joined_same f g (n + 1) count (λ m le. same m (omega arith)) i)

-- one of the lists has an element more at its end
joined_in : (f g : ℕ → List (Bytes × Bytes)) (s : ℕ) (x : Bytes × Bytes) (n count : ℕ) → ((m : ℕ) → (m ≡ s → ⊥) → f m ≡ g m) → f s ++ x ∷ [] ≡ g s → n ≤ s → s < n + count
    → IsPermutation (x ∷ joined f n count) (joined g n count)
joined_in f g s x n zero others own low high = absurd (omega arith)
joined_in f g s x n (suc count) others own low high =
    let rest : List (Bytes × Bytes) = joined f (n + 1) count in
    let inside : IsPermutation (x ∷ (f n ++ rest)) (f n ++ x ∷ rest) = IsPermutation-sym _ _ (IsPermutation-middle (f n) x rest) in
    ⊎_elim
    (λ (same : n ≡ s).
    let here : f n ++ x ∷ [] ≡ g n = subst (λ m. f m ++ x ∷ [] ≡ g m) (sym same) own in
    let later : rest ≡ joined g (n + 1) count = joined_same f g (n + 1) count (λ m le. others m (λ e. absurd (omega arith))) in
    subst (IsPermutation (x ∷ (f n ++ rest))) (sym (append_assoc (f n) (x ∷ []) rest) ∙ (λ i. here i ++ later i)) inside)
    (λ (apart : n ≡ s → ⊥).
    let here : f n ≡ g n = others n apart in
    let next : n + 1 ≤ s = omega arith in
    let later = joined_in f g s x (n + 1) count others own next (omega arith) in
    subst (λ l. IsPermutation (x ∷ (f n ++ rest)) (l ++ joined g (n + 1) count)) here
    (IsPermutation-trans _ _ _ inside (IsPermutation-append_right (f n) (x ∷ rest) (joined g (n + 1) count) later)))
    (cases_eq n s)

-- 2. One entry after another.

IsAll : Config → List (Bytes × Bytes) → Type 0
IsAll config entries = IsPermutation entries (joined (λ n. kept config n entries) 0 config.stripes ++ dropped config entries)

stripe_below : (config : Config) (key : Bytes) → check config ≡ Ok tt → stripe_of key config.stripes < config.stripes
stripe_below config key fits = search rules

module _ (config : Config) (before : List (Bytes × Bytes)) (x : Bytes × Bytes) where
  abbrev stripe : ℕ
  stripe = stripe_of x.0 config.stripes

  abbrev was : List (Bytes × Bytes)
  was = joined (λ n. kept config n before) 0 config.stripes

  abbrev now : List (Bytes × Bytes)
  now = joined (λ n. kept config n (before ++ x ∷ [])) 0 config.stripes

  with_kept : check config ≡ Ok tt → length (entries_for config stripe before) < config.capacity → IsAll config before → IsAll config (before ++ x ∷ [])
  unfolding IsAll
  with_kept fits room all =
      let below : stripe < config.stripes = stripe_below config x.0 fits in
      let more : IsPermutation (x ∷ was) now =
      joined_in (λ n. kept config n before) (λ n. kept config n (before ++ x ∷ [])) stripe x 0 config.stripes
      (λ m other. sym (keeps_others config before x m other)) (sym (adds_kept config before x room)) (omega arith) (omega arith) in
      subst (λ d. IsPermutation (before ++ x ∷ []) (now ++ d)) (sym (drops_none config before x room))
      (IsPermutation-trans _ _ _ (IsPermutation-to_front before x)
      (IsPermutation-trans _ _ _ (IsPermutation-cons x before (was ++ dropped config before) all)
      (IsPermutation-append_left (dropped config before) (x ∷ was) now more)))

  with_dropped : config.capacity ≤ length (entries_for config stripe before) → IsAll config before → IsAll config (before ++ x ∷ [])
  unfolding IsAll
  with_dropped full all =
      let same : was ≡ now = joined_same (λ n. kept config n before) (λ n. kept config n (before ++ x ∷ [])) 0 config.stripes
      (λ m le. ⊎_elim
      (λ (e : m ≡ stripe). subst (λ k. kept config k before ≡ kept config k (before ++ x ∷ [])) (sym e) (sym (keeps_full config before x full)))
      (λ (other : m ≡ stripe → ⊥). sym (keeps_others config before x m other))
      (cases_eq m stripe)) in
      subst (IsPermutation (before ++ x ∷ [])) (append_assoc was (dropped config before) (x ∷ []) ∙ (λ i. same i ++ sym (drops_one config before x full) i))
      (IsPermutation-append_left (x ∷ []) before (was ++ dropped config before) all)

  with_one : check config ≡ Ok tt → IsAll config before → IsAll config (before ++ x ∷ [])
  with_one fits all = ⊎_elim (λ room. with_kept fits room all) (λ full. with_dropped full all) (cases_lt (length (entries_for config stripe before)) config.capacity)

with_more : (config : Config) (before xs : List (Bytes × Bytes)) → check config ≡ Ok tt → IsAll config before → IsAll config (before ++ xs)
with_more config before [] fits all = subst (IsAll config) (sym (append-nil before)) all
with_more config before (x ∷ xs) fits all = subst (IsAll config) (append_assoc before (x ∷ []) xs) (with_more config (before ++ x ∷ []) xs fits (with_one config before x fits all))

kept_nothing : (config : Config) (n count : ℕ) → joined (λ m. kept config m []) n count ≡ []
kept_nothing config n zero = refl
kept_nothing config n (suc count) = (λ i. take_all config.capacity [] (omega arith) i ++ kept_nothing config (n + 1) count i)

with_none : (config : Config) → IsAll config []
unfolding IsAll
with_none config = subst (λ l. IsPermutation [] (l ++ [])) (sym (kept_nothing config 0 config.stripes)) (IsPermutation-refl [])

-- 3. The law.

opened_entries : (config : Config) (origin : Origin) (entries : List (Bytes × Bytes)) (n count : ℕ) → joined (λ m. kept config m entries) n count ≡ all_entries (opened_stripes config origin entries n count)
opened_entries config origin entries n zero = refl
opened_entries config origin entries n (suc count) = ap (λ l. kept config n entries ++ l) (opened_entries config origin entries (n + 1) count)

pub keeps_or_drops : KeepsOrDrops
unfolding IsAll
keeps_or_drops config origin entries fits =
    subst (λ l. IsPermutation entries (l ++ dropped config entries)) (opened_entries config origin entries 0 config.stripes) (with_more config [] entries fits (with_none config))
