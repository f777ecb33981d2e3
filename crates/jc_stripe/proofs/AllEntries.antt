-- The keys of all stripes of a cache differ: those of one stripe, since each is there once, and those of two, since each belongs to
-- one stripe.
--     distinct-append    the keys of two lists together are distinct if they are so in each list, and no key is in both
--     apart_by           no key is in both lists, if a test tells them apart
--     apart-append       no key is in a list and in two together, if none is in it and in either
--     apart_numbers      two stripes of as many, with different numbers, share no key
--     all_entries_once   stripes with numbers in order have no key twice
--     once_unless_shared
--                        stripes of any shapes and numbers have no key twice exactly if no two of them share one
use Rattle.std.proofs.Common.{◌≡◌, ◌==◌, ◌&&◌, ◌||◌, ◌<◌, ◌+◌, ℕ, suc, List, [], ◌∷◌, ◌++◌, Bool, true, false, cond, not, Some, is_none, slice_get, refl, sym, ap, ◌∙◌, subst, arith}
use Rattle.std.specs.List.{list_all, list_any, All}
use Rattle.std.specs.FinMap.{find}
use Rattle.std.specs.Ordering.{eq_by_cmp}
use Rattle.std.proofs.lemmas.List.Folds.{list_all-append}
use Rattle.std.proofs.lemmas.List.Elements.{All-head, All-tail}
use Rattle.std.proofs.lemmas.Bool.{and_parts, and_from, eqb-true, ne_eqb}
use Rattle.jc_types.proofs.CallerLemmas.{all_imply}
use Rattle.jc_types.specs.declared.config.Config.{Config}
use Rattle.jc_types.specs.Stripes.{stripe_of}
use Rattle.jc_model.specs.Cache.{Bytes, key_cmp}
use Rattle.jc_model.specs.Listed.{has_distinct_keys}
use Rattle.jc_model.specs.Apart.{keys_apart}
use Rattle.jc_model.proofs.CallerLemmas.{same_key}
use Rattle.jc_stripe.specs.State.{State, is_of}
use Rattle.jc_stripe.specs.Reached.{IsReached}
use Rattle.jc_stripe.specs.Reopening.{entries_of, all_entries, belongs_to_stripe, shares_key, some_share_key}

-- 1. Two lists.

missing-append : (q : Bytes) (es fs : List (Bytes × Bytes)) → is_none (find key_cmp q (es ++ fs)) ≡ (is_none (find key_cmp q es) && is_none (find key_cmp q fs))
missing-append q [] fs = refl
missing-append q (e ∷ es) fs =
    elim (eq_by_cmp key_cmp q e.0) as (λ b. is_none (cond b (Some e.1) (find key_cmp q (es ++ fs))) ≡ (is_none (cond b (Some e.1) (find key_cmp q es)) && is_none (find key_cmp q fs))) [
      | true ↦ refl
      | false ↦ missing-append q es fs
    ]

shuffled : (p q d a r : Bool) → ((p && q) && (d && (a && r))) ≡ ((p && d) && ((q && a) && r))
shuffled false q d a r = refl
shuffled true true d a r = refl
shuffled true false true a r = refl
shuffled true false false a r = refl

crossed : (p q a b : Bool) → ((p && q) && (a && b)) ≡ ((p && a) && (q && b))
crossed false q a b = refl
crossed true true true b = refl
crossed true true false b = refl
crossed true false true b = refl
crossed true false false b = refl

pub distinct-append : (es fs : List (Bytes × Bytes)) → has_distinct_keys (es ++ fs) ≡ (has_distinct_keys es && (keys_apart es fs && has_distinct_keys fs))
distinct-append [] fs = refl
distinct-append (e ∷ es) fs =
    (λ i. missing-append e.0 es fs i && distinct-append es fs i)
    ∙ shuffled (is_none (find key_cmp e.0 es)) (is_none (find key_cmp e.0 fs)) (has_distinct_keys es) (keys_apart es fs) (has_distinct_keys fs)

apart-append : (es fs gs : List (Bytes × Bytes)) → keys_apart es (fs ++ gs) ≡ (keys_apart es fs && keys_apart es gs)
apart-append [] fs gs = refl
apart-append (e ∷ es) fs gs =
    (λ i. missing-append e.0 fs gs i && apart-append es fs gs i)
    ∙ crossed (is_none (find key_cmp e.0 fs)) (is_none (find key_cmp e.0 gs)) (keys_apart es fs) (keys_apart es gs)

both_not : (a b : Bool) → (a && not b) ≡ not (not a || b)
both_not true b = refl
both_not false b = refl

neither : (a b : Bool) → (not a && not b) ≡ not (a || b)
neither true b = refl
neither false b = refl

not_both : (b : Bool) → b ≡ true → not b ≡ true → ⊥
not_both true h other = cc
not_both false h other = cc

missing_by : (p : Bytes → Bool) (q : Bytes) (fs : List (Bytes × Bytes)) → p q ≡ true → list_all (λ f. not (p f.0)) fs ≡ true → is_none (find key_cmp q fs) ≡ true
missing_by p q [] is others = refl
missing_by p q (f ∷ fs) is others =
    let parts = and_parts (not (p f.0)) (list_all (λ g. not (p g.0)) fs) others in
    elim (eq_by_cmp key_cmp q f.0) as (λ b. eq_by_cmp key_cmp q f.0 ≡ b → is_none (cond b (Some f.1) (find key_cmp q fs)) ≡ true) [
      | true ↦ λ same. absurd (not_both (p f.0) (ap p (sym (same_key q f.0 same)) ∙ is) parts.0)
      | false ↦ λ other. missing_by p q fs is parts.1
    ] refl

pub apart_by : (p : Bytes → Bool) (es fs : List (Bytes × Bytes)) → list_all (λ e. p e.0) es ≡ true → list_all (λ f. not (p f.0)) fs ≡ true → keys_apart es fs ≡ true
apart_by p [] fs own others = refl
apart_by p (e ∷ es) fs own others =
    let parts = and_parts (p e.0) (list_all (λ e. p e.0) es) own in
    and_from _ _ (missing_by p e.0 fs parts.0 others) (apart_by p es fs parts.1 others)

-- 2. The stripes of a cache.

-- the entries of a stripe are of its keys
own_entries : (config : Config) (n : ℕ) (s : State) → IsReached s → s.config ≡ config → s.stripe ≡ n → list_all (belongs_to_stripe config n) (entries_of s) ≡ true
own_entries config n s reached shape number = subst (λ (x : Config × ℕ). list_all (belongs_to_stripe x.0 x.1) (entries_of s) ≡ true) (λ i. (shape i, number i)) reached.used.own

other_number : (k n m : ℕ) → n < m → (k == m) ≡ true → not (k == n) ≡ true
other_number k n m h is = let e = eqb-true k m is in ap not (ne_eqb k n (λ same. absurd (omega arith)))

-- two stripes of as many, with different numbers, share no key
pub apart_numbers : (s t : State) → IsReached s → IsReached t → s.config.stripes ≡ t.config.stripes → (s.stripe ≡ t.stripe → ⊥) → shares_key s t ≡ false
apart_numbers s t of_s of_t shape apart =
    let own : list_all (λ e. stripe_of e.0 s.config.stripes == t.stripe) (entries_of t) ≡ true = ap (λ n. list_all (λ e. stripe_of e.0 n == t.stripe) (entries_of t)) shape ∙ of_t.used.own in
    ap not (apart_by (is_of s) (entries_of s) (entries_of t) of_s.used.own
    (all_imply (λ (e : Bytes × Bytes). stripe_of e.0 s.config.stripes == t.stripe) (λ e. not (is_of s e.0)) (entries_of t)
    (λ e is. let k = eqb-true (stripe_of e.0 s.config.stripes) t.stripe is in ap not (ne_eqb (stripe_of e.0 s.config.stripes) s.stripe (λ same. apart (sym same ∙ k)))) own))

-- the entries of stripes with later numbers are of other keys
later_entries : (config : Config) (n m : ℕ) (stripes : List State) → n < m
    → ((i : ℕ) (s : State) → slice_get stripes i ≡ Some s → IsReached s × (s.config ≡ config) × (s.stripe ≡ m + i)) → list_all (λ e. not (belongs_to_stripe config n e)) (all_entries stripes) ≡ true
later_entries config n m [] lt at = refl
later_entries config n m (s ∷ ss) lt at =
    let first = at 0 s refl in
    let own : list_all (belongs_to_stripe config m) (entries_of s) ≡ true = own_entries config m s first.0 first.1 (let e = first.2 in omega arith) in
    let rest = later_entries config n (m + 1) ss (omega arith) (λ i t h. let r = at (suc i) t h in (r.0, r.1, (let e = r.2 in omega arith))) in
    list_all-append (λ e. not (belongs_to_stripe config n e)) (entries_of s) (all_entries ss)
    ∙ and_from _ _ (all_imply (belongs_to_stripe config m) (λ e. not (belongs_to_stripe config n e)) (entries_of s) (λ e is. other_number (stripe_of e.0 config.stripes) n m lt is) own) rest

pub all_entries_once : (config : Config) (n : ℕ) (stripes : List State) → ((i : ℕ) (s : State) → slice_get stripes i ≡ Some s → IsReached s × (s.config ≡ config) × (s.stripe ≡ n + i))
    → has_distinct_keys (all_entries stripes) ≡ true
all_entries_once config n [] at = refl
all_entries_once config n (s ∷ ss) at =
    let first = at 0 s refl in
    let own : list_all (belongs_to_stripe config n) (entries_of s) ≡ true = own_entries config n s first.0 first.1 (let e = first.2 in omega arith) in
    let later : (i : ℕ) (t : State) → slice_get ss i ≡ Some t → IsReached t × (t.config ≡ config) × (t.stripe ≡ n + 1 + i) =
    λ i t h. let r = at (suc i) t h in (r.0, r.1, (let e = r.2 in omega arith)) in
    distinct-append (entries_of s) (all_entries ss)
    ∙ and_from _ _ first.0.used.once (and_from _ _
    (apart_by (λ k. stripe_of k config.stripes == n) (entries_of s) (all_entries ss) own (later_entries config n (n + 1) ss (omega arith) later))
    (all_entries_once config (n + 1) ss later))

-- 3. Stripes of any shapes and numbers.

-- no key of a list is in any of the stripes
apart_all : (es : List (Bytes × Bytes)) (states : List State) → keys_apart es (all_entries states) ≡ not (list_any (λ s. not (keys_apart es (entries_of s))) states)
apart_all es [] = nothing es
  where
    nothing : (es : List (Bytes × Bytes)) → keys_apart es [] ≡ true
    nothing [] = refl
    nothing (e ∷ es) = nothing es
apart_all es (s ∷ ss) = apart-append es (entries_of s) (all_entries ss) ∙ ap (λ b. keys_apart es (entries_of s) && b) (apart_all es ss) ∙ both_not (keys_apart es (entries_of s)) _

-- so the keys of all these stripes are distinct exactly if no two of them share one
pub once_unless_shared : (states : List State) → All IsReached states → has_distinct_keys (all_entries states) ≡ not (some_share_key states)
once_unless_shared [] all = refl
once_unless_shared (s ∷ ss) all =
    distinct-append (entries_of s) (all_entries ss)
    ∙ (λ i. (All-head IsReached s ss all).used.once i && (apart_all (entries_of s) ss i && once_unless_shared ss (All-tail IsReached s ss all) i))
    ∙ neither (list_any (shares_key s) ss) (some_share_key ss)
