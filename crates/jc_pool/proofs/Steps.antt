-- Each kind of step keeps the rule of a counter.
use Rattle.std.proofs.Common.{◌≡◌, ◌≢◌, ℕ, zero, suc, ◌+◌, ◌-◌, ◌/◌, ◌^◌, ◌%◌, ◌<◌, ◌≤◌, Bool, true, false, cond, eqb, nat_lt, min, max, List, [], ◌∷◌, ◌++◌, length, set, get_or, sum_by, sym, refl, ap, subst, ◌∙◌, ◌⊎◌, inl, inr, ⊎_elim, arith}
use Rattle.std.proofs.Math.Nat.{mod-eq_of_lt}
use Rattle.std.proofs.lemmas.Bool.Decides.{nat_tests}
use Rattle.std.proofs.lemmas.List.Sums.{sum_by-cons, sum_by-append, sum_by_push}
use mathlib.Core.Option.{some, none, some-injective, some-ne-none}
use lib.ListN.{get_elem?}
use Rattle.atomic_table.specs.Table.{State, Me, keeps, step, Allows, Splits, Joins, Seen}
use Rattle.atomic_table.proofs.Lists.{at_set, set_else}
use Rattle.jc_pool.specs.declared.view.JobPlan.{JobPlan}
use Rattle.jc_pool.specs.declared.view.Claims.{Claims}
use Rattle.jc_pool.specs.Shares.{times, once_below}
use Rattle.jc_pool.specs.Views.{workers_of, least_above, spent_claims, after_claim, after_end, claims_after_split, split_off, claims_after_join}
use Rattle.jc_pool.specs.Rule.{ClaimsFit, CountsClaims, IsClaim}

-- 1. Lists of numbers.

pub times-append : (x : ℕ) (xs ys : List ℕ) → times x (xs ++ ys) ≡ times x xs + times x ys
times-append x xs ys = sum_by-append (λ y. cond (eqb y x) 1 0) xs ys

once_more : (x n : ℕ) → once_below x n + times x (n ∷ []) ≡ once_below x (n + 1)
once_more x n =
    let one = sum_by-cons (λ y. cond (eqb y x) 1 0) n [] in
    let more : once_below x n + cond (eqb n x) 1 0 ≡ once_below x (n + 1) = grind (arith, nat_tests) in
    omega arith

pub least_above-append : (xs ys : List ℕ) → least_above (xs ++ ys) ≡ max (least_above xs) (least_above ys)
least_above-append [] ys = let n : ℕ = least_above ys in let g : n ≡ max 0 n = omega arith in g
least_above-append (x ∷ xs) ys = let ih = least_above-append xs ys in omega arith

-- 2. Sums over the claimers.

total_set : (f : Claims → ℕ) (views : List Claims) (j : ℕ) (v w : Claims) → get_elem? views j ≡ some v → sum_by f (set views j w) + f v ≡ sum_by f views + f w
total_set f [] j v w e = absurd (some-ne-none v (sym e))
total_set f (x ∷ xs) zero v w e = let same : f x ≡ f v = ap f (some-injective x v e) in omega (arith, sum_by-cons f x xs, sum_by-cons f w xs)
total_set f (x ∷ xs) (suc j) v w e = let ih = total_set f xs j v w e in omega (arith, sum_by-cons f x xs, sum_by-cons f x (set xs j w))

total_le : (f : Claims → ℕ) (views : List Claims) (j : ℕ) (v : Claims) → get_elem? views j ≡ some v → f v ≤ sum_by f views
total_le f [] j v e = absurd (some-ne-none v (sym e))
total_le f (x ∷ xs) zero v e = let same : f x ≡ f v = ap f (some-injective x v e) in omega (arith, sum_by-cons f x xs)
total_le f (x ∷ xs) (suc j) v e = let ih = total_le f xs j v e in omega (arith, sum_by-cons f x xs)

total_sum : (f g : Claims → ℕ) (views : List Claims) → sum_by (λ v. f v + g v) views ≡ sum_by f views + sum_by g views
total_sum f g [] = refl
total_sum f g (x ∷ xs) = let ih = total_sum f g xs in omega (arith, sum_by-cons (λ v. f v + g v) x xs, sum_by-cons f x xs, sum_by-cons g x xs)

total_none : (f : Claims → ℕ) (views : List Claims) → ((k : ℕ) (u : Claims) → get_elem? views k ≡ some u → f u ≡ 0) → sum_by f views ≡ 0
total_none f [] h = refl
total_none f (x ∷ xs) h = let a = h 0 x refl in let b = total_none f xs (λ k. h (suc k)) in omega (arith, sum_by-cons f x xs)

-- if one claimer has all of g, the others have none
others_zero : (g : Claims → ℕ) → g spent_claims ≡ 0 → (views : List Claims) (j : ℕ) (v : Claims) → get_elem? views j ≡ some v → sum_by g views ≤ g v
    → (k : ℕ) (u : Claims) → k ≢ j → get_elem? views k ≡ some u → g u ≡ 0
others_zero g none_of views j v at le k u ne there =
    let a = total_set g views j v spent_claims at in
    let b = total_le g (set views j spent_claims) k u (set_else views j k spent_claims ne ∙ there) in
    omega arith

-- 3. One claimer among the others.

at_end : {A : Type 0} (l : List A) (a b : A) (j : ℕ) → get_elem? (l ++ a ∷ []) j ≡ some b → (get_elem? l j ≡ some b) ⊎ ((j ≡ length l) × (a ≡ b))
at_end [] a b zero e = inr (refl, some-injective a b e)
at_end [] a b (suc j) e = absurd (some-ne-none b (sym e))
at_end (x ∷ xs) a b zero e = inl e
at_end (x ∷ xs) a b (suc j) e = ⊎_elim (λ t. inl t) (λ t. inr (ap suc t.0, t.1)) (at_end xs a b j e)

each_set : (P : Claims → Type 0) (views : List Claims) (id : ℕ) (w : Claims) → ((j : ℕ) (u : Claims) → j ≢ id → get_elem? views j ≡ some u → P u) → P w
    → (j : ℕ) (u : Claims) → get_elem? (set views id w) j ≡ some u → P u
each_set P views id w others mine j u e = ⊎_elim (λ t. subst P t.1 mine) (λ t. others j u t.0 t.1) (at_set views id j w u e)

each_end : (P : Claims → Type 0) (views : List Claims) (w : Claims) → ((j : ℕ) (u : Claims) → get_elem? views j ≡ some u → P u) → P w
    → (j : ℕ) (u : Claims) → get_elem? (views ++ w ∷ []) j ≡ some u → P u
each_end P views w others mine j u e = ⊎_elim (λ t. others j u t) (λ t. subst P t.1 mine) (at_end views w u j e)

fit_later : (plan : JobPlan) (n m : ℕ) (v : Claims) → n ≤ m → ClaimsFit plan n v → ClaimsFit plan m v
fit_later plan n m v le fit = record {
  below = (let b : least_above v.claimed ≤ n = fit.below in omega arith);
  past = λ some_ended. let p : plan.pieces ≤ n = fit.past some_ended in omega arith;
  nobody = fit.nobody;
  planned = fit.planned;
}

fit_spent : (plan : JobPlan) (n : ℕ) → ClaimsFit plan n spent_claims
fit_spent plan n = record { below = omega arith; past = λ e. absurd (omega arith); nobody = λ _. refl; planned = λ e. absurd (omega arith) }

either_ended : (a b : ℕ) → 0 < a + b → (0 < a) ⊎ (0 < b)
either_ended zero b e = inr (omega arith)
either_ended (suc a) b e = inl (omega arith)

abbrev St : Type 0
St = State (Unit {0}) Claims

abbrev M : Type 0
M = Me (Unit {0}) Claims

-- 4. The steps.

-- one claimer changes, by a claim or an end
moved : (plan : JobPlan) (s : St) (r : CountsClaims plan s) (id : ℕ) (v w : Claims) (words : List ℕ) (number : ℕ) → words ≡ number ∷ [] → r.number ≤ number
    → get_elem? s.views id ≡ some v → workers_of w ≡ workers_of v
    → number ≤ plan.pieces + sum_by (λ u. u.ended) (set s.views id w)
    → ((x : ℕ) → sum_by (λ u. times x u.claimed) (set s.views id w) ≡ once_below x (min number plan.pieces))
    → ClaimsFit plan number w
    → CountsClaims plan record { words = words; homes = s.homes; views = set s.views id w }
moved plan s r id v w words number is up at same ends once fit = record {
  number = number;
  word = is;
  fits = r.fits;
  workers = (let a = total_set workers_of s.views id v w at in let b : sum_by workers_of s.views ≡ plan.workers = r.workers in omega arith);
  ends = ends;
  once = once;
  each = each_set (ClaimsFit plan number) s.views id w (λ j u _ e. fit_later plan r.number number u up (r.each j u e)) fit;
}

pub claims_it : (plan : JobPlan) (slots id : ℕ) (me : M) → 0 < me.0.working → Allows (CountsClaims plan) slots id me 0 (λ n. (n + 1) % 2 ^ 64) (IsClaim (step slots 0 1 0 none) me)
claims_it plan slots id me working s r wide at _ =
    let v = me.0 in let n : ℕ = r.number in let found : ℕ = get_or s.words 0 0 in let fit = r.each id v at in
    let is : found ≡ n = ap (λ ws. get_or ws 0 0) r.word in
    let pieces : v.plan.pieces ≡ plan.pieces = ap (λ (k : JobPlan). k.pieces) (fit.planned (omega arith)) in
    let sums : sum_by workers_of s.views ≡ sum_by (λ u. u.working) s.views + sum_by (λ u. u.ended) s.views = total_sum (λ u. u.working) (λ u. u.ended) s.views in
    let mine = total_le (λ u. u.working) s.views id v at in
    let all : sum_by workers_of s.views ≡ plan.workers = r.workers in let ends : n ≤ plan.pieces + sum_by (λ u. u.ended) s.views = r.ends in let fits : plan.pieces + plan.workers < 2 ^ 64 = r.fits in
    let small : n + 1 < 2 ^ 64 = omega arith in
    let words = set s.words 0 ((found + 1) % 2 ^ 64) in
    let word : words ≡ (n + 1) ∷ [] = ap (λ ws. set ws 0 ((get_or ws 0 0 + 1) % 2 ^ 64)) r.word ∙ ap (λ (k : ℕ). k ∷ []) (mod-eq_of_lt small) in
    let below : least_above v.claimed ≤ n = fit.below in
    let F : Bool → Type 0 = λ b. nat_lt found v.plan.pieces ≡ b → CountsClaims plan record { words = words; homes = s.homes; views = set s.views id (cond b (after_claim v found) (after_end v)) } in
    let hit : F true = λ t. let lt : found < v.plan.pieces = grind (arith, nat_tests) in let w : Claims = after_claim v found in
    moved plan s r id v w words (n + 1) word (omega arith) at refl
    (let o = total_set (λ u. u.ended) s.views id v w at in omega arith)
    (λ x. let f : Claims → ℕ = λ u. times x u.claimed in let o = total_set f s.views id v w at in let p = times-append x v.claimed (found ∷ []) in
    let m : once_below x n + times x (found ∷ []) ≡ once_below x (n + 1) = ap (λ k. once_below x n + times x (k ∷ [])) is ∙ once_more x n in
    let low : min n plan.pieces ≡ n = omega arith in let high : min (n + 1) plan.pieces ≡ n + 1 = omega arith in
    let e : sum_by f s.views ≡ once_below x n = r.once x ∙ ap (once_below x) low in
    let g : sum_by f (set s.views id w) ≡ once_below x (n + 1) = omega arith in g ∙ ap (once_below x) (sym high))
    record {
      below = (let a = least_above-append v.claimed (found ∷ []) in let g : least_above (v.claimed ++ found ∷ []) ≤ n + 1 = omega arith in g);
      past = λ e. let p : plan.pieces ≤ n = fit.past e in omega arith;
      nobody = λ e. let z : v.working + v.ended ≡ 0 = e in absurd (omega arith);
      planned = fit.planned;
    } in
    let miss : F false = λ t. let ge : v.plan.pieces ≤ found = grind (arith, nat_tests) in let w : Claims = after_end v in
    moved plan s r id v w words (n + 1) word (omega arith) at (omega arith)
    (let o = total_set (λ u. u.ended) s.views id v w at in omega arith)
    (λ x. let f : Claims → ℕ = λ u. times x u.claimed in let o = total_set f s.views id v w at in
    let same : min n plan.pieces ≡ min (n + 1) plan.pieces = omega arith in
    let g : sum_by f (set s.views id w) ≡ sum_by f s.views = omega arith in g ∙ r.once x ∙ ap (once_below x) same)
    record {
      below = omega arith;
      past = λ _. omega arith;
      nobody = λ e. let z : (v.working - 1) + (v.ended + 1) ≡ 0 = e in absurd (omega arith);
      planned = λ _. fit.planned (omega arith);
    } in (
      cond (nat_lt found v.plan.pieces) (after_claim v found) (after_end v),
      keeps,
      tt,
      elim (nat_lt found v.plan.pieces) as F [ true ↦ hit | false ↦ miss ] refl,
      (refl, omega arith),
    )

pub splits_it : (plan : JobPlan) (id : ℕ) (v : Claims) → 1 < v.working → Splits (CountsClaims plan) id v (claims_after_split v) (split_off v)
splits_it plan id v two s r at =
    let w : Claims = claims_after_split v in let u : Claims = split_off v in let views = set s.views id w in let fit = r.each id v at in
    let sum : (f : Claims → ℕ) → f w + f u ≡ f v → sum_by f (views ++ u ∷ []) ≡ sum_by f s.views = λ f e.
    let a = total_set f s.views id v w at in let b = sum_by_push f views u in omega arith in
    record {
      number = r.number;
      word = r.word;
      fits = r.fits;
      workers = sum workers_of (omega arith) ∙ r.workers;
      ends = (let a = sum (λ c. c.ended) (omega arith) in let c : r.number ≤ plan.pieces + sum_by (λ c. c.ended) s.views = r.ends in omega arith);
      once = λ x. sum (λ c. times x c.claimed) (omega arith) ∙ r.once x;
      each = each_end (ClaimsFit plan r.number) views u
          (each_set (ClaimsFit plan r.number) s.views id w (λ j c _ e. r.each j c e)
          record { below = fit.below; past = fit.past; nobody = λ e. (let z : (v.working - v.working / 2) + v.ended ≡ 0 = e in absurd (omega arith)); planned = λ _. fit.planned (omega arith) })
          record { below = omega arith; past = λ e. absurd (omega arith); nobody = λ _. refl; planned = λ _. fit.planned (omega arith) };
    }

pub joins_it : (plan : JobPlan) (id : ℕ) (v : Claims) (other : ℕ) (w : Claims) → 0 < workers_of v → Joins (CountsClaims plan) id v other w (claims_after_join v w) spent_claims
joins_it plan id v other w some_of s r at ne there =
    let both : Claims = claims_after_join v w in let mid = set s.views id both in let views = set mid other spent_claims in
    let fit = r.each id v at in
    let fit' : ClaimsFit plan r.number w = r.each other w (sym (set_else s.views id other both ne) ∙ there) in
    let sum : (f : Claims → ℕ) → f spent_claims ≡ 0 → f both ≡ f v + f w → sum_by f views ≡ sum_by f s.views = λ f z b.
    let x = total_set f s.views id v both at in let y = total_set f mid other w spent_claims there in omega arith in
    record {
      number = r.number;
      word = r.word;
      fits = r.fits;
      workers = sum workers_of refl (omega arith) ∙ r.workers;
      ends = (let a = sum (λ u. u.ended) refl refl in let c : r.number ≤ plan.pieces + sum_by (λ u. u.ended) s.views = r.ends in omega arith);
      once = λ x. sum (λ u. times x u.claimed) refl (times-append x v.claimed w.claimed) ∙ r.once x;
      each = each_set (ClaimsFit plan r.number) mid other spent_claims
          (λ j u _ e. each_set (ClaimsFit plan r.number) s.views id both (λ k x _ h. r.each k x h)
          record {
            below = (let a = least_above-append v.claimed w.claimed in let b : least_above v.claimed ≤ r.number = fit.below in let c : least_above w.claimed ≤ r.number = fit'.below in
                let g : least_above (v.claimed ++ w.claimed) ≤ r.number = omega arith in g);
            past = λ e. ⊎_elim (λ t. fit.past t) (λ t. fit'.past t) (either_ended v.ended w.ended e);
            nobody = λ e. (let z : (v.working + w.working) + (v.ended + w.ended) ≡ 0 = e in absurd (omega arith));
            planned = λ _. fit.planned some_of;
          }
          j u e)
          (fit_spent plan r.number);
    }

pub closes : (plan : JobPlan) (s : St) (id : ℕ) (v : Claims) → Seen (CountsClaims plan) id v s → 0 < plan.workers → v.working ≡ 0 → v.ended ≡ plan.workers
    → (x : ℕ) → times x v.claimed ≡ once_below x plan.pieces
closes plan s id v seen some_worker none_works all_ended x =
    let r = seen.0 in let at = seen.1 in let n : ℕ = r.number in
    let f : Claims → ℕ = λ u. times x u.claimed in
    let full : sum_by workers_of s.views ≤ workers_of v = (let a : sum_by workers_of s.views ≡ plan.workers = r.workers in omega arith) in
    let none_left : sum_by f (set s.views id spent_claims) ≡ 0 = total_none f (set s.views id spent_claims)
    (each_set (λ u. f u ≡ 0) s.views id spent_claims (λ j u ne e. ap (times x) ((r.each j u e).nobody (others_zero workers_of refl s.views id v at full j u ne e))) refl) in
    let a = total_set f s.views id v spent_claims at in
    let past : plan.pieces ≤ n = (r.each id v at).past (omega arith) in
    let low : min n plan.pieces ≡ plan.pieces = omega arith in
    let g : f v ≡ sum_by f s.views = omega arith in
    g ∙ r.once x ∙ ap (once_below x) low
