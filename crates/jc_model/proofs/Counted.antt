-- Counts of a history, by its parts.
use Rattle.std.proofs.Common.{◌≡◌, ℕ, ◌+◌, List, [], ◌∷◌, ◌++◌, Bool, true, false, cond, ap, ◌∙◌, arith}
use Rattle.std.specs.List.{count_by}
use Rattle.std.proofs.lemmas.List.Sums.{sum_by-append}
use Rattle.jc_model.specs.Statistics.{Occurrence, is_hit, is_miss, is_put, is_removal, is_eviction, capped, more_if, StatisticsLaws}

count-append : {X : Type 0} (p : X → Bool) (xs ys : List X) → count_by p (xs ++ ys) ≡ count_by p xs + count_by p ys
count-append p xs ys = sum_by-append (λ x. cond (p x) 1 0) xs ys

capped-sum : (m n : ℕ) → capped (m + n) ≡ capped (capped m + capped n)
capped-sum m n = grind (arith)

capped-more : (m : ℕ) (b : Bool) → capped (m + (0 + cond b 1 0)) ≡ more_if b (capped m)
capped-more m true = grind (arith)
capped-more m false = grind (arith)

count-one : (p : Occurrence → Bool) (occurred : List Occurrence) (o : Occurrence) → capped (count_by p (occurred ++ o ∷ [])) ≡ more_if (p o) (capped (count_by p occurred))
count-one p occurred o = ap capped (count-append p occurred (o ∷ [])) ∙ capped-more (count_by p occurred) (p o)

count-row : (p : Occurrence → Bool) (first second : List Occurrence) → capped (count_by p (first ++ second)) ≡ capped (capped (count_by p first) + capped (count_by p second))
count-row p first second = ap capped (count-append p first second) ∙ capped-sum (count_by p first) (count_by p second)

pub counts : StatisticsLaws
counts = record {
  one_more = λ occurred o. λ i. record {
    hits = count-one is_hit occurred o i;
    misses = count-one is_miss occurred o i;
    puts = count-one is_put occurred o i;
    removals = count-one is_removal occurred o i;
    evictions = count-one is_eviction occurred o i;
  };
  append = λ first second. λ i. record {
    hits = count-row is_hit first second i;
    misses = count-row is_miss first second i;
    puts = count-row is_put first second i;
    removals = count-row is_removal first second i;
    evictions = count-row is_eviction first second i;
  };
}
