-- Answers of which none was given yet, and the number of keys of entries that have each once.
use Rattle.std.proofs.Common.{◌≡◌, ◌==◌, ◌+◌, List, [], ◌∷◌, ◌++◌, length, None, Option, Bool, true, false, cond, Some, is_some, refl, sym, ap, ◌∙◌, arith}
use Rattle.std.specs.Map.{keys_of}
use Rattle.std.specs.List.{IsDistinct, AllByRecursion}
use Rattle.std.specs.Cmp.Lexicographic.{pointwise, texts_ties}
use Rattle.std.proofs.lemmas.Map.Keys.{IsDistinct-head, IsDistinct-tail}
use Rattle.std.specs.Ordering.{eq_by_cmp}
use Rattle.std.proofs.lemmas.Cmp.{nat_list_cmp_total}
use Rattle.std.proofs.lemmas.Map.Lookups.{exact_bytes}
use Rattle.std.specs.FinMap as finite
use Rattle.std.specs.FinMap.{same_map, from_entries, get-from_entries, get-insert, len, len-empty, len-insert}
use Rattle.jc_model.specs.Cache.{Bytes, key_cmp}
use Rattle.jc_batch.specs.Answers.{AnswersByKey, no_answers}
use Rattle.jc_batch.proofs.CallerLemmas.{each_put, insert-there, keys_ordered}

-- two insertions of one value may change places
swapped : (b c : Bool) (x y : Option (Option Bytes)) → cond b x (cond c x y) ≡ cond c x (cond b x y)
swapped true true x y = refl
swapped true false x y = refl
swapped false true x y = refl
swapped false false x y = refl

insert-insert : (m : AnswersByKey) (k q : Bytes) (v : Option Bytes) → finite.insert (finite.insert m q v) k v ≡ finite.insert (finite.insert m k v) q v
insert-insert m k q v = same_map nat_list_cmp_total exact_bytes _ _ (λ x.
    get-insert nat_list_cmp_total (finite.insert m q v) k v x ∙ ap (cond (eq_by_cmp key_cmp x k) (Some v)) (get-insert nat_list_cmp_total m q v x)
    ∙ swapped (eq_by_cmp key_cmp x k) (eq_by_cmp key_cmp x q) (Some v) (finite.get m x)
    ∙ sym (get-insert nat_list_cmp_total (finite.insert m k v) q v x ∙ ap (cond (eq_by_cmp key_cmp x q) (Some v)) (get-insert nat_list_cmp_total m k v x)))

-- one more key is asked
pub answers-push : (keys : List Bytes) (k : Bytes) → no_answers (keys ++ k ∷ []) ≡ finite.insert (no_answers keys) k None
answers-push [] k = refl
answers-push (q ∷ keys) k = ap (λ m. finite.insert m q None) (answers-push keys k) ∙ insert-insert (no_answers keys) q k None

-- a key that is asked already
none-answered : (keys : List Bytes) (k : Bytes) (answer : Option Bytes) → finite.get (no_answers keys) k ≡ Some answer → answer ≡ None
none-answered [] k answer is = let none : finite.get (no_answers []) k ≡ None = get-from_entries nat_list_cmp_total [] k in cc
none-answered (q ∷ keys) k answer is = each_put keys_ordered (λ k v. v ≡ None) (no_answers keys) q None refl (none-answered keys) k answer is

of-option : (keys : List Bytes) (k : Bytes) (found : Option (Option Bytes)) → finite.get (no_answers keys) k ≡ found → is_some found ≡ true → finite.get (no_answers keys) k ≡ Some None
of-option keys k (Some answer) is there = is ∙ ap (λ v. Some v) (none-answered keys k answer is)
of-option keys k None is there = cc

pub answers-again : (keys : List Bytes) (k : Bytes) → is_some (finite.get (no_answers keys) k) ≡ true → no_answers (keys ++ k ∷ []) ≡ no_answers keys
answers-again keys k there = answers-push keys k ∙ insert-there keys_ordered (no_answers keys) k None (of-option keys k (finite.get (no_answers keys) k) refl there)

-- a key that differs from those of all entries is found by no look-up
none_found : {X : Type 0} (q : Bytes) (es : List (Bytes × X)) → AllByRecursion (λ k. pointwise ◌==◌ q k ≡ false) (keys_of es) → finite.find key_cmp q es ≡ None
none_found q [] apart = refl
none_found q (e ∷ es) apart = ap (λ b. cond b (Some e.1) (finite.find key_cmp q es)) (sym (texts_ties q e.0) ∙ apart.0) ∙ none_found q es apart.1

-- with each key once there are as many keys as entries
pub len_once : {X : Type 0} (es : List (Bytes × X)) → IsDistinct (pointwise ◌==◌) (keys_of es) → len (from_entries {R = key_cmp} es) ≡ length es
len_once {X} [] d = len-empty key_cmp X
len_once {X} (e ∷ es) d =
    let missing : finite.get (from_entries {R = key_cmp} es) e.0 ≡ None = get-from_entries nat_list_cmp_total es e.0 ∙ none_found e.0 es (IsDistinct-head (pointwise ◌==◌) e.0 (keys_of es) d) in
    len-insert nat_list_cmp_total (from_entries es) e.0 e.1
    ∙ ap (λ (o : Option X). cond (is_some o) (len (from_entries {R = key_cmp} es)) (len (from_entries {R = key_cmp} es) + 1)) missing
    ∙ (let more = len_once es (IsDistinct-tail (pointwise ◌==◌) e.0 (keys_of es) d) in omega (arith, more))
