-- The tasks of a call that has taken more keys.
--     lookup-found           a key is looked up among the tasks, and then among those of the keys that were found
--     op_of_found            at a key that was found the call's operation is done
--     still_done             what is done is done still
--     found_new              one key more, which is new
use Rattle.jc_world.proofs.Common.{◌≡◌, ℕ, zero, suc, ◌<◌, Bool, true, false, cond, List, [], ◌∷◌, ◌++◌, length, get_or, take, is_none, ◌==◌, slice_get, Some, None, Option, sym, refl, ap, ◌∙◌, and_parts, is_some-lookup, slice_get_read, pointwise, list_any, list_all, IsDistinct, lookup, option_or, option_flatten, none_is, Bytes, Op, Task, at_each, op_in, are_new}
use Rattle.jc_types.proofs.CallerLemmas.{none_from}
use Rattle.jc_outside.proofs.CallerLemmas.{new_at}
use Rattle.jc_world.proofs.TaskLists.{keys-at_each}

-- 1. Looking a key up.

pub lookup-found : (test : Bytes → Bool) (tasks more : List Task) → lookup test (tasks ++ more) ≡ option_or (lookup test tasks) (lookup test more)
lookup-found test [] more = refl
lookup-found test (task ∷ tasks) more =
    elim (test task.0) as (λ b. cond b (Some task.1) (lookup test (tasks ++ more)) ≡ option_or (cond b (Some task.1) (lookup test tasks)) (lookup test more)) [ true ↦ refl | false ↦ lookup-found test tasks more ]

pub op_of_found : (test : Bytes → Bool) (one : Op) (keys : List Bytes) (o : Option Op) → lookup test (at_each one keys) ≡ Some o → o ≡ Some one
op_of_found test one [] o h = cc
op_of_found test one (key ∷ keys) o h =
    elim (test key) as (λ b. cond b (Some (Some one)) (lookup test (at_each one keys)) ≡ Some o → o ≡ Some one) [
      | true ↦ λ h. let is : Some one ≡ o = cc in sym is
      | false ↦ λ h. op_of_found test one keys o h
    ] h

pub still_done : (tasks more : List Task) (key : Bytes) (op : Op) → op_in tasks key ≡ Some op → op_in (tasks ++ more) key ≡ Some op
still_done tasks more key op h = ap option_flatten (lookup-found (pointwise ◌==◌ key) tasks more) ∙ go (lookup (pointwise ◌==◌ key) tasks) h
  where
    go : (o : Option (Option Op)) → option_flatten o ≡ Some op → option_flatten (option_or o (lookup (pointwise ◌==◌ key) more)) ≡ Some op
    go None h = cc
    go (Some one) h = h

-- 2. One key more.

all_at : (p : Bytes → Bool) (keys : List Bytes) (i : ℕ) (key : Bytes) → list_all p keys ≡ true → slice_get keys i ≡ Some key → p key ≡ true
all_at p [] i key h at = cc
all_at p (k ∷ keys) zero key h at = let is : k ≡ key = cc in ap p (sym is) ∙ (and_parts (p k) (list_all p keys) h).0
all_at p (k ∷ keys) (suc i) key h at = all_at p keys i key (and_parts (p k) (list_all p keys) h).1 at

pub found_new : (tasks : List Task) (one : Op) (keys : List Bytes) (i : ℕ) (key : Bytes) → are_new tasks keys ≡ true → IsDistinct (pointwise ◌==◌) keys → i < length keys → key ≡ get_or keys i key
    → lookup (pointwise ◌==◌ key) (tasks ++ at_each one (take i keys)) ≡ None
found_new tasks one keys i key new distinct lt is =
    let test = pointwise ◌==◌ key in
    let at : slice_get keys i ≡ Some key = slice_get_read keys (length keys) i key refl lt is in
    let before : lookup test tasks ≡ None = none_is _ (all_at (λ k. is_none (lookup (pointwise ◌==◌ k) tasks)) keys i key new at) in
    let found : lookup test (at_each one (take i keys)) ≡ None =
    none_from _ (is_some-lookup test (at_each one (take i keys)) ∙ ap (list_any test) (keys-at_each one (take i keys)) ∙ new_at keys i key distinct lt is) in
    lookup-found test tasks (at_each one (take i keys)) ∙ ap (λ o. option_or o (lookup test (at_each one (take i keys)))) before ∙ found
