-- How a call keeps its tasks: a map by key, in which a key that is settled keeps its place.
--     at_each-more, put_each_of-more
--                             one key more, and one entry more, which go last
--     put_in_place            a key that is there keeps its place
--     open_distinct, alone_differs, one_distinct
--                             of keys that differ the open ones differ; one key differs from no other
--     all_open                at each open key something is done
--     all_among, any_among    a test of the open keys, as a test of the tasks
--     absent_same             a key that isn't there can't be settled
--     count_each, count_put   all keys are open at first
--     open_append, count_found
--                             the open keys of a call that has taken more
--     open_counted            a key is open exactly if some are
--     count_settled           once an open key is settled, one less is open
--     count_within            no more keys are open than there are
--     reported_next           what a return of the writer shows, of a task and of those after it
use Rattle.jc_world.proofs.Common.{◌≡◌, ℕ, zero, suc, ◌+◌, ◌<◌, ◌≤◌, Bool, true, false, cond, not, ◌&&◌, ◌||◌, List, [], ◌∷◌, ◌++◌, length, get_or, take, is_some, is_none, ◌==◌, slice_get, Some, None, filter, Option, sym, refl, ap, ◌∙◌, arith, and_parts, and_from, nat_tests, map-append, filter-append, filter_map-append, length-append, take_more, IsDistinct-keys_filter, slice_get_within, slice_get_read, get_or_from_slice_get, pointwise, list_any, list_all, IsDistinct, keys_of, lookup, set_value, option_flatten, IndexMap, insert_entry, Bytes, Op, Task, at_each, put_each_of, op_in, is_open, open_in, IsDistinct-head, IsDistinct-tail, nat_list_eq_equiv, AllByRecursion, CallState, op_at, open_keys, Parts, reported_key, reported_keys}
use Rattle.jc_world.specs.declared.reports.WriterBatch.{WriterBatch}
use Rattle.jc_outside.proofs.CallerLemmas.{not_before, entry_last}

-- 1. New keys.

key_at : (entries : List (Bytes × Bytes)) (i : ℕ) (key value : Bytes) → slice_get entries i ≡ Some (key, value) → slice_get (keys_of entries) i ≡ Some key
key_at [] i key value at = cc
key_at (e ∷ entries) zero key value at = let is : e ≡ (key, value) = cc in ap (λ (x : Bytes × Bytes). Some x.0) is
key_at (e ∷ entries) (suc i) key value at = key_at entries i key value at

pub keys-at_each : (one : Op) (keys : List Bytes) → keys_of (at_each one keys) ≡ keys
keys-at_each one [] = refl
keys-at_each one (key ∷ keys) = ap (λ ks. key ∷ ks) (keys-at_each one keys)

keys-put_each_of : (entries : List (Bytes × Bytes)) → keys_of (put_each_of entries) ≡ keys_of entries
keys-put_each_of [] = refl
keys-put_each_of (e ∷ entries) = ap (λ ks. e.0 ∷ ks) (keys-put_each_of entries)

take-keys : (i : ℕ) (entries : List (Bytes × Bytes)) → keys_of (take i entries) ≡ take i (keys_of entries)
take-keys (suc i) (e ∷ entries) = ap (λ ks. e.0 ∷ ks) (take-keys i entries)
take-keys i entries = refl

-- one key more
pub at_each-more : {S : Type 0} (m : IndexMap Bytes (Option Op) S) (one : Op) (keys : List Bytes) (i : ℕ) (key : Bytes) → IsDistinct (pointwise ◌==◌) keys → i < length keys → key ≡ get_or keys i key
    → m.entries ≡ at_each one (take i keys) → insert_entry (pointwise ◌==◌) m.entries key (Some one) ≡ at_each one (take (i + 1) keys)
at_each-more m one keys i key distinct lt is made =
    let at : slice_get keys i ≡ Some key = slice_get_read keys (length keys) i key refl lt is in
    entry_last m key (Some one) (ap (λ es. list_any (pointwise ◌==◌ key) (keys_of es)) made ∙ ap (list_any (pointwise ◌==◌ key)) (keys-at_each one (take i keys)) ∙ not_before keys i key distinct at)
    ∙ ap (λ es. es ++ (key, Some one) ∷ []) made
    ∙ sym (ap (at_each one) (take_more keys i key lt ∙ ap (λ x. take i keys ++ x ∷ []) (sym is)) ∙ map-append (λ k. (k, Some one)) (take i keys) (key ∷ []))

-- one entry more
pub put_each_of-more : {S : Type 0} (m : IndexMap Bytes (Option Op) S) (entries : List (Bytes × Bytes)) (i : ℕ) (key value : Bytes) → IsDistinct (pointwise ◌==◌) (keys_of entries) → slice_get entries i ≡ Some (key, value)
    → m.entries ≡ put_each_of (take i entries) → insert_entry (pointwise ◌==◌) m.entries key (Some (Op.Put value)) ≡ put_each_of (take (i + 1) entries)
put_each_of-more m entries i key value distinct at made =
    let lt = slice_get_within entries i (key, value) at in
    let is = sym (get_or_from_slice_get entries i (key, value) (key, value) at) in
    entry_last m key (Some (Op.Put value))
    (ap (λ es. list_any (pointwise ◌==◌ key) (keys_of es)) made ∙ ap (list_any (pointwise ◌==◌ key)) (keys-put_each_of (take i entries) ∙ take-keys i entries) ∙ not_before (keys_of entries) i key distinct (key_at entries i key value at))
    ∙ ap (λ es. es ++ (key, Some (Op.Put value)) ∷ []) made
    ∙ sym (ap put_each_of (take_more entries i (key, value) lt ∙ ap (λ x. take i entries ++ x ∷ []) (sym is)) ∙ map-append (λ (e : Bytes × Bytes). (e.0, Some (Op.Put e.1))) (take i entries) ((key, value) ∷ []))

-- 2. A key that is settled.

-- a key that is there keeps its place
pub put_in_place : (test : Bytes) (tasks : List Task) (o : Option Op) → is_some (lookup (pointwise ◌==◌ test) tasks) ≡ true → insert_entry (pointwise ◌==◌) tasks test o ≡ set_value (pointwise ◌==◌ test) tasks o
put_in_place key [] o there = cc
put_in_place key (task ∷ tasks) o there =
    elim (pointwise ◌==◌ key task.0) as (λ b. is_some (cond b (Some task.1) (lookup (pointwise ◌==◌ key) tasks)) ≡ true → cond b ((task.0, o) ∷ tasks) (task ∷ insert_entry (pointwise ◌==◌) tasks key o) ≡ cond b ((task.0, o) ∷ tasks) (task ∷ set_value (pointwise ◌==◌ key) tasks o)) [
      | true ↦ λ there. refl
      | false ↦ λ there. ap (λ ts. task ∷ ts) (put_in_place key tasks o there)
    ] there

-- if something is done, the key is there
pub there_at : (key : Bytes) (tasks : List Task) → is_some (op_in tasks key) ≡ true → is_some (lookup (pointwise ◌==◌ key) tasks) ≡ true
there_at key tasks h = go (lookup (pointwise ◌==◌ key) tasks) h
  where
    go : (o : Option (Option Op)) → is_some (option_flatten o) ≡ true → is_some o ≡ true
    go None h = h
    go (Some one) h = refl

-- if nothing is done, nothing is settled
pub absent_same : (key : Bytes) (tasks : List Task) → op_in tasks key ≡ None → set_value (pointwise ◌==◌ key) tasks None ≡ tasks
absent_same key [] none = refl
absent_same key (task ∷ tasks) none =
    elim (pointwise ◌==◌ key task.0) as (λ b. option_flatten (cond b (Some task.1) (lookup (pointwise ◌==◌ key) tasks)) ≡ None → cond b ((task.0, None) ∷ tasks) (task ∷ set_value (pointwise ◌==◌ key) tasks None) ≡ task ∷ tasks) [
      | true ↦ λ none. ap (λ (o : Option Op). (task.0, o) ∷ tasks) (sym none)
      | false ↦ λ none. ap (λ ts. task ∷ ts) (absent_same key tasks none)
    ] none

-- 3. The open keys.

-- a test of the open keys, as a test of the tasks
pub all_among : (p : Bytes → Bool) (tasks : List Task) → list_all (λ (task : Task). is_none task.1 || p task.0) tasks ≡ list_all p (open_in tasks)
all_among p [] = refl
all_among p ((key, None) ∷ tasks) = all_among p tasks
all_among p ((key, Some op) ∷ tasks) = ap (λ b. p key && b) (all_among p tasks)

pub any_among : (p : Bytes → Bool) (tasks : List Task) → list_any (λ (task : Task). is_some task.1 && p task.0) tasks ≡ list_any p (open_in tasks)
any_among p [] = refl
any_among p ((key, None) ∷ tasks) = any_among p tasks
any_among p ((key, Some op) ∷ tasks) = ap (λ b. p key || b) (any_among p tasks)

-- of keys that differ the open ones differ
pub open_distinct : (tasks : List Task) → IsDistinct (pointwise ◌==◌) (keys_of tasks) → IsDistinct (pointwise ◌==◌) (open_in tasks)
open_distinct tasks d = IsDistinct-keys_filter (pointwise ◌==◌) is_open tasks d

-- the operation of an open key is found by the key
opens : (tasks : List Task) → IsDistinct (pointwise ◌==◌) (keys_of tasks) → list_all (λ key. is_some (op_in tasks key)) (open_in tasks) ≡ true
opens [] d = refl
opens (task ∷ tasks) d =
    let rest = later tasks (IsDistinct-head (pointwise ◌==◌) task.0 (keys_of tasks) d) (opens tasks (IsDistinct-tail (pointwise ◌==◌) task.0 (keys_of tasks) d)) in
    elim (is_open task) as (λ b. is_open task ≡ b → list_all here (keys_of (cond b (task ∷ filter is_open tasks) (filter is_open tasks))) ≡ true) [
      | true ↦ λ e. and_from _ _ (ap (λ b. is_some (option_flatten (cond b (Some task.1) (lookup (pointwise ◌==◌ task.0) tasks)))) (nat_list_eq_equiv.refl task.0) ∙ e) rest
      | false ↦ λ e. rest
    ] refl
  where
    here : Bytes → Bool
    here key = is_some (op_in (task ∷ tasks) key)

    later : (ts : List Task) → AllByRecursion (λ k. pointwise ◌==◌ task.0 k ≡ false) (keys_of ts) → list_all (λ key. is_some (op_in tasks key)) (open_in ts) ≡ true → list_all here (open_in ts) ≡ true
    later [] apart h = refl
    later (t ∷ ts) apart h =
        elim (is_open t) as (λ b. list_all (λ key. is_some (op_in tasks key)) (keys_of (cond b (t ∷ filter is_open ts) (filter is_open ts))) ≡ true → list_all here (keys_of (cond b (t ∷ filter is_open ts) (filter is_open ts))) ≡ true) [
          | true ↦ λ h.
              let parts = and_parts (is_some (op_in tasks t.0)) (list_all (λ key. is_some (op_in tasks key)) (open_in ts)) h in
              and_from _ _ (ap (λ b. is_some (option_flatten (cond b (Some task.1) (lookup (pointwise ◌==◌ t.0) tasks)))) (nat_list_eq_equiv.symm t.0 task.0 ∙ apart.0) ∙ parts.0) (later ts apart.1 parts.1)
          | false ↦ λ h. later ts apart.1 h
        ] h

pub all_open : (u : CallState) → IsDistinct (pointwise ◌==◌) (keys_of u.tasks) → list_all (λ key. is_some (op_at u key)) (open_keys u) ≡ true
all_open u d = opens u.tasks d

pub alone_differs : (key : Bytes) → IsDistinct (pointwise ◌==◌) (key ∷ [])
unfolding IsDistinct
alone_differs key = (tt, tt)

-- one key differs from no other
pub one_distinct : (key : Bytes) (one : Option Op) → IsDistinct (pointwise ◌==◌) (open_in ((key, one) ∷ []))
unfolding IsDistinct
one_distinct key one = open_distinct ((key, one) ∷ []) (tt, tt)

-- 4. How many keys are open.

-- all keys are open at first
pub count_each : (one : Op) (keys : List Bytes) → length (open_in (at_each one keys)) ≡ length (at_each one keys)
count_each one [] = refl
count_each one (key ∷ keys) = ap suc (count_each one keys)

pub count_put : (entries : List (Bytes × Bytes)) → length (open_in (put_each_of entries)) ≡ length (put_each_of entries)
count_put [] = refl
count_put (e ∷ entries) = ap suc (count_put entries)

pub open_append : (xs ys : List Task) → open_in (xs ++ ys) ≡ open_in xs ++ open_in ys
open_append xs ys = ap keys_of (filter-append is_open xs ys) ∙ map-append (λ (t : Task). t.0) (filter is_open xs) (filter is_open ys)

pub count_found : (tasks : List Task) (one : Op) (keys : List Bytes) → length (open_in (tasks ++ at_each one keys)) ≡ length (open_in tasks) + length (at_each one keys)
count_found tasks one keys = ap length (open_append tasks (at_each one keys)) ∙ length-append (open_in tasks) (open_in (at_each one keys)) ∙ ap (λ n. length (open_in tasks) + n) (count_each one keys)

-- a key is open exactly if some are
pub open_counted : (tasks : List Task) → list_any is_open tasks ≡ not (length (open_in tasks) == 0)
open_counted [] = refl
open_counted (task ∷ tasks) =
    elim (is_open task) as (λ b. (b || list_any is_open tasks) ≡ not (length (keys_of (cond b (task ∷ filter is_open tasks) (filter is_open tasks))) == 0)) [
      | true ↦ sym (ap not (no_zero (length (open_in tasks))))
      | false ↦ open_counted tasks
    ]
  where
    no_zero : (n : ℕ) → (suc n == 0) ≡ false
    no_zero n = grind (arith, nat_tests)

-- once an open key is settled, one less is open
pub count_settled : (key : Bytes) (tasks : List Task) → is_some (op_in tasks key) ≡ true → length (open_in tasks) ≡ suc (length (open_in (set_value (pointwise ◌==◌ key) tasks None)))
count_settled key [] there = cc
count_settled key (task ∷ tasks) there =
    elim (pointwise ◌==◌ key task.0) as (λ c. is_some (option_flatten (cond c (Some task.1) (lookup (pointwise ◌==◌ key) tasks))) ≡ true
    → length (open_in (task ∷ tasks)) ≡ suc (length (open_in (cond c ((task.0, None) ∷ tasks) (task ∷ set_value (pointwise ◌==◌ key) tasks None))))) [
      | true ↦ λ there. ap (λ b. length (keys_of (cond b (task ∷ filter is_open tasks) (filter is_open tasks)))) there
      | false ↦ λ there. beside (is_open task) (count_settled key tasks there)
    ] there
  where
    beside : (b : Bool) → length (open_in tasks) ≡ suc (length (open_in (set_value (pointwise ◌==◌ key) tasks None)))
        → length (keys_of (cond b (task ∷ filter is_open tasks) (filter is_open tasks))) ≡ suc (length (keys_of (cond b (task ∷ filter is_open (set_value (pointwise ◌==◌ key) tasks None)) (filter is_open (set_value (pointwise ◌==◌ key) tasks None)))))
    beside true rest = ap suc rest
    beside false rest = rest

-- no more keys are open than there are
pub count_within : (tasks : List Task) → length (open_in tasks) ≤ length tasks
count_within [] = omega (arith)
count_within (task ∷ tasks) =
    let rest = count_within tasks in
    elim (is_open task) as (λ b. length (keys_of (cond b (task ∷ filter is_open tasks) (filter is_open tasks))) ≤ suc (length tasks)) [ true ↦ omega (arith, rest) | false ↦ omega (arith, rest) ]

-- 5. What a return of the writer shows of the open keys: of a task, and of those after it.

pub reported_next : (batch : WriterBatch) (parts : Parts) (call : ℕ) (task : Task) (tasks : List Task)
    → reported_keys batch parts call (open_in (task ∷ tasks)) ≡ reported_keys batch parts call (open_in (task ∷ [])) ++ reported_keys batch parts call (open_in tasks)
reported_next batch parts call task tasks =
    ap (reported_keys batch parts call) (open_append (task ∷ []) tasks) ∙ filter_map-append (reported_key batch parts call) (open_in (task ∷ [])) (open_in tasks)
