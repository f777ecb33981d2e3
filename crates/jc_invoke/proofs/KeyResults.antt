-- The keys of a call that runs a processor on each.
--     as_many         there are as many operations as keys
--     keys_distinct   the keys of operations on keys that differ
use Rattle.jc_invoke.proofs.Common.{Bytes, Op, same_keys, ops_with, ◌≡◌, ◌==◌, suc, List, [], ◌∷◌, length, refl, sym, ap, subst, pointwise, IsDistinct, keys_of}

pub as_many : (op : Op) (keys : List Bytes) → length (ops_with op keys) ≡ length keys
as_many op [] = refl
as_many op (k ∷ keys) = ap suc (as_many op keys)

pub keys_distinct : (op : Op) (keys : List Bytes) → IsDistinct (pointwise ◌==◌) keys → IsDistinct (pointwise ◌==◌) (keys_of (ops_with op keys))
keys_distinct op keys d = subst (IsDistinct (pointwise ◌==◌)) (sym (same_keys op keys)) d
