-- What a call does at a key, by its place.
--     op_at      the operation at a place whose key is known
--     same_op    that of a call that does the same at each key
--     same_keys  the keys of such a call
--     put_at     the entry at a place is put there
use Rattle.jc_rounds.proofs.Common.{◌≡◌, ℕ, zero, suc, List, [], ◌∷◌, Some, option_map, slice_get, refl, sym, ap, ◌∙◌, same_Some, slice_get-map, keys_of, Bytes, Op, Put, ops_with, put_ops}
use Rattle.jc_rounds.proofs.SoFar.{key_at}

pub op_at : (targets : List (Bytes × Op)) (i : ℕ) (key k : Bytes) (op : Op) → slice_get targets i ≡ Some (k, op) → slice_get (keys_of targets) i ≡ Some key → slice_get targets i ≡ Some (key, op)
op_at targets i key k op at is = at ∙ ap (λ (x : Bytes). Some (x, op)) (same_Some k key (sym (key_at targets i k op at) ∙ is))

pub same_op : (op : Op) (keys : List Bytes) (i : ℕ) (key : Bytes) → slice_get (keys_of (ops_with op keys)) i ≡ Some key → slice_get (ops_with op keys) i ≡ Some (key, op)
same_op op [] i key at = cc
same_op op (k ∷ keys) zero key at = ap (λ (x : Bytes). Some (x, op)) (same_Some k key at)
same_op op (k ∷ keys) (suc i) key at = same_op op keys i key at

abbrev put_target : Bytes × Bytes → Bytes × Op
put_target e = (e.0, Put e.1)

pub put_at : (entries : List (Bytes × Bytes)) (i : ℕ) (key value : Bytes) → slice_get entries i ≡ Some (key, value) → slice_get (put_ops entries) i ≡ Some (key, Put value)
put_at entries i key value at = slice_get-map put_target entries i ∙ ap (option_map put_target) at

pub same_keys : (op : Op) (keys : List Bytes) → keys_of (ops_with op keys) ≡ keys
same_keys op [] = refl
same_keys op (k ∷ keys) = ap (λ ks. k ∷ ks) (same_keys op keys)
