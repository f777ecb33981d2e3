-- The keys of a call, as it is given them.
--     put_keys     the keys of a call that puts are those of its entries
--     each_asks    the keys of a call that does the same at each differ, and each asks as the call does
use Rattle.jc_bulk.proofs.Common.{AsksAs, KeysAskAs, OutsideKind, Bytes, Op, same_keys, ops_with, put_ops, ◌≡◌, ◌==◌, List, [], ◌∷◌, refl, sym, ap, subst, ◌∙◌, pointwise, IsDistinct, keys_of}
use Rattle.jc_bulk.proofs.Filling.{same_asks}

pub put_keys : (entries : List (Bytes × Bytes)) → keys_of (put_ops entries) ≡ keys_of entries
put_keys [] = refl
put_keys (e ∷ entries) = ap (λ ks. e.0 ∷ ks) (put_keys entries)

pub each_asks : (kind : OutsideKind) (op : Op) (list keys : List Bytes) → AsksAs kind op → list ≡ keys → IsDistinct (pointwise ◌==◌) keys → IsDistinct (pointwise ◌==◌) (keys_of (ops_with op list)) × KeysAskAs kind (ops_with op list)
each_asks kind op list keys asks is distinct = (subst (IsDistinct (pointwise ◌==◌)) (sym (same_keys op list ∙ is)) distinct, same_asks kind op list asks)
