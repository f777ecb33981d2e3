-- The cache's own seats.
--     split_read, split_own, split_seats    one seat gives the next one out: what was read, and what it leaves
use Rattle.jc_cache.proofs.Common.{◌≡◌, ◌+◌, ◌<◌, ℕ, List, [], ◌∷◌, ◌++◌, length, map, take, drop, get_or, set, append_assoc, sym, ap, ◌∙◌, map-append, take_more}
use Rattle.jc_cache.proofs.Rows.{Seated, part_get, part_set}

-- at a place, the cache's seat gives the next seat out
module _ (own₀ own : List Seated) (i : ℕ) (t : Seated) (near : i < length own₀) where
  pub split_read : (f : Seated → Seated) → own ≡ map f (take i own₀) ++ drop i own₀ → t ≡ get_or own i t → t ≡ get_or own₀ i t
  split_read f is at = at ∙ ap (λ (xs : List Seated). get_or xs i t) is ∙ part_get f own₀ i t near

  pub split_own : (f : Seated → Seated) (u : Seated) → own ≡ map f (take i own₀) ++ drop i own₀ → t ≡ get_or own i t → u ≡ f t → set own i u ≡ map f (take (i + 1) own₀) ++ drop (i + 1) own₀
  split_own f u is at to =
      ap (λ (xs : List Seated). set xs i u) is ∙ ap (λ (x : Seated). set (map f (take i own₀) ++ drop i own₀) i x) (to ∙ ap f (split_read f is at)) ∙ part_set f own₀ i t near

  pub split_seats : (g : Seated → Seated) (seats₀ seats : List Seated) (s : Seated) → t ≡ get_or own₀ i t → seats ≡ seats₀ ++ map g (take i own₀) → s ≡ g t → seats ++ s ∷ [] ≡ seats₀ ++ map g (take (i + 1) own₀)
  split_seats g seats₀ seats s at are to =
      ap (λ (xs : List Seated). xs ++ s ∷ []) are ∙ append_assoc seats₀ (map g (take i own₀)) (s ∷ [])
      ∙ ap (λ (x : Seated). seats₀ ++ (map g (take i own₀) ++ x ∷ [])) (to ∙ ap g at)
      ∙ ap (λ (xs : List Seated). seats₀ ++ xs) (sym (map-append g (take i own₀) (get_or own₀ i t ∷ [])) ∙ ap (map g) (sym (take_more own₀ i t near)))
