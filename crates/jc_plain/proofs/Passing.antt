-- A closure that passes each call on to another one: what its calls left is what the other one's calls left. And when none is left.
use Rattle.std.proofs.Common.{◌≡◌, ◌↔◌, Bool, List, [], ◌∷◌, length, refl, ap, arith}
use Rattle.std.specs.Map.Calls.{RetainsPairs}
use Rattle.std.specs.List.Retain.{IsFiltered, ReturnsInTurn}

if_empty : {X : Type 0} (xs : List X) → length xs ≡ 0 → xs ≡ []
if_empty [] h = refl
if_empty (x ∷ xs) h = absurd (omega arith)

pub when_none : {X : Type 0} (P : Type 0) (xs : List X) → P ↔ (length xs ≡ 0) → P ↔ (xs ≡ [])
when_none P xs h = (λ p. if_empty xs (h.0 p), λ none. h.1 (ap length none))

module _ {Outer Inner : Type 0} (inner : Outer → Inner) where
  pub RetainsPairs-passed : {K X : Type 0} (T : Outer → K → X → Bool → X → Outer → Type 0) (U : Inner → K → X → Bool → X → Inner → Type 0)
      → ((s : Outer) (k : K) (v : X) (b : Bool) (w : X) (s' : Outer) → T s k v b w s' → U (inner s) k v b w (inner s'))
      → (s : Outer) (es kept : List (K × X)) → RetainsPairs T s es kept → RetainsPairs U (inner s) es kept
  RetainsPairs-passed T U step s [] kept none = none
  RetainsPairs-passed T U step s (e ∷ es) kept (b, w, s', rest, one, more, is) =
      (b, w, inner s', rest, step s e.0 e.1 b w s' one, RetainsPairs-passed T U step s' es rest more, is)

  ReturnsInTurn-passed : {X : Type 0} (T : Outer → X → Bool → Outer → Type 0) (U : Inner → X → Bool → Inner → Type 0)
      → ((s : Outer) (x : X) (b : Bool) (s' : Outer) → T s x b s' → U (inner s) x b (inner s'))
      → (s : Outer) (bs : List Bool) (xs : List X) (last : Outer) → ReturnsInTurn T s bs xs last → ReturnsInTurn U (inner s) bs xs (inner last)
  ReturnsInTurn-passed T U step s [] xs last same = ap inner same
  ReturnsInTurn-passed T U step s (b ∷ bs) [] last none = none
  ReturnsInTurn-passed T U step s (b ∷ bs) (x ∷ xs) last (s', one, more) =
      (inner s', step s x b s' one, ReturnsInTurn-passed T U step s' bs xs last more)

  pub IsFiltered-passed : {X : Type 0} (T : Outer → X → Bool → Outer → Type 0) (U : Inner → X → Bool → Inner → Type 0)
      → ((s : Outer) (x : X) (b : Bool) (s' : Outer) → T s x b s' → U (inner s) x b (inner s'))
      → (s : Outer) (xs ys : List X) → IsFiltered T s xs ys → IsFiltered U (inner s) xs ys
  IsFiltered-passed T U step s xs ys (bs, last, len, turns, are) = (bs, inner last, len, ReturnsInTurn-passed T U step s bs xs last turns, are)
