-- Rows of numbers, written one after another.
--     framed     a row after its length
--     flat       rows as one list
--     AreRows    each row is of the thing at its place
use Rattle.std.specs.Prelude.{ℕ, List, [], ◌∷◌, ◌++◌, length}

abbrev pub framed : List ℕ → List ℕ
framed row = length row ∷ row

abbrev pub flat : List (List ℕ) → List ℕ
flat [] = []
flat (row ∷ rows) = framed row ++ flat rows

abbrev pub AreRows : {A : Type 0} → (A → List ℕ → Type 0) → List A → List (List ℕ) → Type 0
AreRows Is [] [] = Unit {0}
AreRows Is [] (row ∷ rows) = ⊥
AreRows Is (x ∷ xs) [] = ⊥
AreRows Is (x ∷ xs) (row ∷ rows) = Is x row × AreRows Is xs rows
