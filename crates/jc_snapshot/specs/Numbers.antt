-- Things by their numbers in a table.
--     IsNumberOf        a thing is at this place of a table
--     AreNumbers        things are, in their order, at these places of it
--     Continues         a list continues another
--     IsAbsent          a thing is nowhere in a list
--     IsDistinctTable   nothing is at two places of a list
use Rattle.std.specs.Prelude.{◌≡◌, ℕ, List, ◌++◌, map, Some, slice_get}

abbrev pub IsNumberOf : {A : Type 0} → List A → A → ℕ → Type 0
IsNumberOf table x n = slice_get table n ≡ Some x

abbrev pub AreNumbers : {A : Type 0} → List A → List A → List ℕ → Type 0
AreNumbers table xs ns = map (λ n. slice_get table n) ns ≡ map (λ x. Some x) xs

abbrev pub Continues : {A : Type 0} → List A → List A → Type 0
Continues {A} old new = (more : List A) × (new ≡ old ++ more)

abbrev pub IsAbsent : {A : Type 0} → List A → A → Type 0
IsAbsent table x = (n : ℕ) → slice_get table n ≡ Some x → ⊥

abbrev pub IsDistinctTable : {A : Type 0} → List A → Type 0
IsDistinctTable {A} table = (n m : ℕ) (x : A) → slice_get table n ≡ Some x → slice_get table m ≡ Some x → n ≡ m
