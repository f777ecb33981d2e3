-- The default `load_all` of a loader: it loads one key after another, up to the first failure.
--     LoadsEach each key was loaded once, in their order, and the values found were put into the answers; the call fails with the
--               first load that failed, after which nothing was loaded
use Rattle.std.specs.Prelude.{◌≡◌, ◌⊎◌, ℕ, List, [], ◌∷◌, Result, Ok, Err, Option, None, Some}
use Rattle.jc_model.specs.Cache.{Bytes}
use Rattle.jc_outside.specs.Answers.{AnswersByKey, answers_with_found}

abbrev pub LoadsEach : {L : Type 0} → (L → Bytes → Result (Option Bytes) ℕ → List ℕ → Type 0) → (L → List ℕ)
    → L → List Bytes → AnswersByKey → Result (Unit {0}) ℕ → AnswersByKey → List ℕ → Type 0
LoadsEach loads state l [] answers result after end = (result ≡ Ok tt) × (after ≡ answers) × (end ≡ state l)
LoadsEach {L = L} loads state l (key ∷ keys) answers result after end =
    ((code : ℕ) × loads l key (Err code) end × (result ≡ Err code) × (after ≡ answers))
    ⊎ ((mid : L) × (found : Option Bytes) × loads l key (Ok found) (state mid)
    × LoadsEach loads state mid keys (answers_with_found answers key found) result after end)
