-- Where a word of an expectation (`T.I=REPLY`) is cut.
--     sign_at                 the place of the first byte that is this sign
--     halves_at, halves_of    the parts before a place and after it, and before the first sign and after it
use Rattle.std.specs.Prelude.{◌==◌, ℕ, ◌+◌, List, take, drop, Option, None, Some}
use Rattle.std.specs.List.{position}

abbrev pub sign_at : ℕ → List ℕ → Option ℕ
sign_at sign word = position (λ b. b == sign) word

abbrev pub halves_at : Option ℕ → List ℕ → Option (List ℕ × List ℕ)
halves_at None word = None
halves_at (Some at) word = Some (take at word, drop (at + 1) word)

abbrev pub halves_of : ℕ → List ℕ → Option (List ℕ × List ℕ)
halves_of sign word = halves_at (sign_at sign word) word
