-- The lines of a text: its bytes, cut at their line feeds.
--     pieces_of    what is between the line feeds; the last piece has none after it
use Rattle.std.specs.Prelude.{◌==◌, ℕ, List}
use Rattle.std.specs.List.{slice_split}

abbrev pub pieces_of : List ℕ → List (List ℕ)
pieces_of input = slice_split (λ b. b == 10) input
