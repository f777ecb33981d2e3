-- The lines of a script, put together from their words, for the script of an outcome.
--     spaced             words, each after a space
--     open_text          the line that opens a cache of this shape, with these words for the flags that are on, each after a
--                        space
--     begin_text         the line by which a session begins a call, with the words of its operation
--     lone_text          a word and a call's number
--     coded_text         a word, a call's number and a code
--     coded_line_text    the line of a word, a call's number and a code as it is shown, if there is a code
use Rattle.std.specs.Prelude.{ℕ, List, [], ◌∷◌, ◌++◌, codes, decimal, Option, None, Some}
use Rattle.std.specs.List.{flat_map, join_with_byte}
use Rattle.jc_types.specs.declared.config.Config.{Config}
use Rattle.jc_text.specs.Spelled.{session_text}

abbrev pub spaced : List (List ℕ) → List ℕ
spaced words = flat_map (λ word. 32 ∷ word) words

abbrev pub open_text : Config → List ℕ → List ℕ
open_text config flags =
    join_with_byte 32 (codes "open" ∷ decimal config.stripes ∷ decimal config.capacity ∷ (decimal config.history ++ flags) ∷ [])

abbrev pub begin_text : ℕ → ℕ → List (List ℕ) → List ℕ
begin_text call session words = join_with_byte 32 (codes "begin" ∷ decimal call ∷ session_text session ∷ words)

abbrev pub lone_text : List ℕ → ℕ → List ℕ
lone_text name call = join_with_byte 32 (name ∷ decimal call ∷ [])

abbrev pub coded_text : List ℕ → ℕ → ℕ → List ℕ
coded_text name call code = join_with_byte 32 (name ∷ decimal call ∷ decimal code ∷ [])

abbrev pub coded_line_text : List ℕ → ℕ → Option ℕ → List ℕ
coded_line_text name call None = []
coded_line_text name call (Some code) = codes "| " ++ coded_text name call code ++ codes "\n"
