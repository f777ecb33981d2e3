-- The atoms of an expectation, from its words.
--     in_script                 a fault in a word of a script, as a fault of a program's line
--     or_bad                    a number, or that the atom has no right shape
--     number_or_bad             a number: a word that is none doesn't have the shape of an atom
--     numbers_in, numbers_of    the numbers of a thread and of its item, from both sides of a dot, and from a word
--     cached_of, stored_of      the entry of a key in the cache, and in the store
--     replied_of                the reply to a call
--     pair_of                   an atom from the words on both sides of an equals sign
--     pair_in, atom_of          the atom of a word, from both sides of its equals sign, and from the word
--     is_about                  the left side names a key, or an item
--     is_pair, is_atom          a word has the shape of an atom, from both sides of its equals sign, and from the word
--     are_atoms                 each word has the shape of an atom, and there is at least one
--     atom_onto                 the atoms so far and one more
--     atoms_from                the atoms so far with those of more words
use Rattle.std.specs.Prelude.{ℕ, List, [], ◌∷◌, ◌++◌, drop, codes, Bool, true, false, ◌||◌, is_ok, Option, None, Some, Result, Ok}
use Rattle.std.specs.Prelude.{Err, if◌then◌else◌}
use Rattle.std.specs.Str.{bytes_eq}
use Rattle.std.specs.List.{list_all}
use Rattle.jc_explore.specs.declared.program.Item.{Item}
use Rattle.jc_text.specs.declared.fault.Fault.{Fault}
use Rattle.jc_text.specs.declared.fault.Fault.TheVariants.{BadLine}
use Rattle.jc_text.specs.Words.{number_of, key_of, value_or_none_of}
use Rattle.jc_text.specs.ProcessWords.{begins_with}
use Rattle.jc_litmus.specs.declared.program.LineFault.{LineFault}
use Rattle.jc_litmus.specs.declared.program.LineFault.TheVariants.{Script}
use Rattle.jc_litmus.specs.declared.program.Atom.{Atom}
use Rattle.jc_litmus.specs.declared.program.Atom.TheVariants.{Replied, Cached, Stored, Coherent, Differs}
use Rattle.jc_litmus.specs.Then.{◌>>=◌}
use Rattle.jc_litmus.specs.WordParts.{halves_of}
use Rattle.jc_litmus.specs.ReplyWords.{reply_said}
use Rattle.jc_litmus.specs.Calls.{call_named}

abbrev pub in_script : {X : Type 0} → Result X Fault → Result X LineFault
in_script (Ok x) = Ok x
in_script (Err fault) = Err (Script fault)

abbrev pub or_bad : Result ℕ Fault → Result ℕ LineFault
or_bad (Ok n) = Ok n
or_bad (Err fault) = Err (Script BadLine)

abbrev pub number_or_bad : List ℕ → Result ℕ LineFault
number_or_bad word = or_bad (number_of word)

abbrev pub numbers_in : Option (List ℕ × List ℕ) → Result (ℕ × ℕ) LineFault
numbers_in None = Err (Script BadLine)
numbers_in (Some halves) = number_or_bad halves.0 >>= λ thread. number_or_bad halves.1 >>= λ item. Ok (thread, item)

-- 46 is the dot
abbrev pub numbers_of : List ℕ → Result (ℕ × ℕ) LineFault
numbers_of word = numbers_in (halves_of 46 word)

unfoldable pub cached_of : List ℕ → List ℕ → Result Atom LineFault
cached_of key value = do
  key ← in_script (key_of key)
  value ← in_script (value_or_none_of value)
  Ok (Cached key value)

unfoldable pub stored_of : List ℕ → List ℕ → Result Atom LineFault
stored_of key value = do
  key ← in_script (key_of key)
  value ← in_script (value_or_none_of value)
  Ok (Stored key value)

unfoldable pub replied_of : List (List Item) → List ℕ → List ℕ → Result Atom LineFault
replied_of threads call reply = do
  numbers ← numbers_of call
  named ← call_named threads numbers.0 numbers.1
  reply ← reply_said named.kind reply
  Ok (Replied named.thread named.call reply)

abbrev pub pair_of : List (List Item) → List ℕ → List ℕ → Result Atom LineFault
pair_of threads what says =
    if begins_with (codes "cache.") what then cached_of (drop 6 what) says else
    if begins_with (codes "store.") what then stored_of (drop 6 what) says else
    replied_of threads what says

abbrev pub pair_in : List (List Item) → Option (List ℕ × List ℕ) → Result Atom LineFault
pair_in threads None = Err (Script BadLine)
pair_in threads (Some halves) = pair_of threads halves.0 halves.1

-- 61 is the equals sign
abbrev pub atom_of : List (List Item) → List ℕ → Result Atom LineFault
atom_of threads word =
    if bytes_eq word (codes "coherent") then Ok Coherent else
    if bytes_eq word (codes "differs") then Ok Differs else
    pair_in threads (halves_of 61 word)

abbrev pub is_about : List ℕ → Bool
is_about what = begins_with (codes "cache.") what || begins_with (codes "store.") what || is_ok (numbers_of what)

abbrev pub is_pair : Option (List ℕ × List ℕ) → Bool
is_pair None = false
is_pair (Some halves) = is_about halves.0

abbrev pub is_atom : List ℕ → Bool
is_atom word = if bytes_eq word (codes "coherent") || bytes_eq word (codes "differs") then true else is_pair (halves_of 61 word)

abbrev pub are_atoms : List (List ℕ) → Bool
are_atoms [] = false
are_atoms (word ∷ words) = list_all is_atom (word ∷ words)

abbrev pub atom_onto : List (List Item) → List Atom → List ℕ → Result (List Atom) LineFault
atom_onto threads atoms word = atom_of threads word >>= λ atom. Ok (atoms ++ atom ∷ [])

abbrev pub atoms_from : List (List Item) → List Atom → List (List ℕ) → Result (List Atom) LineFault
atoms_from threads atoms [] = Ok atoms
atoms_from threads atoms (word ∷ words) = atom_onto threads atoms word >>= λ more. atoms_from threads more words
