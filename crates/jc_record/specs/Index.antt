-- The keys that a record names, in the order in which it does, and the places of the lines that name each.
--     with_new, keys_of_words    the keys with one more, if it is new, and with those before the equals signs of words
--     keys_of_bulk, keys_of_line, keys_of_call
--                                the keys that a call names; none for a call of every key
--     key_alone, keys_named      the key of a word, and the keys that a line names
--     IndexValue, new_index      the keys, the lines that mention each, and the places of calls of every key
--     places_at                  the places of the lines that mention the key with a number
--     mention, mentions, with_named, index_onto, index_from, index_of
--                                the index with one more place of a key, of some keys, and of what a line names; and that of some
--                                lines
use Rattle.std.specs.Prelude.{◌==◌, ℕ, ◌+◌, List, [], ◌∷◌, ◌++◌, drop, Option, None, Some, Result, Ok, Err, if◌then◌else◌}
use Rattle.std.specs.List.{position_or_len}
use Rattle.std.specs.Cmp.Lexicographic.{pointwise}
use Rattle.indexmap.specs.IndexSet.{insert_key}
use Rattle.jc_model.specs.Batches.{is_among}
use Rattle.jc_model.specs.Cache.{Bytes}
use Rattle.jc_text.specs.declared.fault.Fault.{Fault}
use Rattle.jc_text.specs.declared.read.line.BulkLine.{BulkLine}
use Rattle.jc_text.specs.declared.read.line.BulkLine.TheVariants as bulk
use Rattle.jc_text.specs.declared.read.line.Line.{Line}
use Rattle.jc_text.specs.declared.read.line.Line.TheVariants as line
use Rattle.jc_text.specs.Words.{key_of, key_text}
use Rattle.jc_record.specs.declared.index.Mention.{Mention}
use Rattle.jc_record.specs.declared.note.NoteKind.{NoteKind}
use Rattle.jc_record.specs.declared.note.NoteKind.TheVariants as kind
use Rattle.jc_record.specs.Notes.{NoteValue, rest_of}
use Rattle.jc_record.specs.Words.{call_line}

abbrev pub with_new : List Bytes → Bytes → List Bytes
with_new keys key = if is_among keys key then keys else keys ++ key ∷ []

abbrev pub with_word : List Bytes → Result Bytes Fault → List Bytes
with_word keys (Ok key) = with_new keys key
with_word keys (Err fault) = keys

abbrev pub keys_of_words : List Bytes → List (List ℕ) → List Bytes
keys_of_words keys [] = keys
keys_of_words keys (word ∷ words) = keys_of_words (with_word keys (key_of (key_text word))) words

-- the words are those of the call
abbrev pub keys_of_bulk : List (List ℕ) → BulkLine → Option (List Bytes)
keys_of_bulk words (bulk.GetAll keys) = Some keys
keys_of_bulk words (bulk.PutAll pairs) = Some (keys_of_words [] (drop 1 words))
keys_of_bulk words (bulk.RemoveAll keys) = Some keys
keys_of_bulk words bulk.RemoveEvery = None
keys_of_bulk words bulk.Clear = None
keys_of_bulk words (bulk.LoadAll replace keys) = Some keys
keys_of_bulk words (bulk.InvokeAll keys) = Some keys

abbrev pub keys_of_line : List (List ℕ) → Line → Option (List Bytes)
keys_of_line words (line.Begin call session operation) = Some (with_new [] operation.key)
keys_of_line words (line.BeginBulk call session many) = keys_of_bulk words many
keys_of_line words other = Some []

abbrev pub keys_of_call : List (List ℕ) → Result Line Fault → Option (List Bytes)
keys_of_call words (Ok l) = keys_of_line words l
keys_of_call words (Err fault) = Some []

abbrev pub key_alone : List (List ℕ) → List Bytes
key_alone [] = []
key_alone (first ∷ words) = with_word [] (key_of first)

abbrev pub keys_in : List (List ℕ) → NoteKind → Option (List Bytes)
keys_in words kind.Set = Some (key_alone words)
keys_in words kind.Foreign = Some (key_alone words)
keys_in words kind.Call = keys_of_call words (call_line words)
keys_in words other = Some []

unfoldable pub keys_named : NoteValue → Option (List Bytes)
keys_named n = keys_in (rest_of n) n.kind

pub record IndexValue : Type 0 where
  pub keys : List Bytes
  pub mentions : List Mention
  pub every : List ℕ

abbrev pub new_index : IndexValue
new_index = record { keys = []; mentions = []; every = [] }

abbrev pub places_at : ℕ → List Mention → List ℕ
places_at number [] = []
places_at number (m ∷ more) = if m.key == number then m.place ∷ places_at number more else places_at number more

abbrev pub mention : ℕ → IndexValue → Bytes → IndexValue
mention place index key =
    record index {
      keys = insert_key (pointwise ◌==◌) index.keys key;
      mentions = index.mentions ++ record { key = position_or_len (pointwise ◌==◌ key) index.keys; place = place } ∷ [];
    }

abbrev pub mentions : ℕ → IndexValue → List Bytes → IndexValue
mentions place index [] = index
mentions place index (key ∷ keys) = mentions place (mention place index key) keys

abbrev pub with_named : ℕ → IndexValue → Option (List Bytes) → IndexValue
with_named place index None = record index { every = index.every ++ place ∷ [] }
with_named place index (Some keys) = mentions place index keys

abbrev pub index_from : ℕ → IndexValue → List NoteValue → IndexValue
index_from place index [] = index
index_from place index (n ∷ notes) = index_from (place + 1) (with_named place index (keys_named n)) notes

abbrev pub index_of : List NoteValue → IndexValue
index_of notes = index_from 0 new_index notes
