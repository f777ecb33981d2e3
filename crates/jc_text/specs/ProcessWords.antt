-- The words of a `process` line, after the call's number: how the loader answers, the processor's calls, and a code.
--     Calls                     the calls of a processor so far, and the code with which it fails, if the line has one
--     begins_with               a word begins with this text
--     is_load_word, is_call_word, is_fail
--                               a word says how the loader answers; it is a call on the entry; it says that the processor fails
--     are_calls_from, are_calls     no word but calls, and at the end a failure; the same, whether the end has come or not
--     without_load              the words after the one for the loader, if there is one
--     has_process_shape         the words have this shape
--     source_of                 how the loader answers: as the store has it, if no word says it
--     call_of                   a call on the entry
--     with_word, calls_from     the calls so far and one word more, and several
--     is_entry_word, reads_entry_word      a word is one of all these; its code or its value can be read
--     calls_of                  the calls of these words, and the code
--     source_words, call_text, fail_words     how these are spelled
use Rattle.std.specs.Prelude.{ℕ, List, [], ◌∷◌, ◌++◌, take, drop, length, codes, decimal, Option, Some, None, Bool, true, false}
use Rattle.std.specs.Prelude.{not, ◌&&◌, ◌||◌, is_ok, Result, Ok, if◌then◌else◌}
use Rattle.std.specs.Str.{bytes_eq}
use Rattle.jc_model.specs.Cache.{Bytes}
use Rattle.jc_model.specs.declared.processor.EntryCall.{EntryCall}
use Rattle.jc_model.specs.declared.processor.EntryCall.TheVariants as entry
use Rattle.jc_world.specs.declared.process.LoadSource.{LoadSource}
use Rattle.jc_world.specs.declared.process.LoadSource.TheVariants.{Store, Stated, Failing}
use Rattle.jc_text.specs.declared.fault.Fault.{Fault}
use Rattle.jc_text.specs.Words.{◌>>=◌, number_of, value_of, value_or_none_of}
use Rattle.jc_text.specs.Printing.{value_text, value_or_none_text}

abbrev pub Calls : Type 0
Calls = List EntryCall × Option ℕ

-- 1. The shape of the words.

abbrev pub begins_with : List ℕ → List ℕ → Bool
begins_with text word = bytes_eq (take (length text) word) text

abbrev pub is_load_word : List ℕ → Bool
is_load_word word = begins_with (codes "loadfail=") word || begins_with (codes "loadsay=") word

abbrev pub is_call_word : List ℕ → Bool
is_call_word word =
    bytes_eq word (codes "get") || bytes_eq word (codes "exists") || bytes_eq word (codes "remove")
    || begins_with (codes "set=") word

abbrev pub is_fail : List ℕ → Bool
is_fail word = begins_with (codes "fail=") word

abbrev pub are_calls_from : Bool → List (List ℕ) → Bool
are_calls_from ended [] = true
are_calls_from ended (word ∷ words) = not ended && (is_call_word word || is_fail word) && are_calls_from (is_fail word) words

abbrev pub are_calls : List (List ℕ) → Bool
are_calls words = are_calls_from false words

abbrev pub without_load : List (List ℕ) → List (List ℕ)
without_load [] = []
without_load (word ∷ words) = if is_load_word word then words else word ∷ words

abbrev pub has_process_shape : List (List ℕ) → Bool
has_process_shape words = are_calls (without_load words)

-- 2. What the words say. Their shape is known.

abbrev pub source_of : List (List ℕ) → Result LoadSource Fault
source_of [] = Ok Store
source_of (word ∷ words) =
    if begins_with (codes "loadfail=") word then (number_of (drop 9 word) >>= λ code. Ok (Failing code)) else
    if begins_with (codes "loadsay=") word then (value_or_none_of (drop 8 word) >>= λ value. Ok (Stated value)) else
    Ok Store

abbrev pub call_of : List ℕ → Result EntryCall Fault
call_of word =
    if bytes_eq word (codes "get") then Ok entry.GetValue else
    if bytes_eq word (codes "exists") then Ok entry.Exists else
    if bytes_eq word (codes "remove") then Ok entry.Remove else
    (value_of (drop 4 word) >>= λ value. Ok (entry.SetValue value))

-- one word more: a code, or a call
abbrev pub with_word : List EntryCall → Option ℕ → List ℕ → Result Calls Fault
with_word calls fail word =
    if is_fail word then (number_of (drop 5 word) >>= λ code. Ok (calls, Some code)) else
    (call_of word >>= λ call. Ok (calls ++ call ∷ [], fail))

abbrev pub is_entry_word : List ℕ → Bool
is_entry_word word = is_load_word word || is_call_word word || is_fail word

-- a word of that shape
abbrev pub reads_entry_word : List ℕ → Bool
reads_entry_word word =
    if is_load_word word then is_ok (source_of (word ∷ [])) else is_ok (with_word [] None word)

abbrev pub calls_from : List EntryCall → Option ℕ → List (List ℕ) → Result Calls Fault
calls_from calls fail [] = Ok (calls, fail)
calls_from calls fail (word ∷ words) = with_word calls fail word >>= λ more. calls_from more.0 more.1 words

abbrev pub calls_of : List (List ℕ) → Result Calls Fault
calls_of words = calls_from [] None words

-- 3. How they are spelled.

abbrev pub source_words : LoadSource → List Bytes
source_words Store = []
source_words (Stated value) = (codes "loadsay=" ++ value_or_none_text value) ∷ []
source_words (Failing code) = (codes "loadfail=" ++ decimal code) ∷ []

abbrev pub call_text : EntryCall → Bytes
call_text entry.GetValue = codes "get"
call_text entry.Exists = codes "exists"
call_text entry.Remove = codes "remove"
call_text (entry.SetValue value) = codes "set=" ++ value_text value

abbrev pub fail_words : Option ℕ → List Bytes
fail_words None = []
fail_words (Some code) = (codes "fail=" ++ decimal code) ∷ []
