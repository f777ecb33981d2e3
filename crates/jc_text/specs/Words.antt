-- The kinds of word of a line. Each is a function from the word to its value or its fault.
--     ◌>>=◌                    what a step that may fail continues with
--     words_of                 the words of a line, separated by single spaces
--     is_digit, is_letter      a byte is a digit; a letter, a digit, an underscore or a dot
--     digits_from              a number that continues with these digits
--     number_of                a number, up to NUMBER_MAX, with no leading zero but 0 itself
--     caller_if                the session with a number, 1 to 32
--     caller_of                a session, s1 to s32
--     is_text                  at least one of the letters, and at most this number
--     key_of                   a key: letters, digits, underscores and dots
--     value_of                 a value: the same letters, or a tilde for the empty one
--     some_value               a value that is there, or its fault
--     value_or_none_of         a value, or a dash for none
--     words_onto               each word in turn, onto what was read of the words before it
--     Pairs                    keys with their values, in the order of a line
--     equals_at                the place of the first equals sign of a word, if it has one
--     key_part, value_part     what is before that sign, and the value after it
--     key_text                 a word up to that sign
--     names_key                a pair has the key
--     pair_onto                the pairs so far, with one more: the key is judged before the value
--     pairs_from, pairs_of     the pairs so far with those of more words, and the pairs of some words
--     distinct_pair_onto       the same, of pairs with a key each: one that has a pair already is a fault, before its value
--     distinct_pairs_from, distinct_pairs_of      the pairs so far with those of more words, and the pairs of some words, each key
--                              once
--     with_key, key_onto       the keys so far, with one more, and with that of one more word: one that is among them already is a
--                              fault
--     keys_from, distinct_keys_of
--                              the keys so far with those of more words, and the keys of some words
--     said_after, said         what pairs say of a key, after an answer so far, and from the beginning: the last pair with it
--                              counts
use Rattle.std.specs.Prelude.{◌==◌, ℕ, ◌+◌, ◌-◌, ◌*◌, List, [], ◌∷◌, ◌++◌, length, map, take, drop, Option, Some, None, Bool, true}
use Rattle.std.specs.Prelude.{◌&&◌, ◌||◌, nat_lt, nat_le, Result, Ok, Err, if◌then◌else◌, codes}
use Rattle.std.specs.Str.{bytes_eq}
use Rattle.std.specs.List.{list_all}
use Rattle.std.specs.List.{slice_split, position}
use Rattle.std.specs.Cmp.Lexicographic.{pointwise}
use Rattle.jc_types.specs.declared.limits.TheConstants.{KEY_MAX, NUMBER_MAX, VALUE_MAX}
use Rattle.jc_types.specs.Limits.{is_session}
use Rattle.jc_model.specs.Cache.{Bytes}
use Rattle.jc_model.specs.Batches.{is_among}
use Rattle.jc_model.specs.declared.event.LoadAnswer.{LoadAnswer}
use Rattle.jc_model.specs.declared.event.LoadAnswer.TheVariants.{Found, Nothing}
use Rattle.jc_text.specs.declared.fault.Fault.{Fault}
use Rattle.jc_text.specs.declared.fault.Fault.TheVariants.{BadNumber, BadCaller, BadKey, BadValue, RepeatedKey}

-- what a step that may fail continues with
infixl 10 ◌>>=◌
abbrev pub ◌>>=◌ : {A B : Type 0} → Result A Fault → (A → Result B Fault) → Result B Fault
(Ok x) >>= f = f x
(Err e) >>= f = Err e

abbrev pub words_of : List ℕ → List (List ℕ)
words_of line = slice_split (λ b. b == 32) line

abbrev pub is_digit : ℕ → Bool
is_digit b = nat_le 48 b && nat_le b 57

abbrev pub is_letter : ℕ → Bool
is_letter b = (nat_le 65 b && nat_le b 90) || (nat_le 97 b && nat_le b 122) || is_digit b || (b == 95) || (b == 46)

-- a number that continues with these digits
abbrev pub digits_from : ℕ → List ℕ → Result ℕ Fault
digits_from n [] = Ok n
digits_from n (b ∷ bs) =
    if is_digit b && nat_le (n * 10 + (b - 48)) NUMBER_MAX then digits_from (n * 10 + (b - 48)) bs else Err BadNumber

-- no leading zero but 0 itself
abbrev pub number_of : List ℕ → Result ℕ Fault
number_of [] = Err BadNumber
number_of (b ∷ bs) = if (b == 48) && nat_lt 0 (length bs) then Err BadNumber else digits_from 0 (b ∷ bs)

abbrev pub caller_if : Result ℕ Fault → Result ℕ Fault
caller_if (Ok n) = if is_session n then Ok n else Err BadCaller
caller_if (Err e) = Err BadCaller

abbrev pub caller_of : List ℕ → Result ℕ Fault
caller_of [] = Err BadCaller
caller_of (b ∷ bs) = if b == 115 then caller_if (number_of bs) else Err BadCaller

-- at least one of the letters, and at most this number
abbrev pub is_text : ℕ → List ℕ → Bool
is_text most word = nat_lt 0 (length word) && nat_le (length word) most && list_all is_letter word

abbrev pub key_of : List ℕ → Result Bytes Fault
key_of word = if is_text KEY_MAX word then Ok word else Err BadKey

abbrev pub value_of : List ℕ → Result Bytes Fault
value_of word = if bytes_eq word (codes "~") then Ok [] else if is_text VALUE_MAX word then Ok word else Err BadValue

-- a value, or a dash for none
abbrev pub some_value : Result Bytes Fault → Result (Option Bytes) Fault
some_value (Ok value) = Ok (Some value)
some_value (Err fault) = Err fault

abbrev pub value_or_none_of : List ℕ → Result (Option Bytes) Fault
value_or_none_of word = if bytes_eq word (codes "-") then Ok None else some_value (value_of word)

-- each word in turn, onto what was read of the words before it
abbrev pub words_onto : {A : Type 0} → (A → List ℕ → Result A Fault) → A → List (List ℕ) → Result A Fault
words_onto onto so_far [] = Ok so_far
words_onto onto so_far (word ∷ words) = onto so_far word >>= λ more. words_onto onto more words

-- pairs: a key, an equals sign and a value, cut at the first sign

abbrev pub Pairs : Type 0
Pairs = List (Bytes × Bytes)

abbrev pub key_part : Option ℕ → List ℕ → List ℕ
key_part None word = word
key_part (Some at) word = take at word

abbrev pub value_part : Option ℕ → List ℕ → Result Bytes Fault
value_part None word = Err BadValue
value_part (Some at) word = value_of (drop (at + 1) word)

abbrev pub equals_at : List ℕ → Option ℕ
equals_at word = position (λ b. b == 61) word

abbrev pub key_text : List ℕ → List ℕ
key_text word = key_part (equals_at word) word

abbrev pub names_key : Pairs → Bytes → Bool
names_key pairs key = is_among (map (λ pair. pair.0) pairs) key

-- the pairs so far, with one more: the key is judged before the value
unfoldable pub pair_onto : Pairs → List ℕ → Result Pairs Fault
pair_onto pairs word = do
  key ← key_of (key_part (equals_at word) word)
  value ← value_part (equals_at word) word
  Ok (pairs ++ (key, value) ∷ [])

abbrev pub pairs_from : Pairs → List (List ℕ) → Result Pairs Fault
pairs_from pairs words = words_onto pair_onto pairs words

abbrev pub pairs_of : List (List ℕ) → Result Pairs Fault
pairs_of words = pairs_from [] words

-- the same, if each key may come but once: a key that has a pair already is judged before its second value
unfoldable pub distinct_pair_onto : Pairs → List ℕ → Result Pairs Fault
distinct_pair_onto pairs word = do
  key ← key_of (key_part (equals_at word) word)
  new ← (if names_key pairs key then Err RepeatedKey else Ok true)
  value ← value_part (equals_at word) word
  Ok (pairs ++ (key, value) ∷ [])

abbrev pub distinct_pairs_from : Pairs → List (List ℕ) → Result Pairs Fault
distinct_pairs_from pairs words = words_onto distinct_pair_onto pairs words

abbrev pub distinct_pairs_of : List (List ℕ) → Result Pairs Fault
distinct_pairs_of words = distinct_pairs_from [] words

-- a key that is there already is not taken again
abbrev pub with_key : List Bytes → Bytes → Result (List Bytes) Fault
with_key keys key = if is_among keys key then Err RepeatedKey else Ok (keys ++ key ∷ [])

unfoldable pub key_onto : List Bytes → List ℕ → Result (List Bytes) Fault
key_onto keys word = do
  key ← key_of word
  with_key keys key

abbrev pub keys_from : List Bytes → List (List ℕ) → Result (List Bytes) Fault
keys_from keys words = words_onto key_onto keys words

abbrev pub distinct_keys_of : List (List ℕ) → Result (List Bytes) Fault
distinct_keys_of words = keys_from [] words

-- a later pair with the key takes the place of an answer so far
abbrev pub said_after : LoadAnswer → Pairs → Bytes → LoadAnswer
said_after answer [] key = answer
said_after answer (pair ∷ pairs) key = said_after (if pointwise ◌==◌ pair.0 key then Found pair.1 else answer) pairs key

abbrev pub said : Pairs → Bytes → LoadAnswer
said pairs key = said_after Nothing pairs key
