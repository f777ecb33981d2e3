-- The answers of a `loadAll`, by key (`CacheLoader.loadAll`).
--     AnswersByKey       the answers: each key that was asked, with its value or none
--     AnswersState       the same, and the number of keys that there is memory for
--     answers_code       a code for answers, which their type needs
--     no_answers         no answers yet, of these keys
--     is_asked           whether a key was asked
--     answers_with       the answers with this value at a key, if the key was asked
--     answers_with_found the answers with what was found at a key: unchanged if nothing was
--     answer_of          the answer at a key, or none
use Rattle.std.specs.Prelude.{ℕ, Bool, List, map, Option, None, Some, is_some, if◌then◌else◌}
use Rattle.std.specs.Coded.{Coded, coded_list, coded_option, coded_ℕ}
use Rattle.std.specs.FinMap.{FinMap, get, insert, from_entries, code}
use Rattle.std.specs.Option.{option_map_or}
use Rattle.jc_model.specs.Cache.{Bytes, key_cmp}

abbrev pub AnswersByKey : Type 0
AnswersByKey = FinMap key_cmp (Option Bytes)

pub record AnswersState : Type 0 where
  pub by_key : AnswersByKey
  pub room : ℕ

abbrev pub answers_code : Coded AnswersByKey
answers_code = code (coded_list coded_ℕ) (coded_option (coded_list coded_ℕ))

abbrev pub no_answers : List Bytes → AnswersByKey
no_answers keys = from_entries (map (λ key. (key, None)) keys)

abbrev pub is_asked : AnswersByKey → Bytes → Bool
is_asked answers key = is_some (get answers key)

abbrev pub answers_with : AnswersByKey → Bytes → Bytes → AnswersByKey
answers_with answers key value = if is_asked answers key then insert answers key (Some value) else answers

abbrev pub answers_with_found : AnswersByKey → Bytes → Option Bytes → AnswersByKey
answers_with_found answers key None = answers
answers_with_found answers key (Some value) = answers_with answers key value

abbrev pub answer_of : AnswersByKey → Bytes → Option Bytes
answer_of answers key = option_map_or (λ answer. answer) (get answers key) None
