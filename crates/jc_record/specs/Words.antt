-- The words of a record's lines: what a call asks for, and what it was answered.
--     begin_words, call_line      what a call's words ask for, by the line of a script that begins it: its number and its session
--                                 are placeholders
--     form_of_reply, form_of_op, form_of_bulk, form_of
--                                 how a call answers: by a reply, by its operation, of many keys, and by what its words ask for
--     plain_told                  the answer of a call without a fault, from its only word
--     refusal_named, fault_told   a fault with its code, by its name, and from its words
--     all_told                    the answer of a call of many keys that has values
--     is_all, told_after, told_of the answer that words tell
--     is_named, said_of           whether a key is among those that words name, and what pairs say of it
--     keys_left                   the keys that a writer left: those after `but`, if it is there
--     are_keys, are_pairs         words are at least one key, and at least one pair
--     stored_told                 what the store has at a key
--     after_sign                  what follows the equals sign of a word
--     flag_said, sight_named, sight_of
--                                 a yes or no; what a processor saw, by the name before the equals sign, and from a word
--     effect_with, effect_after, effect_from
--                                 the effect of a processor after one more call on its entry, and after more of them
--     is_failed, has_failed       its load failed, at one call, and at any
--     net_of                      its net effect by what it saw: nothing if its load failed
--     end_named, is_end           how it ended
--     RunValue, new_run, run_onto, whole_run, run_of
--                                 its run, from the words of a line
use Rattle.std.specs.Prelude.{ℕ, ◌+◌, List, [], ◌∷◌, ◌++◌, length, drop, codes, Bool, true, false, ◌||◌, Option, None, Some, Result}
use Rattle.std.specs.Prelude.{Ok, Err, if◌then◌else◌}
use Rattle.std.specs.Str.{bytes_eq}
use Rattle.jc_types.specs.declared.refusal.Refusal.TheVariants.{LoaderFailed, WriterFailed, ProcessorFailed}
use Rattle.jc_model.specs.Cache.{Bytes}
use Rattle.jc_model.specs.Batches.{is_among}
use Rattle.jc_model.specs.declared.event.Effect.{Effect}
use Rattle.jc_model.specs.declared.event.Effect.TheVariants as effect
use Rattle.jc_model.specs.declared.event.LoadAnswer.{LoadAnswer}
use Rattle.jc_model.specs.declared.event.Op.{Op}
use Rattle.jc_model.specs.declared.event.ProcessAnswer.{ProcessAnswer}
use Rattle.jc_model.specs.declared.event.ProcessAnswer.TheVariants as process
use Rattle.jc_model.specs.declared.event.Reply.{Reply}
use Rattle.jc_model.specs.declared.event.Reply.TheVariants as reply
use Rattle.jc_model.specs.declared.processor.EntryAnswer.TheVariants as entry
use Rattle.jc_model.specs.declared.processor.EntryAnswer.{EntryAnswer}
use Rattle.jc_model.specs.declared.processor.EntryCall.TheVariants as entry_call
use Rattle.jc_model.specs.declared.processor.EntryCall.{EntryCall}
use Rattle.jc_model.specs.Group.{nothing_said}
use Rattle.jc_model.specs.Table.{is_process_given, reply_after}
use Rattle.jc_check.specs.declared.record.EntrySight.{EntrySight}
use Rattle.jc_check.specs.declared.record.Stored.{Stored}
use Rattle.jc_check.specs.declared.record.Stored.TheVariants.{Unknown, Known}
use Rattle.jc_text.specs.declared.fault.Fault.{Fault}
use Rattle.jc_text.specs.declared.fault.Fault.TheVariants.{BadLine}
use Rattle.jc_text.specs.declared.read.line.BulkLine.{BulkLine}
use Rattle.jc_text.specs.declared.read.line.BulkLine.TheVariants as bulk
use Rattle.jc_text.specs.declared.read.line.Line.{Line}
use Rattle.jc_text.specs.declared.read.line.Line.TheVariants as line
use Rattle.jc_text.specs.Lines.{begin_of}
use Rattle.jc_text.specs.Words.{◌>>=◌, Pairs, distinct_keys_of, key_text, number_of, pairs_of, said, value_of, value_or_none_of}
use Rattle.jc_text.specs.Words.{words_onto}
use Rattle.jc_record.specs.declared.told.AnswerForm.{AnswerForm}
use Rattle.jc_record.specs.declared.told.AnswerForm.TheVariants as form
use Rattle.jc_record.specs.declared.told.Told.{Told}
use Rattle.jc_record.specs.declared.told.Told.TheVariants as told

-- 1. Calls.

abbrev pub begin_words : List (List ℕ) → List (List ℕ)
begin_words words = codes "1" ∷ codes "s1" ∷ words

abbrev pub call_line : List (List ℕ) → Result Line Fault
call_line words = begin_of (begin_words words)

-- by the answer that the operation has at a key with no entry
abbrev pub form_of_reply : Reply → AnswerForm
form_of_reply reply.Unit = form.Unit
form_of_reply (reply.Flag flag) = form.Flag
form_of_reply (reply.Value value) = form.Value
form_of_reply (reply.Fault fault) = form.Unit

abbrev pub form_of_op : Op → AnswerForm
form_of_op op = form_of_reply (reply_after op None nothing_said)

abbrev pub form_of_bulk : BulkLine → AnswerForm
form_of_bulk (bulk.GetAll keys) = form.All
form_of_bulk other = form.Unit

abbrev pub form_of : Line → AnswerForm
form_of (line.Begin call session operation) = form_of_op operation.op
form_of (line.BeginBulk call session many) = form_of_bulk many
form_of other = form.Unit

-- 2. Answers of calls.

abbrev pub plain_told : AnswerForm → List ℕ → Result Told Fault
plain_told form.Unit word = if bytes_eq word (codes "ok") then Ok (told.Reply reply.Unit) else Err BadLine
plain_told form.Flag word =
    if bytes_eq word (codes "true") then Ok (told.Reply (reply.Flag true)) else
    if bytes_eq word (codes "false") then Ok (told.Reply (reply.Flag false)) else
    Err BadLine
plain_told form.Value word = value_or_none_of word >>= λ value. Ok (told.Reply (reply.Value value))
plain_told form.All word = Err BadLine

abbrev pub refusal_named : List ℕ → ℕ → Result Told Fault
refusal_named name code =
    if bytes_eq name (codes "LoaderFailed") then Ok (told.Reply (reply.Fault (LoaderFailed code))) else
    if bytes_eq name (codes "WriterFailed") then Ok (told.Reply (reply.Fault (WriterFailed code))) else
    if bytes_eq name (codes "ProcessorFailed") then Ok (told.Reply (reply.Fault (ProcessorFailed code))) else
    Err BadLine

abbrev pub fault_told : List ℕ → List (List ℕ) → Result Told Fault
fault_told name [] = Err BadLine
fault_told name (code ∷ []) = number_of code >>= λ code. refusal_named name code
fault_told name (code ∷ other ∷ words) = Err BadLine

abbrev pub all_told : List (List ℕ) → Result Told Fault
all_told words = pairs_of words >>= λ pairs. Ok told.All

abbrev pub is_all : AnswerForm → List ℕ → Bool
is_all form.All first = bytes_eq first (codes "all")
is_all other first = false

abbrev pub told_after : AnswerForm → List ℕ → List (List ℕ) → Result Told Fault
told_after how first [] = plain_told how first
told_after how first (second ∷ words) = if bytes_eq first (codes "threw") then Ok told.Threw else fault_told first (second ∷ words)

abbrev pub told_of : AnswerForm → List (List ℕ) → Result Told Fault
told_of how [] = Err BadLine
told_of how (first ∷ words) = if is_all how first then all_told words else told_after how first words

-- 3. Keys and pairs.

abbrev pub is_named : Bytes → Result (List Bytes) Fault → Bool
is_named key (Ok keys) = is_among keys key
is_named key (Err fault) = false

abbrev pub said_of : Bytes → Result Pairs Fault → Option LoadAnswer
said_of key (Ok pairs) = Some (said pairs key)
said_of key (Err fault) = None

-- no word, or `but` and keys
abbrev pub keys_left : List (List ℕ) → Result (List Bytes) Fault
keys_left [] = Ok []
keys_left (but ∷ keys) = if bytes_eq but (codes "but") then distinct_keys_of keys else Err BadLine

-- at least one key, and at least one pair
abbrev pub are_keys : List (List ℕ) → Result (Unit {0}) Fault
are_keys [] = Err BadLine
are_keys (first ∷ words) = distinct_keys_of (first ∷ words) >>= λ keys. Ok tt

abbrev pub are_pairs : List (List ℕ) → Result (Unit {0}) Fault
are_pairs [] = Err BadLine
are_pairs (first ∷ words) = pairs_of (first ∷ words) >>= λ pairs. Ok tt

-- 63 is the question mark
abbrev pub stored_told : List ℕ → Result Stored Fault
stored_told word = if bytes_eq word (codes "?") then Ok Unknown else (value_or_none_of word >>= λ value. Ok (Known value))

-- 4. Entry processors.

abbrev pub after_sign : List ℕ → List ℕ
after_sign word = drop (length (key_text word) + 1) word

abbrev pub flag_said : List ℕ → Result Bool Fault
flag_said word = if bytes_eq word (codes "true") then Ok true else if bytes_eq word (codes "false") then Ok false else Err BadLine

abbrev pub sight_named : List ℕ → List ℕ → Result EntrySight Fault
sight_named name says =
    if bytes_eq name (codes "get")
    then (value_or_none_of says >>= λ value. Ok (record { call = entry_call.GetValue; answer = entry.Value value })) else
    if bytes_eq name (codes "getfails")
    then (number_of says >>= λ code. Ok (record { call = entry_call.GetValue; answer = entry.Failed code })) else
    if bytes_eq name (codes "exists")
    then (flag_said says >>= λ flag. Ok (record { call = entry_call.Exists; answer = entry.Present flag })) else
    if bytes_eq name (codes "set")
    then (value_of says >>= λ value. Ok (record { call = entry_call.SetValue value; answer = entry.Done })) else
    Err BadLine

abbrev pub sight_of : List ℕ → Result EntrySight Fault
sight_of word =
    if bytes_eq word (codes "remove")
    then Ok (record { call = entry_call.Remove; answer = entry.Done })
    else sight_named (key_text word) (after_sign word)

abbrev pub effect_with : Effect → EntryCall → Effect
effect_with so_far entry_call.GetValue = so_far
effect_with so_far entry_call.Exists = so_far
effect_with so_far (entry_call.SetValue value) = effect.Set value
effect_with so_far entry_call.Remove = effect.Remove

abbrev pub effect_after : Effect → EntrySight → Effect
effect_after so_far sight = effect_with so_far sight.call

abbrev pub effect_from : Effect → List EntrySight → Effect
effect_from so_far [] = so_far
effect_from so_far (sight ∷ sights) = effect_from (effect_after so_far sight) sights

abbrev pub is_failed : EntryAnswer → Bool
is_failed (entry.Failed code) = true
is_failed other = false

abbrev pub has_failed : List EntrySight → Bool
has_failed [] = false
has_failed (sight ∷ sights) = if is_failed sight.answer then true else has_failed sights

abbrev pub net_of : List EntrySight → Effect
net_of sights = if has_failed sights then effect.Keep else effect_from effect.Keep sights

abbrev pub end_named : List EntrySight → List ℕ → List ℕ → Result ProcessAnswer Fault
end_named sights name says =
    if bytes_eq name (codes "returns") then (value_or_none_of says >>= λ value. Ok (process.Ended (net_of sights) value)) else
    if bytes_eq name (codes "fails") then (number_of says >>= λ code. Ok (process.Failed code)) else
    Err BadLine

abbrev pub is_end : List ℕ → Bool
is_end word = bytes_eq (key_text word) (codes "returns") || bytes_eq (key_text word) (codes "fails")

pub record RunValue : Type 0 where
  pub sights : List EntrySight
  pub end : ProcessAnswer

abbrev pub new_run : RunValue
new_run = record { sights = []; end = process.NotAsked }

-- no word follows the one that says how it ended
unfoldable pub run_onto : RunValue → List ℕ → Result RunValue Fault
run_onto so_far word =
    if is_process_given so_far.end then Err BadLine else
    if is_end word then (end_named so_far.sights (key_text word) (after_sign word) >>= λ end. Ok (record so_far { end = end })) else
    (sight_of word >>= λ sight. Ok (record so_far { sights = so_far.sights ++ sight ∷ [] }))

abbrev pub whole_run : RunValue → Result RunValue Fault
whole_run run = if is_process_given run.end then Ok run else Err BadLine

abbrev pub run_of : List (List ℕ) → Result RunValue Fault
run_of words = words_onto run_onto new_run words >>= λ run. whole_run run
