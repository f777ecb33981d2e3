-- The answer to a record, as text.
--     op_values               the values of an operation, each after a space
--     op_text, change_text    an operation, and what a writer was asked for
--     role_text               what a call did
--     load_text, write_text, process_failure_text, process_text
--                             what its loader, its writer and its processor answered, if they did
--     answered_text, end_text, span_text
--                             its answer, its end, and its thread with its time
--     question_text, answers_text, call_line, call_lines
--                             its line in two parts, its line, and the lines of some calls
--     KeyEnd                  how a key ends: explained, not explained, given up, or odd
--     key_text, key_lines     the line of a key, and its lines: for a key that isn't explained its calls follow
--     Tally, tally_with       how many keys ended how
--     count_text, verdicts_text, closing_text
--                             a text and how many, how many keys have which verdict, and the last line
--     fault_text              the only line for a record whose line has a fault, with a hint
use Rattle.std.specs.Prelude.{ℕ, ◌+◌, List, [], ◌++◌, length, codes, decimal, Option, None, Some, if◌then◌else◌}
use Rattle.std.specs.List.{flat_map}
use Rattle.jc_model.specs.Cache.{Bytes}
use Rattle.jc_model.specs.declared.event.Change.{Change}
use Rattle.jc_model.specs.declared.event.Change.TheVariants as change
use Rattle.jc_model.specs.declared.event.LoadAnswer.{LoadAnswer}
use Rattle.jc_model.specs.declared.event.LoadAnswer.TheVariants as load
use Rattle.jc_model.specs.declared.event.Op.{Op}
use Rattle.jc_model.specs.declared.event.Op.TheVariants as op
use Rattle.jc_model.specs.declared.event.ProcessAnswer.{ProcessAnswer}
use Rattle.jc_model.specs.declared.event.ProcessAnswer.TheVariants as process
use Rattle.jc_model.specs.declared.event.Reply.{Reply}
use Rattle.jc_model.specs.declared.event.WriteAnswer.{WriteAnswer}
use Rattle.jc_model.specs.declared.event.WriteAnswer.TheVariants as write
use Rattle.jc_check.specs.declared.record.Recorded.{Recorded}
use Rattle.jc_check.specs.declared.record.Role.{Role}
use Rattle.jc_check.specs.declared.record.Role.TheVariants as role
use Rattle.jc_text.specs.Printing.{reply_text, value_or_none_text, value_text}
use Rattle.jc_record.specs.declared.answer.KeyEnd.{KeyEnd}
use Rattle.jc_record.specs.declared.answer.KeyEnd.TheVariants.{Explained, NotExplained, Odd, GaveUp}
use Rattle.jc_record.specs.declared.answer.Tally.{Tally}

-- 1. A call.

unfoldable pub valued_text : List ℕ → Bytes → List ℕ
valued_text name value = name ++ codes " " ++ value_text value

unfoldable pub replace_if_text : Bytes → Bytes → List ℕ
replace_if_text old new = codes "replaceif " ++ value_text old ++ codes " " ++ value_text new

abbrev pub op_text : Op → List ℕ
op_text op.Get = codes "get"
op_text op.ContainsKey = codes "contains"
op_text (op.Put value) = valued_text (codes "put") value
op_text (op.GetAndPut value) = valued_text (codes "getput") value
op_text (op.PutIfAbsent value) = valued_text (codes "putif") value
op_text op.Remove = codes "remove"
op_text (op.RemoveIf old) = valued_text (codes "removeif") old
op_text op.GetAndRemove = codes "getremove"
op_text (op.Replace value) = valued_text (codes "replace") value
op_text (op.ReplaceIf old new) = replace_if_text old new
op_text (op.GetAndReplace value) = valued_text (codes "getreplace") value
op_text op.Clear = codes "clear"
op_text (op.LoadAll replace) = if replace then codes "loadall replace" else codes "loadall keep"
op_text op.Invoke = codes "invoke"

abbrev pub change_text : Change → List ℕ
change_text (change.Write value) = valued_text (codes "write") value
change_text change.Delete = codes "delete"

unfoldable pub foreign_text : Option Change → List ℕ
foreign_text None = codes "another program"
foreign_text (Some asked) = codes "another program: " ++ change_text asked

abbrev pub role_text : Recorded → Role → List ℕ
role_text c role.Call = op_text c.op
role_text c role.Foreign = foreign_text c.change
role_text c role.Forgotten = op_text c.op

abbrev pub load_text : LoadAnswer → List ℕ
load_text load.NotAsked = []
load_text (load.Found value) = valued_text (codes ", the loader found") value
load_text load.Nothing = codes ", the loader found nothing"
load_text (load.Failed code) = codes ", the loader failed with " ++ decimal code

abbrev pub write_text : WriteAnswer → List ℕ
write_text write.NotAsked = codes ", no answer"
write_text write.Done = codes ", done"
write_text (write.Failed code) = codes ", failed with " ++ decimal code

unfoldable pub asked_text : Change → WriteAnswer → List ℕ
asked_text asked answer = codes ", the writer was asked to " ++ change_text asked ++ write_text answer

abbrev pub writer_text : Role → Option Change → WriteAnswer → List ℕ
writer_text role.Foreign asked answer = []
writer_text other None answer = []
writer_text other (Some asked) answer = asked_text asked answer

unfoldable pub process_failure_text : ℕ → List ℕ
process_failure_text code = codes ", the processor failed with " ++ decimal code

abbrev pub process_text : ProcessAnswer → List ℕ
process_text process.NotAsked = []
process_text (process.Ended effect outcome) = codes ", the processor returned " ++ value_or_none_text outcome
process_text (process.Failed code) = process_failure_text code

abbrev pub answered_text : Role → Option Reply → List ℕ
answered_text role.Foreign reply = []
answered_text other None = codes ", no answer that counts"
answered_text other (Some reply) = codes ": " ++ reply_text reply

abbrev pub end_text : Option ℕ → List ℕ
end_text None = []
end_text (Some at) = decimal at

unfoldable pub span_text : Recorded → List ℕ
span_text c = codes "  t" ++ decimal c.thread ++ codes " " ++ decimal c.began ++ codes ".." ++ end_text c.ended ++ codes " "

unfoldable pub question_text : Recorded → List ℕ
question_text c = span_text c ++ role_text c c.role ++ load_text c.out.load

unfoldable pub answers_text : Recorded → List ℕ
answers_text c = process_text c.out.process ++ writer_text c.role c.change c.out.write ++ answered_text c.role c.reply

unfoldable pub call_line : Recorded → List ℕ
call_line c = question_text c ++ answers_text c ++ codes "\n"

abbrev pub call_lines : List Recorded → List ℕ
call_lines calls = flat_map call_line calls

-- 2. A key.

abbrev pub calls_text : ℕ → List ℕ
calls_text calls = decimal calls ++ codes " calls\n"

abbrev pub end_words : KeyEnd → List ℕ
end_words Explained = codes ": explained, "
end_words NotExplained = codes ": not explained, "
end_words Odd = codes ": not explained, a call asked twice or answered too soon, "
end_words (GaveUp states) = codes ": gave up after " ++ decimal states ++ codes " states, "

unfoldable pub key_line : Bytes → KeyEnd → List Recorded → List ℕ
key_line key end calls = key ++ end_words end ++ calls_text (length calls)

-- 3. The end.

abbrev pub tally_with : Tally → KeyEnd → Tally
tally_with t Explained = record t { explained = t.explained + 1 }
tally_with t NotExplained = record t { refuted = t.refuted + 1 }
tally_with t Odd = record t { refuted = t.refuted + 1 }
tally_with t (GaveUp states) = record t { stopped = t.stopped + 1 }

unfoldable pub count_text : List ℕ → ℕ → List ℕ
count_text text count = text ++ decimal count

abbrev pub verdicts_text : Tally → List ℕ
verdicts_text t = count_text (codes "keys explained: ") t.explained ++ count_text (codes ", not explained: ") t.refuted

abbrev pub closing_text : Tally → List ℕ
closing_text t = verdicts_text t ++ count_text (codes ", given up: ") t.stopped ++ codes "\n"
