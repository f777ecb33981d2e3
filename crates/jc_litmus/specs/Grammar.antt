-- Lines of a program that scripts spell in another way.
--     begin_words, begin_line               the words after `begin` in a line of a script that begins a call, from the call's own
--                                           words, and what that line asks for: its number and its session don't count
--     after_space                           a word after a space
--     process_text                          the line of a script in which an entry processor makes calls
--     asks, made_line                       what a line of a script asks for, from what was read of it, and from its bytes: it
--                                           asks for something
--     operation_in                          the operation that a line of a script begins
--     plain_calls, act_calls, line_calls, calls_of_text    the calls of an entry processor that fails neither by itself nor by
--                                           its loader, from its run, from what happens next to a call, from a line, and from its
--                                           text
--     is_outside                            a word names one who is outside the cache
--     failing_named                         the partner that may fail, and how, from the words that name it
--     with_number, may_fail_so, may_fail    the partner that may fail, and with which code, from the words of a line
--     with_fault                            the faults that may happen, with one more
--     quantifier_named                      the number of outcomes that an expectation is about
use Rattle.std.specs.Prelude.{ℕ, List, [], ◌∷◌, ◌++◌, codes, Bool, ◌&&◌, ◌||◌, Option, None, Some, Result, Ok, Err, if◌then◌else◌}
use Rattle.std.specs.Str.{bytes_eq}
use Rattle.jc_model.specs.declared.processor.EntryCall.{EntryCall}
use Rattle.jc_world.specs.declared.process.LoadSource.{LoadSource}
use Rattle.jc_world.specs.declared.process.LoadSource.TheVariants.{Store, Stated, Failing}
use Rattle.jc_explore.specs.declared.program.Faults.{Faults}
use Rattle.jc_text.specs.declared.fault.Fault.{Fault}
use Rattle.jc_text.specs.declared.fault.Fault.TheVariants.{BadLine}
use Rattle.jc_text.specs.declared.read.line.Line.{Line}
use Rattle.jc_text.specs.declared.read.line.Line.TheVariants as line
use Rattle.jc_text.specs.declared.read.line.ScriptAct.{ScriptAct}
use Rattle.jc_text.specs.declared.read.line.ScriptAct.TheVariants as act
use Rattle.jc_text.specs.declared.read.line.Operation.{Operation}
use Rattle.jc_text.specs.Words.{number_of}
use Rattle.jc_text.specs.Lines.{begin_of, read_line}
use Rattle.jc_litmus.specs.Atoms.{in_script}
use Rattle.jc_litmus.specs.Then.{◌>>=◌}
use Rattle.jc_litmus.specs.declared.program.LineFault.{LineFault}
use Rattle.jc_litmus.specs.declared.program.LineFault.TheVariants.{Script, NotACall}
use Rattle.jc_litmus.specs.declared.program.Quantifier.{Quantifier}
use Rattle.jc_litmus.specs.declared.program.Quantifier.TheVariants.{Never, Sometimes, Always}
use Rattle.jc_litmus.specs.declared.grammar.WhoFails.{WhoFails}
use Rattle.jc_litmus.specs.declared.grammar.WhoFails.TheVariants as who_fails

abbrev pub begin_words : List ℕ → List (List ℕ) → List (List ℕ)
begin_words first words = codes "1" ∷ codes "s1" ∷ first ∷ words

abbrev pub begin_line : List ℕ → List (List ℕ) → Result Line LineFault
begin_line first words = in_script (begin_of (begin_words first words))

abbrev pub after_space : List ℕ → List ℕ
after_space word = codes " " ++ word

-- of the words of its calls, each after a space
abbrev pub process_text : List ℕ → List ℕ
process_text calls = codes "process 1" ++ calls

abbrev pub asks : Result (Option Line) Fault → Result Line LineFault
asks (Ok (Some l)) = Ok l
asks (Ok None) = Err (Script BadLine)
asks (Err fault) = Err (Script fault)

abbrev pub made_line : List ℕ → Result Line LineFault
made_line text = asks (read_line text)

abbrev pub operation_in : Line → Result Operation LineFault
operation_in (line.Begin call session operation) = Ok operation
operation_in other = Err NotACall

abbrev pub plain_calls : LoadSource → List EntryCall → Option ℕ → Result (List EntryCall) LineFault
plain_calls Store calls None = Ok calls
plain_calls Store calls (Some code) = Err (Script BadLine)
plain_calls (Stated value) calls fail = Err (Script BadLine)
plain_calls (Failing code) calls fail = Err (Script BadLine)

abbrev pub act_calls : ScriptAct → Result (List EntryCall) LineFault
act_calls (act.Process load calls fail) = plain_calls load calls fail
act_calls other = Err (Script BadLine)

abbrev pub line_calls : Line → Result (List EntryCall) LineFault
line_calls (line.OfCall call next) = act_calls next
line_calls other = Err (Script BadLine)

abbrev pub calls_of_text : List ℕ → Result (List EntryCall) LineFault
calls_of_text text = made_line text >>= λ l. line_calls l

abbrev pub is_outside : List ℕ → Bool
is_outside word = bytes_eq word (codes "loader") || bytes_eq word (codes "writer") || bytes_eq word (codes "processor")

abbrev pub failing_named : List ℕ → List ℕ → Option WhoFails
failing_named who how =
    if bytes_eq who (codes "loader") && bytes_eq how (codes "fail") then Some who_fails.Load else
    if bytes_eq who (codes "writer") && bytes_eq how (codes "fail") then Some who_fails.Write else
    if bytes_eq who (codes "writer") && bytes_eq how (codes "lie") then Some who_fails.Lie else
    if bytes_eq who (codes "processor") && bytes_eq how (codes "fail") then Some who_fails.Process else
    None

abbrev pub with_number : WhoFails → Result ℕ Fault → Result (WhoFails × ℕ) Fault
with_number who (Ok code) = Ok (who, code)
with_number who (Err fault) = Err fault

abbrev pub may_fail_so : Option WhoFails → List ℕ → Result (WhoFails × ℕ) Fault
may_fail_so None code = Err BadLine
may_fail_so (Some who) code = with_number who (number_of code)

abbrev pub may_fail : List (List ℕ) → Result (WhoFails × ℕ) Fault
may_fail (who ∷ may ∷ how ∷ code ∷ []) =
    if bytes_eq may (codes "may") then may_fail_so (failing_named who how) code else Err BadLine
may_fail words = Err BadLine

abbrev pub with_fault : Faults → WhoFails → ℕ → Faults
with_fault faults who_fails.Load code = record faults { load = Some code }
with_fault faults who_fails.Write code = record faults { write = Some code }
with_fault faults who_fails.Lie code = record faults { lie = Some code }
with_fault faults who_fails.Process code = record faults { process = Some code }

abbrev pub quantifier_named : List ℕ → Option Quantifier
quantifier_named word =
    if bytes_eq word (codes "never") then Some Never else
    if bytes_eq word (codes "sometimes") then Some Sometimes else
    if bytes_eq word (codes "always") then Some Always else
    None
