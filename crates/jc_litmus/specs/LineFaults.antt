-- The words of a fault of a program's line.
--     line_fault_text      the words: a script's are those of scripts
use Rattle.std.specs.Prelude.{ℕ, List, codes}
use Rattle.jc_text.specs.FaultTexts.{text_of}
use Rattle.jc_litmus.specs.declared.program.LineFault.{LineFault}
use Rattle.jc_litmus.specs.declared.program.LineFault.TheVariants as fault

abbrev pub line_fault_text : LineFault → List ℕ
line_fault_text (fault.Script why) = text_of why
line_fault_text fault.NoThread = codes "no thread"
line_fault_text fault.TooManyThreads = codes "too many threads"
line_fault_text fault.TooManyItems = codes "too many items"
line_fault_text fault.BadReply = codes "bad reply"
line_fault_text fault.NoSuchItem = codes "no such item"
line_fault_text fault.NotACall = codes "not a call"
