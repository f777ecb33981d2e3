use Rattle.jc_script.proofs.Common.{None, pieces_of}
use Rattle.jc_script.proofs.PrintedMemory.{transcript_tells}
use Rattle.jc_script.proofs.determinism.memory_is_printed.Goals as goal

pub returns : goal.returns
returns c = λ input out end. transcript_tells None 1 (pieces_of input) out end
