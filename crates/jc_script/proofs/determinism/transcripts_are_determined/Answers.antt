use Rattle.jc_script.proofs.Common.{None, pieces_of}
use Rattle.jc_script.proofs.OneTranscript.{transcript_same}
use Rattle.jc_script.proofs.determinism.transcripts_are_determined.Goals as goal

pub returns : goal.returns
returns c = λ input one other end last. transcript_same c.runs_are_determined.ensures None 1 (pieces_of input) one other end last
