use Rattle.jc_script.proofs.OneTranscript.{printed_same}
use Rattle.jc_script.proofs.determinism.printed_memory_determines.Goals as goal

pub returns : goal.returns
returns c = printed_same c.runs_are_determined.ensures
