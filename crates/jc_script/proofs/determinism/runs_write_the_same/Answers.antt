use Rattle.jc_script.proofs.OneTranscript.{runs_same}
use Rattle.jc_script.proofs.determinism.runs_write_the_same.Goals as goal

pub returns : goal.returns
returns c = runs_same c.runs_are_determined.ensures
