use Rattle.jc_script.proofs.Common.{[], None, refl, pieces_of}
use Rattle.jc_script.proofs.ReachedWorlds.{script_stays}
use Rattle.jc_script.proofs.reached.transcripts_stay_reached.Goals as goal

pub returns : goal.returns
returns c = λ input out end transcript. script_stays c.starts_open.ensures [] [] None 1 (pieces_of input) out end (refl, refl) transcript
