-- What contracts see of the done values of entry processors, each what a processor did for one ask.
--     ProcessResult    what a processor did for an ask, the answer of its loader, and where these come from
--     effect_change    the change that the writer is to be asked for: the net effect, or none after a loader's or processor's fault
use Rattle.std.specs.Prelude.{Option, None, is_none, if◌then◌else◌}
use Rattle.jc_model.specs.declared.event.LoadAnswer.{LoadAnswer}
use Rattle.jc_model.specs.declared.event.WriteAnswer.TheVariants as write
use Rattle.jc_model.specs.declared.event.ProcessAnswer.{ProcessAnswer}
use Rattle.jc_model.specs.declared.event.Change.{Change}
use Rattle.jc_model.specs.Table.{early_fault, process_ask}
use Rattle.jc_outside.specs.declared.done.Origin.{Origin}

pub record ProcessResult (A : Type 0) : Type 0 where
  pub ask : A
  pub origin : Origin
  pub load : LoadAnswer
  pub process : ProcessAnswer

abbrev pub effect_change : LoadAnswer → ProcessAnswer → Option Change
effect_change load process =
    if is_none (early_fault (record { load = load; write = write.NotAsked; process = process })) then process_ask process else None
