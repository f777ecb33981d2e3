use Rattle.jc_engine.proofs.Increments.{by_table}
use Rattle.jc_engine.proofs.laws.events_by_table.Goals as goal

pub returns : goal.returns
returns c = by_table
