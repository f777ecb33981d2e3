use Rattle.std.proofs.Common.{◌↔◌, drop}
use Rattle.std.specs.FinMap.{from_entries}
use Rattle.jc_model.specs.declared.reader.Stage.TheVariants.{Outside}
use Rattle.jc_model.specs.Reader.{Accepts}
use Rattle.jc_model.proofs.reader.are_accepted.Given as goal

abbrev pub invariant-loop-place : goal.invariant-loop-place
invariant-loop-place l =
    Accepts l.config l.place l.contents l.stage (drop l.place l.events) ↔ Accepts l.config 0 (from_entries l.opening) Outside l.events
