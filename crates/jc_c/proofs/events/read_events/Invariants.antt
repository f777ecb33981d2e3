use Rattle.std.proofs.Common.{◌≡◌, map, take}
use Rattle.jc_c.specs.Events.{read_event}
use Rattle.jc_c.proofs.events.read_events.Given as goal

abbrev pub invariant-loop-flat : goal.invariant-loop-flat
invariant-loop-flat l = l.list.items ≡ map read_event (take l.flat-index l.events)
