use Rattle.jc_world.proofs.Common.{◌==◌, pointwise, texts_ties}
use Rattle.jc_world.proofs.Maps.{keys_ordered, remove-entries, popped}
use Rattle.jc_world.proofs.held_keys.take_any.Goals as goal

pub returns-in-Some-clause-some : goal.returns-in-Some-clause-some
returns-in-Some-clause-some c =
    let entry = c.in-Some.entry in
    let updates = c.in-Some.ensures.updates in
    (entry.0, popped keys_ordered (pointwise ◌==◌) texts_ties c.args.held.now c.pop.new.self entry.0 entry.1 c.in-Some.ensures.entries updates, remove-entries keys_ordered (pointwise ◌==◌) texts_ties c.args.held.now c.pop.new.self entry.0 updates)
