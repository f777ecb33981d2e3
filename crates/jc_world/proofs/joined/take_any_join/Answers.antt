use Rattle.jc_world.proofs.Maps.{joins_ordered, is_join_key, joins_tied, remove-entries, popped}
use Rattle.jc_world.proofs.joined.take_any_join.Goals as goal

pub returns-in-Some-clause-some : goal.returns-in-Some-clause-some
returns-in-Some-clause-some c =
    let entry = c.in-Some.entry in
    let updates = c.in-Some.ensures.updates in
    (entry.0, popped joins_ordered is_join_key joins_tied c.args.joins.now c.pop.new.self entry.0 entry.1 c.in-Some.ensures.entries updates, remove-entries joins_ordered is_join_key joins_tied c.args.joins.now c.pop.new.self entry.0 updates)
