use Rattle.jc_world.proofs.Common.{is_some, sym, ap, ◌∙◌}
use Rattle.jc_world.proofs.Maps.{joins_ordered, is_join_key, joins_tied, find-entries, nothing_at}
use Rattle.jc_world.proofs.joined.has_join.Goals as goal

pub returns-then-is_empty : goal.returns-then-is_empty
returns-then-is_empty c = sym (ap is_some (nothing_at joins_ordered is_join_key joins_tied c.args.joins.now (c.args.call, c.args.key.now) (c.is_empty.ensures.0 c.if-is_empty.true)))

pub returns-else-is_empty : goal.returns-else-is_empty
returns-else-is_empty c = c.contains_key.ensures ∙ ap is_some (find-entries joins_ordered is_join_key joins_tied c.args.joins.now (c.args.call, c.args.key.now))
