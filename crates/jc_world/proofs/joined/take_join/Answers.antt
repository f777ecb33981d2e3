use Rattle.jc_world.proofs.Common.{◌≡◌, true, is_some, None, sym, ap, ◌∙◌, JoinClaim}
use Rattle.jc_world.proofs.Maps.{joins_ordered, is_join_key, joins_tied, find-entries, remove-entries}
use Rattle.jc_world.proofs.joined.take_join.Goals as goal

pub unreachable-requires : goal.unreachable-requires
unreachable-requires c =
    let t : is_some {T = JoinClaim} None ≡ true = ap is_some (c.in-None.ensures.value ∙ find-entries joins_ordered is_join_key joins_tied c.args.joins.now (c.args.call, c.args.key.now)) ∙ c.requires in cc

pub returns-clause-join : goal.returns-clause-join
returns-clause-join c = sym (c.in-Some.ensures.value ∙ find-entries joins_ordered is_join_key joins_tied c.args.joins.now (c.args.call, c.args.key.now))

pub returns-clause-joins : goal.returns-clause-joins
returns-clause-joins c = remove-entries joins_ordered is_join_key joins_tied c.args.joins.now c.swap_remove.new.self (c.args.call, c.args.key.now) c.in-Some.ensures.updates
