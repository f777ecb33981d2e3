use Rattle.jc_world.proofs.Common.{◌≡◌, Some, None, Option, sym, ap, ◌∙◌, Caller, Bytes, JoinClaim, joins_of, JoinKey, join_key}
use Rattle.std.specs.FinMap as map
use Rattle.jc_world.proofs.Maps.{joins_ordered, is_join_key, joins_tied, find-entries, put-entries}
use Rattle.jc_world.proofs.joined.put_join.Goals as goal

-- what is read of a join is its call and its key
read : (join : JoinClaim) (caller : Caller) (key : Bytes) → caller ≡ join.caller → key ≡ join.key → ◌≡◌ {A = JoinKey} (caller.call, key) (join_key join)
read join caller key caller_is key_is i = ((caller_is i).call, key_is i)

pub unreachable-requires : goal.unreachable-requires
unreachable-requires c =
    let at : JoinKey = (c.caller.result.call, c.key.result.now) in
    let same = read c.args.join c.caller.result c.key.result.now c.caller.ensures c.key.ensures in
    let e : ◌≡◌ {A = Option JoinClaim} (Some c.in-Ok-Some._former) None =
    sym c.in-Ok-Some.field-0-is ∙ c.in-Ok-Some.ensures.old ∙ find-entries joins_ordered is_join_key joins_tied c.args.joins.now at ∙ ap (map.get (joins_of c.args.joins.now)) same ∙ c.requires.free in cc

pub returns : goal.returns
returns c =
    let at : JoinKey = (c.caller.result.call, c.key.result.now) in
    let same = read c.args.join c.caller.result c.key.result.now c.caller.ensures c.key.ensures in
    put-entries joins_ordered is_join_key joins_tied c.args.joins.now c.insert.new.self at c.args.join c.in-Ok-None.ensures.updates ∙ ap (λ p. map.insert (joins_of c.args.joins.now) p c.args.join) same
