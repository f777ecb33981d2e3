use Rattle.jc_world.proofs.Common.{is_some, sym, ap, ◌∙◌, get-entries, insert-entries, parts_of, has_progress, waits_for_load}
use Rattle.std.specs.FinMap as map
use Rattle.jc_world.proofs.held_keys.loader_answers.Goals as goal

pub loader_answers-requires-clause-waits : goal.loader_answers-requires-clause-waits
loader_answers-requires-clause-waits c = ap (has_progress waits_for_load) (c.in-Some.ensures.value ∙ get-entries c.args.held.now c.args.key.now) ∙ c.requires.waits

pub unreachable-requires : goal.unreachable-requires
unreachable-requires c = let e = ap (has_progress waits_for_load) (c.in-None.ensures.value ∙ get-entries c.args.held.now c.args.key.now) ∙ c.requires.waits in cc

pub returns : goal.returns
returns c =
    let m = c.args.held.now in
    let key = c.args.key.now in
    let there = sym (ap is_some c.in-Some.ensures.value) in
    let left = c.get_mut.follows.lender c.loader_answers.new.self in (
      c.in-Some.one.now,
      sym (c.in-Some.ensures.value ∙ get-entries m key),
      insert-entries m left key c.loader_answers.new.self ((c.get_mut.follows.holds c.loader_answers.new.self).3 there) ∙ ap (map.insert (parts_of m) key) c.loader_answers.ensures,
    )
