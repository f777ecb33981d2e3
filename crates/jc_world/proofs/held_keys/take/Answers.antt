use Rattle.jc_world.proofs.Common.{◌≡◌, true, is_some, ◌==◌, None, sym, ap, ◌∙◌, pointwise, texts_ties, get-entries, Part}
use Rattle.jc_world.proofs.Maps.{keys_ordered, remove-entries}
use Rattle.jc_world.proofs.held_keys.take.Goals as goal

pub unreachable-requires : goal.unreachable-requires
unreachable-requires c =
    let t : is_some {T = Part} None ≡ true = ap is_some (c.in-None.ensures.value ∙ get-entries c.args.held.now c.args.key.now) ∙ c.requires in cc

pub returns-clause-one : goal.returns-clause-one
returns-clause-one c = sym (c.in-Some.ensures.value ∙ get-entries c.args.held.now c.args.key.now)

pub returns-clause-parts : goal.returns-clause-parts
returns-clause-parts c = remove-entries keys_ordered (pointwise ◌==◌) texts_ties c.args.held.now c.swap_remove.new.self c.args.key.now c.in-Some.ensures.updates
