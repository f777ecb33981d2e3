use Rattle.jc_world.proofs.Common.{◌==◌, sym, ◌∙◌, pointwise, texts_ties, get-entries}
use Rattle.jc_world.proofs.Maps.{keys_ordered, nothing_at}
use Rattle.jc_world.proofs.held_keys.held_at.Goals as goal

pub returns-then-is_empty : goal.returns-then-is_empty
returns-then-is_empty c = sym (nothing_at keys_ordered (pointwise ◌==◌) texts_ties c.args.held.now c.args.key.now (c.is_empty.ensures.0 c.if-is_empty.true))

pub returns-else-is_empty : goal.returns-else-is_empty
returns-else-is_empty c = c.get.ensures.value ∙ get-entries c.args.held.now c.args.key.now
