use Rattle.jc_world.proofs.Common.{◌≡◌, Some, None, Option, sym, ◌∙◌, get-entries, insert-entries, Part}
use Rattle.jc_world.proofs.held_keys.put_reserved.Goals as goal

pub unreachable-requires : goal.unreachable-requires
unreachable-requires c =
    let e : ◌≡◌ {A = Option Part} (Some c.in-Ok-Some._former) None = sym c.in-Ok-Some.field-0-is ∙ c.in-Ok-Some.ensures.old ∙ get-entries c.args.held.now c.args.key.now ∙ c.requires.free in cc

pub returns : goal.returns
returns c = insert-entries c.args.held.now c.insert.new.self c.args.key.now c.args.one c.in-Ok-None.ensures.updates
