use Rattle.std.proofs.Common.{arith, ◌≡◌, sym, ◌∙◌}
use Rattle.std.proofs.lemmas.Grind.{common_steps}
use Rattle.jc_snapshot.proofs.OrderedEntries.{tree-entries}
use Rattle.jc_snapshot.proofs.sorted.list_of.Goals as goal

pub returns : goal.returns
returns g c =
    let all : c.loop-key.list.items ≡ c.args.tree.now.entries = grind (arith, common_steps) in
    all ∙ sym (tree-entries g.met.K.Ord.total c.requires c.args.tree.now c.len.ensures.ordered)
