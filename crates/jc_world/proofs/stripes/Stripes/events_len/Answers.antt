use Rattle.jc_world.proofs.Common.{length, ap, arith, history_at, OrderedStripes}
use Rattle.jc_world.proofs.Merging.{at_most, merged_length}
use Rattle.jc_world.proofs.stripes.Stripes.events_len.Goals as goal

pub returns : goal.returns
returns c =
    let items = c.self.inside.items.items in
    let turns = c.self.inside.turns.items in
    let len = c.len.ensures in
    let ok = c.self.inside.turns.ok in
    let merge = merged_length (history_at items) turns (at_most items turns c.self.invariant.turns) in
    let now = ap (λ (v : OrderedStripes). length v.order) c.self.view_is in
    omega arith
