use Rattle.jc_world.proofs.Common.{sym, ◌∙◌}
use Rattle.jc_world.proofs.TaskLists.{put_each_of-more}
use Rattle.jc_world.proofs.tasks.put_values.Goals as goal

pub loop-place-preserved : goal.loop-place-preserved
loop-place-preserved c =
    c.in_ok-insert-in-Some.ensures.entries
    ∙ put_each_of-more c.loop-place.ops c.args.entries.now.entries c.loop-place.place c.in-Some.key.now c.in-Some.value.now c.len-place-end.ensures.unique (sym c.in-Some.ensures.entry) c.loop-place.invariant
