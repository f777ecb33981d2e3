use Rattle.jc_world.proofs.Common.{List, sym, ap, ◌∙◌, length, Task, open_in}
use Rattle.jc_world.proofs.TaskLists.{count_put}
use Rattle.jc_world.proofs.tasks.puts.Goals as goal

pub returns-clause-counted : goal.returns-clause-counted
returns-clause-counted c =
    let made = c.in_ok-put_values.ensures in
    c.len-count.ensures.len ∙ ap length made ∙ sym (ap (λ (ts : List Task). length (open_in ts)) made ∙ count_put c.args.entries.now.entries)
