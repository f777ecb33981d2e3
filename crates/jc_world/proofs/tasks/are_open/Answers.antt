use Rattle.jc_world.proofs.Common.{◌≡◌, not, ◌==◌, sym, ap, ◌∙◌, subst, length, list_any, is_open, open_in, tasks_of, IsCountKept}
use Rattle.jc_world.proofs.TaskLists.{open_counted}
use Rattle.jc_world.proofs.tasks.are_open.Goals as goal

pub returns-in-Many : goal.returns-in-Many
returns-in-Many c =
    let at : c.in-Many.count ≡ length (open_in c.in-Many.ops.entries) = subst IsCountKept c.in-Many.is c.requires in
    ap (λ n. not (n == 0)) at ∙ sym (open_counted c.in-Many.ops.entries) ∙ ap (λ t. list_any is_open (tasks_of t)) (sym c.in-Many.is)
