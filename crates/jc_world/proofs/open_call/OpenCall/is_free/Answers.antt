use Rattle.jc_world.proofs.Common.{sym, ap, ◌∙◌, list_all, Tasks, CallState, open_in, open_keys, parts_of, joins_of, tasks_of, is_free_of}
use Rattle.jc_world.proofs.TaskLists.{all_among}
use Rattle.jc_world.proofs.open_call.OpenCall.is_free.Goals as goal

pub returns-in-Many : goal.returns-in-Many
returns-in-Many c =
    let free = is_free_of (parts_of c.args.held.now) (joins_of c.args.joins.now) c.args.call in
    c.are_free.ensures ∙ all_among free c.in-Many.ops.entries
    ∙ ap (λ (t : Tasks). list_all free (open_in (tasks_of t))) (sym c.in-Many.is) ∙ ap (λ (u : CallState). list_all free (open_keys u)) c.self.view_is
