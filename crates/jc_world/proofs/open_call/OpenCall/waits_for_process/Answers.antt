use Rattle.jc_world.proofs.Common.{sym, ap, ◌∙◌, list_any, Tasks, CallState, open_in, open_keys, parts_of, tasks_of, passes_in, waits_for_process}
use Rattle.jc_world.proofs.TaskLists.{any_among}
use Rattle.jc_world.proofs.open_call.OpenCall.waits_for_process.Goals as goal

pub returns-in-Many : goal.returns-in-Many
returns-in-Many c =
    let waits = passes_in waits_for_process (parts_of c.args.held.now) c.args.call in
    c.one_waits.ensures ∙ any_among waits c.in-Many.ops.entries
    ∙ ap (λ (t : Tasks). list_any waits (open_in (tasks_of t))) (sym c.in-Many.is) ∙ ap (λ (u : CallState). list_any waits (open_keys u)) c.self.view_is
