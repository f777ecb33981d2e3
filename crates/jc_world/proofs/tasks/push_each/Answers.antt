use Rattle.jc_world.proofs.Common.{◌≡◌, ◌∷◌, ◌++◌, [], List, sym, ap, ◌∙◌, append_assoc, Task, open_in, reported_keys, parts_of, rules}
use Rattle.jc_world.proofs.TaskLists.{reported_next}
use Rattle.jc_world.proofs.tasks.push_each.Goals as goal

pub loop-key-preserved : goal.loop-key-preserved
loop-key-preserved c =
    let parts = parts_of c.args.held.now in
    let before = c.loop-key.reported.items in
    let left = c.next.new.self in
    let task : Task = (c.in-Some.key.now, c.in-Some.op.now) in
    let steps : c.loop-key.key-iterator ≡ task ∷ left = search rules in
    ap (λ xs. xs ++ reported_keys c.args.batch parts c.args.call (open_in left)) c.in_ok-push_reported.ensures
    ∙ append_assoc before (reported_keys c.args.batch parts c.args.call (open_in (task ∷ []))) (reported_keys c.args.batch parts c.args.call (open_in left))
    ∙ ap (λ xs. before ++ xs) (sym (reported_next c.args.batch parts c.args.call task left))
    ∙ ap (λ (ts : List Task). before ++ reported_keys c.args.batch parts c.args.call (open_in ts)) (sym steps)
    ∙ c.loop-key.invariant
