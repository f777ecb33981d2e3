use Rattle.jc_world.proofs.Common.{◌≡◌, ◌+◌, List, length, ap, ◌∙◌, subst, arith, length-append, Task, at_each, open_in, IsCountKept}
use Rattle.jc_world.proofs.TaskLists.{count_found, count_within}
use Rattle.jc_world.proofs.tasks.take_keys.Goals as goal

pub overflow_add-count : goal.overflow_add-count
overflow_add-count c =
    let at : c.in-Many.count ≡ length (open_in c.in-Many.ops.entries) = subst IsCountKept c.in-Many.is c.requires.counted in
    let within = count_within c.in-Many.ops.entries in
    let before : c.len-before.result ≡ length c.in-Many.ops.entries = c.len-before.ensures.len ∙ ap length c.reserve.ensures.entries in
    let few = c.len-before.ensures.small in
    let fits = c.len.ensures.small in
    omega (arith, at, within, before, few, fits)

pub returns-clause-counted : goal.returns-clause-counted
returns-clause-counted c =
    let at : c.in-Many.count ≡ length (open_in c.in-Many.ops.entries) = subst IsCountKept c.in-Many.is c.requires.counted in
    let old = c.reserve.new.self.entries in
    let more = at_each c.args.op.now c.args.keys.now in
    let kept : length (open_in old) ≡ length (open_in c.in-Many.ops.entries) = ap (λ (ts : List Task). length (open_in ts)) c.reserve.ensures.entries in
    let before : c.len-before.result ≡ length old = c.len-before.ensures.len in
    let all : c.len.result ≡ length old + length more = c.len.ensures.len ∙ ap length c.add_each.ensures ∙ length-append old more in
    let live : length (open_in c.add_each.new.ops.entries) ≡ length (open_in old) + length more = ap (λ (ts : List Task). length (open_in ts)) c.add_each.ensures ∙ count_found old c.args.op.now c.args.keys.now in
    omega (arith, at, kept, before, all, live)
