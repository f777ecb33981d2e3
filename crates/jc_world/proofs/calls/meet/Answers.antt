use Rattle.jc_world.proofs.Common.{Some, position, sym, ap, ◌∙◌, find_at_place, find_nowhere, has_number, with_met}
use Rattle.jc_world.proofs.Looked.{put_at, none_replaced}
use Rattle.jc_world.proofs.calls.meet.Goals as goal

pub returns-in-Some : goal.returns-in-Some
returns-in-Some c =
    let p = has_number c.args.call in
    let calls = c.args.calls.now.items in
    let x = c.index_mut.result.now in
    let at = ap (position p) (sym c.deref.ensures.value) ∙ sym c.place_of.ensures ∙ c.in-Some.is in
    put_at c.args.call c.in-Some.place (with_met c.args.met) x c.meet.new.self calls at (find_at_place p calls c.in-Some.place x at c.index_mut.ensures.value) c.meet.ensures

pub returns-in_default : goal.returns-in_default
returns-in_default c =
    let p = has_number c.args.call in
    let at = ap (position p) (sym c.deref.ensures.value) ∙ sym c.place_of.ensures ∙ c.in_default.is in
    sym (none_replaced c.args.call (λ u. Some (with_met c.args.met u)) c.args.calls.now.items (find_nowhere p c.args.calls.now.items at))
