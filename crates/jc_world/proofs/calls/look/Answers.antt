use Rattle.jc_world.proofs.Common.{◌≡◌, None, Ok, position, sym, ap, ◌∙◌, find_at_place, find_nowhere, has_number, with_swept_keys}
use Rattle.jc_world.proofs.Looked.{ended_at}
use Rattle.jc_world.proofs.calls.look.Goals as goal

pub unreachable-requires : goal.unreachable-requires
unreachable-requires c =
    let p = has_number c.args.call in
    let at : position p c.args.calls.now.items ≡ None = ap (position p) (sym c.deref.ensures.value) ∙ sym c.place_of.ensures ∙ c.in_default.is in
    rw (find_nowhere p c.args.calls.now.items at) at c.requires

pub look-requires : goal.look-requires
look-requires c =
    let x = c.index_mut.result.now in
    let at = ap (position (has_number c.args.call)) (sym c.deref.ensures.value) ∙ sym c.place_of.ensures ∙ c.in-Some.is in
    rw (find_at_place (has_number c.args.call) c.args.calls.now.items c.in-Some.place x at c.index_mut.ensures.value) at c.requires

pub returns-clause-ok : goal.returns-clause-ok
returns-clause-ok c =
    let calls = c.args.calls.now.items in
    let x = c.index_mut.result.now in
    let at = ap (position (has_number c.args.call)) (sym c.deref.ensures.value) ∙ sym c.place_of.ensures ∙ c.in-Some.is in
    let found = find_at_place (has_number c.args.call) calls c.in-Some.place x at c.index_mut.ensures.value in
    let h = c.in_ok-look.ensures.ok in
    let e = c.end_at.ensures in
    let end = ended_at c.args.call c.in-Some.place (with_swept_keys c.args.stripes c.args.stripe c.args.keys.now h.0) x c.look.new.self e.0 calls _ _ at found h.2 e.1 e.2 e.3 in
    (x, h.0, found, h.1, ap Ok end.0, end.1)
