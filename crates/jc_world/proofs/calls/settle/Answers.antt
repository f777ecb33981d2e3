use Rattle.jc_world.proofs.Common.{option_map, position, sym, ap, ◌∙◌, option_flatten, find_at_place, find_nowhere, has_number, going_on, over_of, settled}
use Rattle.jc_world.proofs.Looked.{ended_at, none_replaced}
use Rattle.jc_world.proofs.calls.settle.Goals as goal

pub returns-in_default : goal.returns-in_default
returns-in_default c =
    let p = has_number c.args.call in
    let calls = c.args.calls.now.items in
    let at = ap (position p) (sym c.deref.ensures.value) ∙ sym c.place_of.ensures ∙ c.in_default.is in
    let none = find_nowhere p calls at in
    record {
      calls = sym (none_replaced c.args.call (λ u. going_on (settled c.args.key.now c.args.met u)) calls none);
      over = sym (ap (λ o. option_flatten (option_map (λ u. over_of (settled c.args.key.now c.args.met u)) o)) none);
    }

pub returns : goal.returns
returns c =
    let p = has_number c.args.call in
    let calls = c.args.calls.now.items in
    let x = c.index_mut.result.now in
    let at = ap (position p) (sym c.deref.ensures.value) ∙ sym c.place_of.ensures ∙ c.in-Some.is in
    let found = find_at_place p calls c.in-Some.place x at c.index_mut.ensures.value in
    let e = c.end_at.ensures in
    let end = ended_at c.args.call c.in-Some.place (settled c.args.key.now c.args.met) x c.settle.new.self e.0 calls _ _ at found c.settle.ensures e.1 e.2 e.3 in
    record {
      calls = end.1;
      over = end.0 ∙ sym (ap (λ o. option_flatten (option_map (λ u. over_of (settled c.args.key.now c.args.met u)) o)) found);
    }
