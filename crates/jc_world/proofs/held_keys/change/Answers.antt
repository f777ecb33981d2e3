use Rattle.jc_world.proofs.Common.{is_some, OnOk, OnErr, Ok, Err, Result, sym, ap, ◌∙◌, get-entries, insert-entries, parts_of, has_progress, waits_for_report}
use Rattle.std.specs.FinMap as map
use Rattle.jc_world.proofs.Maps.{keys_ordered, insert-there}
use Rattle.jc_world.proofs.held_keys.change.Goals as goal

pub change-requires : goal.change-requires
change-requires c = ap (has_progress waits_for_report) (c.in-Some.ensures.value ∙ get-entries c.args.held.now c.args.key.now) ∙ c.requires

pub unreachable-requires : goal.unreachable-requires
unreachable-requires c = let e = ap (has_progress waits_for_report) (c.in-None.ensures.value ∙ get-entries c.args.held.now c.args.key.now) ∙ c.requires in cc

-- of a result, one fact from another
raise : {T E P Q : Type 0} (r : Result T E) → (P → Q) → OnOk r P → OnOk r Q
raise (Ok x) f h = f h
raise (Err e) f h = h

raise_err : {T E P Q : Type 0} (r : Result T E) → (P → Q) → OnErr r P → OnErr r Q
raise_err (Ok x) f h = h
raise_err (Err e) f h = f h

pub returns : goal.returns
returns c =
    let m = c.args.held.now in
    let key = c.args.key.now in
    let there = sym (ap is_some c.in-Some.ensures.value) in
    let left = c.get_mut.follows.lender c.change.new.self in
    let was = sym (c.in-Some.ensures.value ∙ get-entries m key) in
    let put = insert-entries m left key c.change.new.self ((c.get_mut.follows.holds c.change.new.self).3 there) in
    record {
      ok = raise c.change.result (λ h. (c.in-Some.one.now, h.0, was, h.1, put ∙ ap (map.insert (parts_of m) key) h.2, h.3)) c.change.ensures.ok;
      err = raise_err c.change.result (λ h. (put ∙ ap (map.insert (parts_of m) key) h.0 ∙ insert-there keys_ordered (parts_of m) key c.in-Some.one.now was, h.1)) c.change.ensures.err;
    }
