use Rattle.jc_bulk.proofs.Common.{done_room, ◌≤◌, sym, subst}
use Rattle.jc_bulk.proofs.RoundsOn.{again_left, not_loads, spent_loads}
use Rattle.jc_bulk.proofs.outside.OutsideCall.again.Goals as goal

pub again-requires-clause-spent : goal.again-requires-clause-spent
again-requires-clause-spent c = let s = c.requires in (spent_loads s.0 s.1 c.args.answers c.args.rest c.in-Some.rest s.2 c.in-Some.is).2

pub again-requires-clause-answers : goal.again-requires-clause-answers
again-requires-clause-answers c = let s = c.requires in (spent_loads s.0 s.1 c.args.answers c.args.rest c.in-Some.rest s.2 c.in-Some.is).1

pub again-requires-clause-room : goal.again-requires-clause-room
again-requires-clause-room c =
    let s = c.requires in
    let loads = spent_loads s.0 s.1 c.args.answers c.args.rest c.in-Some.rest s.2 c.in-Some.is in
    subst (λ n. n ≤ done_room c.args.answers) (sym loads.3) loads.4

pub end-requires : goal.end-requires
end-requires c = let s = c.requires in (s.2.config, s.2.round, s.2.none)

pub returns-in-None-clause-none : goal.returns-in-None-clause-none
returns-in-None-clause-none c kind room spent = not_loads kind room c.args.answers c.args.rest spent c.in-None.is

pub returns-in-Some-clause-left : goal.returns-in-Some-clause-left
returns-in-Some-clause-left c kind room spent =
    let loads = spent_loads kind room c.args.answers c.args.rest c.in-Some.rest spent c.in-Some.is in
    again_left kind room _ c.again.result loads.0 loads.3 c.again.ensures
