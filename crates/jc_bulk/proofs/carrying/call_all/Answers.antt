use Rattle.jc_bulk.proofs.Common.{TellsDone, key_ends, ops_of, inl, ap, subst}
use Rattle.jc_bulk.proofs.CarriedOut.{none_failed, own_room}
use Rattle.jc_bulk.proofs.carrying.call_all.Goals as goal

pub carry_out-outcome-requires-clause-room : goal.carry_out-outcome-requires-clause-room
carry_out-outcome-requires-clause-room g c =
    own_room c.args.kind c.len.result c.config.result.now.stripes c.args.cache.now.config.stripes c.in-Ok.room (ops_of c.args.targets.now) c.in-Ok.ensures c.len.ensures (ap (λ config. config.stripes) c.config.ensures.config) c.requires.keys

pub unless_done-requires : goal.unless_done-requires
unless_done-requires g c =
    let outcome = c.carry_out-outcome in
    let call = outcome.ensures.call in
    none_failed outcome.result.cause (key_ends (ops_of c.args.targets.now) outcome.result.progress.items) call.carried.rounds outcome.result.failed.entries call.failed call.carried.met

pub returns-in-Ok : goal.returns-in-Ok
returns-in-Ok g c =
    let outcome = c.carry_out-outcome in
    let call = outcome.ensures.call in
    record {
      may = outcome.ensures.may;
      call = inl (key_ends (ops_of c.args.targets.now) outcome.result.progress.items, outcome.result.cause, call.carried, subst (TellsDone c.unless_done.result outcome.result.cause) call.failed c.unless_done.ensures);
    }
