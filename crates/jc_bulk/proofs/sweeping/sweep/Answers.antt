use Rattle.jc_bulk.proofs.Looking.{sweeps_of}
use Rattle.jc_bulk.proofs.Returning.{each_asks}
use Rattle.jc_bulk.proofs.sweeping.sweep.Goals as goal

pub call_all-requires-clause-keys : goal.call_all-requires-clause-keys
call_all-requires-clause-keys g c = each_asks c.args.kind c.args.op c.as_slice.result.now c.in-Ok.keys.items c.requires.asks c.as_slice.ensures.value c.in-Ok.ensures.call.1.1

pub returns-in-Ok : goal.returns-in-Ok
returns-in-Ok g c =
    let looked = c.in-Ok.ensures.call in
    record {
      may = c.call_all.ensures.may;
      call = sweeps_of _ c.args.cache.now c.args.session.now c.look_at_all.new.session c.call_all.new.session c.args.op c.as_slice.result.now c.in-Ok.keys.items c.call_all.result looked.0
          looked.1.0 c.as_slice.ensures.value c.call_all.ensures.call;
    }
