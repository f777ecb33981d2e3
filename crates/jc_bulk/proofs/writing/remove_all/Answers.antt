use Rattle.jc_bulk.proofs.Common.{remove_ops, Delete, Remove, refl, ap, arith}
use Rattle.jc_bulk.proofs.CarriedOut.{few_of}
use Rattle.jc_bulk.proofs.Returning.{each_asks}
use Rattle.jc_bulk.proofs.writing.remove_all.Goals as goal

pub call_all-requires-clause-keys : goal.call_all-requires-clause-keys
call_all-requires-clause-keys g c = each_asks Delete Remove c.as_slice.result.now c.args.keys.now.keys refl c.as_slice.ensures.keys c.as_slice.ensures.unique

pub returns : goal.returns
returns g c =
    record {
      may = c.call_all.ensures.may;
      call = few_of _ c.args.cache.now c.args.session.now c.call_all.new.session (remove_ops c.as_slice.result.now) (remove_ops c.args.keys.now.keys) _ c.call_all.result (ap remove_ops c.as_slice.ensures.keys)
          (omega (arith, c.if-len-gt-BULK_KEYS_MAX.false, c.len.ensures.len)) c.call_all.ensures.call;
    }
