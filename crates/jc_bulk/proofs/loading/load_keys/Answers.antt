use Rattle.jc_bulk.proofs.Common.{load_ops, Load, inl, inr, refl, ap, arith}
use Rattle.jc_model.specs.declared.event.Op.TheVariants.{LoadAll}
use Rattle.jc_bulk.proofs.CarriedOut.{few_of}
use Rattle.jc_bulk.proofs.Returning.{each_asks}
use Rattle.jc_bulk.proofs.loading.load_keys.Goals as goal

pub call_all-requires-clause-keys : goal.call_all-requires-clause-keys
call_all-requires-clause-keys g c = each_asks Load (LoadAll c.args.replace) c.as_slice.result.now c.args.keys.now.keys (inr (inl (c.args.replace, refl))) c.as_slice.ensures.keys c.as_slice.ensures.unique

pub returns : goal.returns
returns g c =
    record {
      may = c.call_all.ensures.may;
      call = few_of _ c.args.cache.now c.args.session.now c.call_all.new.session (load_ops c.args.replace c.as_slice.result.now) (load_ops c.args.replace c.args.keys.now.keys) _ c.call_all.result (ap (load_ops c.args.replace) c.as_slice.ensures.keys)
          (omega (arith, c.if-len-gt-BULK_KEYS_MAX.false, c.len.ensures.len)) c.call_all.ensures.call;
    }
