use Rattle.jc_bulk.proofs.Common.{◌==◌, inl, sym, subst, arith, pointwise, IsDistinct}
use Rattle.jc_bulk.proofs.Filling.{puts_ask}
use Rattle.jc_bulk.proofs.Returning.{put_keys}
use Rattle.jc_bulk.proofs.writing.put_all.Goals as goal

pub call_all-requires-clause-keys : goal.call_all-requires-clause-keys
call_all-requires-clause-keys g c = (subst (IsDistinct (pointwise ◌==◌)) (sym (put_keys c.args.entries.now.entries)) c.len.ensures.unique, puts_ask c.args.entries.now.entries)

pub returns : goal.returns
returns g c = record { may = c.call_all.ensures.may; call = inl (omega (arith, c.if-len-gt-BULK_KEYS_MAX.false, c.len.ensures.len), c.call_all.ensures.call) }
