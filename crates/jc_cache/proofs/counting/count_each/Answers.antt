use Rattle.jc_cache.proofs.Common.{refl, slice_get_read}
use Rattle.jc_cache.proofs.Readings.{stripes_next, stripes_all}
use Rattle.jc_cache.proofs.counting.count_each.Goals as goal

pub loop-i-preserved : goal.loop-i-preserved
loop-i-preserved c =
    let at = slice_get_read c.args.stripes.now _ c.loop-i.i c.index-stripes-i.result refl c.loop-i-test.true c.index-stripes-i.is in
    stripes_next c.statistics_laws.ensures c.args.stripes.now c.loop-i.i c.index-stripes-i.result _ _ _ at c.loop-i.invariant c.statistics.ensures c.together-total.ensures

pub returns : goal.returns
returns c = stripes_all c.args.stripes.now c.loop-i.i _ c.loop-i-test.false c.loop-i.invariant
