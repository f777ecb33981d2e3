use Rattle.jc_cache.proofs.Common.{HasRead}
use Rattle.jc_cache.proofs.Readings.{done_may}
use Rattle.jc_cache.proofs.cache.Cache.statistics.Goals as goal

pub returns : goal.returns
returns g c = record {
  may = done_may HasRead (λ v w read. read.on) c.args.self.now _ _ c.requires c.read_each.ensures.agent c.read_each.ensures.keeps c.read_each.ensures.reads;
  call = (record { each = c.read_each.ensures.reads; stays = c.read_each.ensures.agent }, c.read_each.ensures.counted);
}
