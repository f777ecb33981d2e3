use Rattle.jc_cache.specs.Forgetting.{HasForgottenAll}
use Rattle.jc_cache.proofs.Readings.{done_may}
use Rattle.jc_cache.proofs.cache.Cache.invalidate_all.Goals as goal

pub returns : goal.returns
returns g c = record {
  may = done_may HasForgottenAll (λ v w done. done.on) c.args.self.now _ _ c.requires c.forget_each.ensures.agent c.forget_each.ensures.keeps c.forget_each.ensures.forgets;
  call = record { each = c.forget_each.ensures.forgets; stays = c.forget_each.ensures.agent };
}
