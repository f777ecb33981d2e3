use Rattle.std.proofs.Common.{◌∙◌, refl, rules, sym, subst}
use Rattle.jc_cache.specs.Caches.{CacheState}
use Rattle.jc_cache.specs.Sessions.{MayCall}
use Rattle.jcache.proofs.Teams.{are_left, ready_less}
use Rattle.jcache.proofs.threads.count.Goals as goal

pub work_side_by_side-requires : goal.work_side_by_side-requires
work_side_by_side-requires g c =
    (search rules, (ready_less c.args.owner.cache c.cache.result.now _ _ _ c.cache.ensures c.in-Some.ensures.items c.requires.ready).0)

pub counter-counter-requires : goal.counter-counter-requires
counter-counter-requires g c =
    subst (λ (cache : CacheState). MayCall cache c.in-Some.last.session) (sym c.cache-2.ensures)
    (ready_less c.args.owner.cache c.args.owner.cache _ _ _ refl c.in-Some.ensures.items c.requires.ready).1

pub returns : goal.returns
returns g c =
    let left = are_left c.args.plan.now.workers _ _ _ c.in-Some.ensures.items c.requires.len in
    let made = c.in_ok-own.ensures in
    record { plan_is = refl; each = made.0 ∙ left; few = made.1 }
