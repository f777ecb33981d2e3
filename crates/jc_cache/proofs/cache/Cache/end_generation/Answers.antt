use Rattle.jc_cache.proofs.Common.{slice_set, refl, subst, HasSeen}
use Rattle.jc_cache.proofs.EndedGenerations.{ended_may}
use Rattle.jc_cache.proofs.SessionPhases.{number_at}
use Rattle.jc_cache.proofs.cache.Cache.end_generation.Goals as goal

pub returns : goal.returns
returns g c =
    let t = c.index_mut-seat.result.now in
    let there = number_at c.args.self.now c.args.session.now c.args.stripe t c.requires.may.own c.requires.stripe c.index_mut-seat.ensures.value in
    let e = c.end_at.ensures.ended in
    record {
      may = ended_may c.args.self.now c.args.session.now _ c.args.stripe t c.end_at.new.seat c.requires.may c.end_at.ensures.agent there refl c.end_at.ensures.lock e.5;
      call = record {
        lock = t.0;
        before = t.1;
        found = e.0;
        left = e.1;
        was = there;
        finds = e.2;
        turned = e.3;
        now = λ i. slice_set c.args.session.now.seats.items c.args.stripe (c.end_at.ensures.lock i, e.4 i);
        on = subst (HasSeen t.1) e.4 e.5;
        stays = c.end_at.ensures.agent;
      };
    }
