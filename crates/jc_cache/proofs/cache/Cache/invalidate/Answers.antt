use Rattle.jc_cache.proofs.Common.{◌≡◌, ℕ, Some, slice_get, slice_set, refl, subst}
use Rattle.jc_cache.proofs.EndedGenerations.{ended_may}
use Rattle.jc_cache.proofs.SessionPhases.{number_at}
use Rattle.jc_cache.proofs.cache.Cache.invalidate.Goals as goal

pub returns : goal.returns
returns g c =
    let t = c.index_mut-seat.result.now in
    let there = number_at c.args.self.now c.args.session.now c.stripe_of-at.result t c.requires.own c.stripe_of-at.ensures.near c.index_mut-seat.ensures.value in
    record {
      may = ended_may c.args.self.now c.args.session.now _ c.stripe_of-at.result t c.forget_at.new.seat c.requires c.forget_at.ensures.agent there refl c.forget_at.ensures.lock c.forget_at.ensures.forgets.on;
      call = record {
        lock = t.0;
        before = t.1;
        after = c.forget_at.new.seat.1;
        was = subst (λ (n : ℕ). slice_get c.args.session.now.seats.items n ≡ Some t) c.stripe_of-at.ensures.at there;
        now = λ i. slice_set c.args.session.now.seats.items (c.stripe_of-at.ensures.at i) (c.forget_at.ensures.lock i, c.forget_at.new.seat.1);
        did = c.forget_at.ensures.forgets;
        stays = c.forget_at.ensures.agent;
      };
    }
