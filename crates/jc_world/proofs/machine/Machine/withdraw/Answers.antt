use Rattle.jc_world.proofs.Common.{◌≡◌, is_some, IsSomeAnd, slice_get, sym, refl, ap, subst, GivesBack, eviction_place, IsOut, Outcome, Shown, WorldEvent, not_over, Happens, parts_of, world_of, IsSoundWorld, OrderedStripes, WorldState}
use Rattle.jc_world.proofs.Holding.{fits_withdrawal, may_withdraw}
use Rattle.jc_world.proofs.Phased.{phased_from, may_withdraw_at, withdrawn_at}
use Rattle.jc_world.proofs.machine.Machine.withdraw.Goals as goal

pub take-held-requires : goal.take-held-requires
take-held-requires c = ap is_some (fits_withdrawal (world_of c.self.inside) c.args.self.now c.args.call c.args.key.now c.self.view_is c.requires.fits).2

pub withdraw-evicted-requires-clause-out : goal.withdraw-evicted-requires-clause-out
withdraw-evicted-requires-clause-out c =
    let v : WorldState = world_of c.self.inside in
    let part = c.take-held.result in
    let own = may_withdraw v c.args.self.now c.args.call c.args.key.now part c.self.view_is c.requires.fits c.take-held.ensures.one in
    let R : OrderedStripes → Type 0 = λ v. IsSomeAnd (slice_get v.stripes c.stripe_of-number.result) (λ s. IsOut s part.reservation) in
    subst R (sym c.in_ok-reserve.ensures.same) (may_withdraw_at v c.args.call c.args.key.now part c.stripe_of-number.result own.0 c.stripe_of-number.ensures (subst IsSoundWorld (sym c.self.view_is) c.requires.sound))

pub withdraw-evicted-requires-clause-open : goal.withdraw-evicted-requires-clause-open
withdraw-evicted-requires-clause-open c =
    (may_withdraw (world_of c.self.inside) c.args.self.now c.args.call c.args.key.now c.take-held.result c.self.view_is c.requires.fits c.take-held.ensures.one).1

pub returns-clause-ok : goal.returns-clause-ok
returns-clause-ok c =
    let v : WorldState = world_of c.self.inside in
    let key = c.args.key.now in
    let part = c.take-held.result in
    let own = may_withdraw v c.args.self.now c.args.call key part c.self.view_is c.requires.fits c.take-held.ensures.one in
    let evicted = c.withdraw-evicted.result in
    let number = c.stripe_of-number.result in
    let same = c.in_ok-reserve.ensures.same in
    let p = phased_from v c.reserve.new.self c.withdraw-evicted.new.self number (λ from to. GivesBack from part.reservation to × (evicted ≡ eviction_place number from to)) (ap (λ (s : OrderedStripes). s.stripes) same) (ap (λ (s : OrderedStripes). s.order) same) c.withdraw-evicted.ensures in
    let next = world_of (record c.self.inside { stripes = c.withdraw-evicted.new.self; held = c.take-held.new.held }) in
    let R : WorldState → Type 0 = λ x. Happens x (WorldEvent.Withdraw c.args.call key) (not_over (Outcome.Withdrawn evicted)) next in
    let S : Shown → Type 0 = λ s. Happens c.args.self.now (WorldEvent.Withdraw c.args.call key) s next in
    subst S (sym c.show.ensures) (subst R c.self.view_is (withdrawn_at v next c.args.call key part number evicted c.withdraw-evicted.new.self.stripes c.withdraw-evicted.new.self.order (parts_of c.take-held.new.held) own.0 c.stripe_of-number.ensures p c.take-held.ensures.parts refl))
