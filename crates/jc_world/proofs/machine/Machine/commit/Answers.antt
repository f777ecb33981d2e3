use Rattle.jc_world.proofs.Common.{◌∙◌, has_progress, is_misled, without_foreign, ◌≡◌, is_some, IsSomeAnd, slice_get, sym, ap, subst, Played, IsOut, Outcome, WorldEvent, Happens, parts_of, world_of, IsDue, IsSoundWorld, OrderedStripes, WorldState}
use Rattle.jc_stripe.specs.Phases.{with_reply}
use Rattle.jc_world.proofs.Holding.{fits_commit, may_commit}
use Rattle.jc_world.proofs.Phased.{phased_from, CommitsAs, ended, may_end_at}
use Rattle.jc_world.proofs.machine.Machine.commit.Goals as goal

pub take-held-requires : goal.take-held-requires
take-held-requires c = ap is_some (fits_commit (world_of c.self.inside) c.args.self.now c.args.call c.args.key.now c.self.view_is c.requires.fits).2

pub commit-done-requires-clause-out : goal.commit-done-requires-clause-out
commit-done-requires-clause-out c =
    let v : WorldState = world_of c.self.inside in
    let part = c.take-held.result in
    let own = may_commit v c.args.self.now c.args.call c.args.key.now part c.self.view_is c.requires.fits c.take-held.ensures.one in
    let R : OrderedStripes → Type 0 = λ v. IsSomeAnd (slice_get v.stripes c.stripe_of-number.result) (λ s. IsOut s part.reservation × (s.origin ≡ Played) × IsDue s.config part) in
    subst R (sym c.in_ok-reserve.ensures.same) (may_end_at v c.args.call c.args.key.now part c.stripe_of-number.result own.0 c.stripe_of-number.ensures (subst IsSoundWorld (sym c.self.view_is) c.requires.sound))

pub commit-done-requires-clause-answered : goal.commit-done-requires-clause-answered
commit-done-requires-clause-answered c =
    (may_commit (world_of c.self.inside) c.args.self.now c.args.call c.args.key.now c.take-held.result c.self.view_is c.requires.fits c.take-held.ensures.one).1

pub returns-clause-ok : goal.returns-clause-ok
returns-clause-ok c =
    let v : WorldState = world_of c.self.inside in
    let key = c.args.key.now in
    let part = c.take-held.result in
    let own = may_commit v c.args.self.now c.args.call key part c.self.view_is c.requires.fits c.take-held.ensures.one in
    let done = with_reply c.commit-done.result c.commit-done.new.reply in
    let same = c.in_ok-reserve.ensures.same in
    let p = phased_from v c.reserve.new.self c.commit-done.new.self c.stripe_of-number.result (CommitsAs part done) (ap (λ (s : OrderedStripes). s.stripes) same) (ap (λ (s : OrderedStripes). s.order) same) c.commit-done.ensures in
    let number = c.stripe_of-number.result in
    let next = world_of (record c.self.inside { stripes = c.commit-done.new.self; calls = c.settle-over.new.calls; held = c.take-held.new.held; foreign = c.forget.new.foreign }) in
    let misled : c.is_misled.result ≡ is_misled part = c.is_misled.ensures ∙ ap (has_progress is_misled) c.take-held.ensures.one in
    let foreign = c.forget.ensures ∙ ap (λ m. without_foreign m key c.is_agreed-agrees.result) c.in_ok-doubt.ensures.ok in
    let R : WorldState → Type 0 = λ x. Happens x (WorldEvent.Commit c.args.call key) (record { outcome = Outcome.Stepped c.shown_of.result; over = c.settle-over.result }) next in
    subst R c.self.view_is (ended v next c.args.call key part number done c.shown_of.result c.fault_in.result c.settle-over.result _ _ _ c.forget.new.foreign c.is_misled.result c.is_agreed-agrees.result own.0 c.stripe_of-number.ensures p c.shown_of.ensures.step c.shown_of.ensures.stripe c.take-held.ensures.parts
    c.fault_in.ensures c.settle-over.ensures.over misled c.is_agreed-agrees.ensures foreign
    (λ i. record v { stripes = c.commit-done.new.self.stripes; order = c.commit-done.new.self.order; calls = c.settle-over.ensures.calls i; parts = parts_of c.take-held.new.held; foreign = c.forget.new.foreign }))
