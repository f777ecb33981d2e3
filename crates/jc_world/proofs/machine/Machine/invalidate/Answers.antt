use Rattle.jc_world.proofs.Common.{◌≡◌, ◌∙◌, true, false, slice_get, sym, refl, ap, subst, Invalidates, invalidated_as, may_invalidate, Outcome, Shown, WorldEvent, not_over, Happens, world_of, fits, OrderedStripes, WorldState}
use Rattle.jc_world.proofs.Phased.{phased_from, invalidated_at}
use Rattle.jc_world.proofs.machine.Machine.invalidate.Goals as goal

pub invalidate-outcome-requires-clause-fits : goal.invalidate-outcome-requires-clause-fits
invalidate-outcome-requires-clause-fits c =
    let v : WorldState = world_of c.self.inside in
    let key = c.args.key.now in
    let fit : fits v (WorldEvent.Invalidate key) ≡ true = ap (λ w. fits w (WorldEvent.Invalidate key)) c.self.view_is ∙ c.requires.fits in
    ap (λ (s : OrderedStripes). may_invalidate (slice_get s.stripes c.stripe_of-number.result) key) c.in_ok-reserve.ensures.same
    ∙ ap (λ n. may_invalidate (slice_get v.stripes n) key) c.stripe_of-number.ensures ∙ fit

pub returns-clause-ok : goal.returns-clause-ok
returns-clause-ok c =
    let v : WorldState = world_of c.self.inside in
    let key = c.args.key.now in
    let number = c.stripe_of-number.result in
    let shown = c.invalidate-outcome.result in
    let same = c.in_ok-reserve.ensures.same in
    let p = phased_from v c.reserve.new.self c.invalidate-outcome.new.self number (λ from to. Invalidates from key to × (shown ≡ invalidated_as number key from to)) (ap (λ (s : OrderedStripes). s.stripes) same) (ap (λ (s : OrderedStripes). s.order) same) c.invalidate-outcome.ensures in
    let next = world_of (record c.self.inside { stripes = c.invalidate-outcome.new.self; is_fresh = false }) in
    let R : WorldState → Type 0 = λ x. Happens x (WorldEvent.Invalidate key) (not_over shown) next in
    let S : Shown → Type 0 = λ s. Happens c.args.self.now (WorldEvent.Invalidate key) s next in
    subst S (sym c.show.ensures) (subst R c.self.view_is (invalidated_at v next key number shown c.invalidate-outcome.new.self.stripes c.invalidate-outcome.new.self.order c.stripe_of-number.ensures p refl))
