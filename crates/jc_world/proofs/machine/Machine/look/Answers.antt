use Rattle.jc_world.proofs.Common.{◌≡◌, IsSomeAnd, slice_get, Some, sym, ◌∙◌, subst, AreKeys, Outcome, WorldEvent, over_of, with_swept_keys, Happens, world_of, TakesKeys, WorldState, open_call}
use Rattle.jc_world.proofs.StripeKeys.{look_found, look_takes}
use Rattle.jc_world.proofs.machine.Machine.look.Goals as goal

pub keys_at-requires-clause-there : goal.keys_at-requires-clause-there
keys_at-requires-clause-there c = (look_found c.args.self.now c.args.call c.args.stripe c.requires.fits).5

pub look-requires : goal.look-requires
look-requires c =
    let h = c.in_ok-keys.ensures in
    let P : WorldState → Type 0 = λ w. IsSomeAnd (open_call w c.args.call) (TakesKeys c.deref.result.now) in
    subst P (sym c.self.view_is)
    (look_takes c.args.self.now c.args.call c.args.stripe h.0 c.deref.result.now c.requires.fits c.requires.sound h.1 (subst (AreKeys h.0) (sym c.deref.ensures.value) h.2))

pub returns-clause-ok : goal.returns-clause-ok
returns-clause-ok c =
    let v : WorldState = world_of c.self.inside in
    let h = c.in_ok-keys.ensures in
    let k = c.in_ok-over.ensures.ok in
    let over : c.in_ok-over.over ≡ over_of (with_swept_keys v.config.stripes c.args.stripe c.deref.result.now k.1 k.0) = cc in
    let next = world_of (record c.self.inside { calls = c.look.new.calls }) in
    let R : WorldState → Type 0 = λ x. Happens x (WorldEvent.Look c.args.call c.args.stripe) c.show_end.new.seen next in
    let S : WorldState → Type 0 = λ x. slice_get x.stripes c.args.stripe ≡ Some h.0 in
    subst R c.self.view_is
    (k.0, k.1, k.2, k.3, h.0, subst S (sym c.self.view_is) h.1, c.deref.result.now, subst (AreKeys h.0) (sym c.deref.ensures.value) h.2, c.show_end.ensures ∙ (λ i. record { outcome = Outcome.Looked; over = over i }), λ i. record v { calls = k.5 i })
