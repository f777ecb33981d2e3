use Rattle.jc_world.proofs.Common.{List, ◌++◌, sym, ap, ◌∙◌, subst, arith, Config, Bytes, AreKeys, WorldState}
use Rattle.jc_world.proofs.StripeKeys.{stripe_at}
use Rattle.jc_world.proofs.machine.Machine.keys_at.Goals as goal

pub keys-requires : goal.keys-requires
keys-requires c =
    let s = c.index-items-stripe.result in
    let at = stripe_at c.args.self.now c.items.result.now c.args.stripe s c.requires.sound (c.items.ensures ∙ ap (λ (w : WorldState). w.stripes) c.self.view_is) c.requires.there c.index-items-stripe.is in
    let its = ap (λ (k : Config). k.capacity) at.1 in
    let own = ap (λ (w : WorldState). w.config.capacity) c.self.view_is in
    let none = c.in_ok-keys.ensures.len in
    let room = c.in_ok-keys.ensures.capacity in
    omega (arith, its, own, none, room)

pub returns : goal.returns
returns c =
    let s = c.index-items-stripe.result in
    let at = stripe_at c.args.self.now c.items.result.now c.args.stripe s c.requires.sound (c.items.ensures ∙ ap (λ (w : WorldState). w.stripes) c.self.view_is) c.requires.there c.index-items-stripe.is in
    let h = c.keys.ensures.keys in
    (s, at.0, subst (AreKeys s) (sym (h.1 ∙ ap (λ (old : List Bytes). old ++ h.0) c.in_ok-keys.ensures.items)) h.2)
