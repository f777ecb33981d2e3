use Rattle.std.proofs.Common.{◌≡◌, ◌∙◌, None, Some, sym, ap, subst}
use Rattle.std.specs.List.{list_all}
use Rattle.jc_stripe.specs.State.{State}
use Rattle.jc_stripe.specs.Refusals.{first_refusal, load_joined}
use Rattle.jc_stripe.specs.Phases.{MayBegin, is_other_join}
use Rattle.jc_stripe.specs.Inside.{state_of}
use Rattle.jc_stripe.proofs.Refusing.{few_joined}
use Rattle.jc_stripe.proofs.Making.{not_joined, join_sound, join_made}
use Rattle.jc_stripe.proofs.stripe.Stripe.join.Goals as goal

pub join-requires : goal.join-requires
join-requires c =
    not_joined c.args.caller c.args.key.now c.self.inside.joiners
    (ap (λ (s : State). list_all (is_other_join c.args.caller c.args.key.now) s.joiners) c.self.view_is ∙ c.requires.begins.apart)

pub invariant_of-self : goal.invariant_of-self
invariant_of-self c =
    let back = sym c.self.view_is in
    let Free : State → Type 0 = λ s. first_refusal s c.args.caller c.args.key.now c.args.op.now ≡ None in
    let Joins : State → Type 0 = λ s. load_joined s c.args.key.now c.args.op.now ≡ Some c.args.load in
    let May : State → Type 0 = λ s. MayBegin s c.args.caller c.args.key.now in
    let free = subst Free back c.requires.free in
    let joins = subst Joins back c.requires.load in
    join_sound c.self.inside c.args.caller c.args.load c.args.key.now c.args.op.now c.join.new.self c.promise.new.self c.promise.result c.self.invariant free joins (subst May back c.requires.begins)
    (join_made c.join.new.self c.self.inside.joiners _ c.join.result _ c.join.ensures.room c.join.ensures.joined (few_joined (state_of c.self.inside) c.args.caller c.args.key.now c.args.op.now c.args.load free joins))
    c.promise.ensures.fits c.promise.ensures.after
