use Rattle.jc_world.proofs.Common.{◌≡◌, ℕ, ◌<◌, List, get_or, slice_get, slice_set, Some, vec_len, sym, ap, ◌∙◌, subst, arith, get, stripe_of, Config, Bytes, State, IsOut, Part, AreLeft, HasHeld, HasJoins, parts_of, joins_of, IsDue, Parts, fresh_stripe}
use Rattle.jc_world.proofs.Closing.{IsOver, over, left_set, ended, joins_kept, none_reserved, home_of_key, key_of}
use Rattle.jc_world.proofs.ending.end_all.Goals.{After-stripe_of-number, After-index_mut-stripe}
use Rattle.jc_world.proofs.ending.end_all.Goals as goal

-- the number of the stripe of a key that was taken out
number_is : (config : Config) (ss : List State) (parts : Parts) (key own : Bytes) (part : Part) (number : ℕ) → number ≡ stripe_of own config.stripes → own ≡ part.reservation.key → get parts key ≡ Some part → HasHeld config ss parts
    → number ≡ stripe_of key config.stripes
number_is config ss parts key own part number is own_is there held = is ∙ ap (λ k. stripe_of k config.stripes) (own_is ∙ key_of config ss parts key part there held)

-- the number of the stripe is that of the key that was taken out
number : (c : After-stripe_of-number) → c.stripe_of-number.result ≡ stripe_of c.in-Some.ensures.some.0 c.args.config.now.stripes
number c = number_is c.args.config.now c.ending.stripes.items (parts_of c.ending.held) c.in-Some.ensures.some.0 c.key.result c.in-Some.one c.stripe_of-number.result c.stripe_of-number.ensures c.key.ensures c.in-Some.ensures.some.1 c.ending.invariant.held

-- the stripe that is read is the one of that key, and has its reservation
home_read : (c : After-index_mut-stripe) → (slice_get c.ending.stripes.items (stripe_of c.in-Some.ensures.some.0 c.args.config.now.stripes) ≡ Some c.index_mut-stripe.result.now) × (c.in-Some.one.reservation.key ≡ c.in-Some.ensures.some.0) × IsOut c.index_mut-stripe.result.now c.in-Some.one.reservation
home_read c =
    let i = c.ending.invariant in
    let some = c.in-Some.ensures.some in
    let config = c.args.config.now in
    let ss = c.ending.stripes.items in
    let s = c.index_mut-stripe.result.now in
    let home = home_of_key config ss (parts_of c.ending.held) some.0 c.in-Some.one s some.1 i.left i.held in
    let at = c.index_mut-stripe.ensures.value ∙ ap (λ n. get_or ss n s) (number_is config ss (parts_of c.ending.held) some.0 c.key.result c.in-Some.one c.stripe_of-number.result c.stripe_of-number.ensures c.key.ensures some.1 i.held) in
    let made = home.made at in (home.at at, made.0, made.1)

pub stripe_of-number-requires : goal.stripe_of-number-requires
stripe_of-number-requires c =
    let i = c.ending.invariant in
    let some = c.in-Some.ensures.some in
    (home_of_key c.args.config.now c.ending.stripes.items (parts_of c.ending.held) some.0 c.in-Some.one (fresh_stripe c.args.config.now 0) some.1 i.left i.held).some

pub index_mut-stripe-requires : goal.index_mut-stripe-requires
index_mut-stripe-requires c =
    let i = c.ending.invariant in
    let some = c.in-Some.ensures.some in
    let w = (home_of_key c.args.config.now c.ending.stripes.items (parts_of c.ending.held) some.0 c.in-Some.one (fresh_stripe c.args.config.now 0) some.1 i.left i.held).within_is in
    let len = c.ending.stripes.ok in
    subst (λ n. n < vec_len c.ending.stripes) (sym (number (goal.at.index_mut-stripe-requires c).After-stripe_of-number)) (omega arith)

pub close-requires : goal.close-requires
close-requires c =
    let i = c.ending.invariant in
    let some = c.in-Some.ensures.some in
    let home = home_read (goal.at.close-requires c).After-index_mut-stripe in
    let left = i.left.each _ c.index_mut-stripe.result.now home.0 in
    record { out = home.2; origin = left.origin_is; due = subst (λ (x : Config). IsDue x c.in-Some.one) (sym left.config_is) (i.held.due some.0 c.in-Some.one some.1) }

pub ending-preserved : goal.ending-preserved
ending-preserved c =
    let i = c.ending.invariant in
    let config = c.args.config.now in
    let ss = c.ending.stripes.items in
    let parts = parts_of c.ending.held in
    let some = c.in-Some.ensures.some in
    let from = c.index_mut-stripe.result.now in
    let to = c.close.new.stripe in
    let n = stripe_of some.0 config.stripes in
    let known = goal.at.ending-preserved c in
    let n_is = sym (number known.After-stripe_of-number) in
    let at = (home_read known.After-index_mut-stripe).0 in
    let is : IsOver some.0 from to = subst (λ (k : Bytes). IsOver k from to) (home_read known.After-index_mut-stripe).1 (over c.stays_reached.ensures from to c.in-Some.one.reservation (i.left.each n from at).reached c.close.ensures) in
    record {
      left = subst (λ (m : ℕ). AreLeft config (slice_set ss m to)) n_is (left_set config ss n from to i.left at is.config_is is.number_is is.origin_is is.reached);
      held = subst (λ (m : ℕ). HasHeld config (slice_set ss m to) (parts_of c.take_any.new.held)) n_is (ended config ss from to parts (parts_of c.take_any.new.held) some.0 i.left at is some.2 i.held);
      joins = subst (λ (m : ℕ). HasJoins config (slice_set ss m to) (joins_of c.args.joins.now)) n_is (joins_kept config ss n from to (joins_of c.args.joins.now) at is.joins i.joins);
    }

pub returns-clause-none : goal.returns-clause-none
returns-clause-none c =
    let i = c.ending.invariant in
    none_reserved c.args.config.now c.ending.stripes.items (parts_of c.ending.held) c.in_default.ensures.empty i.held
