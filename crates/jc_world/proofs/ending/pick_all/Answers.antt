use Rattle.jc_world.proofs.Common.{◌≡◌, ℕ, ◌<◌, get_or, slice_set, vec_len, sym, ap, ◌∙◌, subst, arith, stripe_of, without_joiner, PicksUp, Picked, polled_with, State, AreLeft, HasJoins, NoneReserved, joins_of, fresh_stripe, slice_get, Some, IsJoined}
use Rattle.jc_world.proofs.Closing.{left_set, never_waits, picked_left, picked_up, none_set, home_of_join}
use Rattle.jc_world.proofs.ending.pick_all.Goals.{After-stripe_of-number, After-index_mut-stripe}
use Rattle.jc_world.proofs.ending.pick_all.Goals as goal

-- the number of the stripe is that of the join's key
number : (c : After-stripe_of-number) → c.stripe_of-number.result ≡ stripe_of c.in-Some.join.key c.args.config.now.stripes
number c = c.stripe_of-number.ensures ∙ ap (λ k. stripe_of k c.args.config.now.stripes) c.key.ensures

-- the stripe that is read is the one of that key, and has its joiner
home_read : (c : After-index_mut-stripe) → (slice_get c.picking.stripes.items (stripe_of c.in-Some.join.key c.args.config.now.stripes) ≡ Some c.index_mut-stripe.result.now) × IsJoined c.index_mut-stripe.result.now c.in-Some.join
home_read c =
    let i = c.picking.invariant in
    let some = c.in-Some.ensures.some in
    let from = c.index_mut-stripe.result.now in
    let home = home_of_join c.args.config.now c.picking.stripes.items (joins_of c.picking.joins) some.0 c.in-Some.join from some.1 i.left i.joins in
    let read = c.index_mut-stripe.ensures.value ∙ ap (λ n. get_or c.picking.stripes.items n from) (c.stripe_of-number.ensures ∙ ap (λ k. stripe_of k c.args.config.now.stripes) c.key.ensures) in
    (home.at read, home.made read)

pub stripe_of-number-requires : goal.stripe_of-number-requires
stripe_of-number-requires c =
    let i = c.picking.invariant in
    let some = c.in-Some.ensures.some in
    (home_of_join c.args.config.now c.picking.stripes.items (joins_of c.picking.joins) some.0 c.in-Some.join (fresh_stripe c.args.config.now 0) some.1 i.left i.joins).some

pub index_mut-stripe-requires : goal.index_mut-stripe-requires
index_mut-stripe-requires c =
    let i = c.picking.invariant in
    let some = c.in-Some.ensures.some in
    let w = (home_of_join c.args.config.now c.picking.stripes.items (joins_of c.picking.joins) some.0 c.in-Some.join (fresh_stripe c.args.config.now 0) some.1 i.left i.joins).within_is in
    let len = c.picking.stripes.ok in
    subst (λ n. n < vec_len c.picking.stripes) (sym (number (goal.at.index_mut-stripe-requires c).After-stripe_of-number)) (omega arith)

pub pick_up-requires : goal.pick_up-requires
pick_up-requires c = (home_read (goal.at.pick_up-requires c).After-index_mut-stripe).1

pub picking-preserved : goal.picking-preserved
picking-preserved c =
    let i = c.picking.invariant in
    let some = c.in-Some.ensures.some in
    let config = c.args.config.now in
    let ss = c.picking.stripes.items in
    let left = joins_of c.take_any_join.new.joins in
    let join = c.in-Some.join in
    let from = c.index_mut-stripe.result.now in
    let to = c.pick_up.new.self in
    let n = stripe_of join.key config.stripes in
    let known = goal.at.picking-preserved c in
    let n_is = sym (number known.After-stripe_of-number) in
    let at = (home_read known.After-index_mut-stripe).0 in
    let reached = (i.left.each n from at).reached in
    let polled = polled_with c.pick_up.result c.pick_up.new.reply in
    let is : to ≡ without_joiner from join = picked_left from to join polled reached (i.none n from at) c.pick_up.ensures.picks_up in
    record {
      left = subst (λ (m : ℕ). AreLeft config (slice_set ss m to)) n_is
          (left_set config ss n from to i.left at (ap (λ (s : State). s.config) is) (ap (λ (s : State). s.stripe) is) (ap (λ (s : State). s.origin) is) (c.stays_reached.ensures.picks_up from to join polled reached c.pick_up.ensures.picks_up));
      none = subst (λ (m : ℕ). NoneReserved (slice_set ss m to)) n_is (none_set ss n from to at (ap (λ (s : State). s.reservations) is) i.none);
      joins = subst (λ (m : ℕ). HasJoins config (slice_set ss m to) left) n_is (picked_up config ss from to (joins_of c.picking.joins) left some.0 join at is some.1 some.2 i.joins);
    }

pub unreachable-requires : goal.unreachable-requires
unreachable-requires c =
    let i = c.picking.invariant in
    let from = c.index_mut-stripe.result.now in
    let n = stripe_of c.in-Some.join.key c.args.config.now.stripes in
    let at = (home_read (goal.at.unreachable-requires c).After-index_mut-stripe).0 in
    let PicksSo : Picked → Type 0 = λ p. PicksUp from c.in-Some.join (polled_with p c.pick_up.new.reply) c.pick_up.new.self in
    never_waits from c.pick_up.new.self c.in-Some.join c.in-NotYet._join (i.left.each n from at).reached (i.none n from at) (subst PicksSo c.in-NotYet.is c.pick_up.ensures.picks_up)
