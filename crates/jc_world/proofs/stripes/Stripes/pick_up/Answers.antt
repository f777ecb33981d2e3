use Rattle.jc_world.proofs.Common.{refl, arith, PicksUp, polled_with, IsJoined}
use Rattle.jc_world.proofs.Merging.{picked_same, is_at, met_at, number_within, quiet_made, stays_turns}
use Rattle.jc_world.proofs.Shares.{length-slice_set}
use Rattle.jc_world.proofs.stripes.Stripes.pick_up.Goals as goal

pub index_mut-stripe-requires : goal.index_mut-stripe-requires
index_mut-stripe-requires c = number_within c.self.inside c.args.self.now c.args.number (λ s. IsJoined s c.args.join) c.self.view_is c.requires

pub pick_up-requires : goal.pick_up-requires
pick_up-requires c = met_at c.self.inside c.args.self.now c.args.number c.index_mut-stripe.result.now (λ s. IsJoined s c.args.join) c.self.view_is c.requires c.index_mut-stripe.ensures.value

pub invariant_of-self : goal.invariant_of-self
invariant_of-self c =
    let items = c.self.inside.items.items in
    let from = c.index_mut-stripe.result.now in
    let to = c.pick_up.new.self in
    let at = is_at c.self.inside c.args.self.now c.args.number from (λ s. IsJoined s c.args.join) c.self.view_is c.requires c.index_mut-stripe.ensures.value in
    record {
      turns = stays_turns items c.self.inside.turns.items c.args.number from to c.self.invariant.turns at (picked_same from to c.args.join (polled_with c.pick_up.result c.pick_up.new.reply) c.pick_up.ensures.picks_up);
      count = let e = length-slice_set items c.args.number to in let k = c.self.invariant.count in omega arith;
    }

pub returns : goal.returns
returns c =
    let from = c.index_mut-stripe.result.now in
    let to = c.pick_up.new.self in
    let at = is_at c.self.inside c.args.self.now c.args.number from (λ s. IsJoined s c.args.join) c.self.view_is c.requires c.index_mut-stripe.ensures.value in
    quiet_made c.self.inside c.args.self.now c.args.number from to (λ old new. PicksUp old c.args.join (polled_with c.pick_up.result c.pick_up.new.reply) new) _ c.self.view_is at (picked_same from to c.args.join (polled_with c.pick_up.result c.pick_up.new.reply) c.pick_up.ensures.picks_up) c.pick_up.ensures.picks_up refl refl
