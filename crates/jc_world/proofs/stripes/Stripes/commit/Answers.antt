use Rattle.jc_world.proofs.Common.{◌≡◌, slice_set, sym, refl, ap, subst, arith, Played, Ends, IsOut, IsDue, State, OrderedStripes, AreTurns, out_of_part, Part}
use Rattle.jc_stripe.specs.Phases.{with_reply}
use Rattle.jc_world.proofs.Lengths.{ended_length, has_room, still_place}
use Rattle.jc_world.proofs.Merging.{is_at, met_at, number_within, number_few, phase_made, grows_turns}
use Rattle.jc_world.proofs.Shares.{length-slice_set}
use Rattle.jc_world.proofs.Dropping.{ends_extends}
use Rattle.jc_world.proofs.stripes.Stripes.commit.Goals as goal

-- what is known of the stripe from which the part is
abbrev IsCommitted : Part → State → Type 0
IsCommitted held s = IsOut s held.reservation × (s.origin ≡ Played) × IsDue s.config held

pub index_mut-stripe-requires : goal.index_mut-stripe-requires
index_mut-stripe-requires c = number_within c.self.inside c.args.self.now c.args.number (IsCommitted c.args.held) c.self.view_is c.requires.out

pub commit-step-requires : goal.commit-step-requires
commit-step-requires c =
    let met = met_at c.self.inside c.args.self.now c.args.number c.index_mut-stripe.result.now (IsCommitted c.args.held) c.self.view_is c.requires.out c.index_mut-stripe.ensures.value in
    record { out = met.0; answered = c.requires.answered; origin = met.1; due = met.2 }

pub give_turns-requires : goal.give_turns-requires
give_turns-requires c =
    let from = c.index_mut-stripe.result.now in
    let to = c.commit-step.new.stripe in
    let longer = ended_length from to c.args.held.reservation (out_of_part c.args.held) _ c.history_len-before.ensures.reached c.commit-step.ensures in
    let room = ap (λ (v : OrderedStripes). v.room) c.self.view_is in
    let wanted = c.requires.room in
    record {
      number = number_few c.self.inside c.args.self.now c.args.number (IsCommitted c.args.held) c.self.view_is c.self.invariant c.requires.out;
      place = still_place c.history_len-before.result from to c.history_len-before.ensures.len longer;
      room = has_room _ _ c.history_len-before.result from to (omega arith) c.history_len-before.ensures.len longer;
    }

pub invariant_of-self : goal.invariant_of-self
invariant_of-self c =
    let items = c.self.inside.items.items in
    let from = c.index_mut-stripe.result.now in
    let to = c.commit-step.new.stripe in
    let at = is_at c.self.inside c.args.self.now c.args.number from (λ s. IsOut s c.args.held.reservation × (s.origin ≡ Played) × IsDue s.config c.args.held) c.self.view_is c.requires.out c.index_mut-stripe.ensures.value in
    let longer = ends_extends c.grows.ensures from to c.args.held.reservation (out_of_part c.args.held) (with_reply c.commit-step.result c.commit-step.new.reply) c.commit-step.ensures in
    record {
      turns = subst (AreTurns (slice_set items c.args.number to)) (sym c.give_turns.ensures)
          (grows_turns items c.self.inside.turns.items c.args.number c.history_len-before.result from to longer.more c.self.invariant.turns at longer.history c.history_len-before.ensures.len);
      count = let e = length-slice_set items c.args.number to in let k = c.self.invariant.count in omega arith;
    }

pub returns : goal.returns
returns c =
    let from = c.index_mut-stripe.result.now in
    let to = c.commit-step.new.stripe in
    let at = is_at c.self.inside c.args.self.now c.args.number from (λ s. IsOut s c.args.held.reservation × (s.origin ≡ Played) × IsDue s.config c.args.held) c.self.view_is c.requires.out c.index_mut-stripe.ensures.value in
    let longer = ends_extends c.grows.ensures from to c.args.held.reservation (out_of_part c.args.held) (with_reply c.commit-step.result c.commit-step.new.reply) c.commit-step.ensures in
    phase_made c.self.inside c.args.self.now c.args.number c.history_len-before.result from to (λ old new. Ends old c.args.held.reservation (out_of_part c.args.held) (with_reply c.commit-step.result c.commit-step.new.reply) new) c.give_turns.new.turns.items _ c.self.view_is c.self.invariant at longer c.history_len-before.ensures.len c.commit-step.ensures c.give_turns.ensures refl refl
