use Rattle.jc_world.proofs.Common.{◌≡◌, slice_set, sym, refl, ap, subst, arith, ◌∙◌, nat_lt, cond, length, Some, None, Option, GivesBack, eviction_place, EvictionPlace, State, IsOut, OrderedStripes, AreTurns}
use Rattle.jc_world.proofs.Dropping.{gives_back_extends}
use Rattle.jc_world.proofs.Lengths.{withdrawn_length, has_room, still_place}
use Rattle.jc_world.proofs.Merging.{is_at, met_at, number_within, number_few, phase_made, grows_turns}
use Rattle.jc_world.proofs.Shares.{length-slice_set}
use Rattle.jc_world.proofs.stripes.Stripes.withdraw.Goals as goal

pub index_mut-stripe-requires : goal.index_mut-stripe-requires
index_mut-stripe-requires c = number_within c.self.inside c.args.self.now c.args.number (λ s. IsOut s c.args.held.reservation) c.self.view_is c.requires.out

pub withdraw-requires : goal.withdraw-requires
withdraw-requires c = record {
  out = met_at c.self.inside c.args.self.now c.args.number c.index_mut-stripe.result.now (λ s. IsOut s c.args.held.reservation) c.self.view_is c.requires.out c.index_mut-stripe.ensures.value;
  «open» = c.requires.open;
}

pub give_turns-requires : goal.give_turns-requires
give_turns-requires c =
    let from = c.index_mut-stripe.result.now in
    let to = c.withdraw.new.stripe in
    let longer = withdrawn_length from to c.args.held.reservation c.withdraw.ensures in
    let room = ap (λ (v : OrderedStripes). v.room) c.self.view_is in
    let wanted = c.requires.room in
    record {
      number = number_few c.self.inside c.args.self.now c.args.number (λ s. IsOut s c.args.held.reservation) c.self.view_is c.self.invariant c.requires.out;
      place = still_place c.history_len-before.result from to c.history_len-before.ensures.len longer;
      room = has_room _ _ c.history_len-before.result from to (omega arith) c.history_len-before.ensures.len longer;
    }

pub invariant_of-self : goal.invariant_of-self
invariant_of-self c =
    let items = c.self.inside.items.items in
    let from = c.index_mut-stripe.result.now in
    let to = c.withdraw.new.stripe in
    let at = is_at c.self.inside c.args.self.now c.args.number from (λ s. IsOut s c.args.held.reservation) c.self.view_is c.requires.out c.index_mut-stripe.ensures.value in
    let longer = gives_back_extends c.grows.ensures from to c.args.held.reservation c.withdraw.ensures in
    record {
      turns = subst (AreTurns (slice_set items c.args.number to)) (sym c.give_turns.ensures)
          (grows_turns items c.self.inside.turns.items c.args.number c.history_len-before.result from to longer.more c.self.invariant.turns at longer.history c.history_len-before.ensures.len);
      count = let e = length-slice_set items c.args.number to in let k = c.self.invariant.count in omega arith;
    }

pub returns : goal.returns
returns c =
    let from = c.index_mut-stripe.result.now in
    let to = c.withdraw.new.stripe in
    let at = is_at c.self.inside c.args.self.now c.args.number from (λ s. IsOut s c.args.held.reservation) c.self.view_is c.requires.out c.index_mut-stripe.ensures.value in
    let longer = gives_back_extends c.grows.ensures from to c.args.held.reservation c.withdraw.ensures in
    let evicted = c.eviction_since.result in
    let shown : evicted ≡ eviction_place c.args.number from to =
    c.eviction_since.ensures ∙ ap (λ n. cond (nat_lt n (length to.history)) (Some (record { stripe = c.args.number; place = n })) None) c.history_len-before.ensures.len
    in
    phase_made c.self.inside c.args.self.now c.args.number c.history_len-before.result from to (λ old new. GivesBack old c.args.held.reservation new × (evicted ≡ eviction_place c.args.number old new)) c.give_turns.new.turns.items _ c.self.view_is c.self.invariant at longer c.history_len-before.ensures.len (c.withdraw.ensures, shown) c.give_turns.ensures refl refl
