use Rattle.jc_world.proofs.Common.{◌≡◌, true, slice_get, slice_set, sym, refl, ap, subst, arith, ◌∙◌, nat_lt, cond, length, IsSomeAnd, Some, None, Option, Bytes, Invalidates, invalidated_as, may_invalidate, is_reserved, Outcome, State, OrderedStripes, AreTurns}
use Rattle.jc_world.proofs.Dropping.{invalidates_extends}
use Rattle.jc_world.proofs.Lengths.{invalidated_length, has_room, still_place}
use Rattle.jc_world.proofs.Merging.{is_at, number_within, number_few, phase_made, grows_turns}
use Rattle.jc_world.proofs.Shares.{length-slice_set}
use Rattle.jc_world.proofs.stripes.Stripes.invalidate.Goals as goal

abbrev IsThere : State → Type 0
IsThere s = Unit {0}

-- a key is invalidated where there is a stripe
there_is : (o : Option State) (key : Bytes) → may_invalidate o key ≡ true → IsSomeAnd o IsThere
there_is None key h = cc
there_is (Some s) key h = tt

pub index_mut-stripe-requires : goal.index_mut-stripe-requires
index_mut-stripe-requires c = number_within c.self.inside c.args.self.now c.args.number IsThere c.self.view_is (there_is (slice_get c.args.self.now.stripes c.args.number) c.args.key.now c.requires.fits)

pub give_turns-requires : goal.give_turns-requires
give_turns-requires c =
    let from = c.index_mut-stripe.result.now in
    let to = c.invalidate.new.self in
    let longer = invalidated_length from to c.args.key.now c.invalidate.ensures in
    let room = ap (λ (v : OrderedStripes). v.room) c.self.view_is in
    let wanted = c.requires.room in
    record {
      number = number_few c.self.inside c.args.self.now c.args.number IsThere c.self.view_is c.self.invariant (there_is (slice_get c.args.self.now.stripes c.args.number) c.args.key.now c.requires.fits);
      place = still_place c.history_len-before.result from to c.history_len-before.ensures.len longer;
      room = has_room _ _ c.history_len-before.result from to (omega arith) c.history_len-before.ensures.len longer;
    }

pub invariant_of-self : goal.invariant_of-self
invariant_of-self c =
    let items = c.self.inside.items.items in
    let from = c.index_mut-stripe.result.now in
    let to = c.invalidate.new.self in
    let at = is_at c.self.inside c.args.self.now c.args.number from IsThere c.self.view_is (there_is (slice_get c.args.self.now.stripes c.args.number) c.args.key.now c.requires.fits) c.index_mut-stripe.ensures.value in
    let longer = invalidates_extends from to c.args.key.now c.invalidate.ensures in
    record {
      turns = subst (AreTurns (slice_set items c.args.number to)) (sym c.give_turns.ensures)
          (grows_turns items c.self.inside.turns.items c.args.number c.history_len-before.result from to longer.more c.self.invariant.turns at longer.history c.history_len-before.ensures.len);
      count = let e = length-slice_set items c.args.number to in let k = c.self.invariant.count in omega arith;
    }

pub returns : goal.returns
returns c =
    let from = c.index_mut-stripe.result.now in
    let to = c.invalidate.new.self in
    let number = c.args.number in
    let at = is_at c.self.inside c.args.self.now number from IsThere c.self.view_is (there_is (slice_get c.args.self.now.stripes number) c.args.key.now c.requires.fits) c.index_mut-stripe.ensures.value in
    let longer = invalidates_extends from to c.args.key.now c.invalidate.ensures in
    let shown : c.invalidated_as.result ≡ invalidated_as number c.args.key.now from to =
    c.invalidated_as.ensures
    ∙ (λ i. cond (c.is_reserved-reserved.ensures i) Outcome.Marked (Outcome.Invalidated (c.eviction_since.ensures i)))
    ∙ ap (λ n. cond (is_reserved from c.args.key.now) Outcome.Marked (Outcome.Invalidated (cond (nat_lt n (length to.history)) (Some (record { stripe = number; place = n })) None))) c.history_len-before.ensures.len
    in
    phase_made c.self.inside c.args.self.now number c.history_len-before.result from to (λ old new. Invalidates old c.args.key.now new × (c.invalidated_as.result ≡ invalidated_as number c.args.key.now old new)) c.give_turns.new.turns.items _ c.self.view_is c.self.invariant at longer c.history_len-before.ensures.len (c.invalidate.ensures, shown) c.give_turns.ensures refl refl
