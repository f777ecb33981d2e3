use Rattle.jc_world.proofs.Common.{slice_set, sym, refl, ap, subst, arith, MayBegin, Begins, OrderedStripes, AreTurns}
use Rattle.jc_stripe.specs.Phases.{begun_with}
use Rattle.jc_world.proofs.Lengths.{begun_length, has_room, still_place}
use Rattle.jc_world.proofs.Merging.{is_at, met_at, number_within, number_few, phase_made, grows_turns}
use Rattle.jc_world.proofs.Shares.{length-slice_set}
use Rattle.jc_world.proofs.stripes.Stripes.begin.Goals as goal

pub index_mut-stripe-requires : goal.index_mut-stripe-requires
index_mut-stripe-requires c = number_within c.self.inside c.args.self.now c.args.number (λ s. MayBegin s c.args.caller.now c.args.key.now) c.self.view_is c.requires.begins

pub begin-started-requires : goal.begin-started-requires
begin-started-requires c = record {
  begins = met_at c.self.inside c.args.self.now c.args.number c.index_mut-stripe.result.now (λ s. MayBegin s c.args.caller.now c.args.key.now) c.self.view_is c.requires.begins c.index_mut-stripe.ensures.value;
}

pub give_turns-requires : goal.give_turns-requires
give_turns-requires c =
    let from = c.index_mut-stripe.result.now in
    let to = c.begin-started.new.self in
    let longer = begun_length from to c.args.caller.now c.args.key.now c.args.op.now _ c.begin-started.ensures.begins in
    let room = ap (λ (v : OrderedStripes). v.room) c.self.view_is in
    let wanted = c.requires.room in
    record {
      number = number_few c.self.inside c.args.self.now c.args.number (λ s. MayBegin s c.args.caller.now c.args.key.now) c.self.view_is c.self.invariant c.requires.begins;
      place = still_place c.history_len-before.result from to c.history_len-before.ensures.len longer;
      room = has_room _ _ c.history_len-before.result from to (omega arith) c.history_len-before.ensures.len longer;
    }

pub invariant_of-self : goal.invariant_of-self
invariant_of-self c =
    let items = c.self.inside.items.items in
    let from = c.index_mut-stripe.result.now in
    let to = c.begin-started.new.self in
    let at = is_at c.self.inside c.args.self.now c.args.number from (λ s. MayBegin s c.args.caller.now c.args.key.now) c.self.view_is c.requires.begins c.index_mut-stripe.ensures.value in
    let longer = c.grows.ensures.begins from to c.args.caller.now c.args.key.now c.args.op.now (begun_with c.begin-started.result c.begin-started.new.reply) c.begin-started.ensures.begins in
    record {
      turns = subst (AreTurns (slice_set items c.args.number to)) (sym c.give_turns.ensures)
          (grows_turns items c.self.inside.turns.items c.args.number c.history_len-before.result from to longer.more c.self.invariant.turns at longer.history c.history_len-before.ensures.len);
      count = let e = length-slice_set items c.args.number to in let k = c.self.invariant.count in omega arith;
    }

pub returns : goal.returns
returns c =
    let from = c.index_mut-stripe.result.now in
    let to = c.begin-started.new.self in
    let at = is_at c.self.inside c.args.self.now c.args.number from (λ s. MayBegin s c.args.caller.now c.args.key.now) c.self.view_is c.requires.begins c.index_mut-stripe.ensures.value in
    let longer = c.grows.ensures.begins from to c.args.caller.now c.args.key.now c.args.op.now (begun_with c.begin-started.result c.begin-started.new.reply) c.begin-started.ensures.begins in
    phase_made c.self.inside c.args.self.now c.args.number c.history_len-before.result from to (λ old new. Begins old c.args.caller.now c.args.key.now c.args.op.now (begun_with c.begin-started.result c.begin-started.new.reply) new) c.give_turns.new.turns.items _ c.self.view_is c.self.invariant at longer c.history_len-before.ensures.len c.begin-started.ensures.begins c.give_turns.ensures refl refl
