use Rattle.std.proofs.Common.{map, reverse, refl, vec_len, vec_capacity}
use Rattle.jc_model.specs.Batches.{answer_in_batch}
use Rattle.jc_model.specs.declared.event.WriteAnswer.{WriteAnswer}
use Rattle.jc_outside.specs.Done.{WriteResult}
use Rattle.jc_outside.specs.declared.done.Origin.TheVariants.{Live}
use Rattle.jc_outside.proofs.Ending.{first_outcomes, next_outcomes, first_items, one_more, all_ended, room_first, room_for_one, room_after, room_stays, fewer}
use Rattle.jc_outside.proofs.calls_all.end_writes.Goals as goal

abbrev done_of : {A : Type 0} → A → WriteAnswer → WriteResult A
done_of ask answer = record { ask = ask; origin = Live; answer = answer }

pub ending-init : goal.ending-init
ending-init g c =
    let left = g.C.Leftover.leftover_keys c.args.left.now in
    record {
      items = first_items done_of g.A.Ask.key (answer_in_batch left c.args.fault) c.args.asks.items c.args.done.now.items c.reverse.new.self.items c.reverse.ensures.items;
      outcomes = first_outcomes g.A.Ask.key left c.args.fault c.args.asks.items c.reverse.new.self.items c.args.keys.items
          c.split-split.result.written.items c.outcomes-outcomes.result.written.now c.split-split.result.failed.items c.outcomes-outcomes.result.failed.now
          c.reverse.ensures.items c.requires.keys c.split-split.ensures.written c.split-split.ensures.failed
          c.outcomes-outcomes.ensures.written c.outcomes-outcomes.ensures.failed;
      room = room_first (vec_len c.args.done.now) (vec_len c.args.asks) (vec_len c.reverse.new.self) (vec_capacity c.args.done.now) c.reverse.ensures.len c.requires.room;
      capacity = refl;
    }

pub next-answer-requires : goal.next-answer-requires
next-answer-requires g c =
    let left = g.C.Leftover.leftover_keys c.args.left.now in (
      left,
      c.args.fault,
      map g.A.Ask.key (reverse c.pop.new.self.items),
      next_outcomes g.A.Ask.key left c.args.fault c.ending.asks.items c.pop.new.self.items c.in-Some.ask c.key.result.now
          c.ending.outcomes.written.now c.ending.outcomes.failed.now c.in-Some.ensures.items c.key.ensures c.ending.invariant.outcomes,
    )

pub new-requires : goal.new-requires
new-requires g c = c.next-answer.ensures.given

pub push_reserved-requires : goal.push_reserved-requires
push_reserved-requires g c =
    room_for_one (vec_len c.ending.done) (vec_len c.ending.asks) (vec_len c.pop.new.self) (vec_capacity c.ending.done) c.in-Some.ensures.cases c.ending.invariant.room

pub ending-smaller : goal.ending-smaller
ending-smaller g c = fewer (vec_len c.ending.asks) (vec_len c.pop.new.self) c.in-Some.ensures.cases

pub ending-preserved : goal.ending-preserved
ending-preserved g c =
    let left = g.C.Leftover.leftover_keys c.args.left.now in
    let now = c.next-answer.ensures.next left c.args.fault (map g.A.Ask.key (reverse c.pop.new.self.items))
    (next_outcomes g.A.Ask.key left c.args.fault c.ending.asks.items c.pop.new.self.items c.in-Some.ask c.key.result.now
    c.ending.outcomes.written.now c.ending.outcomes.failed.now c.in-Some.ensures.items c.key.ensures c.ending.invariant.outcomes) in
    record {
      items = one_more done_of g.A.Ask.key (answer_in_batch left c.args.fault) c.args.asks.items c.args.done.now.items
          c.ending.asks.items c.pop.new.self.items c.in-Some.ask c.key.result.now c.next-answer.result c.new.result c.ending.done.items c.push_reserved.new.self.items
          c.in-Some.ensures.items c.key.ensures now.0 c.new.ensures c.push_reserved.ensures.items c.ending.invariant.items;
      outcomes = now.1;
      room = room_after (vec_len c.ending.done) (vec_len c.ending.asks) (vec_len c.pop.new.self) (vec_capacity c.ending.done)
          (vec_len c.push_reserved.new.self) (vec_capacity c.push_reserved.new.self)
          c.in-Some.ensures.cases c.push_reserved.ensures.len c.push_reserved.ensures.capacity c.ending.invariant.room;
      capacity = room_stays (vec_capacity c.args.done.now) (vec_capacity c.ending.done) (vec_capacity c.push_reserved.new.self)
          c.push_reserved.ensures.capacity c.ending.invariant.capacity;
    }

pub destroy_empty-requires : goal.destroy_empty-requires
destroy_empty-requires g c = c.in_default.ensures.cases.1

pub returns-clause-items : goal.returns-clause-items
returns-clause-items g c =
    all_ended done_of g.A.Ask.key (answer_in_batch (g.C.Leftover.leftover_keys c.args.left.now) c.args.fault) c.args.asks.items c.args.done.now.items
    c.ending.asks.items c.ending.done.items (vec_len c.ending.asks) c.ending.asks.ok.0 c.in_default.ensures.cases.0 c.ending.invariant.items

pub returns-clause-room : goal.returns-clause-room
returns-clause-room g c = c.ending.invariant.capacity
