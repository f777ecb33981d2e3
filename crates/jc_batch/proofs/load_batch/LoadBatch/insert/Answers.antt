use Rattle.std.proofs.Common.{ap, ◌∙◌, arith, sym}
use Rattle.jc_batch.specs.Answers.{no_answers}
use Rattle.jc_batch.proofs.load_batch.LoadBatch.insert.Goals as goal

pub ask-requires-clause-none : goal.ask-requires-clause-none
ask-requires-clause-none c = (c.self.inside.keys.items, c.self.invariant.none)

pub invariant_of-self : goal.invariant_of-self
invariant_of-self c =
    let room = ap (λ b. b.room) c.self.view_is in
    record {
      keys_room = omega (arith, c.push_reserved.ensures.len, c.push_reserved.ensures.capacity, c.self.invariant.keys_room, c.requires, room);
      answers_room = omega (arith, c.ask.ensures.spare, c.self.invariant.answers_room);
      answers_places = omega (arith, c.push_reserved.ensures.len, c.ask.ensures.places, c.self.invariant.answers_places, c.requires, room);
      none = c.ask.ensures.asked c.self.inside.keys.items c.self.invariant.none ∙ ap no_answers (sym c.push_reserved.ensures.items);
    }
