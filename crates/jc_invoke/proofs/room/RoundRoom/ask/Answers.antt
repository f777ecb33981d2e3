use Rattle.jc_invoke.proofs.Common.{holds_nothing, WriteCallState, Ok, ap, sym, true, false, ◌∙◌}
use Rattle.jc_invoke.proofs.RoundAsked.{round_asked, unasked_writer}
use Rattle.jc_invoke.proofs.Runs.{has_writer, rest_on}
use Rattle.jc_invoke.proofs.room.RoundRoom.ask.Goals as goal

pub ask-written-requires-clause-nothing : goal.ask-written-requires-clause-nothing
ask-written-requires-clause-nothing g c = holds_nothing _ _ (c.run_each.ensures.run.own c.requires.may.cache c.requires.may.own)

pub ask-written-requires-clause-writer : goal.ask-written-requires-clause-writer
ask-written-requires-clause-writer g c =
    let may = c.requires.may in
    let run = c.run_each.ensures.run in
    let own = run.own may.cache may.own in
    has_writer c.args.self.through false run.asked.runs c.run_each.new.self.writes.items c.run_each.new.session.agent.hands.outside.writer run.asked.writes_are (λ is. own.writes (sym may.room_is.through_is ∙ is))

pub ask-deleted-requires-clause-nothing : goal.ask-deleted-requires-clause-nothing
ask-deleted-requires-clause-nothing g c = holds_nothing _ _ (c.ask-written.ensures.own c.requires.may.cache (c.run_each.ensures.run.own c.requires.may.cache c.requires.may.own))

pub ask-deleted-requires-clause-writer : goal.ask-deleted-requires-clause-writer
ask-deleted-requires-clause-writer g c =
    let may = c.requires.may in
    let run = c.run_each.ensures.run in
    let own = c.ask-written.ensures.own may.cache (run.own may.cache may.own) in
    has_writer c.args.self.through true run.asked.runs c.run_each.new.self.deletes.items c.ask-written.new.session.agent.hands.outside.writer run.asked.deletes_are (λ is. own.writes (sym may.room_is.through_is ∙ is))

pub returns-then-through-clause-asked : goal.returns-then-through-clause-asked
returns-then-through-clause-asked g c =
    let run = c.run_each.ensures.run in
    let w = c.ask-written.ensures in
    let d = c.ask-deleted.ensures in
    record {
      asked = round_asked _ c.args.processing.now.args.now c.args.self.through c.args.session.now.agent c.run_each.new.session c.ask-written.new.session c.ask-deleted.new.session
          c.args.processing.now.processor.now c.run_each.new.processing.processor.now c.args.tickets.now.items c.run_each.new.self
          c.reverse.new.self c.ask-written.result.0 c.ask-deleted.result.0 c.ask-written.result.1 c.ask-deleted.result.1
          run.asked w.asked d.asked c.reverse.ensures.items c.requires.may.fresh;
      rest = rest_on c.args.session.now c.ask-written.new.session c.ask-deleted.new.session d.rest (rest_on c.args.session.now c.run_each.new.session c.ask-written.new.session w.rest run.rest);
      own = λ cache of. d.own cache (w.own cache (run.own cache of));
    }

pub returns-else-through-clause-asked : goal.returns-else-through-clause-asked
returns-else-through-clause-asked g c =
    let run = c.run_each.ensures.run in
    let kept = c.run_each.ensures.room in
    let quiet = kept.quiet (sym kept.through_is ∙ c.if-through.false) in
    let room = c.requires.may.room_is in
    record {
      asked = round_asked _ c.args.processing.now.args.now c.args.self.through c.args.session.now.agent c.run_each.new.session c.run_each.new.session c.run_each.new.session
          c.args.processing.now.processor.now c.run_each.new.processing.processor.now c.args.tickets.now.items c.run_each.new.self
          c.reverse.new.self c.new-written.result c.new-deleted.result (Ok tt) (Ok tt)
          run.asked
          (unasked_writer _ _ _ c.run_each.new.session c.run_each.new.self.writes.deletes c.run_each.new.self.writes.items c.new-written.result.items (ap (λ (w : WriteCallState). w.items) (quiet.0 ∙ room.writes_are)) c.new-written.ensures.items)
          (unasked_writer _ _ _ c.run_each.new.session c.run_each.new.self.deletes.deletes c.run_each.new.self.deletes.items c.new-deleted.result.items (ap (λ (w : WriteCallState). w.items) (quiet.1 ∙ room.deletes_are)) c.new-deleted.ensures.items)
          c.reverse.ensures.items c.requires.may.fresh;
      rest = run.rest;
      own = run.own;
    }

pub returns-then-through-clause-left : goal.returns-then-through-clause-left
returns-then-through-clause-left g c = (sym c.run_each.ensures.room.through_is ∙ c.if-through.true, c.reverse.ensures.capacity ∙ c.run_each.ensures.room.runs_room)

pub returns-else-through-clause-left : goal.returns-else-through-clause-left
returns-else-through-clause-left g c =
    let kept = c.run_each.ensures.room in
    let off = sym kept.through_is ∙ c.if-through.false in
    ((off, (kept.quiet off).0, (kept.quiet off).1), c.reverse.ensures.capacity ∙ kept.runs_room)
