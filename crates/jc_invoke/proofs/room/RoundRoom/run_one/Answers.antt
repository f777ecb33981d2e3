use Rattle.jc_invoke.proofs.Common.{RunState, TicketClaim, Reservation, ◌≡◌, ◌++◌, ◌∷◌, [], refl, ap, ◌∙◌}
use Rattle.jc_cache.proofs.CallerLemmas.{after_asking, same_type}
use Rattle.jc_invoke.proofs.Runs.{done_as, one_of}
use Rattle.jc_invoke.proofs.room.RoundRoom.run_one.Goals as goal

pub returns-clause-same : goal.returns-clause-same
returns-clause-same g c =
    let kept = c.note.ensures.same.1 in
    (record { through_is = kept.through_is; runs_room = c.push_reserved.ensures.capacity ∙ kept.runs_room; quiet = kept.quiet }, (refl, refl))

pub returns-clause-run : goal.returns-clause-run
returns-clause-run g c =
    let e = c.run_processor-done.ensures in
    let n = c.note.ensures.noted in
    let done = c.run_processor-done.result in
    let r : Reservation = c.args.ticket.now.reservation in
    let s : Reservation = c.ask.new.self.reservation in
    let same : s ≡ r = ap (λ (t : TicketClaim). t.reservation) c.ask.ensures.asked in
    let run : RunState = record { reservation = s; load = done.load; process = done.process } in
    record {
      asked = record {
        run = run;
        reservation = same;
        kept = c.note.ensures.same.2 ∙ same;
        one = one_of _ c.args.processing.now.args.now run r c.ask.result c.args.processing.now.processor.now c.run_processor-done.new.processor c.args.session.now.agent.hands.outside.loader c.run_processor-done.new.self.hands.outside.loader same c.ask.ensures.ask e.run e.loader;
        done_is = c.push_reserved.ensures.items ∙ (λ i. (c.note.ensures.same.0 i).items ++ done_as done r s c.ask.result e.ask c.ask.ensures.ask same e.origin i ∷ []);
        noted = record {
          through_is = n.through_is;
          runs_room = c.push_reserved.ensures.capacity ∙ n.runs_room;
          writes_kind = n.writes_kind;
          deletes_kind = n.deletes_kind;
          writes_are = n.writes_are;
          deletes_are = n.deletes_are;
          writes_room = n.writes_room;
          deletes_room = n.deletes_room;
        };
        loader_type = e.loader_type;
        writer = e.writer;
        processor_type = e.processor_type;
      };
      rest = ap (λ agent. record c.args.session.now { agent = agent }) e.rest;
      own = λ cache of. after_asking cache c.args.session.now c.run_processor-done.new.self e.rest e.held e.loader_type (same_type _ _ e.writer) of;
    }
