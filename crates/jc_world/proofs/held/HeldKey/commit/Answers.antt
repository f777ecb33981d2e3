use Rattle.jc_outside.specs.Done.{LoadResult, WriteResult}
use Rattle.jc_world.proofs.Common.{◌≡◌, Bool, ◌⊎◌, Option, Some, sym, ap, ◌∙◌, subst, Bytes, Out, First, Loader, Nobody, Processor, Writer, Ends, IsOut, load_only, write_only, Reservation, State, StepDone, TicketClaim, Claim, claim_of, asks_loader, asks_writer, Part, IsDue, is_all_answered, out_of_part}
use Rattle.jc_world.proofs.Committing.{unwritten_of, due_of, is_reported, load_answered, write_answered, loaded_only, written_only, somebody_asks}
use Rattle.jc_stripe.specs.Phases.{with_reply}
use Rattle.jc_world.specs.Held.{HasPlayedRun}
use Rattle.jc_world.proofs.held.HeldKey.commit.Goals as goal

-- 1. Behind a processor.

pub commit_run-requires : goal.commit_run-requires
commit_run-requires c =
    let ticket = c.self.inside.ticket in
    let progress = c.self.inside.progress in
    let run : HasPlayedRun ticket (Some c.in-Some.done) progress.out = subst (λ run. HasPlayedRun ticket run progress.out) c.in-Some.is c.self.invariant.run_is in
    record {
      first = run.1;
      asked = run.0;
      writer = c.self.invariant.writer;
      claim = run.2;
      played = run.3;
      load = run.4;
      process = run.5;
      unwritten = unwritten_of ticket.reservation.first progress run.1 c.self.invariant.of_asked;
      out = subst (λ (p : Part). IsOut c.args.stripe.now p.reservation) (sym c.self.view_is) c.requires.out;
      reported = is_reported (record { reservation = ticket.reservation; progress = progress }) (ap is_all_answered c.self.view_is ∙ c.requires.answered);
      origin = c.requires.origin;
      due = due_of c.args.stripe.now.config ticket.reservation.first progress run.1 (subst (IsDue c.args.stripe.now.config) (sym c.self.view_is) c.requires.due);
    }

pub returns-in-Some : goal.returns-in-Some
returns-in-Some c =
    let Q : Part → Type 0 = λ p. Ends c.args.stripe.now p.reservation (out_of_part p) (with_reply c.commit_run.result c.commit_run.new.reply) c.commit_run.new.stripe in
    subst Q c.self.view_is c.commit_run.ensures

-- 2. Behind the loader, or the writer.

-- the commit of a ticket is that of its part
ends_part : (from to : State) (done : StepDone) (part self : Part) (r : Reservation) (out : Out) → part ≡ self → r ≡ part.reservation → out ≡ out_of_part part → Ends from r out done to → Ends from self.reservation (out_of_part self) done to
ends_part from to done part self r out is r_is out_is h =
    let P : Reservation → Out → Type 0 = λ r o. Ends from r o done to in
    subst (λ (p : Part). P p.reservation (out_of_part p)) is (subst (P part.reservation) out_is (subst (λ r. P r out) r_is h))

pub ask-requires : goal.ask-requires
ask-requires c = (subst (λ run. HasPlayedRun c.self.inside.ticket run c.self.inside.progress.out) c.in-None.is c.self.invariant.run_is).0

pub played_load-done-requires : goal.played_load-done-requires
played_load-done-requires c =
    let part : Part = record { reservation = c.self.inside.ticket.reservation; progress = c.self.inside.progress } in
    let first : part.reservation.first ≡ Loader = ap (λ (r : Reservation). r.first) (sym c.reservation.ensures) ∙ c.in-Loader.is in
    load_answered part first c.self.invariant.of_asked (ap is_all_answered c.self.view_is ∙ c.requires.answered)

pub commit_load-requires : goal.commit_load-requires
commit_load-requires c =
    let r : c.ask.new.self.reservation ≡ c.self.inside.ticket.reservation = ap (λ (t : TicketClaim). t.reservation) c.ask.ensures.asked in
    record {
      out = subst (IsOut c.args.stripe.now) (sym (r ∙ ap (λ (p : Part). p.reservation) c.self.view_is)) c.requires.out;
      first = ap (λ (x : Reservation). asks_loader x.first) (r ∙ sym c.reservation.ensures) ∙ ap asks_loader c.in-Loader.is;
      claim = ap (λ (d : LoadResult Claim). d.ask) c.played_load-done.ensures ∙ c.ask.ensures.ask ∙ ap claim_of (sym r);
      origin = ap (λ (d : LoadResult Claim). d.origin) c.played_load-done.ensures ∙ sym c.requires.origin;
    }

pub returns-in-Loader : goal.returns-in-Loader
returns-in-Loader c =
    let part : Part = record { reservation = c.self.inside.ticket.reservation; progress = c.self.inside.progress } in
    let first : part.reservation.first ≡ Loader = ap (λ (r : Reservation). r.first) (sym c.reservation.ensures) ∙ c.in-Loader.is in
    ends_part _ _ _ part c.args.self _ _ c.self.view_is (ap (λ (t : TicketClaim). t.reservation) c.ask.ensures.asked)
    (ap (λ (d : LoadResult Claim). load_only d.answer) c.played_load-done.ensures ∙ loaded_only part first c.self.invariant.of_asked) c.commit_load.ensures.ends

pub ask-requires-in-Writer : goal.ask-requires-in-Writer
ask-requires-in-Writer c = (subst (λ run. HasPlayedRun c.self.inside.ticket run c.self.inside.progress.out) c.in-None.is c.self.invariant.run_is).0

pub played_write-done-requires : goal.played_write-done-requires
played_write-done-requires c =
    let part : Part = record { reservation = c.self.inside.ticket.reservation; progress = c.self.inside.progress } in
    let first : part.reservation.first ≡ Writer c.in-Writer.field-0 = ap (λ (r : Reservation). r.first) (sym c.reservation.ensures) ∙ c.in-Writer.is in
    write_answered part c.in-Writer.field-0 first c.self.invariant.of_asked (ap is_all_answered c.self.view_is ∙ c.requires.answered)

pub commit_write-requires : goal.commit_write-requires
commit_write-requires c =
    let r : c.ask-in-Writer.new.self.reservation ≡ c.self.inside.ticket.reservation = ap (λ (t : TicketClaim). t.reservation) c.ask-in-Writer.ensures.asked in
    record {
      out = subst (IsOut c.args.stripe.now) (sym (r ∙ ap (λ (p : Part). p.reservation) c.self.view_is)) c.requires.out;
      first = ap (λ (x : Reservation). asks_writer x.first) (r ∙ sym c.reservation.ensures) ∙ ap asks_writer c.in-Writer.is;
      claim = ap (λ (d : WriteResult Claim). d.ask) c.played_write-done.ensures ∙ c.ask-in-Writer.ensures.ask ∙ ap claim_of (sym r);
      origin = ap (λ (d : WriteResult Claim). d.origin) c.played_write-done.ensures ∙ sym c.requires.origin;
    }

pub returns-in-Writer : goal.returns-in-Writer
returns-in-Writer c =
    let part : Part = record { reservation = c.self.inside.ticket.reservation; progress = c.self.inside.progress } in
    let first : part.reservation.first ≡ Writer c.in-Writer.field-0 = ap (λ (r : Reservation). r.first) (sym c.reservation.ensures) ∙ c.in-Writer.is in
    ends_part _ _ _ part c.args.self _ _ c.self.view_is (ap (λ (t : TicketClaim). t.reservation) c.ask-in-Writer.ensures.asked)
    (ap (λ (d : WriteResult Claim). write_only d.answer) c.played_write-done.ensures ∙ written_only part c.in-Writer.field-0 first c.self.invariant.of_asked) c.commit_write.ensures.ends

-- 3. Nobody else.

abbrev IsOther : First → Type 0
IsOther first = (first ≡ Nobody) ⊎ ((entry : Option Bytes) × (may_load : Bool) × (first ≡ Processor entry may_load))

pub unreachable-requires : goal.unreachable-requires
unreachable-requires c =
    let ticket = c.self.inside.ticket in
    let first : IsOther ticket.reservation.first = subst (λ (r : Reservation). IsOther r.first) c.reservation.ensures c.in-Nobody.is in
    let ran = subst (λ run. HasPlayedRun ticket run c.self.inside.progress.out) c.in-None.is c.self.invariant.run_is in
    somebody_asks ticket c.self.inside.progress c.args.self (sym c.self.view_is) first c.self.invariant.of_asked ran c.requires.answered
