use Rattle.jc_world.proofs.Common.{◌≡◌, is_some, Option, Some, None, sym, ap, ◌∙◌, subst, Change, Out, change_due, Ends, IsOut, TicketClaim, Claim, claim_of, asks_processor, Reservation}
use Rattle.jc_world.proofs.Committing.{change_is, change_some, given_if, has_report, no_report}
use Rattle.jc_outside.specs.Done.{WriteResult}
use Rattle.jc_stripe.specs.Tickets.{report_claim}
use Rattle.jc_stripe.specs.Effects.{process_out}
use Rattle.jc_stripe.specs.Phases.{with_reply}
use Rattle.jc_world.proofs.run.commit_run.Goals as goal

pub returns-in-Some : goal.returns-in-Some
returns-in-Some c =
    let written = c.played_write-written.result in
    let answer = ap (λ (d : WriteResult Claim). d.answer) c.played_write-written.ensures in
    let out : process_out c.args.done (Some written) ≡ c.args.progress.now.out = λ i. record { load = c.requires.load i; write = answer i; process = c.requires.process i } in
    let r = ap (λ (t : TicketClaim). t.reservation) c.ask_writer.ensures.writer_asked in
    let P : Reservation → Out → Type 0 = λ r o. Ends c.args.stripe.now r o (with_reply c.commit_process.result c.commit_process.new.reply) c.commit_process.new.self in
    subst (P c.args.ticket.reservation) out (subst (λ x. P x (process_out c.args.done (Some written))) r c.commit_process.ensures.ends)

pub ask_writer-requires : goal.ask_writer-requires
ask_writer-requires c =
    let config = c.args.stripe.now.config in
    let is : change_due config c.args.done ≡ Some c.in-Some.field-0 = change_is config c.args.done c.args.progress.now.out c.requires.load c.requires.process ∙ sym c.requires.due ∙ c.in-Some.is in
    record { asked = c.requires.asked; writer = c.requires.writer; claim = c.requires.claim; change = ap is_some (change_some config c.args.done c.in-Some.field-0 is) }

pub played_write-written-requires : goal.played_write-written-requires
played_write-written-requires c = given_if c.args.progress.now.change c.in-Some.field-0 _ c.in-Some.is c.requires.reported

pub commit_process-requires : goal.commit_process-requires
commit_process-requires c =
    let config = c.args.stripe.now.config in
    let done = c.args.done in
    let written = c.played_write-written.result in
    let r : c.ask_writer.new.self.reservation ≡ c.args.ticket.reservation = ap (λ (t : TicketClaim). t.reservation) c.ask_writer.ensures.writer_asked in
    let is : change_due config done ≡ Some c.in-Some.field-0 = change_is config done c.args.progress.now.out c.requires.load c.requires.process ∙ sym c.requires.due ∙ c.in-Some.is in
    let same = change_some config done c.in-Some.field-0 is ∙ sym is in
    let claim : Reservation → Option Change → Claim = report_claim in
    let asked : written.ask ≡ claim c.ask_writer.new.self.reservation (change_due config done) =
    ap (λ (d : WriteResult Claim). d.ask) c.played_write-written.ensures ∙ c.ask_writer.ensures.ask ∙ (λ i. claim (sym r i) (same i)) in
    record {
      out = subst (IsOut c.args.stripe.now) (sym r) c.requires.out;
      first = ap (λ (x : Reservation). asks_processor x.first) r ∙ c.requires.first;
      claim = c.requires.claim ∙ ap claim_of (sym r);
      origin = c.requires.played ∙ sym c.requires.origin;
      report = has_report c.args.stripe.now.origin c.ask_writer.new.self.reservation (change_due config done) c.in-Some.field-0 written is asked
          (ap (λ (d : WriteResult Claim). d.origin) c.played_write-written.ensures ∙ sym c.requires.origin);
    }

pub commit_process-requires-in-None : goal.commit_process-requires-in-None
commit_process-requires-in-None c = record {
  out = c.requires.out;
  first = c.requires.first;
  claim = c.requires.claim;
  origin = c.requires.played ∙ sym c.requires.origin;
  report =
      no_report c.args.stripe.now.origin c.args.ticket.reservation (change_due c.args.stripe.now.config c.args.done)
      (change_is c.args.stripe.now.config c.args.done c.args.progress.now.out c.requires.load c.requires.process ∙ sym c.requires.due ∙ c.in-None.is);
}

pub returns-in-None : goal.returns-in-None
returns-in-None c =
    let out : process_out c.args.done None ≡ c.args.progress.now.out = λ i. record { load = c.requires.load i; write = sym (c.requires.unwritten c.in-None.is) i; process = c.requires.process i } in
    subst (λ (o : Out). Ends c.args.stripe.now c.args.ticket.reservation o (with_reply c.commit_process-in-None.result c.commit_process-in-None.new.reply) c.commit_process-in-None.new.self) out c.commit_process-in-None.ensures.ends
