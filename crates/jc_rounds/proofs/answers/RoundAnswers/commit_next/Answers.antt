use Rattle.jc_rounds.proofs.Common.{◌∷◌, ◌∙◌, ap, sym, subst, load_only, write_only, with_reply, AreAnswers, IsReportedOn, TakesReport, done_room}
use Rattle.jc_stripe.specs.Effects.{process_out}
use Rattle.jc_rounds.proofs.Answering.{loads_next, processes_next, report_due, run_done, run_over, writes_next}
use Rattle.jc_rounds.proofs.KeyCalls.{commit_told}
use Rattle.jc_rounds.proofs.answers.RoundAnswers.commit_next.Goals as goal

pub next_report-report-requires : goal.next_report-report-requires
next_report-report-requires g c =
    let r = c.requires.answers in
    let next = processes_next c.args.cache.now.config r.0 c.in-Processes.done c.pop-in-Processes.new.self _ _ c.in-Some-pop-2.done c.args.ticket.reservation r.1 c.in-Some-pop-2.ensures.items (subst (λ a. AreAnswers c.args.cache.now.config r.0 a (c.args.ticket.reservation ∷ r.1)) c.in-Processes.is r.2) in
    (next.told, next.run, next.runs, subst (λ x. IsReportedOn x.write_through next.told next.run next.runs c.in-Some-pop-2.done c.in-Processes.written.items c.in-Processes.deleted.items) (sym c.config.ensures.config) next.reported)

pub commit_process-requires-clause-done : goal.commit_process-requires-clause-done
commit_process-requires-clause-done g c =
    let r = c.requires.answers in
    run_done c.args.cache.now.config r.0 c.pop-in-Processes.new.self _ _ c.in-Some-pop-2.done c.args.ticket.reservation r.1
    (processes_next c.args.cache.now.config r.0 c.in-Processes.done c.pop-in-Processes.new.self c.in-Processes.written c.in-Processes.deleted c.in-Some-pop-2.done c.args.ticket.reservation r.1 c.in-Some-pop-2.ensures.items (subst (λ a. AreAnswers c.args.cache.now.config r.0 a (c.args.ticket.reservation ∷ r.1)) c.in-Processes.is r.2))

pub commit_process-requires-clause-report : goal.commit_process-requires-clause-report
commit_process-requires-clause-report g c =
    let r = c.requires.answers in
    let next = processes_next c.args.cache.now.config r.0 c.in-Processes.done c.pop-in-Processes.new.self c.in-Processes.written c.in-Processes.deleted c.in-Some-pop-2.done c.args.ticket.reservation r.1 c.in-Some-pop-2.ensures.items (subst (λ a. AreAnswers c.args.cache.now.config r.0 a (c.args.ticket.reservation ∷ r.1)) c.in-Processes.is r.2) in
    let takes = c.next_report-report.ensures next.told next.run next.runs (subst (λ x. IsReportedOn x.write_through next.told next.run next.runs c.in-Some-pop-2.done c.in-Processes.written.items c.in-Processes.deleted.items) (sym c.config.ensures.config) next.reported) in
    report_due c.args.cache.now.config r.0 c.pop-in-Processes.new.self c.in-Processes.written c.in-Processes.deleted c.in-Some-pop-2.done c.args.ticket.reservation r.1 next c.next_report-report.result c.next_report-report.new.written c.next_report-report.new.deleted
    (subst (λ x. TakesReport x.write_through next.told next.run next.runs c.next_report-report.result c.next_report-report.new.written.items c.next_report-report.new.deleted.items) c.config.ensures.config takes)

pub returns-in-Some-clause-told : goal.returns-in-Some-clause-told
returns-in-Some-clause-told g c round rest are =
    let next = loads_next c.args.cache.now.config round c.in-Loads.done c.pop.new.self c.in-Some.done c.args.ticket.reservation rest c.in-Some.ensures.items (subst (λ a. AreAnswers c.args.cache.now.config round a (c.args.ticket.reservation ∷ rest)) c.in-Loads.is are) in
    let told = commit_told c.is_uniform.ensures c.own_steps.ensures c.args.cache.now c.args.session.now c.commit_load.new.session c.requires.may.own c.args.ticket.reservation (load_only c.in-Some.done.answer) (with_reply c.commit_load.result c.commit_load.new.reply) _
    c.commit_load.ensures.phase c.requires.caller.0 c.requires.caller.1 c.requires.may.none in
    (next.1, record { own = c.commit_load.ensures.own; agent = c.commit_load.ensures.phase.left; moves = told.0; made = (load_only c.in-Some.done.answer, next.2, told.1) })

pub returns-in-Some-pop-clause-told : goal.returns-in-Some-pop-clause-told
returns-in-Some-pop-clause-told g c round rest are =
    let next = writes_next c.args.cache.now.config round c.in-Writes.done c.pop-in-Writes.new.self c.in-Some-pop.done c.args.ticket.reservation rest c.in-Some-pop.ensures.items (subst (λ a. AreAnswers c.args.cache.now.config round a (c.args.ticket.reservation ∷ rest)) c.in-Writes.is are) in
    let told = commit_told c.is_uniform.ensures c.own_steps.ensures c.args.cache.now c.args.session.now c.commit_write.new.session c.requires.may.own c.args.ticket.reservation (write_only c.in-Some-pop.done.answer) (with_reply c.commit_write.result c.commit_write.new.reply) _
    c.commit_write.ensures.phase c.requires.caller.0 c.requires.caller.1 c.requires.may.none in
    (next.1, record { own = c.commit_write.ensures.own; agent = c.commit_write.ensures.phase.left; moves = told.0; made = (write_only c.in-Some-pop.done.answer, next.2, told.1) })

pub returns-in-Some-pop-2-clause-told : goal.returns-in-Some-pop-2-clause-told
returns-in-Some-pop-2-clause-told g c round rest are =
    let next = processes_next c.args.cache.now.config round c.in-Processes.done c.pop-in-Processes.new.self c.in-Processes.written c.in-Processes.deleted c.in-Some-pop-2.done c.args.ticket.reservation rest c.in-Some-pop-2.ensures.items (subst (λ a. AreAnswers c.args.cache.now.config round a (c.args.ticket.reservation ∷ rest)) c.in-Processes.is are) in
    let takes = c.next_report-report.ensures next.told next.run next.runs (subst (λ x. IsReportedOn x.write_through next.told next.run next.runs c.in-Some-pop-2.done c.in-Processes.written.items c.in-Processes.deleted.items) (sym c.config.ensures.config) next.reported) in
    let over = run_over c.args.cache.now.config round c.pop-in-Processes.new.self c.in-Processes.written c.in-Processes.deleted c.in-Some-pop-2.done c.args.ticket.reservation rest next c.next_report-report.result c.next_report-report.new.written c.next_report-report.new.deleted
    (subst (λ x. TakesReport x.write_through next.told next.run next.runs c.next_report-report.result c.next_report-report.new.written.items c.next_report-report.new.deleted.items) c.config.ensures.config takes) in
    let out = process_out c.in-Some-pop-2.done c.next_report-report.result in
    let told = commit_told c.is_uniform.ensures c.own_steps.ensures c.args.cache.now c.args.session.now c.commit_process.new.session c.requires.may.own c.args.ticket.reservation out (with_reply c.commit_process.result c.commit_process.new.reply) _
    c.commit_process.ensures.phase c.requires.caller.0 c.requires.caller.1 c.requires.may.none in
    (over.0, record { own = c.commit_process.ensures.own; agent = c.commit_process.ensures.phase.left; moves = told.0; made = (out, over.1, told.1) })

pub returns-in-Some-clause-room : goal.returns-in-Some-clause-room
returns-in-Some-clause-room g c = c.in-Some.ensures.capacity ∙ sym (ap done_room c.in-Loads.is)

pub returns-in-Some-pop-clause-room : goal.returns-in-Some-pop-clause-room
returns-in-Some-pop-clause-room g c = c.in-Some-pop.ensures.capacity ∙ sym (ap done_room c.in-Writes.is)

pub returns-in-Some-pop-2-clause-room : goal.returns-in-Some-pop-2-clause-room
returns-in-Some-pop-2-clause-room g c = c.in-Some-pop-2.ensures.capacity ∙ sym (ap done_room c.in-Processes.is)
