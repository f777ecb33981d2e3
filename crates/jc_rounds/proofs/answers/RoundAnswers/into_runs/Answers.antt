use Rattle.jc_rounds.proofs.Common.{subst, [], ◌∙◌, sym, AreAnswers, ProcessAll}
use Rattle.jc_rounds.proofs.Answering.{processes_over}
use Rattle.jc_rounds.proofs.OutsideCalls.{none_long}
use Rattle.jc_rounds.proofs.answers.RoundAnswers.into_runs.Goals as goal

pub destroy_empty-requires : goal.destroy_empty-requires
destroy_empty-requires c =
    let r = c.requires in
    (processes_over r.0 (ProcessAll r.1) c.in-Processes.done c.in-Processes.written c.in-Processes.deleted (subst (λ a. AreAnswers r.0 (ProcessAll r.1) a []) c.in-Processes.is r.2)).1

pub destroy_empty-requires-in-Processes : goal.destroy_empty-requires-in-Processes
destroy_empty-requires-in-Processes c =
    let r = c.requires in
    (processes_over r.0 (ProcessAll r.1) c.in-Processes.done c.in-Processes.written c.in-Processes.deleted (subst (λ a. AreAnswers r.0 (ProcessAll r.1) a []) c.in-Processes.is r.2)).2

pub returns-clause-none : goal.returns-clause-none
returns-clause-none c =
    let r = c.requires in
    none_long c.in-Processes.done.items
    (sym c.in-Processes.done.ok.0 ∙ (processes_over r.0 (ProcessAll r.1) c.in-Processes.done c.in-Processes.written c.in-Processes.deleted (subst (λ a. AreAnswers r.0 (ProcessAll r.1) a []) c.in-Processes.is r.2)).0)
