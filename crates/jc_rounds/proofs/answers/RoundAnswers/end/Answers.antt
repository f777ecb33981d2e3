use Rattle.jc_rounds.proofs.Common.{subst, [], AreAnswers}
use Rattle.jc_rounds.proofs.Answering.{processes_over}
use Rattle.jc_rounds.proofs.answers.RoundAnswers.end.Goals as goal

pub destroy_empty-requires-in-Processes : goal.destroy_empty-requires-in-Processes
destroy_empty-requires-in-Processes c = let r = c.requires in (processes_over r.0 r.1 _ _ _ (subst (λ a. AreAnswers r.0 r.1 a []) c.in-Processes.is r.2)).0

pub destroy_empty-requires-in-Processes-2 : goal.destroy_empty-requires-in-Processes-2
destroy_empty-requires-in-Processes-2 c = let r = c.requires in (processes_over r.0 r.1 _ _ _ (subst (λ a. AreAnswers r.0 r.1 a []) c.in-Processes.is r.2)).1

pub destroy_empty-requires-in-Processes-3 : goal.destroy_empty-requires-in-Processes-3
destroy_empty-requires-in-Processes-3 c = let r = c.requires in (processes_over r.0 r.1 _ _ _ (subst (λ a. AreAnswers r.0 r.1 a []) c.in-Processes.is r.2)).2
