use Rattle.std.proofs.Common.{None, Option, is_some, ap, sym, ◌∙◌}
use Rattle.std.specs.FinMap.{get, insert}
use Rattle.jc_model.specs.Cache.{Bytes}
use Rattle.jc_batch.specs.Answers.{AnswersByKey}
use Rattle.jc_batch.proofs.Answering.{answers-again, answers-push}
use Rattle.jc_batch.proofs.CallerLemmas.{get-entries, insert-entries}
use Rattle.jc_batch.proofs.load_batch.ask.Goals as goal

pub returns-then-contains_key-clause-asked : goal.returns-then-contains_key-clause-asked
returns-then-contains_key-clause-asked c keys is =
    is
    ∙ sym (answers-again keys c.args.key
    (sym (ap (λ (o : Option (Option Bytes)). is_some o) (get-entries c.args.answers.now c.args.key ∙ ap (λ (m : AnswersByKey). get m c.args.key) is))
    ∙ sym c.contains_key.ensures ∙ c.if-contains_key.true))

pub returns-clause-asked : goal.returns-clause-asked
returns-clause-asked c keys is =
    insert-entries c.args.answers.now c.insert.new.self c.args.key None c.in-Ok.ensures.updates
    ∙ ap (λ (m : AnswersByKey). insert m c.args.key None) is
    ∙ sym (answers-push keys c.args.key)
