use Rattle.std.proofs.Common.{◌++◌, [], ◌∷◌, None, take, ap, sym, ◌∙◌}
use Rattle.std.proofs.lemmas.List.{take_more}
use Rattle.std.specs.FinMap.{insert}
use Rattle.jc_model.specs.Cache.{Bytes}
use Rattle.jc_batch.specs.Answers.{AnswersByKey, no_answers}
use Rattle.jc_batch.proofs.CallerLemmas.{insert-entries}
use Rattle.jc_batch.proofs.Answering.{answers-push}
use Rattle.jc_batch.proofs.answers.ask_all.Goals as goal

pub loop-key-preserved : goal.loop-key-preserved
loop-key-preserved c =
    let k = c.key-item.result in
    insert-entries c.loop-key.answers c.insert.new.self k None c.in_ok-insert.ensures.updates
    ∙ ap (λ (m : AnswersByKey). insert m k None) c.loop-key.invariant
    ∙ sym (answers-push (take c.loop-key.key-index c.args.keys.now) k)
    ∙ ap no_answers (ap (λ (x : Bytes). take c.loop-key.key-index c.args.keys.now ++ x ∷ []) c.key-item.is ∙ sym (take_more c.args.keys.now c.loop-key.key-index k c.loop-key-test.true))
