use Rattle.std.proofs.Common.{Option, None, ap, ◌∙◌}
use Rattle.std.specs.Option.{option_map_or}
use Rattle.jc_model.specs.Cache.{Bytes}
use Rattle.jc_batch.specs.Answers.{AnswersState, answer_of}
use Rattle.jc_batch.proofs.CallerLemmas.{get-entries}
use Rattle.jc_batch.proofs.answers.Answers.get.Goals as goal

pub returns-in-Some : goal.returns-in-Some
returns-in-Some c =
    ap (λ (o : Option (Option Bytes)). option_map_or (λ (answer : Option Bytes). answer) o None) (c.in-Some.ensures.value ∙ get-entries c.self.inside.answers c.args.key.now)
    ∙ ap (λ (a : AnswersState). answer_of a.by_key c.args.key.now) c.self.view_is

pub returns-in-None : goal.returns-in-None
returns-in-None c =
    ap (λ (o : Option (Option Bytes)). option_map_or (λ (answer : Option Bytes). answer) o None) (c.in-None.ensures.value ∙ get-entries c.self.inside.answers c.args.key.now)
    ∙ ap (λ (a : AnswersState). answer_of a.by_key c.args.key.now) c.self.view_is
