use Rattle.std.proofs.Common.{rules, ◌==◌, ◌∙◌, ap, filter, not}
use Rattle.std.proofs.lemmas.Fn.{filter_same}
use Rattle.std.specs.Cmp.Lexicographic.{pointwise}
use Rattle.jc_model.specs.Cache.{Bytes}
use Rattle.jc_stripe.proofs.marks.Marks.remove.Goals as goal

pub returns : goal.returns
returns c = filter_same _ (λ (k : Bytes). not (pointwise ◌==◌ c.args.key.now k)) _ (λ x b q r. search rules) _ _ c.retain.ensures.filtered ∙ ap (filter (λ (k : Bytes). not (pointwise ◌==◌ c.args.key.now k))) c.self.view_is
