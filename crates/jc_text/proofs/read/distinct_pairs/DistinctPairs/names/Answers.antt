use Rattle.jc_text.proofs.Common.{◌∙◌, ◌==◌, ap, pointwise, is_some-lookup, Pairs, names_key}
use Rattle.jc_text.proofs.read.distinct_pairs.DistinctPairs.names.Goals as goal

pub returns : goal.returns
returns c =
    let key = c.args.key.now in
    c.contains_key.ensures ∙ is_some-lookup (pointwise ◌==◌ key) c.self.inside.map.entries ∙ ap (λ (pairs : Pairs). names_key pairs key) c.self.view_is
