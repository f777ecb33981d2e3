use Rattle.jc_text.proofs.Common.{◌≡◌, ◌∙◌, ◌==◌, ◌++◌, ◌∷◌, [], None, ap, pointwise, is_some-lookup, Pairs, names_key}
use Rattle.std.specs.Map.{lookup}
use Rattle.indexmap.proofs.CallerLemmas.{insert_entry-new}
use Rattle.jc_types.proofs.CallerLemmas.{none_from}
use Rattle.jc_text.proofs.read.distinct_pairs.DistinctPairs.add.Goals as goal

pub returns : goal.returns
returns c =
    let m = c.self.inside.map in
    let key = c.args.key in
    let value = c.args.value in
    let known = ap (λ (pairs : Pairs). names_key pairs key) c.self.view_is ∙ c.requires in
    let absent : lookup (pointwise ◌==◌ key) m.entries ≡ None = none_from _ (is_some-lookup (pointwise ◌==◌ key) m.entries ∙ known) in
    c.in_ok-insert.ensures.entries ∙ insert_entry-new (pointwise ◌==◌) m key value absent ∙ ap (λ (pairs : Pairs). pairs ++ (key, value) ∷ []) c.self.view_is
