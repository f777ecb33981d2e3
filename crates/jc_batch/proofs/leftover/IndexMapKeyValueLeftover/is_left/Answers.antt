use Rattle.std.proofs.Common.{◌==◌, ◌∙◌}
use Rattle.std.proofs.lemmas.Map.Made.{is_some-lookup}
use Rattle.std.specs.Cmp.Lexicographic.{pointwise}
use Rattle.jc_batch.proofs.leftover.IndexMapKeyValueLeftover.is_left.Goals as goal

pub returns : goal.returns
returns c = c.contains_key.ensures ∙ is_some-lookup (pointwise ◌==◌ c.args.key.now) c.args.self.now.entries
