use Rattle.std.proofs.Common.{◌≡◌, take}
use Rattle.std.specs.FinMap.{from_entries}
use Rattle.jc_model.specs.Cache.{key_cmp}
use Rattle.jc_batch.specs.Answers.{no_answers}
use Rattle.jc_batch.proofs.answers.ask_all.Given as goal

abbrev pub invariant-loop-key : goal.invariant-loop-key
invariant-loop-key l = from_entries {R = key_cmp} l.answers.entries ≡ no_answers (take l.key-index l.keys)
