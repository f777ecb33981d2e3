use Rattle.std.proofs.Common.{◌≡◌, drop}
use Rattle.std.specs.FinMap.{find}
use Rattle.jc_model.specs.Cache.{key_cmp}
use Rattle.jc_c.specs.Layouts.{inline_entries}
use Rattle.jc_c.proofs.opening.has_key.Given as goal

abbrev pub invariant-loop-entry : goal.invariant-loop-entry
invariant-loop-entry l = find key_cmp l.key (inline_entries (drop l.entry-index l.entries)) ≡ find key_cmp l.key (inline_entries l.entries)
