use Rattle.std.proofs.Common.{◌≡◌, drop}
use Rattle.jc_model.specs.Listed.{has_distinct_keys}
use Rattle.jc_c.specs.Layouts.{inline_entries}
use Rattle.jc_c.proofs.opening.is_apart.Given as goal

abbrev pub invariant-loop-i : goal.invariant-loop-i
invariant-loop-i l = has_distinct_keys (inline_entries (drop l.i l.entries)) ≡ has_distinct_keys (inline_entries l.entries)
