use Rattle.std.proofs.Common.{◌≡◌, take}
use Rattle.jc_c.specs.Layouts.{inline_entries}
use Rattle.jc_c.proofs.opening.contents_of.Given as goal

abbrev pub invariant-loop-entry : goal.invariant-loop-entry
invariant-loop-entry l = l.contents.items ≡ inline_entries (take l.entry-index l.entries)
