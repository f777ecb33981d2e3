use Rattle.std.proofs.Common.{◌≡◌, ◌==◌, drop}
use Rattle.std.specs.List.{list_all}
use Rattle.jc_types.specs.Stripes.{stripe_of}
use Rattle.jc_c.specs.Layouts.{inline_entries}
use Rattle.jc_c.proofs.opening.is_opening_of.Given as goal

abbrev pub invariant-loop-entry : goal.invariant-loop-entry
invariant-loop-entry l =
    list_all (λ entry. stripe_of entry.0 l.stripes == l.number) (inline_entries (drop l.entry-index l.entries)) ≡ list_all (λ entry. stripe_of entry.0 l.stripes == l.number) (inline_entries l.entries)
