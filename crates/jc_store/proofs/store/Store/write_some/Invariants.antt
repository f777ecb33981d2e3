use Rattle.std.proofs.Common.{◌≡◌, take}
use Rattle.jc_store.specs.Store.{with_entries}
use Rattle.jc_store.proofs.store.Store.write_some.Given as goal

abbrev pub invariant-loop-place : goal.invariant-loop-place
invariant-loop-place l = l.self ≡ with_entries l.fn.self (take l.place l.entries.entries)
