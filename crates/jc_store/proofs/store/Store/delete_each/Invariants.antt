use Rattle.std.proofs.Common.{◌≡◌, take}
use Rattle.jc_store.specs.Store.{without_keys}
use Rattle.jc_store.proofs.store.Store.delete_each.Given as goal

abbrev pub invariant-loop-key : goal.invariant-loop-key
invariant-loop-key l = l.self ≡ without_keys l.fn.self (take l.key-index l.keys)
