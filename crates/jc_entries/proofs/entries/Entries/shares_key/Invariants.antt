use Rattle.std.proofs.Common.{◌≡◌}
use Rattle.jc_model.specs.Apart.{keys_apart}
use Rattle.jc_entries.proofs.entries.Entries.shares_key.Given as goal

abbrev pub invariant-loop-key : goal.invariant-loop-key
invariant-loop-key l = keys_apart l.key-iterator l.other.list ≡ keys_apart l.self.list l.other.list
