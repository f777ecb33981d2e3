use Rattle.std.proofs.Common.{◌≡◌, ◌+◌, ◌≤◌, ◌++◌, length, vec_len, vec_capacity}
use Rattle.std.specs.Map.{keys_of}
use Rattle.jc_entries.proofs.entries.Entries.keys.Given as goal

abbrev pub invariant-loop-key : goal.invariant-loop-key
invariant-loop-key l =
    (l.out.items ++ keys_of l.key-iterator ≡ l.initial.out.items ++ keys_of l.self.list)
    × (vec_capacity l.out ≡ vec_capacity l.initial.out)
    × (vec_len l.out + length l.key-iterator ≤ vec_capacity l.out)
