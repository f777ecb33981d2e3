use Rattle.std.proofs.Common.{◌≡◌, ◌+◌, ◌≤◌, ◌++◌, length, vec_len, vec_capacity}
use Rattle.jc_entries.proofs.entries.Entries.append_to.Given as goal

abbrev pub invariant-loop-key : goal.invariant-loop-key
invariant-loop-key l =
    (l.out.items ++ l.key-iterator ≡ l.initial.out.items ++ l.self.list)
    × (vec_len l.out + length l.key-iterator ≤ vec_capacity l.out)
