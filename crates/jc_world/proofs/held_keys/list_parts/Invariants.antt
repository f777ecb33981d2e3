use Rattle.std.proofs.Common.{◌≡◌, ◌++◌}
use Rattle.jc_world.proofs.held_keys.list_parts.Given as goal

abbrev pub invariant-loop-key : goal.invariant-loop-key
invariant-loop-key l = l.parts.items ++ l.key-iterator ≡ l.held.entries
