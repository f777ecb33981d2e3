use Rattle.jc_world.proofs.Common.{◌≡◌, take, map, length, vec_capacity, Bytes}
use Rattle.jc_world.proofs.machine.reopening.keys_of.Given as goal

-- the keys of the entries so far, with room for the others
abbrev pub invariant-loop-entry : goal.invariant-loop-entry
invariant-loop-entry l =
    (l.keys.items ≡ map (λ (entry : Bytes × Bytes). entry.0) (take l.entry-index l.entries)) × (vec_capacity l.keys ≡ length l.entries)
