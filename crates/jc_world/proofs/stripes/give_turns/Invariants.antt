use Rattle.jc_world.proofs.Common.{◌≡◌, ◌+◌, ◌-◌, ◌≤◌, ◌++◌, length, replicate, vec_len, vec_capacity}
use Rattle.jc_world.proofs.stripes.give_turns.Given as goal

-- the turns so far, and there is room for the others
abbrev pub invariant-loop-place : goal.invariant-loop-place
invariant-loop-place l = record {
  given : l.turns.items ≡ l.fn.turns.items ++ replicate (l.place - l.fn.from) l.number;
  room : vec_len l.turns + (length l.stripe.history - l.place) ≤ vec_capacity l.turns;
}
