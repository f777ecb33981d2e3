use Rattle.jc_world.proofs.Common.{◌≡◌, ◌+◌, ◌-◌, ◌≤◌, length, take, vec_len, vec_capacity, RunAppending, IsSoundWorld}
use Rattle.jc_world.proofs.world.World.play.Given as goal

-- what was played so far, and there is room for what the others show
abbrev pub invariant-loop-event : goal.invariant-loop-event
invariant-loop-event l = record {
  run : RunAppending l.fn.self.world (take l.event-index l.events) l.fn.shown.items l.shown.items l.self-inside.machine;
  sound : IsSoundWorld l.self-inside.machine;
  taken : l.self-inside.played ≡ l.event-index;
  room : vec_len l.shown + (length l.events - l.event-index) ≤ vec_capacity l.shown;
}
