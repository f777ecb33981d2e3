use Rattle.jc_explore.proofs.Common.{◌≡◌, ◌<◌, ℕ, true, false, PlaysSchedule, opening, scene_state, AreKnown, AreNext, HasNextMove, Continues, StaysAt, WasFollowed}
use Rattle.jc_explore.proofs.search.expand.Given as goal

abbrev pub invariant-loop-step : goal.invariant-loop-step
invariant-loop-step l = record {
  known : AreKnown l.program l.known;
  kept : Continues l.fn.known.list.items l.known.list.items;
  added : AreNext l.schedule l.fn.known.list.items l.known.list.items;
  there : l.is_there ≡ true → PlaysSchedule l.program (opening l.program) l.schedule (scene_state l.scene);
  followed : (k : ℕ) → k < l.step-index → WasFollowed l.program l.moves l.schedule l.known.list.items k;
  on : l.any ≡ true → HasNextMove l.program l.moves l.schedule;
  none : l.any ≡ false → (k : ℕ) → k < l.step-index → StaysAt l.program l.moves l.schedule k;
}
