use Rattle.jc_explore.proofs.Common.{◌≡◌, ◌<◌, ℕ, true, have_sessions, scene_state}
use Rattle.jc_explore.proofs.Searching.{KeptAt}
use Rattle.jc_explore.proofs.search.keep_moves.Given as goal

abbrev pub invariant-loop-step : goal.invariant-loop-step
invariant-loop-step l = record {
  each : (k : ℕ) → k < l.step-index → KeptAt l.program (scene_state l.scene) l.moves l.kept.items k;
  sessions : have_sessions l.kept.items ≡ true;
}
