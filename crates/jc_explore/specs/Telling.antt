-- What the watch of a search is told: progress before each state, and that it is over.
--     IsProgress     the numbers are those of a search that has followed the first so many of these scenes: of the scenes that it
--                    has met, and of the final states that it has found, which are within the limit: with more of them it follows
--                    none
--     AreProgress    there is one for each of the first scenes, in order: the progress before that scene is followed
--     IsToldOf       the progress of an exploration with this result: there is one for each scene that it followed
--     IsToldAs       the calls of a watch for an exploration with this result. A program that is refused isn't searched
use Rattle.std.specs.Prelude.{◌≡◌, ℕ, ◌≤◌, List, [], length, take, Some, slice_get, Result, Ok, Err}
use Rattle.jc_explore.specs.declared.program.Program.{Program}
use Rattle.jc_explore.specs.declared.search.ExploreFault.{ExploreFault}
use Rattle.jc_explore.specs.declared.search.ExploreFault.TheVariants as fault
use Rattle.jc_explore.specs.declared.search.Explored.{Explored}
use Rattle.jc_explore.specs.declared.search.Finding.{Finding}
use Rattle.jc_explore.specs.declared.search.TheConstants.{OUTCOMES_MAX}
use Rattle.jc_explore.specs.Explored.{CountsScenes, Meets}
use Rattle.jc_explore.specs.Schedule.{SceneState}
use Rattle.jc_explore.specs.Watching.{Progress, WatchCall, calls_of}

pub record IsProgress (p : Program) (scenes : List SceneState) (found : List Finding) (row : Progress) : Type 0 where
  pub known_within : row.known ≤ length scenes
  pub found_within : row.found ≤ length found
  pub few : row.found ≤ OUTCOMES_MAX
  pub meets : Meets p (take row.followed scenes) (take row.known scenes) (take row.found found)

abbrev pub AreProgress : Program → List SceneState → List Finding → List Progress → Type 0
AreProgress p scenes found rows =
    (k : ℕ) (row : Progress) → slice_get rows k ≡ Some row → (row.followed ≡ k) × IsProgress p scenes found row

-- the scenes of an exploration that failed are those up to the state at which it did
abbrev pub IsToldOf : {E : Type 0} → Program → ℕ → List Progress → Result Explored E → Type 0
IsToldOf p budget rows (Ok r) =
    (counted : CountsScenes p budget r) × (length rows ≡ counted.followed) × AreProgress p counted.scenes r.found.items rows
IsToldOf p budget rows (Err e) =
    (length rows ≤ budget) × ((scenes : List SceneState) × (found : List Finding) × AreProgress p scenes found rows)

abbrev pub IsToldAs : Program → ℕ → List WatchCall → Result Explored ExploreFault → Type 0
IsToldAs p budget calls (Err fault.TooManyThreads) = calls ≡ []
IsToldAs p budget calls (Err (fault.BadConfig refusal)) = calls ≡ []
IsToldAs p budget calls r = (rows : List Progress) × (calls ≡ calls_of rows) × IsToldOf p budget rows r
