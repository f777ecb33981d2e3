-- Whole runs of a program, and the final states that an exploration has found.
--     IsEnd             no move is possible: nothing can happen any more
--     IsWholeSchedule   a schedule of a program leads to an end, and this is its final state
--     IsFound           a final state is among those that were found
--     AreWitnessed      each final state that was found has a whole schedule that ends there
--     AreDistinct       no two final states that were found are the same
--     IsShortest        no whole schedule that ends with the final state that was found is shorter than its own
--     AreShortest       each final state that was found has a shortest schedule
--     AreOrdered        no final state has a longer schedule than one that comes later
--     HasEachOutcome    the final state of each whole schedule was found
--     IsReachedScene    a schedule leads to a scene
--     AreUnlike         no two scenes are alike
--     IsAmongScenes     a scene is like one of these
--     HasEachScene      each scene that a schedule leads to is like one of these
--     IsNoFarther       a schedule leads to the one scene, and none with fewer moves to a scene like the other
--     AreNearestFirst   the scenes are in the order of the lengths of their shortest schedules
--     IsFollowed        each move from a scene leads to one that is like one of these, and the final state is found if the scene
--                       is an end
--     IsNextOfOne       a move leads to a scene from one of these
--     IsEndOfOne        a final state is that of one of these scenes, which is an end
--     Meets             whoever follows these scenes meets exactly those scenes, and finds exactly those final states: the opening
--                       and what one move leads to, and the final state of each that is an end
--     CountsScenes      the number of states is that of scenes that were reached, no two of them alike, nearest first. The first
--                       of them, no more than the budget, were followed, and the search has met and found what comes of that
--                       alone. If the exploration is whole, they are all that were met, and each scene is like one of them. If it
--                       isn't, some are left to follow, and they are as many as the budget, or more final states were found than
--                       the limit
--     IsAccepted        a program that can be explored: each thread has a session, and the cache's shape is within its limits
--     IsFaultOf         a program is refused with this fault
--     IsRefusedAs       a program is explored if it is accepted, otherwise refused with its fault
use Rattle.std.specs.Prelude.{◌≡◌, ℕ, ◌<◌, ◌≤◌, ◌⊎◌, List, length, true, false, take, Result, Ok, Err}
use Rattle.std.specs.List.{All, Any, AllPairs}
use Rattle.jc_types.specs.Limits.{check}
use Rattle.jc_types.specs.declared.limits.TheConstants.{SESSIONS_MAX}
use Rattle.jc_explore.specs.declared.moves.Move.{Move}
use Rattle.jc_explore.specs.declared.program.Program.{Program}
use Rattle.jc_explore.specs.declared.search.ExploreFault.{ExploreFault}
use Rattle.jc_explore.specs.declared.search.ExploreFault.TheVariants as fault
use Rattle.jc_explore.specs.declared.search.Explored.{Explored}
use Rattle.jc_explore.specs.declared.search.Finding.{Finding}
use Rattle.jc_explore.specs.declared.search.TheConstants.{OUTCOMES_MAX}
use Rattle.jc_explore.specs.Final.{FinalValue, final_of, IsFinal}
use Rattle.jc_explore.specs.Keys.{ScenesAlike}
use Rattle.jc_explore.specs.Schedule.{SceneState, opening, Moves, PlaysSchedule}

-- 1. Whole runs.

abbrev pub IsEnd : Program → SceneState → Type 0
IsEnd p s = (m : Move) (new : SceneState) → Moves p s m new → ⊥

pub record IsWholeSchedule (p : Program) (schedule : List Move) (f : FinalValue) : Type 0 where
  pub last : SceneState
  pub plays : PlaysSchedule p (opening p) schedule last
  pub ends : IsEnd p last
  pub final : IsFinal last f

-- 2. The final states that were found.

abbrev pub IsFound : FinalValue → List Finding → Type 0
IsFound f found = Any (λ x. final_of x.state ≡ f) found

abbrev pub AreWitnessed : Program → List Finding → Type 0
AreWitnessed p found = All (λ x. IsWholeSchedule p x.witness.items (final_of x.state)) found

abbrev pub AreDistinct : List Finding → Type 0
AreDistinct found = AllPairs (λ x y. final_of x.state ≡ final_of y.state → ⊥) found

abbrev pub IsShortest : Program → Finding → Type 0
IsShortest p x =
    (schedule : List Move) → IsWholeSchedule p schedule (final_of x.state) → length x.witness.items ≤ length schedule

abbrev pub AreShortest : Program → List Finding → Type 0
AreShortest p found = All (λ x. IsShortest p x) found

abbrev pub AreOrdered : List Finding → Type 0
AreOrdered found = AllPairs (λ x y. length x.witness.items ≤ length y.witness.items) found

abbrev pub HasEachOutcome : Program → List Finding → Type 0
HasEachOutcome p found = (schedule : List Move) (f : FinalValue) → IsWholeSchedule p schedule f → IsFound f found

abbrev pub IsReachedScene : Program → SceneState → Type 0
IsReachedScene p s = (schedule : List Move) × PlaysSchedule p (opening p) schedule s

abbrev pub AreUnlike : List SceneState → Type 0
AreUnlike scenes = AllPairs (λ s t. ScenesAlike s t → ⊥) scenes

abbrev pub IsAmongScenes : List SceneState → SceneState → Type 0
IsAmongScenes scenes s = Any (λ t. ScenesAlike s t) scenes

abbrev pub HasEachScene : Program → List SceneState → Type 0
HasEachScene p scenes = (s : SceneState) → IsReachedScene p s → IsAmongScenes scenes s

abbrev pub IsNoFarther : Program → SceneState → SceneState → Type 0
IsNoFarther p s t =
    (schedule : List Move) × PlaysSchedule p (opening p) schedule s
    × ((other : List Move) (like : SceneState) → PlaysSchedule p (opening p) other like → ScenesAlike like t
    → length schedule ≤ length other)

abbrev pub AreNearestFirst : Program → List SceneState → Type 0
AreNearestFirst p scenes = AllPairs (λ s t. IsNoFarther p s t) scenes

pub record IsFollowed (p : Program) (scenes : List SceneState) (found : List Finding) (s : SceneState) : Type 0 where
  pub goes : (m : Move) (new : SceneState) → Moves p s m new → IsAmongScenes scenes new
  pub ends : (f : FinalValue) → IsEnd p s → IsFinal s f → IsFound f found

abbrev pub IsNextOfOne : Program → List SceneState → SceneState → Type 0
IsNextOfOne p followed s = Any (λ t. (m : Move) × Moves p t m s) followed

abbrev pub IsEndOfOne : Program → List SceneState → FinalValue → Type 0
IsEndOfOne p followed f = Any (λ s. IsEnd p s × IsFinal s f) followed

pub record Meets (p : Program) (followed scenes : List SceneState) (found : List Finding) : Type 0 where
  pub begins : IsAmongScenes scenes (opening p)
  pub closed : All (λ s. IsFollowed p scenes found s) followed
  pub near : All (λ s. (s ≡ opening p) ⊎ IsNextOfOne p followed s) scenes
  pub ended : All (λ x. IsEndOfOne p followed (final_of x.state)) found

pub record CountsScenes (p : Program) (budget : ℕ) (r : Explored) : Type 0 where
  pub scenes : List SceneState
  pub count_is : r.states ≡ length scenes
  pub reached : All (λ s. IsReachedScene p s) scenes
  pub unlike : AreUnlike scenes
  pub sorted : AreNearestFirst p scenes
  pub followed : ℕ
  pub within : (followed ≤ budget) × (followed ≤ length scenes)
  pub meets : Meets p (take followed scenes) scenes r.found.items
  pub whole : r.is_whole ≡ true → (followed ≡ length scenes) × HasEachScene p scenes
  pub stopped : r.is_whole ≡ false
      → (followed < length scenes) × ((followed ≡ budget) ⊎ (OUTCOMES_MAX < length r.found.items))

-- 3. Which programs are explored.

abbrev pub IsAccepted : Program → Type 0
IsAccepted p = (length p.threads.items ≤ SESSIONS_MAX) × (check p.config ≡ Ok tt)

abbrev pub IsFaultOf : Program → ExploreFault → Type 0
IsFaultOf p fault.TooManyThreads = SESSIONS_MAX < length p.threads.items
IsFaultOf p (fault.BadConfig refusal) =
    (length p.threads.items ≤ SESSIONS_MAX) × (check p.config ≡ Err refusal)
IsFaultOf p fault.OutOfMemory = IsAccepted p

abbrev pub IsRefusedAs : Program → Result Explored ExploreFault → Type 0
IsRefusedAs p (Ok r) = IsAccepted p
IsRefusedAs p (Err f) = IsFaultOf p f
