-- What the script of an outcome plays: move by move what its schedule does.
--     PlaysLines        lines one after another, none of which has a fault
--     set_line, opening_lines    the line of an entry of the store, and the lines before the moves: the cache's shape, and the store
--     IsPlayedAs        a line has no fault in a world. Its events show what was shown, and leave this world
--     PlaysMoves        a schedule, move by move, each with its line, whose events show what those of the move have shown
--     PlaysWitness      the script of a schedule that leads to a scene, without its audit: lines that play the schedule up to the
--                       world of that scene
--     WitnessesPlay     the script of each schedule plays it
use Rattle.std.specs.Prelude.{◌≡◌, ℕ, List, [], ◌∷◌, ◌++◌, map, None, Some, Ok}
use Rattle.std.specs.List.{flat_map}
use Rattle.jc_types.specs.Limits.{check}
use Rattle.jc_model.specs.Cache.{Bytes}
use Rattle.jc_world.specs.declared.event.Shown.{Shown}
use Rattle.jc_world.specs.World.{WorldState}
use Rattle.jc_explore.specs.declared.moves.Move.{Move}
use Rattle.jc_explore.specs.declared.program.Program.{Program}
use Rattle.jc_explore.specs.Schedule.{SceneState, Moves, PlaysSchedule, opening}
use Rattle.jc_text.specs.declared.read.line.Line.{Line}
use Rattle.jc_text.specs.declared.read.line.Line.TheVariants.{Open, Set, Audit}
use Rattle.jc_script.specs.Determinism.{shown_by_line}
use Rattle.jc_script.specs.Faults.{state_fault}
use Rattle.jc_script.specs.Transcript.{OpenedWorld, Plays}
use Rattle.jc_litmus.specs.Witness.{piped, witness_text}

-- 1. The lines before the moves.

abbrev pub PlaysLines : OpenedWorld → List Line → OpenedWorld → Type 0
PlaysLines old [] new = new ≡ old
PlaysLines old (line ∷ lines) new =
    (text : List ℕ) × (mid : OpenedWorld) × (state_fault old line ≡ None) × Plays old line text mid × PlaysLines mid lines new

abbrev pub set_line : Bytes × Bytes → Line
set_line entry = Set entry.0 entry.1

abbrev pub opening_lines : Program → List Line
opening_lines p = Open p.config ∷ map set_line p.stored.items

-- 2. The moves.

pub record IsPlayedAs (w : WorldState) (line : Line) (seen : List Shown) (after : WorldState) : Type 0 where
  pub right : state_fault (Some w) line ≡ None
  pub text : List ℕ
  pub plays : Plays (Some w) line text (Some after)
  pub shows : shown_by_line (Some w) line text (Some after) plays ≡ seen

-- the replies of a scene are those that its moves have shown
abbrev pub PlaysMoves : Program → SceneState → List Move → List Line → SceneState → Type 0
PlaysMoves p old [] [] new = new ≡ old
PlaysMoves p old [] (line ∷ lines) new = ⊥
PlaysMoves p old (m ∷ ms) [] new = ⊥
PlaysMoves p old (m ∷ ms) (line ∷ lines) new =
    (mid : SceneState) × (move : Moves p old m mid) × IsPlayedAs old.world line move.seen mid.world × PlaysMoves p mid ms lines new

-- 3. The script.

pub record PlaysWitness (p : Program) (schedule : List Move) (last : SceneState) : Type 0 where
  pub lines : List Line
  pub text_is : witness_text p schedule ≡ flat_map piped (opening_lines p) ++ flat_map piped lines ++ piped Audit
  pub opens : PlaysLines None (opening_lines p) (Some (opening p).world)
  pub moves : PlaysMoves p (opening p) schedule lines last

abbrev pub WitnessesPlay : Type 0
WitnessesPlay =
    (p : Program) (schedule : List Move) (last : SceneState)
    → check p.config ≡ Ok tt → PlaysSchedule p (opening p) schedule last → PlaysWitness p schedule last
