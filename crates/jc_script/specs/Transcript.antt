-- The transcript of a script, as a relation, since the world may choose.
--     OpenedWorld                    a world, once it was opened
--     opened_world                 the same, from what a `World` is to its callers
--     PlaysEvents              the world may take these events, each of them fits when it comes, and this is printed of them
--     PlaysCall                the same of the events of a call, with the fault that its line says after them
--     PlaysBegin               the same of a call that begins: its begin, with its looks at the stripes, and then its first phases
--     PlaysBulk                the same of a call of many keys, by what its line says
--     PlaysAct                 the same of the events of an act, if its call is under way
--     PlaysOne                 the same of one event, as a foreign write or a reopening
--     Audited                  what is printed of an audit
--     untold_text              what is printed of the keys that are untold
--     Plays                    a line with no fault: what it prints and leaves. ⊥ if no such line is played
--     PlaysLine                a line that was read is played, or its fault is printed: what is printed, then, and what is left
--     PlaysRead, Prints        the same from what was read of a line, and from its bytes; a comment prints nothing and changes
--                              nothing
--     fault_read, fault_of     the fault of a line, if it has one, from what was read of it, and from its bytes
--     EndsScript               what the last piece prints, and how the script ends: a piece with bytes is a cut line
--     Transcript               from a state and a line on, the pieces print this and end so
--     IsTranscript             the same of a whole script
use Rattle.std.specs.Prelude.{◌≡◌, ◌⊎◌, ℕ, ◌+◌, List, [], ◌∷◌, ◌++◌, Bool, true, IsTrue, Option, None, Some, Result, Ok, Err, codes}
use Rattle.std.specs.List.{list_all}
use Rattle.jc_model.specs.Cache.{Bytes}
use Rattle.jc_world.specs.Calls.{CallState}
use Rattle.jc_world.specs.declared.command.Command.{Command}
use Rattle.jc_world.specs.declared.event.Shown.{Shown}
use Rattle.jc_world.specs.declared.event.WorldEvent.{WorldEvent}
use Rattle.jc_world.specs.declared.event.WorldEvent.TheVariants as event
use Rattle.jc_world.specs.World.{WorldState, start, open_call, with_stored, is_untold}
use Rattle.jc_world.specs.PlayedWorld.{PlayedWorld}
use Rattle.jc_world.specs.Runs.{Run, all_fit}
use Rattle.jc_world.specs.Together.{opening_events}
use Rattle.jc_world.specs.Audit.{IsAudit, untold_keys}
use Rattle.jc_world.specs.Coherent.{all_hold}
use Rattle.jc_text.specs.declared.fault.Fault.{Fault}
use Rattle.jc_text.specs.declared.fault.Fault.TheVariants.{CutLine}
use Rattle.jc_text.specs.declared.read.line.Line.{Line}
use Rattle.jc_text.specs.declared.read.line.Line.TheVariants.{Open, Set, Begin, BeginBulk, OfCall, Foreign, Invalidate, Reopen}
use Rattle.jc_text.specs.declared.read.line.Line.TheVariants.{Audit, Untold}
use Rattle.jc_text.specs.declared.read.line.BulkLine.{BulkLine}
use Rattle.jc_text.specs.declared.read.line.ScriptAct.{ScriptAct}
use Rattle.jc_text.specs.Lines.{read_line}
use Rattle.jc_text.specs.Pieces.{pieces_of}
use Rattle.jc_text.specs.Printing.{texts, fails_text, keys_line, audit_text, fault_line}
use Rattle.jc_script.specs.declared.run.RunEnd.{RunEnd}
use Rattle.jc_script.specs.declared.run.RunEnd.TheVariants.{Clean, LineFault}
use Rattle.jc_script.specs.Faults.{state_fault}
use Rattle.jc_script.specs.LineEvents.{single, bulk_call, start_events, events_of_act, keys_of_act, load_code}

-- a world, once it was opened
abbrev pub OpenedWorld : Type 0
OpenedWorld = Option WorldState

abbrev pub opened_world : Option PlayedWorld → OpenedWorld
opened_world None = None
opened_world (Some played) = Some played.world

-- 1. What a line prints, and what it leaves.

pub record PlaysEvents (w : WorldState) (events : List WorldEvent) (text : List ℕ) (after : WorldState) : Type 0 where
  pub seen : List Shown
  pub runs : Run w events seen after
  pub fit : all_fit seen ≡ true
  pub text_is : text ≡ texts events seen

-- after what its events show a line says its fault
pub record PlaysCall (w : WorldState) (number : ℕ) (events : List WorldEvent) (fault : Option ℕ) (text : List ℕ)
    (new : OpenedWorld) : Type 0 where
  pub shown : List ℕ
  pub after : WorldState
  pub plays : PlaysEvents w events shown after
  pub text_is : text ≡ shown ++ fails_text number fault
  pub new_is : new ≡ Some after

-- which keys a call that takes the cached ones starts depends on what its looks have found
pub record PlaysBegin (w : WorldState) (number session : ℕ) (command : Command) (text : List ℕ) (new : OpenedWorld) : Type 0 where
  pub opening : List ℕ
  pub begun : WorldState
  pub started : List ℕ
  pub after : WorldState
  pub opens : PlaysEvents w (opening_events number session command w.config.stripes) opening begun
  pub starts : PlaysEvents begun (start_events begun number (open_call begun number)) started after
  pub text_is : text ≡ opening ++ started
  pub new_is : new ≡ Some after

abbrev pub PlaysBulk : WorldState → ℕ → ℕ → BulkLine → List ℕ → OpenedWorld → Type 0
PlaysBulk w number session call text new =
    (command : Command) × (bulk_call command ≡ Some call)
    × PlaysBegin w number session command text new

-- a failed load is said once
abbrev pub PlaysAct : WorldState → ℕ → ScriptAct → Option CallState → List ℕ → OpenedWorld → Type 0
PlaysAct w number act None text new = ⊥
PlaysAct w number act (Some u) text new =
    PlaysCall w number (events_of_act w number act (keys_of_act w number act u)) (load_code act) text new

abbrev pub PlaysOne : WorldState → WorldEvent → List ℕ → OpenedWorld → Type 0
PlaysOne w e text None = ⊥
PlaysOne w e text (Some after) = PlaysEvents w (e ∷ []) text after

-- an audit always says legal, and names only untold keys while write-through is on and the premises have held
pub record Audited (w : WorldState) (text : List ℕ) : Type 0 where
  pub cached : List (Bytes × Bytes)
  pub stored : List (Bytes × Bytes)
  pub keys : List Bytes
  pub events : ℕ
  pub legal : Bool
  pub says : IsAudit w cached stored keys events legal
  pub is_legal : IsTrue legal
  pub is_coherent : all_hold w ≡ true → list_all (is_untold w) keys ≡ true
  pub text_is : text ≡ audit_text cached stored keys events legal

abbrev pub untold_text : WorldState → List ℕ
untold_text w = keys_line (codes "untold") (untold_keys w)

abbrev pub Plays : OpenedWorld → Line → List ℕ → OpenedWorld → Type 0
Plays None (Open config) text new = (text ≡ codes "open\n") × (new ≡ Some (start config))
Plays (Some w) (Set key value) text new = (text ≡ []) × (new ≡ Some (with_stored w key value))
Plays (Some w) (Begin number session operation) text new = PlaysBegin w number session (single operation) text new
Plays (Some w) (BeginBulk number session call) text new = PlaysBulk w number session call text new
Plays (Some w) (OfCall number act) text new = PlaysAct w number act (open_call w number) text new
Plays (Some w) (Foreign key value) text new = PlaysOne w (event.Foreign key value) text new
Plays (Some w) (Invalidate key) text new = PlaysOne w (event.Invalidate key) text new
Plays (Some w) (Reopen config) text new = PlaysOne w (event.Reopen config) text new
Plays (Some w) Audit text new = Audited w text × (new ≡ Some w)
Plays (Some w) Untold text new = (text ≡ untold_text w) × (new ≡ Some w)
Plays old line text new = ⊥

-- printed at the end of what is there already; a line with a fault does nothing
abbrev pub PlaysLine : OpenedWorld → Line → Option Fault → List ℕ → List ℕ → OpenedWorld → Type 0
PlaysLine old line None before after new =
    (state_fault old line ≡ None) × ((text : List ℕ) × Plays old line text new × (after ≡ before ++ text))
PlaysLine old line (Some fault) before after new = (state_fault old line ≡ Some fault) × (after ≡ before) × (new ≡ old)

-- a comment prints nothing and changes nothing; other lines are played if they have no fault
abbrev pub PlaysRead : OpenedWorld → Result (Option Line) Fault → List ℕ → OpenedWorld → Type 0
PlaysRead old (Ok None) text new = (text ≡ []) × (new ≡ old)
PlaysRead old (Ok (Some line)) text new = (state_fault old line ≡ None) × Plays old line text new
PlaysRead old (Err fault) text new = ⊥

abbrev pub fault_read : OpenedWorld → Result (Option Line) Fault → Option Fault
fault_read old (Ok None) = None
fault_read old (Ok (Some line)) = state_fault old line
fault_read old (Err fault) = Some fault

abbrev pub Prints : OpenedWorld → List ℕ → List ℕ → OpenedWorld → Type 0
Prints old line text new = PlaysRead old (read_line line) text new

abbrev pub fault_of : OpenedWorld → List ℕ → Option Fault
fault_of old line = fault_read old (read_line line)

-- 2. Whole scripts.

-- a last piece with bytes is a cut line
abbrev pub EndsScript : ℕ → List ℕ → List ℕ → RunEnd → Type 0
EndsScript n [] out end = (out ≡ []) × (end ≡ Clean)
EndsScript n (b ∷ bs) out end = (out ≡ fault_line n CutLine) × (end ≡ LineFault n)

abbrev pub Transcript : OpenedWorld → ℕ → List (List ℕ) → List ℕ → RunEnd → Type 0
Transcript old n [] out end = ⊥
Transcript old n (last ∷ []) out end = EndsScript n last out end
Transcript old n (line ∷ next ∷ more) out end =
    ((text : List ℕ) × (rest : List ℕ) × (new : OpenedWorld) × Prints old line text new
    × Transcript new (n + 1) (next ∷ more) rest end × (out ≡ text ++ rest))
    ⊎ ((fault : Fault) × (fault_of old line ≡ Some fault) × (out ≡ fault_line n fault) × (end ≡ LineFault n))

abbrev pub IsTranscript : List ℕ → List ℕ → RunEnd → Type 0
IsTranscript input out end = Transcript None 1 (pieces_of input) out end
