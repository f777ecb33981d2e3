-- The faults that the state of a world gives a line.
--     field_fault      the fault of a refused shape: it names the field
--     config_fault     the fault of a world's shape: the first number out of its limits
--     begin_fault      the fault of a `begin`: first the number, then the caller
--     act_fault        the fault of an act: there is no such call, it names keys that the writer leaves in a call of which it
--                      can leave none alone, or it isn't the time for it
--     reopen_fault     the fault of a `reopen`: first the new shape's, then that a call is under way
--     state_fault      the fault that the state of the world gives a line, the first one in order
use Rattle.std.specs.Prelude.{◌&&◌, ℕ, Bool, not, Option, None, Some, Result, Ok, Err, if◌then◌else◌}
use Rattle.jc_types.specs.declared.refusal.Refusal.{Refusal}
use Rattle.jc_types.specs.declared.refusal.Refusal.TheVariants as refusal
use Rattle.jc_types.specs.Limits.{check}
use Rattle.jc_world.specs.declared.event.WorldEvent.TheVariants as event
use Rattle.jc_world.specs.Calls.{CallState}
use Rattle.jc_world.specs.World.{WorldState, open_call, is_busy}
use Rattle.jc_world.specs.Fits.{fits, is_new}
use Rattle.jc_text.specs.declared.fault.Fault.{Fault}
use Rattle.jc_text.specs.declared.fault.Fault.TheVariants.{NotOpen, OpenTwice, BadConfig, SetTooLate, NotRising, CallerBusy}
use Rattle.jc_text.specs.declared.fault.Fault.TheVariants.{NoSuchCall, NotNow}
use Rattle.jc_text.specs.declared.read.line.Line.{Line}
use Rattle.jc_text.specs.declared.read.line.Line.TheVariants.{Open, Set, Begin, BeginBulk, OfCall, Foreign, Invalidate, Reopen}
use Rattle.jc_text.specs.declared.read.line.Line.TheVariants.{Audit, Untold}
use Rattle.jc_text.specs.declared.read.line.ScriptAct.{ScriptAct}
use Rattle.jc_script.specs.LineEvents.{is_time_for, allows_but, has_but}

-- a shape is refused for a field alone
abbrev pub field_fault : Refusal → Option Fault
field_fault (refusal.BadConfig field) = Some (BadConfig field)
field_fault other = None

abbrev pub config_fault : Result (Unit {0}) Refusal → Option Fault
config_fault (Ok u) = None
config_fault (Err why) = field_fault why

-- first the number, then the caller
abbrev pub begin_fault : WorldState → ℕ → ℕ → Option Fault
begin_fault w number session =
    if is_new w.last number then (if is_busy w session then Some CallerBusy else None) else Some NotRising

abbrev pub act_fault : WorldState → ℕ → ScriptAct → Option CallState → Option Fault
act_fault w number act None = Some NoSuchCall
act_fault w number act (Some u) =
    if has_but act && not (allows_but u) then Some NotNow
    else if is_time_for w number act u then None else Some NotNow

-- of the fault of the new shape, and of whether the reopening fits
abbrev pub reopen_fault : Option Fault → Bool → Option Fault
reopen_fault (Some fault) fit = Some fault
reopen_fault None fit = if fit then None else Some NotNow

abbrev pub state_fault : Option WorldState → Line → Option Fault
state_fault None (Open config) = config_fault (check config)
state_fault None other = Some NotOpen
state_fault (Some w) (Open config) = Some OpenTwice
state_fault (Some w) (Set key value) = if w.is_fresh then None else Some SetTooLate
state_fault (Some w) (Begin number session command) = begin_fault w number session
state_fault (Some w) (BeginBulk number session call) = begin_fault w number session
state_fault (Some w) (OfCall number act) = act_fault w number act (open_call w number)
state_fault (Some w) (Foreign key value) = None
state_fault (Some w) (Invalidate key) = if fits w (event.Invalidate key) then None else Some NotNow
state_fault (Some w) (Reopen config) = reopen_fault (config_fault (check config)) (fits w (event.Reopen config))
state_fault (Some w) Audit = None
state_fault (Some w) Untold = None
