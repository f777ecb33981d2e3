-- The events that lines stand for.
--     single          the command of a call that makes one operation
--     bulk_call       what a line says of a command on many keys; it says a command on one in another way
--     is_process      a processor runs by an act
--     keys_of_act     the open keys of a call that an act may be about: of one by which a processor runs the first that waits for
--                     it
--     is_started      a call has reserved a key
--     is_listed       a key is among those after `but`, if `but` is there
--     is_left_failing     a writer that fails leaves a key: one that is listed, and every key if there is no list
--     leaves          an act says that the writer leaves a key
--     is_changed      the writer is asked for a key now, and the act says that it changes the store there
--     is_meant        an act is about a key: what it says or asks for is waited for there
--     event_at        the event that an act stands for at a key that it is about
--     key_events      those events, at each key that an act is about, in the order of the call's keys
--     start_events    the first phases of a call that has just begun, unless it is over: as `more` starts keys
--     is_left         the writer is asked for a key now, and the act says that it leaves it
--     left_keys       the keys that the writer is asked for now and leaves, as an act says
--     end_of_act      the event of the whole call that comes after them: the writer's return, or the call's leaving
--     events_of_act   the events that an act stands for
--     is_about_one    there is an event at a key
--     is_time         whether it is the time for an act, by the call's keys and the events at those that it is about. The writer
--                     returns if it is asked for some key now. Any other act but a call's leaving is about some key. Each key that
--                     ends is answered, and each that retries is neither reserved nor joined. A call that picks up has reserved no
--                     key. A call that leaves has joined no load, and nothing was answered outside for the keys that it has
--                     reserved
--     is_time_for     the same, of an act of a call under way
--     has_but         an act names keys that the writer leaves
--     allows_but      a call whose writer may leave some of its keys and not others: one of many keys
--     load_code      the code with which an act says that the loader fails
--     is_callable     what a line begins is a call of one of the 32 sessions, and its operation is a call by itself, if it has but
--                     one
use Rattle.std.specs.Prelude.{◌&&◌, ℕ, List, [], ◌∷◌, ◌++◌, filter, map, Bool, true, false, not, Option, None, Some, find, is_some}
use Rattle.std.specs.Prelude.{option_to_list, if◌then◌else◌}
use Rattle.std.specs.List.{list_all, list_any}
use Rattle.jc_types.specs.Limits.{is_session}
use Rattle.jc_model.specs.Cache.{Bytes}
use Rattle.jc_model.specs.declared.event.LoadAnswer.TheVariants.{Failed}
use Rattle.jc_world.specs.declared.command.Command.{Command}
use Rattle.jc_world.specs.declared.command.Command.TheVariants as command
use Rattle.jc_model.specs.Batches.{is_among}
use Rattle.jc_world.specs.Calls.{CallState, is_bulk, open_keys}
use Rattle.jc_world.specs.declared.event.WorldEvent.{WorldEvent}
use Rattle.jc_world.specs.declared.event.WorldEvent.TheVariants as event
use Rattle.jc_world.specs.World.{WorldState, has_progress, is_joined, part_of, waits_for_load, waits_for_process}
use Rattle.jc_world.specs.Fits.{fits, is_being_written, is_single, passes_in}
use Rattle.jc_text.specs.declared.read.line.Operation.{Operation}
use Rattle.jc_text.specs.declared.read.line.Line.{Line}
use Rattle.jc_text.specs.declared.read.line.Line.TheVariants.{Open, Set, Begin, BeginBulk, OfCall, Foreign, Invalidate, Reopen}
use Rattle.jc_text.specs.declared.read.line.Line.TheVariants.{Audit, Untold}
use Rattle.jc_text.specs.declared.read.line.BulkLine.{BulkLine}
use Rattle.jc_text.specs.declared.read.line.BulkLine.TheVariants as bulk
use Rattle.jc_text.specs.declared.read.line.ScriptAct.{ScriptAct}
use Rattle.jc_text.specs.declared.read.line.ScriptAct.TheVariants.{Read, ReadFail, Say, Apply, ApplyFail, ApplyLie, End, Drop, More}
use Rattle.jc_text.specs.declared.read.line.ScriptAct.TheVariants.{Take, Process}
use Rattle.jc_text.specs.Words.{said}

abbrev pub single : Operation → Command
single operation = command.Single operation.op operation.key

abbrev pub bulk_call : Command → Option BulkLine
bulk_call (command.Single op key) = None
bulk_call (command.GetAll set) = Some (bulk.GetAll set.keys)
bulk_call (command.PutAll map) = Some (bulk.PutAll map.entries)
bulk_call (command.RemoveAll set) = Some (bulk.RemoveAll set.keys)
bulk_call command.RemoveEvery = Some bulk.RemoveEvery
bulk_call command.Clear = Some bulk.Clear
bulk_call (command.LoadAll replace set) = Some (bulk.LoadAll replace set.keys)
bulk_call (command.InvokeAll set) = Some (bulk.InvokeAll set.keys)

-- 1. What an act does at the keys of its call.

abbrev pub is_process : ScriptAct → Bool
is_process (Process source calls fail) = true
is_process other = false

-- the processors of a call run one after the other, in the order of its keys
abbrev pub keys_of_act : WorldState → ℕ → ScriptAct → CallState → List Bytes
keys_of_act w call act u =
    if is_process act then option_to_list (find (passes_in waits_for_process w.parts call) (open_keys u))
    else open_keys u

abbrev pub is_started : WorldState → ℕ → Bytes → Bool
is_started w call key = is_some (part_of w call key)

-- without a list there is none
abbrev pub is_listed : Option (List Bytes) → Bytes → Bool
is_listed None key = false
is_listed (Some keys) key = is_among keys key

-- a writer that fails and says nothing of what it did leaves every key
abbrev pub is_left_failing : Option (List Bytes) → Bytes → Bool
is_left_failing None key = true
is_left_failing (Some keys) key = is_among keys key

-- one that lies has changed the store at every key, and leaves each
abbrev pub leaves : ScriptAct → Bytes → Bool
leaves (Apply left) key = is_listed left key
leaves (ApplyFail code left) key = is_left_failing left key
leaves (ApplyLie code) key = true
leaves other key = false

abbrev pub is_changed : WorldState → ℕ → ScriptAct → Bytes → Bool
is_changed w call act key = is_being_written w call key && not (leaves act key)

abbrev pub is_meant : WorldState → ℕ → ScriptAct → Bytes → Bool
is_meant w call Read key = has_progress waits_for_load (part_of w call key)
is_meant w call (ReadFail code) key = has_progress waits_for_load (part_of w call key)
is_meant w call (Say pairs) key = has_progress waits_for_load (part_of w call key)
is_meant w call (Apply left) key = is_changed w call (Apply left) key
is_meant w call (ApplyFail code left) key = is_changed w call (ApplyFail code left) key
is_meant w call (ApplyLie code) key = is_being_written w call key
is_meant w call End key = is_started w call key
is_meant w call Drop key = is_started w call key
is_meant w call More key = true
is_meant w call Take key = is_joined w call key
is_meant w call (Process source calls fail) key = has_progress waits_for_process (part_of w call key)

abbrev pub event_at : ℕ → ScriptAct → Bytes → WorldEvent
event_at call Read key = event.Read call key
event_at call (ReadFail code) key = event.Say call key (Failed code)
event_at call (Say pairs) key = event.Say call key (said pairs key)
event_at call (Apply left) key = event.Change call key
event_at call (ApplyFail code left) key = event.Change call key
event_at call (ApplyLie code) key = event.Change call key
event_at call End key = event.Commit call key
event_at call Drop key = event.Withdraw call key
event_at call More key = event.Start call key
event_at call Take key = event.PickUp call key
event_at call (Process source calls fail) key = event.Process call key source calls fail

-- at each key that it is about, in the order of the call's keys
abbrev pub key_events : WorldState → ℕ → ScriptAct → List Bytes → List WorldEvent
key_events w call act keys = map (event_at call act) (filter (is_meant w call act) keys)

-- as `more` does
abbrev pub start_events : WorldState → ℕ → Option CallState → List WorldEvent
start_events w number None = []
start_events w number (Some u) = key_events w number More (open_keys u)

abbrev pub is_left : WorldState → ℕ → ScriptAct → Bytes → Bool
is_left w call act key = is_being_written w call key && leaves act key

abbrev pub left_keys : WorldState → ℕ → ScriptAct → List Bytes → List Bytes
left_keys w call act keys = filter (is_left w call act) keys

abbrev pub end_of_act : WorldState → ℕ → ScriptAct → List Bytes → List WorldEvent
end_of_act w call (Apply left) keys =
    event.Report call (left_keys w call (Apply left) keys) None ∷ []
end_of_act w call (ApplyFail code left) keys =
    event.Report call (left_keys w call (ApplyFail code left) keys) (Some code) ∷ []
end_of_act w call (ApplyLie code) keys =
    event.Report call (left_keys w call (ApplyLie code) keys) (Some code) ∷ []
end_of_act w call Drop keys = event.Leave call ∷ []
end_of_act w call other keys = []

abbrev pub events_of_act : WorldState → ℕ → ScriptAct → List Bytes → List WorldEvent
events_of_act w call act keys = key_events w call act keys ++ end_of_act w call act keys

abbrev pub is_about_one : List WorldEvent → Bool
is_about_one [] = false
is_about_one (e ∷ events) = true

-- 2. When it is the time for an act.

-- an outside answer and a processor's run fit at each key that they are about, and so does a pick-up
abbrev pub is_time : WorldState → ℕ → ScriptAct → List Bytes → List WorldEvent → Bool
is_time w call Read keys events = is_about_one events
is_time w call (ReadFail code) keys events = is_about_one events
is_time w call (Say pairs) keys events = is_about_one events
is_time w call (Apply left) keys events = list_any (is_being_written w call) keys
is_time w call (ApplyFail code left) keys events = list_any (is_being_written w call) keys
is_time w call (ApplyLie code) keys events = list_any (is_being_written w call) keys
is_time w call End keys events = is_about_one events && list_all (fits w) events
is_time w call Drop keys events = list_all (fits w) events && not (list_any (is_joined w call) keys)
is_time w call More keys events = is_about_one events && list_all (fits w) events
is_time w call Take keys events = is_about_one events && not (list_any (is_started w call) keys)
is_time w call (Process source calls fail) keys events = is_about_one events

abbrev pub is_time_for : WorldState → ℕ → ScriptAct → CallState → Bool
is_time_for w call act u =
    let keys = keys_of_act w call act u in is_time w call act keys (key_events w call act keys)

-- the keys that the writer leaves
abbrev pub has_but : ScriptAct → Bool
has_but (Apply left) = is_some left
has_but (ApplyFail code left) = is_some left
has_but other = false

-- a call of one key is asked for one change
abbrev pub allows_but : CallState → Bool
allows_but u = is_bulk u.kind

-- at all keys that the loader was asked for
abbrev pub load_code : ScriptAct → Option ℕ
load_code (ReadFail code) = Some code
load_code other = None

-- 3. What may be begun. Each line that is read is so, and no contract of a public call cites this.

abbrev pub is_callable : Line → Bool
is_callable (Begin number session command) = is_single command.op && is_session session
is_callable (BeginBulk number session call) = is_session session
is_callable (Open config) = true
is_callable (Set key value) = true
is_callable (OfCall number act) = true
is_callable (Foreign key value) = true
is_callable (Invalidate key) = true
is_callable (Reopen config) = true
is_callable Audit = true
is_callable Untold = true
