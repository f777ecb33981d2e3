-- Schedules of a program, and its runs.
--     SceneState         a world, the number of items that each thread has begun, and the replies, thread by thread
--     scene_state        the state of a scene
--     next_number        the number of the next call: they rise from 1
--     has_number_left    both the next call's number and a count of items are below the largest number that a script names
--     has_number_for     an act begins no item, or there is a number for one
--     call_under_way     the call that a session has under way
--     if_idle            events, if no call is under way
--     item_at            the item of a thread at a place of its list
--     item_in            the item at a place of a list, if there is a list
--     begin_events       the events of an item that begins, with its call's number and session
--     if_failing         events with a code, if there is one
--     entry_calls        the calls of an item's entry processor on its entry
--     run_processor      the event of a processor's run
--     act_events         the events of an act of a call at its key, with the calls of its processor
--     call_events        the events of an act of an item
--     under_way          the events of an act of the call that a thread has under way
--     move_events_at     the events of a move of a thread that has begun a number of items
--     move_events        the events of a move
--     is_going_on        an outcome after which a call continues: the event fits, and the call isn't made to wait
--     are_going_on       a call continues after each of these
--     is_proper          events happened, and the call continues after each
--     position_after     the position of a thread after a move
--     positions_at       the positions of the threads after a move, if there is such a thread
--     positions_after    the positions of the threads after a move
--     outcome_reply      the reply of a call in an outcome, if there is one: a refusal is a fault
--     with_thread_reply  one more reply, after those of the threads up to its own
--     replies_after      the replies, with those in the outcomes that were shown
--     Moves              a move of a schedule: its events were played, the call continued after each, and no allocation failed
--     PlaysSchedule      a schedule, move by move
--     has_session        a move's thread has a session
--     have_sessions      the thread of each of these moves has one
--     with_all_stored    a world with these entries in its store
--     unbegun            the position of a thread that has begun nothing
--     opening            the scene before anything has happened
use Rattle.std.specs.Prelude.{◌≡◌, ℕ, ◌+◌, ◌-◌, List, [], ◌∷◌, length, replicate, Bool, true, false, not, ◌&&◌, ◌||◌, nat_lt}
use Rattle.std.specs.Prelude.{Option, None, Some, find, option_map, count_by, nat_le, slice_get, slice_set, if◌then◌else◌}
use Rattle.std.specs.List.{list_all, insert}
use Rattle.std.specs.Global.{Vec}
use Rattle.jc_types.specs.Refusals.{is_put_off}
use Rattle.jc_types.specs.declared.limits.TheConstants.{NUMBER_MAX, SESSIONS_MAX}
use Rattle.jc_model.specs.Cache.{Bytes}
use Rattle.jc_model.specs.declared.event.LoadAnswer.TheVariants.{Failed}
use Rattle.jc_model.specs.declared.event.Op.TheVariants.{Invoke}
use Rattle.jc_model.specs.declared.event.Reply.{Reply}
use Rattle.jc_model.specs.declared.event.Reply.TheVariants as reply
use Rattle.jc_model.specs.declared.processor.EntryCall.{EntryCall}
use Rattle.jc_world.specs.declared.command.Command.TheVariants.{Single}
use Rattle.jc_world.specs.declared.event.Outcome.{Outcome}
use Rattle.jc_world.specs.declared.event.Outcome.TheVariants as outcome
use Rattle.jc_world.specs.declared.event.Shown.{Shown}
use Rattle.jc_world.specs.declared.event.WorldEvent.{WorldEvent}
use Rattle.jc_world.specs.declared.event.WorldEvent.TheVariants as event
use Rattle.jc_world.specs.declared.process.LoadSource.{LoadSource}
use Rattle.jc_world.specs.declared.process.LoadSource.TheVariants as source
use Rattle.jc_world.specs.Calls.{is_of_session}
use Rattle.jc_world.specs.Determinism.{have_memory}
use Rattle.jc_world.specs.Runs.{Run}
use Rattle.jc_world.specs.World.{WorldState, start, with_stored}
use Rattle.jc_explore.specs.declared.moves.Act.{Act}
use Rattle.jc_explore.specs.declared.moves.Act.TheVariants as act
use Rattle.jc_explore.specs.declared.moves.Move.{Move}
use Rattle.jc_explore.specs.declared.program.Faults.{Faults}
use Rattle.jc_explore.specs.declared.program.Item.{Item}
use Rattle.jc_explore.specs.declared.program.Item.TheVariants as item
use Rattle.jc_explore.specs.declared.program.Program.{Program}
use Rattle.jc_explore.specs.declared.replies.ThreadReply.{ThreadReply}
use Rattle.jc_explore.specs.declared.scene.Position.{Position}
use Rattle.jc_explore.specs.declared.scene.Scene.{Scene}
use Rattle.jc_explore.specs.Moves.{is_begin}

pub record SceneState : Type 0 where
  pub world : WorldState
  pub positions : List Position
  pub replies : List ThreadReply

abbrev pub scene_state : Scene → SceneState
scene_state s = record { world = s.world.world; positions = s.positions.items; replies = s.replies.items }

-- 1. The events of a move.

abbrev pub begin_events : ℕ → ℕ → Option Item → List WorldEvent
begin_events number session None = []
begin_events number session (Some (item.Call op key)) =
    event.Call number session (Single op key) ∷ event.Start number key ∷ []
begin_events number session (Some (item.Invoke key calls)) =
    event.Call number session (Single Invoke key) ∷ event.Start number key ∷ []
begin_events number session (Some (item.Foreign key value)) = event.Foreign key value ∷ []
begin_events number session (Some (item.Invalidate key)) = event.Invalidate key ∷ []

abbrev pub if_failing : Option ℕ → (ℕ → List WorldEvent) → List WorldEvent
if_failing None events = []
if_failing (Some code) events = events code

abbrev pub entry_calls : Item → List EntryCall
entry_calls (item.Call op key) = []
entry_calls (item.Invoke key calls) = calls
entry_calls (item.Foreign key value) = []
entry_calls (item.Invalidate key) = []

abbrev pub run_processor : ℕ → Bytes → LoadSource → List EntryCall → Option ℕ → List WorldEvent
run_processor call key load calls fail = event.Process call key load calls fail ∷ []

abbrev pub act_events : Faults → ℕ → Bytes → List EntryCall → Act → List WorldEvent
act_events f call key calls act.Begin = []
act_events f call key calls act.Read = event.Read call key ∷ []
act_events f call key calls act.LoadFails =
    if_failing f.load (λ code. event.Say call key (Failed code) ∷ [])
act_events f call key calls act.Process = run_processor call key source.Store calls None
act_events f call key calls act.ProcessLoadFails =
    if_failing f.load (λ code. run_processor call key (source.Failing code) calls None)
act_events f call key calls act.ProcessFails =
    if_failing f.process (λ code. run_processor call key source.Store calls (Some code))
act_events f call key calls act.Write = event.Change call key ∷ event.Report call [] None ∷ []
act_events f call key calls act.WriteFails =
    if_failing f.write (λ code. event.Report call [] (Some code) ∷ [])
act_events f call key calls act.WriteLies =
    if_failing f.lie (λ code. event.Change call key ∷ event.Report call [] (Some code) ∷ [])
act_events f call key calls act.Commit = event.Commit call key ∷ []
act_events f call key calls act.PickUp = event.PickUp call key ∷ []

-- neither another program's write nor an invalidation has an act of a call
abbrev pub call_events : Faults → ℕ → Option Item → Act → List WorldEvent
call_events f call None a = []
call_events f call (Some (item.Call op key)) a = act_events f call key [] a
call_events f call (Some (item.Invoke key calls)) a = act_events f call key calls a
call_events f call (Some (item.Foreign key value)) a = []
call_events f call (Some (item.Invalidate key)) a = []

abbrev pub under_way : Faults → Option ℕ → Option Item → Act → List WorldEvent
under_way f None item a = []
under_way f (Some call) item a = call_events f call item a

abbrev pub next_number : Option ℕ → ℕ
next_number None = 1
next_number (Some last) = last + 1

abbrev pub call_under_way : WorldState → ℕ → Option ℕ
call_under_way w session = option_map (λ u. u.caller.call) (find (is_of_session session) w.calls)

abbrev pub item_in : Option (Vec Item) → ℕ → Option Item
item_in None at = None
item_in (Some items) at = slice_get items.items at

abbrev pub item_at : Program → ℕ → ℕ → Option Item
item_at p thread at = item_in (slice_get p.threads.items thread) at

-- a thread begins an item once the call before it is over
abbrev pub if_idle : Option ℕ → List WorldEvent → List WorldEvent
if_idle None events = events
if_idle (Some call) events = []

abbrev pub has_number_left : Option ℕ → Position → Bool
has_number_left last position =
    nat_lt (next_number last) NUMBER_MAX && nat_lt position.begun NUMBER_MAX

abbrev pub has_number_for : Option ℕ → Position → Act → Bool
has_number_for last position a = not (is_begin a) || has_number_left last position

abbrev pub move_events_at : Program → WorldState → Move → Option Position → List WorldEvent
move_events_at p w m None = []
move_events_at p w m (Some position) =
    if has_number_for w.last position m.act
    then (if is_begin m.act
    then if_idle (call_under_way w (m.thread + 1))
    (begin_events (next_number w.last) (m.thread + 1) (item_at p m.thread position.begun))
    else under_way p.faults (call_under_way w (m.thread + 1)) (item_at p m.thread (position.begun - 1)) m.act)
    else []

abbrev pub move_events : Program → SceneState → Move → List WorldEvent
move_events p s m = move_events_at p s.world m (slice_get s.positions m.thread)

-- 2. Moves that count.

-- a call that meets `Busy` or a full table waits, as does one whose load isn't over
abbrev pub is_going_on : Outcome → Bool
is_going_on outcome.Unfit = false
is_going_on outcome.Waits = false
is_going_on (outcome.Refused refusal) = not (is_put_off refusal)
is_going_on o = true

abbrev pub are_going_on : List Shown → Bool
are_going_on seen = list_all (λ x. is_going_on x.outcome) seen

abbrev pub is_proper : List Shown → Bool
is_proper seen = nat_lt 0 (length seen) && are_going_on seen

abbrev pub position_after : Act → Position → Position
position_after a position =
    if is_begin a then record { begun = position.begun + 1 } else position

abbrev pub positions_at : Move → List Position → Option Position → List Position
positions_at m positions None = positions
positions_at m positions (Some position) =
    slice_set positions m.thread (position_after m.act position)

abbrev pub positions_after : SceneState → Move → List Position
positions_after s m = positions_at m s.positions (slice_get s.positions m.thread)

-- 3. Replies.

abbrev pub outcome_reply : Outcome → Option Reply
outcome_reply (outcome.Stepped x) = Some x.reply
outcome_reply (outcome.PickedUp x) = Some x.reply
outcome_reply (outcome.Refused refusal) = Some (reply.Fault refusal)
outcome_reply o = None

abbrev pub with_thread_reply : ℕ → List ThreadReply → Option Reply → List ThreadReply
with_thread_reply thread replies None = replies
with_thread_reply thread replies (Some reply) =
    insert replies (count_by (λ r. nat_le r.thread thread) replies) (record { thread = thread; reply = reply })

abbrev pub replies_after : ℕ → List ThreadReply → List Shown → List ThreadReply
replies_after thread replies [] = replies
replies_after thread replies (s ∷ seen) =
    replies_after thread (with_thread_reply thread replies (outcome_reply s.outcome)) seen

-- 4. Moves and schedules.

pub record Moves (p : Program) (old : SceneState) (m : Move) (new : SceneState) : Type 0 where
  pub seen : List Shown
  pub runs : Run old.world (move_events p old m) seen new.world
  pub proper : is_proper seen ≡ true
  pub memory : have_memory seen ≡ true
  pub positions_are : new.positions ≡ positions_after old m
  pub replies_are : new.replies ≡ replies_after m.thread old.replies seen

abbrev pub PlaysSchedule : Program → SceneState → List Move → SceneState → Type 0
PlaysSchedule p old [] new = new ≡ old
PlaysSchedule p old (m ∷ ms) new = (mid : SceneState) × Moves p old m mid × PlaysSchedule p mid ms new

abbrev pub has_session : Move → Bool
has_session m = nat_lt m.thread SESSIONS_MAX

abbrev pub have_sessions : List Move → Bool
have_sessions schedule = list_all has_session schedule

-- 5. The opening.

abbrev pub with_all_stored : WorldState → List (Bytes × Bytes) → WorldState
with_all_stored w [] = w
with_all_stored w (entry ∷ entries) = with_all_stored (with_stored w entry.0 entry.1) entries

abbrev pub unbegun : Position
unbegun = record { begun = 0 }

abbrev pub opening : Program → SceneState
opening p =
    record {
      world = with_all_stored (start p.config) p.stored.items;
      positions = replicate (length p.threads.items) unbegun;
      replies = [];
    }
