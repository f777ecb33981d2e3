-- When an event fits: whether a call, an outside answer or any other event of a world may happen in the world's present state.
--     is_single          an operation is a call by itself: each but `LoadAll`
--     is_playable        a command that a world plays: one operation that is a call by itself, or one on many keys
--     is_new             a call's number is above all before it
--     is_free            a call has neither a reservation nor a join of a key
--     may_start          a key is open in a call, which has neither a reservation nor a join of it
--     may_leave          a call has neither a reservation nor a join of any of its open keys
--     passes_in          in these parts a call has reserved a key, and the part passes a test
--     waits_at           a call has reserved a key, the writer was asked for it and hasn't returned
--     is_in_batch        a part is among those for which the writer is asked at once
--     batch_of           for which keys a call of a kind has the writer asked now, by whether a key of it waits for its processor,
--                        and whether one waits for a write
--     writer_batch       for which keys a call has the writer asked now: for all together; but in an `invokeAll` for none while a
--                        key of it waits for its processor, then for the writes together, and once it has returned for these for
--                        the deletes
--     is_asked_in        a key of a call under way is among these
--     may_change         so it is, if the call is under way
--     is_being_written   so it is of the call with this number
--     may_report         so it is of an open key of the call
--     is_to_look         a sweep hasn't looked at a stripe yet
--     may_look           a call takes the keys that are cached, and hasn't looked at this one, in a cache of this number of stripes
--     may_invalidate     a key may be invalidated at its stripe: it is reserved, or has no entry, or a place of the history is free
--                        for its eviction. So no stripe of a world is ever shut
--     fits               an event fits
use Rattle.std.specs.Prelude.{ℕ, Bool, true, false, not, ◌&&◌, ◌||◌, Option, None, Some, is_some, is_none, nat_lt, if◌then◌else◌}
use Rattle.std.specs.List.{list_all, list_any}
use Rattle.std.specs.Result.{is_ok}
use Rattle.std.specs.FinMap.{get}
use Rattle.jc_types.specs.Limits.{check, is_session}
use Rattle.jc_model.specs.declared.event.Op.{Op}
use Rattle.jc_model.specs.declared.event.OpKind.TheVariants as kind
use Rattle.jc_model.specs.Cache.{Bytes, entry_at}
use Rattle.jc_model.specs.Table.{op_kind, is_load_given}
use Rattle.jc_stripe.specs.State.{State, is_reserved}
use Rattle.jc_stripe.specs.Invalidating.{has_place}
use Rattle.jc_world.specs.declared.command.Command.{Command}
use Rattle.jc_world.specs.declared.command.Command.TheVariants as command
use Rattle.jc_world.specs.declared.command.CallKind.{CallKind}
use Rattle.jc_world.specs.declared.command.CallKind.TheVariants as call_kind
use Rattle.jc_world.specs.declared.event.Part.{Part}
use Rattle.jc_world.specs.declared.event.WorldEvent.{WorldEvent}
use Rattle.jc_world.specs.declared.event.WorldEvent.TheVariants as event
use Rattle.jc_world.specs.declared.reports.WriterBatch.{WriterBatch}
use Rattle.jc_world.specs.declared.reports.WriterBatch.TheVariants as batch
use Rattle.jc_world.specs.Calls.{CallState, SweepState, has_looked, open_keys, op_at}
use Rattle.jc_world.specs.World.{WorldState, is_busy, is_idle, open_call, of_call, part_of, Parts, is_free_of, waits_for_load}
use Rattle.jc_world.specs.World.{waits_for_report, waits_for_write, is_all_answered, is_untouched, is_joined, has_progress}
use Rattle.jc_world.specs.World.{waits_for_process, stripe_for}

-- the operations that are calls by themselves: the other one is a key of a bulk call
abbrev pub is_single : Op → Bool
is_single op = elim (op_kind op) [
  | kind.Get ↦ true
  | kind.ContainsKey ↦ true
  | kind.Write ↦ true
  | kind.Invoke ↦ true
  | kind.Clear ↦ true
  | kind.LoadAll replace ↦ false
]

-- each call of many keys is played
abbrev pub is_playable : Command → Bool
is_playable (command.Single op key) = is_single op
is_playable (command.GetAll keys) = true
is_playable (command.PutAll entries) = true
is_playable (command.RemoveAll keys) = true
is_playable command.RemoveEvery = true
is_playable command.Clear = true
is_playable (command.LoadAll replace keys) = true
is_playable (command.InvokeAll keys) = true

-- the number is above all before it
abbrev pub is_new : Option ℕ → ℕ → Bool
is_new None call = true
is_new (Some last) call = nat_lt last call

-- the call has neither a reservation nor a join of this key
abbrev pub is_free : WorldState → ℕ → Bytes → Bool
is_free w call key = is_free_of w.parts w.joins call key

-- the key is open in the call, which has neither a reservation nor a join of it
abbrev pub may_start : WorldState → ℕ → Bytes → Option CallState → Bool
may_start w call key None = false
may_start w call key (Some u) = is_some (op_at u key) && is_free w call key

-- the call has neither a reservation nor a join
abbrev pub may_leave : WorldState → ℕ → Option CallState → Bool
may_leave w call None = false
may_leave w call (Some u) = list_all (is_free w call) (open_keys u)

-- the call has reserved the key, and its part passes the test
abbrev pub passes_in : (Part → Bool) → Parts → ℕ → Bytes → Bool
passes_in test parts call key = has_progress test (of_call call (get parts key))

-- the key is asked of the writer, which hasn't returned
abbrev pub waits_at : WorldState → ℕ → Bytes → Bool
waits_at w call key = passes_in waits_for_report w.parts call key

abbrev pub is_in_batch : WriterBatch → Part → Bool
is_in_batch batch.Nothing part = false
is_in_batch batch.Writes part = waits_for_write part
is_in_batch batch.All part = waits_for_report part

-- an `invokeAll` has its writes and its deletes asked for apart, and neither before its processors have run
abbrev pub batch_of : CallKind → Bool → Bool → WriterBatch
batch_of call_kind.Single to_process to_write = batch.All
batch_of call_kind.Batch to_process to_write = batch.All
batch_of call_kind.InvokeAll to_process to_write =
    if to_process then batch.Nothing else if to_write then batch.Writes else batch.All

abbrev pub writer_batch : Parts → ℕ → CallState → WriterBatch
writer_batch parts call u =
    batch_of u.kind (list_any (passes_in waits_for_process parts call) (open_keys u))
    (list_any (passes_in waits_for_write parts call) (open_keys u))

abbrev pub is_asked_in : Parts → ℕ → CallState → Bytes → Bool
is_asked_in parts call u key = passes_in (is_in_batch (writer_batch parts call u)) parts call key

abbrev pub may_change : WorldState → ℕ → Bytes → Option CallState → Bool
may_change w call key None = false
may_change w call key (Some u) = is_asked_in w.parts call u key

abbrev pub is_being_written : WorldState → ℕ → Bytes → Bool
is_being_written w call key = may_change w call key (open_call w call)

-- the writer is asked for an open key
abbrev pub may_report : WorldState → ℕ → Option CallState → Bool
may_report w call None = false
may_report w call (Some u) = list_any (is_asked_in w.parts call u) (open_keys u)

-- none is left of a sweep that has looked at each stripe
abbrev pub is_to_look : ℕ → Option SweepState → Bool
is_to_look stripe None = false
is_to_look stripe (Some sweep) = not (has_looked sweep.looked stripe)

-- in any order
abbrev pub may_look : ℕ → ℕ → Option CallState → Bool
may_look stripes stripe None = false
may_look stripes stripe (Some u) = nat_lt stripe stripes && is_to_look stripe u.sweep

-- without shutting the stripe
abbrev pub may_invalidate : Option State → Bytes → Bool
may_invalidate None key = false
may_invalidate (Some s) key = is_reserved s key || is_none (entry_at s.cache key) || has_place s

abbrev pub fits : WorldState → WorldEvent → Bool
fits w (event.Call call session command) =
    is_playable command && is_session session && is_new w.last call && not (is_busy w session)
fits w (event.Look call stripe) = may_look w.config.stripes stripe (open_call w call)
fits w (event.Start call key) = may_start w call key (open_call w call)
fits w (event.Read call key) = has_progress waits_for_load (part_of w call key)
fits w (event.Say call key answer) =
    is_load_given answer && has_progress waits_for_load (part_of w call key)
fits w (event.Change call key) = is_being_written w call key
fits w (event.Report call left fault) = may_report w call (open_call w call)
fits w (event.Process call key source calls fail) = has_progress waits_for_process (part_of w call key)
fits w (event.Commit call key) = has_progress is_all_answered (part_of w call key)
fits w (event.Withdraw call key) = has_progress is_untouched (part_of w call key)
fits w (event.Leave call) = may_leave w call (open_call w call)
fits w (event.PickUp call key) = is_joined w call key
fits w (event.Foreign key value) = true
fits w (event.Invalidate key) = may_invalidate (stripe_for w key) key
fits w (event.Reopen config) = is_idle w && is_ok (check config)
