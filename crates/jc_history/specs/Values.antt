-- The number of values of an event. A reply may repeat a value from outside, which then counts once. Nothing here says how events
-- are stored.
--     value_from_outside    the value that a reply may repeat: the one that the processor answered, otherwise the one that the
--                           loader found
--     repeats_outside       a reply with this value repeats that one
--     values_in_op          the number of values of an operation
--     values_in_load        the number of values of the loader's answer
--     values_in_effect      the number of values of a processor's effect
--     values_in_process     the number of values of a processor's answer: its effect's and its outcome's
--     values_in_out         the number of values of all outside answers
--     values_in_reply       the number of values of a reply, beside those from outside
--     values_in             the number of values of an event
--     IsStorable            an event has no more values than an event may have
use Rattle.std.specs.Prelude.{ℕ, ◌+◌, ◌≤◌, length, Bool, Option, None, Some, if◌then◌else◌}
use Rattle.std.specs.Option.{option_len, option_or}
use Rattle.jc_model.specs.declared.event.Op.{Op}
use Rattle.jc_model.specs.declared.event.LoadAnswer.{LoadAnswer}
use Rattle.jc_model.specs.declared.event.LoadAnswer.TheVariants as load
use Rattle.jc_model.specs.declared.event.ProcessAnswer.{ProcessAnswer}
use Rattle.jc_model.specs.declared.event.ProcessAnswer.TheVariants as process
use Rattle.jc_model.specs.declared.event.Effect.{Effect}
use Rattle.jc_model.specs.declared.event.Effect.TheVariants as effect
use Rattle.jc_model.specs.declared.event.Out.{Out}
use Rattle.jc_model.specs.declared.event.Reply.{Reply}
use Rattle.jc_model.specs.declared.event.Reply.TheVariants as reply
use Rattle.jc_model.specs.declared.event.Event.{Event}
use Rattle.jc_model.specs.declared.event.Event.TheVariants.{Step, Evict}
use Rattle.jc_model.specs.Cache.{Bytes}
use Rattle.jc_model.specs.Table.{op_values, holds, outcome_of, value_after_load}
use Rattle.jc_history.specs.declared.room.TheConstants.{EVENT_VALUES}

-- the value that a reply may repeat: the one that the processor answered, otherwise the one that the loader found
abbrev pub value_from_outside : Out → Option Bytes
value_from_outside out = option_or (outcome_of out.process) (value_after_load out.load None)

abbrev pub repeats_outside : Out → Bytes → Bool
repeats_outside out value = holds (value_from_outside out) value

abbrev pub values_in_op : Op → ℕ
values_in_op op = length (op_values op)

abbrev pub values_in_load : LoadAnswer → ℕ
values_in_load load.NotAsked = 0
values_in_load (load.Found value) = 1
values_in_load load.Nothing = 0
values_in_load (load.Failed code) = 0

abbrev pub values_in_effect : Effect → ℕ
values_in_effect effect.Keep = 0
values_in_effect (effect.Set value) = 1
values_in_effect effect.Remove = 0

abbrev pub values_in_process : ProcessAnswer → ℕ
values_in_process process.NotAsked = 0
values_in_process (process.Ended net outcome) = values_in_effect net + option_len outcome
values_in_process (process.Failed code) = 0

-- a writer answers no value
abbrev pub values_in_out : Out → ℕ
values_in_out out = values_in_load out.load + values_in_process out.process

abbrev pub values_in_reply : Out → Reply → ℕ
values_in_reply out reply.Unit = 0
values_in_reply out (reply.Flag flag) = 0
values_in_reply out (reply.Value None) = 0
values_in_reply out (reply.Value (Some value)) = if repeats_outside out value then 0 else 1
values_in_reply out (reply.Fault refusal) = 0

abbrev pub values_in : Event → ℕ
values_in (Step caller op key out shared_with reply) = values_in_op op + values_in_out out + values_in_reply out reply
values_in (Evict key cause) = 0

-- an event has no more values than an event may have
abbrev pub IsStorable : Event → Type 0
IsStorable event = values_in event ≤ EVENT_VALUES
