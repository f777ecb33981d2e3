-- The result of a call that replies with a value (`get`, `getAndPut`, ..), from its step's reply.
--     value_in      the value, if there is one; a fault is an error
--     value_into    the result if the value is written to the caller's memory: whether there is one, and what the memory has;
--                   without a value it is unchanged
use Rattle.std.specs.Prelude.{Bool, true, false, Option, None, Some, Result, Ok, Err}
use Rattle.jc_types.specs.declared.refusal.Refusal.{Refusal}
use Rattle.jc_model.specs.Cache.{Bytes}
use Rattle.jc_model.specs.declared.event.Reply.{Reply}
use Rattle.jc_model.specs.declared.event.Reply.TheVariants as reply

abbrev pub value_in : Result Reply Refusal → Result (Option Bytes) Refusal
value_in (Err refusal) = Err refusal
value_in (Ok (reply.Fault fault)) = Err fault
value_in (Ok (reply.Value value)) = Ok value
value_in (Ok (reply.Flag flag)) = Ok None
value_in (Ok reply.Unit) = Ok None

abbrev pub value_into : Bytes → Result Reply Refusal → Result Bool Refusal × Bytes
value_into room (Err refusal) = (Err refusal, room)
value_into room (Ok (reply.Fault fault)) = (Err fault, room)
value_into room (Ok (reply.Value (Some value))) = (Ok true, value)
value_into room (Ok (reply.Value None)) = (Ok false, room)
value_into room (Ok (reply.Flag flag)) = (Ok false, room)
value_into room (Ok reply.Unit) = (Ok false, room)
