-- How each key of a bulk call ended (a reply or a refusal), and what the call returns of it.
--     KeyEnd          a key of the call, its operation, and its end: its step's reply, or its refusal
--     key_ops         the keys with their operations, in the call's order
--     key_end, key_ends    the end of a key, if it has ended, and the ends of these keys, in their order
--     reply_value     the value in the reply of a key's step, if there is one
--     result_of       the result of a key, by its end: its value, its fault or its refusal; if a processor gave no value, there is
--                     none
--     entries_by      each key for whose end this function gives something, with that, in the call's order
--     failed_entries  each key that ended in a fault or a refusal, with it, in the call's order
--     found_entries   each key whose step replied a value, with it, in the call's order
--     result_entries  each key that has a result, with it, in the call's order
use Rattle.std.specs.Prelude.{◌++◌, List, [], ◌∷◌, map, Option, None, Some, option_map, Result, Ok, Err}
use Rattle.std.specs.List.{filter_map}
use Rattle.jc_types.specs.declared.refusal.Refusal.{Refusal}
use Rattle.jc_model.specs.declared.event.Op.{Op}
use Rattle.jc_model.specs.declared.event.Reply.{Reply}
use Rattle.jc_model.specs.declared.event.Reply.TheVariants as reply
use Rattle.jc_model.specs.Cache.{Bytes}
use Rattle.jc_rounds.specs.declared.progress.KeyProgress.{KeyProgress}
use Rattle.jc_rounds.specs.declared.progress.KeyProgress.TheVariants.{Waiting, Reserved, Joined, Ended}
use Rattle.jc_rounds.specs.KeyProgress.{refusal_in}

pub record KeyEnd : Type 0 where
  pub key : Bytes
  pub op : Op
  pub ended : Result Reply Refusal

abbrev pub key_ops : List KeyEnd → List (Bytes × Op)
key_ops ends = map (λ (e : KeyEnd). (e.key, e.op)) ends

abbrev pub key_end : Bytes × Op → KeyProgress → List KeyEnd
key_end target Waiting = []
key_end target Reserved = []
key_end target Joined = []
key_end target (Ended ended) = record { key = target.0; op = target.1; ended = ended } ∷ []

abbrev pub key_ends : List (Bytes × Op) → List KeyProgress → List KeyEnd
key_ends [] progress = []
key_ends (target ∷ targets) [] = []
key_ends (target ∷ targets) (p ∷ progress) = key_end target p ++ key_ends targets progress

-- 1. What a bulk call returns of its keys.

abbrev pub reply_value : Result Reply Refusal → Option Bytes
reply_value (Err refusal) = None
reply_value (Ok (reply.Fault fault)) = None
reply_value (Ok (reply.Value value)) = value
reply_value (Ok (reply.Flag flag)) = None
reply_value (Ok reply.Unit) = None

abbrev pub result_of : Result Reply Refusal → Option (Result Bytes Refusal)
result_of (Err refusal) = Some (Err refusal)
result_of (Ok (reply.Fault fault)) = Some (Err fault)
result_of (Ok (reply.Value None)) = None
result_of (Ok (reply.Value (Some value))) = Some (Ok value)
result_of (Ok (reply.Flag flag)) = None
result_of (Ok reply.Unit) = None

abbrev pub entries_by : {V : Type 0} → (Result Reply Refusal → Option V) → List KeyEnd → List (Bytes × V)
entries_by said ends = filter_map (λ (e : KeyEnd). option_map (λ v. (e.key, v)) (said e.ended)) ends

abbrev pub failed_entries : List KeyEnd → List (Bytes × Refusal)
failed_entries ends = entries_by refusal_in ends

abbrev pub found_entries : List KeyEnd → List (Bytes × Bytes)
found_entries ends = entries_by reply_value ends

abbrev pub result_entries : List KeyEnd → List (Bytes × Result Bytes Refusal)
result_entries ends = entries_by result_of ends
