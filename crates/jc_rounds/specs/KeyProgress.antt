-- How far each key of a bulk call is: it waits for a round, is reserved, has joined a load, or has ended.
--     waits_for_round         the key waits for a round
--     holds_reservation       the key is reserved
--     waits_for_joined_load   the key has joined a load
--     is_settled              the key neither is reserved nor has joined a load
--     is_held_back            the key waits, or it has joined a load
--     StillWaits              the key at this place waits
--     all_waiting             the states of this number of keys before the first round
--     StayEnded               there are as many keys later, and those that have ended have the same end
--     at_end                  what the end of a key in this state says
--     refusal_in              the fault or refusal in which a key has ended, if it did
--     failure_at              the fault or refusal of a key in this state
--     failures                the faults and refusals of all keys
--     IsCauseIn               there is a cause exactly if there are faults or refusals, and it is one of them
--     IsMet                   a cause that was noted is a fault or refusal of a key, or one of these faults of the writer;
--                             without a cause the writer has not failed
--     first_of                the first of a list, if it has one
--     KeepsCause              a cause that was noted before stays
--     IsNoted                 a cause that was noted before stays; otherwise the cause is the first of these, if there are any
--     refused_if_waiting      a key that waits is refused, because the allocation of a later round failed; any other key is
--                             unchanged
use Rattle.std.specs.Prelude.{◌≡◌, ◌++◌, ℕ, zero, suc, List, [], ◌∷◌, length, Bool, true, false, not, ◌||◌, Option, None, Some}
use Rattle.std.specs.Prelude.{IfSome, Result, Ok, Err, slice_get}
use Rattle.std.specs.List.{IsAmong, filter_map}
use Rattle.jc_types.specs.declared.refusal.Refusal.{Refusal}
use Rattle.jc_types.specs.declared.refusal.Refusal.TheVariants.{OutOfMemory}
use Rattle.jc_model.specs.declared.event.Reply.{Reply}
use Rattle.jc_model.specs.declared.event.Reply.TheVariants as reply
use Rattle.jc_rounds.specs.declared.progress.KeyProgress.{KeyProgress}
use Rattle.jc_rounds.specs.declared.progress.KeyProgress.TheVariants.{Waiting, Reserved, Joined, Ended}

abbrev pub waits_for_round : KeyProgress → Bool
waits_for_round Waiting = true
waits_for_round Reserved = false
waits_for_round Joined = false
waits_for_round (Ended ended) = false

abbrev pub holds_reservation : KeyProgress → Bool
holds_reservation Waiting = false
holds_reservation Reserved = true
holds_reservation Joined = false
holds_reservation (Ended ended) = false

abbrev pub waits_for_joined_load : KeyProgress → Bool
waits_for_joined_load Waiting = false
waits_for_joined_load Reserved = false
waits_for_joined_load Joined = true
waits_for_joined_load (Ended ended) = false

abbrev pub is_settled : KeyProgress → Bool
is_settled progress = not (holds_reservation progress || waits_for_joined_load progress)

abbrev pub is_held_back : KeyProgress → Bool
is_held_back progress = waits_for_round progress || waits_for_joined_load progress

abbrev pub StillWaits : List KeyProgress → ℕ → Type 0
StillWaits progress place = slice_get progress place ≡ Some Waiting

abbrev pub all_waiting : ℕ → List KeyProgress
all_waiting zero = []
all_waiting (suc n) = Waiting ∷ all_waiting n

abbrev pub refused_if_waiting : KeyProgress → KeyProgress
refused_if_waiting Waiting = Ended (Err OutOfMemory)
refused_if_waiting Reserved = Reserved
refused_if_waiting Joined = Joined
refused_if_waiting (Ended ended) = Ended ended

pub record StayEnded (progress later : List KeyProgress) : Type 0 where
  pub many : length later ≡ length progress
  pub ended : (place : ℕ) (e : Result Reply Refusal) → slice_get progress place ≡ Some (Ended e)
      → slice_get later place ≡ Some (Ended e)

abbrev pub at_end : {V : Type 0} → (Result Reply Refusal → Option V) → KeyProgress → Option V
at_end said Waiting = None
at_end said Reserved = None
at_end said Joined = None
at_end said (Ended ended) = said ended

-- 2. What failed.

abbrev pub refusal_in : Result Reply Refusal → Option Refusal
refusal_in (Err refusal) = Some refusal
refusal_in (Ok (reply.Fault fault)) = Some fault
refusal_in (Ok (reply.Value value)) = None
refusal_in (Ok (reply.Flag flag)) = None
refusal_in (Ok reply.Unit) = None

abbrev pub failure_at : KeyProgress → Option Refusal
failure_at progress = at_end refusal_in progress

abbrev pub failures : List KeyProgress → List Refusal
failures progress = filter_map failure_at progress

abbrev pub IsCauseIn : Option Refusal → List Refusal → Type 0
IsCauseIn None refusals = refusals ≡ []
IsCauseIn (Some cause) refusals = IsAmong refusals cause

abbrev pub first_of : List Refusal → Option Refusal
first_of [] = None
first_of (r ∷ rs) = Some r

abbrev pub KeepsCause : Option Refusal → Option Refusal → Type 0
KeepsCause before after = IfSome before (λ cause. after ≡ Some cause)

-- a cause that was noted stays
abbrev pub IsNoted : Option Refusal → List Refusal → Option Refusal → Type 0
IsNoted None refusals cause = cause ≡ first_of refusals
IsNoted (Some noted) refusals cause = cause ≡ Some noted

-- `faults` are those that the writer has returned
abbrev pub IsMet : Option Refusal → List KeyProgress → List Refusal → Type 0
IsMet None progress faults = faults ≡ []
IsMet (Some cause) progress faults = IsAmong (failures progress ++ faults) cause
