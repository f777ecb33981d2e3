-- The effect of entry processors on an entry that nothing else changes: N increments leave N.
--     opening_entry    the entry that a stripe's first opening has at a key
--     count_at         the number of events of a history at a key
--     SetsNext         the event at a place of a stripe's whole history is the step of a processor's call without a fault; it
--                      sets a value that comes next after the entry that the key had when the step was made
--     AllSetNext       every event at a key is such a step: none is of another operation, or an eviction
--     next_times       an entry after `n` steps, each of which sets the next value of the entry before it
--     LeavesNext       the law: if every event at a key sets the next value, the entry is the first opening's after as many steps
--                      as there are events
--     LeavesSum        the law for an entry that stands for a number: if every event at a key adds one, the number is that of the
--                      first opening's entry plus the number of events, so no increment is lost
--     IsByTable        an event follows the operation table: at some entry its step asks for exactly these answers, and gives
--                      this reply; only a `Get` shares a load
--     EventsByTable    the law: every event of a stripe's whole history follows the table
-- A call of a cache's `invoke` that returned a value gives `SetsNext` in every later state of its stripe, that is, one whose
-- whole history begins with what the call's session has seen (proved as `sets_next` in `jc_cache/proofs/Increments.antt`).
-- `decided` is the `state_decided` of the call's row. Its `between` gives `reached`, `same` and `earlier`; its `alone` gives
-- `made_in`, which stays true as the history grows; its `seat` gives the place. By `EventsByTable` the event shares no load. So
-- its answers are those that were asked for, and its processor was run; since it replies with a value, there was no fault. `set`
-- and `next` are left for the call's `run` to state: what the processor did with the entry of `decided`. If that was missing and
-- a value was loaded, the processor was shown the loaded one, and `next` has to hold of the missing entry all the same.
use Rattle.std.specs.Prelude.{◌≡◌, ◌==◌, ◌+◌, ℕ, zero, suc, List, count_by, true, Option, None, Some, slice_get}
use Rattle.std.specs.Cmp.Lexicographic.{pointwise}
use Rattle.std.specs.FinMap.{from_entries}
use mathlib.Core.List.{IsPrefix}
use Rattle.jc_types.specs.declared.caller.Caller.{Caller}
use Rattle.jc_types.specs.declared.config.Config.{Config}
use Rattle.jc_model.specs.Cache.{Bytes, entry_at}
use Rattle.jc_model.specs.Legal.{event_key}
use Rattle.jc_model.specs.Table.{answers_fit, first_fault, reply_after}
use Rattle.jc_model.specs.declared.event.Effect.TheVariants.{Set}
use Rattle.jc_model.specs.declared.event.Event.{Event}
use Rattle.jc_model.specs.declared.event.Event.TheVariants.{Step, Evict}
use Rattle.jc_model.specs.declared.event.Op.TheVariants.{Get, Invoke}
use Rattle.jc_model.specs.declared.event.Out.{Out}
use Rattle.jc_model.specs.declared.event.ProcessAnswer.TheVariants.{Ended}
use Rattle.jc_model.specs.declared.event.Reply.{Reply}
use Rattle.jc_stripe.specs.State.{State}
use Rattle.jc_stripe.specs.Generations.{whole_history, first_opening, IsOfSameStripe}
use Rattle.jc_stripe.specs.Reached.{IsReached}
use Rattle.jc_engine.specs.MadeIn.{IsNext}

-- 1. A key, first and in a history.

abbrev pub opening_entry : State → Bytes → Option Bytes
opening_entry state key = entry_at (from_entries (first_opening state)) key

abbrev pub count_at : Bytes → List Event → ℕ
count_at key history = count_by (λ event. pointwise ◌==◌ key (event_key event)) history

-- 2. A processor's step. `Next` says which values come next after an entry.

pub record SetsNext (Next : Option Bytes → Bytes → Type 0) (state : State) (key : Bytes) (place : ℕ) (event : Event) : Type 0 where
  pub caller : Caller
  pub out : Out
  pub reply : Reply
  pub is : event ≡ Step caller Invoke key out None reply
  pub decided : State
  pub reached : IsReached decided
  pub same : IsOfSameStripe decided state
  pub earlier : IsPrefix (whole_history decided) (whole_history state)
  pub made_in : IsNext decided key place (whole_history state)
  pub value : Bytes
  pub outcome : Option Bytes
  pub set : out.process ≡ Ended (Set value) outcome
  pub no_fault : first_fault out ≡ None
  pub next : Next (entry_at decided.cache key) value

abbrev pub AllSetNext : (Option Bytes → Bytes → Type 0) → State → Bytes → Type 0
AllSetNext Next state key =
    (place : ℕ) (event : Event) → slice_get (whole_history state) place ≡ Some event → event_key event ≡ key
    → SetsNext Next state key place event

-- 3. The laws of increments.

abbrev pub next_times : (Option Bytes → Bytes) → ℕ → Option Bytes → Option Bytes
next_times next zero entry = entry
next_times next (suc n) entry = Some (next (next_times next n entry))

abbrev pub LeavesNext : Type 0
LeavesNext =
    (next : Option Bytes → Bytes) (state : State) (key : Bytes) → IsReached state
    → AllSetNext (λ entry value. value ≡ next entry) state key
    → entry_at state.cache key ≡ next_times next (count_at key (whole_history state)) (opening_entry state key)

abbrev pub LeavesSum : Type 0
LeavesSum =
    (number : Option Bytes → ℕ) (state : State) (key : Bytes) → IsReached state
    → AllSetNext (λ entry value. number (Some value) ≡ number entry + 1) state key
    → number (entry_at state.cache key) ≡ number (opening_entry state key) + count_at key (whole_history state)

-- 4. The law of events.

abbrev pub IsByTable : Config → Event → Type 0
IsByTable config (Step caller op key out None reply) =
    (entry : Option Bytes) × (answers_fit config op entry out ≡ true) × (reply ≡ reply_after op entry out)
IsByTable config (Step caller op key out (Some shared_with) reply) = op ≡ Get
IsByTable config (Evict key cause) = Unit {0}

abbrev pub EventsByTable : Type 0
EventsByTable =
    (state : State) (place : ℕ) (event : Event) → IsReached state → slice_get (whole_history state) place ≡ Some event
    → IsByTable state.config event
