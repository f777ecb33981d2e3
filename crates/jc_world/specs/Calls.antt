-- Calls under way in a world: what each does at its keys. A key is open in a call until it has its reply or its last refusal there.
--     Task              a key, and what is done there as long as it is open
--     at_each           an operation at each of some keys
--     put_each_of       a `Put` of each of some entries
--     tasks             what a command does at each of its keys, in their order. Those of `removeAll()` and `clear()` are found
--                       stripe by stripe
--     kind_of           how the call of a command takes its keys
--     is_bulk           a call of a kind has many keys
--     keeps_open        a key of a call of a kind that meets a refusal stays open, to be tried again: in a call of one key it
--                       doesn't
--     has_too_many      tasks are more than a call may have keys
--     SweepState        what a call that takes the keys that are cached does at each key that it finds, and the stripes at which it
--                       has looked
--     sweep_of          the sweep of a command that takes the keys that are cached, before its first look; none of another command
--     CallState         a call under way: who calls, how it takes its keys, what it does, its sweep of the stripes, and what it has
--                       met
--     new_call          a call that has just begun
--     has_too_many_keys
--                       a call names too many keys: it is refused whole
--     is_going          a call isn't over: it is still to look at a stripe, or a key of it is open
--     opened            a call that has just begun, if it is then under way: it is not refused whole, and isn't over
--     has_number        a call has this number
--     is_of_session     a call is of this session
--     op_in, op_at      what tasks, and a call, do at a key that is open; none at any other key
--     op_found, op_or_found
--                       what a call does at each key that it finds by its sweep, and at a key by its task, if it has one
--     op_for            what a call does at a key, also at one that its sweep may still find: nothing at a key that is settled
--     is_open           the key of a task is open
--     open_in, open_keys
--                       the open keys of tasks, and of a call, in their order
--     going_on          a call, if it isn't over
--     over_of           that a call of many keys is over, with its cause, if it is: no key of it is open, and no look is left
--     cause_after       the first fault, or refusal that isn't put off, that a call of a kind has met, once it meets this or
--                       nothing. A call of one key doesn't keep it, since it is answered with it, nor does an `invokeAll`, each key
--                       of which has a result of its own
--     with_met          a call that meets this
--     settled           a call once a key of it has its reply or last refusal, and it has met this by it
--     replaced          the calls, once of the one with this number is left what there is
--     settle            the calls under way once a key of one is settled: the call is taken out if it is over with that
--     over_settled      that the call is over with that, and with which cause, if it is a call of many keys that is
--     meet              the calls under way once one has met this
--     drop_call         the calls without one that is over
--     has_looked        a stripe is among those at which a call has looked
--     looked_in         the stripes at which a call with this sweep has looked: none, if it is to look at no more
--     has_looked_at_each
--                       so is each, in a cache of this number of stripes
--     next_sweep        a sweep, in a cache of this number of stripes, behind a look at one more: none once it has looked at each
--     with_swept_keys   a call that has looked at a stripe and taken its keys, in a cache of this number of stripes
--     look              the calls under way once a call has looked at a stripe and taken these keys: it is over if it has looked at
--                       each stripe, and no key of it is open
use Rattle.std.specs.Prelude.{◌==◌, ◌&&◌, ◌||◌, ℕ, zero, suc, List, [], ◌∷◌, ◌++◌, length, nat_lt, Bool, true, false, not, Option}
use Rattle.std.specs.Prelude.{None, Some, find, filter, map, is_some, option_map, if◌then◌else◌}
use Rattle.std.specs.List.{cons_option, list_any}
use Rattle.std.specs.Map.{keys_of, lookup, set_value}
use Rattle.std.specs.Option.{option_flatten, option_or}
use Rattle.std.specs.Cmp.Lexicographic.{pointwise}
use Rattle.jc_types.specs.declared.caller.Caller.{Caller}
use Rattle.jc_types.specs.declared.limits.TheConstants.{BULK_KEYS_MAX}
use Rattle.jc_types.specs.declared.refusal.Refusal.{Refusal}
use Rattle.jc_types.specs.Refusals.{is_put_off}
use Rattle.jc_model.specs.declared.event.Op.{Op}
use Rattle.jc_model.specs.declared.event.Op.TheVariants as op
use Rattle.jc_model.specs.Cache.{Bytes}
use Rattle.jc_world.specs.declared.command.CallKind.{CallKind}
use Rattle.jc_world.specs.declared.command.CallKind.TheVariants as kind
use Rattle.jc_world.specs.declared.command.Command.{Command}
use Rattle.jc_world.specs.declared.command.Command.TheVariants.{Single, GetAll, PutAll, RemoveAll, RemoveEvery, Clear, LoadAll}
use Rattle.jc_world.specs.declared.command.Command.TheVariants.{InvokeAll}
use Rattle.jc_world.specs.declared.event.Over.{Over}

-- 1. Commands.

abbrev pub Task : Type 0
Task = Bytes × Option Op

abbrev pub at_each : Op → List Bytes → List Task
at_each op keys = map (λ key. (key, Some op)) keys

abbrev pub put_each_of : List (Bytes × Bytes) → List Task
put_each_of entries = map (λ entry. (entry.0, Some (op.Put entry.1))) entries

abbrev pub tasks : Command → List Task
tasks (Single op key) = (key, Some op) ∷ []
tasks (GetAll keys) = at_each op.Get keys.keys
tasks (PutAll entries) = put_each_of entries.entries
tasks (RemoveAll keys) = at_each op.Remove keys.keys
tasks RemoveEvery = []
tasks Clear = []
tasks (LoadAll replace keys) = at_each (op.LoadAll replace) keys.keys
tasks (InvokeAll keys) = at_each op.Invoke keys.keys

pub record SweepState : Type 0 where
  pub op : Op  -- at each key that it finds
  pub looked : List ℕ  -- the numbers of the stripes, in the order of its looks

-- `removeAll()` and `clear()` look at each stripe
abbrev pub sweep_of : Command → Option SweepState
sweep_of (Single op key) = None
sweep_of (GetAll keys) = None
sweep_of (PutAll entries) = None
sweep_of (RemoveAll keys) = None
sweep_of RemoveEvery = Some (record { op = op.Remove; looked = [] })
sweep_of Clear = Some (record { op = op.Clear; looked = [] })
sweep_of (LoadAll replace keys) = None
sweep_of (InvokeAll keys) = None

abbrev pub kind_of : Command → CallKind
kind_of (Single op key) = kind.Single
kind_of (GetAll keys) = kind.Batch
kind_of (PutAll entries) = kind.Batch
kind_of (RemoveAll keys) = kind.Batch
kind_of RemoveEvery = kind.Batch
kind_of Clear = kind.Batch
kind_of (LoadAll replace keys) = kind.Batch
kind_of (InvokeAll keys) = kind.InvokeAll

abbrev pub is_bulk : CallKind → Bool
is_bulk kind.Single = false
is_bulk kind.Batch = true
is_bulk kind.InvokeAll = true

abbrev pub keeps_open : CallKind → Refusal → Bool
keeps_open kind.Single refusal = false
keeps_open kind.Batch refusal = is_put_off refusal
keeps_open kind.InvokeAll refusal = is_put_off refusal

abbrev pub has_too_many : List Task → Bool
has_too_many tasks = nat_lt BULK_KEYS_MAX (length tasks)

-- 2. Calls under way.

pub record CallState : Type 0 where
  pub caller : Caller
  pub kind : CallKind
  pub tasks : List Task  -- in the order of its command, or as its looks have found them
  pub sweep : Option SweepState  -- none if it looks at no stripe, or has looked at each
  pub cause : Option Refusal  -- the first fault, or refusal that isn't put off, that it has met

abbrev pub new_call : ℕ → ℕ → Command → CallState
new_call call session command =
    record {
      caller = record { session = session; call = call };
      kind = kind_of command;
      tasks = tasks command;
      sweep = sweep_of command;
      cause = None;
    }

abbrev pub has_number : ℕ → CallState → Bool
has_number call u = u.caller.call == call

abbrev pub is_of_session : ℕ → CallState → Bool
is_of_session session u = u.caller.session == session

-- 3. Open keys.

abbrev pub op_in : List Task → Bytes → Option Op
op_in tasks key = option_flatten (lookup (pointwise ◌==◌ key) tasks)

abbrev pub op_at : CallState → Bytes → Option Op
op_at u key = op_in u.tasks key

-- at a key that isn't among the tasks
abbrev pub op_found : Option SweepState → Option Op
op_found sweep = option_map (λ s. s.op) sweep

abbrev pub op_or_found : Option SweepState → Option (Option Op) → Option Op
op_or_found sweep None = op_found sweep
op_or_found sweep (Some op) = op

abbrev pub op_for : CallState → Bytes → Option Op
op_for u key = op_or_found u.sweep (lookup (pointwise ◌==◌ key) u.tasks)

abbrev pub is_open : Task → Bool
is_open task = is_some task.1

abbrev pub open_in : List Task → List Bytes
open_in tasks = keys_of (filter is_open tasks)

abbrev pub open_keys : CallState → List Bytes
open_keys u = open_in u.tasks

-- a call isn't over
abbrev pub is_going : CallState → Bool
is_going u = is_some u.sweep || list_any is_open u.tasks

-- a call that has just begun
abbrev pub has_too_many_keys : CallState → Bool
has_too_many_keys u = has_too_many u.tasks

abbrev pub opened : CallState → List CallState
opened u = if has_too_many_keys u then [] else if is_going u then u ∷ [] else []

-- 4. Keys that are settled.

abbrev pub going_on : CallState → Option CallState
going_on u = if is_going u then Some u else None

-- a call of one key is answered by its reply
abbrev pub over_of : CallState → Option Over
over_of u =
    if is_going u then None
    else if is_bulk u.kind then Some (record { call = u.caller.call; cause = u.cause })
    else None

-- what a call has met before comes first
abbrev pub cause_after : CallKind → Option Refusal → Option Refusal → Option Refusal
cause_after kind.Single was met = None
cause_after kind.Batch was met = option_or was met
cause_after kind.InvokeAll was met = None

abbrev pub with_met : Option Refusal → CallState → CallState
with_met met u = record u { cause = cause_after u.kind u.cause met }

abbrev pub settled : Bytes → Option Refusal → CallState → CallState
settled key met u = with_met met (record u { tasks = set_value (pointwise ◌==◌ key) u.tasks None })

-- the first call with this number
abbrev pub replaced : ℕ → (CallState → Option CallState) → List CallState → List CallState
replaced call left [] = []
replaced call left (u ∷ calls) =
    if has_number call u then cons_option (left u) calls else u ∷ replaced call left calls

abbrev pub settle : ℕ → Bytes → Option Refusal → List CallState → List CallState
settle call key met calls = replaced call (λ u. going_on (settled key met u)) calls

abbrev pub over_settled : ℕ → Bytes → Option Refusal → List CallState → Option Over
over_settled call key met calls =
    option_flatten (option_map (λ u. over_of (settled key met u)) (find (has_number call) calls))

abbrev pub meet : ℕ → Option Refusal → List CallState → List CallState
meet call met calls = replaced call (λ u. Some (with_met met u)) calls

-- the calls without one that is over
abbrev pub drop_call : ℕ → List CallState → List CallState
drop_call call calls = filter (λ u. not (has_number call u)) calls

-- 5. Calls that look at the stripes.

abbrev pub has_looked : List ℕ → ℕ → Bool
has_looked looked stripe = list_any (λ other. other == stripe) looked

abbrev pub looked_in : Option SweepState → List ℕ
looked_in None = []
looked_in (Some sweep) = sweep.looked

-- at each, in a cache of this number of stripes
abbrev pub has_looked_at_each : List ℕ → ℕ → Bool
has_looked_at_each looked zero = true
has_looked_at_each looked (suc stripe) =
    has_looked looked stripe && has_looked_at_each looked stripe

-- behind the last look there is none
abbrev pub next_sweep : ℕ → ℕ → SweepState → Option SweepState
next_sweep stripes stripe sweep =
    let looked = sweep.looked ++ stripe ∷ [] in
    if has_looked_at_each looked stripes then None else Some (record sweep { looked = looked })

abbrev pub with_swept_keys : ℕ → ℕ → List Bytes → SweepState → CallState → CallState
with_swept_keys stripes stripe keys sweep u =
    record u { tasks = u.tasks ++ at_each sweep.op keys; sweep = next_sweep stripes stripe sweep }

abbrev pub look : ℕ → ℕ → ℕ → List Bytes → SweepState → List CallState → List CallState
look call stripes stripe keys sweep calls =
    replaced call (λ u. going_on (with_swept_keys stripes stripe keys sweep u)) calls
