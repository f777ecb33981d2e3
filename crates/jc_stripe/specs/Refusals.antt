-- Whom the first phase of a call at a stripe asks first (the loader, the writer or the processor), and why it is refused.
--     first_by             whom a call without a processor asks first: the loader, if the loader table asks it, otherwise the
--                          writer
--     is_wanted            the loader table leaves it to the processor whether its key is loaded
--     change_for           the change that the writer is asked for before any other answer, if write-through is on
--     first_asked          whom a call asks first: an `Invoke` its processor, about the entry that it finds, and every other call
--                          by the loader table and the writer table
--     reserves             a call that asks this one first has to reserve its key: somebody is asked
--     answers_at_once      a call that a reservation of its key does not stop: it answers from the cached entry
--     load_of              the number of a reservation, if it asked the loader
--     load_at              the same for a reservation that may not be there
--     load_joined          the load that a call joins: a `Get` whose key is missing and is being loaded, with read-through on
--     may_join             an operation whose call may join another call's load
--     needs_free_key       a call can be started only if its key is free: it neither answers from the entry nor joins a load
--     places_needed        the free places of the history that a call needs: `HIT_PLACES` if it answers from the entry or joins,
--                          otherwise `STEP_PLACES`
--     last_number          the last of a session's call numbers and of a stripe's reservation numbers: at it a call is refused
--     has_room             the history has these places free, beside the reserved ones, and neither number is the last one
--     may_hit              a call that finds its entry may answer from it: there is room, and the key isn't barred
--     needs_reservation    the call reserves its key: it asks somebody, and does not join
--     full_refusal         the refusal of a call that lacks room: the history is full; or, if a full history may end and no
--                          number is the last one, the call is to be tried again
--     first_refusal        the first refusal whose condition holds: no room, busy (barred, or reserved), too many in flight, too
--                          many joiners
use Rattle.std.specs.Prelude.{ℕ, ◌+◌, length, Bool, true, false, not, ◌&&◌, ◌||◌, Option, None, Some, is_some, is_none, nat_lt}
use Rattle.std.specs.Prelude.{nat_le, if◌then◌else◌}
use Rattle.jc_types.specs.declared.caller.Caller.{Caller}
use Rattle.jc_types.specs.declared.config.Config.{Config}
use Rattle.jc_types.specs.declared.limits.TheConstants.{STEP_PLACES, HIT_PLACES, RESERVATIONS_MAX, JOINERS_MAX, LAST_NUMBER}
use Rattle.jc_types.specs.declared.refusal.Refusal.{Refusal}
use Rattle.jc_types.specs.declared.refusal.Refusal.TheVariants as refusal
use Rattle.jc_model.specs.declared.event.Op.{Op}
use Rattle.jc_model.specs.declared.event.OpKind.TheVariants as kind
use Rattle.jc_model.specs.declared.event.Change.{Change}
use Rattle.jc_model.specs.declared.event.ProcessAnswer.TheVariants as process
use Rattle.jc_model.specs.declared.table.LoaderAsk.{LoaderAsk}
use Rattle.jc_model.specs.declared.table.LoaderAsk.TheVariants.{Never, Always, IfWanted}
use Rattle.jc_model.specs.Cache.{Bytes, entry_at}
use Rattle.jc_model.specs.Table.{op_kind, loader_ask, write_ask, is_invoke}
use Rattle.jc_stripe.specs.declared.ticket.First.{First}
use Rattle.jc_stripe.specs.declared.ticket.First.TheVariants.{Nobody, Loader, Writer, Processor}
use Rattle.jc_stripe.specs.declared.ticket.Reservation.{Reservation}
use Rattle.jc_stripe.specs.Tickets.{writer_for}
use Rattle.jc_stripe.specs.State.{State, is_reserved, is_barred, reservation_of, promised}

-- 1. Whom a call asks first.

-- the loader before the writer
abbrev pub first_by : LoaderAsk → Option Change → First
first_by Never change = writer_for change
first_by Always change = Loader
first_by IfWanted change = Processor None true  -- wanted only if the entry is missing

-- the key is loaded if the processor asks for the value
abbrev pub is_wanted : LoaderAsk → Bool
is_wanted Never = false
is_wanted Always = false
is_wanted IfWanted = true

-- the change that the writer is asked for before any other answer: none with write-through off
abbrev pub change_for : Config → Op → Option Bytes → Option Change
change_for config op entry = if config.write_through then write_ask op entry process.NotAsked else None

abbrev pub first_asked : Config → Op → Option Bytes → First
first_asked config op entry =
    if is_invoke op then Processor entry (is_wanted (loader_ask config.read_through op entry))
    else first_by (loader_ask config.read_through op entry) (change_for config op entry)

abbrev pub reserves : First → Bool
reserves Nobody = false
reserves Loader = true
reserves (Writer change) = true
reserves (Processor entry loads) = true

-- 2. The needs of a call.

abbrev pub answers_at_once : Config → Op → Option Bytes → Bool
answers_at_once config op entry = elim (op_kind op) [
  | kind.Get ↦ is_some entry || not config.read_through
  | kind.ContainsKey ↦ true
  | kind.Write ↦ false
  | kind.Clear ↦ false
  | kind.LoadAll replace ↦ false
  | kind.Invoke ↦ false
]

-- the load of a reservation, if it asked the loader
abbrev pub load_of : First → ℕ → Option ℕ
load_of Nobody number = None
load_of Loader number = Some number
load_of (Writer change) number = None
load_of (Processor entry loads) number = None

abbrev pub load_at : Option Reservation → Option ℕ
load_at None = None
load_at (Some r) = load_of r.first r.number

abbrev pub may_join : Op → Bool
may_join op = elim (op_kind op) [
  | kind.Get ↦ true
  | kind.ContainsKey ↦ false
  | kind.Write ↦ false
  | kind.Clear ↦ false
  | kind.LoadAll replace ↦ false
  | kind.Invoke ↦ false
]

abbrev pub load_joined : State → Bytes → Op → Option ℕ
load_joined state key op =
    if may_join op && state.config.read_through && is_none (entry_at state.cache key)
    then load_at (reservation_of state key) else None

abbrev pub needs_free_key : State → Bytes → Op → Bool
needs_free_key state key op = not (answers_at_once state.config op (entry_at state.cache key) || is_some (load_joined state key op))

abbrev pub places_needed : Bool → ℕ
places_needed true = STEP_PLACES
places_needed false = HIT_PLACES

-- the last of a session's call numbers, and of a stripe's reservation numbers
abbrev pub last_number : ℕ
last_number = LAST_NUMBER

-- the history has these places free, beside the reserved ones, and neither number is the last one
abbrev pub has_room : State → ℕ → ℕ → Bool
has_room state call needed =
    nat_le (length state.history + promised state + needed) state.config.history && nat_lt call last_number
    && nat_lt state.next last_number

abbrev pub may_hit : State → ℕ → Bytes → Bool
may_hit state call key = has_room state call HIT_PLACES && not (is_barred state key)

-- 3. The refusals, in their order.

-- the refusal of a call that lacks room. If the stripe lives on and neither number is the last one, a place will become free
abbrev pub full_refusal : State → ℕ → Refusal
full_refusal state call =
    if state.lives && nat_lt call last_number && nat_lt state.next last_number then refusal.Busy else refusal.HistoryFull

abbrev pub needs_reservation : State → Bytes → Op → Bool
needs_reservation state key op =
    reserves (first_asked state.config op (entry_at state.cache key)) && is_none (load_joined state key op)

abbrev pub first_refusal : State → Caller → Bytes → Op → Option Refusal
first_refusal state caller key op =
    if not (has_room state caller.call (places_needed (needs_free_key state key op))) then Some (full_refusal state caller.call)
    else (if is_barred state key || (is_reserved state key && needs_free_key state key op) then Some refusal.Busy
    else (if needs_reservation state key op && nat_le RESERVATIONS_MAX (length state.reservations) then Some refusal.TooManyInFlight
    else (if is_some (load_joined state key op) && nat_le JOINERS_MAX (length state.joiners)
    then Some refusal.TooManyJoiners else None)))
