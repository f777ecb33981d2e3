-- A desk: a stripe with its tickets, whose calls the desk numbers.
--     DeskState           the stripe, the number of the next call, and whether its driver takes the events of a full generation
--     HasStepsBefore      every session's own steps are of calls before this number
--     is_joined_before    a joiner's call is before this number
--     IsDesk              the tickets are those of the stripe's reservations, in their order; each session's own steps, the
--                         reservations and the joiners are of calls before the next number; the outside answers are the driver's,
--                         and the stripe lives on
--     next_caller         the caller of the next call, if this session makes it
--     may_call_next       this session may make the next call at this key: there is a number for it, the key is of this stripe,
--                         and the session has no reservation and no join here of another call or of this key
--     awaits_end          the generation is full and may end, and its events are to be taken first
--     renewed_if_full     a stripe after its generation has ended, if it was full and might end
--     nothing_is_out      no reservation and no join is out
--     is_open_shape       a cache may have this shape, and a stripe with this number
--     are_contents        a stripe may open with these entries: each key is there once and of the stripe, and there is room for
--                         all
--     opened_desk         a desk that opens with these entries
--     OpenFails           why no desk is opened: the shape doesn't fit; the shape fits, and the entries don't; or both fit, and
--                         an allocation failed
use Rattle.std.specs.Prelude.{◌≡◌, ◌==◌, ◌&&◌, ◌<◌, ℕ, List, length, Bool, true, false, not, nat_lt, nat_le, All, is_ok}
use Rattle.std.specs.Prelude.{if◌then◌else◌}
use Rattle.std.specs.List.{list_all}
use Rattle.jc_types.specs.declared.caller.Caller.{Caller}
use Rattle.jc_types.specs.declared.config.Config.{Config}
use Rattle.jc_types.specs.declared.limits.TheConstants.{LAST_NUMBER}
use Rattle.jc_types.specs.Limits.{check}
use Rattle.jc_types.specs.Stripes.{stripe_of}
use Rattle.jc_model.specs.Cache.{Bytes}
use Rattle.jc_model.specs.Listed.{has_distinct_keys}
use Rattle.jc_inflight.specs.declared.joiner.Joiner.{Joiner}
use Rattle.jc_outside.specs.declared.done.Origin.TheVariants.{Played}
use Rattle.jc_stripe.specs.declared.ticket.Reservation.{Reservation}
use Rattle.jc_stripe.specs.State.{State}
use Rattle.jc_stripe.specs.OnePhase.{own_steps}
use Rattle.jc_stripe.specs.OwnSteps.{is_before_call}
use Rattle.jc_stripe.specs.Tests.{is_clear}
use Rattle.jc_stripe.specs.Generations.{after_renewal}
use Rattle.jc_stripe.specs.Renewal.{is_renewable, live_on}
use Rattle.jc_stripe.specs.Reopening.{opened_stripe}
use Rattle.jc_stripe.specs.declared.desk.answers.OpenFault.{OpenFault}
use Rattle.jc_stripe.specs.declared.desk.answers.OpenFault.TheVariants as open_fault

-- 1. The state.

pub record DeskState : Type 0 where
  pub stripe : State
  pub next : ℕ
  pub keeps_events : Bool

abbrev pub HasStepsBefore : State → ℕ → Type 0
HasStepsBefore state next = (session : ℕ) → list_all (is_before_call session next) (own_steps session state) ≡ true

abbrev pub is_joined_before : ℕ → Joiner → Bool
is_joined_before next j = nat_lt j.caller.call next

pub record IsDesk (stripe : State) (tickets : List Reservation) (next : ℕ) : Type 0 where
  pub tickets_are : tickets ≡ stripe.reservations
  pub before : HasStepsBefore stripe next
  pub below : All (λ r. r.caller.call < next) stripe.reservations
  pub joined_below : list_all (is_joined_before next) stripe.joiners ≡ true
  pub played : stripe.origin ≡ Played
  pub lives : stripe.lives ≡ true

-- 2. The next call.

abbrev pub next_caller : DeskState → ℕ → Caller
next_caller desk session = record { session = session; call = desk.next }

abbrev pub may_call_next : DeskState → ℕ → Bytes → Bool
may_call_next desk session key = not (desk.next == LAST_NUMBER) && is_clear desk.stripe (next_caller desk session) key

abbrev pub awaits_end : DeskState → Bool
awaits_end desk = desk.keeps_events && is_renewable desk.stripe

abbrev pub renewed_if_full : State → State
renewed_if_full state = if is_renewable state then after_renewal state else state

abbrev pub nothing_is_out : State → Bool
nothing_is_out state = (length state.reservations == 0) && (length state.joiners == 0)

-- 3. The entries that a desk may open with.

abbrev pub is_open_shape : Config → ℕ → Bool
is_open_shape config number = is_ok (check config) && nat_lt number config.stripes

abbrev pub are_contents : Config → ℕ → List (Bytes × Bytes) → Bool
are_contents config number entries =
    nat_le (length entries) config.capacity && has_distinct_keys entries
    && list_all (λ entry. stripe_of entry.0 config.stripes == number) entries

abbrev pub opened_desk : Config → ℕ → Bool → List (Bytes × Bytes) → DeskState
opened_desk config number keeps_events entries =
    record { stripe = live_on (opened_stripe config Played number entries); next = 0; keeps_events = keeps_events }

abbrev pub OpenFails : OpenFault → Config → ℕ → List (Bytes × Bytes) → Type 0
OpenFails open_fault.Shape config number entries = is_open_shape config number ≡ false
OpenFails open_fault.Contents config number entries =
    (is_open_shape config number ≡ true) × (are_contents config number entries ≡ false)
OpenFails open_fault.Memory config number entries =
    (is_open_shape config number ≡ true) × (are_contents config number entries ≡ true)
