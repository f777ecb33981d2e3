-- The meaning of a stripe's fields, and their invariant. Callers see the state alone. No contract of a public function cites this.
--     state_of    the state that the fields mean
--     IsStripe    entries and history have the sizes of the stripe's config, the entries are in the order of use, the places that
--                 are promised are the reserved ones, the occurrences are counted, there is a free box for each ticket that may
--                 still come, and the state is reached
use Rattle.std.specs.Prelude.{◌≡◌, ◌+◌, length}
use Rattle.std.specs.FinMap.{from_entries}
use Rattle.jc_types.specs.declared.limits.TheConstants.{RESERVATIONS_MAX}
use Rattle.jc_stripe.specs.State.{State, promised}
use Rattle.jc_model.specs.Statistics.{statistics_of}
use Rattle.jc_stripe.specs.OrderOfUse.{by_use}
use Rattle.jc_stripe.specs.Occurrences.{occurrences}
use Rattle.jc_stripe.specs.Reached.{IsReached}
use Rattle.jc_stripe.specs.declared.stripe.Stripe.TheInside.{Inside}

abbrev pub state_of : Inside → State
state_of s =
    record {
      config = s.config;
      stripe = s.number;
      origin = s.origin;
      lives = s.lives;
      ended = s.life.ended;
      opening = s.life.opening;
      cache = from_entries s.entries.list;
      reservations = s.reservations.held;
      joiners = s.joiners;
      history = s.history.events;
      next = s.reservations.next;
      marked = s.marks;
      shut = s.is_shut;
    }

pub record IsStripe (s : Inside) : Type 0 where
  pub capacity : s.entries.capacity ≡ s.config.capacity
  pub limit : s.history.limit ≡ s.config.history
  pub by_use : s.entries.list ≡ by_use s.life.opening s.history.events
  pub promised : s.history.promised ≡ promised (state_of s)
  pub counted : s.history.statistics ≡ statistics_of (occurrences s.life.opening s.history.events)
  pub boxes : s.boxes + length s.reservations.held ≡ RESERVATIONS_MAX
  pub state : IsReached (state_of s)
