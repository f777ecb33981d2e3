-- A stripe that is made empty in place.
--     reached_empty      one that opens with no entry, and in which nothing has happened, is as every stripe is
--     state-restarted    what its fields mean then
--     sound-restarted    its fields are sound then
use Rattle.std.proofs.Common.{◌≡◌, ◌+◌, ◌*◌, ℕ, List, [], false, length, count_by, Ok, refl, sym, ap, ◌∙◌, subst, arith}
use Rattle.jc_types.specs.declared.config.Config.{Config}
use Rattle.jc_types.specs.declared.limits.TheConstants.{STEP_PLACES, HIT_PLACES}
use Rattle.jc_types.specs.Limits.{check}
use Rattle.jc_model.specs.Cache.{Bytes}
use Rattle.jc_model.specs.Statistics.{statistics_of}
use Rattle.jc_entries.specs.ByUse.{ByUse}
use Rattle.jc_history.specs.Past.{Past}
use Rattle.jc_reserve.specs.Table.{Table}
use Rattle.jc_inflight.specs.declared.joiner.Joiner.{Joiner}
use Rattle.jc_outside.specs.declared.done.Origin.{Origin}
use Rattle.jc_stripe.specs.declared.stripe.Stripe.TheInside.{Inside}
use Rattle.jc_stripe.specs.declared.ticket.Reservation.{Reservation}
use Rattle.jc_stripe.specs.Inside.{IsStripe, state_of}
use Rattle.jc_stripe.specs.Life.{Life}
use Rattle.jc_stripe.specs.Occurrences.{occurrences}
use Rattle.jc_stripe.specs.OrderOfUse.{by_use}
use Rattle.jc_stripe.specs.Reached.{IsReached}
use Rattle.jc_stripe.specs.Reopening.{opened_stripe}
use Rattle.jc_inflight.specs.Joining.{waits}
use Rattle.jc_stripe.proofs.Tables.{reached_start}

reached_empty : (config : Config) (origin : Origin) (number : ℕ) → check config ≡ Ok tt → IsReached (opened_stripe config origin number [])
reached_empty config origin number fits = reached_start (opened_stripe config origin number []) (record {
  config_fits = fits;
  ended = refl;
  once = refl;
  own = refl;
  few = omega arith;
  cache = refl;
  reservations = refl;
  joiners = refl;
  history = refl;
  marked = refl;
})

-- what each part of it is then
pub record IsEmptied (i : Inside) (entries : ByUse) (table : Table Reservation) (joiners : List Joiner) (history : Past) (life : Life) : Type 0 where
  pub entries_are : entries ≡ record { capacity = i.entries.capacity; list = [] }
  pub table_is : table ≡ record { held = []; next = 0 }
  pub joiners_are : joiners ≡ []
  pub history_is : history ≡ record { limit = i.history.limit; events = []; promised = 0; statistics = statistics_of [] }
  pub life_is : life ≡ record { opening = entries.list; ended = [] }

life_from : (i : Inside) (entries : ByUse) (life : Life) → entries ≡ record { capacity = i.entries.capacity; list = [] } → life ≡ record { opening = entries.list; ended = [] } → life ≡ record { opening = []; ended = [] }
life_from i entries life e l = l ∙ ap (λ (x : ByUse). record { opening = x.list; ended = [] }) e

pub state-restarted : (i : Inside) (entries : ByUse) (table : Table Reservation) (joiners : List Joiner) (history : Past) (life : Life) (marks : List Bytes) → marks ≡ [] → IsEmptied i entries table joiners history life
    → state_of (record i { entries = entries; reservations = table; joiners = joiners; history = history; lives = false; life = life; marks = marks; is_shut = false }) ≡ opened_stripe i.config i.origin i.number []
state-restarted i entries table joiners history life marks none is =
    let l : life ≡ record { opening = []; ended = [] } = life_from i entries life is.entries_are is.life_is in
    λ k. state_of (record i { entries = is.entries_are k; reservations = is.table_is k; joiners = is.joiners_are k; history = is.history_is k; lives = false; life = l k; marks = none k; is_shut = false })

pub sound-restarted : (i : Inside) (entries : ByUse) (table : Table Reservation) (joiners : List Joiner) (history : Past) (life : Life) (marks : List Bytes) → marks ≡ [] → IsStripe i → i.reservations.held ≡ [] → IsEmptied i entries table joiners history life
    → IsStripe (record i { entries = entries; reservations = table; joiners = joiners; history = history; lives = false; life = life; marks = marks; is_shut = false })
sound-restarted i entries table joiners history life marks unmarked sound none is =
    let l : life ≡ record { opening = []; ended = [] } = life_from i entries life is.entries_are is.life_is in
    record {
      capacity = ap (λ (e : ByUse). e.capacity) is.entries_are ∙ sound.capacity;
      limit = ap (λ (p : Past). p.limit) is.history_is ∙ sound.limit;
      by_use = ap (λ (e : ByUse). e.list) is.entries_are ∙ sym (λ k. by_use ((l k).opening) ((is.history_is k).events));
      promised = ap (λ (p : Past). p.promised) is.history_is ∙ sym (λ k. STEP_PLACES * length (is.table_is k).held + HIT_PLACES * count_by waits (is.joiners_are k));
      counted = ap (λ (p : Past). p.statistics) is.history_is ∙ sym (λ k. statistics_of (occurrences ((l k).opening) ((is.history_is k).events)));
      boxes = ap (λ (t : Table Reservation). i.boxes + length t.held) is.table_is ∙ sym (ap (λ (rs : List Reservation). i.boxes + length rs) none) ∙ sound.boxes;
      state = subst IsReached (sym (state-restarted i entries table joiners history life marks unmarked is)) (reached_empty i.config i.origin i.number sound.state.config_fits);
    }
