-- What a call that has joined another call's load is told when it picks up its answer, as a law over every run of a world.
--     ends_join         a pick-up with this outcome ended its join: it did not come too early
--     is_last_pick_up   an event is the pick-up that ended the call's join of a key
--     ends_load         an event ended a reservation of the load's call and key: by its commit or its withdrawal
--     IsLoadEnd         an event, with its outcome, is the first that did. The load is out when it is joined, so this ended it
--     Resolves          the outcome of a pick-up, by what has become of the load: the answer of the step that committed it, that it
--                       was withdrawn, or that it is still out
--     AnswersJoins      after every list of events, each pick-up is so of the load that the call joined, which asked the loader for
--                       the key
use Rattle.std.specs.Prelude.{◌≡◌, ◌==◌, ◌&&◌, ℕ, List, zip, take, slice_get, Bool, true, false, Option, Some}
use Rattle.std.specs.List.{list_any}
use Rattle.std.specs.Cmp.Lexicographic.{pointwise}
use Rattle.jc_model.specs.Cache.{Bytes}
use Rattle.jc_stripe.specs.Tickets.{asks_loader}
use Rattle.jc_stripe.specs.declared.ticket.Reservation.{Reservation}
use Rattle.jc_world.specs.declared.event.Part.{Part}
use Rattle.jc_world.specs.declared.event.EvictionPlace.{EvictionPlace}
use Rattle.jc_world.specs.declared.event.Stepped.{Stepped}
use Rattle.jc_world.specs.declared.event.WorldEvent.{WorldEvent}
use Rattle.jc_world.specs.declared.event.WorldEvent.TheVariants as event
use Rattle.jc_world.specs.declared.event.Outcome.{Outcome}
use Rattle.jc_world.specs.declared.event.Outcome.TheVariants as outcome
use Rattle.jc_world.specs.declared.event.Shown.{Shown}
use Rattle.jc_world.specs.World.{WorldState, part_of}
use Rattle.jc_world.specs.Events.{not_over}
use Rattle.jc_world.specs.Runs.{is_fit, Step, Run}
use Rattle.jc_world.specs.Headline.{Reaches}

abbrev pub ends_join : Outcome → Bool
ends_join (outcome.PickedUp x) = true
ends_join outcome.Again = true
ends_join o = false

abbrev pub is_last_pick_up : ℕ → Bytes → WorldEvent × Shown → Bool
is_last_pick_up call key (event.PickUp c k, seen) =
    (c == call) && pointwise ◌==◌ key k && ends_join seen.outcome
is_last_pick_up call key (e, seen) = false

-- `shows` are the events since the call joined, each with what it showed, and `load` is the reservation of the load that it joined
abbrev pub ends_load : Reservation → WorldEvent × Shown → Bool
ends_load load (event.Commit call key, seen) =
    is_fit seen.outcome && (call == load.caller.call) && pointwise ◌==◌ load.key key
ends_load load (event.Withdraw call key, seen) =
    is_fit seen.outcome && (call == load.caller.call) && pointwise ◌==◌ load.key key
ends_load load (e, seen) = false

pub record IsLoadEnd (shows : List (WorldEvent × Shown)) (load : Reservation) (at : ℕ)
    (e : WorldEvent) (o : Outcome) : Type 0 where
  pub seen : Shown
  pub there : slice_get shows at ≡ Some (e, seen)
  pub outcome_is : seen.outcome ≡ o
  pub first : list_any (ends_load load) (take at shows) ≡ false

abbrev pub Resolves : WorldState → List (WorldEvent × Shown) → Reservation → Outcome → Type 0
Resolves w shows load (outcome.PickedUp x) =
    (at : ℕ) × (step : Stepped)
    × IsLoadEnd shows load at (event.Commit load.caller.call load.key) (outcome.Stepped step)
    × (step.stripe ≡ x.stripe) × (step.place ≡ x.shared)
Resolves w shows load outcome.Again =
    (at : ℕ) × (evicted : Option EvictionPlace)
    × IsLoadEnd shows load at (event.Withdraw load.caller.call load.key) (outcome.Withdrawn evicted)
Resolves w shows load outcome.Waits =
    (part : Part) × (part_of w load.caller.call load.key ≡ Some part) × (part.reservation ≡ load)
    × (list_any (ends_load load) shows ≡ false)
Resolves w shows load o = ⊥

abbrev pub AnswersJoins : Type 0
AnswersJoins =
    (opening : WorldState) (before between : List WorldEvent)
    (seen_before seen_between : List Shown) (old joined new newer : WorldState)
    (call : ℕ) (key : Bytes) (s : Shown)
    → Reaches opening before seen_before old
    → Step old (event.Start call key) (not_over outcome.Joins) joined
    → Run joined between seen_between new
    → list_any (is_last_pick_up call key) (zip between seen_between) ≡ false
    → Step new (event.PickUp call key) s newer
    → (load : Part) × (part_of old load.reservation.caller.call key ≡ Some load)
    × (asks_loader load.reservation.first ≡ true) × (load.reservation.key ≡ key)
    × Resolves new (zip between seen_between) load.reservation s.outcome
