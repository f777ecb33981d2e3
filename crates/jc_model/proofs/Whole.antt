-- The parts of a legal history.
use Rattle.std.proofs.Common.{◌≡◌, ◌==◌, ◌≤◌, List, length, Ok, true, refl}
use Rattle.std.specs.List.{list_all}
use Rattle.std.proofs.lemmas.Bool.{and_parts, and_from}
use Rattle.std.specs.FinMap.{from_entries}
use Rattle.jc_types.specs.declared.config.Config.{Config}
use Rattle.jc_types.specs.Limits.{check}
use Rattle.jc_types.specs.Stripes.{stripe_of}
use Rattle.jc_model.specs.declared.event.Event.{Event}
use Rattle.jc_model.specs.declared.reader.Stage.TheVariants.{Outside}
use Rattle.jc_model.specs.Cache.{Bytes}
use Rattle.jc_model.specs.Listed.{has_distinct_keys}
use Rattle.jc_model.specs.Group.{cache_after_parts}
use Rattle.jc_model.specs.Legal.{Legal, is_of_stripe, in_order}
use Rattle.jc_model.specs.Reader.{first_stripe, are_of_one_stripe, Accepts}
use Rattle.jc_model.proofs.CallerLemmas.{opening_of}
use Rattle.jc_model.proofs.Openings.{opening_few, opening_own, of_first}
use Rattle.jc_model.proofs.Readings.{reads_iff}
use Rattle.jc_model.proofs.Accepting.{accepts_iff}

pub to_legal : (config : Config) (opening : List (Bytes × Bytes)) (events : List Event) → check config ≡ Ok tt → has_distinct_keys opening ≡ true → length opening ≤ config.capacity
    → are_of_one_stripe config.stripes opening events ≡ true → in_order events ≡ true → Accepts config 0 (from_entries opening) Outside events → Legal config opening events
to_legal config opening events fits once few stripe order accepted =
    let cache = from_entries opening in
    let first = first_stripe config.stripes opening events in
    let own = and_parts (list_all (λ e. stripe_of e.0 config.stripes == first) opening) (list_all (is_of_stripe config.stripes first) events) stripe in
    let opens = opening_of config first opening once few own.0 in
    let spells = (reads_iff config cache events).0 ((accepts_iff config cache events opens.few).0 accepted) in
    record {
      config_fits = fits;
      once = once;
      stripe = first;
      opens = opens;
      own = own.1;
      next = cache_after_parts cache spells.parts;
      history = record { parts = spells.parts; spelled = spells.spelled; lawful = spells.lawful; left = refl; order = order };
    }

pub from_legal : (config : Config) (opening : List (Bytes × Bytes)) (events : List Event) → Legal config opening events → Accepts config 0 (from_entries opening) Outside events
from_legal config opening events h =
    let cache = from_entries opening in
    (accepts_iff config cache events h.opens.few).1
    ((reads_iff config cache events).1 (record { parts = h.history.parts; spelled = h.history.spelled; lawful = h.history.lawful }))

pub legal_few : (config : Config) (opening : List (Bytes × Bytes)) (events : List Event) → Legal config opening events → length opening ≤ config.capacity
legal_few config opening events h = opening_few config h.stripe opening h.once h.opens

pub legal_of_one : (config : Config) (opening : List (Bytes × Bytes)) (events : List Event) → Legal config opening events → are_of_one_stripe config.stripes opening events ≡ true
legal_of_one config opening events h =
    of_first config.stripes h.stripe opening events (and_from _ _ (opening_own config h.stripe opening h.opens) h.own)
