use Rattle.jc_types.specs.declared.limits.TheConstants.{STEP_PLACES, HIT_PLACES, RESERVATIONS_MAX}
use Rattle.jc_types.specs.Limits.{check}
use Rattle.std.proofs.Common.{◌≡◌, ◌≤◌, ◌==◌, [], true, false, Ok, refl, ap, ◌∙◌, sym, length, count_by, ◌*◌, ◌+◌, arith, subst}
use Rattle.std.specs.List.{list_all}
use Rattle.jc_model.specs.Listed.{has_distinct_keys}
use Rattle.jc_types.specs.Stripes.{stripe_of}
use Rattle.jc_history.specs.Past.{Past}
use Rattle.jc_reserve.specs.Table.{Table}
use Rattle.jc_stripe.specs.declared.stripe.Stripe.TheInside.{Inside}
use Rattle.jc_stripe.specs.declared.ticket.Reservation.{Reservation}
use Rattle.jc_model.specs.Statistics.{statistics_of}
use Rattle.jc_stripe.specs.Occurrences.{occurrences}
use Rattle.jc_stripe.specs.Inside.{state_of}
use Rattle.jc_stripe.specs.Life.{Life}
use Rattle.jc_stripe.specs.OrderOfUse.{by_use}
use Rattle.jc_stripe.specs.Reached.{IsReached}
use Rattle.jc_inflight.specs.Joining.{waits}
use Rattle.jc_stripe.proofs.Tables.{reached_start}
use Rattle.jc_stripe.proofs.stripe.Stripe.make.Goals as goal

opened : (s : Inside) → check s.config ≡ Ok tt → has_distinct_keys s.entries.list ≡ true → length s.entries.list ≤ s.config.capacity → list_all (λ entry. stripe_of entry.0 s.config.stripes == s.number) s.entries.list ≡ true
    → s.reservations.held ≡ [] → s.joiners ≡ [] → s.history.events ≡ [] → s.marks ≡ [] → s.life ≡ record { opening = s.entries.list; ended = [] } → IsReached (state_of s)
opened s fits once few own reservations joiners history marks life =
    let P : Life → Type 0 = λ l. IsReached (record (state_of s) { ended = l.ended; opening = l.opening }) in
    subst P (sym life) (reached_start (record (state_of s) { ended = []; opening = s.entries.list }) (record {
      config_fits = fits;
      ended = refl;
      once = once;
      own = own;
      few = few;
      cache = refl;
      reservations = reservations;
      joiners = joiners;
      history = history;
      marked = marks;
    }))

pub invariant_of-result : goal.invariant_of-result
invariant_of-result c =
    let table = c.in_ok-reservations.ensures in
    let joiners = c.in_ok-joiners.ensures in
    let history = c.in_ok-history.ensures in
    let life = c.new-life.ensures in
    let valid = c.capacity.ensures.valid in
    let bounded = valid.bounded in
    record {
      capacity = c.requires.capacity;
      limit = ap (λ (h : Past). h.limit) history;
      by_use = sym (λ k. by_use ((life k).opening) ((history k).events));
      promised = ap (λ (h : Past). h.promised) history ∙ sym (λ i. STEP_PLACES * length (table i).held + HIT_PLACES * count_by waits (joiners i));
      counted = ap (λ (h : Past). h.statistics) history ∙ sym (λ k. statistics_of (occurrences ((life k).opening) ((history k).events)));
      boxes = ap (λ n. n + length c.in_ok-reservations.reservations.held) c.in_ok-boxes.ensures ∙ ap (λ (t : Table Reservation). RESERVATIONS_MAX + length t.held) table;
      state = opened (record { config = c.args.config.now; number = c.args.number; origin = c.args.origin; entries = c.args.entries; reservations = c.in_ok-reservations.reservations; boxes = c.in_ok-boxes.boxes; joiners = c.in_ok-joiners.joiners; history = c.in_ok-history.history; lives = false; life = c.new-life.result; marks = c.in_ok-marks.marks; is_shut = false }) c.requires.fits valid.distinct (let e = c.requires.capacity in omega arith) c.requires.own (ap (λ (t : Table Reservation). t.held) table) joiners (ap (λ (h : Past). h.events) history) c.in_ok-marks.ensures life;
    }

pub returns-clause-reached : goal.returns-clause-reached
returns-clause-reached c =
    let valid = c.capacity.ensures.valid in
    let bounded = valid.bounded in
    opened (record { config = c.args.config.now; number = c.args.number; origin = c.args.origin; entries = c.args.entries; reservations = c.in_ok-reservations.reservations; boxes = c.in_ok-boxes.boxes; joiners = c.in_ok-joiners.joiners; history = c.in_ok-history.history; lives = false; life = c.new-life.result; marks = c.in_ok-marks.marks; is_shut = false }) c.requires.fits valid.distinct (let e = c.requires.capacity in omega arith) c.requires.own (ap (λ (t : Table Reservation). t.held) c.in_ok-reservations.ensures) c.in_ok-joiners.ensures
    (ap (λ (h : Past). h.events) c.in_ok-history.ensures) c.in_ok-marks.ensures c.new-life.ensures
