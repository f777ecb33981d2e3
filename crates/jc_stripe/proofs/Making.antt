-- What each phase makes of a stripe's fields keeps them sound.
use Rattle.std.proofs.Common.{MatchBool, ◌≡◌, ◌≤◌, ◌<◌, ◌+◌, ◌-◌, ◌||◌, ℕ, suc, List, [], ◌∷◌, length, count_by, Bool, true, false, cond, not, IsTrue, ◌↔◌, Some, None, find, refl, sym, ap, ◌∙◌, subst, arith, AllPairs, All, if◌then◌else◌}
use Rattle.std.specs.List.{list_any, list_all}
use Rattle.std.specs.Bool.{OnTrue}
use Rattle.std.specs.Cmp.Lexicographic.{texts_ties}
use Rattle.std.proofs.lemmas.List.{length-append}
use Rattle.std.proofs.lemmas.Bool.{and_parts}
use Rattle.jc_model.specs.declared.event.Op.{Op}
use Rattle.jc_model.specs.Cache.{Bytes, entry_at}
use Rattle.jc_model.proofs.CallerLemmas.{same_key}
use Rattle.jc_history.specs.Past.{Past, places_used, promise, unpromise}
use Rattle.jc_reserve.specs.Table.{Table}
use Rattle.jc_reserve.specs.Reserving.{CanReserve}
use Rattle.jc_reserve.specs.Reserving as reserving
use Rattle.jc_inflight.specs.declared.joiner.Joiner.{Joiner}
use Rattle.jc_inflight.specs.declared.joiner.JoinState.TheVariants.{Waiting}
use Rattle.jc_inflight.specs.Joining.{has_joined, waits_for, waits}
use Rattle.jc_inflight.specs.Joining as joining
use Rattle.jc_inflight.proofs.CallerLemmas.{waiting-after_dissolve}
use Rattle.jc_types.specs.declared.limits.TheConstants.{STEP_PLACES, HIT_PLACES, JOINERS_MAX}
use Rattle.jc_inflight.specs.Dissolving.{after_dissolve}
use Rattle.jc_stripe.specs.declared.ticket.First.{First}
use Rattle.jc_stripe.specs.declared.stripe.Stripe.TheInside.{Inside}
use Rattle.jc_stripe.specs.Tickets.{JoinClaim}
use Rattle.jc_stripe.specs.State.{State, is_key, is_reserved, promised, new_reservation, with_reservation, without_key, without_mark}
use Rattle.jc_stripe.specs.OrderOfUse.{by_use}
use Rattle.jc_stripe.specs.Refusals.{first_refusal, first_asked, needs_reservation, load_joined, needs_free_key, places_needed}
use Rattle.jc_stripe.specs.Phases.{MayBegin, is_other_join, with_joiner, after_withdrawal}
use Rattle.jc_stripe.specs.Reached.{IsReached}
use Rattle.jc_model.specs.Statistics.{statistics_of}
use Rattle.jc_stripe.specs.Occurrences.{occurrences}
use Rattle.jc_stripe.specs.Inside.{IsStripe, state_of}
use Rattle.jc_stripe.proofs.Beside.{belongs_to_no_other}
use Rattle.jc_stripe.proofs.Inner.{used_of}
use Rattle.jc_stripe.proofs.Refusing.{not_refused, few_out, was_free, ticket_places, next_below, join_places, few_joined}
use Rattle.jc_stripe.proofs.Tables.{reached_reserved, reached_joined}
use Rattle.jc_stripe.proofs.Numbering.{first_pairs, later_pairs, without_none}
use Rattle.jc_stripe.proofs.Joining.{count-push}
use Rattle.jc_types.specs.declared.caller.Caller.{Caller}
use Rattle.jc_stripe.specs.declared.ticket.Reservation.{Reservation}

-- 1. A reservation.

-- a call that needs a reservation and isn't refused can have it
pub can_reserve : (i : Inside) (s : State) (caller : Caller) (key : Bytes) (op : Op) → state_of i ≡ s → first_refusal s caller key op ≡ None → needs_reservation s key op ≡ true → CanReserve (λ (x : Reservation). x.key) i.reservations key
can_reserve i s caller key op view none needs =
    let n : length i.reservations.held ≡ length s.reservations = ap (λ (x : State). length x.reservations) view in
    let few = few_out s caller key op none needs in
    let below = next_below s caller.call (places_needed (needs_free_key s key op)) (not_refused s caller key op none).room in
    let next : i.reservations.next ≡ s.next = ap (λ (x : State). x.next) view in
    record {
      room = omega arith;
      free = ap (λ (x : State). is_reserved x key) view ∙ was_free s caller key op none needs;
      number = omega arith;
    }

-- the state with the key reserved
pub state-reserved : (i : Inside) (caller : Caller) (key : Bytes) (op : Op) (first : First) (table : Table Reservation) (history : Past) (boxes : ℕ)
    → table ≡ reserving.table_with i.reservations (new_reservation (state_of i) caller key op first) → history ≡ promise STEP_PLACES i.history
    → state_of (record i { reservations = table; history = history; boxes = boxes }) ≡ with_reservation (state_of i) (new_reservation (state_of i) caller key op first)
state-reserved i caller key op first table history boxes t h =
    λ k. state_of (record i { reservations = t k; history = h k; boxes = boxes })

pub sound-reserved : (i : Inside) (caller : Caller) (key : Bytes) (op : Op) (first : First) (table : Table Reservation) (history : Past) (boxes : ℕ) → IsStripe i
    → boxes + 1 ≡ i.boxes → table ≡ reserving.table_with i.reservations (new_reservation (state_of i) caller key op first) → history ≡ promise STEP_PLACES i.history → IsReached (with_reservation (state_of i) (new_reservation (state_of i) caller key op first))
    → IsStripe (record i { reservations = table; history = history; boxes = boxes })
sound-reserved i caller key op first table history boxes sound b t h reached =
    let state = state-reserved i caller key op first table history boxes t h in
    let longer : length table.held ≡ length i.reservations.held + 1 = ap (λ (x : Table Reservation). length x.held) t ∙ length-append i.reservations.held (new_reservation (state_of i) caller key op first ∷ []) in
    let were = sound.boxes in
    let kept : history.promised ≡ i.history.promised + STEP_PLACES = ap (λ (p : Past). p.promised) h in
    let more : promised (with_reservation (state_of i) (new_reservation (state_of i) caller key op first)) ≡ promised (state_of i) + STEP_PLACES =
    let n = length-append i.reservations.held (new_reservation (state_of i) caller key op first ∷ []) in omega arith in
    record {
      capacity = sound.capacity;
      limit = ap (λ (p : Past). p.limit) h ∙ sound.limit;
      by_use = sound.by_use ∙ ap (λ (p : Past). by_use i.life.opening p.events) (sym h);
      counted = ap (λ (p : Past). p.statistics) h ∙ sound.counted ∙ ap (λ (p : Past). statistics_of (occurrences i.life.opening p.events)) (sym h);
      promised = kept ∙ ap (λ n. n + STEP_PLACES) sound.promised ∙ sym more ∙ ap promised (sym state);
      boxes = omega arith;
      state = subst IsReached (sym state) reached;
    }

-- 2. A join.

-- a call that may begin hasn't joined
pub not_joined : (caller : Caller) (key : Bytes) (js : List Joiner) → list_all (is_other_join caller key) js ≡ true → has_joined caller key js ≡ false
not_joined caller key [] h = refl
not_joined caller key (j ∷ js) h =
    let parts = and_parts (is_other_join caller key j) (list_all (is_other_join caller key) js) h in
    ap (λ b. b || has_joined caller key js) (belongs_to_no_other caller key j parts.0) ∙ not_joined caller key js parts.1

pub sound-joined : (i : Inside) (caller : Caller) (load : ℕ) (key : Bytes) (js : List Joiner) (history : Past) → IsStripe i → js ≡ joining.joiners_with caller key load i.joiners → history ≡ promise HIT_PLACES i.history
    → IsReached (with_joiner (state_of i) (record { caller = caller; key = key; load = load })) → IsStripe (record i { joiners = js; history = history })
sound-joined i caller load key js history sound t h reached =
    let join : JoinClaim = record { caller = caller; key = key; load = load } in
    let state : state_of (record i { joiners = js; history = history }) ≡ with_joiner (state_of i) join = λ k. state_of (record i { joiners = t k; history = h k }) in
    let more : promised (with_joiner (state_of i) join) ≡ promised (state_of i) + HIT_PLACES =
    let n = count-push waits i.joiners (record { caller = caller; key = key; load = load; state = Waiting }) refl in omega arith in
    record {
      capacity = sound.capacity;
      limit = ap (λ (p : Past). p.limit) h ∙ sound.limit;
      by_use = sound.by_use ∙ ap (λ (p : Past). by_use i.life.opening p.events) (sym h);
      counted = ap (λ (p : Past). p.statistics) h ∙ sound.counted ∙ ap (λ (p : Past). statistics_of (occurrences i.life.opening p.events)) (sym h);
      promised = ap (λ (p : Past). p.promised) h ∙ ap (λ n. n + HIT_PLACES) sound.promised ∙ sym more ∙ ap promised (sym state);
      boxes = sound.boxes;
      state = subst IsReached (sym state) reached;
    }

-- 3. A withdrawal.

-- one key stands once
none_more : (r : Reservation) (rs : List Reservation) → All (λ later. is_key r.key later ≡ false) rs → list_any (is_key r.key) rs ≡ false
none_more r [] h = refl
none_more r (x ∷ xs) h =
    ap (λ b. b || list_any (is_key r.key) xs) (h 0 x (omega arith)) ∙ none_more r xs (λ k d within. h (suc k) d (omega arith))

-- exactly one reservation is less
pub one_exactly : (key : Bytes) (rs : List Reservation) (r : Reservation) → AllPairs (λ x later. is_key x.key later ≡ false) rs → find (is_key key) rs ≡ Some r → length (without_key key rs) + 1 ≡ length rs
one_exactly key [] r once h = cc
one_exactly key (x ∷ xs) r once h =
    elim (is_key key x) as (λ b. is_key key x ≡ b → cond b (Some x) (find (is_key key) xs) ≡ Some r → length (cond (not b) (x ∷ without_key key xs) (without_key key xs)) + 1 ≡ suc (length xs)) [
      | true ↦ λ e h.
          let is : key ≡ x.key = same_key key x.key (sym (texts_ties key x.key) ∙ e) in
          let none : list_any (is_key key) xs ≡ false = ap (λ k. list_any (is_key k) xs) is ∙ none_more x xs (first_pairs (λ y later. is_key y.key later ≡ false) x xs once) in
          let same : length (without_key key xs) ≡ length xs = ap length (without_none key xs none) in
          omega arith
      | false ↦ λ e h. let rest = one_exactly key xs r (later_pairs (λ y later. is_key y.key later ≡ false) x xs once) h in omega arith
    ] refl h

-- the state with the reservation given back
pub state-withdrawn : (i : Inside) (r : Reservation) (table : Table Reservation) (js : List Joiner) (history : Past) (boxes n : ℕ) (marks : List Bytes) → table ≡ reserving.table_without (λ (x : Reservation). x.key) i.reservations r.key → js ≡ after_dissolve r.number i.joiners
    → history ≡ unpromise n i.history → marks ≡ without_mark r.key i.marks → state_of (record i { reservations = table; joiners = js; history = history; boxes = boxes; marks = marks }) ≡ after_withdrawal (state_of i) r
state-withdrawn i r table js history boxes n marks t j h m =
    λ k. state_of (record i { reservations = t k; joiners = j k; history = h k; boxes = boxes; marks = m k })

pub sound-withdrawn : (i : Inside) (r : Reservation) (table : Table Reservation) (js : List Joiner) (history : Past) (boxes waiting : ℕ) (marks : List Bytes) → IsStripe i → boxes ≡ i.boxes + 1 → find (is_key r.key) (state_of i).reservations ≡ Some r
    → waiting ≡ count_by (waits_for r.number) i.joiners → table ≡ reserving.table_without (λ (x : Reservation). x.key) i.reservations r.key → js ≡ after_dissolve r.number i.joiners → history ≡ unpromise (STEP_PLACES + waiting) i.history → marks ≡ without_mark r.key i.marks
    → IsReached (after_withdrawal (state_of i) r) → IsStripe (record i { reservations = table; joiners = js; history = history; boxes = boxes; marks = marks })
sound-withdrawn i r table js history boxes waiting marks sound b found w t j h m reached =
    let state = state-withdrawn i r table js history boxes (STEP_PLACES + waiting) marks t j h m in
    let shorter : length table.held ≡ length (without_key r.key (state_of i).reservations) = ap (λ (x : Table Reservation). length x.held) t in
    let were = sound.boxes in
    let one = one_exactly r.key (state_of i).reservations r sound.state.numbered.once found in
    let count = waiting-after_dissolve r.number i.joiners in
    let kept : history.promised ≡ i.history.promised - (STEP_PLACES + waiting) = ap (λ (p : Past). p.promised) h in
    let was = sound.promised in
    let less : history.promised ≡ promised (after_withdrawal (state_of i) r) = omega arith in
    record {
      capacity = sound.capacity;
      limit = ap (λ (p : Past). p.limit) h ∙ sound.limit;
      by_use = sound.by_use ∙ ap (λ (p : Past). by_use i.life.opening p.events) (sym h);
      counted = ap (λ (p : Past). p.statistics) h ∙ sound.counted ∙ ap (λ (p : Past). statistics_of (occurrences i.life.opening p.events)) (sym h);
      promised = less ∙ ap promised (sym state);
      boxes = omega arith;
      state = subst IsReached (sym state) reached;
    }

-- what is given back was promised
pub enough_promised : (i : Inside) (r : Reservation) (waiting : ℕ) → IsStripe i → find (is_key r.key) (state_of i).reservations ≡ Some r → waiting ≡ count_by (waits_for r.number) i.joiners → STEP_PLACES + waiting ≤ i.history.promised
enough_promised i r waiting sound found w =
    let one = one_exactly r.key (state_of i).reservations r sound.state.numbered.once found in
    let count = waiting-after_dissolve r.number i.joiners in
    let was = sound.promised in
    omega arith

-- 4. Promises.

-- what was promised, where the places were there
pub promised_so : (n : ℕ) (old new : Past) (fits : Bool) → (IsTrue fits ↔ (places_used old + n ≤ old.limit)) → new ≡ (if fits then promise n old else old) → places_used old + n ≤ old.limit → new ≡ promise n old
promised_so n old new true h e room = e
promised_so n old new false h e room = let t = h.1 room in cc

-- the places that the state has are there
pub room_so : (i : Inside) (n : ℕ) → IsStripe i → length (state_of i).history + promised (state_of i) + n ≤ (state_of i).config.history → places_used i.history + n ≤ i.history.limit
room_so i n sound h =
    let u = used_of i sound in
    let l = sound.limit in
    omega arith

pub reserve_sound : (i : Inside) (caller : Caller) (key : Bytes) (op : Op) (first : First) (table : Table Reservation) (history : Past) (boxes : ℕ) (fits : Bool) → IsStripe i → boxes + 1 ≡ i.boxes → first_refusal (state_of i) caller key op ≡ None
    → needs_reservation (state_of i) key op ≡ true → first_asked i.config op (entry_at (state_of i).cache key) ≡ first → MayBegin (state_of i) caller key
    → table ≡ reserving.table_with i.reservations (new_reservation (state_of i) caller key op first)
    → (IsTrue fits ↔ (places_used i.history + STEP_PLACES ≤ i.history.limit)) → history ≡ (if fits then promise STEP_PLACES i.history else i.history) → IsStripe (record i { reservations = table; history = history; boxes = boxes })
reserve_sound i caller key op first table history boxes fits sound b none needs asks may t f h =
    let places = ticket_places (state_of i) caller key op none needs in
    sound-reserved i caller key op first table history boxes sound b t (promised_so STEP_PLACES i.history history fits f h (room_so i STEP_PLACES sound places))
    (reached_reserved (state_of i) caller key op first sound.state may (few_out (state_of i) caller key op none needs) places asks (was_free (state_of i) caller key op none needs))

-- the state has the reservation
pub reserve_made : (i : Inside) (caller : Caller) (key : Bytes) (op : Op) (first : First) (table : Table Reservation) (history : Past) (boxes : ℕ) (fits : Bool) → IsStripe i → first_refusal (state_of i) caller key op ≡ None
    → needs_reservation (state_of i) key op ≡ true → table ≡ reserving.table_with i.reservations (new_reservation (state_of i) caller key op first)
    → (IsTrue fits ↔ (places_used i.history + STEP_PLACES ≤ i.history.limit)) → history ≡ (if fits then promise STEP_PLACES i.history else i.history)
    → state_of (record i { reservations = table; history = history; boxes = boxes }) ≡ with_reservation (state_of i) (new_reservation (state_of i) caller key op first)
reserve_made i caller key op first table history boxes fits sound none needs t f h =
    state-reserved i caller key op first table history boxes t
    (promised_so STEP_PLACES i.history history fits f h (room_so i STEP_PLACES sound (ticket_places (state_of i) caller key op none needs)))

made : {X : Type 0} (b : Bool) (new more old : X) → IsTrue b → MatchBool b (new ≡ more) (new ≡ old) → new ≡ more
made true new more old t h = h
made false new more old t h = cc

-- so has the table
pub table_made : (i : Inside) (caller : Caller) (key : Bytes) (op : Op) (first : First) (number : ℕ) (b : Bool) (table : Table Reservation) → first_refusal (state_of i) caller key op ≡ None
    → needs_reservation (state_of i) key op ≡ true → number ≡ i.reservations.next → (IsTrue b ↔ CanReserve (λ (x : Reservation). x.key) i.reservations key)
    → MatchBool b (table ≡ reserving.table_with i.reservations (record { caller = caller; key = key; op = op; number = number; first = first })) (table ≡ i.reservations)
    → table ≡ reserving.table_with i.reservations (new_reservation (state_of i) caller key op first)
table_made i caller key op first number b table none needs n can m =
    made b table _ _ (can.1 (can_reserve i (state_of i) caller key op refl none needs)) m
    ∙ (λ k. reserving.table_with i.reservations (record { caller = caller; key = key; op = op; number = n k; first = first }))

pub join_sound : (i : Inside) (caller : Caller) (load : ℕ) (key : Bytes) (op : Op) (js : List Joiner) (history : Past) (fits : Bool) → IsStripe i → first_refusal (state_of i) caller key op ≡ None → load_joined (state_of i) key op ≡ Some load
    → MayBegin (state_of i) caller key → js ≡ joining.joiners_with caller key load i.joiners → (IsTrue fits ↔ (places_used i.history + HIT_PLACES ≤ i.history.limit)) → history ≡ (if fits then promise HIT_PLACES i.history else i.history)
    → IsStripe (record i { joiners = js; history = history })
join_sound i caller load key op js history fits sound none joins may t f h =
    let places = join_places (state_of i) caller key op load none joins in
    sound-joined i caller load key js history sound t (promised_so HIT_PLACES i.history history fits f h (room_so i HIT_PLACES sound places))
    (reached_joined (state_of i) caller key op load sound.state may joins (few_joined (state_of i) caller key op load none joins) places)

-- the join was made
pub join_made : (new old joined : List Joiner) (b : Bool) (n : ℕ) → (IsTrue b ↔ (n < JOINERS_MAX)) → OnTrue b (new ≡ joined) → n < JOINERS_MAX → new ≡ joined
join_made new old joined true n h e room = e
join_made new old joined false n h e room = let t = h.1 room in cc
