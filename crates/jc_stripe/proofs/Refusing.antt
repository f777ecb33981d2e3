-- What is known of a call that is not refused.
use Rattle.std.proofs.Common.{◌≡◌, ◌≤◌, ◌<◌, ◌+◌, ◌||◌, ◌&&◌, ◌⊎◌, inl, inr, subst, ℕ, List, length, Bool, true, false, cond, not, Option, Some, None, is_some, is_none, nat_le, nat_lt, find, refl, sym, ap, ◌∙◌, arith, if◌then◌else◌}
use Rattle.std.specs.List.{list_any}
use Rattle.std.proofs.lemmas.Bool.Decides.{nat_tests}
use Rattle.std.proofs.lemmas.Bool.{and_parts, not-false}
use Rattle.jc_types.specs.declared.caller.Caller.{Caller}
use Rattle.jc_types.specs.declared.config.Config.{Config}
use Rattle.jc_types.specs.declared.limits.TheConstants.{STEP_PLACES, HIT_PLACES, RESERVATIONS_MAX, JOINERS_MAX}
use Rattle.std.proofs.lemmas.Option.{same_Some}
use Rattle.jc_types.specs.Refusals.{is_put_off}
use Rattle.jc_types.specs.declared.refusal.Refusal.{Refusal}
use Rattle.jc_types.specs.declared.refusal.Refusal.TheVariants as refusal
use Rattle.jc_model.specs.declared.event.Op.{Op}
use Rattle.jc_model.specs.declared.event.Op.TheVariants.{Get, ContainsKey}
use Rattle.jc_model.specs.Cache.{Bytes, entry_at}
use Rattle.jc_model.specs.Table.{entry_after, always_if}
use Rattle.jc_model.specs.Group.{nothing_said}
use Rattle.jc_stripe.specs.declared.ticket.First.{First}
use Rattle.jc_stripe.specs.declared.ticket.First.TheVariants.{Nobody, Loader}
use Rattle.jc_stripe.specs.State.{State, is_key, is_reserved, is_barred, reservation_of, promised}
use Rattle.jc_stripe.specs.Refusals.{first_asked, first_by, first_refusal, full_refusal, needs_free_key, may_join, has_room, last_number, load_at, load_joined, needs_reservation, answers_at_once, places_needed, reserves}
use Rattle.jc_stripe.specs.Tickets.{writer_for}
use Rattle.jc_types.proofs.CallerLemmas.{found_any}
use Rattle.jc_stripe.specs.declared.ticket.Reservation.{Reservation}

-- 1. None of the conditions holds.

pub record IsFree (state : State) (caller : Caller) (key : Bytes) (op : Op) : Type 0 where
  pub room : has_room state caller.call (places_needed (needs_free_key state key op)) ≡ true
  pub unbarred : is_barred state key ≡ false
  pub free : is_reserved state key ≡ true → needs_free_key state key op ≡ false
  pub few : needs_reservation state key op ≡ true → nat_le RESERVATIONS_MAX (length state.reservations) ≡ false
  pub few_joined : is_some (load_joined state key op) ≡ true → nat_le JOINERS_MAX (length state.joiners) ≡ false

pick : (why : Refusal) (room busy needs full joins crowded : Bool)
    → (if not room then Some why else (if busy then Some refusal.Busy else (if needs && full then Some refusal.TooManyInFlight else (if joins && crowded then Some refusal.TooManyJoiners else None)))) ≡ None
    → (room ≡ true) × (busy ≡ false) × (needs ≡ true → full ≡ false) × (joins ≡ true → crowded ≡ false)
pick why false busy needs full joins crowded h = cc
pick why true true needs full joins crowded h = cc
pick why true false true true joins crowded h = cc
pick why true false true false true true h = cc
pick why true false true false true false h = (refl, refl, λ t. refl, λ t. refl)
pick why true false true false false crowded h = (refl, refl, λ t. refl, λ t. cc)
pick why true false false full true true h = cc
pick why true false false full true false h = (refl, refl, λ t. cc, λ t. refl)
pick why true false false full false crowded h = (refl, refl, λ t. cc, λ t. cc)

not_busy : (barred there free : Bool) → (barred || (there && free)) ≡ false → (barred ≡ false) × (there ≡ true → free ≡ false)
not_busy true there free h = cc
not_busy false true free h = (refl, λ t. h)
not_busy false false free h = (refl, λ t. cc)

-- neither of two
pub or_neither : (a b : Bool) → (a || b) ≡ false → (a ≡ false) × (b ≡ false)
or_neither true b h = cc
or_neither false b h = (refl, h)

pub not_refused : (state : State) (caller : Caller) (key : Bytes) (op : Op) → first_refusal state caller key op ≡ None → IsFree state caller key op
not_refused state caller key op h =
    let known = pick (full_refusal state caller.call) (has_room state caller.call (places_needed (needs_free_key state key op))) (is_barred state key || (is_reserved state key && needs_free_key state key op)) (needs_reservation state key op)
    (nat_le RESERVATIONS_MAX (length state.reservations)) (is_some (load_joined state key op)) (nat_le JOINERS_MAX (length state.joiners)) h in
    let idle = not_busy (is_barred state key) (is_reserved state key) (needs_free_key state key op) known.1 in
    record { room = known.0; unbarred = idle.0; free = idle.1; few = known.2; few_joined = known.3 }

-- what room is
pub record IsRoom (state : State) (call needed : ℕ) : Type 0 where
  pub places : nat_le (length state.history + promised state + needed) state.config.history ≡ true
  pub early : nat_lt call last_number ≡ true
  pub next : nat_lt state.next last_number ≡ true

pub room_parts : (state : State) (call needed : ℕ) → has_room state call needed ≡ true → IsRoom state call needed
room_parts state call needed h =
    let places = nat_le (length state.history + promised state + needed) state.config.history in
    let below = and_parts (places && nat_lt call last_number) (nat_lt state.next last_number) h in
    let fits = and_parts places (nat_lt call last_number) below.0 in
    record { places = fits.0; early = fits.1; next = below.1 }

-- the places are free
pub roomy : (state : State) (call needed : ℕ) → has_room state call needed ≡ true → length state.history + promised state + needed ≤ state.config.history
roomy state call needed h = le_of _ _ (room_parts state call needed h).places
  where
    le_of : (m n : ℕ) → nat_le m n ≡ true → m ≤ n
    le_of m n h = grind (arith, nat_tests)

pub next_below : (state : State) (call needed : ℕ) → has_room state call needed ≡ true → state.next < last_number
next_below state call needed h = lt_of _ _ (room_parts state call needed h).next
  where
    lt_of : (m n : ℕ) → nat_lt m n ≡ true → m < n
    lt_of m n h = grind (arith, nat_tests)

pub fewer_than : (m n : ℕ) → nat_le m n ≡ false → n < m
fewer_than m n h = grind (arith, nat_tests)

-- 2. Who answers at once, and who joins.

-- if there is nothing to write, nobody is asked
pub asks_none : (b : Bool) → writer_for (cond b None None) ≡ Nobody
asks_none true = refl
asks_none false = refl

-- a `Get` that answers at once asks nobody
get_asks : (read write : Bool) (entry : Option Bytes) → (is_some entry || not read) ≡ true → first_by (always_if (read && is_none entry)) (cond write None None) ≡ Nobody
get_asks true write (Some x) h = asks_none write
get_asks true write None h = cc
get_asks false write entry h = asks_none write

-- a call that answers at once asks nobody
pub answering_asks : (config : Config) (op : Op) (entry : Option Bytes) → answers_at_once config op entry ≡ true → first_asked config op entry ≡ Nobody
answering_asks config Get entry h = get_asks config.read_through config.write_through entry h
answering_asks config ContainsKey entry h = asks_none config.write_through
answering_asks config op entry h = cc

-- a call that answers at once leaves the entry
pub answering_keeps : (config : Config) (op : Op) (entry : Option Bytes) → answers_at_once config op entry ≡ true → entry_after op entry nothing_said ≡ entry
answering_keeps config Get entry h = refl
answering_keeps config ContainsKey entry h = refl
answering_keeps config op entry h = cc

-- what is known of a call that joins
pub record Joins (state : State) (key : Bytes) (op : Op) (load : ℕ) : Type 0 where
  pub op_is : op ≡ Get
  pub read_through : state.config.read_through ≡ true
  pub missing : entry_at state.cache key ≡ None
  pub loading : load_at (reservation_of state key) ≡ Some load
  pub reserved : is_reserved state key ≡ true
  pub asks : first_asked state.config op (entry_at state.cache key) ≡ Loader

found_there : (o : Option Reservation) (p : Reservation → Bool) (rs : List Reservation) (load : ℕ) → find p rs ≡ o → load_at o ≡ Some load → list_any p rs ≡ true
found_there None p rs load h at = cc
found_there (Some r) p rs load h at = found_any p rs r h

join_if : (may read : Bool) (entry : Option Bytes) (o : Option ℕ) (load : ℕ) → cond (may && read && is_none entry) o None ≡ Some load → (may ≡ true) × (read ≡ true) × (entry ≡ None) × (o ≡ Some load)
join_if true true None o load h = (refl, refl, refl, h)
join_if true true (Some x) o load h = cc
join_if true false entry o load h = cc
join_if false read entry o load h = cc

pub joins_get : (op : Op) → may_join op ≡ true → op ≡ Get
joins_get Get h = refl
joins_get op h = cc

get_loads : (read write : Bool) (entry : Option Bytes) → read ≡ true → entry ≡ None → first_by (always_if (read && is_none entry)) (cond write None None) ≡ Loader
get_loads true write None r e = refl
get_loads true write (Some x) r e = cc
get_loads false write entry r e = cc

pub joins_known : (state : State) (key : Bytes) (op : Op) (load : ℕ) → load_joined state key op ≡ Some load → Joins state key op load
joins_known state key op load h =
    let known = join_if (may_join op) state.config.read_through (entry_at state.cache key) (load_at (reservation_of state key)) load h in
    let is = joins_get op known.0 in
    record {
      op_is = is;
      read_through = known.1;
      missing = known.2;
      loading = known.3;
      reserved = found_there (reservation_of state key) (is_key key) state.reservations load refl known.3;
      asks = ap (λ o. first_asked state.config o (entry_at state.cache key)) is ∙ get_loads state.config.read_through state.config.write_through (entry_at state.cache key) known.1 known.2;
    }

pub joins_some : (o : Option ℕ) → is_some o ≡ true → (load : ℕ) × (o ≡ Some load)
joins_some None h = cc
joins_some (Some load) h = (load, refl)

either : (a b : Bool) → (a || b) ≡ true → (a ≡ false → b ≡ true)
either true b h e = cc
either false b h e = h

is_loader : (first : First) → first ≡ Nobody → first ≡ Loader → (A : Type 0) → A
is_loader first n l A = let e : Nobody ≡ Loader = sym n ∙ l in cc

pub split : (b : Bool) (A : Type 0) → (b ≡ true → A) → (b ≡ false → A) → A
split true A f g = f refl
split false A f g = g refl

-- a call that asks nobody and does not need its key free answers at once
pub alone_passes : (state : State) (key : Bytes) (op : Op) → first_asked state.config op (entry_at state.cache key) ≡ Nobody → needs_free_key state key op ≡ false → answers_at_once state.config op (entry_at state.cache key) ≡ true
alone_passes state key op nobody free =
    split (answers_at_once state.config op (entry_at state.cache key)) _ (λ e. e) (λ e.
    let joined = joins_some (load_joined state key op) (either (answers_at_once state.config op (entry_at state.cache key)) (is_some (load_joined state key op)) (not-false _ free) e) in
    is_loader _ nobody (joins_known state key op joined.0 joined.1).asks _)

-- a call that asks nobody needs its key free unless it answers at once
pub alone_needs : (state : State) (key : Bytes) (op : Op) → first_asked state.config op (entry_at state.cache key) ≡ Nobody → needs_free_key state key op ≡ not (answers_at_once state.config op (entry_at state.cache key))
alone_needs state key op nobody =
    by (load_joined state key op) (λ load joins. is_loader _ nobody (joins_known state key op load joins).asks _)
  where
    or_false : (b : Bool) → (b || false) ≡ b
    or_false true = refl
    or_false false = refl

    by : (o : Option ℕ) → ((load : ℕ) → o ≡ Some load → ⊥) → not (answers_at_once state.config op (entry_at state.cache key) || is_some o) ≡ not (answers_at_once state.config op (entry_at state.cache key))
    by None h = ap not (or_false _)
    by (Some load) h = absurd (h load refl)

-- a call that needs a reservation needs its key free
pub needing_stops : (state : State) (key : Bytes) (op : Op) → needs_reservation state key op ≡ true → needs_free_key state key op ≡ true
needing_stops state key op needs =
    let parts = and_parts (reserves (first_asked state.config op (entry_at state.cache key))) (is_none (load_joined state key op)) needs in
    both_not (answers_at_once state.config op (entry_at state.cache key)) (load_joined state key op)
    (λ e. let asks = answering_asks state.config op (entry_at state.cache key) e in let f : reserves Nobody ≡ true = ap reserves (sym asks) ∙ parts.0 in cc) parts.1
  where
    both_not : (a : Bool) (o : Option ℕ) → (a ≡ true → ⊥) → is_none o ≡ true → not (a || is_some o) ≡ true
    both_not true o h e = absurd (h refl)
    both_not false None h e = refl
    both_not false (Some x) h e = cc

pub clash : (b : Bool) → b ≡ true → b ≡ false → ⊥
clash true g h = cc
clash false g h = cc

-- a key that gets a ticket was free
pub was_free : (s : State) (caller : Caller) (key : Bytes) (op : Op) → first_refusal s caller key op ≡ None → needs_reservation s key op ≡ true → is_reserved s key ≡ false
was_free s caller key op none needs =
    split (is_reserved s key) _ (λ there. absurd (clash (needs_free_key s key op) (needing_stops s key op needs) ((not_refused s caller key op none).free there))) (λ e. e)

-- three places are free for it
pub ticket_places : (s : State) (caller : Caller) (key : Bytes) (op : Op) → first_refusal s caller key op ≡ None → needs_reservation s key op ≡ true → length s.history + promised s + STEP_PLACES ≤ s.config.history
ticket_places s caller key op none needs =
    let room = roomy s caller.call (places_needed (needs_free_key s key op)) (not_refused s caller key op none).room in
    let e : places_needed (needs_free_key s key op) ≡ STEP_PLACES = ap places_needed (needing_stops s key op needs) in
    omega arith

-- and fewer than 64 reservations are out
pub few_out : (s : State) (caller : Caller) (key : Bytes) (op : Op) → first_refusal s caller key op ≡ None → needs_reservation s key op ≡ true → length s.reservations < RESERVATIONS_MAX
few_out s caller key op none needs = fewer_than RESERVATIONS_MAX (length s.reservations) ((not_refused s caller key op none).few needs)

-- of a call that joins: a place, and fewer than 64 joiners
pub join_places : (s : State) (caller : Caller) (key : Bytes) (op : Op) (load : ℕ) → first_refusal s caller key op ≡ None → load_joined s key op ≡ Some load → length s.history + promised s + HIT_PLACES ≤ s.config.history
join_places s caller key op load none joins =
    let room = roomy s caller.call (places_needed (needs_free_key s key op)) (not_refused s caller key op none).room in
    let e : places_needed (needs_free_key s key op) ≡ HIT_PLACES = ap (λ b. places_needed (not b)) (ap (λ o. answers_at_once s.config op (entry_at s.cache key) || is_some o) joins ∙ or_true (answers_at_once s.config op (entry_at s.cache key))) in
    omega arith
  where
    or_true : (b : Bool) → (b || true) ≡ true
    or_true true = refl
    or_true false = refl

pub few_joined : (s : State) (caller : Caller) (key : Bytes) (op : Op) (load : ℕ) → first_refusal s caller key op ≡ None → load_joined s key op ≡ Some load → length s.joiners < JOINERS_MAX
few_joined s caller key op load none joins = fewer_than JOINERS_MAX (length s.joiners) ((not_refused s caller key op none).few_joined (ap is_some joins))

-- a call that asks somebody and does not join needs a reservation
pub asking_needs : (s : State) (key : Bytes) (op : Op) (first : First) → load_joined s key op ≡ None → first_asked s.config op (entry_at s.cache key) ≡ first → reserves first ≡ true → needs_reservation s key op ≡ true
asking_needs s key op first alone asks some = λ i. ((λ j. reserves (asks j)) ∙ some) i && is_none (alone i)

-- 3. Which refusal it is.

by_row : (why : Refusal) (full busy flying joining : Bool) (r : Refusal) → (is_put_off why ≡ true) ⊎ (why ≡ refusal.HistoryFull)
    → (if full then Some why else (if busy then Some refusal.Busy else (if flying then Some refusal.TooManyInFlight else (if joining then Some refusal.TooManyJoiners else None)))) ≡ Some r
    → (is_put_off r ≡ true) ⊎ (r ≡ refusal.HistoryFull)
by_row why true busy flying joining r known is = subst (λ (x : Refusal). (is_put_off x ≡ true) ⊎ (x ≡ refusal.HistoryFull)) (same_Some why r is) known
by_row why false true flying joining r known is = inl (ap is_put_off (sym (same_Some refusal.Busy r is)))
by_row why false false true joining r known is = inl (ap is_put_off (sym (same_Some refusal.TooManyInFlight r is)))
by_row why false false false true r known is = inl (ap is_put_off (sym (same_Some refusal.TooManyJoiners r is)))
by_row why false false false false r known is = cc

without_room : (again : Bool) → let why = if again then refusal.Busy else refusal.HistoryFull in (is_put_off why ≡ true) ⊎ (why ≡ refusal.HistoryFull)
without_room true = inl refl
without_room false = inr refl

pub put_off_or_full : (state : State) (caller : Caller) (key : Bytes) (op : Op) (r : Refusal) → first_refusal state caller key op ≡ Some r → (is_put_off r ≡ true) ⊎ (r ≡ refusal.HistoryFull)
put_off_or_full state caller key op r is =
    by_row (full_refusal state caller.call) _ _ _ _ r (without_room (state.lives && nat_lt caller.call last_number && nat_lt state.next last_number)) is

pub lacks_room : (state : State) (caller : Caller) (key : Bytes) (op : Op) → first_refusal state caller key op ≡ Some refusal.HistoryFull → has_room state caller.call (places_needed (needs_free_key state key op)) ≡ false
lacks_room state caller key op is = by_other _ (full_refusal state caller.call) _ _ _ is
  where
    by_other : (room : Bool) (why : Refusal) (busy flying joining : Bool)
        → (if not room then Some why else (if busy then Some refusal.Busy else (if flying then Some refusal.TooManyInFlight else (if joining then Some refusal.TooManyJoiners else None)))) ≡ Some refusal.HistoryFull → room ≡ false
    by_other false why busy flying joining is = refl
    by_other true why true flying joining is = let bad : Some refusal.Busy ≡ Some refusal.HistoryFull = is in cc
    by_other true why false true joining is = let bad : Some refusal.TooManyInFlight ≡ Some refusal.HistoryFull = is in cc
    by_other true why false false true is = let bad : Some refusal.TooManyJoiners ≡ Some refusal.HistoryFull = is in cc
    by_other true why false false false is = let bad : None ≡ Some refusal.HistoryFull = is in cc

-- a call that is not refused is not the last one
pub call_below : (state : State) (caller : Caller) (key : Bytes) (op : Op) → first_refusal state caller key op ≡ None → nat_lt caller.call last_number ≡ true
call_below state caller key op none = (room_parts state caller.call (places_needed (needs_free_key state key op)) (not_refused state caller key op none).room).early

-- where a full history may end, only a number's end is a full history
pub ends_numbers : (state : State) (caller : Caller) (key : Bytes) (op : Op) → state.lives ≡ true → first_refusal state caller key op ≡ Some refusal.HistoryFull → (nat_lt caller.call last_number && nat_lt state.next last_number) ≡ false
ends_numbers state caller key op lives is = by_end state.lives (nat_lt caller.call last_number) (nat_lt state.next last_number) _ _ _ _ lives is
  where
    by_end : (lives early next room busy flying joining : Bool) → lives ≡ true
        → (if not room then Some (if lives && early && next then refusal.Busy else refusal.HistoryFull) else (if busy then Some refusal.Busy else (if flying then Some refusal.TooManyInFlight else (if joining then Some refusal.TooManyJoiners else None)))) ≡ Some refusal.HistoryFull
        → (early && next) ≡ false
    by_end false early next room busy flying joining alive is = cc
    by_end true false next room busy flying joining alive is = refl
    by_end true true false room busy flying joining alive is = refl
    by_end true true true false busy flying joining alive is = let bad : Some refusal.Busy ≡ Some refusal.HistoryFull = is in cc
    by_end true true true true true flying joining alive is = let bad : Some refusal.Busy ≡ Some refusal.HistoryFull = is in cc
    by_end true true true true false true joining alive is = let bad : Some refusal.TooManyInFlight ≡ Some refusal.HistoryFull = is in cc
    by_end true true true true false false true alive is = let bad : Some refusal.TooManyJoiners ≡ Some refusal.HistoryFull = is in cc
    by_end true true true true false false false alive is = let bad : None ≡ Some refusal.HistoryFull = is in cc
