-- Two sessions meet.
--     got_set, got_other          of a row in which one seat was replaced: that seat, and the others
--     row_set                     a row of seats is kept if one of them has seen more
--     HasRest, rest_set           from a place on a row is as it was, and then from the next one on
--     TellBelow, tell_next, tell_all    what is told at the first stripes, at one more, and at all
--     none_lent                   a seat that was told something has lent nothing
--     refreshed_seen, joined_seen    a seat that was refreshed, and one that was told, have seen what they had seen
--     there_row                   the seat at a place of a row of a session's seats
--     teller_seen, hearer_seen    each seat of a row has seen what it had seen
--     may_stay, teller_may, hearer_may    a session whose seats have seen more may call as before
use Rattle.jc_cache.proofs.Common.{◌≡◌, ◌+◌, ◌<◌, ◌≤◌, ℕ, zero, suc, true, false, Some, IsSome, List, [], ◌∷◌, length, set, get_or, slice_get, refl, sym, ap, subst, subst₂, ◌∙◌, le_refl, arith, same_Some, slice_get_read, slice_get_within, list_all, TableId, Event, is_before_call, State, IsOfSameStripe, Finds, after_give, after_join, after_take, front_note, own_steps_of, View, prefix-refl, same_itself, one_more, Agent, CacheState, HasSeen, HasLent, TellsAt, TellEach, IsSessionSeat, AreSessionSeats, KeepRow, IsSeatAt, MayCall, capped, Session}
use mathlib.Core.List.{IsPrefix}
use mathlib.Core.Logic.{dite}
use native.Mathlib.Decide.{ℕ_discrete}
use Rattle.jc_cache.proofs.Rows.{Seated, locks_of, length_locks, seat_there, lock_there}
use Rattle.jc_cache.proofs.Seats.{set_locks, set_total, seat_stays}

-- 1. Rows in which one seat is replaced.

pub got_set : (xs : List Seated) (i : ℕ) (x y : Seated) → slice_get xs i ≡ Some x → slice_get (set xs i y) i ≡ Some y
got_set [] i x y at = cc
got_set (a ∷ xs) zero x y at = refl
got_set (a ∷ xs) (suc i) x y at = got_set xs i x y at

pub got_other : (xs : List Seated) (i j : ℕ) (y : Seated) → (j ≡ i → ⊥) → slice_get (set xs i y) j ≡ slice_get xs j
got_other [] i j y ne = refl
got_other (a ∷ xs) zero zero y ne = absurd (ne refl)
got_other (a ∷ xs) zero (suc j) y ne = refl
got_other (a ∷ xs) (suc i) zero y ne = refl
got_other (a ∷ xs) (suc i) (suc j) y ne = got_other xs i j y (λ e. ne (ap suc e))

pub row_set : (xs ys : List Seated) (i : ℕ) (y z : Seated) → KeepRow xs ys → slice_get ys i ≡ Some y → z.0 ≡ y.0 → HasSeen y.1 z.1 → KeepRow xs (set ys i z)
row_set xs ys i y z row at lock seen =
    let long : length z.1.own ≡ length y.1.own + 0 = let e = ap length seen.own in omega arith in
    let total = set_total 0 ys i y z at long in
    let was = row.total in
    record { locks = set_locks ys i y z at lock ∙ row.locks; total = omega arith }

abbrev pub HasRest : ℕ → List Seated → List Seated → Type 0
HasRest n xs ys = (i : ℕ) → n ≤ i → slice_get ys i ≡ slice_get xs i

pub rest_set : (xs ys : List Seated) (n : ℕ) (z : Seated) → HasRest n xs ys → HasRest (n + 1) xs (set ys n z)
rest_set xs ys n z rest i le = got_other ys n i z (λ e. omega arith) ∙ rest i (omega arith)

-- 2. What is told at the first stripes.

abbrev pub TellBelow : ℕ → List Seated → List Seated → List Seated → List Seated → Type 0
TellBelow n xs ys xs' ys' = (i : ℕ) (a b a' b' : Seated) → i < n → slice_get xs i ≡ Some a → slice_get ys i ≡ Some b
    → slice_get xs' i ≡ Some a' → slice_get ys' i ≡ Some b' → TellsAt a.1 b.1 a'.1 b'.1

pub tell_next : (xs ys xs' ys' : List Seated) (n : ℕ) (a b a' b' : Seated) → slice_get xs' n ≡ Some a → slice_get ys' n ≡ Some b → HasRest n xs xs' → HasRest n ys ys'
    → TellsAt a.1 b.1 a'.1 b'.1 → TellBelow n xs ys xs' ys' → TellBelow (n + 1) xs ys (set xs' n a') (set ys' n b')
tell_next xs ys xs' ys' n a b a' b' at_a at_b rest_x rest_y tells below i x y x' y' near at_x at_y at_x' at_y' =
    dite (ℕ_discrete i n)
    (λ e.
    let is_x : a ≡ x = same_Some a x (sym at_a ∙ rest_x n (le_refl n) ∙ ap (slice_get xs) (sym e) ∙ at_x) in
    let is_y : b ≡ y = same_Some b y (sym at_b ∙ rest_y n (le_refl n) ∙ ap (slice_get ys) (sym e) ∙ at_y) in
    let is_x' : a' ≡ x' = same_Some a' x' (sym (got_set xs' n a a' at_a) ∙ ap (slice_get (set xs' n a')) (sym e) ∙ at_x') in
    let is_y' : b' ≡ y' = same_Some b' y' (sym (got_set ys' n b b' at_b) ∙ ap (slice_get (set ys' n b')) (sym e) ∙ at_y') in
    subst₂ (λ (p q : Seated). TellsAt p.1 q.1 x'.1 y'.1) is_x is_y (subst₂ (λ (p q : Seated). TellsAt a.1 b.1 p.1 q.1) is_x' is_y' tells))
    (λ ne. below i x y x' y' (omega arith) at_x at_y (sym (got_other xs' n i a' ne) ∙ at_x') (sym (got_other ys' n i b' ne) ∙ at_y'))

pub tell_all : (xs ys xs' ys' : List Seated) (n : ℕ) (locks : List TableId) → length xs ≡ length locks → length locks ≤ n → TellBelow n xs ys xs' ys' → TellEach xs ys xs' ys'
tell_all xs ys xs' ys' n locks long le below i a b a' b' at_a = let near = slice_get_within xs i a at_a in below i a b a' b' (omega arith) at_a

-- 3. One stripe.

own_found : (v : View) (state : State) → (session : ℕ) × (v.session ≡ Some session) → Finds v state → own_steps_of v.session state ≡ v.own
own_found v state session finds = ap (λ o. own_steps_of o state) session.1 ∙ finds.own session.0 session.1

pub refreshed_seen : (v w : View) (state : State) → (session : ℕ) × (v.session ≡ Some session) → Finds v state → w ≡ after_give (after_take v state) state → HasSeen v w
refreshed_seen v w state session finds is = subst (HasSeen v) (sym is) record {
  seat = record { session = refl; next_session = refl; spent = refl; free = refl; same = finds.same; next = finds.next; ended = finds.ended };
  front = finds.front;
  own = own_found v state session finds;
}

pub joined_seen : (v w other : View) → v.holds ≡ false → w ≡ after_join v other → IsPrefix v.front w.front → HasSeen v w
joined_seen v w other free is front = record {
  seat = record {
    session = ap (λ (z : View). z.session) is;
    next_session = ap (λ (z : View). z.next_session) is;
    spent = ap (λ (z : View). z.spent) is;
    free = ap (λ (z : View). z.holds) is ∙ free;
    same = subst (λ (z : View). IsOfSameStripe v.noted z.noted) (sym is) (same_itself v.noted);
    next = subst (λ (z : View). v.noted.next ≤ z.noted.next) (sym is) (le_refl v.noted.next);
    ended = subst (λ (z : View). IsPrefix v.noted.ended z.noted.ended) (sym is) (prefix-refl v.noted.ended);
  };
  front = front;
  own = ap (λ (z : View). z.own) is;
}

-- a seat that was told something has lent nothing
pub none_lent : (v w from : View) → w ≡ after_join v (front_note from) → HasLent v [] w
none_lent v w from is = record { lendings = ap (λ (z : View). z.lendings) is; misses = ap (λ (z : View). z.misses) is ∙ none v.misses }
  where
    none : (n : ℕ) → n + 0 ≡ n
    none n = omega arith

-- 4. A session's seats.

pub there_row : (xs ys : List Seated) (locks : List TableId) (i : ℕ) (seat : Seated) (lock : TableId) (session : ℕ) → AreSessionSeats locks session xs → KeepRow xs ys → HasRest i xs ys → i < length locks
    → seat ≡ get_or ys i seat → lock ≡ get_or locks i lock → (slice_get ys i ≡ Some seat) × IsSessionSeat lock session seat
there_row xs ys locks i seat lock session are row rest near at_seat at_lock =
    let now = row.locks ∙ are.0 in
    let there = slice_get_read ys (length locks) i seat (sym (length_locks ys locks now)) near at_seat in
    let is = lock_there ys locks i seat lock now there (slice_get_read locks (length locks) i lock refl near at_lock) in
    (there, subst (λ (l : TableId). IsSessionSeat l session seat) is (are.1 i seat (sym (rest i (le_refl i)) ∙ there)))

teller_seen : (xs ys xs' ys' : List Seated) (locks : List TableId) → locks_of xs ≡ locks → locks_of ys ≡ locks → KeepRow xs xs' → KeepRow ys ys' → TellEach xs ys xs' ys'
    → (i : ℕ) (a' : Seated) → slice_get xs' i ≡ Some a' → (a : Seated) × (slice_get xs i ≡ Some a) × HasSeen a.1 a'.1
teller_seen xs ys xs' ys' locks of_x of_y row_x row_y tells i a' at =
    let near : i < length locks = subst (λ (n : ℕ). i < n) (length_locks xs' locks (row_x.locks ∙ of_x)) (slice_get_within xs' i a' at) in
    let a = seat_there xs i (subst (λ (n : ℕ). i < n) (sym (length_locks xs locks of_x)) near) in
    let b = seat_there ys i (subst (λ (n : ℕ). i < n) (sym (length_locks ys locks of_y)) near) in
    let b' = seat_there ys' i (subst (λ (n : ℕ). i < n) (sym (length_locks ys' locks (row_y.locks ∙ of_y))) near) in
    (a.0, a.1, (tells i a.0 b.0 a' b'.0 a.1 b.1 at b'.1).teller_on)

hearer_seen : (xs ys xs' ys' : List Seated) (locks : List TableId) → locks_of xs ≡ locks → locks_of ys ≡ locks → KeepRow xs xs' → KeepRow ys ys' → TellEach xs ys xs' ys'
    → (i : ℕ) (b' : Seated) → slice_get ys' i ≡ Some b' → (b : Seated) × (slice_get ys i ≡ Some b) × HasSeen b.1 b'.1
hearer_seen xs ys xs' ys' locks of_x of_y row_x row_y tells i b' at =
    let near : i < length locks = subst (λ (n : ℕ). i < n) (length_locks ys' locks (row_y.locks ∙ of_y)) (slice_get_within ys' i b' at) in
    let a = seat_there xs i (subst (λ (n : ℕ). i < n) (sym (length_locks xs locks of_x)) near) in
    let b = seat_there ys i (subst (λ (n : ℕ). i < n) (sym (length_locks ys locks of_y)) near) in
    let a' = seat_there xs' i (subst (λ (n : ℕ). i < n) (sym (length_locks xs' locks (row_x.locks ∙ of_x))) near) in
    (b.0, b.1, (tells i a.0 b.0 a'.0 b' a.1 b.1 a'.1 at).hearer_on)

module _ {I J : Type 0} {D : I → Type 0} {E : J → Type 0} where
  pub may_stay : (cache : CacheState) (old new : Session I J D E) → MayCall cache old → new.agent ≡ old.agent → KeepRow old.seats.items new.seats.items
      → ((i : ℕ) (seat : Seated) → slice_get new.seats.items i ≡ Some seat → (was : Seated) × (slice_get old.seats.items i ≡ Some was) × HasSeen was.1 seat.1) → MayCall cache new
  may_stay cache old new may agent row seen = record {
    own = record {
      locks = row.locks ∙ may.own.locks;
      count = may.own.count;
      seats = λ i seat there. let s = seen i seat there in
          subst (λ (a : Agent I J D E). IsSeatAt cache.config i a.caller.session seat.1) (sym agent) (seat_stays cache.config i old.agent.caller.session s.0.1 seat.1 (may.own.seats i s.0 s.1) s.2.seat);
      held = ap (λ (a : Agent I J D E). a.hands.held) agent ∙ may.own.held;
      loads = λ on. subst (λ (a : Agent I J D E). IsSome a.hands.outside.loader) (sym agent) (may.own.loads on);
      writes = λ on. subst (λ (a : Agent I J D E). IsSome a.hands.outside.writer) (sym agent) (may.own.writes on);
      own = ap (λ (a : Agent I J D E). a.counts.own) agent ∙ may.own.own ∙ ap capped (sym row.total);
    };
    reservations = ap (λ (a : Agent I J D E). a.counts.reservations) agent ∙ may.reservations;
    joins = ap (λ (a : Agent I J D E). a.counts.joins) agent ∙ may.joins;
    numbers = λ i seat there. let s = seen i seat there in
        subst (λ (a : Agent I J D E). list_all (is_before_call a.caller.session (one_more a.caller.call)) seat.1.own ≡ true) (sym agent)
        (subst (λ (es : List Event). list_all (is_before_call old.agent.caller.session (one_more old.agent.caller.call)) es ≡ true) (sym s.2.own) (may.numbers i s.0 s.1));
  }

  pub teller_may : (cache : CacheState) (teller hearer teller' : Session I J D E) (ys' : List Seated) → MayCall cache teller → MayCall cache hearer → teller'.agent ≡ teller.agent
      → KeepRow teller.seats.items teller'.seats.items → KeepRow hearer.seats.items ys' → TellEach teller.seats.items hearer.seats.items teller'.seats.items ys' → MayCall cache teller'
  teller_may cache teller hearer teller' ys' may hears agent row row' tells =
      may_stay cache teller teller' may agent row (teller_seen teller.seats.items hearer.seats.items teller'.seats.items ys' cache.locks may.own.locks hears.own.locks row row' tells)

  pub hearer_may : (cache : CacheState) (teller hearer hearer' : Session I J D E) (xs' : List Seated) → MayCall cache teller → MayCall cache hearer → hearer'.agent ≡ hearer.agent
      → KeepRow teller.seats.items xs' → KeepRow hearer.seats.items hearer'.seats.items → TellEach teller.seats.items hearer.seats.items xs' hearer'.seats.items → MayCall cache hearer'
  hearer_may cache teller hearer hearer' xs' may hears agent row row' tells =
      may_stay cache hearer hearer' hears agent row' (hearer_seen teller.seats.items hearer.seats.items xs' hearer'.seats.items cache.locks may.own.locks hears.own.locks row row' tells)
