-- The cache's own seats while it is being closed.
--     keeps_itself, keeps_on                a seat is the one that it was, also over two steps
--     keep_all, keep_on, keep_set           so are those of a row, also if one of them is
--     keep_locks, keep_length, keep_at      they are at the same locks, and as many; which one each was
--     own_there, near_row                   the own seat and the lock at one place; a place of the locks is one of the row
--     free_at, free_set                     of a row that has taken nothing
--     next_free, next_stays, take_next      the first seat that has taken nothing, when it stays so, and when it takes its stripe
--     last_taken, give_last                 the last one that has taken its stripe, and when it gives it back
--     has_taken                             a seat has taken its stripe, at which nothing is out
--     taken_at, taken_set, taken_fits       one of those that have taken their stripes, and when it learns something; how many they are
--     none_phase, given_back, learned       what calls of the lock ask for, and leave of a seat
--     give_near, fewer, not_beyond, give_there, give_step    the last stripe is given back
--     popped_at, popped_done, popped_long   the last seat of a session that is left
--     no_front, join_near, join_there, join_step    it is joined
--     brought_push                          what one session more brings
use Rattle.jc_cache.proofs.Common.{append-nil, le_refl, ◌≡◌, ◌∙◌, ◌<◌, ◌≤◌, ◌+◌, inl, ℕ, zero, suc, true, List, [], ◌∷◌, ◌++◌, length, map, set, get_or, Option, Some, refl, sym, ap, subst, subst₂, append_assoc, length-append, arith, length-map, map-append, none-some, same_Some, slice_get_read, slice_get_within, slice_get, TableId, State, IsIdle, whole_history, Finds, IsPhaseBy, IsTurnBy, after_give, after_join, after_take, View, prefix-refl, prefix-trans, same_itself, same_at, same_on, AllLend, lent_at, KeepsSeat, KeepSeats, LeavesUnchanged, Whatever, IsFreeSeat, HasTaken, HaveTaken, AreAtLocks}
use mathlib.Core.List.{IsPrefix}
use mathlib.Core.Logic.{dite}
use native.Mathlib.Decide.{ℕ_discrete}
use Rattle.jc_cache.proofs.Rows.{Seated, locks_of, length_locks, seat_there, lock_there}

-- 1. The same seats.

lend-append : (lends : State → State → Type 0) (ps qs : List (State × State)) → AllLend lends ps → AllLend lends qs → AllLend lends (ps ++ qs)
lend-append lends [] qs one two = two
lend-append lends (p ∷ ps) qs one two = (one.0, lend-append lends ps qs one.1 two)

any_lent : (ps : List (State × State)) → AllLend Whatever ps
any_lent [] = tt
any_lent (p ∷ ps) = (tt, any_lent ps)

pub keeps_itself : {lends : State → State → Type 0} (x : Seated) → KeepsSeat lends x x
keeps_itself x = record { lock = refl; session = refl; next_session = refl; spent = refl; same = same_itself x.1.noted; front = prefix-refl x.1.front; row = []; lendings = sym (append-nil x.1.lendings); each = tt; misses = le_refl x.1.misses }

pub keeps_on : {lends : State → State → Type 0} (x y z : Seated) → KeepsSeat lends x y → KeepsSeat lends y z → KeepsSeat lends x z
keeps_on {lends} x y z p q = record {
  lock = q.lock ∙ p.lock;
  session = q.session ∙ p.session;
  next_session = q.next_session ∙ p.next_session;
  spent = q.spent ∙ p.spent;
  same = same_on x.1.noted y.1.noted z.1.noted p.same q.same;
  front = prefix-trans x.1.front y.1.front z.1.front p.front q.front;
  row = p.row ++ q.row;
  lendings = q.lendings ∙ ap (λ (ls : List (State × State)). ls ++ q.row) p.lendings ∙ append_assoc x.1.lendings p.row q.row;
  each = lend-append lends p.row q.row p.each q.each;
  misses = (let one = p.misses in let two = q.misses in omega arith);
}

-- what is looked at is lent somehow
pub looked_somehow : (xs ys : List Seated) → KeepSeats LeavesUnchanged xs ys → KeepSeats Whatever xs ys
looked_somehow [] [] p = tt
looked_somehow [] (y ∷ ys) p = absurd p
looked_somehow (x ∷ xs) [] p = absurd p
looked_somehow (x ∷ xs) (y ∷ ys) p = let k = p.0 in (
  record { lock = k.lock; session = k.session; next_session = k.next_session; spent = k.spent; same = k.same; front = k.front; row = k.row; lendings = k.lendings; each = any_lent k.row; misses = k.misses },
  looked_somehow xs ys p.1,
)

pub keep_all : (lends : State → State → Type 0) (xs : List Seated) → KeepSeats lends xs xs
keep_all lends [] = tt
keep_all lends (x ∷ xs) = (keeps_itself x, keep_all _ xs)

pub keep_on : (lends : State → State → Type 0) (xs ys zs : List Seated) → KeepSeats lends xs ys → KeepSeats lends ys zs → KeepSeats lends xs zs
keep_on lends [] [] [] p q = tt
keep_on lends [] [] (z ∷ zs) p q = q
keep_on lends [] (y ∷ ys) zs p q = absurd p
keep_on lends (x ∷ xs) [] zs p q = absurd p
keep_on lends (x ∷ xs) (y ∷ ys) [] p q = q
keep_on lends (x ∷ xs) (y ∷ ys) (z ∷ zs) p q = (keeps_on x y z p.0 q.0, keep_on _ xs ys zs p.1 q.1)

pub keep_set : (lends : State → State → Type 0) (xs ys : List Seated) (i : ℕ) (x y : Seated) → KeepSeats lends xs ys → slice_get ys i ≡ Some x → KeepsSeat lends x y → KeepSeats lends xs (set ys i y)
keep_set lends xs [] i x y p at q = absurd (none-some x at)
keep_set lends [] (b ∷ ys) i x y p at q = absurd p
keep_set lends (a ∷ xs) (b ∷ ys) zero x y p at q = (keeps_on a b y p.0 (subst (λ (s : Seated). KeepsSeat lends s y) (sym (same_Some b x at)) q), p.1)
keep_set lends (a ∷ xs) (b ∷ ys) (suc i) x y p at q = (p.0, keep_set _ xs ys i x y p.1 at q)

pub keep_locks : (lends : State → State → Type 0) (xs ys : List Seated) → KeepSeats lends xs ys → locks_of ys ≡ locks_of xs
keep_locks lends [] [] p = refl
keep_locks lends [] (y ∷ ys) p = absurd p
keep_locks lends (x ∷ xs) [] p = absurd p
keep_locks lends (x ∷ xs) (y ∷ ys) p = let head = p.0.lock in let tail = keep_locks _ xs ys p.1 in λ j. head j ∷ tail j

pub keep_length : (lends : State → State → Type 0) (xs ys : List Seated) → KeepSeats lends xs ys → length ys ≡ length xs
keep_length lends xs ys p = sym (length-map ys (λ (seat : Seated). seat.0)) ∙ ap length (keep_locks _ xs ys p) ∙ length-map xs (λ (seat : Seated). seat.0)

pub keep_at : (lends : State → State → Type 0) (xs ys : List Seated) (i : ℕ) (y : Seated) → KeepSeats lends xs ys → slice_get ys i ≡ Some y → (x : Seated) × (slice_get xs i ≡ Some x) × KeepsSeat lends x y
keep_at lends xs [] i y p at = absurd (none-some y at)
keep_at lends [] (b ∷ ys) i y p at = absurd p
keep_at lends (a ∷ xs) (b ∷ ys) zero y p at = (a, refl, subst (KeepsSeat lends a) (same_Some b y at) p.0)
keep_at lends (a ∷ xs) (b ∷ ys) (suc i) y p at = keep_at _ xs ys i y p.1 at

-- the own seat and the lock at one place
pub own_there : (lends : State → State → Type 0) (xs ys : List Seated) (locks : List TableId) (i : ℕ) (seat : Seated) (lock : TableId) → locks_of xs ≡ locks → KeepSeats lends xs ys → i < length locks
    → seat ≡ get_or ys i seat → lock ≡ get_or locks i lock → (slice_get ys i ≡ Some seat) × (seat.0 ≡ lock)
own_there lends xs ys locks i seat lock is keeps near at_seat at_lock =
    let now = keep_locks _ xs ys keeps ∙ is in
    let there = slice_get_read ys (length locks) i seat (sym (length_locks ys locks now)) near at_seat in
    (there, lock_there ys locks i seat lock now there (slice_get_read locks (length locks) i lock refl near at_lock))

pub near_row : (lends : State → State → Type 0) (xs ys : List Seated) (locks : List TableId) (i : ℕ) → locks_of xs ≡ locks → KeepSeats lends xs ys → i < length locks → i < length ys
near_row lends xs ys locks i is keeps near = subst (λ (n : ℕ). i < n) (sym (length_locks ys locks (keep_locks _ xs ys keeps ∙ is))) near

-- 2. Seats that have taken nothing.

pub free_at : (seats : List Seated) (i : ℕ) (x : Seated) → HaveTaken seats [] → slice_get seats i ≡ Some x → IsFreeSeat x.1
free_at [] i x h at = absurd (none-some x at)
free_at (a ∷ seats) zero x h at = subst (λ (s : Seated). IsFreeSeat s.1) (same_Some a x at) h.0
free_at (a ∷ seats) (suc i) x h at = free_at seats i x h.1 at

pub free_set : (seats : List Seated) (i : ℕ) (y : Seated) → HaveTaken seats [] → IsFreeSeat y.1 → HaveTaken (set seats i y) []
free_set [] i y h free = h
free_set (a ∷ seats) zero y h free = (free, h.1)
free_set (a ∷ seats) (suc i) y h free = (h.0, free_set seats i y h.1 free)

-- 3. The next one takes its stripe; the last one gives it back.

pub next_free : (seats : List Seated) (states : List State) (i : ℕ) (x : Seated) → i ≡ length states → HaveTaken seats states → slice_get seats i ≡ Some x → IsFreeSeat x.1
next_free seats states i x is h at = next seats states x h (subst (λ (n : ℕ). slice_get seats n ≡ Some x) is at)
  where
    next : (seats : List Seated) (states : List State) (x : Seated) → HaveTaken seats states → slice_get seats (length states) ≡ Some x → IsFreeSeat x.1
    next seats [] x h at = free_at seats 0 x h at
    next [] (s ∷ states) x h at = absurd h
    next (a ∷ seats) (s ∷ states) x h at = next seats states x h.1 at

pub next_stays : (seats : List Seated) (states : List State) (i : ℕ) (x y : Seated) → i ≡ length states → HaveTaken seats states → slice_get seats i ≡ Some x → IsFreeSeat y.1 → HaveTaken (set seats i y) states
next_stays seats states i x y is h at free =
    subst (λ (n : ℕ). HaveTaken (set seats n y) states) (sym is) (stays seats states x y h (subst (λ (n : ℕ). slice_get seats n ≡ Some x) is at) free)
  where
    stays : (seats : List Seated) (states : List State) (x y : Seated) → HaveTaken seats states → slice_get seats (length states) ≡ Some x → IsFreeSeat y.1 → HaveTaken (set seats (length states) y) states
    stays seats [] x y h at free = free_set seats 0 y h free
    stays [] (s ∷ states) x y h at free = absurd h
    stays (a ∷ seats) (s ∷ states) x y h at free = (h.0, stays seats states x y h.1 at free)

pub take_next : (seats : List Seated) (states : List State) (i : ℕ) (x y : Seated) (state : State) → i ≡ length states → HaveTaken seats states → slice_get seats i ≡ Some x → HasTaken y.1 state
    → HaveTaken (set seats i y) (states ++ state ∷ [])
take_next seats states i x y state is h at taken =
    subst (λ (n : ℕ). HaveTaken (set seats n y) (states ++ state ∷ [])) (sym is) (next seats states x y state h (subst (λ (n : ℕ). slice_get seats n ≡ Some x) is at) taken)
  where
    next : (seats : List Seated) (states : List State) (x y : Seated) (state : State) → HaveTaken seats states → slice_get seats (length states) ≡ Some x → HasTaken y.1 state
        → HaveTaken (set seats (length states) y) (states ++ state ∷ [])
    next [] [] x y state h at taken = absurd (none-some x at)
    next (a ∷ seats) [] x y state h at taken = (taken, h.1)
    next [] (s ∷ states) x y state h at taken = absurd h
    next (a ∷ seats) (s ∷ states) x y state h at taken = (h.0, next seats states x y state h.1 at taken)

pub last_taken : (seats : List Seated) (states : List State) (x : Seated) (state : State) → HaveTaken seats (states ++ state ∷ []) → slice_get seats (length states) ≡ Some x → HasTaken x.1 state
last_taken [] [] x state h at = absurd h
last_taken (a ∷ seats) [] x state h at = subst (λ (s : Seated). HasTaken s.1 state) (same_Some a x at) h.0
last_taken [] (s ∷ states) x state h at = absurd h
last_taken (a ∷ seats) (s ∷ states) x state h at = last_taken seats states x state h.1 at

pub give_last : (seats : List Seated) (states : List State) (y : Seated) (state : State) → HaveTaken seats (states ++ state ∷ []) → IsFreeSeat y.1 → HaveTaken (set seats (length states) y) states
give_last [] [] y state h free = absurd h
give_last (a ∷ seats) [] y state h free = (free, h.1)
give_last [] (s ∷ states) y state h free = absurd h
give_last (a ∷ seats) (s ∷ states) y state h free = (h.0, give_last seats states y state h.1 free)

-- a seat that has found nothing out
pub has_taken : (x y : Seated) (state : State) → IsFreeSeat x.1 → y ≡ (x.0, after_take x.1 state) → Finds x.1 state → IsIdle state → HasTaken y.1 state
has_taken x y state free is finds idle = subst (λ (s : Seated). HasTaken s.1 state) (sym is)
    record { of_none = free.of_none; holds = refl; noted = refl; front = finds.front; reached = finds.reached; idle = idle; later = finds.later }

-- 4. One of those that have taken their stripes.

pub taken_at : (seats : List Seated) (states : List State) (i : ℕ) (x : Seated) (state : State) → HaveTaken seats states → slice_get seats i ≡ Some x → slice_get states i ≡ Some state → HasTaken x.1 state
taken_at seats [] i x state h at there = absurd (none-some state there)
taken_at [] (s ∷ states) i x state h at there = absurd h
taken_at (a ∷ seats) (s ∷ states) zero x state h at there = subst (λ (s : Seated). HasTaken s.1 state) (same_Some a x at) (subst (HasTaken a.1) (same_Some s state there) h.0)
taken_at (a ∷ seats) (s ∷ states) (suc i) x state h at there = taken_at seats states i x state h.1 at there

pub taken_set : (seats : List Seated) (states : List State) (i : ℕ) (y : Seated) (state : State) → HaveTaken seats states → slice_get states i ≡ Some state → HasTaken y.1 state → HaveTaken (set seats i y) states
taken_set seats [] i y state h there taken = absurd (none-some state there)
taken_set [] (s ∷ states) i y state h there taken = absurd h
taken_set (a ∷ seats) (s ∷ states) zero y state h there taken = (subst (HasTaken y.1) (sym (same_Some s state there)) taken, h.1)
taken_set (a ∷ seats) (s ∷ states) (suc i) y state h there taken = (h.0, taken_set seats states i y state h.1 there taken)

-- as many seats as stripes that they have taken, at most
pub taken_fits : (seats : List Seated) (states : List State) → HaveTaken seats states → length states ≤ length seats
taken_fits seats [] h = omega arith
taken_fits [] (s ∷ states) h = absurd h
taken_fits (a ∷ seats) (s ∷ states) h = let ih = taken_fits seats states h.1 in omega arith

-- 5. Calls of the lock.

-- what a seat that has taken its stripe may give back
pub none_phase : (view : View) (closed stripe : State) → HasTaken view closed → stripe ≡ closed → IsTurnBy view.session view.noted stripe
none_phase view closed stripe h is = inl (subst (λ (o : Option ℕ). IsPhaseBy o view.noted stripe) (sym h.of_none) (is ∙ sym h.noted))

pub given_back : (x y : Seated) (closed stripe : State) → HasTaken x.1 closed → stripe ≡ closed → y.0 ≡ x.0 → y.1 ≡ after_give x.1 stripe → KeepsSeat LeavesUnchanged x y × IsFreeSeat y.1 × (y.1.noted ≡ x.1.noted)
given_back x y closed stripe h is lock after = (
  record {
    lock = lock;
    session = ap (λ (v : View). v.session) after;
    next_session = ap (λ (v : View). v.next_session) after;
    spent = ap (λ (v : View). v.spent) after;
    same = same_at x.1.noted y.1.noted (h.noted ∙ sym is ∙ sym (ap (λ (v : View). v.noted) after));
    front = subst (IsPrefix x.1.front) (ap whole_history (sym is) ∙ sym (ap (λ (v : View). v.front) after)) h.front;
    row = (x.1.noted, stripe) ∷ [];
    lendings = ap (λ (v : View). v.lendings) after;
    each = (is ∙ sym h.noted, tt);
    misses = subst (λ (n : ℕ). x.1.misses ≤ n) (sym (ap (λ (v : View). v.misses) after)) (le_refl x.1.misses);
  },
  record { of_none = ap (λ (v : View). v.session) after ∙ h.of_none; free = ap (λ (v : View). v.holds) after },
  ap (λ (v : View). v.noted) after ∙ is ∙ sym h.noted,
)

pub learned : (x y : Seated) (w : View) (state : State) → HasTaken x.1 state → y.0 ≡ x.0 → y.1 ≡ after_join x.1 w → IsPrefix x.1.front y.1.front → IsPrefix y.1.front (whole_history state) → KeepsSeat Whatever x y × HasTaken y.1 state
learned x y w state h lock after seen front = (
  record {
    lock = lock;
    session = ap (λ (v : View). v.session) after;
    next_session = ap (λ (v : View). v.next_session) after;
    spent = ap (λ (v : View). v.spent) after;
    same = same_at x.1.noted y.1.noted (sym (ap (λ (v : View). v.noted) after));
    front = seen;
    row = w.lendings;
    lendings = ap (λ (v : View). v.lendings) after;
    each = any_lent w.lendings;
    misses = (let e = ap (λ (v : View). v.misses) after in omega arith);
  },
  record {
    of_none = ap (λ (v : View). v.session) after ∙ h.of_none;
    holds = ap (λ (v : View). v.holds) after ∙ h.holds;
    noted = ap (λ (v : View). v.noted) after ∙ h.noted;
    front = front;
    reached = h.reached;
    idle = h.idle;
    later = λ given session gives le. h.later given session (sym (ap (λ (v : View). v.next_session) after) ∙ gives) le;
  },
)

-- 6. The last stripe is given back.

pub give_near : (lends : State → State → Type 0) (xs ys : List Seated) (locks : List TableId) (old new : List State) (closed : State) (i : ℕ) → locks_of xs ≡ locks → KeepSeats lends xs ys → HaveTaken ys old
    → old ≡ new ++ closed ∷ [] → i ≡ length new → i < length locks
give_near lends xs ys locks old new closed i is keeps h popped at =
    let fits = taken_fits ys old h in
    let rows = length_locks ys locks (keep_locks _ xs ys keeps ∙ is) in
    let long = ap length popped ∙ length-append new (closed ∷ []) in
    omega arith

-- those that are left are fewer, and the one that is given back isn't beyond them all
pub fewer : (most old new : List State) (closed : State) → old ≡ new ++ closed ∷ [] → length old ≤ length most → length new ≤ length most
fewer most old new closed popped few = let long = ap length popped ∙ length-append new (closed ∷ []) in omega arith

pub not_beyond : (most old new : List State) (closed : State) (i at : ℕ) → old ≡ new ++ closed ∷ [] → length old ≤ length most → at ≡ length new → length most ≤ i → i ≡ at → ⊥
not_beyond most old new closed i at popped few is beyond e = let long = ap length popped ∙ length-append new (closed ∷ []) in omega arith

pub give_there : (lends : State → State → Type 0) (xs ys : List Seated) (locks : List TableId) (old new : List State) (closed : State) (i : ℕ) (seat : Seated) (lock : TableId) → locks_of xs ≡ locks → KeepSeats lends xs ys → HaveTaken ys old
    → old ≡ new ++ closed ∷ [] → i ≡ length new → seat ≡ get_or ys i seat → lock ≡ get_or locks i lock → (slice_get ys i ≡ Some seat) × (seat.0 ≡ lock) × HasTaken seat.1 closed
give_there lends xs ys locks old new closed i seat lock is keeps h popped at at_seat at_lock =
    let near = give_near _ xs ys locks old new closed i is keeps h popped at in
    let there = own_there _ xs ys locks i seat lock is keeps near at_seat at_lock in
    (there.0, there.1, last_taken ys new seat closed (subst (HaveTaken ys) popped h) (subst (λ (n : ℕ). slice_get ys n ≡ Some seat) at there.0))

pub give_step : (ys : List Seated) (old new : List State) (closed : State) (i : ℕ) (y : Seated) → HaveTaken ys old → old ≡ new ++ closed ∷ [] → i ≡ length new → IsFreeSeat y.1 → HaveTaken (set ys i y) new
give_step ys old new closed i y h popped at free = subst (λ (n : ℕ). HaveTaken (set ys n y) new) (sym at) (give_last ys new y closed (subst (HaveTaken ys) popped h) free)

-- 7. Sessions.

-- a session has seen no more of each stripe from the place `from` on than is in its history
abbrev pub HasFrontFrom : ℕ → List State → List Seated → Type 0
HasFrontFrom from stripes seats = (i : ℕ) (state : State) (seat : Seated) → from ≤ i → slice_get stripes i ≡ Some state → slice_get seats i ≡ Some seat → IsPrefix seat.1.front (whole_history state)

pub no_front : (stripes : List State) (all : List Seated) → HasFrontFrom (length all) stripes all
no_front stripes all i state seat le there at = absurd (let near = slice_get_within all i seat at in omega arith)

seam : (rest : List Seated) (x : Seated) (done : List Seated) → slice_get (rest ++ x ∷ [] ++ done) (length rest) ≡ Some x
seam [] x done = refl
seam (a ∷ rest) x done = seam rest x done

-- the last seat of those that are left is at its place among all
pub popped_at : (all seats rest done : List Seated) (x : Seated) (i : ℕ) → all ≡ seats ++ done → seats ≡ rest ++ x ∷ [] → i ≡ length rest → slice_get all i ≡ Some x
popped_at all seats rest done x i is popped at =
    subst₂ (λ (l : List Seated) (n : ℕ). slice_get l n ≡ Some x) (sym (is ∙ ap (λ (l : List Seated). l ++ done) popped)) (sym at) (seam rest x done)

pub popped_done : (all seats rest done : List Seated) (x : Seated) → all ≡ seats ++ done → seats ≡ rest ++ x ∷ [] → all ≡ rest ++ x ∷ done
popped_done all seats rest done x is popped = is ∙ ap (λ (l : List Seated). l ++ done) popped ∙ append_assoc rest (x ∷ []) done

pub popped_long : (seats rest : List Seated) (x : Seated) (i : ℕ) → seats ≡ rest ++ x ∷ [] → i ≡ length rest → length seats ≡ i + 1
popped_long seats rest x i popped at = let long = ap length popped ∙ length-append rest (x ∷ []) in omega arith

pub join_near : (locks : List TableId) (all : List Seated) (i : ℕ) (x : Seated) → AreAtLocks locks all → slice_get all i ≡ Some x → i < length locks
join_near locks all i x fit at = subst (λ (n : ℕ). i < n) (length_locks all locks fit.at) (slice_get_within all i x at)

-- a session's seat is at the lock of its place
pub join_there : (lends : State → State → Type 0) (xs ys : List Seated) (locks : List TableId) (all : List Seated) (i : ℕ) (x seat : Seated) (lock : TableId) → locks_of xs ≡ locks → KeepSeats lends xs ys → AreAtLocks locks all
    → slice_get all i ≡ Some x → seat ≡ get_or ys i seat → lock ≡ get_or locks i lock → (slice_get ys i ≡ Some seat) × (seat.0 ≡ lock) × (x.0 ≡ lock)
join_there lends xs ys locks all i x seat lock is keeps fit at at_seat at_lock =
    let near = join_near locks all i x fit at in
    let there = own_there _ xs ys locks i seat lock is keeps near at_seat at_lock in
    (there.0, there.1, lock_there all locks i x lock fit.at at (slice_get_read locks (length locks) i lock refl near at_lock))

front_step : (n m : ℕ) (stripes : List State) (all : List Seated) (x : Seated) (state : State) → m ≡ n + 1 → slice_get all n ≡ Some x → slice_get stripes n ≡ Some state → IsPrefix x.1.front (whole_history state)
    → HasFrontFrom m stripes all → HasFrontFrom n stripes all
front_step n m stripes all x state next at there front later i state' x' le there' at' =
    dite (ℕ_discrete i n)
    (λ e. let xs = same_Some x x' (sym at ∙ ap (slice_get all) (sym e) ∙ at') in
    let ss = same_Some state state' (sym there ∙ ap (slice_get stripes) (sym e) ∙ there') in
    subst₂ (λ (a : Seated) (b : State). IsPrefix a.1.front (whole_history b)) xs ss front)
    (λ ne. later i state' x' (omega arith) there' at')

-- one of a session's seats was joined
pub join_step : (ys : List Seated) (stripes : List State) (all : List Seated) (n m : ℕ) (x seat after : Seated) → length stripes ≡ length all → HaveTaken ys stripes → slice_get ys n ≡ Some seat → slice_get all n ≡ Some x → m ≡ n + 1
    → after.0 ≡ seat.0 → after.1 ≡ after_join seat.1 x.1 → IsPrefix seat.1.front after.1.front → IsPrefix x.1.front after.1.front → (seat.1.holds ≡ true → IsPrefix after.1.front (whole_history seat.1.noted)) → HasFrontFrom m stripes all
    → KeepsSeat Whatever seat after × HaveTaken (set ys n after) stripes × HasFrontFrom n stripes all
join_step ys stripes all n m x seat after count h at_own at next lock is seen joined held later =
    let s = seat_there stripes n (subst (λ (k : ℕ). n < k) (sym count) (slice_get_within all n x at)) in
    let taken = taken_at ys stripes n seat s.0 h at_own s.1 in
    let front = subst (λ (state : State). IsPrefix after.1.front (whole_history state)) taken.noted (held taken.holds) in
    let l = learned seat after x.1 s.0 taken lock is seen front in
    (l.0, taken_set ys stripes n after s.0 h s.1 l.1, front_step n m stripes all x s.0 next at s.1 (prefix-trans x.1.front after.1.front (whole_history s.0) joined front) later)

-- 8. All sessions.

pub brought_push : {X Y : Type 0} (f : X → Y) (old now new : List Y) (xs : List X) (x : X) (y : Y) → new ≡ now ++ y ∷ [] → now ≡ old ++ map f xs → y ≡ f x → new ≡ old ++ map f (xs ++ x ∷ [])
brought_push {X} {Y} f old now new xs x y pushed are is =
    pushed ∙ ap (λ (ys : List Y). ys ++ y ∷ []) are ∙ append_assoc old (map f xs) (y ∷ []) ∙ ap (λ (z : Y). old ++ (map f xs ++ z ∷ [])) is
    ∙ ap (λ (ys : List Y). old ++ ys) (sym (map-append f xs (x ∷ [])))

-- 9. What sessions have lent.

pub lent_there : (xs : List Seated) (i : ℕ) (x : Seated) → slice_get xs i ≡ Some x → lent_at xs i ≡ x.1.lendings
lent_there [] i x at = absurd (none-some x at)
lent_there (a ∷ xs) zero x at = ap (λ (s : Seated). s.1.lendings) (same_Some a x at)
lent_there (a ∷ xs) (suc i) x at = lent_there xs i x at

lent_beyond : (xs : List Seated) (i : ℕ) → length xs ≤ i → lent_at xs i ≡ []
lent_beyond [] i le = refl
lent_beyond (a ∷ xs) zero le = absurd (omega arith)
lent_beyond (a ∷ xs) (suc i) le = lent_beyond xs i (omega arith)

lent_here : (xs : List Seated) (n : ℕ) (x y : Seated) → slice_get xs n ≡ Some x → lent_at (set xs n y) n ≡ y.1.lendings
lent_here [] n x y at = absurd (none-some x at)
lent_here (a ∷ xs) zero x y at = refl
lent_here (a ∷ xs) (suc n) x y at = lent_here xs n x y at

lent_other : (xs : List Seated) (n i : ℕ) (y : Seated) → (i ≡ n → ⊥) → lent_at (set xs n y) i ≡ lent_at xs i
lent_other [] n i y ne = refl
lent_other (a ∷ xs) zero zero y ne = absurd (ne refl)
lent_other (a ∷ xs) zero (suc i) y ne = refl
lent_other (a ∷ xs) (suc n) zero y ne = refl
lent_other (a ∷ xs) (suc n) (suc i) y ne = lent_other xs n i y (λ e. ne (ap suc e))

-- the seats of a session from the place `n` on were joined
abbrev pub HandedFrom : ℕ → List Seated → List Seated → List Seated → Type 0
HandedFrom n old all now = (i : ℕ) → (n ≤ i → lent_at now i ≡ lent_at old i ++ lent_at all i) × (i < n → lent_at now i ≡ lent_at old i)

pub handed_none : (old all : List Seated) → HandedFrom (length all) old all old
handed_none old all i = ((λ le. sym (append-nil (lent_at old i)) ∙ ap (λ (ls : List (State × State)). lent_at old i ++ ls) (sym (lent_beyond all i le))), λ lt. refl)

pub handed_next : (n m : ℕ) (old all now : List Seated) (x seat after : Seated) → m ≡ n + 1 → slice_get now n ≡ Some seat → slice_get all n ≡ Some x → after.1.lendings ≡ seat.1.lendings ++ x.1.lendings
    → HandedFrom m old all now → HandedFrom n old all (set now n after)
handed_next n m old all now x seat after next here at joined done i = (
  (λ le. dite (ℕ_discrete i n)
      (λ e. subst (λ (k : ℕ). lent_at (set now n after) k ≡ lent_at old k ++ lent_at all k) (sym e)
      (lent_here now n seat after here ∙ joined
      ∙ (λ j. (sym (lent_there now n seat here) ∙ (done n).1 (omega arith)) j ++ sym (lent_there all n x at) j)))
      (λ ne. lent_other now n i after ne ∙ (done i).0 (omega arith))),
  λ lt. lent_other now n i after (λ e. omega arith) ∙ (done i).1 (omega arith),
)
