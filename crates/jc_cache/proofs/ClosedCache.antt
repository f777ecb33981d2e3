-- From the cache's own seats to the cache, before it is closed and afterwards.
--     all_free       a cache's own seats have taken nothing
--     whole_again    a cache whose own seats are those that they were, and have taken nothing
--     ended          a cache all of whose stripes were taken
--     closed         the same, and whose sessions were joined
--     as_it_was, back, why_ended, why    an owner who is handed back, and why
use Rattle.jc_cache.proofs.Common.{append_assoc, ◌++◌, append-nil, le_refl, ◌≡◌, ◌⊎◌, ⊎_elim, inl, inr, ◌∙◌, ◌<◌, ℕ, suc, List, [], ◌∷◌, length, Some, refl, sym, ap, subst, subst₂, arith, slice_get_within, get_or_from_slice_get, slice_get, All, AllZip, TableId, Config, Refusal, Event, State, IsChain, IsOfSameStripe, prefix-refl, same_itself, Session, Log, CacheOwnerState, log_of, noted_by, fronts_of, logs_of, IsOwnSeat, IsWhole, AreClosed, AreIdle, HasFront, HasFoundHeld, IsInUse, HasOnlyLooked, HasTakenOver, IsTakenAs, all_lent, lent_at, IsClosed, IsClosedAt, IsCloseRefusal, IsEndRefusal, IsHandedBack, KeepsSeat, KeepSeats, LeavesUnchanged, Whatever, IsFreeSeat, IsRowRefusal, HasTaken, HaveTaken}
use Rattle.std.proofs.lemmas.List.Concat.{flat_map-append}
use Rattle.std.specs.FinMap.{from_entries}
use mathlib.Core.List.{IsPrefix}
use Rattle.jc_types.specs.declared.refusal.Refusal.TheVariants.{OutOfMemory}
use Rattle.jc_model.specs.Legal.{Legal, IsHistory}
use Rattle.jc_stripe.specs.Laws.{ReachedIsLegal}
use Rattle.jc_cache.proofs.Rows.{Seated, length_locks, seat_there}
use Rattle.jc_cache.proofs.Noted.{log_there, noted_there, handed_back}
use Rattle.jc_cache.proofs.ClosingSeats.{keep_locks, keep_at, free_at, lent_there, taken_at}

row_free : (seats : List Seated) → ((i : ℕ) (seat : Seated) → slice_get seats i ≡ Some seat → IsFreeSeat seat.1) → HaveTaken seats []
row_free [] each = tt
row_free (seat ∷ seats) each = (each 0 seat refl, row_free seats (λ i other at. each (suc i) other at))

pub all_free : (config : Config) (given : ℕ) (locks : List TableId) (seats : List Seated) → IsWhole config given locks seats → HaveTaken seats []
all_free config given locks seats whole = row_free seats (λ i seat at. record { of_none = (whole.each i seat at).of_none; free = (whole.each i seat at).free })

pub whole_again : (lends : State → State → Type 0) (config : Config) (given : ℕ) (locks : List TableId) (old new : List Seated) → IsWhole config given locks old → KeepSeats lends old new → HaveTaken new [] → IsWhole config given locks new
whole_again lends config given locks old new whole keeps free = record {
  fits = whole.fits;
  few = whole.few;
  count = whole.count;
  own = keep_locks _ old new keeps ∙ whole.own;
  each = λ i seat at.
      let was = keep_at _ old new i seat keeps at in
      own_again i was.0 seat (whole.each i was.0 was.1) was.2 (free_at new i seat free at);
}
  where
    own_again : (i : ℕ) (x y : Seated) → IsOwnSeat config i given x.1 → KeepsSeat lends x y → IsFreeSeat y.1 → IsOwnSeat config i given y.1
    own_again i x y own keeps free = record {
      of_none = free.of_none;
      gives = keeps.next_session ∙ own.gives;
      free = free.free;
      unspent = keeps.spent ∙ own.unspent;
      config_is = keeps.same.config ∙ own.config_is;
      stripe_is = keeps.same.stripe ∙ own.stripe_is;
      origin_is = keeps.same.origin ∙ own.origin_is;
    }

closed_at : {lends : State → State → Type 0} (config : Config) (i given : ℕ) (x y : Seated) (state : State) → ReachedIsLegal → IsOwnSeat config i given x.1 → KeepsSeat lends x y → HasTaken y.1 state → IsClosedAt config i given x.1.noted state
closed_at config i given x y state legal own keeps taken =
    let same : IsOfSameStripe x.1.noted state = subst (IsOfSameStripe x.1.noted) taken.noted keeps.same in
    let shape : state.config ≡ config = same.config ∙ own.config_is in
    record {
      reached = taken.reached;
      idle = taken.idle;
      config_is = shape;
      stripe_is = same.stripe ∙ own.stripe_is;
      same = same;
      origin_is = same.origin ∙ own.origin_is;
      chain = subst (λ (c : Config). IsChain c state.ended state.opening) shape taken.reached.chain;
      legal = subst (λ (c : Config). Legal c state.opening state.history) shape (legal state taken.reached);
      leaves = subst (λ (c : Config). IsHistory c (from_entries state.opening) state.history state.cache) shape taken.reached.legal;
      none_later = λ session le. taken.later given session (keeps.next_session ∙ own.gives) le;
    }

pub ended : (lends : State → State → Type 0) (owner : CacheOwnerState) (own seats : List Seated) (stripes : List State) → ReachedIsLegal
    → IsWhole owner.cache.config owner.given owner.cache.locks own → owner.noted ≡ noted_by own → KeepSeats lends own seats → HaveTaken seats stripes → length stripes ≡ length seats → AreClosed owner stripes
ended lends owner own seats stripes legal whole noted keeps taken count = record {
  count = count ∙ length_locks seats owner.cache.locks (keep_locks _ own seats keeps ∙ whole.own) ∙ whole.count;
  each = λ i state at.
      let y = seat_there seats i (subst (λ (n : ℕ). i < n) count (slice_get_within stripes i state at)) in
      let x = keep_at _ own seats i y.0 keeps y.1 in (
        x.0.1.noted,
        ap (λ (states : List State). slice_get states i) noted ∙ noted_there own i x.0 x.1,
        closed_at owner.cache.config i owner.given x.0 y.0 state legal (whole.each i x.0 x.1) x.2 (taken_at seats stripes i y.0 state taken y.1 at),
      );
}

pub taken_as : (seats : List Seated) (stripes : List State) → HaveTaken seats stripes → length stripes ≡ length seats → AllZip IsTakenAs seats stripes
taken_as [] [] h count = tt
taken_as [] (s ∷ stripes) h count = absurd h
taken_as (x ∷ seats) [] h count = absurd (omega arith)
taken_as (x ∷ seats) (s ∷ stripes) h count = (record { holds = h.0.holds; noted = h.0.noted }, taken_as seats stripes h.1 (omega arith))

pub gave_none : (lends : State → State → Type 0) (config : Config) (given : ℕ) (locks : List TableId) (old new : List Seated) → IsWhole config given locks old → KeepSeats lends old new → (i : ℕ) (seat : Seated) → slice_get new i ≡ Some seat → seat.1.next_session ≡ Some given
gave_none lends config given locks old new whole keeps i seat at = let was = keep_at lends old new i seat keeps at in was.2.next_session ∙ (whole.each i was.0 was.1).gives

pub lent_more : {I J : Type 0} {D : I → Type 0} {E : J → Type 0} (sessions : List (Session I J D E)) (session : Session I J D E) (i : ℕ) → all_lent (sessions ++ session ∷ []) i ≡ all_lent sessions i ++ lent_at session.seats.items i
lent_more {I} {J} {D} {E} sessions session i =
    flat_map-append (λ (s : Session I J D E). lent_at s.seats.items i) sessions (session ∷ []) ∙ ap (λ (ls : List (State × State)). all_lent sessions i ++ ls) (append-nil (lent_at session.seats.items i))

pub taken_over : {I J : Type 0} {D : I → Type 0} {E : J → Type 0} (sessions : List (Session I J D E)) (logs : List Log) (mid new : List Seated) → AreIdle logs (logs_of mid) → KeepSeats Whatever mid new
    → ((i : ℕ) → lent_at new i ≡ lent_at mid i ++ all_lent sessions i) → (i : ℕ) (before : Log) (seat : Seated) → slice_get logs i ≡ Some before → slice_get new i ≡ Some seat → HasTakenOver before (all_lent sessions i) seat
taken_over {I} {J} {D} {E} sessions logs mid new idle joined handed i before seat there at =
    let m = keep_at Whatever mid new i seat joined at in
    let looked = idle i before (log_of m.0.1) there (log_there mid i m.0 m.1) in
    record {
      found = looked.0;
      lendings = sym (lent_there new i seat at) ∙ handed i ∙ ap (λ (ls : List (State × State)). ls ++ all_lent sessions i) (lent_there mid i m.0 m.1 ∙ looked.1.lendings)
          ∙ append_assoc before.lendings ((looked.0, looked.0) ∷ []) (all_lent sessions i);
      idle = looked.2;
    }

pub closed : {I J : Type 0} {D : I → Type 0} {E : J → Type 0} (lends : State → State → Type 0) (owner : CacheOwnerState) (own seats : List Seated) (stripes : List State) (sessions : List (Session I J D E)) → ReachedIsLegal
    → IsWhole owner.cache.config owner.given owner.cache.locks own → owner.noted ≡ noted_by own → KeepSeats lends own seats → HaveTaken seats stripes → length stripes ≡ length seats → length sessions ≡ owner.given
    → All (λ (s : Session I J D E). HasFront stripes s.seats.items) sessions → IsClosed owner sessions stripes
closed {I} {J} {D} {E} lends owner own seats stripes sessions legal whole noted keeps taken count all fronts = record {
  stripes_are = ended _ owner own seats stripes legal whole noted keeps taken count;
  all = all;
  fronts = λ n session at.
      subst (λ (s : Session I J D E). HasFront stripes s.seats.items) (get_or_from_slice_get sessions n session session at) (fronts n session (slice_get_within sessions n session at));
}

same_all : (states : List State) → AllZip IsOfSameStripe states states
same_all [] = tt
same_all (state ∷ states) = (same_itself state, same_all states)

prefix_all : (fronts : List (List Event)) → AllZip IsPrefix fronts fronts
prefix_all [] = tt
prefix_all (front ∷ fronts) = (prefix-refl front, prefix_all fronts)

logs_all : (logs : List Log) → AllZip HasOnlyLooked logs logs
logs_all [] = tt
logs_all (log ∷ logs) = (record { row = []; lendings = sym (append-nil log.lendings); looked = tt; misses = le_refl log.misses }, logs_all logs)

pub as_it_was : (owner : CacheOwnerState) → IsHandedBack owner owner
as_it_was owner = record { cache = refl; given = refl; noted = same_all owner.noted; fronts = prefix_all owner.fronts; logs = logs_all owner.logs }

pub back : (owner left : CacheOwnerState) (old new : List Seated) → left.cache ≡ owner.cache → left.given ≡ owner.given → owner.noted ≡ noted_by old → owner.fronts ≡ fronts_of old
    → left.noted ≡ noted_by new → left.fronts ≡ fronts_of new → owner.logs ≡ logs_of old → left.logs ≡ logs_of new → KeepSeats LeavesUnchanged old new → IsHandedBack owner left
back owner left old new cache given noted fronts noted' fronts' logs logs' keeps =
    let both = handed_back old new keeps in
    record {
      cache = cache;
      given = given;
      noted = subst₂ (AllZip IsOfSameStripe) (sym noted) (sym noted') both.0;
      fronts = subst₂ (AllZip IsPrefix) (sym fronts) (sym fronts') both.1;
      logs = subst₂ (AllZip HasOnlyLooked) (sym logs) (sym logs') both.2;
    }

pub why_ended : (owner left : CacheOwnerState) (refusal : Refusal) (old own : List Seated) → owner.logs ≡ logs_of old → left.logs ≡ logs_of own
    → IsRowRefusal refusal old own ⊎ ((refusal ≡ OutOfMemory) × AreIdle (logs_of old) (logs_of own)) → IsEndRefusal refusal owner left
why_ended owner left refusal old own before after by =
    ⊎_elim
    (λ row. ⊎_elim
    (λ out. inl (out.0, subst₂ IsInUse (sym before) (sym after) out.1))
    (λ busy. inr (inr (busy.0, subst₂ HasFoundHeld (sym before) (sym after) busy.1)))
    row)
    (λ memory. inr (inl (memory.0, subst₂ AreIdle (sym before) (sym after) memory.1)))
    by

pub why : (owner left : CacheOwnerState) (handed_in : ℕ) (refusal : Refusal) (old own : List Seated) → handed_in ≡ owner.given → owner.logs ≡ logs_of old → left.logs ≡ logs_of own
    → IsRowRefusal refusal old own ⊎ ((refusal ≡ OutOfMemory) × AreIdle (logs_of old) (logs_of own)) → IsCloseRefusal owner handed_in refusal left
why owner left handed_in refusal old own all before after by = inr (all, why_ended owner left refusal old own before after by)
