-- What a session does at one stripe after another, and what it reads there of what a cache counts.
--     DoneBelow, done_next, done_all    it was done at the first stripes, at one more, and at all
--     take_set                          the first seats of a row, with the next one replaced
--     occurred_snoc                     what occurred in stripes with one more
--     counted_next, counted_all         what the first stripes count, with one more, and what all count
--     stripes_next, stripes_all         the same of the states of stripes
--     done_may                          a session that has seen more by that may call as before
use Rattle.jc_cache.proofs.Common.{◌≡◌, ◌+◌, ◌<◌, ◌≤◌, ℕ, zero, suc, Some, List, [], ◌∷◌, ◌++◌, length, set, take, slice_get, refl, sym, ap, subst, subst₂, ◌∙◌, le_refl, add-one, arith, append_assoc, append-nil, same_Some, slice_get_within, map-append, TableId, Occurrence, statistics_of, together, StatisticsLaws, State, CacheState, noted_by, HasSeen, View, occurred_in, KeepRow, MayCall, Session}
use mathlib.Core.Logic.{dite}
use native.Mathlib.Decide.{ℕ_discrete}
use Rattle.jc_model.specs.declared.statistics.Statistics.{Statistics}
use Rattle.jc_stripe.specs.Occurrences.{all_occurrences}
use Rattle.jc_cache.proofs.Rows.{Seated, length_locks, seat_there}
use Rattle.jc_cache.proofs.Meetings.{HasRest, got_set, got_other, may_stay}

-- 1. At which stripes something was done.

abbrev pub DoneBelow : (View → View → Type 0) → ℕ → List Seated → List Seated → Type 0
DoneBelow did n xs ys = (i : ℕ) (a b : Seated) → i < n → slice_get xs i ≡ Some a → slice_get ys i ≡ Some b → did a.1 b.1

pub done_next : (did : View → View → Type 0) (xs ys : List Seated) (n : ℕ) (a b : Seated) → slice_get ys n ≡ Some a → HasRest n xs ys → did a.1 b.1 → DoneBelow did n xs ys → DoneBelow did (n + 1) xs (set ys n b)
done_next did xs ys n a b at rest done below i x y near at_x at_y =
    dite (ℕ_discrete i n)
    (λ e.
    let is_x : a ≡ x = same_Some a x (sym at ∙ rest n (le_refl n) ∙ ap (slice_get xs) (sym e) ∙ at_x) in
    let is_y : b ≡ y = same_Some b y (sym (got_set ys n a b at) ∙ ap (slice_get (set ys n b)) (sym e) ∙ at_y) in
    subst₂ (λ (p q : Seated). did p.1 q.1) is_x is_y done)
    (λ ne. below i x y (omega arith) at_x (sym (got_other ys n i b ne) ∙ at_y))

pub done_all : (did : View → View → Type 0) (xs ys : List Seated) (n : ℕ) (locks : List TableId) → length xs ≡ length locks → length locks ≤ n → DoneBelow did n xs ys
    → (i : ℕ) (a b : Seated) → slice_get xs i ≡ Some a → slice_get ys i ≡ Some b → did a.1 b.1
done_all did xs ys n locks long le below i a b at_a = let near = slice_get_within xs i a at_a in below i a b (omega arith) at_a

-- 2. What they count.

take_set : (ys : List Seated) (n : ℕ) (y z : Seated) → slice_get ys n ≡ Some y → take (suc n) (set ys n z) ≡ take n ys ++ z ∷ []
take_set [] n y z at = cc
take_set (x ∷ ys) zero y z at = refl
take_set (x ∷ ys) (suc n) y z at = ap (λ (l : List Seated). x ∷ l) (take_set ys n y z at)

take_whole : (ys : List Seated) (n : ℕ) → length ys ≤ n → take n ys ≡ ys
take_whole [] zero le = refl
take_whole [] (suc n) le = refl
take_whole (y ∷ ys) zero le = absurd (omega arith)
take_whole (y ∷ ys) (suc n) le = ap (λ (l : List Seated). y ∷ l) (take_whole ys n (omega arith))

occurred_snoc : (states : List State) (state : State) → occurred_in (states ++ state ∷ []) ≡ occurred_in states ++ all_occurrences state
occurred_snoc [] state = append-nil (all_occurrences state)
occurred_snoc (first ∷ states) state = ap (λ (es : List Occurrence). all_occurrences first ++ es) (occurred_snoc states state) ∙ sym (append_assoc (all_occurrences first) (occurred_in states) (all_occurrences state))

abbrev occurred_at : List Seated → List Occurrence
occurred_at seats = occurred_in (noted_by seats)

events_next : (ys : List Seated) (n : ℕ) (y z : Seated) → slice_get ys n ≡ Some y → occurred_at (take (n + 1) (set ys n z)) ≡ occurred_at (take n ys) ++ all_occurrences z.1.noted
events_next ys n y z at =
    ap (λ (m : ℕ). occurred_at (take m (set ys n z))) (add-one n)
    ∙ ap occurred_at (take_set ys n y z at)
    ∙ ap occurred_in (map-append (λ (seat : Seated). seat.1.noted) (take n ys) (z ∷ []))
    ∙ occurred_snoc (noted_by (take n ys)) z.1.noted

pub counted_next : StatisticsLaws → (ys : List Seated) (n : ℕ) (y z : Seated) (total one more : Statistics) → slice_get ys n ≡ Some y
    → total ≡ statistics_of (occurred_in (noted_by (take n ys))) → one ≡ statistics_of (all_occurrences z.1.noted) → more ≡ together total one
    → more ≡ statistics_of (occurred_in (noted_by (take (n + 1) (set ys n z))))
counted_next laws ys n y z total one more at was is both =
    both
    ∙ (λ k. together (was k) (is k))
    ∙ sym (laws.append (occurred_at (take n ys)) (all_occurrences z.1.noted))
    ∙ ap statistics_of (sym (events_next ys n y z at))

pub counted_all : (ys : List Seated) (n : ℕ) (total : Statistics) → length ys ≤ n → total ≡ statistics_of (occurred_in (noted_by (take n ys))) → total ≡ statistics_of (occurred_in (noted_by ys))
counted_all ys n total le is = is ∙ ap (λ (l : List Seated). statistics_of (occurred_in (noted_by l))) (take_whole ys n le)

take_next : (states : List State) (n : ℕ) (state : State) → slice_get states n ≡ Some state → take (suc n) states ≡ take n states ++ state ∷ []
take_next [] n state at = cc
take_next (x ∷ states) zero state at = ap (λ (s : State). s ∷ []) (same_Some x state at)
take_next (x ∷ states) (suc n) state at = ap (λ (l : List State). x ∷ l) (take_next states n state at)

take_states : (states : List State) (n : ℕ) → length states ≤ n → take n states ≡ states
take_states [] zero le = refl
take_states [] (suc n) le = refl
take_states (x ∷ states) zero le = absurd (omega arith)
take_states (x ∷ states) (suc n) le = ap (λ (l : List State). x ∷ l) (take_states states n (omega arith))

pub stripes_next : StatisticsLaws → (states : List State) (n : ℕ) (state : State) (total one more : Statistics) → slice_get states n ≡ Some state
    → total ≡ statistics_of (occurred_in (take n states)) → one ≡ statistics_of (all_occurrences state) → more ≡ together total one
    → more ≡ statistics_of (occurred_in (take (n + 1) states))
stripes_next laws states n state total one more at was is both =
    both
    ∙ (λ k. together (was k) (is k))
    ∙ sym (laws.append (occurred_in (take n states)) (all_occurrences state))
    ∙ ap statistics_of (sym (occurred_snoc (take n states) state))
    ∙ ap (λ (l : List State). statistics_of (occurred_in l)) (sym (take_next states n state at))
    ∙ ap (λ (m : ℕ). statistics_of (occurred_in (take m states))) (sym (add-one n))

pub stripes_all : (states : List State) (n : ℕ) (total : Statistics) → length states ≤ n → total ≡ statistics_of (occurred_in (take n states)) → total ≡ statistics_of (occurred_in states)
stripes_all states n total le is = is ∙ ap (λ (l : List State). statistics_of (occurred_in l)) (take_states states n le)

-- 3. The session.

pub done_may : {I J : Type 0} {D : I → Type 0} {E : J → Type 0} → (did : View → View → Type 0) → ((v w : View) → did v w → HasSeen v w) → (cache : CacheState) (old new : Session I J D E) → MayCall cache old
    → new.agent ≡ old.agent → KeepRow old.seats.items new.seats.items
    → ((i : ℕ) (a b : Seated) → slice_get old.seats.items i ≡ Some a → slice_get new.seats.items i ≡ Some b → did a.1 b.1) → MayCall cache new
done_may did seen cache old new may agent row each =
    may_stay cache old new may agent row (λ i b at.
    let near : i < length cache.locks = subst (λ (n : ℕ). i < n) (length_locks new.seats.items cache.locks (row.locks ∙ may.own.locks)) (slice_get_within new.seats.items i b at) in
    let a = seat_there old.seats.items i (subst (λ (n : ℕ). i < n) (sym (length_locks old.seats.items cache.locks may.own.locks)) near) in
    (a.0, a.1, seen a.0.1 b.1 (each i a.0 b a.1 at)))
