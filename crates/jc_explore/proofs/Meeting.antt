-- What the search has met: the opening, and what one move leads to from a state that was followed.
use Rattle.jc_explore.proofs.Common.{◌≡◌, ℕ, ◌+◌, ◌<◌, ◌⊎◌, List, [], ◌∷◌, ◌++◌, length, Some, slice_get, sym, subst, inl, inr, arith, slice_get_within, KnownState, Move, Program, Finding, opening, AreNew, AreNext, Continues, HasEachOutcome, HaveSchedule, IsClosedSchedule, IsClosedUpTo, IsKnown, IsNextOfKnown, IsNextSchedule, IsScheduleOf, MeetsStates, stands_on}
use Rattle.jc_explore.proofs.AllMoves.{lt_or_le}
use Rattle.jc_explore.proofs.Closing.{HasEachKnown, closed-more, each-known, has-each}
use Rattle.jc_explore.proofs.Searching.{known-grown, slice-back}

-- where an element is in a list that has grown
pub slice-on : {X : Type 0} (was now : List X) (k : ℕ) (x : X) → Continues was now → slice_get was k ≡ Some x → slice_get now k ≡ Some x
slice-on {X = X} was now k x grown at = subst (λ (xs : List X). slice_get xs k ≡ Some x) (sym grown.1) (stands_on was grown.0 k x at)

-- 1. The search begins.

pub first-meets : (p : Program) (known : List KnownState) (found : List Finding) → HaveSchedule [] [] known → IsKnown p known (opening p) → found ≡ [] → MeetsStates p known found 0
first-meets p known found long here none =
    record {
      begins = here;
      closed = λ k m h at. absurd (omega (arith, h));
      near = λ k m at. inl (long k m (omega arith) at);
      ended = λ k x at. absurd (let inside = slice_get_within [] k x (subst (λ (xs : List Finding). slice_get xs k ≡ Some x) none at) in omega (arith, inside));
    }

-- 2. One state more was followed.

schedule-on : (was now : List KnownState) (place : ℕ) (schedule : List Move) → Continues was now → IsScheduleOf was place schedule → IsScheduleOf now (place + 1) schedule
schedule-on was now place schedule grown h = (h.0, h.1, let below = h.2 in omega (arith, below), slice-on was now h.0 h.1 grown h.3, h.4)

next-on : (was now : List KnownState) (place : ℕ) (next : List Move) → Continues was now → IsNextOfKnown was place next → IsNextOfKnown now (place + 1) next
next-on was now place next grown h = (h.0, h.1, let below = h.2 in omega (arith, below), slice-on was now h.0 h.1 grown h.3, h.4)

pub more-meets : (p : Program) (was now : List KnownState) (before found : List Finding) (place : ℕ) (d : KnownState) → MeetsStates p was before place → slice_get was place ≡ Some d
    → Continues was now → Continues before found → AreNext d.schedule.items was now → AreNew d.schedule.items before found
    → ((m : KnownState) → slice_get was place ≡ Some m → IsClosedSchedule p now found m.schedule.items) → MeetsStates p now found (place + 1)
more-meets p was now before found place d meets here grown more added fresh closed =
    let there = slice-on was now place d grown here in
    record {
      begins = known-grown p was now (opening p) grown meets.begins;
      closed = closed-more p was now before found place grown more (slice_get_within was place d here) meets.closed closed;
      near = λ k m at. elim (lt_or_le k (length was)) [
        | inl less ↦ elim (meets.near k m (slice-back was now k m grown less at)) [
          | inl first ↦ inl first
          | inr next ↦ inr (next-on was now place m.schedule.items grown next)
        ]
        | inr new ↦ inr (place, d, omega arith, there, added k m new at)
      ];
      ended = λ k x at. elim (lt_or_le k (length before)) [
        | inl less ↦ schedule-on was now place x.witness.items grown (meets.ended k x (slice-back before found k x more less at))
        | inr new ↦ (place, d, omega arith, there, (fresh k x new at).0)
      ];
    }

-- 3. All were followed.

closed-all : (p : Program) (known : List KnownState) (found : List Finding) (count : ℕ) → MeetsStates p known found count → count ≡ length known → IsClosedUpTo p known found (length known)
closed-all p known found count meets is = subst (λ (n : ℕ). IsClosedUpTo p known found n) is meets.closed

pub each-met : (p : Program) (known : List KnownState) (found : List Finding) (count : ℕ) → MeetsStates p known found count → count ≡ length known → HasEachKnown p known
each-met p known found count meets is = each-known p known found (closed-all p known found count meets is) meets.begins

pub each-outcome : (p : Program) (known : List KnownState) (found : List Finding) (count : ℕ) → MeetsStates p known found count → count ≡ length known → HasEachOutcome p found
each-outcome p known found count meets is = has-each p known found (closed-all p known found count meets is) meets.begins
