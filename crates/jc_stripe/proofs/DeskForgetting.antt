-- What a desk forgets leaves it a desk, and no entry goes but those that are told.
--     quiet_desk            a state that differs in nothing that a session sees is a desk's, too
--     invalidated_others    an invalidation leaves the entries of the other keys
--     given_others          so does a withdrawal
--     swept_others          and a sweep
use Rattle.std.proofs.Common.{◌≡◌, ◌==◌, ◌&&◌, ℕ, List, Bool, true, false, Option, None, Some, is_some, nat_lt, length, ◌++◌, ◌∷◌, [], map, refl, sym, ap, ◌∙◌, arith, if◌then◌else◌}
use Rattle.std.proofs.lemmas.Cmp.{nat_list_eq_equiv}
use Rattle.std.specs.List.{list_all}
use Rattle.std.specs.Cmp.Lexicographic.{pointwise, same_text}
use Rattle.jc_types.specs.declared.limits.TheConstants.{RESERVATIONS_MAX}
use Rattle.jc_model.specs.Cache.{Bytes, entry_at}
use Rattle.jc_model.proofs.CallerLemmas.{get-without}
use Rattle.jc_stripe.specs.declared.ticket.Reservation.{Reservation}
use Rattle.jc_stripe.specs.State.{State, is_reserved, is_marked, with_mark}
use Rattle.jc_stripe.specs.OrderOfUse.{least_used}
use Rattle.jc_stripe.specs.OwnSteps.{is_before_call}
use Rattle.jc_stripe.specs.Invalidating.{has_place, without_entry, after_invalidation, sweep, Invalidates, GivesBack, Sweeps}
use Rattle.jc_stripe.specs.DeskState.{IsDesk}
use Rattle.jc_stripe.specs.ValuesMoved.{KeepsOtherEntries, swept_key}
use Rattle.jc_stripe.proofs.Ending.{end_others}
use Rattle.jc_stripe.proofs.Settling.{IsQuiet}
use Rattle.jc_stripe.proofs.DeskStates.{desk_same, same_joined}

pub quiet_desk : (old new : State) (tickets : List Reservation) (next : ℕ) → IsDesk old tickets next → IsQuiet old new → IsDesk new tickets next
quiet_desk old new tickets next is quiet =
    desk_same old new tickets next next (omega arith) is quiet.reservations quiet.grows.same.origin quiet.grows.same.lives
    (same_joined old new next next (omega arith) quiet.joiners is.joined_below)
    (λ session. ap (list_all (is_before_call session next)) (quiet.own session) ∙ is.before session)

-- The entries of the other keys.

dropped_other : (state : State) (key other : Bytes) → pointwise ◌==◌ key other ≡ false → entry_at (without_entry state key).cache other ≡ entry_at state.cache other
dropped_other state key other differs = get-without state.cache key other false (nat_list_eq_equiv.symm other key ∙ differs)

marked_same : (state : State) (key : Bytes) → (with_mark state key).cache ≡ state.cache
marked_same state key = go (is_marked state key) (nat_lt (length state.marked) RESERVATIONS_MAX)
  where
    go : (marked few : Bool) → (if marked then state
        else (if few then record state { marked = state.marked ++ key ∷ [] } else record state { marked = map (λ r. r.key) state.reservations })).cache ≡ state.cache
    go true few = refl
    go false true = refl
    go false false = refl

after_others : (old : State) (key other : Bytes) → pointwise ◌==◌ key other ≡ false → entry_at (after_invalidation old key).cache other ≡ entry_at old.cache other
after_others old key other differs = go (is_reserved old key) (is_some (entry_at old.cache key)) (has_place old)
  where
    go : (reserved there place : Bool)
        → entry_at (if reserved then with_mark old key else (if there then (if place then without_entry old key else record old { shut = true }) else old)).cache other ≡ entry_at old.cache other
    go true there place = ap (λ c. entry_at c other) (marked_same old key)
    go false true true = dropped_other old key other differs
    go false true false = refl
    go false false place = refl

pub invalidated_others : (old new : State) (key : Bytes) → Invalidates old key new → KeepsOtherEntries old key None new
invalidated_others old new key is other differs unevicted = ap (λ (s : State). entry_at s.cache other) is ∙ after_others old key other differs

pub given_others : (old new : State) (r : Reservation) → GivesBack old r new → KeepsOtherEntries old r.key None new
given_others old new r g other differs unevicted =
    ap (λ (s : State). entry_at s.cache other) g.2 ∙ end_others (is_marked old r.key) g.0 r.key other differs ∙ ap (λ (s : State). entry_at s.cache other) g.1.1

differ : (key other : Bytes) → ((o : Option Bytes) → o ≡ Some key → o ≡ Some other → ⊥) → pointwise ◌==◌ key other ≡ false
differ key other h = go (pointwise ◌==◌ key other) refl
  where
    go : (b : Bool) → pointwise ◌==◌ key other ≡ b → b ≡ false
    go true e = absurd (h (Some key) refl (ap Some (same_text key other (sym e))))
    go false e = refl

least_others : (old : State) (o : Option Bytes) (place : Bool) (other : Bytes) → has_place old ≡ place → ((if place then o else None) ≡ Some other → ⊥) → entry_at (sweep old o).cache other ≡ entry_at old.cache other
least_others old None place other is h = refl
least_others old (Some key) true other is h = ap (λ b. entry_at (if b then without_entry old key else old).cache other) is ∙ dropped_other old key other (differ key other (λ o is same. h (sym is ∙ same)))
least_others old (Some key) false other is h = ap (λ b. entry_at (if b then without_entry old key else old).cache other) is

pub swept_others : (old new : State) → Sweeps old new → (other : Bytes) → (swept_key old ≡ Some other → ⊥) → entry_at new.cache other ≡ entry_at old.cache other
swept_others old new is other h = ap (λ (s : State). entry_at s.cache other) is ∙ go old.shut h
  where
    go : (shut : Bool) → ((if shut && has_place old then least_used old else None) ≡ Some other → ⊥) → entry_at (if shut then sweep old (least_used old) else old).cache other ≡ entry_at old.cache other
    go true e = least_others old (least_used old) (has_place old) other refl e
    go false e = refl
