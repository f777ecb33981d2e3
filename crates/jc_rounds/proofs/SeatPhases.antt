-- One phase at one seat, and what it leaves of all of a session's seats.
--     MovesSeat          what a phase of the call at this key leaves of the key's seat
--     phases_none, phases_on, phases_among      no lending, lendings after lendings, and lendings at keys of which more is so
--     grown_phase, grown_itself, grown_on    a phase, no phase, and two phases: the front has grown
--     found_later, found_since               a lending, up to a later view, and from an earlier one on
--     found_phase                            the lending of a phase
--     seen_phase, gained_phase               a phase that leaves the own steps, and one that makes one more, at any place
--     view_set           the views after one seat was replaced
--     view_there         the view of a seat that is there
--     moves_all          what a phase leaves of all seats
use Rattle.jc_rounds.proofs.Common.{◌≡◌, ◌==◌, ◌&&◌, ◌⊎◌, ⊎_elim, inl, inr, ℕ, zero, suc, List, [], ◌∷◌, ◌++◌, Bool, true, false, Option, Some, slice_get, slice_set, refl, sym, ap, subst, ◌∙◌, arith, le_refl, append_assoc, append-nil, and_from, nat_tests, nat_list_eq_equiv, same_Some, AllByRecursion, IsAmong, pointwise, stripe_of, Caller, Bytes, Event, Step, Op, Out, Reply, State, whole_history, OnePhase, IsUniform, own_steps, whole_goes_on, own_stay, View, prefix-refl, prefix-trans, same_itself, same_on, AllLend, Turn, SeatPhase, IsEarly, steps_of, former_steps, are_before, HasFound, HasGrown, MovesAtKey, is_at, view_at, ◌≤◌, length, length-append}
use mathlib.Core.List.{IsPrefix}
use Rattle.atomic_table.specs.Seated.{TableId}
use Rattle.jc_engine.specs.Doors.{MakesWay}
use Rattle.jc_cache.specs.Fronts.{HasAllSeen}
use Rattle.jc_rounds.specs.Lendings.{IsPhaseAt, OnlyPhases}
use Rattle.jc_rounds.proofs.CallSteps.{before-gained, former-gained, others-gained}

abbrev pub Seated : Type 0
Seated = TableId × View

-- 1. One seat.

pub longer : (xs ys : List Event) → IsPrefix xs ys → length xs ≤ length ys
longer xs ys p = let n = length-append xs p.0 in let e = ap length p.1 in omega arith

among_push : {X : Type 0} (xs ys : List X) (x v : X) → IsAmong (xs ++ ys) v → IsAmong (xs ++ x ∷ ys) v
among_push [] ys x v (i, (lt, is)) = (suc i, (omega (arith, lt), is))
among_push (y ∷ xs) ys x v (zero, (lt, is)) = (zero, (omega arith, is))
among_push (y ∷ xs) ys x v (suc i, (lt, is)) = let rest = among_push xs ys x v (i, (omega (arith, lt), is)) in (suc rest.0, (omega (arith, rest.1.0), rest.1.1))

pub record MovesSeat (caller : Caller) (key : Bytes) (v w : View) : Type 0 where
  pub grown : HasGrown v w
  pub others : (q : Bytes) → pointwise ◌==◌ key q ≡ false → steps_of caller q w.own ≡ steps_of caller q v.own
  pub former : former_steps caller w.own ≡ former_steps caller v.own
  pub numbers : are_before caller v.own ≡ true → are_before caller w.own ≡ true
  pub phases : OnlyPhases caller (λ other. other ≡ key) v w

pub phases_none : (caller : Caller) (at : Bytes → Type 0) (v : View) → OnlyPhases caller at v v
phases_none caller at v = record { row = []; lent = record { lendings = sym (append-nil v.lendings); misses = refl }; each = tt }

all_on : (P : State × State → Type 0) (xs ys : List (State × State)) → AllByRecursion P xs → AllByRecursion P ys → AllByRecursion P (xs ++ ys)
all_on P [] ys one two = two
all_on P (x ∷ xs) ys one two = (one.0, all_on P xs ys one.1 two)

all_by : (P Q : State × State → Type 0) (xs : List (State × State)) → ((p : State × State) → P p → Q p) → AllByRecursion P xs → AllByRecursion Q xs
all_by P Q [] by all = tt
all_by P Q (x ∷ xs) by all = (by x all.0, all_by P Q xs by all.1)

all_lent : (P : State → State → Type 0) (Q : State × State → Type 0) (xs : List (State × State)) → ((a b : State) → P a b → Q (a, b)) → AllLend P xs → AllByRecursion Q xs
all_lent P Q [] by all = tt
all_lent P Q (x ∷ xs) by all = (by x.0 x.1 all.0, all_lent P Q xs by all.1)

pub phases_on : (caller : Caller) (at : Bytes → Type 0) (u v w : View) → OnlyPhases caller at u v → OnlyPhases caller at v w → OnlyPhases caller at u w
phases_on caller at u v w p q = record {
  row = p.row ++ q.row;
  lent = record { lendings = q.lent.lendings ∙ ap (λ (ls : List (State × State)). ls ++ q.row) p.lent.lendings ∙ append_assoc u.lendings p.row q.row; misses = q.lent.misses ∙ p.lent.misses };
  each = all_on (λ (p : State × State). MakesWay p.0 p.1 ⊎ ((key : Bytes) × at key × IsPhaseAt caller key p.0 p.1)) p.row q.row p.each q.each;
}

pub phases_among : (caller : Caller) (at at' : Bytes → Type 0) (v w : View) → ((key : Bytes) → at key → at' key) → OnlyPhases caller at v w → OnlyPhases caller at' v w
phases_among caller at at' v w among p = record {
  row = p.row;
  lent = p.lent;
  each = all_by (λ (p : State × State). MakesWay p.0 p.1 ⊎ ((key : Bytes) × at key × IsPhaseAt caller key p.0 p.1)) (λ (p : State × State). MakesWay p.0 p.1 ⊎ ((key : Bytes) × at' key × IsPhaseAt caller key p.0 p.1)) p.row
      (λ lent. ⊎_elim (λ quiet. inl quiet) (λ part. inr (part.0, among part.0 part.1, part.2))) p.each;
}

pub grown_itself : (v : View) → HasGrown v v
grown_itself v = record { front = prefix-refl v.front; same = same_itself v.noted; next = le_refl v.noted.next; all = λ a. a; own = λ event among. among; row = []; lendings = sym (append-nil v.lendings) }

pub grown_on : (u v w : View) → HasGrown u v → HasGrown v w → HasGrown u w
grown_on u v w p q = record { front = prefix-trans u.front v.front w.front p.front q.front; same = same_on u.noted v.noted w.noted p.same q.same; next = (let one = p.next in let two = q.next in omega arith); all = λ a. q.all (p.all a); own = λ event among. q.own event (p.own event among); row = p.row ++ q.row; lendings = q.lendings ∙ ap (λ (ls : List (State × State)). ls ++ q.row) p.lendings ∙ append_assoc u.lendings p.row q.row }

-- a lending, up to a later view, and from an earlier one on
pub found_later : (u v w : View) (seen left : State) → HasGrown v w → HasFound u seen left v → HasFound u seen left w
found_later u v w seen left grown was = record {
  earlier = was.earlier;
  since = was.since ++ grown.row;
  lendings = grown.lendings ∙ ap (λ (ls : List (State × State)). ls ++ grown.row) was.lendings ∙ append_assoc u.lendings (was.earlier ++ (seen, left) ∷ was.since) grown.row
      ∙ ap (λ (ls : List (State × State)). u.lendings ++ ls) (append_assoc was.earlier ((seen, left) ∷ was.since) grown.row);
}

pub found_since : (u v w : View) (seen left : State) → HasGrown u v → HasFound v seen left w → HasFound u seen left w
found_since u v w seen left grown was = record {
  earlier = grown.row ++ was.earlier;
  since = was.since;
  lendings = was.lendings ∙ ap (λ (ls : List (State × State)). ls ++ (was.earlier ++ (seen, left) ∷ was.since)) grown.lendings ∙ append_assoc u.lendings grown.row (was.earlier ++ (seen, left) ∷ was.since)
      ∙ ap (λ (ls : List (State × State)). u.lendings ++ ls) (sym (append_assoc grown.row was.earlier ((seen, left) ∷ was.since)));
}

-- a turn of the call at this key
abbrev pub IsTurnOfCall : Turn → Caller → Bytes → Type 0
IsTurnOfCall turn caller key = ((a b : State) → turn.waits a b → MakesWay a b) × ((a b : State) → turn.makes a b → IsPhaseAt caller key a b)

module _ (law : OnePhase) (session : ℕ) (turn : Turn) (v w : View) (x : SeatPhase session v turn w) where
  pub uniform : IsUniform session x.found w.noted
  uniform = law session x.found w.noted x.reached x.one

  pub front_found : IsPrefix (whole_history x.found) w.front
  front_found = subst (IsPrefix (whole_history x.found)) (sym x.front_is) (whole_goes_on x.found w.noted uniform.grows)

  pub all_now : HasAllSeen w
  all_now = record { reached = uniform.reached; front = x.front_is }

  pub grown_phase : ((event : Event) → IsAmong v.own event → IsAmong w.own event) → HasGrown v w
  grown_phase keeps = record {
    front = prefix-trans v.front (whole_history x.found) w.front x.front front_found;
    same = x.seat.same;
    next = x.seat.next;
    all = λ a. all_now;
    own = keeps;
    row = x.waits ++ (x.found, w.noted) ∷ [];
    lendings = x.lent.lendings;
  }

  pub found_phase : HasFound v x.found w.noted w
  found_phase = record { earlier = x.waits; since = []; lendings = x.lent.lendings }

  -- it has waited, and has made a phase at this key
  phases_made : (caller : Caller) (key : Bytes) → IsTurnOfCall turn caller key → OnlyPhases caller (λ other. other ≡ key) v w
  phases_made caller key part = record {
    row = x.waits ++ (x.found, w.noted) ∷ [];
    lent = x.lent;
    each = all_on (λ (p : State × State). MakesWay p.0 p.1 ⊎ ((other : Bytes) × (other ≡ key) × IsPhaseAt caller other p.0 p.1)) x.waits ((x.found, w.noted) ∷ [])
        (all_lent turn.waits (λ (p : State × State). MakesWay p.0 p.1 ⊎ ((other : Bytes) × (other ≡ key) × IsPhaseAt caller other p.0 p.1)) x.waits (λ a b waits. inl (part.0 a b waits)) x.waited)
        (inr (key, refl, part.1 x.found w.noted x.made), tt);
  }

  pub seen_own : own_steps session w.noted ≡ own_steps session x.found → w.own ≡ v.own
  seen_own same = x.own_is ∙ own_stay session x.found w.noted uniform.grows.same.ended same ∙ x.own

  pub seen_phase : (caller : Caller) (key : Bytes) → IsTurnOfCall turn caller key → own_steps session w.noted ≡ own_steps session x.found → MovesSeat caller key v w
  seen_phase caller key part same = record {
    grown = grown_phase (λ event among. subst (λ xs. IsAmong xs event) (sym (seen_own same)) among);
    others = λ q apart. ap (steps_of caller q) (seen_own same);
    former = ap (former_steps caller) (seen_own same);
    numbers = λ before. ap (are_before caller) (seen_own same) ∙ before;
    phases = phases_made caller key part;
  }

  pub gained_phase : (caller : Caller) (key : Bytes) → IsTurnOfCall turn caller key → (op : Op) (out : Out) (shared : Option ℕ) (reply : Reply) (xs ys : List Event) → v.own ≡ xs ++ ys → w.own ≡ xs ++ Step caller op key out shared reply ∷ ys → IsEarly caller
      → MovesSeat caller key v w
  gained_phase caller key part op out shared reply xs ys was is early = record {
    grown = grown_phase (λ event among. subst (λ zs. IsAmong zs event) (sym is) (among_push xs ys (Step caller op key out shared reply) event (subst (λ zs. IsAmong zs event) was among)));
    others = others-gained caller key op out shared reply v.own w.own xs ys was is;
    former = former-gained caller key op out shared reply v.own w.own xs ys was is;
    numbers = before-gained caller key op out shared reply v.own w.own xs ys was is early;
    phases = phases_made caller key part;
  }

-- 2. All seats.

pub view_there : (xs : List Seated) (i : ℕ) (x : Seated) → slice_get xs i ≡ Some x → view_at xs i ≡ x.1
view_there [] i x at = cc
view_there (y ∷ xs) zero x at = ap (λ (z : Seated). z.1) (same_Some y x at)
view_there (y ∷ xs) (suc i) x at = view_there xs i x at

differ : (i j : ℕ) → (i ≡ j → ⊥) → (i == j) ≡ false
differ i j apart = grind (arith, nat_tests)

-- the view at the seat that was replaced, and elsewhere
pub view_set : (xs : List Seated) (i j : ℕ) (x y : Seated) → slice_get xs i ≡ Some x → ((j ≡ i) × (view_at (slice_set xs i y) j ≡ y.1)) ⊎ ((i ≡ j → ⊥) × (view_at (slice_set xs i y) j ≡ view_at xs j))
view_set [] i j x y at = cc
view_set (z ∷ xs) zero zero x y at = inl (refl, refl)
view_set (z ∷ xs) zero (suc j) x y at = inr ((λ e. cc), refl)
view_set (z ∷ xs) (suc i) zero x y at = inr ((λ e. cc), refl)
view_set (z ∷ xs) (suc i) (suc j) x y at = ⊎_elim (λ t. inl (ap suc t.0, t.1)) (λ t. inr ((λ e. t.0 (omega arith)), t.1)) (view_set xs i j x y at)

pub view_here : (xs : List Seated) (i : ℕ) (x y : Seated) → slice_get xs i ≡ Some x → view_at (slice_set xs i y) i ≡ y.1
view_here xs i x y at = ⊎_elim (λ t. t.1) (λ t. absurd (t.0 refl)) (view_set xs i i x y at)

-- so the key is another one
apart_here : (a b : Bool) → b ≡ true → (a && b) ≡ false → a ≡ false
apart_here true b is h = cc
apart_here false b is h = refl

same_number : (i j : ℕ) → j ≡ i → (i == j) ≡ true
same_number i j is = grind (arith, nat_tests)

pub moves_all : (caller : Caller) (stripes : ℕ) (key : Bytes) (old new : List Seated) (lock : TableId) (v w : View) → slice_get old (stripe_of key stripes) ≡ Some (lock, v) → new ≡ slice_set old (stripe_of key stripes) (lock, w)
    → MovesSeat caller key v w → MovesAtKey caller stripes key old new
moves_all caller stripes key old new lock v w was now moves = record {
  grown = λ i. ⊎_elim (λ t. grows i t.0 t.1) (λ t. stays (HasGrown (view_at old i)) i t.1 (grown_itself (view_at old i))) (at i);
  others = λ other i not_at. ⊎_elim
      (λ t. ap (λ (u : View). steps_of caller other u.own) (here i t.1)
      ∙ moves.others other (apart_here (pointwise ◌==◌ key other) (stripe_of key stripes == i) (same_number (stripe_of key stripes) i t.0) not_at)
      ∙ ap (λ (u : View). steps_of caller other u.own) (sym (there i t.0)))
      (λ t. ap (λ (u : View). steps_of caller other u.own) (same i t.1))
      (at i);
  former = λ i. ⊎_elim
      (λ t. ap (λ (u : View). former_steps caller u.own) (here i t.1) ∙ moves.former ∙ ap (λ (u : View). former_steps caller u.own) (sym (there i t.0)))
      (λ t. ap (λ (u : View). former_steps caller u.own) (same i t.1))
      (at i);
  numbers = λ i before. ⊎_elim
      (λ t. ap (λ (u : View). are_before caller u.own) (here i t.1) ∙ moves.numbers (ap (λ (u : View). are_before caller u.own) (sym (there i t.0)) ∙ before))
      (λ t. ap (λ (u : View). are_before caller u.own) (same i t.1) ∙ before)
      (at i);
  phases = λ i. ⊎_elim
      (λ t. phases_among caller (λ other. other ≡ key) (λ other. is_at stripes key other i ≡ true) (view_at old i) (view_at new i) (λ other is. at_key other i is t.0) (worked i t.0 t.1))
      (λ t. stays (OnlyPhases caller (λ other. is_at stripes key other i ≡ true) (view_at old i)) i t.1 (phases_none caller (λ other. is_at stripes key other i ≡ true) (view_at old i)))
      (at i);
}
  where
    at : (i : ℕ) → ((i ≡ stripe_of key stripes) × (view_at (slice_set old (stripe_of key stripes) (lock, w)) i ≡ w)) ⊎ ((stripe_of key stripes ≡ i → ⊥) × (view_at (slice_set old (stripe_of key stripes) (lock, w)) i ≡ view_at old i))
    at i = view_set old (stripe_of key stripes) i (lock, v) (lock, w) was

    there : (i : ℕ) → i ≡ stripe_of key stripes → view_at old i ≡ v
    there i is = ap (view_at old) is ∙ view_there old (stripe_of key stripes) (lock, v) was

    here : (i : ℕ) → view_at (slice_set old (stripe_of key stripes) (lock, w)) i ≡ w → view_at new i ≡ w
    here i set_is = ap (λ (xs : List Seated). view_at xs i) now ∙ set_is

    same : (i : ℕ) → view_at (slice_set old (stripe_of key stripes) (lock, w)) i ≡ view_at old i → view_at new i ≡ view_at old i
    same i set_is = ap (λ (xs : List Seated). view_at xs i) now ∙ set_is

    stays : (P : View → Type 0) (i : ℕ) → view_at (slice_set old (stripe_of key stripes) (lock, w)) i ≡ view_at old i → P (view_at old i) → P (view_at new i)
    stays P i set_is p = subst P (sym (same i set_is)) p

    at_key : (other : Bytes) (i : ℕ) → other ≡ key → i ≡ stripe_of key stripes → is_at stripes key other i ≡ true
    at_key other i is same = and_from (pointwise ◌==◌ key other) (stripe_of key stripes == i) (ap (pointwise ◌==◌ key) is ∙ nat_list_eq_equiv.refl key) (same_number (stripe_of key stripes) i same)

    worked : (i : ℕ) → i ≡ stripe_of key stripes → view_at (slice_set old (stripe_of key stripes) (lock, w)) i ≡ w → OnlyPhases caller (λ other. other ≡ key) (view_at old i) (view_at new i)
    worked i is set_is = subst (λ (u : View). OnlyPhases caller (λ other. other ≡ key) u (view_at new i)) (sym (there i is)) (subst (OnlyPhases caller (λ other. other ≡ key) v) (sym (here i set_is)) moves.phases)

    grows : (i : ℕ) → i ≡ stripe_of key stripes → view_at (slice_set old (stripe_of key stripes) (lock, w)) i ≡ w → HasGrown (view_at old i) (view_at new i)
    grows i is set_is = subst (λ (u : View). HasGrown u (view_at new i)) (sym (there i is)) (subst (HasGrown v) (sym (here i set_is)) moves.grown)
