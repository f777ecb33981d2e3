-- A session that looks at the stripes, one after the other.
--     looks_itself, looks_on    no look, and a look after looks at other stripes
--     may_still                 the session may still begin its next call
--     look_told                 a look at one stripe
--     elsewhere                 what it leaves of the others
--     looked_none, looked_next  no stripe, and one stripe more
--     apart_next                the keys still differ, and are of the stripes that were looked at
--     sweeps_of                 a call that is carried out for the keys that were found
use Rattle.jc_bulk.proofs.Common.{DoesAll, HasLooked, IsLookedAt, LooksOnce, OnlyLooks, OrNoMemory, SweepsAll, BulkBehavior, BulkFault, CacheState, IsOf, MayCall, Session, Bytes, Op, Seated, all_early, front_found, grown_itself, grown_on, grown_phase, seen_own, view_set, view_there, HasGrown, view_at, ops_with, keys_once, keys_own, stripe_of, ◌≡◌, ◌==◌, ◌&&◌, ◌⊎◌, ⊎_elim, inl, inr, ◌+◌, ◌<◌, ◌++◌, ℕ, zero, suc, List, [], ◌∷◌, length, Bool, true, false, nat_lt, None, Some, Result, slice_get, refl, sym, ap, subst, ◌∙◌, arith, append-nil, append_assoc, length-append, same_Some, pointwise, same_text, AllByRecursion, IsAmong, IsDistinct, flat_map, list_all}
use Rattle.std.proofs.lemmas.Bool.{and_parts}
use Rattle.std.proofs.lemmas.Bool.Decides.{nat_tests}
use Rattle.std.proofs.lemmas.List.Folds.{list_all-append}
use Rattle.std.proofs.lemmas.Map.Keys.{IsDistinct-cons, IsDistinct-head, IsDistinct-tail}
use Rattle.jc_types.proofs.CallerLemmas.{all_imply}
use Rattle.jc_model.specs.declared.event.Event.{Event}
use Rattle.jc_stripe.specs.Generations.{IsOfSameStripe}
use Rattle.jc_stripe.specs.OnePhase.{OnePhase, own_steps}
use Rattle.jc_stripe.specs.OwnSteps.{is_before_call}
use Rattle.jc_stripe.specs.State.{State}
use Rattle.jc_lock.proofs.CallerLemmas.{same_itself}
use Rattle.jc_lock.specs.declared.view.View.{View}
use Rattle.jc_session.specs.Counting.{one_more}
use Rattle.jc_session.specs.declared.counts.Counted.TheVariants.{Nothing}
use Rattle.jc_cache.specs.PhaseCalls.{PhaseAt}
use Rattle.jc_cache.specs.Turns.{HasLent, looking}
use Rattle.jc_engine.specs.Rows.{AllLend}

-- 1. Keys of one stripe, behind those of lower stripes.

lower : (m i : ℕ) → nat_lt m i ≡ true → (m == i) ≡ false
lower m i lt = grind (arith, nat_tests)

differ : (n i : ℕ) (x y : Bytes) → nat_lt (stripe_of x n) i ≡ true → (stripe_of y n == i) ≡ true → pointwise ◌==◌ x y ≡ false
differ n i x y lt is = by (pointwise ◌==◌ x y) refl
  where
    by : (b : Bool) → pointwise ◌==◌ x y ≡ b → b ≡ false
    by true e = sym (sym (lower (stripe_of x n) i lt) ∙ ap (λ (k : Bytes). stripe_of k n == i) (same_text x y (sym e)) ∙ is)
    by false e = refl

differ_all : (n i : ℕ) (x : Bytes) (ys : List Bytes) → nat_lt (stripe_of x n) i ≡ true → list_all (λ k. stripe_of k n == i) ys ≡ true → AllByRecursion (λ y. pointwise ◌==◌ x y ≡ false) ys
differ_all n i x [] lt here = tt
differ_all n i x (y ∷ ys) lt here =
    let parts = and_parts (stripe_of y n == i) (list_all (λ k. stripe_of k n == i) ys) here in
    (differ n i x y lt parts.0, differ_all n i x ys lt parts.1)

both : (P : Bytes → Type 0) (xs ys : List Bytes) → AllByRecursion P xs → AllByRecursion P ys → AllByRecursion P (xs ++ ys)
both P [] ys a b = b
both P (x ∷ xs) ys a b = (a.0, both P xs ys a.1 b)

apart_push : (n i : ℕ) (xs ys : List Bytes) → list_all (λ k. nat_lt (stripe_of k n) i) xs ≡ true → list_all (λ k. stripe_of k n == i) ys ≡ true
    → IsDistinct (pointwise ◌==◌) xs → IsDistinct (pointwise ◌==◌) ys → IsDistinct (pointwise ◌==◌) (xs ++ ys)
apart_push n i [] ys below here a b = b
apart_push n i (x ∷ xs) ys below here a b =
    let parts = and_parts (nat_lt (stripe_of x n) i) (list_all (λ k. nat_lt (stripe_of k n) i) xs) below in
    IsDistinct-cons (pointwise ◌==◌) x (xs ++ ys)
    (both (λ y. pointwise ◌==◌ x y ≡ false) xs ys (IsDistinct-head (pointwise ◌==◌) x xs a) (differ_all n i x ys parts.0 here))
    (apart_push n i xs ys parts.1 here (IsDistinct-tail (pointwise ◌==◌) x xs a) b)

later : (m i : ℕ) → nat_lt m i ≡ true → nat_lt m (i + 1) ≡ true
later m i lt = grind (arith, nat_tests)

just : (m i : ℕ) → (m == i) ≡ true → nat_lt m (i + 1) ≡ true
just m i is = grind (arith, nat_tests)

below_push : (n i : ℕ) (xs ys : List Bytes) → list_all (λ k. nat_lt (stripe_of k n) i) xs ≡ true → list_all (λ k. stripe_of k n == i) ys ≡ true → list_all (λ k. nat_lt (stripe_of k n) (i + 1)) (xs ++ ys) ≡ true
below_push n i xs ys below here =
    list_all-append (λ k. nat_lt (stripe_of k n) (i + 1)) xs ys
    ∙ (λ j. all_imply (λ k. nat_lt (stripe_of k n) i) (λ k. nat_lt (stripe_of k n) (i + 1)) xs (λ k. later (stripe_of k n) i) below j
    && all_imply (λ k. stripe_of k n == i) (λ k. nat_lt (stripe_of k n) (i + 1)) ys (λ k. just (stripe_of k n) i) here j)

pub apart_next : (n i : ℕ) (xs ys zs : List Bytes) → zs ≡ xs ++ ys → list_all (λ k. nat_lt (stripe_of k n) i) xs ≡ true → list_all (λ k. stripe_of k n == i) ys ≡ true
    → IsDistinct (pointwise ◌==◌) xs → IsDistinct (pointwise ◌==◌) ys → IsDistinct (pointwise ◌==◌) zs × (list_all (λ k. nat_lt (stripe_of k n) (i + 1)) zs ≡ true)
apart_next n i xs ys zs is below here a b =
    (subst (IsDistinct (pointwise ◌==◌)) (sym is) (apart_push n i xs ys below here a b), ap (list_all (λ k. nat_lt (stripe_of k n) (i + 1))) is ∙ below_push n i xs ys below here)

-- 2. What was looked at.

pub looked_none : (old new : List Seated) (keys : List Bytes) → keys ≡ [] → HasLooked 0 old new keys
looked_none old new keys none = record { found = []; count = refl; each = λ i some there. cc; keys_are = none }

there_below : {X : Type 0} (xs : List X) (i : ℕ) (x : X) → slice_get xs i ≡ Some x → i < length xs
there_below [] i x there = cc
there_below (y ∷ xs) zero x there = omega arith
there_below (y ∷ xs) (suc i) x there = let near = there_below xs i x there in omega (arith, near)

-- the keys at a place of a list with one more
at_or : {X : Type 0} (xs : List X) (x y : X) (i : ℕ) → slice_get (xs ++ x ∷ []) i ≡ Some y → (slice_get xs i ≡ Some y) ⊎ ((i ≡ length xs) × (y ≡ x))
at_or [] x y zero there = inr (refl, sym (same_Some x y there))
at_or [] x y (suc i) there = let bad : None ≡ Some y = there in cc
at_or (z ∷ xs) x y zero there = inl there
at_or (z ∷ xs) x y (suc i) there = ⊎_elim (λ at. inl at) (λ last. inr (ap suc last.0, last.1)) (at_or xs x y i there)

abbrev all_in : List (List Bytes) → List Bytes
all_in xs = flat_map (λ (ys : List Bytes). ys) xs

all_push : (xs : List (List Bytes)) (x : List Bytes) → all_in (xs ++ x ∷ []) ≡ all_in xs ++ x
all_push [] x = append-nil x
all_push (y ∷ xs) x = ap (λ (zs : List Bytes). y ++ zs) (all_push xs x) ∙ sym (append_assoc y (all_in xs) x)

-- the stripe wasn't looked at before, and no other one is now
pub looked_next : (n : ℕ) (old mid new : List Seated) (keys keys' found : List Bytes) → view_at mid n ≡ view_at old n → ((i : ℕ) → (i ≡ n → ⊥) → view_at new i ≡ view_at mid i)
    → HasLooked n old mid keys → IsLookedAt (view_at mid n) (view_at new n) found → keys' ≡ keys ++ found → HasLooked (n + 1) old new keys'
looked_next n old mid new keys keys' found fresh others looked at is = record {
  found = looked.found ++ found ∷ [];
  count = length-append looked.found (found ∷ []) ∙ ap (λ m. m + 1) looked.count;
  each = λ i some there. ⊎_elim
      (λ here. subst (λ (w : View). IsLookedAt (view_at old i) w some) (sym (others i (below i some here))) (looked.each i some here))
      (λ last. subst (IsLookedAt (view_at old i) (view_at new i)) (sym last.1)
      (subst (λ m. IsLookedAt (view_at old m) (view_at new m) found) (sym (last.0 ∙ looked.count)) (subst (λ (u : View). IsLookedAt u (view_at new n) found) fresh at)))
      (at_or looked.found found some i there);
  keys_are = is ∙ ap (λ ks. ks ++ found) looked.keys_are ∙ sym (all_push looked.found found);
}
  where
    below : (i : ℕ) (some : List Bytes) → slice_get looked.found i ≡ Some some → i ≡ n → ⊥
    below i some there same = let near = there_below looked.found i some there in omega (arith, near, same, looked.count)

-- 3. The session.

none_lent : (v : View) → HasLent v [] v
none_lent v = record { lendings = sym (append-nil v.lendings); misses = refl }

same_or_not : (i n : ℕ) → (i ≡ n) ⊎ (i ≡ n → ⊥)
same_or_not zero zero = inl refl
same_or_not zero (suc n) = inr (λ is. absurd (omega (arith, is)))
same_or_not (suc i) zero = inr (λ is. absurd (omega (arith, is)))
same_or_not (suc i) (suc n) = ⊎_elim (λ same. inl (ap suc same)) (λ apart. inr (λ is. apart (omega (arith, is)))) (same_or_not i n)

module _ {I J : Type 0} {D : I → Type 0} {E : J → Type 0} where
  pub looks_itself : (session : Session I J D E) → OnlyLooks session session
  looks_itself session = record { grown = λ i. grown_itself (view_at session.seats.items i); looks = λ i. inl (none_lent (view_at session.seats.items i)); own = λ i. refl; agent = refl }

  -- a look at the stripe with this number, at which none of the looks before was
  pub looks_on : (n : ℕ) (a b c : Session I J D E) → view_at b.seats.items n ≡ view_at a.seats.items n → ((i : ℕ) → (i ≡ n → ⊥) → view_at c.seats.items i ≡ view_at b.seats.items i) → OnlyLooks a b → OnlyLooks b c → OnlyLooks a c
  looks_on n a b c fresh others p q = record {
    grown = λ i. grown_on (view_at a.seats.items i) (view_at b.seats.items i) (view_at c.seats.items i) (p.grown i) (q.grown i);
    looks = λ i. ⊎_elim
        (λ same. subst (λ (u : View). LooksOnce u (view_at c.seats.items i)) (ap (view_at b.seats.items) same ∙ fresh ∙ ap (view_at a.seats.items) (sym same)) (q.looks i))
        (λ apart. subst (LooksOnce (view_at a.seats.items i)) (sym (others i apart)) (p.looks i))
        (same_or_not i n);
    own = λ i. q.own i ∙ p.own i;
    agent = q.agent ∙ p.agent;
  }

  pub may_still : (cache : CacheState) (old new : Session I J D E) → MayCall cache old → IsOf cache new → OnlyLooks old new → MayCall cache new
  may_still cache old new may own looks = record {
    own = own;
    reservations = ap (λ a. a.counts.reservations) looks.agent ∙ may.reservations;
    joins = ap (λ a. a.counts.joins) looks.agent ∙ may.joins;
    numbers = λ i seat there.
        subst (λ a. list_all (is_before_call a.caller.session (one_more a.caller.call)) seat.1.own ≡ true) (sym looks.agent)
        (subst (λ es. list_all (is_before_call old.agent.caller.session (one_more old.agent.caller.call)) es ≡ true) (sym (looks.own i) ∙ ap (λ (v : View). v.own) (view_there new.seats.items i seat there)) (all_early cache old may i));
  }

  module _ (law : OnePhase) (cache : CacheState) (old new : Session I J D E) (own : IsOf cache old) (number : ℕ) (out out' : List Bytes) (x : PhaseAt number old (looking out out') Nothing new) where
    seats_on : (P : View → View → Type 0) → ((u : View) → P u u) → P x.before x.after → (i : ℕ) → P (view_at old.seats.items i) (view_at new.seats.items i)
    seats_on P stays moves i = ⊎_elim
        (λ t. subst (λ (u : View). P u (view_at new.seats.items i)) (sym (ap (view_at old.seats.items) t.0 ∙ view_there old.seats.items number (x.lock, x.before) x.was))
        (subst (P x.before) (sym (ap (λ (xs : List Seated). view_at xs i) x.now ∙ t.1)) moves))
        (λ t. subst (P (view_at old.seats.items i)) (sym (ap (λ (xs : List Seated). view_at xs i) x.now ∙ t.1)) (stays (view_at old.seats.items i)))
        (view_set old.seats.items number i (x.lock, x.before) (x.lock, x.after) x.was)

    -- the lendings are one look
    lent_here : HasLent x.before ((x.seat.found, x.seat.found) ∷ []) x.after
    lent_here = subst (λ (row : List (State × State)). HasLent x.before row x.after) (alone x.seat.waits x.seat.waited) x.seat.lent
      where
        alone : (waits : List (State × State)) → AllLend (λ a b. ⊥) waits → waits ++ (x.seat.found, x.after.noted) ∷ [] ≡ (x.seat.found, x.seat.found) ∷ []
        alone [] none = ap (λ (a : State). (x.seat.found, a) ∷ []) x.seat.made.0
        alone (p ∷ ps) none = absurd none.0

    pub elsewhere : (i : ℕ) → (i ≡ number → ⊥) → view_at new.seats.items i ≡ view_at old.seats.items i
    elsewhere i apart = ap (λ (xs : List Seated). view_at xs i) x.now ∙ ⊎_elim (λ t. absurd (apart t.0)) (λ t. t.1) (view_set old.seats.items number i (x.lock, x.before) (x.lock, x.after) x.was)

    same_own : x.after.own ≡ x.before.own
    same_own = seen_own law old.agent.caller.session _ x.before x.after x.seat (ap (own_steps old.agent.caller.session) x.seat.made.0)

    pub looks_at : OnlyLooks old new
    looks_at = record {
      grown = seats_on HasGrown grown_itself (grown_phase law old.agent.caller.session _ x.before x.after x.seat (λ event among. subst (λ (es : List Event). IsAmong es event) (sym same_own) among));
      looks = seats_on LooksOnce (λ u. inl (none_lent u)) (inr (x.seat.found, lent_here));
      own = seats_on (λ u v. v.own ≡ u.own) (λ u. refl) same_own;
      agent = x.left;
    }

    here : list_all (λ k. stripe_of k cache.config.stripes == number) x.seat.made.1.0 ≡ true
    here =
        let seat = own.seats number (x.lock, x.before) x.was in
        let s = x.seat.found in
        let config : s.config ≡ cache.config = x.seat.same.config ∙ seat.config_is in
        let stripe : s.stripe ≡ number = x.seat.same.stripe ∙ seat.stripe_is in
        sym (λ j. list_all (λ k. stripe_of k (config j).stripes == stripe j) x.seat.made.1.0) ∙ keys_own s x.seat.made.1.0 x.seat.reached x.seat.made.1.2

    pub look_told : (found : List Bytes) × (out' ≡ out ++ found) × IsLookedAt (view_at old.seats.items number) (view_at new.seats.items number) found
        × IsDistinct (pointwise ◌==◌) found × (list_all (λ k. stripe_of k cache.config.stripes == number) found ≡ true)
    look_told =
        let s = x.seat.found in
        let found = x.seat.made.1.0 in
        let at : IsLookedAt x.before x.after found = record {
          seen = s;
          reached = x.seat.reached;
          same = subst (IsOfSameStripe s) (sym x.seat.made.0) (same_itself s);
          since = x.seat.front;
          later = front_found law old.agent.caller.session _ x.before x.after x.seat;
          looked = lent_here;
          keys_are = x.seat.made.1.2;
        } in
        let was : view_at old.seats.items number ≡ x.before = view_there old.seats.items number (x.lock, x.before) x.was in
        let now : view_at new.seats.items number ≡ x.after =
        ap (λ (xs : List Seated). view_at xs number) x.now ∙ ⊎_elim (λ t. t.1) (λ t. absurd (t.0 refl)) (view_set old.seats.items number number (x.lock, x.before) (x.lock, x.after) x.was) in (
          found,
          x.seat.made.1.1,
          subst (λ (u : View). IsLookedAt u (view_at new.seats.items number) found) (sym was) (subst (λ (w : View). IsLookedAt x.before w found) (sym now) at),
          keys_once s found x.seat.reached x.seat.made.1.2,
          here,
        )

-- 4. The call.

module _ {I J : Type 0} {D : I → Type 0} {E : J → Type 0} (behavior : BulkBehavior ((i : I) × D i) ((j : J) × E j)) where
  pub sweeps_of : (cache : CacheState) (old mid new : Session I J D E) (op : Op) (list keys : List Bytes) (result : Result (Unit {0}) BulkFault) → OnlyLooks old mid → HasLooked cache.config.stripes old.seats.items mid.seats.items keys → list ≡ keys
      → OrNoMemory (DoesAll behavior cache mid (ops_with op list)) mid result new
      → SweepsAll cache.config.stripes (λ looked found. DoesAll behavior cache looked (ops_with op found)) old result new
  sweeps_of cache old mid new op list keys result looks looked is (inl h) =
      inl (keys, record { looked = mid; only = looks; found = looked; done = subst (λ ks. DoesAll behavior cache mid (ops_with op ks) result new) is h })
  sweeps_of cache old mid new op list keys result looks looked is (inr h) = inr (h.0, subst (OnlyLooks old) (sym h.1) looks)
