-- After an invalidation of a key nothing from before it counts.
--     unreserved            a key without a part isn't reserved
--     told_invalidated      an invalidation of such a key, and the end of a marked one's reservation, leave nothing of it
--     marked_invalidated    an invalidation of a reserved key marks it
use Rattle.jc_world.proofs.Common.{◌≡◌, ℕ, Bool, true, false, cond, ◌&&◌, ◌||◌, List, [], ◌∷◌, ◌++◌, is_some, is_none, IsSomeAnd, Some, None, Option, slice_get, sym, refl, ap, ◌∙◌, subst, inl, inr, and_right, or_right, nat_list_eq_equiv, pointwise, ◌==◌, Happens, false_from_ne_true, nat_list_cmp_total, list_any, get, remove, get-remove, Bytes, entry_at, Reservation, Ends, GivesBack, Invalidates, State, is_key, is_reserved, Shown, WorldEvent, Part, Step, fits, may_invalidate, EndsAs, Each, IsOwned, AllOwned, IsSoundWorld, WorldState, home, stripe_for, entry_in, cached_entry, has_any, is_untold, is_foreign, part_of, with_phase, with_commit, without_part, fault_in, IsHeld}
use Rattle.std.specs.Prelude.{nat_lt, map, length}
use Rattle.jc_types.specs.declared.limits.TheConstants.{RESERVATIONS_MAX}
use Rattle.jc_stripe.specs.State.{is_marked, with_mark}
use Rattle.jc_stripe.specs.Invalidating.{has_place, without_entry, is_dropped, end_with, drop_or_shut, after_invalidation}
use Rattle.jc_world.specs.Invalidated.{is_marked_in, is_marked_at, Drops}
use Rattle.jc_world.proofs.Lemmas.{stripe_put, tied, split, ends_as, dropped_entry, same_bytes, part_key, some_of}
use Rattle.jc_world.proofs.Kept.{held_at}
use Rattle.jc_world.proofs.Reservations.{out_reserved}

-- 1. A key without a part.

some_there : {A : Type 0} (o : Option A) (P : A → Type 0) → IsSomeAnd o P → is_some o ≡ true
some_there None P h = absurd h
some_there (Some x) P h = refl

owned_there : (w : WorldState) (key : Bytes) (rs : List Reservation) → AllOwned w rs → list_any (is_key key) rs ≡ true → is_some (get w.parts key) ≡ true
owned_there w key [] each there = cc
owned_there w key (r ∷ rs) each there =
    elim (is_key key r) as (λ b. is_key key r ≡ b → (b || list_any (is_key key) rs) ≡ true → is_some (get w.parts key) ≡ true) [
      | true ↦ λ e there. ap (λ k. is_some (get w.parts k)) (same_bytes key r.key e) ∙ some_there (get w.parts r.key) _ each.0.part
      | false ↦ λ e there. owned_there w key rs each.1 there
    ] refl there

pub unreserved : (w : WorldState) (key : Bytes) (s : State) → stripe_for w key ≡ Some s → get w.parts key ≡ None → IsSoundWorld w → is_reserved s key ≡ false
unreserved w key s at none old =
    false_from_ne_true (is_reserved s key) (λ there. let t : true ≡ false = sym (owned_there w key s.reservations (old.owned (home w key) s at) there) ∙ ap is_some none in cc)

-- 2. Nothing is left.

-- no entry after an end of a marked key
end_gone : (ended : State) (key : Bytes) → entry_at (end_with true ended key).cache key ≡ None
end_gone ended key = go (entry_at ended.cache key) refl
  where
    go : (o : Option Bytes) → entry_at ended.cache key ≡ o → entry_at (cond (true && is_some (entry_at ended.cache key)) (without_entry ended key) ended).cache key ≡ None
    go None is = ap (λ (o : Option Bytes). entry_at (cond (true && is_some o) (without_entry ended key) ended).cache key) is ∙ is
    go (Some value) is = ap (λ (o : Option Bytes). entry_at (cond (true && is_some o) (without_entry ended key) ended).cache key) is ∙ dropped_entry ended key

-- no entry after an invalidation of a key that isn't reserved, if a place is free for its eviction
invalid_gone : (from : State) (key : Bytes) → is_reserved from key ≡ false → may_invalidate (Some from) key ≡ true → entry_at (after_invalidation from key).cache key ≡ None
invalid_gone from key free may =
    ap (λ b. entry_at (cond b (with_mark from key) (cond (is_some (entry_at from.cache key)) (drop_or_shut from key) from)).cache key) free
    ∙ go (entry_at from.cache key) refl (sym (ap (λ b. b || is_none (entry_at from.cache key) || has_place from) free) ∙ may)
  where
    go : (o : Option Bytes) → entry_at from.cache key ≡ o → (false || is_none (entry_at from.cache key) || has_place from) ≡ true → entry_at (cond (is_some (entry_at from.cache key)) (drop_or_shut from key) from).cache key ≡ None
    go None is h = ap (λ (o : Option Bytes). entry_at (cond (is_some o) (drop_or_shut from key) from).cache key) is ∙ is
    go (Some value) is h =
        let place : has_place from ≡ true = sym (ap (λ (o : Option Bytes). false || is_none o || has_place from) is) ∙ h in
        ap (λ (o : Option Bytes). entry_at (cond (is_some o) (drop_or_shut from key) from).cache key) is
        ∙ ap (λ b. entry_at (cond b (without_entry from key) (record from { shut = true })).cache key) place
        ∙ dropped_entry from key

-- a world in which the stripe of a key has no entry of it, and the key no part
nothing_at : (w new m : WorldState) (key : Bytes) (from to : State) → stripe_for w key ≡ Some from → new ≡ m → slice_get m.stripes (home m key) ≡ Some to → entry_at to.cache key ≡ None → get m.parts key ≡ None → (has_any new key ≡ false) × (is_untold new key ≡ false)
nothing_at w new m key from to there is at gone none =
    let entry : cached_entry m key ≡ None = ap (λ o. entry_in o key) at ∙ gone in
    let any : has_any new key ≡ false = ap (λ (v : WorldState). has_any v key) is ∙ (λ i. is_some (entry i) || is_some (none i)) in
    (any, ap (λ b. is_foreign new key && b) any ∙ and_right (is_foreign new key) false refl)

removed : (w : WorldState) (key : Bytes) → get (remove w.parts key) key ≡ None
removed w key = get-remove nat_list_cmp_total w.parts key key ∙ ap (λ b. cond b None (get w.parts key)) (tied key)

told_at : (w new : WorldState) (e : WorldEvent) (key : Bytes) (s : Shown) → IsSoundWorld w → Drops w key e → fits w e ≡ true → Happens w e s new → (has_any new key ≡ false) × (is_untold new key ≡ false)
told_at w new (WorldEvent.Invalidate k) key s old (same, none) fit h =
    let N : Bytes → Type 0 = λ q. get w.parts q ≡ None in
    let none_at : get w.parts k ≡ None = subst N (sym same) none in
    let free = unreserved w k h.0 h.1 none_at old in
    let may : may_invalidate (Some h.0) k ≡ true = ap (λ o. may_invalidate o k) (sym h.1) ∙ fit in
    let gone : entry_at h.2.cache k ≡ None = ap (λ (s : State). entry_at s.cache k) h.3 ∙ invalid_gone h.0 k free may in
    let R : Bytes → Type 0 = λ q. (has_any new q ≡ false) × (is_untold new q ≡ false) in
    subst R same (nothing_at w new (record (with_phase w k h.0 h.2) { is_fresh = false }) k h.0 h.2 h.1 h.5 (stripe_put w.stripes (home w k) h.0 h.2 h.1) gone none_at)
told_at w new (WorldEvent.Commit call k) key s old (same, marked) fit h =
    let e = ends_as w new call k h.0 h.2 h.4 s.outcome h.5 in
    let r = h.0.reservation in
    let key_is : r.key ≡ k = part_key w call k h.0 h.1 old in
    let at : is_marked h.2 r.key ≡ true = ap (is_marked h.2) (key_is ∙ same) ∙ sym (ap (λ o. is_marked_in o key) (sym (ap (stripe_for w) same) ∙ h.3)) ∙ marked in
    let gone : entry_at h.4.cache k ≡ None =
    ap (λ (s : State). entry_at s.cache k) e.2.4 ∙ (λ i. entry_at (end_with (at i) e.2.0 (key_is i)).cache k) ∙ end_gone e.2.0 k
    in
    let R : Bytes → Type 0 = λ q. (has_any new q ≡ false) × (is_untold new q ≡ false) in
    subst R same (nothing_at w new (with_commit w k h.0 h.2 h.4 call (fault_in e.0.reply)) k h.2 h.4 h.3 e.4 (stripe_put w.stripes (home w k) h.2 h.4 h.3) gone (removed w k))
told_at w new (WorldEvent.Withdraw call k) key s old (same, marked) fit h =
    let r = h.0.reservation in
    let key_is : r.key ≡ k = part_key w call k h.0 h.1 old in
    let at : is_marked h.2 r.key ≡ true = ap (is_marked h.2) (key_is ∙ same) ∙ sym (ap (λ o. is_marked_in o key) (sym (ap (stripe_for w) same) ∙ h.3)) ∙ marked in
    let gone : entry_at h.4.cache k ≡ None =
    ap (λ (s : State). entry_at s.cache k) h.5.2 ∙ (λ i. entry_at (end_with (at i) h.5.0 (key_is i)).cache k) ∙ end_gone h.5.0 k
    in
    let R : Bytes → Type 0 = λ q. (has_any new q ≡ false) × (is_untold new q ≡ false) in
    subst R same (nothing_at w new (without_part (with_phase w k h.2 h.4) k) k h.2 h.4 h.3 h.7 (stripe_put w.stripes (home w k) h.2 h.4 h.3) gone (removed w k))
told_at w new e key s old drops fit h = absurd drops

pub told_invalidated : (w new : WorldState) (e : WorldEvent) (key : Bytes) (s : Shown) → IsSoundWorld w → Drops w key e → fits w e ≡ true → Step w e s new → (has_any new key ≡ false) × (is_untold new key ≡ false)
told_invalidated w new e key s old drops fit (inl (fits_too, h)) = told_at w new e key s old drops fit h
told_invalidated w new e key s old drops fit (inr (unfit, shows, is)) = absurd (let t : true ≡ false = sym fit ∙ unfit in cc)

-- 3. A reserved key is marked.

among_last : (xs : List Bytes) (key : Bytes) → list_any (pointwise ◌==◌ key) (xs ++ key ∷ []) ≡ true
among_last [] key = ap (λ b. b || false) (nat_list_eq_equiv.refl key)
among_last (x ∷ xs) key = or_right _ _ (among_last xs key)

among_all : (rs : List Reservation) (key : Bytes) → list_any (is_key key) rs ≡ true → list_any (pointwise ◌==◌ key) (map (λ (r : Reservation). r.key) rs) ≡ true
among_all [] key h = h
among_all (r ∷ rs) key h =
    elim (is_key key r) as (λ b. (b || list_any (is_key key) rs) ≡ true → (b || list_any (pointwise ◌==◌ key) (map (λ (r : Reservation). r.key) rs)) ≡ true) [
      | true ↦ λ h. refl
      | false ↦ λ h. among_all rs key h
    ] h

mark_there : (s : State) (key : Bytes) → is_reserved s key ≡ true → is_marked (with_mark s key) key ≡ true
mark_there s key reserved =
    elim (is_marked s key) as (λ b. is_marked s key ≡ b → is_marked (cond b s (cond (nat_lt (length s.marked) RESERVATIONS_MAX) (record s { marked = s.marked ++ key ∷ [] }) (record s { marked = map (λ (r : Reservation). r.key) s.reservations }))) key ≡ true) [
      | true ↦ λ e. e
      | false ↦ λ e. elim (nat_lt (length s.marked) RESERVATIONS_MAX) as (λ b. is_marked (cond b (record s { marked = s.marked ++ key ∷ [] }) (record s { marked = map (λ (r : Reservation). r.key) s.reservations })) key ≡ true) [
        | true ↦ among_last s.marked key
        | false ↦ among_all s.reservations key reserved
      ]
    ] refl

pub marked_invalidated : (w new : WorldState) (key : Bytes) (part : Part) (s : Shown) → IsSoundWorld w → get w.parts key ≡ Some part → Step w (WorldEvent.Invalidate key) s new → (fits w (WorldEvent.Invalidate key) ≡ true) × (is_marked_at new key ≡ true)
marked_invalidated w new key part s old there step =
    let at = some_of (stripe_for w key) (λ s. IsHeld s key part) (old.held key part there) in
    let out : is_reserved at.0 key ≡ true = ap (is_reserved at.0) (sym at.2.key_is) ∙ out_reserved part.reservation.key part.reservation at.0.reservations at.2.out in
    let fit : fits w (WorldEvent.Invalidate key) ≡ true = ap (λ o. may_invalidate o key) at.1 ∙ ap (λ b. b || is_none (entry_at at.0.cache key) || has_place at.0) out in
    (fit, go step at.0 at.1 out fit)
  where
    go : Step w (WorldEvent.Invalidate key) s new → (from : State) → stripe_for w key ≡ Some from → is_reserved from key ≡ true → fits w (WorldEvent.Invalidate key) ≡ true → is_marked_at new key ≡ true
    go (inl (fit, h)) from there out fits_too =
        let same : h.0 ≡ from = let t : Some h.0 ≡ Some from = sym h.1 ∙ there in cc in
        let reserved : is_reserved h.0 key ≡ true = ap (λ (x : State). is_reserved x key) same ∙ out in
        let to_is : h.2 ≡ with_mark h.0 key = h.3 ∙ ap (λ b. cond b (with_mark h.0 key) (cond (is_some (entry_at h.0.cache key)) (drop_or_shut h.0 key) h.0)) reserved in
        ap (λ (v : WorldState). is_marked_at v key) h.5 ∙ ap (λ o. is_marked_in o key) (stripe_put w.stripes (home w key) h.0 h.2 h.1)
        ∙ ap (λ (x : State). is_marked x key) to_is ∙ mark_there h.0 key reserved
    go (inr (unfit, shows, is)) from there out fits_too = absurd (let t : true ≡ false = sym fits_too ∙ unfit in cc)
