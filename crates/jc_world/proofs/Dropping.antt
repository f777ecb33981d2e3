-- The eviction of an invalidated key: at a stripe, and in a world.
--     freed                          a key isn't reserved once its reservation is over
--     unreserved_apart               a reserved key is another one than a key that isn't
--     drop_extends, end_extends      a stripe that evicts the key extends what it was
--     ends_extends, gives_back_extends, invalidates_extends
--                                    so do an end, a withdrawal and an invalidation
--     marked_is                      a mark changes the marks alone
--     EndLeaves, BackLeaves          what an end and a withdrawal leave of the stripe
--     invalid_same                   an invalidation changes marks, and entries with their history, alone
--     dropped_entry                  the entry is gone
--     with_dropped                   a world with the eviction
--     Drop                           a world is another one with the eviction of a key that isn't reserved
--     set_twice                      a stripe that is set twice is what it was set to last
--     added_none, added_one          what a stripe appends: nothing, or the eviction
--     same_phase                     a stripe whose history stays leaves the order
use Rattle.jc_world.proofs.Common.{IsOut, after_resolve, after_dissolve, ◌≡◌, ℕ, zero, suc, ◌+◌, Bool, true, false, cond, not, ◌&&◌, ◌||◌, List, [], ◌∷◌, ◌++◌, length, drop, is_some, slice_get, slice_set, Some, None, Option, find, sym, refl, ap, ◌∙◌, subst, append_assoc, append-nil, drop-append_seam, nat_list_eq_equiv, nat_list_cmp_total, pointwise, list_any, get, remove, get-remove, get-with_entry, same_cache, Bytes, Cache, entry_at, with_entry, key_cmp, eq_by_cmp, texts_ties, Event, Out, StaysReached, IsSameStripe, Extends, Grows, Commits, Withdraws, after_withdrawal, IsReached, State, is_key, is_reserved, without_key, Reservation, StepDone, IsSoundWorld, WorldState, home, stripe_for, cached_entry, entry_in, without_foreign, with_phase, with_stripe}
use Rattle.jc_stripe.specs.Invalidating.{dropped_event, has_place, without_entry, is_dropped, end_with, told_drop, Ends, GivesBack, Invalidates, drop_or_shut, after_invalidation}
use Rattle.jc_stripe.specs.State.{is_marked, with_mark}
use Rattle.jc_types.specs.declared.limits.TheConstants.{RESERVATIONS_MAX}
use Rattle.std.specs.Prelude.{nat_lt, map}
use Rattle.jc_model.specs.declared.event.Cause.TheVariants.{Invalidated}
use Rattle.jc_world.proofs.Entries.{split, tied}
use Rattle.jc_world.proofs.Places.{stripe_put}

-- 1. At a stripe.

-- a key isn't reserved once its reservation is over
pub freed : (key : Bytes) (rs : List Reservation) → list_any (is_key key) (without_key key rs) ≡ false
freed key [] = refl
freed key (r ∷ rs) =
    elim (is_key key r) as (λ b. is_key key r ≡ b → list_any (is_key key) (cond (not b) (r ∷ without_key key rs) (without_key key rs)) ≡ false) [
      | true ↦ λ e. freed key rs
      | false ↦ λ e. (λ i. e i || freed key rs i)
    ] refl

pub freed_at : (s : State) (key : Bytes) (rs : List Reservation) → s.reservations ≡ without_key key rs → is_reserved s key ≡ false
freed_at s key rs left = ap (λ xs. list_any (is_key key) xs) left ∙ freed key rs

-- a reserved key is another one than a key that isn't
pub unreserved_apart : (s : State) (key q : Bytes) → is_reserved s key ≡ false → is_reserved s q ≡ true → eq_by_cmp key_cmp q key ≡ false
unreserved_apart s key q free there =
    split q key (λ b. b ≡ false) (λ same. absurd (let t : true ≡ false = sym there ∙ ap (is_reserved s) same ∙ free in cc)) (λ apart. refl)

-- a mark changes the marks alone
mark_by : (a b : Bool) (s : State) (more all : List Bytes) → cond a s (cond b (record s { marked = more }) (record s { marked = all })) ≡ record s { marked = (cond a s (cond b (record s { marked = more }) (record s { marked = all }))).marked }
mark_by true b s more all = refl
mark_by false true s more all = refl
mark_by false false s more all = refl

pub marked_is : (s : State) (key : Bytes) → with_mark s key ≡ record s { marked = (with_mark s key).marked }
marked_is s key = mark_by (is_marked s key) (nat_lt (length s.marked) RESERVATIONS_MAX) s (s.marked ++ key ∷ []) (map (λ (r : Reservation). r.key) s.reservations)

-- the entry is gone
pub dropped_entry : (s : State) (key : Bytes) → entry_at (without_entry s key).cache key ≡ None
dropped_entry s key = get-remove nat_list_cmp_total s.cache key key ∙ ap (λ b. cond b None (entry_at s.cache key)) (tied key)

-- and the others stay
pub dropped_others : (s : State) (key q : Bytes) → eq_by_cmp key_cmp q key ≡ false → entry_at (without_entry s key).cache q ≡ entry_at s.cache q
dropped_others s key q apart = get-remove nat_list_cmp_total s.cache key q ∙ ap (λ b. cond b None (entry_at s.cache q)) apart

-- none comes
pub dropped_none : (s : State) (key q : Bytes) → entry_at s.cache q ≡ None → entry_at (without_entry s key).cache q ≡ None
dropped_none s key q none =
    get-remove nat_list_cmp_total s.cache key q ∙ split q key (λ b. cond b None (entry_at s.cache q) ≡ None) (λ same. refl) (λ apart. none)

-- a stripe that evicts a key extends what it was
pub drop_extends : (old ended : State) (key : Bytes) → Extends old ended → Extends old (without_entry ended key)
drop_extends old ended key g = record {
  same = record { config = g.same.config; stripe = g.same.stripe; origin = g.same.origin; lives = g.same.lives; ended = g.same.ended; opening = g.same.opening };
  more = g.more ++ dropped_event key ∷ [];
  history = ap (λ h. h ++ dropped_event key ∷ []) g.history ∙ append_assoc old.history g.more (dropped_event key ∷ []);
}

pub same_extends : (s : State) → Extends s s
same_extends s = record {
  same = record { config = refl; stripe = refl; origin = refl; lives = refl; ended = refl; opening = refl };
  more = [];
  history = sym (append-nil s.history);
}

pub end_extends : (old ended : State) (marked : Bool) (key : Bytes) → Extends old ended → Extends old (end_with marked ended key)
end_extends old ended marked key g =
    elim (is_dropped marked ended key) as (λ b. Extends old (cond b (without_entry ended key) ended)) [
      | true ↦ drop_extends old ended key g
      | false ↦ g
    ]

pub ends_extends : Grows → (old new : State) (r : Reservation) (out : Out) (done : StepDone) → Ends old r out done new → Extends old new
ends_extends grows old new r out done h =
    subst (Extends old) (sym h.4) (end_extends old h.0 (is_marked old r.key) r.key (grows.commits old h.0 r out h.1 h.2))

pub gives_back_extends : Grows → (old new : State) (r : Reservation) → GivesBack old r new → Extends old new
gives_back_extends grows old new r h =
    subst (Extends old) (sym h.2) (end_extends old h.0 (is_marked old r.key) r.key (grows.withdraws old h.0 r h.1))

-- a stripe that is another in its marks alone
marks_extend : (s t : State) → t ≡ record s { marked = t.marked } → Extends s t
marks_extend s t is = subst (Extends s) (sym is) (record {
  same = record { config = refl; stripe = refl; origin = refl; lives = refl; ended = refl; opening = refl };
  more = [];
  history = sym (append-nil s.history);
})

shut_extends : (s : State) → Extends s (record s { shut = true })
shut_extends s = record {
  same = record { config = refl; stripe = refl; origin = refl; lives = refl; ended = refl; opening = refl };
  more = [];
  history = sym (append-nil s.history);
}

pub invalidates_extends : (old new : State) (key : Bytes) → Invalidates old key new → Extends old new
invalidates_extends old new key is =
    subst (Extends old) (sym is)
    (elim (is_reserved old key) as (λ b. Extends old (cond b (with_mark old key) (cond (is_some (entry_at old.cache key)) (drop_or_shut old key) old))) [
      | true ↦ marks_extend old (with_mark old key) (marked_is old key)
      | false ↦ elim (is_some (entry_at old.cache key)) as (λ b. Extends old (cond b (drop_or_shut old key) old)) [
        | true ↦ elim (has_place old) as (λ b. Extends old (cond b (without_entry old key) (record old { shut = true }))) [
          | true ↦ drop_extends old old key (same_extends old)
          | false ↦ shut_extends old
        ]
        | false ↦ same_extends old
      ]
    ])

-- what an eviction leaves, an end with it does
end_same : {A : Type 0} (f : State → A) (marked : Bool) (ended : State) (key : Bytes) → f (without_entry ended key) ≡ f ended → f (end_with marked ended key) ≡ f ended
end_same f marked ended key same =
    elim (is_dropped marked ended key) as (λ b. f (cond b (without_entry ended key) ended) ≡ f ended) [ true ↦ same | false ↦ refl ]

of_end : {A : Type 0} (f : State → A) (marked : Bool) (ended to : State) (key : Bytes) → to ≡ end_with marked ended key → f (without_entry ended key) ≡ f ended → f to ≡ f ended
of_end f marked ended to key is same = ap f is ∙ end_same f marked ended key same

-- and the step stays at its place
told_place : (marked : Bool) (ended : State) (key : Bytes) (done : StepDone) → (told_drop marked ended key done).place ≡ done.place
told_place marked ended key done =
    elim (is_dropped marked ended key) as (λ b. (cond b (record done { evicted = Some (record { cause = Invalidated; place = length ended.history }) }) done).place ≡ done.place) [ true ↦ refl | false ↦ refl ]

-- what an end leaves of the stripe
pub record EndLeaves (from to : State) (r : Reservation) (place : ℕ) : Type 0 where
  pub out : IsOut from r
  pub config : to.config ≡ from.config
  pub stripe : to.stripe ≡ from.stripe
  pub origin : to.origin ≡ from.origin
  pub reservations : to.reservations ≡ without_key r.key from.reservations
  pub joiners : to.joiners ≡ after_resolve r.number place from.joiners

pub end_leaves : (from to : State) (r : Reservation) (out : Out) (done : StepDone) → Ends from r out done to → EndLeaves from to r done.place
end_leaves from to r out done (ended, step, commits, done_is, to_is) =
    let marked = is_marked from r.key in
    let place : step.place ≡ done.place = sym (ap (λ (d : StepDone). d.place) done_is ∙ told_place marked ended r.key step) in
    let after = commits.1.after in
    record {
      out = commits.0;
      config = of_end (λ s. s.config) marked ended to r.key to_is refl ∙ ap (λ (s : State). s.config) after;
      stripe = of_end (λ s. s.stripe) marked ended to r.key to_is refl ∙ ap (λ (s : State). s.stripe) after;
      origin = of_end (λ s. s.origin) marked ended to r.key to_is refl ∙ ap (λ (s : State). s.origin) after;
      reservations = of_end (λ s. s.reservations) marked ended to r.key to_is refl ∙ ap (λ (s : State). s.reservations) after;
      joiners = of_end (λ s. s.joiners) marked ended to r.key to_is refl ∙ ap (λ (s : State). s.joiners) after ∙ ap (λ n. after_resolve r.number n from.joiners) place;
    }

-- and a withdrawal
pub record BackLeaves (from to : State) (r : Reservation) : Type 0 where
  pub out : IsOut from r
  pub config : to.config ≡ from.config
  pub stripe : to.stripe ≡ from.stripe
  pub origin : to.origin ≡ from.origin
  pub reservations : to.reservations ≡ without_key r.key from.reservations
  pub joiners : to.joiners ≡ after_dissolve r.number from.joiners

pub back_leaves : (from to : State) (r : Reservation) → GivesBack from r to → BackLeaves from to r
back_leaves from to r (ended, withdraws, to_is) =
    let marked = is_marked from r.key in
    let after = withdraws.1 in
    record {
      out = withdraws.0;
      config = of_end (λ s. s.config) marked ended to r.key to_is refl ∙ ap (λ (s : State). s.config) after;
      stripe = of_end (λ s. s.stripe) marked ended to r.key to_is refl ∙ ap (λ (s : State). s.stripe) after;
      origin = of_end (λ s. s.origin) marked ended to r.key to_is refl ∙ ap (λ (s : State). s.origin) after;
      reservations = of_end (λ s. s.reservations) marked ended to r.key to_is refl ∙ ap (λ (s : State). s.reservations) after;
      joiners = of_end (λ s. s.joiners) marked ended to r.key to_is refl ∙ ap (λ (s : State). s.joiners) after;
    }

-- an invalidation changes marks, and entries with their history, alone
pub invalid_same : {A : Type 0} (f : State → A) (s : State) (key : Bytes) → ((m : List Bytes) → f (record s { marked = m }) ≡ f s) → f (without_entry s key) ≡ f s → f (record s { shut = true }) ≡ f s → f (after_invalidation s key) ≡ f s
invalid_same f s key marks drops shuts =
    elim (is_reserved s key) as (λ b. f (cond b (with_mark s key) (cond (is_some (entry_at s.cache key)) (drop_or_shut s key) s)) ≡ f s) [
      | true ↦ ap f (marked_is s key) ∙ marks (with_mark s key).marked
      | false ↦ elim (is_some (entry_at s.cache key)) as (λ b. f (cond b (drop_or_shut s key) s) ≡ f s) [
        | true ↦ elim (has_place s) as (λ b. f (cond b (without_entry s key) (record s { shut = true })) ≡ f s) [ true ↦ drops | false ↦ shuts ]
        | false ↦ refl
      ]
    ]

-- 2. Lists of stripes, and the order.

pub set_twice : {A : Type 0} (xs : List A) (i : ℕ) (x y : A) → slice_set (slice_set xs i x) i y ≡ slice_set xs i y
set_twice [] i x y = refl
set_twice (z ∷ zs) zero x y = refl
set_twice (z ∷ zs) (suc i) x y = ap (λ l. z ∷ l) (set_twice zs i x y)

pub set_back : {A : Type 0} (xs : List A) (i : ℕ) (x : A) → slice_get xs i ≡ Some x → slice_set xs i x ≡ xs
set_back [] i x h = refl
set_back (z ∷ zs) zero x h = let is : z ≡ x = cc in ap (λ y. y ∷ zs) (sym is)
set_back (z ∷ zs) (suc i) x h = ap (λ l. z ∷ l) (set_back zs i x h)

-- all of a list is dropped
drop_all : {A : Type 0} (xs : List A) → drop (length xs) xs ≡ []
drop_all xs = ap (drop (length xs)) (sym (append-nil xs)) ∙ drop-append_seam xs []

-- a history that stays
pub added_none : (from to : State) → to.history ≡ from.history → drop (length from.history) to.history ≡ []
added_none from to same = ap (drop (length from.history)) same ∙ drop_all from.history

-- a history with one event more, after what it had appended before
pub added_one : (from mid to : State) (more : List Event) (e : Event) → mid.history ≡ from.history ++ more → to.history ≡ mid.history ++ e ∷ []
    → drop (length from.history) to.history ≡ drop (length from.history) mid.history ++ drop (length mid.history) to.history
added_one from mid to more e before after =
    ap (drop (length from.history)) (after ∙ ap (λ h. h ++ e ∷ []) before ∙ append_assoc from.history more (e ∷ []))
    ∙ drop-append_seam from.history (more ++ e ∷ [])
    ∙ sym ((λ i. (ap (drop (length from.history)) before ∙ drop-append_seam from.history more) i ++ (ap (drop (length mid.history)) after ∙ drop-append_seam mid.history (e ∷ [])) i))

-- a stripe whose history stays leaves the order
pub same_phase : (w : WorldState) (key : Bytes) (from to : State) → to.history ≡ from.history → with_phase w key from to ≡ with_stripe w key to
same_phase w key from to same =
    ap (λ o. record w { stripes = slice_set w.stripes (home w key) to; order = o }) (ap (λ more. w.order ++ more) (added_none from to same) ∙ append-nil w.order)

-- and one that is the same leaves the world
pub no_phase : (w : WorldState) (key : Bytes) (from to : State) → stripe_for w key ≡ Some from → to ≡ from → with_phase w key from to ≡ w
no_phase w key from to there is =
    ap (with_phase w key from) is ∙ same_phase w key from from refl ∙ ap (λ ss. record w { stripes = ss }) (set_back w.stripes (home w key) from there)

-- 3. In a world.

-- a key's entry is evicted, and the key forgotten among the foreign ones, or not
abbrev pub with_dropped : WorldState → Bytes → State → Bool → WorldState
with_dropped w key from told = record (with_phase w key from (without_entry from key)) { foreign = without_foreign w.foreign key told }

-- `w` is the world before the event
pub record Drop (w mid new : WorldState) (key : Bytes) : Type 0 where
  pub from : State
  pub there : stripe_for mid key ≡ Some from
  pub free : is_reserved from key ≡ false
  pub told : Bool
  pub is : new ≡ with_dropped mid key from told
  pub reached : StaysReached → IsSoundWorld w → IsReached (without_entry from key)

-- a key that is forgotten is so once more
pub forgotten_twice : (m : Cache) (key : Bytes) (over : Bool) → without_foreign (without_foreign m key over) key true ≡ without_foreign m key true
forgotten_twice m key false = refl
forgotten_twice m key true =
    same_cache _ _ (λ q.
    get-with_entry (with_entry m key None) key None q
    ∙ split q key (λ b. cond b None (entry_at (with_entry m key None) q) ≡ entry_at (with_entry m key None) q)
    (λ same. sym (get-with_entry m key None q ∙ ap (λ b. cond b None (entry_at m q)) (ap (λ k. eq_by_cmp key_cmp k key) same ∙ tied key)))
    (λ apart. refl))

-- what is cached then
pub cached_dropped : (w mid new : WorldState) (key q : Bytes) → (d : Drop w mid new key) → cached_entry new q ≡ entry_in (slice_get (slice_set mid.stripes (home mid key) (without_entry d.from key)) (home mid q)) q
cached_dropped w mid new key q d = ap (λ (v : WorldState). cached_entry v q) d.is

pub gone_dropped : (w mid new : WorldState) (key : Bytes) → Drop w mid new key → cached_entry new key ≡ None
gone_dropped w mid new key d =
    cached_dropped w mid new key key d
    ∙ ap (λ o. entry_in o key) (stripe_put mid.stripes (home mid key) d.from (without_entry d.from key) d.there)
    ∙ dropped_entry d.from key
