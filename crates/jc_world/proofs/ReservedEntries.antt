-- What stays while nothing is appended, and while a key is reserved.
--     IsUnmoved       the order and all that is cached are as they were
--     unmoved_step    so they are after an event that neither appends a step nor opens the cache again
--     StaysOut        from one state of a stripe to a later one: a reservation that is out then, by a number that was given before,
--                     was out before, and the entry of its key is as it was
--     StayOut         from one world to a later one: that is so of all stripes
--     stay_run        so it is in every run, or a call that had begun is over, since the cache was opened again
--     stays_held      so the entry of a key stays, if its reservation is the same
use Rattle.jc_world.proofs.Common.{◌≡◌, ℕ, ◌<◌, ◌≤◌, Bool, true, false, cond, not, ◌⊎◌, List, [], ◌∷◌, ◌++◌, slice_get, slice_set, Some, None, filter, find, sym, refl, ap, ◌∙◌, subst, inl, inr, arith, get, stripe_of, Config, Bytes, entry_at, KeepsReserved, State, is_key, is_reserved, with_reservation, without_key, without_reservation, IsOut, Begun, Reservation, Outcome, Part, Shown, WorldEvent, step_of, Step, Run, is_reopening, changes_cache, IsHeld, IsSoundWorld, WorldState, home, stripe_for, entry_in, cached_entry, out_of_part}
use Rattle.jc_world.proofs.Lemmas.{found_holds, at_stripe, split, out_reserved, found_left, KeyChange, by_nothing, by_refusal, by_step, by_reservation, by_join, by_commit, by_withdrawal, by_mark, by_answer, by_retry, KeyEvent, plain, dropping, Drop, unreserved_apart, dropped_others, StripeChange, by_invalidation, by_key, beside_stripes, by_reopening, change_of, Move, no_move, quiet_move, loud_move, reopening_move, move_step, some_of}
use Rattle.jc_stripe.specs.Invalidating.{without_entry}
use Rattle.jc_world.proofs.Sounding.{Laws, sound_step}
use Rattle.jc_world.proofs.OverCalls.{IsPast, past_step, IsOver, over_run, over_reopened}

-- 1. Events that neither append a step nor open the cache again.

abbrev pub IsUnmoved : WorldState → WorldState → Type 0
IsUnmoved old new = (new.order ≡ old.order) × ((key : Bytes) → cached_entry new key ≡ cached_entry old key)

-- a stripe whose cache is the same
cached_set : (w : WorldState) (key q : Bytes) (from to : State) → stripe_for w key ≡ Some from → to.cache ≡ from.cache → entry_in (slice_get (slice_set w.stripes (home w key) to) (home w q)) q ≡ cached_entry w q
cached_set w key q from to there same = at_stripe w.stripes (home w key) (home w q) from to (λ o x. entry_in x q ≡ entry_in o q) there (ap (λ c. entry_at c q) same) refl

-- a reopening changes what is cached
reopening_changes : (seen : Outcome) → is_reopening seen ≡ true → changes_cache seen ≡ true
reopening_changes (Outcome.Reopened keys) h = refl
reopening_changes seen h = cc

unmoved_as : (w new : WorldState) (seen : Outcome) → Move w new seen → changes_cache seen ≡ false → IsUnmoved w new
unmoved_as w new seen (no_move config stripes order) none = (order, λ q. λ i. entry_in (slice_get (stripes i) (stripe_of q (config i).stripes)) q)
unmoved_as w new seen (quiet_move key from to there config stripes order cache) none =
    (order, λ q. (λ i. entry_in (slice_get (stripes i) (stripe_of q (config i).stripes)) q) ∙ cached_set w key q from to there cache)
unmoved_as w new seen (loud_move more config order changes) none = let t : true ≡ false = sym changes ∙ none in cc
unmoved_as w new seen (reopening_move reopens) none = let t : true ≡ false = sym (reopening_changes seen reopens) ∙ none in cc

pub unmoved_step : (w new : WorldState) (e : WorldEvent) (seen : Shown) → Step w e seen new → changes_cache seen.outcome ≡ false → IsUnmoved w new
unmoved_step w new e seen step none = unmoved_as w new seen.outcome (move_step w new e seen step) none

-- 2. A reservation that is still out.

-- one that is found with one more at the end was found before, or is that one
found_or_last : {A : Type 0} (p : A → Bool) (xs : List A) (y x : A) → find p (xs ++ y ∷ []) ≡ Some x → (find p xs ≡ Some x) ⊎ (x ≡ y)
found_or_last p [] y x h = elim (p y) as (λ b. cond b (Some y) None ≡ Some x → (None ≡ Some x) ⊎ (x ≡ y)) [ true ↦ λ h. inr (cc) | false ↦ λ h. cc ] h
found_or_last p (z ∷ zs) y x h =
    elim (p z) as (λ b. cond b (Some z) (find p (zs ++ y ∷ [])) ≡ Some x → (cond b (Some z) (find p zs) ≡ Some x) ⊎ (x ≡ y)) [ true ↦ λ h. inl h | false ↦ λ h. found_or_last p zs y x h ] h

-- none is found among those that don't pass
none_found : {A : Type 0} (p : A → Bool) (xs : List A) → find p (filter (λ x. not (p x)) xs) ≡ None
none_found p [] = refl
none_found p (x ∷ xs) =
    elim (p x) as (λ b. p x ≡ b → find p (cond (not b) (x ∷ filter (λ x. not (p x)) xs) (filter (λ x. not (p x)) xs)) ≡ None) [
      | true ↦ λ e. none_found p xs
      | false ↦ λ e. ap (λ b. cond b (Some x) (find p (filter (λ x. not (p x)) xs))) e ∙ none_found p xs
    ] refl

-- a reservation that is left was there
was_left : (key : Bytes) (rs : List Reservation) (r : Reservation) → find (is_key r.key) (without_key key rs) ≡ Some r → find (is_key r.key) rs ≡ Some r
was_left key rs r left =
    split r.key key (λ b. find (is_key r.key) rs ≡ Some r)
    (λ same. let gone : None ≡ Some r = sym (none_found (is_key r.key) rs) ∙ ap (λ k. find (is_key r.key) (without_key k rs)) same ∙ left in cc)
    (λ apart. sym (found_left r.key key rs apart) ∙ left)

pub record StaysOut (old new : State) : Type 0 where
  pub next : old.next ≤ new.next
  pub out : (r : Reservation) → r.number < old.next → IsOut new r → IsOut old r × (entry_at new.cache r.key ≡ entry_at old.cache r.key)

stays_same : (s : State) → StaysOut s s
stays_same s = record { next = omega arith; out = λ r below out. (out, refl) }

stays_then : (a b c : State) → StaysOut a b → StaysOut b c → StaysOut a c
stays_then a b c x y = record {
  next = omega arith;
  out = λ r below out.
      let lt : r.number < b.next = let le : a.next ≤ b.next = x.next in omega arith in
      let later = y.out r lt out in
      let sooner = x.out r below later.0 in
      (sooner.0, later.1 ∙ sooner.1);
}

-- the reservations are the same
stays_kept : (old new : State) → new.next ≡ old.next → new.reservations ≡ old.reservations → ((q : Bytes) → is_reserved old q ≡ true → entry_at new.cache q ≡ entry_at old.cache q) → StaysOut old new
stays_kept old new next reservations entries = record {
  next = omega arith;
  out = λ r below out. let was : IsOut old r = ap (find (is_key r.key)) (sym reservations) ∙ out in (was, entries r.key (out_reserved r.key r old.reservations was));
}

-- there is one more, by the next number
stays_reserving : (old new : State) (more : Reservation) → new ≡ with_reservation old more → more.number ≡ old.next → StaysOut old new
stays_reserving old new more is number = subst (StaysOut old) (sym is) (record {
  next = omega arith;
  out = λ r below out. (was r below (found_or_last (is_key r.key) old.reservations more r out), refl);
})
  where
    was : (r : Reservation) → r.number < old.next → (find (is_key r.key) old.reservations ≡ Some r) ⊎ (r ≡ more) → IsOut old r
    was r below (inl found) = found
    was r below (inr same) = absurd (let e : r.number ≡ more.number = ap (λ (x : Reservation). x.number) same in omega arith)

-- one is over
stays_released : (old new : State) (key : Bytes) → new.next ≡ old.next → new.reservations ≡ without_key key old.reservations
    → ((q : Bytes) → is_reserved (without_reservation old key) q ≡ true → entry_at new.cache q ≡ entry_at old.cache q) → StaysOut old new
stays_released old new key next reservations entries = record {
  next = omega arith;
  out = λ r below out.
      let left : find (is_key r.key) (without_key key old.reservations) ≡ Some r = ap (find (is_key r.key)) (sym reservations) ∙ out in
      (was_left key old.reservations r left, entries r.key (out_reserved r.key r (without_key key old.reservations) left));
}

-- 3. From world to world.

pub record StayOut (w n : WorldState) : Type 0 where
  pub config_is : n.config ≡ w.config
  pub stripes : (number : ℕ) (to : State) → slice_get n.stripes number ≡ Some to → (from : State) × (slice_get w.stripes number ≡ Some from) × StaysOut from to

stay_then : (a b c : WorldState) → StayOut a b → StayOut b c → StayOut a c
stay_then a b c x y = record {
  config_is = y.config_is ∙ x.config_is;
  stripes = λ number to at.
      let later = y.stripes number to at in
      let sooner = x.stripes number later.0 later.1 in
      (sooner.0, sooner.1, stays_then sooner.0 later.0 to sooner.2 later.2);
}

-- all stripes are the same
stay_same : (w n : WorldState) → n.config ≡ w.config → n.stripes ≡ w.stripes → StayOut w n
stay_same w n config stripes = record { config_is = config; stripes = λ number to at. (to, ap (λ ss. slice_get ss number) (sym stripes) ∙ at, stays_same to) }

-- the world is the same, but for what isn't of its stripes
stay_beside : (w n m : WorldState) → n ≡ m → m.config ≡ w.config → m.stripes ≡ w.stripes → StayOut w n
stay_beside w n m is config stripes = subst (StayOut w) (sym is) (stay_same w m config stripes)

-- the stripe of a key is another
stay_set : (w n : WorldState) (key : Bytes) (from to : State) → n.config ≡ w.config → n.stripes ≡ slice_set w.stripes (home w key) to → stripe_for w key ≡ Some from → StaysOut from to → StayOut w n
stay_set w n key from to config stripes there stays = record {
  config_is = config;
  stripes = λ number next at.
      at_stripe w.stripes (home w key) number from to (λ o x. x ≡ Some next → (s : State) × (o ≡ Some s) × StaysOut s next) there
      (λ e. let is : to ≡ next = cc in (from, refl, subst (StaysOut from) is stays))
      (λ e. (next, e, stays_same next))
      (ap (λ ss. slice_get ss number) (sym stripes) ∙ at);
}

-- by the kind of the change at a key
stay_key : KeepsReserved → (w new : WorldState) (e : WorldEvent) (key : Bytes) (seen : Shown) → KeyChange w new e key seen → IsSoundWorld w → StayOut w new
stay_key kept w new e key seen (by_nothing is none ends) old = stay_beside w new w is refl refl
stay_key kept w new e key seen (by_refusal u op refusal may is none ends) old = stay_beside w new _ is refl refl
stay_key kept w new e key seen (by_step u op from to x may there h home_is is shows ends) old =
    stay_set w new key from to (ap (λ (v : WorldState). v.config) is) (ap (λ (v : WorldState). v.stripes) is) there
    (stays_kept from to (ap (λ (s : State). s.next) h.2.after) (ap (λ (s : State). s.reservations) h.2.after)
    (λ q out. kept.begins from to u.caller key op (Begun.Done (step_of x)) q (old.shape.each (home w key) from there).reached h out))
stay_key kept w new e key seen (by_reservation u op from to p r may there h is none ends) old =
    stay_set w new key from to (ap (λ (v : WorldState). v.config) is) (ap (λ (v : WorldState). v.stripes) is) there (stays_reserving from to r h.after (ap (λ (x : Reservation). x.number) h.is))
stay_key kept w new e key seen (by_join u op from to join may there h is none ends) old =
    stay_set w new key from to (ap (λ (v : WorldState). v.config) is) (ap (λ (v : WorldState). v.stripes) is) there
    (stays_kept from to (ap (λ (s : State). s.next) h.3) (ap (λ (s : State). s.reservations) h.3) (λ q out. ap (λ (s : State). entry_at s.cache q) h.3))
stay_key kept w new e key seen (by_commit call part from to x e_is part_is there h home_is is shows) old =
    let r = part.reservation in
    stay_set w new key from to (ap (λ (v : WorldState). v.config) is) (ap (λ (v : WorldState). v.stripes) is) there
    (stays_released from to r.key (ap (λ (s : State). s.next) h.1.after) (ap (λ (s : State). s.reservations) h.1.after)
    (λ q out. kept.commits from to r (out_of_part part) (step_of x) q (old.shape.each (home w key) from there).reached h out))
stay_key kept w new e key seen (by_withdrawal call part from to e_is part_is there h is shows) old =
    stay_set w new key from to (ap (λ (v : WorldState). v.config) is) (ap (λ (v : WorldState). v.stripes) is) there
    (stays_released from to part.reservation.key (ap (λ (s : State). s.next) h.1) (ap (λ (s : State). s.reservations) h.1) (λ q out. ap (λ (s : State). entry_at s.cache q) h.1))
stay_key kept w new e key seen (by_mark from to there out h reached is none ends) old =
    stay_set w new key from to (ap (λ (v : WorldState). v.config) is) (ap (λ (v : WorldState). v.stripes) is) there
    (stays_kept from to (ap (λ (s : State). s.next) h) (ap (λ (s : State). s.reservations) h) (λ q out. ap (λ (s : State). entry_at s.cache q) h))
stay_key kept w new e key seen (by_answer call join from to x e_is join_is there h home_is is shows ends) old =
    stay_set w new key from to (ap (λ (v : WorldState). v.config) is) (ap (λ (v : WorldState). v.stripes) is) there
    (stays_kept from to (ap (λ (s : State). s.next) h.3) (ap (λ (s : State). s.reservations) h.3) (λ q out. ap (λ (s : State). entry_at s.cache q) h.3))
stay_key kept w new e key seen (by_retry call join from to e_is join_is there h is shows ends) old =
    stay_set w new key from to (ap (λ (v : WorldState). v.config) is) (ap (λ (v : WorldState). v.stripes) is) there
    (stays_kept from to (ap (λ (s : State). s.next) h.2) (ap (λ (s : State). s.reservations) h.2) (λ q out. ap (λ (s : State). entry_at s.cache q) h.2))

-- the entry of an invalidated key is evicted, which isn't reserved
stay_dropped : (w mid new : WorldState) (key : Bytes) → Drop w mid new key → StayOut mid new
stay_dropped w mid new key d =
    stay_set mid new key d.from (without_entry d.from key) (ap (λ (v : WorldState). v.config) d.is) (ap (λ (v : WorldState). v.stripes) d.is) d.there
    (stays_kept d.from (without_entry d.from key) refl refl (λ q out. dropped_others d.from key q (unreserved_apart d.from key q d.free out)))

stay_event : KeepsReserved → (w new : WorldState) (e : WorldEvent) (key : Bytes) (seen : Shown) → KeyEvent w new e key seen → IsSoundWorld w → StayOut w new
stay_event kept w new e key seen (plain k) old = stay_key kept w new e key seen k old
stay_event kept w new e key seen (dropping mid shown k tells d end) old = stay_then w mid new (stay_key kept w mid e key shown k old) (stay_dropped w mid new key d)

stay_step : KeepsReserved → (call : ℕ) (w new : WorldState) (e : WorldEvent) (seen : Shown) → Step w e seen new → IsSoundWorld w → IsPast call w → StayOut w new ⊎ IsOver call new
stay_step kept call w new e seen (inl (fit, happens)) old past = go (change_of w new e seen fit happens old)
  where
    go : StripeChange w new e seen → StayOut w new ⊎ IsOver call new
    go (by_key key k) = inl (stay_event kept w new e key seen k old)
    go (by_invalidation key v e_is k is) = inl (stay_then w v new (stay_event kept w v e key seen k old) (stay_beside v new _ is refl refl))
    go (beside_stripes m is config stripes order joins none ends) = inl (stay_beside w new m is config stripes)
    go (by_reopening config e_is reopens is) = inr (subst (IsOver call) (sym is) (over_reopened call w config past))
stay_step kept call w new e seen (inr (unfit, shows, is)) old past = inl (stay_beside w new w is refl refl)

-- a call that has begun is over from the first reopening on
pub stay_run : Laws → (call : ℕ) (w new : WorldState) (es : List WorldEvent) (ss : List Shown) → Run w es ss new → IsSoundWorld w → IsPast call w → StayOut w new ⊎ IsOver call new
stay_run laws call w new [] [] run old past = inl (stay_beside w new w run refl refl)
stay_run laws call w new (e ∷ es) (s ∷ ss) (mid, step, rest) old past =
    either (stay_step laws.kept call w mid e s step old past) (stay_run laws call mid new es ss rest (sound_step laws w e s mid step old) (past_step call w mid e s step past))
  where
    either : StayOut w mid ⊎ IsOver call mid → StayOut mid new ⊎ IsOver call new → StayOut w new ⊎ IsOver call new
    either (inl one) (inl more) = inl (stay_then w mid new one more)
    either (inl one) (inr over) = inr over
    either (inr over) more = inr (over_run call mid new es ss rest over)
stay_run laws call w new es ss run old past = absurd run

-- 4. A key whose part is of the same reservation.

pub stays_held : (w n : WorldState) (key : Bytes) (was is : Part) → get w.parts key ≡ Some was → get n.parts key ≡ Some is → is.reservation ≡ was.reservation → IsSoundWorld w → IsSoundWorld n → StayOut w n → cached_entry n key ≡ cached_entry w key
stays_held w n key was is before after same old new stay =
    let then = some_of (stripe_for w key) (λ s. IsHeld s key was) (old.held key was before) in
    let now = some_of (stripe_for n key) (λ s. IsHeld s key is) (new.held key is after) in
    let at : slice_get n.stripes (home w key) ≡ Some now.0 = ap (λ (c : Config). slice_get n.stripes (stripe_of key c.stripes)) (sym stay.config_is) ∙ now.1 in
    let from = stay.stripes (home w key) now.0 at in
    let r = was.reservation in
    let one : Some then.0 ≡ Some from.0 = sym then.1 ∙ from.1 in
    let here : then.0 ≡ from.0 = cc in
    let O : State → Type 0 = λ s. IsOut s r in
    let below : r.number < from.0.next =
    found_holds (is_key r.key) (λ x. x.number < from.0.next) from.0.reservations r (subst O here then.2.out) (old.shape.each (home w key) from.0 from.1).reached.numbered.below in
    let kept = (from.2.out r below (subst (λ x. IsOut now.0 x) same now.2.out)).1 in
    ap (λ o. entry_in o key) now.1
    ∙ (λ i. entry_at now.0.cache (sym then.2.key_is i)) ∙ kept ∙ (λ i. entry_at from.0.cache (then.2.key_is i))
    ∙ ap (λ o. entry_in o key) (sym from.1)
