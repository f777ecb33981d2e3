-- The calls under way, and the reservations that they own.
--     find_over       a call that is over leaves the others where they are
--     calls_filter    and they still fit
--     each_found      each call is found by its number
--     apart_over      the others are of other sessions
--     calls_pushed    a new call fits beside them
--     all_owned       what each reservation owns, in another world
use Rattle.jc_world.proofs.Common.{◌≡◌, ℕ, Bool, true, false, cond, not, ◌||◌, List, [], ◌∷◌, ◌++◌, is_none, IsSomeAnd, nat_lt, nat_le, ◌==◌, Some, None, filter, Option, find, sym, refl, ap, ◌∙◌, subst, arith, not-true, eqb-true, and_parts, and_from, or_left, or_right, nat_tests, nat_eq_equiv, pointwise, texts_ties, list_any, list_all, all_imply, all_filter, all_found, Caller, same_key, Bytes, may_come, Event, Evict, may_come_all, is_key, without_key, Reservation, Part, CallState, has_number, is_of_session, drop_call, is_new, is_up_to, number_up_to, is_apart, FitsCall, CallsFit, Each, IsOwned, AllOwned, WorldState, of_call}
use Rattle.jc_model.specs.declared.event.Event.TheVariants.{Step}
use Rattle.jc_world.proofs.Shares.{found_test}

-- 1. A call that is over.

-- a call that is found has the number
pub found_number : (call : ℕ) (calls : List CallState) (u : CallState) → find (has_number call) calls ≡ Some u → u.caller.call ≡ call
found_number call calls u h = eqb-true u.caller.call call (found_test (has_number call) calls u h)

-- a number is not two others
clash : (a b n : ℕ) → (a == b) ≡ false → (n == a) ≡ true → (n == b) ≡ false
clash a b n h k = grind (arith, nat_tests)

-- the other calls are found as before
pub find_over : (call other : ℕ) (calls : List CallState) → (call == other) ≡ false → find (has_number other) (drop_call call calls) ≡ find (has_number other) calls
find_over call other [] apart = refl
find_over call other (x ∷ xs) apart =
    elim (has_number call x) as (λ b. has_number call x ≡ b → find (has_number other) (cond (not b) (x ∷ drop_call call xs) (drop_call call xs)) ≡ cond (has_number other x) (Some x) (find (has_number other) xs)) [
      | true ↦ λ e. find_over call other xs apart ∙ sym (ap (λ b. cond b (Some x) (find (has_number other) xs)) (clash call other x.caller.call apart e))
      | false ↦ λ e. ap (λ r. cond (has_number other x) (Some x) r) (find_over call other xs apart)
    ] refl

-- a call under way fits
pub fits_found : (w : WorldState) (p : CallState → Bool) (calls : List CallState) (u : CallState) → find p calls ≡ Some u → CallsFit w calls → FitsCall w u
fits_found w p [] u h fit = cc
fits_found w p (x ∷ xs) u h fit =
    elim (p x) as (λ b. cond b (Some x) (find p xs) ≡ Some u → FitsCall w u) [
      | true ↦ λ h. let is : x ≡ u = cc in subst (FitsCall w) is fit.0
      | false ↦ λ h. fits_found w p xs u h fit.2
    ] h

-- the calls that pass a test fit another world
pub calls_filter : (w n : WorldState) (p : CallState → Bool) (P : CallState → Type 0) (calls : List CallState) → ((u : CallState) → p u ≡ true → P u → FitsCall w u → FitsCall n u) → Each P calls → CallsFit w calls → CallsFit n (filter p calls)
calls_filter w n p P [] f each fit = tt
calls_filter w n p P (x ∷ xs) f each fit =
    elim (p x) as (λ b. p x ≡ b → CallsFit n (cond b (x ∷ filter p xs) (filter p xs))) [
      | true ↦ λ e. (f x e each.0 fit.0, all_filter (is_apart x) p xs fit.1, calls_filter w n p P xs f each.1 fit.2)
      | false ↦ λ e. calls_filter w n p P xs f each.1 fit.2
    ] refl

-- all calls fit another world
pub calls_on : (w n : WorldState) (P : CallState → Type 0) (calls : List CallState) → ((u : CallState) → P u → FitsCall w u → FitsCall n u) → Each P calls → CallsFit w calls → CallsFit n calls
calls_on w n P [] f each fit = tt
calls_on w n P (x ∷ xs) f each fit = (f x each.0 fit.0, fit.1, calls_on w n P xs f each.1 fit.2)

pub calls_all : (w n : WorldState) (calls : List CallState) → ((u : CallState) → FitsCall w u → FitsCall n u) → CallsFit w calls → CallsFit n calls
calls_all w n [] f fit = tt
calls_all w n (x ∷ xs) f fit = (f x fit.0, fit.1, calls_all w n xs f fit.2)

-- a call of another number is not found
number_apart : (x u : CallState) → is_apart x u ≡ true → has_number u.caller.call x ≡ false
number_apart x u h = not-true (x.caller.call == u.caller.call) (ap not (nat_eq_equiv.symm x.caller.call u.caller.call) ∙ (and_parts (not (u.caller.session == x.caller.session)) (not (u.caller.call == x.caller.call)) h).1)

-- each call is found by its number
pub each_found : (w : WorldState) (calls : List CallState) → CallsFit w calls → Each (λ (u : CallState). find (has_number u.caller.call) calls ≡ Some u) calls
each_found w [] fit = tt
each_found w (x ∷ xs) fit = (
  ap (λ b. cond b (Some x) (find (has_number x.caller.call) xs)) (nat_eq_equiv.refl x.caller.call),
  behind xs (each_found w xs fit.2) fit.1,
)
  where
    behind : (ys : List CallState) → Each (λ (u : CallState). find (has_number u.caller.call) xs ≡ Some u) ys → list_all (is_apart x) ys ≡ true → Each (λ (u : CallState). find (has_number u.caller.call) (x ∷ xs) ≡ Some u) ys
    behind [] h apart = tt
    behind (y ∷ ys) h apart =
        let parts = and_parts (is_apart x y) (list_all (is_apart x) ys) apart in
        (ap (λ b. cond b (Some x) (find (has_number y.caller.call) xs)) (number_apart x y parts.0) ∙ h.0, behind ys h.1 parts.1)

-- of another session
abbrev pub is_elsewhere : ℕ → CallState → Bool
is_elsewhere session u = not (u.caller.session == session)

-- calls that are apart are of two sessions
elsewhere : (x u : CallState) → is_apart x u ≡ true → is_elsewhere x.caller.session u ≡ true
elsewhere x u h = (and_parts (not (u.caller.session == x.caller.session)) (not (u.caller.call == x.caller.call)) h).0

-- the calls beside one under way are of other sessions
pub apart_over : (w : WorldState) (call : ℕ) (calls : List CallState) (u : CallState) → find (has_number call) calls ≡ Some u → CallsFit w calls → list_all (is_elsewhere u.caller.session) (drop_call call calls) ≡ true
apart_over w call [] u h fit = cc
apart_over w call (x ∷ xs) u h fit =
    elim (has_number call x) as (λ b. cond b (Some x) (find (has_number call) xs) ≡ Some u → list_all (is_elsewhere u.caller.session) (cond (not b) (x ∷ drop_call call xs) (drop_call call xs)) ≡ true) [
      | true ↦ λ h.
          let is : x ≡ u = cc in
          let here = all_filter (is_elsewhere x.caller.session) (λ o. not (has_number call o)) xs (all_imply (is_apart x) (is_elsewhere x.caller.session) xs (elsewhere x) fit.1) in
          ap (λ (y : CallState). list_all (is_elsewhere y.caller.session) (drop_call call xs)) (sym is) ∙ here
      | false ↦ λ h.
          let away = elsewhere x u (all_found (has_number call) (is_apart x) xs u h fit.1) in
          and_from _ _ (ap not (nat_eq_equiv.symm x.caller.session u.caller.session) ∙ away) (apart_over w call xs u h fit.2)
    ] h

-- a call under way of another number is of another session
pub elsewhere_found : (w : WorldState) (call other : ℕ) (calls : List CallState) (u v : CallState) → CallsFit w calls → find (has_number call) calls ≡ Some u → find (has_number other) calls ≡ Some v
    → (call == other) ≡ false → is_elsewhere u.caller.session v ≡ true
elsewhere_found w call other calls u v fit one two apart =
    all_found (has_number other) (is_elsewhere u.caller.session) (drop_call call calls) v (find_over call other calls apart ∙ two) (apart_over w call calls u one fit)

-- 3. A new call.

-- a new number is above each up to the last
up_to_new : (last : Option ℕ) (call number : ℕ) → is_new last call ≡ true → is_up_to last number ≡ true → nat_lt number call ≡ true
up_to_new None call number new up = cc
up_to_new (Some last) call number new up = below last call number new up
  where
    below : (last call number : ℕ) → nat_lt last call ≡ true → nat_le number last ≡ true → nat_lt number call ≡ true
    below last call number new up = grind (arith, nat_tests)

-- a lower number is at most this one
less_up : (number call : ℕ) → nat_lt number call ≡ true → nat_le number call ≡ true
less_up number call h = grind (arith, nat_tests)

-- and it is another
less_not : (number call : ℕ) → nat_lt number call ≡ true → not (call == number) ≡ true
less_not number call h = grind (arith, nat_tests)

-- what is up to the last is up to the new one
pub up_more : (last : Option ℕ) (call number : ℕ) → is_new last call ≡ true → is_up_to last number ≡ true → is_up_to (Some call) number ≡ true
up_more last call number new up = less_up number call (up_to_new last call number new up)

-- the new number is up to itself
pub up_self : (call : ℕ) → is_up_to (Some call) call ≡ true
up_self call = go call
  where
    go : (call : ℕ) → nat_le call call ≡ true
    go call = grind (arith, nat_tests)

-- so is the number of an event
event_more : (last : Option ℕ) (call : ℕ) (e : Event) → is_new last call ≡ true → number_up_to last e ≡ true → number_up_to (Some call) e ≡ true
event_more last call (Step who op k out shared reply) new up = up_more last call who.call new up
event_more last call (Evict k c) new up = refl

-- and of all events
pub numbers_more : (last : Option ℕ) (call : ℕ) (order : List Event) → is_new last call ≡ true → list_all (number_up_to last) order ≡ true → list_all (number_up_to (Some call)) order ≡ true
numbers_more last call order new h = all_imply (number_up_to last) (number_up_to (Some call)) order (λ e. event_more last call e new) h

-- an event is before a new call, at any key
event_before : (last : Option ℕ) (caller : Caller) (key : Bytes) (e : Event) → is_new last caller.call ≡ true → number_up_to last e ≡ true → may_come e caller key ≡ true
event_before last caller key (Step who op k out shared reply) new up = or_left _ _ (or_right (not (who.session == caller.session)) _ (up_to_new last caller.call who.call new up))
event_before last caller key (Evict k c) new up = refl

-- a step of a new call may come
pub comes_new : (last : Option ℕ) (caller : Caller) (key : Bytes) (order : List Event) → is_new last caller.call ≡ true → list_all (number_up_to last) order ≡ true → may_come_all order caller key ≡ true
comes_new last caller key order new h = all_imply (number_up_to last) (λ e. may_come e caller key) order (λ e. event_before last caller key e new) h

-- a session that is not busy has no call of these
not_busy : (session : ℕ) (x : CallState) (xs : List CallState) → not (list_any (is_of_session session) (x ∷ xs)) ≡ true → (not (session == x.caller.session) ≡ true) × (not (list_any (is_of_session session) xs) ≡ true)
not_busy session x xs h = let parts = neither (is_of_session session x) (list_any (is_of_session session) xs) h in (ap not (nat_eq_equiv.symm session x.caller.session) ∙ parts.0, parts.1)
  where
    neither : (a b : Bool) → not (a || b) ≡ true → (not a ≡ true) × (not b ≡ true)
    neither true b h = cc
    neither false b h = (refl, h)

-- a test of each, and of one more
pushed_apart : (p : CallState → Bool) (xs : List CallState) (u : CallState) → list_all p xs ≡ true → p u ≡ true → list_all p (xs ++ u ∷ []) ≡ true
pushed_apart p [] u h one = and_from _ _ one refl
pushed_apart p (x ∷ xs) u h one = let parts = and_parts (p x) (list_all p xs) h in and_from _ _ parts.0 (pushed_apart p xs u parts.1 one)

-- the calls fit with a new one
pub calls_pushed : (w n : WorldState) (u : CallState) (calls : List CallState) → is_new w.last u.caller.call ≡ true → not (list_any (is_of_session u.caller.session) calls) ≡ true
    → ((x : CallState) → FitsCall w x → FitsCall n x) → FitsCall n u → CallsFit w calls → CallsFit n (calls ++ u ∷ [])
calls_pushed w n u [] new free f fit rest = (fit, refl, tt)
calls_pushed w n u (x ∷ xs) new free f fit rest =
    let away = not_busy u.caller.session x xs free in (
      f x rest.0,
      pushed_apart (is_apart x) xs u rest.1 (and_from _ _ away.0 (less_not x.caller.call u.caller.call (up_to_new w.last u.caller.call x.caller.call new rest.0.number))),
      calls_pushed w n u xs new away.1 f fit rest.2,
    )

-- a call is found among more
pub find_pushed : (p : CallState → Bool) (calls more : List CallState) (P : CallState → Type 0) → IsSomeAnd (find p calls) P → IsSomeAnd (find p (calls ++ more)) P
find_pushed p [] more P h = absurd h
find_pushed p (x ∷ xs) more P h =
    elim (p x) as (λ b. IsSomeAnd (cond b (Some x) (find p xs)) P → IsSomeAnd (cond b (Some x) (find p (xs ++ more))) P) [ true ↦ λ h. h | false ↦ λ h. find_pushed p xs more P h ] h

-- 4. What the reservations own.

-- what passes a test is owned in another world
pub all_owned : (w new : WorldState) (p : Reservation → Bool) (rs : List Reservation) → ((r : Reservation) → p r ≡ true → IsOwned w r → IsOwned new r) → list_all p rs ≡ true → AllOwned w rs → AllOwned new rs
all_owned w new p [] f h owned = tt
all_owned w new p (r ∷ rs) f h owned = let parts = and_parts (p r) (list_all p rs) h in (f r parts.0 owned.0, all_owned w new p rs f parts.1 owned.1)

-- the reservations that are left are of other keys
pub others_left : (key : Bytes) (rs : List Reservation) → list_all (λ r. not (is_key key r)) (without_key key rs) ≡ true
others_left key [] = refl
others_left key (x ∷ xs) =
    elim (is_key key x) as (λ b. is_key key x ≡ b → list_all (λ r. not (is_key key r)) (cond (not b) (x ∷ without_key key xs) (without_key key xs)) ≡ true) [
      | true ↦ λ e. others_left key xs
      | false ↦ λ e. and_from _ _ (ap not e) (others_left key xs)
    ] refl

-- keys that are equal by test are one
pub same_bytes : (a b : Bytes) → pointwise ◌==◌ a b ≡ true → a ≡ b
same_bytes a b h = same_key a b (sym (texts_ties a b) ∙ h)

-- a call's part is the key's, and names the call
pub of_call-at : (call : ℕ) (o : Option Part) (part : Part) → of_call call o ≡ Some part → (o ≡ Some part) × (part.reservation.caller.call ≡ call)
of_call-at call None part h = cc
of_call-at call (Some p) part h =
    elim (p.reservation.caller.call == call) as (λ b. (p.reservation.caller.call == call) ≡ b → cond b (Some p) None ≡ Some part → (Some p ≡ Some part) × (part.reservation.caller.call ≡ call)) [
      | true ↦ λ e h. let is : p ≡ part = cc in (h, ap (λ (q : Part). q.reservation.caller.call) (sym is) ∙ eqb-true p.reservation.caller.call call e)
      | false ↦ λ e h. cc
    ] refl h

-- if a call has no part, the key has none that names it
pub of_call-none : (call : ℕ) (o : Option Part) (part : Part) → is_none (of_call call o) ≡ true → o ≡ Some part → (part.reservation.caller.call == call) ≡ true → ⊥
of_call-none call None part none is e = cc
of_call-none call (Some p) part none is e =
    let same : p ≡ part = cc in
    let here : (p.reservation.caller.call == call) ≡ true = ap (λ (q : Part). q.reservation.caller.call == call) same ∙ e in
    let t : false ≡ true = sym (ap (λ b. is_none {T = Part} (cond b (Some p) None)) here) ∙ none in cc
