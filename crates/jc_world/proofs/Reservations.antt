-- A reservation stays out when the stripe's reservations change.
use Rattle.jc_world.proofs.Common.{◌≡◌, ℕ, Bool, true, false, cond, not, ◌&&◌, ◌||◌, List, [], ◌∷◌, ◌++◌, is_some, ◌==◌, Some, None, Option, find, sym, refl, ap, ◌∙◌, false_from_ne_true, nat_list_eq_equiv, find-append, pointwise, texts_ties, list_any, option_or, eq_by_cmp, Caller, Refusal, same_key, Bytes, entry_at, key_cmp, Op, first_asked, reserves, answers_at_once, load_joined, needs_free_key, places_needed, first_refusal, State, is_key, is_reserved, without_key, First, Nobody, Reservation}
use Rattle.jc_stripe.specs.Refusals.{has_room}
use Rattle.jc_stripe.specs.State.{is_barred}
use Rattle.jc_stripe.proofs.CallerLemmas.{answering_asks}
use Rattle.jc_world.proofs.Joiners.{find_kept}

-- what is found is found in a longer list
pub found_more : {A : Type 0} (p : A → Bool) (xs ys : List A) (x : A) → find p xs ≡ Some x → find p (xs ++ ys) ≡ Some x
found_more p xs ys x h = find-append p xs ys ∙ ap (λ o. option_or o (find p ys)) h

-- what is out is reserved
pub out_reserved : (key : Bytes) (r : Reservation) (rs : List Reservation) → find (is_key key) rs ≡ Some r → list_any (is_key key) rs ≡ true
out_reserved key r [] h = cc
out_reserved key r (x ∷ xs) h =
    elim (is_key key x) as (λ b. cond b (Some x) (find (is_key key) xs) ≡ Some r → (b || list_any (is_key key) xs) ≡ true) [
      | true ↦ λ h. refl
      | false ↦ λ h. out_reserved key r xs h
    ] h

-- only what needs no free key is not refused as busy
pick : (why : Refusal) (room barred is_there needs : Bool) (other : Option Refusal) → cond (not room) (Some why) (cond (barred || (is_there && needs)) (Some Refusal.Busy) other) ≡ None → is_there ≡ true → needs ≡ false
pick why true false true false other h e = refl
pick why room barred is_there needs other h e = cc

-- a call that is not refused at a reserved key needs no free key
pub needs_none : (s : State) (caller : Caller) (key : Bytes) (op : Op) → first_refusal s caller key op ≡ None → is_reserved s key ≡ true → needs_free_key s key op ≡ false
needs_none s caller key op none there = pick _ (has_room s caller.call (places_needed (needs_free_key s key op))) (is_barred s key) (is_reserved s key) (needs_free_key s key op) _ none there

-- what needs no free key and joins no load answers at once
only_answers : (answers : Bool) (load : Option ℕ) → not (answers || is_some load) ≡ false → load ≡ None → answers ≡ true
only_answers true load h none = refl
only_answers false load h none = let t : not (is_some {T = ℕ} None) ≡ false = ap (λ o. not (is_some o)) (sym none) ∙ h in cc

-- a key that gets a ticket was free
pub was_free : (s : State) (caller : Caller) (key : Bytes) (op : Op) (first : First) → first_refusal s caller key op ≡ None → load_joined s key op ≡ None → first_asked s.config op (entry_at s.cache key) ≡ first → reserves first ≡ true → is_reserved s key ≡ false
was_free s caller key op first none alone asks due =
    false_from_ne_true (is_reserved s key) (λ there.
    let answering = only_answers (answers_at_once s.config op (entry_at s.cache key)) (load_joined s key op) (needs_none s caller key op none there) alone in
    let e = answering_asks s.config op (entry_at s.cache key) answering in
    let f : reserves Nobody ≡ true = ap reserves (sym e ∙ asks) ∙ due in cc)

-- the last of a list is found, if none before it passes the test
pub found_last : {A : Type 0} (p : A → Bool) (xs : List A) (r : A) → list_any p xs ≡ false → p r ≡ true → find p (xs ++ r ∷ []) ≡ Some r
found_last p [] r none e = ap (λ b. cond b (Some r) None) e
found_last p (x ∷ xs) r none e = elim (p x) as (λ b. (b || list_any p xs) ≡ false → cond b (Some x) (find p (xs ++ r ∷ [])) ≡ Some r) [ true ↦ λ h. cc | false ↦ λ h. found_last p xs r h e ] none

-- the reservation that is put after the others is the one of its key
pub new_out : (s : State) (r : Reservation) → is_reserved s r.key ≡ false → find (is_key r.key) (s.reservations ++ r ∷ []) ≡ Some r
new_out s r free = found_last (is_key r.key) s.reservations r free (nat_list_eq_equiv.refl r.key)

-- another key's reservation stays
pub found_left : (q key : Bytes) (rs : List Reservation) → eq_by_cmp key_cmp q key ≡ false → find (is_key q) (without_key key rs) ≡ find (is_key q) rs
found_left q key rs apart = find_kept (is_key q) (λ r. not (is_key key r)) rs (λ x t. ap not (false_from_ne_true (is_key key x) (λ f.
    let same : q ≡ key = same_key q x.key (sym (texts_ties q x.key) ∙ t) ∙ sym (same_key key x.key (sym (texts_ties key x.key) ∙ f)) in
    let tie : pointwise ◌==◌ q key ≡ true = ap (pointwise ◌==◌ q) (sym same) ∙ nat_list_eq_equiv.refl q in
    let u : true ≡ false = sym tie ∙ texts_ties q key ∙ apart in cc)))
