-- The marked keys are reserved.
--     marks_more     with one reservation more
--     marks_left     without a reservation, and its key's mark
--     marks_all      if all reserved keys are marked
--     marked_left    another key's mark stays
--     held_left      so does its reservation
--     unmarked_same  a key without a mark leaves all marks
use Rattle.std.proofs.Common.{◌≡◌, ◌==◌, ◌||◌, ◌++◌, ◌∷◌, [], List, Bool, true, false, cond, not, map, refl, sym, ap, ◌∙◌}
use Rattle.std.specs.List.{list_all, list_any}
use Rattle.std.specs.Cmp.Lexicographic.{pointwise, texts_ties}
use Rattle.std.proofs.lemmas.Bool.{and_parts, and_from, or_right}
use Rattle.std.proofs.lemmas.Cmp.{nat_list_eq_equiv}
use Rattle.jc_types.proofs.CallerLemmas.{all_imply}
use Rattle.jc_model.specs.Cache.{Bytes}
use Rattle.jc_model.proofs.CallerLemmas.{same_key}
use Rattle.jc_stripe.specs.declared.ticket.Reservation.{Reservation}
use Rattle.jc_stripe.specs.State.{is_key, without_key, without_mark}
use Rattle.jc_stripe.specs.Reached.{AreReserved}
use Rattle.jc_stripe.proofs.Refusing.{clash}

any_more : (p : Reservation → Bool) (rs : List Reservation) (r : Reservation) → list_any p rs ≡ true → list_any p (rs ++ r ∷ []) ≡ true
any_more p [] r h = cc
any_more p (x ∷ xs) r h =
    elim (p x) as (λ b. (b || list_any p xs) ≡ true → (b || list_any p (xs ++ r ∷ [])) ≡ true) [
      | true ↦ λ e. refl
      | false ↦ λ e. any_more p xs r e
    ] h

pub marks_more : (rs : List Reservation) (r : Reservation) (marked : List Bytes) → AreReserved rs marked → AreReserved (rs ++ r ∷ []) marked
marks_more rs r marked h = all_imply (λ (k : Bytes). list_any (is_key k) rs) (λ (k : Bytes). list_any (is_key k) (rs ++ r ∷ [])) marked (λ k e. any_more (is_key k) rs r e) h

-- two keys that are one reservation's are the same
not_both : (key k : Bytes) (r : Reservation) → is_key key r ≡ true → is_key k r ≡ true → pointwise ◌==◌ key k ≡ false → ⊥
not_both key k r g m differs =
    let a : key ≡ r.key = same_key key r.key (sym (texts_ties key r.key) ∙ g) in
    let b : k ≡ r.key = same_key k r.key (sym (texts_ties k r.key) ∙ m) in
    clash (pointwise ◌==◌ key k) (ap (pointwise ◌==◌ key) (b ∙ sym a) ∙ nat_list_eq_equiv.refl key) differs

pub held_left : (key k : Bytes) (rs : List Reservation) → pointwise ◌==◌ key k ≡ false → list_any (is_key k) (without_key key rs) ≡ list_any (is_key k) rs
held_left key k [] differs = refl
held_left key k (r ∷ rs) differs = go (is_key key r) (is_key k r) refl refl (held_left key k rs differs)
  where
    go : (gone mine : Bool) → is_key key r ≡ gone → is_key k r ≡ mine → list_any (is_key k) (without_key key rs) ≡ list_any (is_key k) rs
        → list_any (is_key k) (cond (not gone) (r ∷ without_key key rs) (without_key key rs)) ≡ list_any (is_key k) (r ∷ rs)
    go false mine g m rest = ap (λ b. is_key k r || b) rest
    go true true g m rest = absurd (not_both key k r g m differs)
    go true false g m rest = rest ∙ ap (λ b. b || list_any (is_key k) rs) (sym m)

pub marks_left : (key : Bytes) (rs : List Reservation) (marked : List Bytes) → AreReserved rs marked → AreReserved (without_key key rs) (without_mark key marked)
marks_left key rs [] h = refl
marks_left key rs (k ∷ ks) h =
    let parts = and_parts (list_any (is_key k) rs) (list_all (λ (q : Bytes). list_any (is_key q) rs) ks) h in
    go (pointwise ◌==◌ key k) refl parts.0 (marks_left key rs ks parts.1)
  where
    go : (b : Bool) → pointwise ◌==◌ key k ≡ b → list_any (is_key k) rs ≡ true → AreReserved (without_key key rs) (without_mark key ks)
        → list_all (λ (q : Bytes). list_any (is_key q) (without_key key rs)) (cond (not b) (k ∷ without_mark key ks) (without_mark key ks)) ≡ true
    go true e here rest = rest
    go false e here rest = and_from _ _ (held_left key k rs e ∙ here) rest

pub marks_all : (rs : List Reservation) → AreReserved rs (map (λ r. r.key) rs)
marks_all [] = refl
marks_all (r ∷ rs) =
    and_from _ _ (ap (λ b. b || list_any (is_key r.key) rs) (nat_list_eq_equiv.refl r.key))
    (all_imply (λ (k : Bytes). list_any (is_key k) rs) (λ (k : Bytes). is_key k r || list_any (is_key k) rs) (map (λ x. x.key) rs) (λ k e. or_right (is_key k r) (list_any (is_key k) rs) e) (marks_all rs))

pub marked_left : (key k : Bytes) (marked : List Bytes) → pointwise ◌==◌ key k ≡ false → list_any (pointwise ◌==◌ k) (without_mark key marked) ≡ list_any (pointwise ◌==◌ k) marked
marked_left key k [] differs = refl
marked_left key k (x ∷ xs) differs = go (pointwise ◌==◌ key x) (pointwise ◌==◌ k x) refl refl (marked_left key k xs differs)
  where
    go : (gone mine : Bool) → pointwise ◌==◌ key x ≡ gone → pointwise ◌==◌ k x ≡ mine → list_any (pointwise ◌==◌ k) (without_mark key xs) ≡ list_any (pointwise ◌==◌ k) xs
        → list_any (pointwise ◌==◌ k) (cond (not gone) (x ∷ without_mark key xs) (without_mark key xs)) ≡ list_any (pointwise ◌==◌ k) (x ∷ xs)
    go false mine g m rest = ap (λ b. pointwise ◌==◌ k x || b) rest
    go true true g m rest =
        let a : key ≡ x = same_key key x (sym (texts_ties key x) ∙ g) in
        let b : k ≡ x = same_key k x (sym (texts_ties k x) ∙ m) in
        absurd (clash (pointwise ◌==◌ key k) (ap (pointwise ◌==◌ key) (b ∙ sym a) ∙ nat_list_eq_equiv.refl key) differs)
    go true false g m rest = rest ∙ ap (λ b. b || list_any (pointwise ◌==◌ k) xs) (sym m)

-- without a mark there is none to go
pub unmarked_same : (key : Bytes) (marked : List Bytes) → list_any (pointwise ◌==◌ key) marked ≡ false → without_mark key marked ≡ marked
unmarked_same key [] h = refl
unmarked_same key (m ∷ ms) h =
    elim (pointwise ◌==◌ key m) as (λ b. (b || list_any (pointwise ◌==◌ key) ms) ≡ false → cond (not b) (m ∷ without_mark key ms) (without_mark key ms) ≡ m ∷ ms) [
      | true ↦ λ e. cc
      | false ↦ λ e. ap (λ rest. m ∷ rest) (unmarked_same key ms e)
    ] h
