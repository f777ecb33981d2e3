-- What stays of the joiners, when the stripe continues.
--     found_kept             what is found stays, where it is not taken out
--     fits_on, join_on       joiners that fit still do, where history grows and those that wait still find their load
--     finds_on               a joiner finds its load in a stripe with the same settings, entry and reservation
--     join-push, join_kept   one joiner more, and some less
--     other_load             the reservation of another load has another key
use Rattle.std.proofs.Common.{◌≡◌, ◌==◌, ◌≤◌, ◌+◌, ◌&&◌, ℕ, List, [], ◌∷◌, ◌++◌, Bool, true, false, cond, not, Option, None, Some, find, filter, refl, sym, ap, ◌∙◌, arith, slice_get}
use Rattle.std.proofs.lemmas.List.Sums.{sum_by-append}
use Rattle.std.proofs.lemmas.Cmp.{nat_list_eq_equiv, nat_eq_equiv}
use Rattle.std.specs.List.{list_any, count_by}
use Rattle.jc_model.specs.declared.event.Event.{Event}
use Rattle.jc_model.specs.Cache.{Bytes, entry_at}
use Rattle.jc_inflight.specs.declared.joiner.Joiner.{Joiner}
use Rattle.jc_inflight.specs.declared.joiner.JoinState.{JoinState}
use Rattle.jc_inflight.specs.declared.joiner.JoinState.TheVariants.{Waiting, Answered, Again}
use Rattle.jc_inflight.specs.Joining.{is_waiting, waits_for, waits}
use Rattle.jc_stripe.specs.declared.ticket.First.{First}
use Rattle.jc_stripe.specs.declared.ticket.First.TheVariants.{Nobody, Loader, Writer, Processor}
use Rattle.jc_stripe.specs.Refusals.{load_of, load_at}
use Rattle.jc_stripe.specs.State.{State, is_key, without_key}
use Rattle.jc_stripe.specs.Reached.{AreNumbered, FindsLoad, JoinFits, AllJoin}
use Rattle.jc_stripe.proofs.Numbering.{found_once}
use Rattle.jc_types.proofs.CallerLemmas.{found_any, stands_on}
use Rattle.jc_stripe.specs.declared.ticket.Reservation.{Reservation}
use Rattle.jc_inflight.proofs.CallerLemmas.{count-cons}

-- 1. What is found.

pub found_kept : {A : Type 0} (p q : A → Bool) (xs : List A) (r : A) → find p xs ≡ Some r → q r ≡ true → find p (filter q xs) ≡ Some r
found_kept p q [] r h k = cc
found_kept p q (x ∷ xs) r h k =
    elim (p x) as (λ b. p x ≡ b → cond b (Some x) (find p xs) ≡ Some r → find p (cond (q x) (x ∷ filter q xs) (filter q xs)) ≡ Some r) [
      | true ↦ λ e h. let is : x ≡ r = cc in rw (ap q is ∙ k) (ap (λ b. cond b (Some x) (find p (filter q xs))) e ∙ h)
      | false ↦ λ e h. elim (q x) as (λ b. find p (cond b (x ∷ filter q xs) (filter q xs)) ≡ Some r) [
        | true ↦ ap (λ b. cond b (Some x) (find p (filter q xs))) e ∙ found_kept p q xs r h k
        | false ↦ found_kept p q xs r h k
      ]
    ] refl h

load_first : (first : First) (number load : ℕ) → load_of first number ≡ Some load → (first ≡ Loader) × (number ≡ load)
load_first Nobody number load h = cc
load_first Loader number load h = (refl, cc)
load_first (Writer change) number load h = cc
load_first (Processor seen loads) number load h = cc

-- the reservation of a load that is found
pub loaded_at : (o : Option Reservation) (load : ℕ) → load_at o ≡ Some load → (r : Reservation) × (o ≡ Some r) × (r.first ≡ Loader) × (r.number ≡ load)
loaded_at None load h = cc
loaded_at (Some r) load h = let parts = load_first r.first r.number load h in (r, refl, parts.0, parts.1)

-- 2. Joiners that fit still do.

pub fits_on : (old new : State) (more : List Event) (j : Joiner) (state : JoinState) → new.history ≡ old.history ++ more
    → (is_waiting state ≡ true → FindsLoad old j → FindsLoad new j) → JoinFits old j state → JoinFits new j state
fits_on old new more j Waiting grows finds fits = finds refl fits
fits_on old new more j (Answered place shared) grows finds fits = (fits.0, fits.1, ap (λ h. slice_get h place) grows ∙ stands_on old.history more place _ fits.2)
fits_on old new more j Again grows finds fits = tt

pub join_on : (old new : State) (more : List Event) (js : List Joiner) → new.history ≡ old.history ++ more
    → ((j : Joiner) → waits j ≡ true → FindsLoad old j → FindsLoad new j) → AllJoin old js → AllJoin new js
join_on old new more [] grows finds all = tt
join_on old new more (j ∷ js) grows finds all = (fits_on old new more j j.state grows (λ w f. finds j w f) all.0, join_on old new more js grows finds all.1)

-- a joiner finds its load where the reservation is still there, the entries at the reserved keys are the same, and so are the settings
pub finds_on : (old new : State) (j : Joiner) → new.config ≡ old.config → ((q : Bytes) → list_any (is_key q) new.reservations ≡ true → entry_at new.cache q ≡ entry_at old.cache q)
    → ((r : Reservation) → find (is_key j.key) old.reservations ≡ Some r → find (is_key j.key) new.reservations ≡ Some r) → FindsLoad old j → FindsLoad new j
finds_on old new j config same there finds =
    let out = loaded_at (find (is_key j.key) old.reservations) j.load finds.load in
    let found = there out.0 out.1 in
    record {
      load = ap load_at found ∙ sym (ap load_at out.1) ∙ finds.load;
      missing = same j.key (found_any (is_key j.key) new.reservations out.0 found) ∙ finds.missing;
      read_through = ap (λ c. c.read_through) config ∙ finds.read_through;
    }

pub join-push : (state : State) (js : List Joiner) (j : Joiner) → AllJoin state js → JoinFits state j j.state → AllJoin state (js ++ j ∷ [])
join-push state [] j all one = (one, tt)
join-push state (x ∷ xs) j all one = (all.0, join-push state xs j all.1 one)

pub join_kept : (state : State) (q : Joiner → Bool) (js : List Joiner) → AllJoin state js → AllJoin state (filter q js)
join_kept state q [] all = tt
join_kept state q (j ∷ js) all = elim (q j) as (λ b. AllJoin state (cond b (j ∷ filter q js) (filter q js))) [ true ↦ (all.0, join_kept state q js all.1) | false ↦ join_kept state q js all.1 ]

-- 3. Another load.

-- the reservation of another load has another key
pub other_load : (next : ℕ) (rs : List Reservation) (key : Bytes) (r s : Reservation) → AreNumbered next rs → find (is_key r.key) rs ≡ Some r → find (is_key key) rs ≡ Some s
    → (s.number == r.number) ≡ false → is_key r.key s ≡ false
other_load next rs key r s numbered h g differs =
    elim (is_key r.key s) as (λ b. is_key r.key s ≡ b → is_key r.key s ≡ false) [
      | true ↦ λ e.
          let same : r ≡ s = found_once (λ (x : Reservation) (y : Reservation). is_key x.key y) (is_key r.key) (is_key key) rs r s numbered.once h g e (nat_list_eq_equiv.symm s.key r.key ∙ e) in
          let bad : true ≡ false = sym (nat_eq_equiv.refl r.number) ∙ ap (λ (x : Reservation). x.number == r.number) same ∙ differs in cc
      | false ↦ λ e. e
    ] refl

same_found : (o : Option Reservation) (r s : Reservation) → o ≡ Some r → o ≡ Some s → r ≡ s
same_found o r s g h = cc

-- the load of a joiner that does not wait for a reservation's load is still there without it
pub still_there : (next : ℕ) (rs : List Reservation) (r : Reservation) (j : Joiner) → AreNumbered next rs → find (is_key r.key) rs ≡ Some r → load_at (find (is_key j.key) rs) ≡ Some j.load → waits j ≡ true → waits_for r.number j ≡ false
    → (s : Reservation) → find (is_key j.key) rs ≡ Some s → find (is_key j.key) (without_key r.key rs) ≡ Some s
still_there next rs r j numbered h load w not_for s g =
    let out = loaded_at (find (is_key j.key) rs) j.load load in
    let number : s.number ≡ j.load = ap (λ (x : Reservation). x.number) (same_found _ s out.0 g out.1) ∙ out.3 in
    let differs : (j.load == r.number) ≡ false = sym (and_true (j.load == r.number)) ∙ ap (λ b. (j.load == r.number) && b) (sym w) ∙ not_for in
    found_kept (is_key j.key) (λ x. not (is_key r.key x)) rs s g (ap not (other_load next rs j.key r s numbered h g (ap (λ n. n == r.number) number ∙ differs)))
  where
    and_true : (b : Bool) → (b && true) ≡ b
    and_true true = refl
    and_true false = refl

-- 4. Counts.

pub count-push : (p : Joiner → Bool) (js : List Joiner) (j : Joiner) → p j ≡ true → count_by p (js ++ j ∷ []) ≡ count_by p js + 1
count-push p js j h =
    let sum : count_by p (js ++ j ∷ []) ≡ count_by p js + count_by p (j ∷ []) = sum_by-append (λ x. cond (p x) 1 0) js (j ∷ []) in
    let last : count_by p (j ∷ []) ≡ cond (p j) 1 0 + count_by p [] = count-cons p j [] in
    let one : cond {A = ℕ} (p j) 1 0 ≡ 1 = ap (λ b. cond {A = ℕ} b 1 0) h in
    omega arith

pub count_kept : (p q : Joiner → Bool) (js : List Joiner) → count_by p (filter q js) ≤ count_by p js
count_kept p q [] = omega arith
count_kept p q (j ∷ js) =
    rw (count-cons p j js)
    (elim (q j) as (λ b. count_by p (cond b (j ∷ filter q js) (filter q js)) ≤ cond (p j) 1 0 + count_by p js) [
      | true ↦ omega (arith, count-cons p j (filter q js), count_kept p q js)
      | false ↦ omega (arith, count_kept p q js)
    ])
