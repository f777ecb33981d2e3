-- The load that a joiner waits for.
--     found_holds       what holds of each holds of the one that is found
--     same_number       two reservations with one number are one
--     load_there        a load that can be joined is a reservation that asked the loader
--     key_of_load       a joiner that waits for a load is at its key
--     joins_get         only a `Get` joins a load
--     each_fits         each joiner of a stripe fits
use Rattle.jc_world.proofs.Common.{◌≡◌, ℕ, suc, Bool, true, false, cond, List, [], ◌∷◌, ◌==◌, Some, None, Option, find, sym, refl, ap, ◌∙◌, subst, arith, eqb-true, eq-eqb, and_parts, All-head, All-tail, All, AllPairs, Bytes, Op, Get, is_waiting, waits_for, JoinState, Waiting, Joiner, JoinFits, AllJoin, IsReached, load_of, load_at, load_joined, State, is_key, reservation_of, IsOut, asks_loader, First, Loader, Reservation, Each}
use Rattle.jc_world.proofs.Shares.{found_test}
use Rattle.jc_world.proofs.Underway.{same_bytes}

-- what holds of each holds of the one that is found
pub found_holds : {A : Type 0} (p : A → Bool) (P : A → Type 0) (xs : List A) (x : A) → find p xs ≡ Some x → All P xs → P x
found_holds p P [] x h all = cc
found_holds p P (y ∷ ys) x h all =
    elim (p y) as (λ b. cond b (Some y) (find p ys) ≡ Some x → P x) [
      | true ↦ λ h. let is : y ≡ x = cc in subst P is (All-head P y ys all)
      | false ↦ λ h. found_holds p P ys x h (All-tail P y ys all)
    ] h

-- two reservations with one number are one
pub same_number : (p q : Reservation → Bool) (rs : List Reservation) (r s : Reservation) → AllPairs (λ x later. (x.number == later.number) ≡ false) rs → find p rs ≡ Some r → find q rs ≡ Some s → r.number ≡ s.number → r ≡ s
same_number p q [] r s once f g same = cc
same_number p q (x ∷ xs) r s once f g same =
    let apart : All (λ (y : Reservation). (x.number == y.number) ≡ false) xs = λ k d within. once 0 (suc k) d (omega arith) (omega arith) in
    elim (p x) as (λ b. cond b (Some x) (find p xs) ≡ Some r → r ≡ s) [
      | true ↦ λ f.
          let is : x ≡ r = cc in
          elim (q x) as (λ b. cond b (Some x) (find q xs) ≡ Some s → r ≡ s) [
            | true ↦ λ g. cc
            | false ↦ λ g. absurd (let t : true ≡ false = sym (eq-eqb x.number s.number (ap (λ (y : Reservation). y.number) is ∙ same)) ∙ found_holds q (λ y. (x.number == y.number) ≡ false) xs s g apart in cc)
          ] g
      | false ↦ λ f. elim (q x) as (λ b. cond b (Some x) (find q xs) ≡ Some s → r ≡ s) [
        | true ↦ λ g.
            let is : x ≡ s = cc in
            absurd (let t : true ≡ false = sym (eq-eqb x.number r.number (ap (λ (y : Reservation). y.number) is ∙ sym same)) ∙ found_holds p (λ y. (x.number == y.number) ≡ false) xs r f apart in cc)
        | false ↦ λ g. same_number p q xs r s (λ i j d lt within. once (suc i) (suc j) d (omega arith) (omega arith)) f g same
      ] g
    ] f

-- a load that can be joined is a reservation that asked the loader
pub load_there : (o : Option Reservation) (load : ℕ) → load_at o ≡ Some load → (r : Reservation) × (o ≡ Some r) × (r.number ≡ load) × (asks_loader r.first ≡ true)
load_there None load h = cc
load_there (Some r) load h = let at = asked r.first r.number h in (r, refl, at.0, at.1)
  where
    asked : (first : First) (number : ℕ) → load_of first number ≡ Some load → (number ≡ load) × (asks_loader first ≡ true)
    asked Loader number h = (cc, refl)
    asked first number h = cc

-- only a `Get` joins a load
pub joins_get : (s : State) (key : Bytes) (op : Op) (load : ℕ) → load_joined s key op ≡ Some load → op ≡ Get
joins_get s key Get load h = refl
joins_get s key op load h = cc

-- each joiner of a stripe that is reached fits
pub each_fits : (s : State) (js : List Joiner) → AllJoin s js → Each (λ (j : Joiner). JoinFits s j j.state) js
each_fits s [] h = tt
each_fits s (j ∷ js) h = (h.0, each_fits s js h.1)

-- the key of a joiner that waits for a load is that of the load
pub key_of_load : (s : State) (r : Reservation) (j : Joiner) → IsReached s → IsOut s r → JoinFits s j j.state → waits_for r.number j ≡ true → j.key ≡ r.key
key_of_load s r j reached out fits waits = let parts = and_parts (j.load == r.number) (is_waiting j.state) waits in go parts.0 j.state parts.1 fits
  where
    go : (j.load == r.number) ≡ true → (state : JoinState) → is_waiting state ≡ true → JoinFits s j state → j.key ≡ r.key
    go number Waiting w f =
        let load = load_there (reservation_of s j.key) j.load f.load in
        let one = same_number (is_key r.key) (is_key j.key) s.reservations r load.0 reached.numbered.numbers out load.1 (sym (eqb-true j.load r.number number) ∙ sym load.2) in
        same_bytes j.key load.0.key (found_test (is_key j.key) s.reservations load.0 load.1) ∙ ap (λ (x : Reservation). x.key) (sym one)
    go number state w f = cc
