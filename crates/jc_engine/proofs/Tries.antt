-- Tries of a phase.
--     Tries          what a row of tries keeps: the token is free, speaks for whom it spoke, what a take finds is still what was asked of it,
--                    and the session had to wait in each
--     tries_start    before the first try
--     tries_left     one more that left the stripe without a phase
--     tried_once     one try that failed
--     tried_twice    two of them
--     made_again     a phase that was made at the second try
--     tried_since    what is found after one try comes after what a take could have found before it
use Rattle.jc_engine.proofs.Common.{◌≡◌, ⊎_elim, ℕ, List, [], ◌∷◌, ◌++◌, Bool, true, false, MatchBool, refl, sym, subst, true≢false, IsPhaseOf, State, IsReached, is_renewable, ComesAfter, AllLend, IsLending, LentPhase, PhaseLaws, Row, turn_of, AreTries, HasTried, HasTriedOnce, IsAgain, IsLeft}
use Rattle.jc_engine.proofs.Rows.{Keeps, Since, all_append, left_once, once, row_append, row_since, since_found}

-- 1. Tries until the phase is made.

module _ {G T : Type 0} (takes gives : G → T → State → G → T → Type 0) (finds : G → T → State → Type 0) (is_free : G → T → Type 0) (speaks_for : T → ℕ → Type 0) (waits : State → State → Type 0) (P : State → Type 0) (session : ℕ) where
  pub record Tries (g : G) (t : T) (h : G) (u : T) : Type 0 where
    pub free : is_free h u
    pub speaks : (n : ℕ) → speaks_for t n → speaks_for u n
    pub finds_it : (a : State) → finds h u a → P a
    pub row : List (State × State)
    pub lent : Row takes gives finds session g t row h u
    pub waited : AllLend waits row

  pub tries_start : (g : G) (t : T) → is_free g t → ((a : State) → finds g t a → P a) → Tries g t g t
  tries_start g t free found = record { free = free; speaks = λ n s. s; finds_it = found; row = []; lent = (refl, refl); waited = tt }

  pub tries_left : (g : G) (t : T) (h : G) (u : T) (a : State) (m : G) (w : T) (k : G) (v : T) → ((x y : State) → ComesAfter session x y → P x → P y)
      → Tries g t h u → takes h u a m w → finds h u a → IsReached a → ((n : ℕ) → speaks_for u n → speaks_for w n) → speaks_for t session
      → (x : IsLeft gives finds is_free speaks_for m w a k v) → waits a x.left → Tries g t k v
  tries_left g t h u a m w k v stays tries took found reached one speaks x why =
      let taken = one session (tries.speaks session speaks) in
      let last = left_once takes gives finds session is_free speaks_for h u a m w k v took found reached taken x in
      record {
        free = x.free;
        speaks = λ n s. x.speaks n (one n (tries.speaks n s));
        finds_it = λ b later. stays x.left b (x.next session b taken later) (stays a x.left (x.after session) (tries.finds_it a found));
        row = tries.row ++ (a, x.left) ∷ [];
        lent = row_append takes gives finds session g t tries.row h u ((a, x.left) ∷ []) k v tries.lent (once takes gives finds session h u a x.left k v last);
        waited = all_append waits tries.row ((a, x.left) ∷ []) tries.waited (why, tt);
      }

-- 2. One try, and perhaps another.

one_try : (a b : State) (missed : ℕ) (again : Bool) → is_renewable a ≡ again → MatchBool again (missed ≡ 1) (missed ≡ 0) → AreTries ((a, b) ∷ []) missed
one_try a b missed again is many = subst (λ (r : Bool). MatchBool r (missed ≡ 1) (missed ≡ 0)) (sym is) many

module _ {G T : Type 0} (takes gives : G → T → State → G → T → Type 0) (finds : G → T → State → Type 0) (misses : G → T → G → T → Type 0) (session : ℕ) (waits : State → State → Type 0) where
  abbrev pub Once : Bool → G → T → G → T → Type 0
  Once again g t h u = HasTriedOnce takes gives finds misses session waits again g t h u

  abbrev Tried : G → T → G → T → Type 0
  Tried g t h u = HasTried takes gives finds misses session waits g t h u

  pub tried_once : (g : G) (t : T) (h : G) (u : T) → Once false g t h u → Tried g t h u
  tried_once g t h u = ⊎_elim
      (λ missed. record { row = []; gate = g; token = t; lent = (refl, refl); missed = 1; none = missed.0; waited = tt; tries = refl })
      (λ x. record { row = x.0 ∷ []; gate = h; token = u; lent = (h, u, x.1, (refl, refl)); missed = 0; none = (refl, refl); waited = (x.2, tt); tries = one_try x.0.0 x.0.1 0 false x.3 refl })

  pub tried_twice : (again : Bool) (g : G) (t : T) (h : G) (u : T) (k : G) (v : T) → Once true g t h u → Once again h u k v → Tried g t k v
  tried_twice again g t h u k v first second = ⊎_elim
      (λ missed. absurd (true≢false missed.1))
      (λ x. ⊎_elim
      (λ missed. record { row = x.0 ∷ []; gate = h; token = u; lent = (h, u, x.1, (refl, refl)); missed = 1; none = missed.0; waited = (x.2, tt); tries = one_try x.0.0 x.0.1 1 true x.3 refl })
      (λ y. record { row = x.0 ∷ (y.0 ∷ []); gate = k; token = v; lent = (h, u, x.1, (k, v, y.1, (refl, refl))); missed = 0; none = (refl, refl); waited = (x.2, (y.2, tt)); tries = (x.3, refl) })
      second)
      first

  pub made_again : (makes : State → State → Type 0) (g : G) (t : T) (h : G) (u : T) (a b : State) (k : G) (v : T) → Once true g t h u → makes a b → IsPhaseOf session a b → IsLending takes gives finds session h u a b k v
      → (x : LentPhase takes gives finds session g t (turn_of waits makes) k v) × IsAgain x.did.waits
  made_again makes g t h u a b k v first made one last = ⊎_elim
      (λ missed. absurd (true≢false missed.1))
      (λ x. (
        record {
          row = x.0 ∷ ((a, b) ∷ []);
          lent = (h, u, x.1, (k, v, last, (refl, refl)));
          did = record { waits = x.0 ∷ []; found = a; left = b; row_is = refl; waited = (x.2, tt); made = made };
          one = one;
        },
        x.3,
      ))
      first

  pub tried_since : PhaseLaws → ((a b : State) → waits a b → Keeps session a b) → (again : Bool) (g : G) (t : T) (h : G) (u : T) → Once again g t h u → (a : State) → finds h u a → Since takes gives finds session g t a
  tried_since law keeps again g t h u once a found = ⊎_elim
      (λ missed. since_found takes gives finds session g t a (missed.0.2 a found))
      (λ x. row_since takes gives finds session law g t (x.0 ∷ []) h u (h, u, x.1, (refl, refl)) (keeps x.0.0 x.0.1 x.2, tt) a (since_found takes gives finds session h u a found))
      once
