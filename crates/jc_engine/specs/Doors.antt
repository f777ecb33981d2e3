-- A session at the door of a stripe: what a phase needs there, and what it leaves.
--     KeepsAccess  the access still borrows the same gate, token and agent
--     IsReady      the agent holds no stripe, and the token has not taken the gate's and speaks for the agent's session
--     FitsGate     a phase is of this session, and each state in which a take may find the stripe has what the phase needs
--     MakesPhase   the session is ready again, with these counts, after this phase, or after the lendings before it
--     MakesCall    the session is ready again, after this whole call
--     MakesWay     what a session does before it gives back a stripe on which it made no phase: a full generation that may end
--                  has ended; otherwise a shut stripe has evicted an entry, or is open again, if that can be
--     IsLeft       a stripe that was found in this state is given back without a phase of the session, but made way
--     HasWaited    a lending in which the session had to wait: its phase couldn't be made, or was put off; the stripe was given
--                  back as it was, but made way
--     waiting      the turn of a phase that waits like this
--     IsAgain      no lending, or one whose generation stood in the way
--     AreTries     the tries of a phase, and how often somebody else had the stripe: one, and one more if a generation stood in
--                  the way
--     Misses       the number of tries in which somebody else had the stripe, at most one; the next take finds only what this one
--                  might have found
--     HasTriedOnce a phase was tried once and not made: somebody else had the stripe, or the session would have had to wait; the
--                  flag says whether a generation stood in the way
--     HasTried     as `HasTriedOnce`, with one more try if a generation stood in the way: a row of lendings, and perhaps a miss
use Rattle.std.specs.Prelude.{◌≡◌, ◌⊎◌, ℕ, zero, suc, List, [], ◌∷◌, Bool, true, false, MatchBool}
use Rattle.jc_stripe.specs.Renewal.{Renews, is_renewable}
use Rattle.jc_stripe.specs.State.{State}
use Rattle.jc_stripe.specs.Invalidating.{Sweeps}
use Rattle.jc_gate.specs.Lending.{ComesAfter}
use Rattle.jc_session.specs.declared.counts.Counts.{Counts}
use Rattle.jc_engine.specs.declared.access.Access.{Access}
use Rattle.jc_engine.specs.Rows.{AllLend, IsLending, Row, Turn, turn_of}

module _ {G T I J : Type 0} {D : I → Type 0} {E : J → Type 0} where
  pub record KeepsAccess (old new : Access G T I J D E) : Type 0 where
    pub gate : new.gate.ghost_name ≡ old.gate.ghost_name
    pub token : new.token.ghost_name ≡ old.token.ghost_name
    pub agent : new.agent.ghost_name ≡ old.agent.ghost_name

  pub record IsReady (is_free : G → T → Type 0) (speaks_for : T → ℕ → Type 0) (access : Access G T I J D E) : Type 0 where
    pub held : access.agent.now.hands.held ≡ 0
    pub free : is_free access.gate.now access.token.now
    pub speaks : speaks_for access.token.now access.agent.now.caller.session

  pub record FitsGate (finds : G → T → State → Type 0) (needs : State → Type 0) (who : ℕ)
      (access : Access G T I J D E) : Type 0 where
    pub who_is : who ≡ access.agent.now.caller.session
    pub needs_it : (a : State) → finds access.gate.now access.token.now a → needs a

  pub record MakesPhase (is_free : G → T → Type 0) (speaks_for : T → ℕ → Type 0) (old : Access G T I J D E) (counts : Counts)
      (new : Access G T I J D E) (Made : Type 0) : Type 0 where
    pub same : KeepsAccess old new
    pub ready : IsReady is_free speaks_for new
    pub agent : new.agent.now ≡ record old.agent.now { counts = counts }
    pub phase : Made

  pub record MakesCall (is_free : G → T → Type 0) (speaks_for : T → ℕ → Type 0) (old new : Access G T I J D E)
      (Made : Type 0) : Type 0 where
    pub same : KeepsAccess old new
    pub ready : IsReady is_free speaks_for new
    pub call : Made

abbrev pub MakesWay : State → State → Type 0
MakesWay found left = (is_renewable found ≡ true → Renews found left) × (is_renewable found ≡ false → Sweeps found left)

pub record IsLeft {G T : Type 0} (gives : G → T → State → G → T → Type 0) (finds : G → T → State → Type 0)
    (is_free : G → T → Type 0) (speaks_for : T → ℕ → Type 0) (g : G) (t : T) (found : State) (h : G) (u : T) : Type 0 where
  pub left : State
  pub after : (session : ℕ) → ComesAfter session found left
  pub way : MakesWay found left
  pub gave : gives g t left h u
  pub free : is_free h u
  pub speaks : (session : ℕ) → speaks_for t session → speaks_for u session
  pub next : (session : ℕ) (a : State) → speaks_for t session → finds h u a → ComesAfter session left a

-- one lending in which the session had to wait
pub record HasWaited (due puts_off : State → Type 0) (found left : State) : Type 0 where
  pub why : (due found → ⊥) ⊎ puts_off found
  pub way : MakesWay found left

abbrev pub waiting : (due puts_off : State → Type 0) → (State → State → Type 0) → Turn
waiting due puts_off makes = turn_of (HasWaited due puts_off) makes

abbrev pub IsAgain : List (State × State) → Type 0
IsAgain [] = Unit {0}
IsAgain (p ∷ []) = is_renewable p.0 ≡ true
IsAgain (p ∷ (q ∷ ps)) = ⊥

abbrev pub AreTries : List (State × State) → ℕ → Type 0
AreTries [] missed = missed ≡ 1
AreTries (p ∷ []) missed = MatchBool (is_renewable p.0) (missed ≡ 1) (missed ≡ 0)
AreTries (p ∷ (q ∷ [])) missed = (is_renewable p.0 ≡ true) × (missed ≡ 0)
AreTries (p ∷ (q ∷ (r ∷ ps))) missed = ⊥

module _ {G T : Type 0} (takes gives : G → T → State → G → T → Type 0) (finds : G → T → State → Type 0)
    (misses : G → T → G → T → Type 0) (session : ℕ) where
  abbrev pub Misses : ℕ → G → T → G → T → Type 0
  Misses zero g t h u = (h ≡ g) × (u ≡ t)
  Misses (suc n) g t h u = (n ≡ 0) × misses g t h u × ((a : State) → finds h u a → finds g t a)

  abbrev pub HasTriedOnce : (State → State → Type 0) → Bool → G → T → G → T → Type 0
  HasTriedOnce waits again g t h u =
      (Misses 1 g t h u × (again ≡ false))
      ⊎ ((p : State × State) × IsLending takes gives finds session g t p.0 p.1 h u × waits p.0 p.1 × (is_renewable p.0 ≡ again))

  pub record HasTried (waits : State → State → Type 0) (g : G) (t : T) (h : G) (u : T) : Type 0 where
    pub row : List (State × State)
    pub gate : G
    pub token : T
    pub lent : Row takes gives finds session g t row gate token
    pub missed : ℕ
    pub none : Misses missed gate token h u
    pub waited : AllLend waits row
    pub tries : AreTries row missed
