-- Rows of lendings: the visits of a session at a stripe, one after another.
--     IsLending    one take that finds the stripe in the first state, and one give that leaves it in the second: at most one
--                  phase of the session, or a renewal, leads there, and what the next take finds comes after what was left
--     Row          lendings one after another, each by the states in which the stripe was found and left
--     AllLend      the condition holds of each of these lendings
--     Turn         the visits of a session up to one phase: a condition on each lending in which it waits, and one on the lending
--                  in which it makes its phase
--     turn_of      a turn with these two conditions
--     IsTurn       these lendings are such a turn: in all but the last one the session had to wait, and in the last one it made
--                  its phase
--     LentPhase    a row of lendings that is such a turn; the last one made at most one phase of the session
--     PhaseLaws    the laws of one lending: the effect of a phase and of a renewal on the stripe, and on the session's own steps
use Rattle.std.specs.Prelude.{◌≡◌, ◌⊎◌, ◌++◌, ℕ, List, [], ◌∷◌}
use Rattle.jc_stripe.specs.State.{State}
use Rattle.jc_stripe.specs.OnePhase.{IsPhaseOf, OnePhase}
use Rattle.jc_stripe.specs.OwnSteps.{OwnSteps}
use Rattle.jc_stripe.specs.Renewal.{Renewal, Renews}
use Rattle.jc_gate.specs.Lending.{ComesAfter, Lends}

-- 1. What was done, by the states that were found and left.

abbrev pub AllLend : (State → State → Type 0) → List (State × State) → Type 0
AllLend is [] = Unit {0}
AllLend is (p ∷ ps) = is p.0 p.1 × AllLend is ps

pub record Turn : Type 1 where
  pub waits : State → State → Type 0
  pub makes : State → State → Type 0

abbrev pub turn_of : (State → State → Type 0) → (State → State → Type 0) → Turn
turn_of waits makes = record { waits = waits; makes = makes }

pub record IsTurn (turn : Turn) (row : List (State × State)) : Type 0 where
  pub waits : List (State × State)
  pub found : State
  pub left : State
  pub row_is : row ≡ waits ++ (found, left) ∷ []
  pub waited : AllLend turn.waits waits
  pub made : turn.makes found left

-- 2. The same of a gate and a token, before and after.

module _ {G T : Type 0} (takes gives : G → T → State → G → T → Type 0) (finds : G → T → State → Type 0) (session : ℕ) where
  pub record IsLending (g : G) (t : T) (found left : State) (h : G) (u : T) : Type 0 where
    pub lends : Lends takes gives g t found left h u
    pub finds_it : finds g t found
    pub by : IsPhaseOf session found left ⊎ Renews found left
    pub next : (a : State) → finds h u a → ComesAfter session left a

  abbrev pub Row : G → T → List (State × State) → G → T → Type 0
  Row g t [] h u = (h ≡ g) × (u ≡ t)
  Row g t (p ∷ ps) h u = (gate : G) × (token : T) × IsLending g t p.0 p.1 gate token × Row gate token ps h u

  pub record LentPhase (g : G) (t : T) (turn : Turn) (h : G) (u : T) : Type 0 where
    pub row : List (State × State)
    pub lent : Row g t row h u
    pub did : IsTurn turn row
    pub one : IsPhaseOf session did.found did.left

-- 3. Laws of every stripe.

pub record PhaseLaws : Type 0 where
  pub one_phase : OnePhase
  pub own_steps : OwnSteps
  pub renewal : Renewal
