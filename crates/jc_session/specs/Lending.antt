-- A session's agent after it has taken a stripe from a gate, and after it has given the stripe back.
--     Taken       the agent holds one stripe, which the token has taken in this state; it is one that a take may find, and is
--                 reached
--     NotTaken    the stripe was out: the agent is unchanged, and a later take may find what this one might have found
--     Given       the agent holds no stripe, and has counted its phase; the next take finds a state that comes after the one
--                 given back
use Rattle.std.specs.Prelude.{◌≡◌, ℕ}
use Rattle.jc_stripe.specs.State.{State}
use Rattle.jc_stripe.specs.Reached.{IsReached}
use Rattle.jc_gate.specs.Lending.{ComesAfter}
use Rattle.jc_session.specs.Counting.{counts_after}
use Rattle.jc_session.specs.declared.agent.Agent.{Agent}
use Rattle.jc_session.specs.declared.counts.Counted.{Counted}

-- `has`, `take`, `give`, `misses`, `finds`, `is_free` and `speaks_for` are a gate's; `g` and `t` are the gate and the token before,
-- `h` and `u` after
module _ {I J G T : Type 0} {D : I → Type 0} {E : J → Type 0} where
  pub record Taken (has : G → T → State → Type 0) (take : G → T → State → G → T → Type 0) (finds : G → T → State → Type 0)
      (speaks_for : T → ℕ → Type 0)
      (old : Agent I J D E) (g : G) (t : T) (a : State) (new : Agent I J D E) (h : G) (u : T) : Type 0 where
    pub agent : new ≡ record old { hands = record old.hands { held = 1 } }
    pub speaks : (n : ℕ) → speaks_for t n → speaks_for u n
    pub taken : has h u a
    pub takes : take g t a h u
    pub found : finds g t a × IsReached a

  pub record NotTaken (misses : G → T → G → T → Type 0) (finds : G → T → State → Type 0) (is_free : G → T → Type 0)
      (speaks_for : T → ℕ → Type 0)
      (old : Agent I J D E) (g : G) (t : T) (new : Agent I J D E) (h : G) (u : T) : Type 0 where
    pub none : new ≡ old
    pub missed : misses g t h u
    pub free : is_free h u
    pub speaks : (n : ℕ) → speaks_for t n → speaks_for u n
    pub still : (a : State) → finds h u a → finds g t a

  pub record Given (give : G → T → State → G → T → Type 0) (finds : G → T → State → Type 0) (is_free : G → T → Type 0)
      (speaks_for : T → ℕ → Type 0)
      (counted : Counted) (old : Agent I J D E) (g : G) (t : T) (a : State) (new : Agent I J D E) (h : G) (u : T) : Type 0 where
    pub agent : new ≡ record old { counts = counts_after old.counts counted; hands = record old.hands { held = 0 } }
    pub speaks : (n : ℕ) → speaks_for t n → speaks_for u n
    pub free : is_free h u
    pub gives : give g t a h u
    pub next : (n : ℕ) (b : State) → speaks_for t n → finds h u b → ComesAfter n a b
