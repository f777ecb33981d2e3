-- One lending of a stripe.
--     ComesAfter    the stripe that a take finds comes after the one that was given back: the same stripe, perhaps in a later
--                   generation, a whole history that continues the whole history, ended generations that continue the ended ones,
--                   and the same own steps of a session, in all generations
--     Lends         one take that finds a state, and one give that leaves a state
use Rattle.std.specs.Prelude.{◌≡◌, ◌≤◌, ℕ}
use mathlib.Core.List.{IsPrefix}
use Rattle.jc_stripe.specs.State.{State}
use Rattle.jc_stripe.specs.Generations.{whole_history, IsOfSameStripe}
use Rattle.jc_stripe.specs.Reached.{IsReached}
use Rattle.jc_stripe.specs.Renewal.{all_own_steps}

pub record ComesAfter (session : ℕ) (left found : State) : Type 0 where
  pub same : IsOfSameStripe left found
  pub front : IsPrefix (whole_history left) (whole_history found)
  pub next : left.next ≤ found.next
  pub ended : IsPrefix left.ended found.ended
  pub own : all_own_steps session found ≡ all_own_steps session left

-- `takes` and `gives` are a gate's; `g` and `t` are the gate and the token before, `h` and `u` after
module _ {G T : Type 0} (takes gives : G → T → State → G → T → Type 0) where
  pub record Lends (g : G) (t : T) (found left : State) (h : G) (u : T) : Type 0 where
    pub gate : G
    pub token : T
    pub took : takes g t found gate token
    pub reached : IsReached found
    pub gave : gives gate token left h u
