-- The stripe of a plain owner, at home or out. No contract of a public function cites this.
--     state_in      the state of the stripe in a box, if there is one
--     OwnerState    the state of its stripe, or none while it is out, and the state in which it was taken last
use Rattle.std.specs.Prelude.{Option, None, Some}
use Rattle.jc_stripe.specs.State.{State}

abbrev pub state_in : {B : Type 0} → (B → State) → Option B → Option State
state_in value None = None
state_in value (Some box) = Some (value box)

pub record OwnerState : Type 0 where
  pub here : Option State
  pub taken : State
