-- Events appended in reserved room, one after another.
use Rattle.std.proofs.Common.{◌≡◌, ◌≤◌, Bool, ℕ, List, map, length, drop}
use Rattle.jc_types.specs.declared.caller.Caller.{Caller}
use Rattle.jc_model.specs.declared.event.Event.{Event}
use Rattle.jc_history.specs.Past.{Past}
use Rattle.jc_inflight.specs.declared.joiner.Joiner.{Joiner}
use Rattle.jc_inflight.specs.Joining.{callers_of}
use Rattle.jc_stripe.specs.Appending.{append_all}

-- the shared steps of the joiners from an index on are still to be appended, and there is room for them
pub record IsSharing (found : Bool) (f : Caller → Event) (load : ℕ) (js : List Joiner) (first now : Past) (i : ℕ) : Type 0 where
  pub rest : append_all found (map f (callers_of load (drop i js))) now ≡ append_all found (map f (callers_of load js)) first
  pub room : length (callers_of load (drop i js)) ≤ now.promised
