-- A hit: the first phase of a `get` that finds its key's entry in the stripe. No contract of a public function cites this.
--     IsHit    its first phase, with the value that it finds: the entry is then the most recently used
use Rattle.std.specs.Prelude.{◌≡◌, Some, length}
use Rattle.jc_types.specs.declared.caller.Caller.{Caller}
use Rattle.jc_model.specs.Cache.{Bytes}
use Rattle.jc_model.specs.declared.event.Op.TheVariants.{Get}
use Rattle.jc_entries.specs.MostRecent.{most_recent}
use Rattle.jc_stripe.specs.State.{State}
use Rattle.jc_stripe.specs.OrderOfUse.{by_use}
use Rattle.jc_stripe.specs.Phases.{Begins, hit_done}
use Rattle.jc_stripe.specs.Outcomes as begun

pub record IsHit (old : State) (caller : Caller) (key : Bytes) (new : State) : Type 0 where
  pub value : Bytes
  pub recent : most_recent (by_use new.opening new.history) ≡ Some value
  pub begins : Begins old caller key Get (begun.Done (hit_done (length old.history) value)) new
