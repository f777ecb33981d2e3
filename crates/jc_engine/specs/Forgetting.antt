-- Invalidations, and the sweeps of a shut stripe, as phases that any session may make.
--     may_go_on    a shut stripe can be swept further: a place is free for an eviction, or its generation may end
use Rattle.std.specs.Prelude.{Bool, ◌&&◌, ◌||◌}
use Rattle.jc_stripe.specs.State.{State}
use Rattle.jc_stripe.specs.Invalidating.{has_place}
use Rattle.jc_stripe.specs.Renewal.{can_renew}

abbrev pub may_go_on : State → Bool
may_go_on state = state.shut && (has_place state || can_renew state)
