use Rattle.std.proofs.Common.{◌≡◌, length, true}
use Rattle.jc_model.specs.Legal.{in_order}
use Rattle.jc_model.proofs.CallerLemmas.{follows_all}
use Rattle.jc_model.proofs.callers.does_follow_all.Given as goal

abbrev pub invariant-loop-last : goal.invariant-loop-last
invariant-loop-last l = record { order : in_order l.rest ≡ true; same : follows_all l.rest l.event ≡ follows_all l.events l.event }

abbrev pub decreases-loop-last : goal.decreases-loop-last
decreases-loop-last l = length l.rest
