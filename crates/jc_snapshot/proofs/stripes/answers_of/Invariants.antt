use Rattle.jc_snapshot.proofs.Common.{◌≡◌, map, take, answer_in}
use Rattle.jc_inflight.specs.declared.joiner.Joiner.{Joiner}
use Rattle.jc_snapshot.proofs.stripes.answers_of.Given as goal

-- what the joiners so far are answered
abbrev pub invariant-loop-joiner : goal.invariant-loop-joiner
invariant-loop-joiner l = l.answers.items ≡ map (λ (j : Joiner). answer_in l.stripe.history j.state) (take l.joiner-index l.joiners)
