use Rattle.jc_model.specs.Group.{shared_event}
use Rattle.jc_stripe.proofs.Sharing.{IsSharing}
use Rattle.jc_stripe.proofs.appending.append_shared.Given as goal

abbrev pub invariant-loop-joiner : goal.invariant-loop-joiner
invariant-loop-joiner l = IsSharing l.group.found (shared_event l.place l.group.key l.group.out.load) l.load l.joiner-items l.initial.history l.history l.joiner-index
