use Rattle.jcache.specs.Teams.{HasCounted}
use Rattle.jcache.proofs.threads.work.Given as goal

abbrev pub invariant-loop-round : goal.invariant-loop-round
invariant-loop-round g l = HasCounted l.cache l.round l.worker.session
