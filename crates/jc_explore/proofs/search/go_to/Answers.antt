use Rattle.jc_explore.proofs.Runs.{plays-opened}
use Rattle.jc_explore.proofs.search.go_to.Goals as goal

pub returns : goal.returns
returns c = plays-opened c.args.program.now _ _ c.args.schedule.now _ c.in_ok-restart.ensures c.in_ok-replay.ensures
