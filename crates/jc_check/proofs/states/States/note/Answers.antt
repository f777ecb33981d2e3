use Rattle.jc_check.proofs.Known.{covered-last}
use Rattle.jc_check.proofs.states.States.note.Goals as goal

pub returns-clause-covers : goal.returns-clause-covers
returns-clause-covers c = covered-last c.args.calls.now c.add.new.self c.args.self.now.list.items c.args.node c.in_ok-add.ensures.list
