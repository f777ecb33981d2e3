use Rattle.jc_check.proofs.Known.{known-push}
use Rattle.jc_check.proofs.states.States.add.Goals as goal

pub returns-clause-known : goal.returns-clause-known
returns-clause-known c =
    known-push c.args.rules.now c.args.calls.now c.args.self.now _ c.args.node c.args.step c.requires.known (λ up. c.requires.comes) c.requires.new
    c.in_ok-push.ensures.list c.in_ok-push.ensures.steps c.in_ok-push.ensures.prints c.in_ok-push.ensures.places
