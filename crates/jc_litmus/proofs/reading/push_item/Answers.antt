use Rattle.jc_litmus.proofs.ProgramLines.{pushed}
use Rattle.jc_litmus.proofs.reading.push_item.Goals as goal

pub returns-in_ok-push-2-clause-more : goal.returns-in_ok-push-2-clause-more
returns-in_ok-push-2-clause-more c =
    pushed c.args.item c.args.threads.now.items c.pop.new.self.items c.push-in-Some.new.self.items c.in-Some.items c.push.new.self
    c.in-Some.ensures.items c.in_ok-push.ensures.items c.in_ok-push-2.ensures.items
