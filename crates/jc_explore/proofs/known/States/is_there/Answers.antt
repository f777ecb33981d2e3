use Rattle.jc_explore.proofs.Searching.{at-known}
use Rattle.jc_explore.proofs.known.States.is_there.Goals as goal

pub returns : goal.returns
returns c same = at-known c.args.self.now.list.items c.args.place c.args.key.now (c.is_at.ensures.same same)
