use Rattle.jc_explore.proofs.Searching.{none-with}
use Rattle.jc_explore.proofs.known.States.has.Goals as goal

pub returns-in-None-clause-none : goal.returns-in-None-clause-none
returns-in-None-clause-none c _ = none-with c.args.self.now c.args.key.now c.args.fingerprint c.requires.prints c.requires.places c.requires.print c.in-None.ensures
