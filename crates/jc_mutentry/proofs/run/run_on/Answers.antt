use Rattle.std.proofs.Common.{ap}
use Rattle.jc_mutentry.specs.Entries.{EntryState}
use Rattle.jc_mutentry.proofs.Lent.{lent_box}
use Rattle.jc_mutentry.proofs.run.run_on.Goals as goal

pub returns-in-Some-clause-loader : goal.returns-in-Some-clause-loader
returns-in-Some-clause-loader g c =
    lent_box (λ l. (goal.CacheLoader-dyn g l).loads l.1) (λ l. (goal.CacheLoader-dyn g l).load_state l.1)
    c.args.entry.now.key c.args.entry.now.entry.load c.process.new.entry.entry.load c.args.loader.now c.in-Some.loader _ _
    (ap (λ (s : EntryState). s.load) c.requires) c.in-Some.is c.deref_box_mut-in-Some.ensures.value.1 c.process.ensures.1.1.1
