use Rattle.jcache.proofs.exec.exec.Goals as goal

pub returns-in-Ok-clause-streams : goal.returns-in-Ok-clause-streams
returns-in-Ok-clause-streams g c = rw c.in-Ok.is (rw c.deref.ensures.value at c.do_words.ensures.streams)
