use Rattle.std.proofs.Common.{inl}
use Rattle.jcache.proofs.exec.explore_and_show.Goals as goal

pub returns-in-Ok-clause-explored : goal.returns-in-Ok-clause-explored
returns-in-Ok-clause-explored g c =
    inl (c.in-Ok.end, _, c.status_of_end.ensures.status, rw c.new-notes.ensures.items at c.in-Ok.ensures.ran)
