use Rattle.std.proofs.Common.{inl}
use Rattle.jcache.proofs.Streams.{by_words, fails_as}
use Rattle.jcache.proofs.exec.do_words.Goals as goal

pub returns-in-Ok-clause-answered : goal.returns-in-Ok-clause-answered
returns-in-Ok-clause-answered g c =
    let right = c.in-Ok.ensures in
    inl (right.kinds, (c.in-Ok.task, right.asked, c.carry_out.ensures.done))

pub returns-in-Ok-clause-streams : goal.returns-in-Ok-clause-streams
returns-in-Ok-clause-streams g c reads writes =
    fails_as _ _ _ (λ long. (c.in-Ok.task, c.in-Ok.ensures.asked, long)) (by_words _ c.in-Ok.task c.in-Ok.ensures.asked)
    (c.carry_out.ensures.streams reads writes)
