use Rattle.jc_cache.proofs.Common.{ap, subst, IsIdle, log_of}
use Rattle.jc_cache.proofs.ClosingSeats.{has_taken}
use Rattle.jc_cache.proofs.closing.own_seats.take_idle.Goals as goal

pub returns-clause-ok : goal.returns-clause-ok
returns-clause-ok c = (
  has_taken c.args.seat.now _ _ c.requires.1 c.in-Some.ensures.some.0 c.in-Some.ensures.some.1 (subst IsIdle c.deref.ensures (c.is_idle.ensures.0 c.if-not-is_idle.false)),
  ap (λ seat. log_of seat.1) c.in-Some.ensures.some.0,
)
