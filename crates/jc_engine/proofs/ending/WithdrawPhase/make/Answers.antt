use Rattle.jc_engine.proofs.Common.{inl, inr, refl}
use Rattle.jc_engine.proofs.ending.WithdrawPhase.make.Goals as goal

pub returns-clause-made : goal.returns-clause-made
returns-clause-made c = (
  c.withdraw.ensures.gives_back,
  inr (inr (inr (inr (inl (record { reservation = c.args.self.ticket.reservation; own = refl; gives_back = c.withdraw.ensures.gives_back }, refl))))),
)
