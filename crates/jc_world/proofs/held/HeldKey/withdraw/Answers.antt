use Rattle.jc_world.proofs.Common.{subst, GivesBack, Part}
use Rattle.jc_world.proofs.held.HeldKey.withdraw.Goals as goal

pub returns : goal.returns
returns c = subst (λ (p : Part). GivesBack c.args.stripe.now p.reservation c.withdraw.new.self) c.self.view_is c.withdraw.ensures.gives_back
