use Rattle.std.proofs.Common.{◌∙◌, ap}
use Rattle.jc_model.specs.Cache.{entry_at}
use Rattle.jc_stripe.specs.State.{State}
use Rattle.jc_stripe.proofs.Used.{find-entry}
use Rattle.jc_stripe.proofs.stripe.Stripe.entry.Goals as goal

pub returns : goal.returns
returns c = c.peek_lent.ensures ∙ find-entry c.self.inside.entries.list c.args.key.now ∙ ap (λ (s : State). entry_at s.cache c.args.key.now) c.self.view_is
