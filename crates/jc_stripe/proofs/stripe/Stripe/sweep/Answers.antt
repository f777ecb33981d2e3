use Rattle.std.proofs.Common.{◌∙◌, sym}
use Rattle.jc_stripe.proofs.Settling.{is_least}
use Rattle.jc_stripe.proofs.stripe.Stripe.sweep.Goals as goal

pub drop_if_place-requires-clause-free : goal.drop_if_place-requires-clause-free
drop_if_place-requires-clause-free c = (is_least c.args.self.now c.in-Some.key c.events_len.ensures.reached (sym c.least_used.ensures ∙ c.in-Some.is)).free

pub drop_if_place-requires-clause-there : goal.drop_if_place-requires-clause-there
drop_if_place-requires-clause-there c = (is_least c.args.self.now c.in-Some.key c.events_len.ensures.reached (sym c.least_used.ensures ∙ c.in-Some.is)).there
