use Rattle.std.proofs.Common.{List, ◌∙◌, ap}
use Rattle.jc_model.specs.Cache.{Bytes}
use Rattle.jc_entries.specs.ByUse.{lru_victim}
use Rattle.jc_stripe.specs.OrderOfUse.{least_used, by_use}
use Rattle.jc_stripe.proofs.stripe.Stripe.least_used.Goals as goal

pub returns : goal.returns
returns c =
    let i = c.self.inside in
    c.lru_victim.ensures ∙ ap (λ (l : List (Bytes × Bytes)). lru_victim l c.keys.result.now) c.self.invariant.by_use
    ∙ ap (lru_victim (by_use i.life.opening i.history.events)) c.keys.ensures.keys ∙ ap least_used c.self.view_is
