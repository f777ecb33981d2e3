use Rattle.std.proofs.Common.{◌∙◌, ap, sym}
use Rattle.jc_model.specs.Statistics.{statistics_of, together}
use Rattle.jc_stripe.specs.State.{State}
use Rattle.jc_stripe.specs.Occurrences.{occurrences, past_occurrences, all_occurrences}
use Rattle.jc_stripe.proofs.stripe.Stripe.statistics.Goals as goal

pub returns : goal.returns
returns c =
    let i = c.self.inside in
    c.together.ensures
    ∙ (λ k. together (c.statistics.ensures k) ((c.statistics-2.ensures ∙ c.self.invariant.counted) k))
    ∙ sym (c.statistics_laws.ensures.append (past_occurrences i.life.ended) (occurrences i.life.opening i.history.events))
    ∙ ap (λ (s : State). statistics_of (all_occurrences s)) c.self.view_is
