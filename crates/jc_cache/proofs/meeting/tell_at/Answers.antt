use Rattle.jc_cache.proofs.Common.{◌≡◌, ◌∙◌, ap, inl, refl, subst, sym, after_give, after_take, front_note}
use mathlib.Core.List.{IsPrefix}
use Rattle.jc_cache.proofs.Meetings.{none_lent, refreshed_seen, joined_seen}
use Rattle.jc_cache.proofs.SessionPhases.{agent_same, holds_one}
use Rattle.jc_cache.proofs.meeting.tell_at.Goals as goal

pub give_back-requires-clause-held : goal.give_back-requires-clause-held
give_back-requires-clause-held g c = holds_one c.args.agent.now c.take-stripe.new.self c.take-stripe.new.token c.take-stripe.ensures.agent (c.take-stripe.ensures.speaks _ c.requires.teller.1.session_is)

pub give_back-requires-clause-rest : goal.give_back-requires-clause-rest
give_back-requires-clause-rest g c = (c.take-stripe.result.value, c.take-stripe.ensures.taken, inl (inl refl))

pub returns-clause-agent : goal.returns-clause-agent
returns-clause-agent g c = agent_same c.args.agent.now c.take-stripe.new.self c.give_back.new.self c.requires.teller.0 c.take-stripe.ensures.agent c.give_back.ensures.agent

pub returns-clause-told : goal.returns-clause-told
returns-clause-told g c =
    let v = c.args.teller.now.1 in
    let state = c.take-stripe.result.value in
    let given : c.give_back.new.token.1 ≡ after_give (after_take v state) state = ap (λ z. z.1) c.give_back.ensures.gives ∙ ap (λ z. after_give z.1 state) c.take-stripe.ensures.takes.0 in
    let is : c.tell.new.from.1 ≡ after_give (after_take v state) state = ap (λ z. z.1) c.tell.ensures.from ∙ given in
    record {
      refreshed = record { found = state; finds = c.take-stripe.ensures.found.0; is = is };
      teller_on = refreshed_seen v _ state (_, c.requires.teller.1.session_is) c.take-stripe.ensures.found.0 is;
      hearer_on = joined_seen c.args.hearer.now.1 c.tell.new.to.1 (front_note c.give_back.new.token.1) c.requires.hearer.1.free (ap (λ z. z.1) c.tell.ensures.to) c.tell.ensures.fronts.0;
      told = subst (λ z. IsPrefix z.1.front c.tell.new.to.1.front) (sym c.tell.ensures.from) c.tell.ensures.fronts.1;
      none_lent = none_lent c.args.hearer.now.1 c.tell.new.to.1 c.give_back.new.token.1 (ap (λ z. z.1) c.tell.ensures.to);
    }
