use Rattle.jc_cache.proofs.Common.{◌≡◌, ◌∙◌, ap, inl, refl, after_give, after_take}
use Rattle.jc_cache.proofs.Meetings.{refreshed_seen}
use Rattle.jc_cache.proofs.SessionPhases.{agent_same, holds_one}
use Rattle.jc_cache.proofs.counting.read_at.Goals as goal

pub give_back-requires-clause-held : goal.give_back-requires-clause-held
give_back-requires-clause-held g c = holds_one c.args.agent.now c.take-stripe.new.self c.take-stripe.new.token c.take-stripe.ensures.agent (c.take-stripe.ensures.speaks _ c.requires.1.session_is)

pub give_back-requires-clause-rest : goal.give_back-requires-clause-rest
give_back-requires-clause-rest g c = (c.take-stripe.result.value, c.take-stripe.ensures.taken, inl (inl refl))

pub returns-clause-agent : goal.returns-clause-agent
returns-clause-agent g c = agent_same c.args.agent.now c.take-stripe.new.self c.give_back.new.self c.requires.0 c.take-stripe.ensures.agent c.give_back.ensures.agent

pub returns-clause-reads : goal.returns-clause-reads
returns-clause-reads g c =
    let v = c.args.seat.now.1 in
    let state = c.take-stripe.result.value in
    let is : c.give_back.new.token.1 ≡ after_give (after_take v state) state = ap (λ z. z.1) c.give_back.ensures.gives ∙ ap (λ z. after_give z.1 state) c.take-stripe.ensures.takes.0 in
    record {
      refreshed = record { found = state; finds = c.take-stripe.ensures.found.0; is = is };
      on = refreshed_seen v _ state (_, c.requires.1.session_is) c.take-stripe.ensures.found.0 is;
    }
