use Rattle.jc_cache.proofs.Common.{◌≡◌, ◌∙◌, ap, inl, subst, sym, State, after_give, after_take, HasSeen, IsEndOf}
use Rattle.jc_cache.proofs.EndedGenerations.{end_of, turn_of, ended_seen}
use Rattle.jc_cache.proofs.SessionPhases.{agent_same, holds_one}
use Rattle.jc_cache.proofs.generations.end_at.Goals as goal

pub give_back-requires-clause-held : goal.give_back-requires-clause-held
give_back-requires-clause-held g c = holds_one c.args.agent.now c.take-stripe.new.self c.take-stripe.new.token c.take-stripe.ensures.agent (c.take-stripe.ensures.speaks _ c.requires.1.session_is)

pub give_back-requires-clause-rest : goal.give_back-requires-clause-rest
give_back-requires-clause-rest g c =
    let found : State = c.take-stripe.result.value in
    let left : State = c.end_generation-ended.new.self in
    let end = subst (λ (s : State). IsEndOf c.end_generation-ended.result c.args.out.now.items c.end_generation-ended.new.out.items s left) c.deref_mut.ensures.value
    (end_of c.end_generation-ended.result _ _ c.deref_mut.result.now left c.end_generation-ended.ensures.ended c.end_generation-ended.ensures.err) in
    (found, c.take-stripe.ensures.taken, inl (turn_of c.end_generation-ended.result _ _ found left end))

pub returns-clause-agent : goal.returns-clause-agent
returns-clause-agent g c = agent_same c.args.agent.now c.take-stripe.new.self c.give_back.new.self c.requires.0 c.take-stripe.ensures.agent c.give_back.ensures.agent

pub returns-clause-ended : goal.returns-clause-ended
returns-clause-ended g c =
    let v = c.args.seat.now.1 in
    let found : State = c.take-stripe.result.value in
    let left : State = c.end_generation-ended.new.self in
    let end = subst (λ (s : State). IsEndOf c.end_generation-ended.result c.args.out.now.items c.end_generation-ended.new.out.items s left) c.deref_mut.ensures.value
    (end_of c.end_generation-ended.result _ _ c.deref_mut.result.now left c.end_generation-ended.ensures.ended c.end_generation-ended.ensures.err) in
    let is : c.give_back.new.token.1 ≡ after_give (after_take v found) left = ap (λ z. z.1) c.give_back.ensures.gives ∙ ap (λ z. after_give z.1 left) c.take-stripe.ensures.takes.0 in (
      found,
      left,
      c.take-stripe.ensures.found.0,
      end,
      is,
      subst (HasSeen v) (sym is) (ended_seen v found left (_, c.requires.1.session_is) c.renewal.ensures c.take-stripe.ensures.found.0 (turn_of c.end_generation-ended.result _ _ found left end)),
    )
