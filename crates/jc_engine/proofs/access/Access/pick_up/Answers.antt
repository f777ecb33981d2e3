use Rattle.jc_engine.proofs.Rows.{lent_map}
use Rattle.jc_engine.proofs.access.Access.pick_up.Goals as goal

pub returns-in-Answer-clause-answered : goal.returns-in-Answer-clause-answered
returns-in-Answer-clause-answered g c = record {
  same = c.in-Answer.ensures.same;
  ready = c.in-Answer.ensures.ready;
  agent = c.in-Answer.ensures.agent;
  phase = (
    c.in-Answer.place,
    c.in-Answer.shared_with,
    lent_map g.G.Gate.takes g.G.Gate.gives g.G.Gate.finds _ _ _ _ _ _ _ (λ a b waits. waits) (λ a b picked. picked.picks) c.in-Answer.ensures.phase.0,
  );
}

pub returns-in-Again-clause-again : goal.returns-in-Again-clause-again
returns-in-Again-clause-again g c = record {
  same = c.in-Again.ensures.same;
  ready = c.in-Again.ensures.ready;
  agent = c.in-Again.ensures.agent;
  phase = lent_map g.G.Gate.takes g.G.Gate.gives g.G.Gate.finds _ _ _ _ _ _ _ (λ a b waits. waits) (λ a b picked. picked.picks) c.in-Again.ensures.phase.0;
}
