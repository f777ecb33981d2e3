use Rattle.jc_engine.proofs.Common.{◌≡◌, IsReady, KeepsAccess}
use Rattle.jc_engine.proofs.Rounds.{Rounds}
use Rattle.jc_engine.proofs.access.Access.enter.Given as goal

abbrev pub invariant-loop : goal.invariant-loop
invariant-loop g l = record {
  same : KeepsAccess l.fn.self l.self;
  agent : l.self.agent.now ≡ l.fn.self.agent.now;
  ready : IsReady g.G.Gate.is_free g.G.Gate.speaks_for l.self;
  so : Rounds g.G.Gate.takes g.G.Gate.gives g.G.Gate.finds l.fn.self.agent.now.caller l.fn.key l.fn.op l.fn.self.gate.now l.fn.self.token.now l.self.gate.now l.self.token.now;
}
