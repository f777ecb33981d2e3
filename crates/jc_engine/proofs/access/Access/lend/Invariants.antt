use Rattle.jc_engine.proofs.Common.{◌≡◌, HasWaited, KeepsAccess}
use Rattle.jc_engine.proofs.Tries.{Tries}
use Rattle.jc_engine.proofs.access.Access.lend.Given as goal

abbrev pub invariant-loop : goal.invariant-loop
invariant-loop g l =
    (l.self.agent.now ≡ l.fn.self.agent.now)
    × (l.next ≡ l.fn.phase)
    × Tries g.G.Gate.takes g.G.Gate.gives g.G.Gate.finds g.G.Gate.is_free g.G.Gate.speaks_for (HasWaited (g.P.Phase.due l.fn.phase) (g.P.Phase.puts_off l.fn.phase)) (g.P.Phase.needs l.fn.phase) l.fn.self.agent.now.caller.session l.fn.self.gate.now l.fn.self.token.now l.self.gate.now l.self.token.now
    × KeepsAccess l.fn.self l.self
