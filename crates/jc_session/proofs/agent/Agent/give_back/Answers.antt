use Rattle.std.proofs.Common.{⊎_elim, inl, inr}
use Rattle.jc_session.proofs.agent.Agent.give_back.Goals as goal

pub give-requires : goal.give-requires
give-requires g c = (
  c.args.self.now.caller.session,
  c.requires.rest.0,
  inl c.requires.held.1,
  c.requires.rest.1,
  ⊎_elim (⊎_elim (λ same. inl (inl same)) (λ renews. inr renews)) (λ forgets. inl (inr (inr (inr (inr (inr forgets)))))) c.requires.rest.2,
)
