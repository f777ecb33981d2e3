use Rattle.std.proofs.Common.{inl}
use Rattle.jc_session.proofs.CallerLemmas.{phase_of}
use Rattle.jc_session.proofs.agent.Agent.give.Goals as goal

pub give-requires : goal.give-requires
give-requires g c = (
  c.args.self.now.caller.session,
  c.requires.phase.0,
  inl c.requires.held.1,
  c.requires.phase.1,
  inl (phase_of c.args.counted c.args.self.now.caller.session c.requires.phase.0 c.args.stripe.value c.requires.phase.2),
)
