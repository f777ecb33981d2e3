use Rattle.std.proofs.Common.{arith}
use Rattle.jc_check.proofs.Covering.{more-calls}
use Rattle.jc_check.proofs.Known.{grows-more, grows-not}
use Rattle.jc_check.proofs.exploring.try_calls.Goals as goal

pub loop-call-init : goal.loop-call-init
loop-call-init c = (c.requires.known, grows-not c.args.states.now, λ n at k up h. absurd (omega (arith, up, h)))

pub loop-call-preserved : goal.loop-call-preserved
loop-call-preserved c = (
  c.in_ok-try_call.ensures.known,
  grows-more c.args.states.now c.loop-call.states c.try_call.new.states c.loop-call.invariant.1 c.in_ok-try_call.ensures.grows,
  more-calls c.args.rules.now c.args.calls.now c.args.place c.args.from c.loop-call.call c.args.states.now c.loop-call.states c.try_call.new.states
      c.loop-call.invariant.1 c.in_ok-try_call.ensures.grows c.loop-call.invariant.2 c.in_ok-try_call.ensures.covers,
)

pub returns-clause-covers : goal.returns-clause-covers
returns-clause-covers c n at k up h = c.loop-call.invariant.2 n at k up (omega (arith, h, c.loop-call-test.false))
