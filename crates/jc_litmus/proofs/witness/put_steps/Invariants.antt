use Rattle.jc_litmus.proofs.Common.{◌≡◌, ◌++◌, drop, steps_text}
use Rattle.jc_litmus.proofs.witness.put_steps.Given as goal

abbrev pub invariant-loop-step : goal.invariant-loop-step
invariant-loop-step l =
    l.out.items ++ steps_text l.program l.last l.threads.items (drop l.step-index l.schedule)
    ≡ l.fn.out.items ++ steps_text l.program 0 l.fn.threads.items l.schedule
