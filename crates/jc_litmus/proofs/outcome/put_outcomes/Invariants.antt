use Rattle.jc_litmus.proofs.Common.{◌≡◌, ◌++◌, slice_get, outcome_if, text_up_to}
use Rattle.jc_litmus.proofs.outcome.put_outcomes.Given as goal

abbrev pub invariant-loop-at : goal.invariant-loop-at
invariant-loop-at l =
    l.out.items ≡ l.fn.out.items ++ text_up_to (λ at. outcome_if l.program at (slice_get l.found at)) l.at
