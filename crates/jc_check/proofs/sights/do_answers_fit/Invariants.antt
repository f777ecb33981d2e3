use Rattle.std.proofs.Common.{◌≡◌, ◌<◌, ℕ, get_or, take}
use Rattle.jc_model.specs.Processor.{answer_after}
use Rattle.jc_check.specs.declared.record.EntrySight.{EntrySight}
use Rattle.jc_check.specs.Spot.{calls_of}
use Rattle.jc_check.proofs.sights.do_answers_fit.Given as goal

abbrev pub invariant-loop-place : goal.invariant-loop-place
invariant-loop-place l =
    (k : ℕ) (d : EntrySight) → k < l.place
    → (get_or l.sights k d).answer ≡ answer_after l.read_through l.entry l.answer (calls_of (take k l.sights)) (get_or l.sights k d).call
