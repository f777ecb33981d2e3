use Rattle.jc_loadall.proofs.Common.{◌≡◌, drop, flat_map, find_note}
use Rattle.jc_loadall.proofs.joining.result_of.Given as goal

abbrev pub invariant-loop-worker : goal.invariant-loop-worker
invariant-loop-worker g l =
    find_note l.piece (flat_map (λ w. w.notes.items) (drop l.worker-index l.workers)) ≡ find_note l.piece (flat_map (λ w. w.notes.items) l.workers)
