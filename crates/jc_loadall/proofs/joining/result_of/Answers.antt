use Rattle.jc_loadall.proofs.Common.{sym, ap, ◌∙◌, arith, find_note}
use Rattle.jc_loadall.proofs.JoinedNotes.{found_here, found_next}
use Rattle.jc_loadall.proofs.joining.result_of.Goals as goal

pub returns-in-Some-clause-some : goal.returns-in-Some-clause-some
returns-in-Some-clause-some g c =
    sym c.loop-worker.invariant
    ∙ found_here (λ w. w.notes.items) c.args.piece c.args.workers.now c.loop-worker.worker-index c.worker-item.result (omega arith) c.worker-item.is c.in-Some.result.now
    (ap (find_note c.args.piece) (sym c.as_slice.ensures.value) ∙ c.in-Some.ensures.some)

pub loop-worker-preserved : goal.loop-worker-preserved
loop-worker-preserved g c =
    found_next (λ w. w.notes.items) c.args.piece c.args.workers.now c.loop-worker.worker-index c.worker-item.result (omega arith) c.worker-item.is
    (ap (find_note c.args.piece) (sym c.as_slice.ensures.value) ∙ c.in_default.ensures.none)
    ∙ c.loop-worker.invariant
