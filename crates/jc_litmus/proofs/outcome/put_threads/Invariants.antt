use Rattle.jc_litmus.proofs.Common.{◌≡◌, ◌++◌, slice_get, text_up_to, thread_at}
use Rattle.jc_litmus.proofs.outcome.put_threads.Given as goal

abbrev pub invariant-loop-thread : goal.invariant-loop-thread
invariant-loop-thread l =
    l.out.items ≡ l.fn.out.items ++ text_up_to (λ thread. thread_at l.replies thread (slice_get l.program.threads.items thread)) l.thread
