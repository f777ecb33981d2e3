use Rattle.jc_invoke.proofs.Common.{IsInvokeReady, RunsOn, KeepsProcessing, run_behavior, HasRun, CallPast}
use Rattle.jc_invoke.proofs.rounds.run_rounds.Given as goal

-- rounds were made, and the next one has this memory
abbrev pub invariant-loop : goal.invariant-loop
invariant-loop g l = record {
  ready : IsInvokeReady l.fn.cache.config l.call l.next;
  runs : (past : CallPast) → HasRun l.fn.cache past l.fn.session l.fn.call
      → RunsOn (run_behavior (λ p. (goal.CacheLoader-dyn g p).loads p.1) (λ p. (goal.CacheLoader-dyn g p).load_state p.1)
      (λ p. (goal.CacheWriter-dyn g p).writes_all p.1) (λ p. (goal.CacheWriter-dyn g p).deletes_all p.1) (λ p. (goal.CacheWriter-dyn g p).write_state p.1)
      (λ b. (goal.EntryProcessor-dyn g (b.vtable, b.value)).processes b.value) (λ b. (goal.EntryProcessor-dyn g (b.vtable, b.value)).process_state b.value))
      l.fn.processing.args.now l.fn.cache past l.fn.session l.fn.call l.fn.processing.processor.now l.session l.call l.processing.processor.now;
  same : KeepsProcessing l.fn.processing l.processing;
}
