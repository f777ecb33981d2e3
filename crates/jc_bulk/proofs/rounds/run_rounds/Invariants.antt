use Rattle.jc_bulk.proofs.Common.{bulk_behavior, IsOutsideReady, RunsOn, HasRun, CallPast, ◌≡◌}
use Rattle.jc_bulk.proofs.rounds.run_rounds.Given as goal

-- rounds were made, and the next one may ask with this
abbrev pub invariant-loop : goal.invariant-loop
invariant-loop g l = record {
  kind : l.next.kind ≡ l.kind;
  ready : IsOutsideReady l.call l.next;
  runs : (past : CallPast) → HasRun l.fn.cache past l.fn.session l.fn.call
      → RunsOn (bulk_behavior (λ v. (goal.CacheLoader-dyn g v).loads_all v.1) (λ v. (goal.CacheLoader-dyn g v).load_state v.1)
      (λ v. (goal.CacheWriter-dyn g v).writes_all v.1) (λ v. (goal.CacheWriter-dyn g v).deletes_all v.1) (λ v. (goal.CacheWriter-dyn g v).write_state v.1))
      l.fn.cache past l.fn.session l.fn.call l.session l.call;
}
