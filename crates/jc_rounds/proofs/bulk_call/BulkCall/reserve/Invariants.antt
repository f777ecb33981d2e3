use Rattle.jc_rounds.proofs.Common.{HasRun, Advances, CallPast}
use Rattle.jc_rounds.proofs.bulk_call.BulkCall.reserve.Given as goal

-- rounds were made that have asked nobody
abbrev pub invariant-loop : goal.invariant-loop
invariant-loop g l = record {
  advances : Advances l.fn.session l.session l.fn.self l.self;
  run : (past : CallPast) → HasRun l.fn.cache past l.fn.session l.fn.self → HasRun l.fn.cache past l.session l.self;
}
