use Rattle.jc_rounds.proofs.Common.{reverse, AdvancesUnnoted, CallPast, HasCommitted, IsPicking}
use Rattle.jc_rounds.proofs.bulk_call.BulkCall.pick_up.Given as goal

abbrev pub invariant-loop-place : goal.invariant-loop-place
invariant-loop-place g l = record {
  advances : AdvancesUnnoted l.fn.session l.session l.fn.self l.self;
  picking : (past : CallPast) → HasCommitted l.fn.cache past l.fn.session l.fn.self → IsPicking l.fn.cache past l.session l.self (reverse l.self.joins.items) l.place;
}
