use Rattle.jc_rounds.proofs.Common.{HaveJoined, ops_of, AdvancesUnnoted, CallPast, IsBetween, IsStarting}
use Rattle.jc_rounds.proofs.Loops.{Held}
use Rattle.jc_rounds.proofs.bulk_call.BulkCall.start.Given as goal

abbrev pub invariant-loop-place : goal.invariant-loop-place
invariant-loop-place g l = record {
  advances : AdvancesUnnoted l.fn.session l.session l.fn.self l.self;
  starting : (past : CallPast) → IsBetween l.fn.cache past l.fn.session l.fn.self → IsStarting l.fn.cache past l.session l.self l.place × Held l.fn.cache past l.fn.session l.session l.self l.place
      × HaveJoined past.caller l.fn.cache.config.stripes (ops_of l.self.targets.now) l.fn.session.seats.items l.session.seats.items l.self.progress.items;
}
