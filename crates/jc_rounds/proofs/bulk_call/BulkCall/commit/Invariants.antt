use Rattle.jc_rounds.proofs.Common.{◌≡◌, reverse, done_room, Round, AdvancesUnnoted, CallPast, IsAnswered, IsCommitting}
use Rattle.jc_rounds.proofs.bulk_call.BulkCall.commit.Given as goal

abbrev pub invariant-loop-place : goal.invariant-loop-place
invariant-loop-place g l = record {
  advances : AdvancesUnnoted l.fn.session l.session l.fn.self l.self;
  committed : (past : CallPast) (round : Round) → IsAnswered l.fn.cache past round l.fn.session l.fn.self l.fn.answers → IsCommitting l.fn.cache past round l.session l.self (reverse l.self.tickets.items) l.left l.place;
  room : done_room l.left ≡ done_room l.fn.answers;
}
