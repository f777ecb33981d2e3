-- Lemmas for the crates above: a call from its rounds, what its rounds asked for, and how its keys ended.
pub use Rattle.jc_rounds.proofs.Asked.{IsOutAt, all_map, all_mapped, all_out, among_there, distinct_reserved, types_on}
pub use Rattle.jc_rounds.proofs.KeyEnds.{failures_are}
pub use Rattle.jc_rounds.proofs.OutsideCalls.{no_batch}
pub use Rattle.jc_rounds.proofs.AskingRounds.{holds_none, ran_more, ran_none, ran_quiet, ran_refused}
pub use Rattle.jc_rounds.proofs.SeatPhases.{Seated, front_found, grown_itself, grown_on, grown_phase, seen_own, view_set, view_there}
pub use Rattle.jc_rounds.proofs.CallSteps.{or_true}
pub use Rattle.jc_rounds.proofs.Started.{none_run}
pub use Rattle.jc_rounds.proofs.TargetOps.{same_keys}
pub use Rattle.jc_rounds.proofs.Underway.{as_many}
pub use Rattle.jc_rounds.proofs.Whole.{all_early, carried_out, may_again, opens_call, refused_over}
