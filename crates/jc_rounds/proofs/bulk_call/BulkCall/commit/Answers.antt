use Rattle.jc_rounds.proofs.Common.{refl, sym, arith, ◌∙◌}
use Rattle.jc_rounds.proofs.Failures.{keeps_itself}
use Rattle.jc_rounds.proofs.Held.{goes_itself}
use Rattle.jc_rounds.proofs.Loops.{commit_from, commit_noted, commit_over, commit_past, noted_advances, noted_since}
use Rattle.jc_rounds.proofs.OnCall.{unnoted_both}
use Rattle.jc_rounds.proofs.Underway.{reserved_there, there_by}
use Rattle.jc_rounds.proofs.bulk_call.BulkCall.commit.Goals as goal

pub loop-place-init : goal.loop-place-init
loop-place-init g c = record {
  advances = record { advances = record { goes = goes_itself c.args.session.now.seats.items c.args.self.now.progress.items; agent = refl; targets = refl; most = refl; cause = keeps_itself c.args.self.now.cause }; cause = refl };
  committed = λ past round answered. commit_from c.args.cache.now past round c.args.session.now c.args.self.now c.reverse.new.self c.args.answers c.reverse.ensures.items c.reverse.ensures.capacity answered;
  room = refl;
}

pub commit_at-requires-clause-answered : goal.commit_at-requires-clause-answered
commit_at-requires-clause-answered g c = let r = c.requires.answered in (r.0, r.1, c.loop-place.invariant.committed r.0 r.1 r.2)

pub commit_at-requires-clause-there : goal.commit_at-requires-clause-there
commit_at-requires-clause-there g c = reserved_there c.loop-place.self.progress.items c.loop-place.place c.index.result.now
    (let many = c.loop-place.invariant.advances.advances.goes.stay.many in omega (arith, many, c.args.self.now.progress.ok.0, c.len-place-end.ensures, c.loop-place-test.true)) c.index.ensures (sym c.holds_reservation.ensures ∙ c.if-not-holds_reservation.false)

pub loop-place-preserved-then-not-holds_reservation : goal.loop-place-preserved-then-not-holds_reservation
loop-place-preserved-then-not-holds_reservation g c = record {
  advances = c.loop-place.invariant.advances;
  committed = λ past round answered.
      commit_past c.args.cache.now past round c.loop-place.session c.loop-place.self c.loop-place.left c.loop-place.place c.index.result.now
      (there_by c.loop-place.self.progress.items c.loop-place.place c.index.result.now (let many = c.loop-place.invariant.advances.advances.goes.stay.many in omega (arith, many, c.args.self.now.progress.ok.0, c.len-place-end.ensures, c.loop-place-test.true)) c.index.ensures) (sym c.holds_reservation.ensures ∙ c.if-not-holds_reservation.true) (c.loop-place.invariant.committed past round answered);
  room = c.loop-place.invariant.room;
}

pub loop-place-preserved : goal.loop-place-preserved
loop-place-preserved g c = record {
  advances = unnoted_both _ _ _ _ _ _ c.loop-place.invariant.advances c.commit_at.ensures.advances;
  committed = λ past round answered. c.commit_at.ensures.committed past round (c.loop-place.invariant.committed past round answered);
  room = c.commit_at.ensures.room ∙ c.loop-place.invariant.room;
}

pub returns-clause-spent : goal.returns-clause-spent
returns-clause-spent g c past round answered =
    (commit_over c.args.cache.now past round c.loop-place.session c.loop-place.self c.loop-place.left c.loop-place.place
    (let many = c.loop-place.invariant.advances.advances.goes.stay.many in omega (arith, many, c.args.self.now.progress.ok.0, c.len-place-end.ensures, c.loop-place-test.false)) (c.loop-place.invariant.committed past round answered)).1

pub returns-clause-advances : goal.returns-clause-advances
returns-clause-advances g c = noted_advances _ _ _ _ _ c.note_failures.ensures.rest c.note_failures.ensures.cause c.loop-place.invariant.advances.advances

pub returns-clause-committed : goal.returns-clause-committed
returns-clause-committed g c past round answered =
    let over = commit_over c.args.cache.now past round c.loop-place.session c.loop-place.self c.loop-place.left c.loop-place.place
    (let many = c.loop-place.invariant.advances.advances.goes.stay.many in omega (arith, many, c.args.self.now.progress.ok.0, c.len-place-end.ensures, c.loop-place-test.false)) (c.loop-place.invariant.committed past round answered) in
    commit_noted c.args.cache.now past c.loop-place.session c.loop-place.self c.note_failures.new.self c.note_failures.ensures.rest c.note_failures.ensures.cause over.0 over.2

pub returns-clause-cause : goal.returns-clause-cause
returns-clause-cause g c = noted_since c.args.self.now c.loop-place.self c.note_failures.new.self c.loop-place.invariant.advances.cause c.note_failures.ensures.rest c.note_failures.ensures.cause
