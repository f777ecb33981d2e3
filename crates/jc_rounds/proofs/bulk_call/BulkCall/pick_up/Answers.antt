use Rattle.jc_rounds.proofs.Common.{refl, sym, arith, ◌∙◌}
use Rattle.jc_rounds.proofs.Failures.{keeps_itself}
use Rattle.jc_rounds.proofs.Held.{goes_itself}
use Rattle.jc_rounds.proofs.Loops.{noted_advances, noted_since, pick_from, pick_noted, pick_over, pick_past}
use Rattle.jc_rounds.proofs.OnCall.{unnoted_both}
use Rattle.jc_rounds.proofs.Underway.{joined_there, there_by}
use Rattle.jc_rounds.proofs.bulk_call.BulkCall.pick_up.Goals as goal

pub loop-place-init : goal.loop-place-init
loop-place-init g c = record {
  advances = record { advances = record { goes = goes_itself c.args.session.now.seats.items c.args.self.now.progress.items; agent = refl; targets = refl; most = refl; cause = keeps_itself c.args.self.now.cause }; cause = refl };
  picking = λ past committed. pick_from c.args.cache.now past c.args.session.now c.args.self.now c.reverse.new.self c.reverse.ensures.items c.reverse.ensures.capacity committed;
}

pub pick_at-requires-clause-picking : goal.pick_at-requires-clause-picking
pick_at-requires-clause-picking g c = let r = c.requires.committed in (r.0, c.loop-place.invariant.picking r.0 r.1)

pub pick_at-requires-clause-there : goal.pick_at-requires-clause-there
pick_at-requires-clause-there g c = joined_there c.loop-place.self.progress.items c.loop-place.place c.index.result.now
    (let many = c.loop-place.invariant.advances.advances.goes.stay.many in omega (arith, many, c.args.self.now.progress.ok.0, c.len-place-end.ensures, c.loop-place-test.true)) c.index.ensures (sym c.waits_for_joined_load.ensures ∙ c.if-not-waits_for_joined_load.false)

pub loop-place-preserved-then-not-waits_for_joined_load : goal.loop-place-preserved-then-not-waits_for_joined_load
loop-place-preserved-then-not-waits_for_joined_load g c = record {
  advances = c.loop-place.invariant.advances;
  picking = λ past committed.
      pick_past c.args.cache.now past c.loop-place.session c.loop-place.self c.loop-place.place c.index.result.now
      (there_by c.loop-place.self.progress.items c.loop-place.place c.index.result.now (let many = c.loop-place.invariant.advances.advances.goes.stay.many in omega (arith, many, c.args.self.now.progress.ok.0, c.len-place-end.ensures, c.loop-place-test.true)) c.index.ensures) (sym c.waits_for_joined_load.ensures ∙ c.if-not-waits_for_joined_load.true) (c.loop-place.invariant.picking past committed);
}

pub loop-place-preserved : goal.loop-place-preserved
loop-place-preserved g c = record {
  advances = unnoted_both _ _ _ _ _ _ c.loop-place.invariant.advances c.pick_at.ensures.advances;
  picking = λ past committed. c.pick_at.ensures.picking past (c.loop-place.invariant.picking past committed);
}

pub returns-clause-advances : goal.returns-clause-advances
returns-clause-advances g c = noted_advances _ _ _ _ _ c.note_failures.ensures.rest c.note_failures.ensures.cause c.loop-place.invariant.advances.advances

pub returns-clause-between : goal.returns-clause-between
returns-clause-between g c past committed =
    let last = c.loop-place.invariant.picking past committed in
    let over = pick_over c.args.cache.now past c.loop-place.session c.loop-place.self c.loop-place.place
    (let many = c.loop-place.invariant.advances.advances.goes.stay.many in omega (arith, many, c.args.self.now.progress.ok.0, c.len-place-end.ensures, c.loop-place-test.false)) last in
    pick_noted c.args.cache.now past c.loop-place.session c.loop-place.self c.note_failures.new.self c.note_failures.ensures.rest c.note_failures.ensures.cause last.no_tickets over.0 over.1

pub returns-clause-cause : goal.returns-clause-cause
returns-clause-cause g c = noted_since c.args.self.now c.loop-place.self c.note_failures.new.self c.loop-place.invariant.advances.cause c.note_failures.ensures.rest c.note_failures.ensures.cause
