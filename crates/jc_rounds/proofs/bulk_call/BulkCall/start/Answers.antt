use Rattle.jc_rounds.proofs.Common.{arith}
use Rattle.jc_rounds.proofs.Loops.{none_joined, noted_advances, noted_since, start_from, start_more, start_over}
use Rattle.jc_rounds.proofs.OnCall.{unnoted_both, unnoted_itself}
use Rattle.jc_rounds.proofs.bulk_call.BulkCall.start.Goals as goal

pub loop-place-init : goal.loop-place-init
loop-place-init g c = record {
  advances = unnoted_itself c.args.session.now c.args.self.now;
  starting = λ past between. (start_from c.args.cache.now past c.args.session.now c.args.self.now between, (λ place less. absurd (omega (arith, less))), none_joined c.args.cache.now past c.args.session.now c.args.self.now between);
}

pub start_at-requires-clause-starting : goal.start_at-requires-clause-starting
start_at-requires-clause-starting g c = let r = c.requires.between in (r.0, (c.loop-place.invariant.starting r.0 r.1).0)

pub loop-place-preserved : goal.loop-place-preserved
loop-place-preserved g c = record {
  advances = unnoted_both _ _ _ _ _ _ c.loop-place.invariant.advances c.start_at.ensures.advances;
  starting = λ past between.
      let now = c.loop-place.invariant.starting past between in
      let next = c.start_at.ensures.starting past now.0 in
      let have = next.3 c.args.session.now.seats.items c.loop-place.invariant.advances.advances.goes.grown now.2 in
      (next.0, start_more c.args.cache.now past _ _ _ _ _ _ c.loop-place.place c.loop-place.invariant.advances.advances c.start_at.ensures.advances.advances now.1 next.1 have next.0 next.2, have);
}

pub returns-clause-advances : goal.returns-clause-advances
returns-clause-advances g c = noted_advances _ _ _ _ _ c.note_failures.ensures.rest c.note_failures.ensures.cause c.loop-place.invariant.advances.advances

pub returns-clause-started : goal.returns-clause-started
returns-clause-started g c past between =
    let now = c.loop-place.invariant.starting past between in
    start_over c.args.cache.now past c.args.session.now c.loop-place.session c.args.self.now c.loop-place.self c.note_failures.new.self c.loop-place.place c.loop-place.invariant.advances.advances c.note_failures.ensures.rest c.note_failures.ensures.cause
    (let many = c.loop-place.invariant.advances.advances.goes.stay.many in omega (arith, many, c.args.self.now.progress.ok.0, c.len-place-end.ensures, c.loop-place-test.false)) now.0 now.1

pub returns-clause-cause : goal.returns-clause-cause
returns-clause-cause g c = noted_since c.args.self.now c.loop-place.self c.note_failures.new.self c.loop-place.invariant.advances.cause c.note_failures.ensures.rest c.note_failures.ensures.cause
