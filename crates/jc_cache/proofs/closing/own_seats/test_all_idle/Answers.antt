use Rattle.jc_cache.proofs.Common.{arith, refl, rules, ◌∙◌, slice_get_within}
use Rattle.jc_cache.proofs.Rows.{length_locks}
use Rattle.jc_cache.proofs.ClosingSeats.{keep_all, keep_set, keep_locks, own_there, free_at, free_set}
use Rattle.jc_cache.proofs.Meetings.{got_set}
use Rattle.jc_cache.proofs.Noted.{idle_logs, idle_set, rest_set, row_refusal}
use Rattle.jc_cache.proofs.closing.own_seats.test_all_idle.Goals as goal

pub loop-i-init : goal.loop-i-init
loop-i-init c = record { keeps = keep_all _ _; free = c.requires.taken; rest = λ k le. refl; idle = λ k x y near first there. absurd (omega arith) }

pub test_idle-requires : goal.test_idle-requires
test_idle-requires c =
    let there = own_there _ _ _ _ c.loop-i.i _ _ c.requires.locks c.loop-i.invariant.keeps c.loop-i-test.true c.index_mut.ensures.value c.index-locks-i.is in
    (there.1, free_at _ c.loop-i.i _ c.loop-i.invariant.free there.0)

pub returns-in_err-test_idle-clause-own : goal.returns-in_err-test_idle-clause-own
returns-in_err-test_idle-clause-own c =
    let at = own_there _ _ _ _ c.loop-i.i _ _ c.requires.locks c.loop-i.invariant.keeps c.loop-i-test.true c.index_mut.ensures.value c.index-locks-i.is in
    record { keeps = keep_set _ _ _ c.loop-i.i _ _ c.loop-i.invariant.keeps at.0 c.test_idle.ensures.keeps; taken = free_set _ c.loop-i.i _ c.loop-i.invariant.free c.test_idle.ensures.free }

pub returns-in_err-test_idle-clause-err : goal.returns-in_err-test_idle-clause-err
returns-in_err-test_idle-clause-err c =
    let at = own_there _ _ _ _ c.loop-i.i _ _ c.requires.locks c.loop-i.invariant.keeps c.loop-i-test.true c.index_mut.ensures.value c.index-locks-i.is in
    search (rules, row_refusal _ _ _ c.loop-i.i _ c.test_idle.new.seat _ c.loop-i.invariant.keeps at.0 (got_set _ c.loop-i.i _ _ at.0) c.in_err-test_idle.ensures.err)

pub loop-i-preserved : goal.loop-i-preserved
loop-i-preserved c =
    let at = own_there _ _ _ _ c.loop-i.i _ _ c.requires.locks c.loop-i.invariant.keeps c.loop-i-test.true c.index_mut.ensures.value c.index-locks-i.is in
    record {
      keeps = keep_set _ _ _ c.loop-i.i _ _ c.loop-i.invariant.keeps at.0 c.test_idle.ensures.keeps;
      free = free_set _ c.loop-i.i _ c.loop-i.invariant.free c.test_idle.ensures.free;
      rest = rest_set _ _ c.loop-i.i _ c.loop-i.invariant.rest;
      idle = idle_set _ _ c.loop-i.i _ _ c.loop-i.invariant.rest c.loop-i.invariant.idle at.0 c.in_ok-test_idle.ensures.ok;
    }

pub returns-clause-ok : goal.returns-clause-ok
returns-clause-ok c =
    let i = c.loop-i.invariant in
    let long = length_locks _ _ (keep_locks _ _ _ i.keeps ∙ c.requires.locks) in
    idle_logs _ _ (λ k x y first there.
    let near = slice_get_within _ k y there in
    let past = c.loop-i-test.false in
    i.idle k x y (omega arith) first there)
