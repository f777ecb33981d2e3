use Rattle.jc_cache.proofs.Common.{◌∙◌, arith, refl, rules}
use Rattle.jc_cache.proofs.ClosingSeats.{keep_all, keep_on, keep_set, keep_locks, own_there, next_free, next_stays, take_next}
use Rattle.jc_cache.proofs.Meetings.{got_set}
use Rattle.jc_cache.proofs.Noted.{logs_set, row_refusal}
use Rattle.jc_cache.proofs.closing.own_seats.take_all.Goals as goal

pub loop-i-init : goal.loop-i-init
loop-i-init c = record { keeps = keep_all _ _; taken = rw c.requires.empty c.requires.own.taken; logs = refl; long = rw c.requires.empty refl; room = c.requires.room }

pub take_idle-requires : goal.take_idle-requires
take_idle-requires c =
    let there = own_there _ _ _ _ c.loop-i.i _ _ c.requires.own.locks c.loop-i.invariant.keeps c.loop-i-test.true c.index_mut.ensures.value c.index-locks-i.is in
    (there.1, next_free _ _ c.loop-i.i _ c.loop-i.invariant.long c.loop-i.invariant.taken there.0)

pub give_all-requires : goal.give_all-requires
give_all-requires c =
    let there = own_there _ _ _ _ c.loop-i.i _ _ c.requires.own.locks c.loop-i.invariant.keeps c.loop-i-test.true c.index_mut.ensures.value c.index-locks-i.is in
    record {
      locks = keep_locks _ _ _ (keep_set _ _ _ c.loop-i.i _ _ c.loop-i.invariant.keeps there.0 c.take_idle.ensures.keeps) ∙ c.requires.own.locks;
      taken = next_stays _ _ c.loop-i.i _ _ c.loop-i.invariant.long c.loop-i.invariant.taken there.0 c.in-Err.ensures.err.0;
    }

pub returns-in-Err-clause-keeps : goal.returns-in-Err-clause-keeps
returns-in-Err-clause-keeps c =
    let there = own_there _ _ _ _ c.loop-i.i _ _ c.requires.own.locks c.loop-i.invariant.keeps c.loop-i-test.true c.index_mut.ensures.value c.index-locks-i.is in
    keep_on _ _ _ _ (keep_set _ _ _ c.loop-i.i _ _ c.loop-i.invariant.keeps there.0 c.take_idle.ensures.keeps) c.give_all.ensures.own.keeps

pub returns-in-Err-clause-err : goal.returns-in-Err-clause-err
returns-in-Err-clause-err c =
    let there = own_there _ _ _ _ c.loop-i.i _ _ c.requires.own.locks c.loop-i.invariant.keeps c.loop-i-test.true c.index_mut.ensures.value c.index-locks-i.is in
    let stays = c.give_all.ensures.rest c.loop-i.i (let long = c.loop-i.invariant.long in omega arith) in
    (c.give_all.ensures.own.taken, row_refusal _ _ _ c.loop-i.i _ _ _ c.loop-i.invariant.keeps there.0 (stays ∙ got_set _ c.loop-i.i _ _ there.0) c.in-Err.ensures.err.1)

pub loop-i-preserved : goal.loop-i-preserved
loop-i-preserved c =
    let i = c.loop-i.invariant in
    let there = own_there _ _ _ _ c.loop-i.i _ _ c.requires.own.locks i.keeps c.loop-i-test.true c.index_mut.ensures.value c.index-locks-i.is in
    record {
      keeps = keep_set _ _ _ c.loop-i.i _ _ i.keeps there.0 c.take_idle.ensures.keeps;
      taken = rw c.push_reserved.ensures.items (take_next _ _ c.loop-i.i _ _ _ i.long i.taken there.0 c.in-Ok.ensures.ok.0);
      logs = logs_set _ c.loop-i.i _ _ there.0 c.in-Ok.ensures.ok.1 ∙ i.logs;
      long = rw c.push_reserved.ensures.items (search rules);
      room = rw c.push_reserved.ensures.capacity i.room;
    }
