use Rattle.std.proofs.Common.{take}
use Rattle.jc_snapshot.proofs.TableNumbers.{extends_twice, numbers_stay, numbers_push, take_next}
use Rattle.jc_snapshot.proofs.table.numbers_of.Goals as goal

pub loop-thing-preserved : goal.loop-thing-preserved
loop-thing-preserved g c =
    let xs = c.args.things.now in
    let i = c.loop-thing.thing-index in
    let x = c.thing-item.result in
    let t = c.number_of.new.self in
    let so_far = numbers_stay c.loop-thing.table t (take i xs) c.loop-thing.numbers.items c.number_of.ensures.grows c.loop-thing.invariant.0 in
    let one = numbers_push t (take i xs) c.loop-thing.numbers.items x c.in_ok-number_of.field-0 so_far c.in_ok-number_of.ensures.number in
    (rw (take_next xs i x c.loop-thing-test.true c.thing-item.is) (rw c.in_ok-push.ensures.items one), extends_twice _ _ _ c.loop-thing.invariant.1 c.number_of.ensures.grows)
