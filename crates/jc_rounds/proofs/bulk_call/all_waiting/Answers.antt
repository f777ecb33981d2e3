use Rattle.jc_rounds.proofs.Common.{◌++◌, [], ◌∷◌, length, ap, ◌∙◌, arith, Waiting}
use Rattle.jc_rounds.proofs.Places.{many_waiting, one_waiting}
use Rattle.jc_rounds.proofs.bulk_call.all_waiting.Goals as goal

pub push_reserved-requires : goal.push_reserved-requires
push_reserved-requires c =
    let old = c.loop-place.invariant in
    omega (arith, ap length old.items, many_waiting c.loop-place.place, c.loop-place.progress.ok.0, c.loop-place-test.true, old.room)

pub loop-place-preserved : goal.loop-place-preserved
loop-place-preserved c =
    let old = c.loop-place.invariant in
    record {
      items = c.push_reserved.ensures.items ∙ ap (λ ps. ps ++ Waiting ∷ []) old.items ∙ one_waiting c.loop-place.place;
      room = omega (arith, old.room, c.push_reserved.ensures.capacity);
    }
