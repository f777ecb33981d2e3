use Rattle.jc_rounds.proofs.Common.{set, get_or, ap, ◌∙◌, arith, BulkCall, refused_if_waiting}
use Rattle.std.specs.Vec.{with_item}
use Rattle.jc_rounds.proofs.Places.{refused_so_far}
use Rattle.jc_rounds.proofs.bulk_call.BulkCall.refuse_rest.Goals as goal

pub loop-place-preserved : goal.loop-place-preserved
loop-place-preserved c =
    let now = c.loop-place.self.progress.items in
    let i = c.loop-place.place in
    let d = c.index_mut.result.now in
    record {
      items = ap (set now i) (c.refuse_if_waiting.ensures ∙ ap refused_if_waiting c.index_mut.ensures.value)
          ∙ ap (λ qs. set qs i (refused_if_waiting (get_or qs i d))) c.loop-place.invariant.items
          ∙ refused_so_far c.args.self.now.progress.items i d (omega (arith, c.loop-place-test.true, c.len-place-end.ensures, c.args.self.now.progress.ok.0));
      rest = ap (λ (x : BulkCall). record x { progress = with_item c.loop-place.self.progress c.loop-place.place c.refuse_if_waiting.new.self }) c.loop-place.invariant.rest;
    }
