use Rattle.std.proofs.Common.{◌≡◌, ◌++◌, [], take, ap, sym, ◌∙◌, arith}
use Rattle.std.specs.List.{cons_option, filter_map}
use Rattle.jc_model.specs.Batches.{batch_answer, answer_in_batch}
use Rattle.jc_batch.specs.Splitting.{success_of, failure_of}
use Rattle.jc_batch.proofs.Steps.{filter_map_more}
use Rattle.jc_batch.proofs.batch_keys.split_keys.Goals as goal

pub loop-key-preserved : goal.loop-key-preserved
loop-key-preserved g c =
    let left = g.C.Leftover.leftover_keys c.args.left.now in
    let fault = c.args.fault in
    let key = c.key-item.result in
    let i = c.loop-key.key-index in
    let keys = c.args.keys.now in
    let answer : c.batch_answer.result ≡ answer_in_batch left fault key = c.batch_answer.ensures ∙ ap (λ b. batch_answer b fault) c.is_left.ensures in
    record {
      written = c.note.ensures.written
          ∙ ap (λ xs. xs ++ cons_option (success_of key c.batch_answer.result) []) c.loop-key.invariant.written
          ∙ ap (λ a. filter_map (λ k. success_of k (answer_in_batch left fault k)) (take i keys) ++ cons_option (success_of key a) []) answer
          ∙ sym (filter_map_more (λ k. success_of k (answer_in_batch left fault k)) keys i key c.loop-key-test.true c.key-item.is);
      failed = c.note.ensures.failed
          ∙ ap (λ xs. xs ++ cons_option (failure_of key c.batch_answer.result) []) c.loop-key.invariant.failed
          ∙ ap (λ a. filter_map (λ k. failure_of k (answer_in_batch left fault k)) (take i keys) ++ cons_option (failure_of key a) []) answer
          ∙ sym (filter_map_more (λ k. failure_of k (answer_in_batch left fault k)) keys i key c.loop-key-test.true c.key-item.is);
      written_len = omega (arith, c.note.ensures.written_len, c.loop-key.invariant.written_len);
      failed_len = omega (arith, c.note.ensures.failed_len, c.loop-key.invariant.failed_len);
      written_room = omega (arith, c.note.ensures.written_room, c.loop-key.invariant.written_room);
      failed_room = omega (arith, c.note.ensures.failed_room, c.loop-key.invariant.failed_room);
    }
