use Rattle.jc_loadall.proofs.Common.{◌≡◌, ◌+◌, ◌*◌, ◌++◌, suc, subst, ◌∙◌, arith, flat_map, option_or, MayAdd, all_noted, entries_noted, first_noted, result_in, piece_at, PIECE_KEYS}
use Rattle.jc_loadall.proofs.joining.join_notes.Goals as goal

pub loop-piece-preserved : goal.loop-piece-preserved
loop-piece-preserved g c =
    let old = c.loop-piece.invariant in
    let piece = c.loop-piece.piece in
    let results = result_in (flat_map (λ w. w.notes.items) c.args.workers.now) in
    let more : suc c.loop-piece.piece ≡ c.loop-piece.piece + 1 = omega arith in
    let keys : PIECE_KEYS * c.loop-piece.piece + PIECE_KEYS ≡ PIECE_KEYS * (c.loop-piece.piece + 1) = omega arith in
    record {
      cause = c.or-cause.ensures ∙ (λ i. option_or (old.cause i) (c.join_piece.ensures.noted.0 i)) ∙ (λ i. first_noted results (more i));
      failed = c.join_piece.ensures.noted.1 ∙ (λ i. old.failed i ++ entries_noted (results piece) (piece_at c.args.keys.now piece)) ∙ (λ i. all_noted results c.args.keys.now (more i));
      may = subst (λ n. MayAdd c.args.keys.now n c.join_piece.new.failed) keys c.join_piece.ensures.may;
    }
