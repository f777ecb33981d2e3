use Rattle.jc_loadall.proofs.Common.{◌≡◌, ◌*◌, flat_map, MayAdd, all_noted, first_noted, result_in, PIECE_KEYS}
use Rattle.jc_loadall.proofs.joining.join_notes.Given as goal

abbrev pub invariant-loop-piece : goal.invariant-loop-piece
invariant-loop-piece g l = record {
  cause : l.cause ≡ first_noted (result_in (flat_map (λ w. w.notes.items) l.workers)) l.piece;
  failed : l.failed.entries ≡ all_noted (result_in (flat_map (λ w. w.notes.items) l.workers)) l.keys l.piece;
  may : MayAdd l.keys (PIECE_KEYS * l.piece) l.failed;
}
