use Rattle.jc_text.proofs.Common.{◌≡◌, ◌++◌, take, flat_map, piece_text}
use Rattle.jc_text.proofs.print.put_pieces.Given as goal

abbrev pub invariant-loop-piece : goal.invariant-loop-piece
invariant-loop-piece l = l.out.items ≡ l.fn.out.items ++ flat_map piece_text (take l.piece-index l.pieces)
