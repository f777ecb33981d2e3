use Rattle.jc_loadall.proofs.Common.{◌≡◌, ◌-◌, ◌*◌, ◌+◌, ◌≤◌, length, take, drop, spare, PIECE_KEYS}
use Rattle.jc_loadall.proofs.pieces.fill.Given as goal

abbrev pub invariant-loop-place : goal.invariant-loop-place
invariant-loop-place l = record {
  keys : l.set.keys ≡ take (l.place - PIECE_KEYS * l.piece) (drop (PIECE_KEYS * l.piece) l.keys);
  room : PIECE_KEYS ≤ length l.set.keys + spare l.set;
}
