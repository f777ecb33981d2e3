use Rattle.jc_loadall.proofs.Common.{◌≡◌, ◌-◌, ◌*◌, ◌++◌, take, drop, MayAdd, entries_noted, PIECE_KEYS}
use Rattle.jc_loadall.proofs.joining.insert_piece.Given as goal

abbrev pub invariant-loop-place : goal.invariant-loop-place
invariant-loop-place l = record {
  entries : l.failed.entries ≡ l.initial.failed.entries ++ entries_noted l.noted (take (l.place - PIECE_KEYS * l.piece) (drop (PIECE_KEYS * l.piece) l.keys));
  may : MayAdd l.keys l.place l.failed;
}
