use Rattle.jc_text.proofs.Common.{◌≡◌, drop, map, bad_from}
use Rattle.jc_text.proofs.read.place.bad_among.Given as goal

abbrev pub invariant-loop-word : goal.invariant-loop-word
invariant-loop-word l =
    (l.at ≡ l.word-index)
    × (bad_from l.search l.left l.rest l.at (map (λ w. w.now) (drop l.word-index l.words)) ≡ bad_from l.search l.kinds l.rest 0 (map (λ w. w.now) l.words))
