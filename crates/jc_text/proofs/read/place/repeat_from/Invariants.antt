use Rattle.jc_text.proofs.Common.{◌≡◌, ◌+◌, drop, map, [], repeat_from}
use Rattle.jc_text.proofs.read.place.repeat_from.Given as goal

abbrev pub invariant-loop-word : goal.invariant-loop-word
invariant-loop-word l =
    (l.at ≡ l.start + l.word-index)
    × (repeat_from l.keys l.at (map (λ w. w.now) (drop l.word-index l.words)) ≡ repeat_from [] l.start (map (λ w. w.now) l.words))
