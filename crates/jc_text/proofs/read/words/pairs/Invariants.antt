use Rattle.jc_text.proofs.Common.{◌≡◌, drop, map, [], pairs_from}
use Rattle.jc_text.proofs.read.words.pairs.Given as goal

abbrev pub invariant-loop-word : goal.invariant-loop-word
invariant-loop-word l = pairs_from l.pairs (map (λ w. w.now) (drop l.word-index l.words)) ≡ pairs_from [] (map (λ w. w.now) l.words)
