use Rattle.jc_text.proofs.Common.{◌≡◌, drop, map, [], distinct_pairs_from}
use Rattle.jc_text.proofs.read.words.distinct_pairs.Given as goal

abbrev pub invariant-loop-word : goal.invariant-loop-word
invariant-loop-word l = distinct_pairs_from l.pairs (map (λ w. w.now) (drop l.word-index l.words)) ≡ distinct_pairs_from [] (map (λ w. w.now) l.words)
