use Rattle.jc_text.proofs.Common.{◌≡◌, drop, map, [], keys_from}
use Rattle.jc_text.proofs.read.words.keys.Given as goal

abbrev pub invariant-loop-word : goal.invariant-loop-word
invariant-loop-word l = keys_from l.keys (map (λ w. w.now) (drop l.word-index l.words)) ≡ keys_from [] (map (λ w. w.now) l.words)
