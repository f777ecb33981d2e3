use Rattle.jc_text.proofs.Common.{◌≡◌, drop, map, are_calls_from, are_calls}
use Rattle.jc_text.proofs.read.process_words.are_calls.Given as goal

abbrev pub invariant-loop-word : goal.invariant-loop-word
invariant-loop-word l = are_calls_from l.ended (map (λ w. w.now) (drop l.word-index l.words)) ≡ are_calls (map (λ w. w.now) l.words)
