use Rattle.jc_text.proofs.Common.{◌≡◌, drop, map, calls_from, calls_of}
use Rattle.jc_text.proofs.read.process_words.read_calls.Given as goal

abbrev pub invariant-loop-word : goal.invariant-loop-word
invariant-loop-word l = calls_from l.calls l.fail (map (λ w. w.now) (drop l.word-index l.words)) ≡ calls_of (map (λ w. w.now) l.words)
