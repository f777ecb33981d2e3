use Rattle.jc_text.proofs.Common.{◌≡◌, drop, map, are_words}
use Rattle.jc_text.proofs.read.grammar.none_empty.Given as goal

abbrev pub invariant-loop-w : goal.invariant-loop-w
invariant-loop-w l = are_words (map (λ w. w.now) (drop l.w-index l.words)) ≡ are_words (map (λ w. w.now) l.words)
