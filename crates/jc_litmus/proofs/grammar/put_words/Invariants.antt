use Rattle.jc_litmus.proofs.Common.{◌≡◌, ◌++◌, drop, map, flat_map}
use Rattle.jc_litmus.specs.Grammar.{after_space}
use Rattle.jc_litmus.proofs.grammar.put_words.Given as goal

abbrev pub invariant-loop-word : goal.invariant-loop-word
invariant-loop-word l =
    l.text.items ++ flat_map after_space (map (λ w. w.now) (drop l.word-index l.words))
    ≡ l.fn.text.items ++ flat_map after_space (map (λ w. w.now) l.words)
