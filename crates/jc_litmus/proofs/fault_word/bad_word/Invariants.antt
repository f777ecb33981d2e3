use Rattle.jc_litmus.proofs.Common.{◌≡◌, drop, map, bad_from}
use Rattle.jc_litmus.proofs.fault_word.bad_word.Given as goal

abbrev pub invariant-loop-word : goal.invariant-loop-word
invariant-loop-word l =
    (l.at ≡ l.word-index)
    × (bad_from l.search (map (λ t. t.items) l.threads) l.first l.at (map (λ w. w.now) (drop l.word-index l.words))
    ≡ bad_from l.search (map (λ t. t.items) l.threads) l.first 0 (map (λ w. w.now) l.words))
