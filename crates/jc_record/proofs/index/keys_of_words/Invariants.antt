use Rattle.jc_record.proofs.Common.{◌≡◌, [], drop, map}
use Rattle.jc_record.specs.Index.{keys_of_words}
use Rattle.jc_record.proofs.index.keys_of_words.Given as goal

abbrev pub invariant-loop-word : goal.invariant-loop-word
invariant-loop-word l = keys_of_words l.keys (map (λ w. w.now) (drop l.word-index l.words)) ≡ keys_of_words [] (map (λ w. w.now) l.words)
