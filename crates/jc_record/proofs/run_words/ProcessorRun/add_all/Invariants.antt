use Rattle.jc_record.proofs.Common.{◌≡◌, drop, map}
use Rattle.jc_text.specs.Words.{words_onto}
use Rattle.jc_record.specs.Words.{run_onto}
use Rattle.jc_record.proofs.run_words.ProcessorRun.add_all.Given as goal

abbrev pub invariant-loop-word : goal.invariant-loop-word
invariant-loop-word l = words_onto run_onto l.self (map (λ w. w.now) (drop l.word-index l.words)) ≡ words_onto run_onto l.fn.self (map (λ w. w.now) l.words)
