use Rattle.jc_text.proofs.Common.{◌≡◌, drop, said_after, said}
use Rattle.jc_text.proofs.read.pairs.Pairs.said.Given as goal

abbrev pub invariant-loop-pair : goal.invariant-loop-pair
invariant-loop-pair l = said_after l.answer (drop l.pair-index l.self) l.key ≡ said l.self l.key
