use Rattle.jc_litmus.proofs.Common.{◌≡◌, drop, map, list_all, is_atom}
use Rattle.jc_litmus.proofs.atoms.all_atoms.Given as goal

abbrev pub invariant-loop-word : goal.invariant-loop-word
invariant-loop-word l = list_all is_atom (map (λ w. w.now) (drop l.word-index l.words)) ≡ list_all is_atom (map (λ w. w.now) l.words)
