use Rattle.jc_litmus.proofs.Common.{◌≡◌, drop, map, atoms_from}
use Rattle.jc_litmus.proofs.atoms.add_atoms.Given as goal

abbrev pub invariant-loop-word : goal.invariant-loop-word
invariant-loop-word l = atoms_from (map (λ t. t.items) l.threads) l.atoms.items (map (λ w. w.now) (drop l.word-index l.words)) ≡ atoms_from (map (λ t. t.items) l.fn.threads) l.fn.atoms.items (map (λ w. w.now) l.words)
