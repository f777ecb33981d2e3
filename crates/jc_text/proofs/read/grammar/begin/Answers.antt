use Rattle.jc_text.proofs.Common.{◌≡◌, map, length, ℕ, ◌<◌, List, ◌∷◌, Err, refl, arith, Bor, BadLine}
use Rattle.jc_text.specs.Lines.{begin_of}
use Rattle.jc_text.proofs.read.grammar.begin.Goals as goal

too_short : (ws : List (Bor (List ℕ))) → length ws < 3 → begin_of (map (λ w. w.now) ws) ≡ Err BadLine
unfolding begin_of
too_short (a ∷ b ∷ c ∷ more) h = absurd (omega arith)
too_short other h = refl

pub returns-in_default : goal.returns-in_default
returns-in_default c = too_short c.args.words.now c.in_default.len_below
