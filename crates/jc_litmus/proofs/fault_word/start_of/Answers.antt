use Rattle.jc_litmus.proofs.Common.{◌≡◌, ◌∙◌, sym, refl, ℕ, List, [], ◌∷◌, drop, start_from}
use Rattle.jc_litmus.proofs.fault_word.start_of.Goals as goal

-- no word is left to be passed
arrived : (left at : ℕ) (bytes : List ℕ) → left ≡ 0 → start_from left at bytes ≡ at
arrived left at [] e = rw e refl
arrived left at (b ∷ bytes) e = rw e refl

pub returns-then-left-eq0-clause-place : goal.returns-then-left-eq0-clause-place
returns-then-left-eq0-clause-place c =
    sym (arrived c.loop-b.left c.loop-b.at (drop c.loop-b.b-index c.args.line.now) c.if-left-eq0.true) ∙ c.loop-b.invariant.1
