use Rattle.jc_explore.proofs.Common.{◌≡◌, ◌<◌, ℕ, get_or, Finding, final_of}
use Rattle.jc_explore.proofs.search.is_found.Given as goal

abbrev pub invariant-loop-one : goal.invariant-loop-one
invariant-loop-one l = (k : ℕ) (d : Finding) → k < l.one-index → final_of (get_or l.found k d).state ≡ final_of l.state → ⊥
