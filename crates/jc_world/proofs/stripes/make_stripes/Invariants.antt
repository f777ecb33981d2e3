use Rattle.jc_world.proofs.Common.{◌≡◌, ◌-◌, ◌++◌, fresh_stripes}
use Rattle.jc_world.proofs.stripes.make_stripes.Given as goal

-- what is made, and what is still to be made
abbrev pub invariant-loop-number : goal.invariant-loop-number
invariant-loop-number l = l.made.items ++ fresh_stripes l.config l.number (l.number-end - l.number) ≡ fresh_stripes l.config 0 l.number-end
