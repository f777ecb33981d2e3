use Rattle.std.proofs.Common.{◌≡◌, ◌++◌, ◌≤◌, vec_len}
use Rattle.std.specs.FinMap as map
use Rattle.jc_model.proofs.contents.Contents.append_to.Given as goal

-- what is in and what the iterator has left are together the list as it was and the entries
abbrev pub invariant-loop-key : goal.invariant-loop-key
invariant-loop-key l = (l.before ≤ vec_len l.out) × (l.out.items ++ l.key-iterator ≡ l.initial.out.items ++ map.entries l.self)
