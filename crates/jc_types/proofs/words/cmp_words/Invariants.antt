use Rattle.std.proofs.Common.{◌≡◌, ◌*◌, drop}
use Rattle.std.specs.Ordering.{nat_cmp}
use Rattle.std.specs.Cmp.Lexicographic.{slice_cmp}
use Rattle.jc_types.proofs.words.cmp_words.Given as goal

abbrev pub invariant-loop-i : goal.invariant-loop-i
invariant-loop-i l = slice_cmp nat_cmp l.mine l.theirs ≡ slice_cmp nat_cmp (drop (l.i * 8) l.mine) (drop (l.i * 8) l.theirs)
