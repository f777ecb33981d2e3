use Rattle.std.proofs.Common.{◌≡◌, ◌++◌, take}
use Rattle.std.specs.List.{flat_map}
use Rattle.jcache.specs.Reports.{own_text}
use Rattle.jcache.proofs.report.put_each_own.Given as goal

abbrev pub invariant-loop-own : goal.invariant-loop-own
invariant-loop-own l = l.out.items ≡ l.fn.out.items ++ flat_map own_text (take l.own-index l.counts)
