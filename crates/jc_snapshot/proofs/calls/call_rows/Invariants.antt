use Rattle.jc_snapshot.proofs.Common.{◌≡◌, ℕ, List, take, flat, AreRows, IsOpenCallRow, GrowsTo}
use Rattle.jc_snapshot.proofs.calls.call_rows.Given as goal

-- the rows of the calls so far, over tables that have grown
abbrev pub invariant-loop-call : goal.invariant-loop-call
invariant-loop-call l =
    ((rows : List (List ℕ)) × (l.words.items ≡ flat rows) × AreRows (IsOpenCallRow l.seen) (take l.call-index l.calls) rows)
    × GrowsTo l.fn.seen l.seen
