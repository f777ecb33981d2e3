use Rattle.jc_snapshot.proofs.Common.{◌≡◌, ℕ, List, map, take, essence_of, flat, AreRows, IsStripeRow, GrowsTo}
use Rattle.jc_snapshot.proofs.stripes.stripe_rows.Given as goal

-- the rows of the stripes so far, over tables that have grown
abbrev pub invariant-loop-stripe : goal.invariant-loop-stripe
invariant-loop-stripe l =
    ((rows : List (List ℕ)) × (l.words.items ≡ flat rows) × AreRows (IsStripeRow l.seen) (map essence_of (take l.stripe-index l.stripes)) rows)
    × GrowsTo l.fn.seen l.seen
