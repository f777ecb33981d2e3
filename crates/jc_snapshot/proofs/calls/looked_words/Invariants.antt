use Rattle.std.proofs.Common.{◌≡◌, take}
use Rattle.jc_snapshot.proofs.calls.looked_words.Given as goal

-- the stripes so far
abbrev pub invariant-loop-stripe : goal.invariant-loop-stripe
invariant-loop-stripe l = l.words.items ≡ take l.stripe-index l.looked
