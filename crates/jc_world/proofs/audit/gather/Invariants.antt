use Rattle.jc_world.proofs.Common.{◌≡◌, drop, None, Bytes, entry_at, found_after}
use Rattle.jc_world.proofs.audit.gather.Given as goal

-- what was found so far, and then in the other stripes, is what is found in all
abbrev pub invariant-loop-stripe : goal.invariant-loop-stripe
invariant-loop-stripe l = (key : Bytes) → found_after (entry_at l.all key) (drop l.stripe-index l.stripes) key ≡ found_after None l.stripes key
