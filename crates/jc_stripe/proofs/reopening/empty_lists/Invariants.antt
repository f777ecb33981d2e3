use Rattle.std.proofs.Common.{◌≡◌, ℕ, ◌<◌, ◌≤◌, [], Some, slice_get, option_map, vec_len, vec_capacity}
use Rattle.jc_stripe.proofs.reopening.empty_lists.Given as goal

abbrev pub invariant-loop : goal.invariant-loop
invariant-loop l =
    (vec_len l.lists ≡ l.counter) × (l.count ≤ vec_capacity l.lists)
    × ((n : ℕ) → n < l.counter → option_map (λ list. list.items) (slice_get l.lists.items n) ≡ Some [])
