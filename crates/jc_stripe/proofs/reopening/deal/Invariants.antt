use Rattle.std.proofs.Common.{◌≡◌, ℕ, ◌<◌, Some, take, slice_get, option_map, vec_len}
use Rattle.jc_stripe.specs.Reopening.{kept, dropped}
use Rattle.jc_stripe.proofs.reopening.deal.Given as goal

abbrev pub invariant-loop-entry : goal.invariant-loop-entry
invariant-loop-entry l =
    (vec_len l.lists ≡ l.config.stripes)
    × ((n : ℕ) → n < l.config.stripes → option_map (λ list. list.items) (slice_get l.lists.items n) ≡ Some (kept l.config n (take l.entry-index l.entries)))
    × (l.dropped.items ≡ dropped l.config (take l.entry-index l.entries))
