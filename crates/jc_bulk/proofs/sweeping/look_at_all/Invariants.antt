use Rattle.jc_bulk.proofs.Common.{HasLooked, OnlyLooks, MayCall, view_at, stripe_of, ℕ, ◌≡◌, ◌==◌, ◌≤◌, ◌*◌, true, nat_lt, vec_capacity, vec_len, pointwise, IsDistinct, list_all}
use Rattle.jc_bulk.proofs.sweeping.look_at_all.Given as goal

-- the stripes before this one were looked at, and no other ones; their keys differ, and belong to them
abbrev pub invariant-loop-number : goal.invariant-loop-number
invariant-loop-number g l =
    MayCall l.fn.cache l.session
    × OnlyLooks l.fn.session l.session
    × HasLooked l.number l.fn.session.seats.items l.session.seats.items l.keys.items
    × IsDistinct (pointwise ◌==◌) l.keys.items
    × (list_all (λ k. nat_lt (stripe_of k l.fn.cache.config.stripes) l.number) l.keys.items ≡ true)
    × (vec_len l.keys ≤ l.number * l.fn.cache.config.capacity)
    × (l.fn.cache.config.stripes * l.fn.cache.config.capacity ≤ vec_capacity l.keys)
    × ((i : ℕ) → l.number ≤ i → view_at l.session.seats.items i ≡ view_at l.fn.session.seats.items i)
