-- The maps of a world: what is so of all finite maps whose keys are ordered, and the order of calls and keys.
--     exact_joins                 only equal calls and keys tie
--     joins_ordered               the order of calls and keys is one of keys
--     is_join_key, joins_tied     the test of calls and keys, and that it is of their order
use Rattle.jc_world.proofs.Common.{◌≡◌, ◌==◌, ◌&&◌, Bool, ap, ◌∙◌, eq_by_cmp, is_eq, nat_cmp, Equal-is, tied_then, both_tied, then_total, on_total, unsigned_ties, pointwise, texts_ties, IsAntisymmetric, nat_cmp-IsAntisymmetric, and_parts, nat_cmp_total, nat_list_cmp_total, exact_bytes, key_cmp, JoinKey, join_cmp}
use Rattle.jc_outside.proofs.CallerLemmas.{IsKeyOrder}
pub use Rattle.jc_outside.proofs.CallerLemmas.{keys_ordered, tied, split, get-here, get-gone, get-beside, get-left, still-there, each_put, each_left, insert-there, insert-back}
pub use Rattle.jc_outside.proofs.CallerLemmas.{find-entries, put-entries, remove-entries, popped, nothing_at}

pub exact_joins : IsAntisymmetric join_cmp
exact_joins p q e =
    let parts = and_parts (is_eq (nat_cmp p.0 q.0)) (is_eq (key_cmp p.1 q.1)) (tied_then (nat_cmp p.0 q.0) (key_cmp p.1 q.1) ∙ ap is_eq e) in
    let call = nat_cmp-IsAntisymmetric p.0 q.0 ((Equal-is (nat_cmp p.0 q.0)).0 parts.0) in
    let key = exact_bytes p.1 q.1 ((Equal-is (key_cmp p.1 q.1)).0 parts.1) in
    λ i. (call i, key i)

pub joins_ordered : IsKeyOrder join_cmp
joins_ordered = record { total = then_total (on_total (λ at. at.0) nat_cmp_total) (on_total (λ at. at.1) nat_list_cmp_total); exact = exact_joins }

abbrev pub is_join_key : JoinKey → JoinKey → Bool
is_join_key p q = (p.0 == q.0) && pointwise ◌==◌ p.1 q.1

pub joins_tied : (p q : JoinKey) → is_join_key p q ≡ eq_by_cmp join_cmp p q
joins_tied p q = both_tied (p.0 == q.0) (pointwise ◌==◌ p.1 q.1) (nat_cmp p.0 q.0) (key_cmp p.1 q.1) (unsigned_ties p.0 q.0) (texts_ties p.1 q.1)
