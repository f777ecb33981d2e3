-- Lemmas for the crates above: prefixes of a history, and states of one stripe.
pub use Rattle.jc_lock.proofs.Prefixes.{prefix-refl, prefix-nil, prefix-trans, same_itself, same_at, same_on}
