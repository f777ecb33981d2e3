-- Lemmas for the crates above: each worker with its tool.
pub use Rattle.jc_pool.proofs.Shares.{zip_at, length-zip, all_with_tools}
