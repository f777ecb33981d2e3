pub use Rattle.jc_batch.proofs.CallerLemmas
mod Batches
mod Ending
