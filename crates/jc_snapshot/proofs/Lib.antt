pub mod Common
mod FlatRows
mod OrderedEntries
mod SnapshotLaws
mod StripeRows
mod TableNumbers
