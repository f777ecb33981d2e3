-- What the proofs of other crates cite. Declares nothing.
pub use Rattle.jc_world.proofs.AlikeWorlds.{with_past}
pub use Rattle.jc_world.proofs.Maps.{exact_joins}
pub use Rattle.jc_world.proofs.Together.{own_call}
