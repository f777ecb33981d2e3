-- What a crate above needs of sessions that ask outside.
--     same_type       what stays keeps its type
--     holds_nothing   a session of a cache holds nothing between two calls
--     after_asking    a session whose agent has asked outside, and has kept all but its hands, is of its cache as before
pub use Rattle.jc_cache.proofs.SessionPhases.{holds_nothing}
use Rattle.jc_cache.proofs.Common.{◌≡◌, Option, option_map, ap, DynBox, KeepsType, Agent, Session, CacheState, IsOf}
use Rattle.jc_cache.proofs.Seats.{keeps_some}
use Rattle.jc_cache.proofs.SessionPhases.{of_asked}

pub same_type : {I Z : Type 0} {D : I → Type 0} (old new : Option (DynBox I Z D)) → new ≡ old → KeepsType old new
same_type {I} {Z} {D} old new same = ap (option_map (λ (box : DynBox I Z D). box.vtable)) same

pub after_asking : {I J : Type 0} {D : I → Type 0} {E : J → Type 0} (cache : CacheState) (old : Session I J D E) (agent : Agent I J D E)
    → agent ≡ record old.agent { hands = agent.hands } → agent.hands.held ≡ 0 → KeepsType old.agent.hands.outside.loader agent.hands.outside.loader
    → KeepsType old.agent.hands.outside.writer agent.hands.outside.writer → IsOf cache old → IsOf cache (record old { agent = agent })
after_asking {I} {J} {D} {E} cache old agent rest held loader writer of =
    of_asked cache old (record old { agent = agent }) (ap (λ (a : Agent I J D E). record old { agent = a }) rest) held (keeps_some _ _ loader) (keeps_some _ _ writer) of
