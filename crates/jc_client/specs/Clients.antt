-- Clients, each a session beside the one cache that it may call, and services of many of them.
--     OnSameCache     a client is still one of the same cache, and this was done; X is what a contract sees of its cache
--     ClientState     the caller of a client's latest call, and the number of steps that its session has made
--     client_state    the state of a session's client
--     new_clients     the states of clients that have begun no call, of sessions with these numbers, one after another
--     HasWorked       a client in this state has done its work once, and returned this; its state after that isn't stated
--     WorksEach       clients in these states have each done their work once, and returned these results, in their order
--     HasServed       a whole service was served: its cache opened with nothing, a session was given out for each loader and
--                     writer, each of their clients has done its work once, and the cache was ended
--     IsServeRefusal  why a whole service wasn't served: the cache's shape is out of its limits, an allocation failed, a session
--                     is refused, or the cache couldn't be ended
use Rattle.std.specs.Prelude.{◌≡◌, ◌+◌, ◌⊎◌, ℕ, zero, suc, List, [], ◌∷◌, length, true, Err}
use Rattle.jc_types.specs.declared.caller.Caller.{Caller}
use Rattle.jc_types.specs.declared.config.Config.{Config}
use Rattle.jc_types.specs.declared.refusal.Refusal.{Refusal}
use Rattle.jc_types.specs.declared.refusal.Refusal.TheVariants.{OutOfMemory}
use Rattle.jc_types.specs.Limits.{check}
use Rattle.jc_outside.specs.declared.hands.Outside.{Outside}
use Rattle.jc_session.specs.declared.session.Session.{Session}
use Rattle.jc_cache.specs.Caches.{CacheOwnerState, OpensWith}
use Rattle.jc_cache.specs.Closing.{IsEndRefusal}
use Rattle.jc_cache.specs.Enlisting.{IsNotEnlisted}

pub record OnSameCache {X : Type 0} (before after : X) (Done : Type 0) : Type 0 where
  pub cache : after ≡ before
  pub call : Done

pub record ClientState : Type 0 where
  pub caller : Caller
  pub own : ℕ

abbrev pub client_state : {I J : Type 0} {D : I → Type 0} {E : J → Type 0} → Session I J D E → ClientState
client_state session = record { caller = session.agent.caller; own = session.agent.counts.own }

abbrev pub new_clients : ℕ → ℕ → List ClientState
new_clients number zero = []
new_clients number (suc more) = record { caller = record { session = number; call = 0 }; own = 0 } ∷ new_clients (number + 1) more

module _ {X : Type 0} (works : ClientState → X → ClientState → Type 0) where
  abbrev pub HasWorked : ClientState → X → Type 0
  HasWorked before returned = (after : ClientState) × works before returned after

  abbrev pub WorksEach : List ClientState → List X → Type 0
  WorksEach [] [] = Unit {0}
  WorksEach (before ∷ others) (one ∷ rest) = HasWorked before one × WorksEach others rest
  WorksEach before returned = ⊥

  -- `brought` is how many have brought a loader or a writer, or nothing; `Ended` is how its owner ended it
  pub record HasServed (config : Config) (brought : ℕ) (Ended : CacheOwnerState → Type 0) (returned : List X) : Type 0 where
    pub opened : CacheOwnerState
    pub opens : OpensWith true config [] opened
    pub ended : Ended (record opened { given = brought })
    pub each : WorksEach (new_clients 0 brought) returned

pub record IsServeRefusal {I J : Type 0} {D : I → Type 0} {E : J → Type 0} (config : Config) (outside : List (Outside I J D E))
    (refusal : Refusal) : Type 0 where
  pub why : (check config ≡ Err refusal)
      ⊎ ((refusal ≡ OutOfMemory)
      ⊎ ((opened : CacheOwnerState) × (left : CacheOwnerState) × OpensWith true config [] opened
      × (IsNotEnlisted opened left outside refusal ⊎ IsEndRefusal refusal (record opened { given = length outside }) left)))
