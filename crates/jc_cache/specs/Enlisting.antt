-- Sessions that an owner gives out, a list at a time.
--     HaveNumbers     sessions have these numbers, one after another, and have begun no call
--     AreGivenOut     sessions that an owner has given out one after another, each with its loader and writer: they have made no
--                     step, and may call the cache
--     IsNotEnlisted   an owner gave out only the first ones of these sessions, since an allocation failed, or the next one is
--                     refused
use Rattle.std.specs.Prelude.{◌≡◌, ◌+◌, ◌++◌, ◌⊎◌, ℕ, List, [], ◌∷◌, length, map, is_some, Some}
use Rattle.std.specs.List.{All}
use Rattle.jc_types.specs.declared.refusal.Refusal.{Refusal}
use Rattle.jc_types.specs.declared.refusal.Refusal.TheVariants.{OutOfMemory}
use Rattle.jc_outside.specs.declared.hands.Outside.{Outside}
use Rattle.jc_session.specs.declared.session.Session.{Session}
use Rattle.jc_cache.specs.Caches.{CacheOwnerState, session_refusal}
use Rattle.jc_cache.specs.Sessions.{BeginsAt, MayCall}

abbrev pub HaveNumbers : {I J : Type 0} {D : I → Type 0} {E : J → Type 0} → ℕ → List (Session I J D E) → Type 0
HaveNumbers number [] = Unit {0}
HaveNumbers number (session ∷ sessions) =
    (session.agent.caller ≡ record { session = number; call = 0 }) × HaveNumbers (number + 1) sessions

pub record AreGivenOut {I J : Type 0} {D : I → Type 0} {E : J → Type 0} (from left : CacheOwnerState)
    (outside : List (Outside I J D E)) (sessions : List (Session I J D E)) : Type 0 where
  pub owner : left ≡ record from { given = from.given + length sessions }
  pub boxes : map (λ (session : Session I J D E). session.agent.hands.outside) sessions ≡ outside
  pub fresh : All (λ (session : Session I J D E). (session.agent.counts.own ≡ 0) × BeginsAt from session) sessions
  pub numbers : HaveNumbers from.given sessions
  pub may : All (λ (session : Session I J D E). MayCall left.cache session) sessions

-- `made` are the sessions that were given out
pub record IsNotEnlisted {I J : Type 0} {D : I → Type 0} {E : J → Type 0} (from left : CacheOwnerState)
    (outside : List (Outside I J D E)) (refusal : Refusal) : Type 0 where
  pub before : List (Outside I J D E)
  pub rest : List (Outside I J D E)
  pub made : List (Session I J D E)
  pub outside_is : outside ≡ before ++ rest
  pub given : AreGivenOut from left before made
  pub why : (refusal ≡ OutOfMemory)
      ⊎ ((one : Outside I J D E) × (others : List (Outside I J D E)) × (rest ≡ one ∷ others)
      × (session_refusal left (is_some one.loader) (is_some one.writer) ≡ Some refusal))
