-- The threads that `jcache threads` has count: how many steps each session has made. No contract of a public function cites this.
--     HasCounted  a session may call the cache, and has made at most a number of steps
use Rattle.std.specs.Prelude.{◌≤◌, ℕ}
use Rattle.jc_cache.specs.Caches.{CacheState}
use Rattle.jc_cache.specs.Sessions.{MayCall}
use Rattle.jc_session.specs.declared.session.Session.{Session}

pub record HasCounted {I J : Type 0} {D : I → Type 0} {E : J → Type 0} (cache : CacheState) (steps_max : ℕ)
    (session : Session I J D E) : Type 0 where
  pub may : MayCall cache session
  pub few : session.agent.counts.own ≤ steps_max
