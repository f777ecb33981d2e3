-- One phase of a call with many keys, at one of them. No contract of a public function cites this.
--     MayStep      the session is of this cache, and has made no step of its current call at this key
--     IsKeyPhase   a phase of the session's current call at this key: the session may have seen more of each stripe, its counts
--                  change like this, and no other key's steps have changed; and this holds of the key
use Rattle.std.specs.Prelude.{◌≡◌, []}
use Rattle.jc_model.specs.Cache.{Bytes}
use Rattle.jc_session.specs.Counting.{counts_after}
use Rattle.jc_session.specs.declared.counts.Counted.{Counted}
use Rattle.jc_cache.specs.Caches.{CacheState}
use Rattle.jc_cache.specs.Sessions.{IsOf}
use Rattle.jc_session.specs.declared.session.Session.{Session}
use Rattle.jc_rounds.specs.Recorded.{steps_of}
use Rattle.jc_rounds.specs.Seats.{MovesAtKey, view_of}

module _ {I J : Type 0} {D : I → Type 0} {E : J → Type 0} (cache : CacheState) (old : Session I J D E) (key : Bytes) where
  pub record MayStep : Type 0 where
    pub own : IsOf cache old
    pub none : steps_of old.agent.caller key (view_of cache.config.stripes old.seats.items key).own ≡ []

  pub record IsKeyPhase (counted : Counted) (new : Session I J D E) (Made : Type 0) : Type 0 where
    pub own : IsOf cache new
    pub agent : new.agent ≡ record old.agent { counts = counts_after old.agent.counts counted }
    pub moves : MovesAtKey old.agent.caller cache.config.stripes key old.seats.items new.seats.items
    pub made : Made
