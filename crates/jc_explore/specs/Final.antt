-- The outcome of a program of threads: replies, cache and store, when nothing can happen any more.
--     FinalValue    the replies to the threads, thread by thread; the entries of the cache and of the store, in the byte order of
--                   the keys; and the keys whose cached value isn't the store's
--     final_of      the value of a final state
--     IsFinal       this is the final state of a scene
use Rattle.std.specs.Prelude.{◌≡◌, List}
use Rattle.std.specs.FinMap.{entries}
use Rattle.jc_model.specs.Cache.{Bytes, Cache}
use Rattle.jc_world.specs.Audit.{IsCache, differing}
use Rattle.jc_explore.specs.declared.final_state.FinalState.{FinalState}
use Rattle.jc_explore.specs.declared.replies.ThreadReply.{ThreadReply}
use Rattle.jc_explore.specs.Schedule.{SceneState}

pub record FinalValue : Type 0 where
  pub replies : List ThreadReply
  pub cache : List (Bytes × Bytes)
  pub store : List (Bytes × Bytes)
  pub differing : List Bytes

abbrev pub final_of : FinalState → FinalValue
final_of f =
    record { replies = f.replies.items; cache = f.cache.items; store = f.store.items; differing = f.differing.items }

pub record IsFinal (s : SceneState) (f : FinalValue) : Type 0 where
  pub cache : Cache
  pub cache_is : IsCache s.world cache
  pub replies_are : f.replies ≡ s.replies
  pub cached_are : f.cache ≡ entries cache
  pub stored_are : f.store ≡ entries s.world.store
  pub differing_are : f.differing ≡ differing s.world f.cache
