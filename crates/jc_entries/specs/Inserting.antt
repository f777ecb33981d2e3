-- An insertion into the entries of a stripe, by its answer: what was evicted for it, or why nothing was inserted.
--     has_room_for            the key has an entry already, or fewer entries are kept than may be
--     InsertsInRoom           the entry is the first, and no other was evicted
--     InsertsAfterEviction    the entry is the first, and the victim was evicted for it
--     FindsAllPinned          there was no room, and no entry could be evicted: nothing has changed
--     FindsNoMemory           an allocation for a new entry failed: without room the victim was evicted, and nothing else has
--                             changed
--     Inserts                 the case of an answer
use Rattle.std.specs.Prelude.{◌≡◌, ◌||◌, nat_lt, Bool, true, false, Option, None, Some, IsSome, is_some, List, ◌∷◌, length}
use Rattle.std.specs.Prelude.{if◌then◌else◌}
use Rattle.std.specs.FinMap as finite
use Rattle.jc_model.specs.declared.event.Cause.TheVariants.{Full, Memory, Invalidated}
use Rattle.jc_model.specs.Cache.{Bytes, key_cmp}
use Rattle.jc_model.specs.Listed.{others}
use Rattle.jc_entries.specs.ByUse.{ByUse, lru_victim, after_eviction}
use Rattle.jc_entries.specs.declared.entries.Inserted.{Inserted}
use Rattle.jc_entries.specs.declared.entries.Inserted.TheVariants.{Kept, KeptAfter, NotKept}

-- the key has an entry already, or fewer entries are kept than may be
abbrev pub has_room_for : Bytes → ByUse → Bool
has_room_for key entries = is_some (finite.find key_cmp key entries.list) || nat_lt (length entries.list) entries.capacity

-- the entry is the first, and no other was evicted
pub record InsertsInRoom (old new : ByUse) (key value : Bytes) : Type 0 where
  pub room : has_room_for key old ≡ true
  pub after : new ≡ record old { list = (key, value) ∷ others key old.list }

-- the entry is the first, and the victim was evicted for it
pub record InsertsAfterEviction (old new : ByUse) (key value : Bytes) (pinned : List Bytes) (victim : Bytes) : Type 0 where
  pub no_room : has_room_for key old ≡ false
  pub victim_is : lru_victim old.list pinned ≡ Some victim
  pub after : new ≡ record old { list = (key, value) ∷ others victim old.list }

-- there was no room, and no entry could be evicted: nothing has changed
pub record FindsAllPinned (old new : ByUse) (key : Bytes) (pinned : List Bytes) (evicted : Option Bytes) : Type 0 where
  pub no_room : has_room_for key old ≡ false
  pub no_victim : lru_victim old.list pinned ≡ None
  pub nobody : evicted ≡ None
  pub after : new ≡ old

-- an allocation for a new entry failed: without room the victim was evicted, and nothing else has changed
pub record FindsNoMemory (old new : ByUse) (key : Bytes) (pinned : List Bytes) (evicted : Option Bytes) : Type 0 where
  pub is_new : finite.find key_cmp key old.list ≡ None
  pub victim_is : evicted ≡ (if has_room_for key old then None else lru_victim old.list pinned)
  pub not_all_pinned : has_room_for key old ≡ false → IsSome evicted
  pub after : new ≡ record old { list = after_eviction evicted old.list }

-- the case of an answer
abbrev pub Inserts : ByUse → ByUse → Bytes → Bytes → List Bytes → Inserted → Type 0
Inserts old new key value pinned Kept = InsertsInRoom old new key value
Inserts old new key value pinned (KeptAfter victim) = InsertsAfterEviction old new key value pinned victim
Inserts old new key value pinned (NotKept Full evicted) = FindsAllPinned old new key pinned evicted
Inserts old new key value pinned (NotKept Memory evicted) = FindsNoMemory old new key pinned evicted
Inserts old new key value pinned (NotKept Invalidated evicted) = ⊥
