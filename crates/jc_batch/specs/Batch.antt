-- What contracts see of a batch, the keys that one call of the loader or the writer is asked for, while it is being filled.
--     BatchState     the items added so far, in order, and the number of further ones that there is room for
--     with_item      the batch with one more added
--     empty_batch    a batch to which nothing was added, with room for `room` items
use Rattle.std.specs.Prelude.{ℕ, ◌-◌, List, [], ◌∷◌, ◌++◌}

pub record BatchState (X : Type 0) : Type 0 where
  pub items : List X
  pub room : ℕ

abbrev pub with_item : {X : Type 0} → BatchState X → X → BatchState X
with_item batch item = record { items = batch.items ++ item ∷ []; room = batch.room - 1 }

abbrev pub empty_batch : {X : Type 0} → ℕ → BatchState X
empty_batch room = record { items = []; room = room }
