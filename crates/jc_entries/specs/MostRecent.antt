-- The entry of a stripe that was used last.
--     most_recent    the value of the most recently used entry, or none if there is no entry
use Rattle.std.specs.Prelude.{Option, None, Some, List, [], ◌∷◌}
use Rattle.jc_model.specs.Cache.{Bytes}

abbrev pub most_recent : List (Bytes × Bytes) → Option Bytes
most_recent [] = None
most_recent (e ∷ es) = Some e.1
