-- How a stripe keeps its generations: what its field of type `Life` means. No contract of a public function cites this.
--     Life        the entries that the present generation opened with, the most recently used first, and the generations that
--                 have ended, the oldest first
--     noted_in    the entries in a note of a generation
--     ended_in    the generations that are noted as ended
use Rattle.std.specs.Prelude.{List, [], ◌∷◌, map}
use Rattle.jc_model.specs.Cache.{Bytes}
use Rattle.jc_entries.specs.ByUse.{ByUse}
use Rattle.jc_history.specs.Past.{Past}
use Rattle.jc_stripe.specs.declared.log.Log.{Log}
use Rattle.jc_stripe.specs.State.{Generation}

pub record Life : Type 0 where
  pub opening : List (Bytes × Bytes)
  pub ended : List Generation

abbrev pub noted_in : List (ByUse × Unit {0}) → List (Bytes × Bytes)
noted_in [] = []
noted_in (note ∷ notes) = note.0.list

abbrev pub ended_in : List (Log ByUse (Unit {0}) × Past) → List Generation
ended_in notes =
    map (λ (note : Log ByUse (Unit {0}) × Past). record { opening = noted_in note.0.items; history = note.1.events }) notes
