-- The memory that a round takes before its first phase. No contract of a public function cites this.
--     IsRoundRoomFor   room for this number of keys, with nothing in it yet, in a cache that writes through or doesn't
--     LeavesBatches    the batches that a round leaves for the next one: its own, empty, without write-through
--     IsNextRoom       the memory of the next round, of what a round has left, once its answers were taken: there is some without
--                      write-through
--     IsMemoryFor      the memory of a whole call for these keys, in a cache of this shape: no key was started
use Rattle.std.specs.Prelude.{◌≡◌, ◌≤◌, ℕ, List, [], length, Bool, true, false, Option, None, Some, vec_capacity}
use Rattle.indexmap.specs.IndexMap.{spare}
use Rattle.jc_types.specs.declared.config.Config.{Config}
use Rattle.jc_model.specs.Cache.{Bytes}
use Rattle.jc_model.specs.declared.event.Op.{Op}
use Rattle.jc_rounds.specs.declared.answers.RoundAnswers.{RoundAnswers}
use Rattle.jc_rounds.specs.Answers.{done_room}
use Rattle.jc_rounds.specs.OutsideCalls.{no_writes}
use Rattle.jc_rounds.specs.Targets.{ops_of}
use Rattle.jc_rounds.specs.Underway.{IsNew}
use Rattle.jc_invoke.specs.declared.invoking.Memory.{Memory}
use Rattle.jc_invoke.specs.declared.room.Batches.{Batches}
use Rattle.jc_invoke.specs.declared.room.RoundRoom.{RoundRoom}

pub record IsRoundRoomFor (keys : ℕ) (through : Bool) (room : RoundRoom) : Type 0 where
  pub through_is : room.through ≡ through
  pub no_runs : room.runs.items ≡ []
  pub runs_room : keys ≤ vec_capacity room.runs
  pub writes_are : room.writes ≡ no_writes false keys
  pub deletes_are : room.deletes ≡ no_writes true keys

abbrev pub LeavesBatches : RoundRoom → Option Batches → Type 0
LeavesBatches room None = room.through ≡ true
LeavesBatches room (Some rest) = (room.through ≡ false) × (rest.writes ≡ room.writes) × (rest.deletes ≡ room.deletes)

abbrev pub IsNextRoom : Option Batches → RoundAnswers → Option RoundRoom → Type 0
IsNextRoom None answers None = Unit {0}
IsNextRoom None answers (Some room) = ⊥
IsNextRoom (Some rest) answers None = ⊥
IsNextRoom (Some rest) answers (Some room) =
    (keys : ℕ) → keys ≤ done_room answers → rest.writes ≡ no_writes false keys → rest.deletes ≡ no_writes true keys
    → IsRoundRoomFor keys false room

pub record IsMemoryFor (targets : List (Bytes × Op)) (config : Config) (memory : Memory) : Type 0 where
  pub no_results : memory.results.entries ≡ []
  pub results_room : length targets ≤ spare memory.results
  pub targets_are : ops_of memory.call.targets.now ≡ targets
  pub call_is : IsNew memory.call.targets.now config.stripes memory.call
  pub room_is : IsRoundRoomFor memory.call.most config.write_through memory.room
