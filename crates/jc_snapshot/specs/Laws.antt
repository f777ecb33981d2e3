-- Laws of snapshots.
--     SnapshotsTell     equal snapshots over one state of the tables are of one essence
--     SnapshotsStay     a snapshot stays one of its essence while the tables grow
--     HasOneSnapshot    over these tables an essence has one snapshot
use Rattle.std.specs.Prelude.{◌≡◌, ℕ, List}
use Rattle.jc_world.specs.Essence.{WorldEssence}
use Rattle.jc_snapshot.specs.declared.seen.Seen.{Seen}
use Rattle.jc_snapshot.specs.Snapshot.{IsSnapshot, GrowsTo}

abbrev pub SnapshotsTell : Type 0
SnapshotsTell =
    (seen : Seen) (e f : WorldEssence) (words : List ℕ) → IsSnapshot e seen words → IsSnapshot f seen words → e ≡ f

abbrev pub SnapshotsStay : Type 0
SnapshotsStay =
    (old new : Seen) (e : WorldEssence) (words : List ℕ) → GrowsTo old new → IsSnapshot e old words → IsSnapshot e new words

abbrev pub HasOneSnapshot : Seen → Type 0
HasOneSnapshot seen =
    (e : WorldEssence) (words others : List ℕ) → IsSnapshot e seen words → IsSnapshot e seen others → words ≡ others
