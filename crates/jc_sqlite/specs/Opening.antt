-- Opening a file with its table. No contract of a public function cites this.
--     HasOwn          this connection has shown that `entry` is the table of keys and values
--     HasOwnTable     the same for a connection to a file, as long as the disk has returned what was written to it
--     OpensInTurns    it was tried until it wasn't locked, at most `retries` times again, with a pause between two tries, and the
--                     answer is that of the last try
use Rattle.std.specs.Prelude.{◌≢◌, ◌⊎◌, ℕ, zero, suc, true, Result, Ok, Err}
use Rattle.sqlite_disk.specs.declared.Disk as disk
use Rattle.sqlite_store.specs.declared.store.FileStore.{FileStore}
use Rattle.sqlite.specs.Store.{Ghosts}
use Rattle.sqlite.specs.State.{HasCleanDisk}
use Rattle.sqlite.specs.Held.{Held, state}
use Rattle.sqlite.specs.Files.{file_state, over_files}
use Rattle.jc_sqlite.specs.Statements.{TellsOwn}
use Rattle.jc_sqlite.specs.declared.failure.OpenCause.{OpenCause}
use Rattle.jc_sqlite.specs.declared.failure.OpenCause.TheVariants.{Locked}

abbrev pub HasOwn : {S : Type 0} → Ghosts S → Held S → Type 0
HasOwn {S = S} g c = (before : Held S) × TellsOwn (state g before) (state g c) (Ok true)

abbrev pub HasOwnTable : {D : Type 0} {g : disk.Ghosts D} → Held (FileStore D g) → Type 0
HasOwnTable c = HasCleanDisk (file_state c) → HasOwn over_files c

abbrev pub OpensInTurns : {O T : Type 0} → (O → Result T OpenCause → O → Type 0) → (O → O → Type 0) → ℕ → O → Result T OpenCause
    → O → Type 0
OpensInTurns {O = O} opens pauses zero old answer new = opens old answer new
OpensInTurns {O = O} opens pauses (suc retries) old answer new =
    (opens old answer new × (answer ≢ Err Locked))
    ⊎ ((found : O) × (after : O) × opens old (Err Locked) found × pauses found after
    × OpensInTurns opens pauses retries after answer new)
