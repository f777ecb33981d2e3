-- The collection that a write leaves, and the failure that is kept. No contract of a public function cites this.
--     LeavesAllOrNone    after a success nothing is left in a collection that was to be written or deleted, and after a failure
--                        all of it is; a failure's code isn't 0
--     says_closed        the error is that an earlier failure has shut the connection
--     failure_to_keep    the failure that is kept: the new one, unless it only says that an earlier one has shut the connection
--     IsShut             the answer is a failure at this key, which says that the file isn't open
--     IsShutAtFirst      the answer of a load of many keys is such a failure at the first of them
--     KeepsAnswer        the call answers as this relation says: with a value, and then the kept failure stays; or with a failure,
--                        which it keeps
--     AnswersOver        without a connection the call answers in the first way, and there is still none; a connection that is
--                        there stays there, and the call answers in the second way
--     IsAt               the answer is one that this relation allows of the connection before and after it; a failure has this key
--     IsAtOneOf          the same of a load of many keys; a failure has one of them
--     OnCleanDisk        this holds of a connection to a file, as long as the disk has returned what was written to it
--     LoadsFromFile      the same of a load of many keys
use Rattle.std.specs.Prelude.{◌≡◌, ◌<◌, ℕ, Bool, true, false, if◌then◌else◌, List, [], ◌∷◌, Contains, Result, Ok, Err, IfErr}
use Rattle.std.specs.Prelude.{Option, None, Some, IsSomeAnd}
use Rattle.sqlite_disk.specs.declared.Disk as disk
use Rattle.sqlite_store.specs.declared.store.FileStore.{FileStore}
use Rattle.sqlite.specs.State.{State, HasCleanDisk}
use Rattle.sqlite.specs.Held.{Held}
use Rattle.sqlite.specs.Files.{file_state, over_files}
use Rattle.sqlite.specs.declared.error.ErrorCode.TheVariants.{Closed}
use Rattle.sqlite.specs.declared.error.Error.{Error}
use Rattle.sqlite.specs.declared.error.Error.TheVariants.{SqliteFailure}
use Rattle.jc_outside.specs.Answers.{AnswersByKey}
use Rattle.jc_sqlite.specs.Statements.{LoadsAll}
use Rattle.jc_sqlite.specs.declared.failure.Failure.{Failure}

abbrev pub LeavesAllOrNone : {A : Type 0} → List A → Result (Unit {0}) ℕ → List A → Type 0
LeavesAllOrNone given (Ok done) left = left ≡ []
LeavesAllOrNone given (Err code) left = (left ≡ given) × (0 < code)

abbrev pub says_closed : Error → Bool
says_closed (SqliteFailure Closed) = true
says_closed _ = false

abbrev pub failure_to_keep : Option Failure → Failure → Failure
failure_to_keep None failure = failure
failure_to_keep (Some first) failure = if says_closed failure.error then first else failure

abbrev pub IsShut : {T : Type 0} → Option (List ℕ) → Result T Failure → Type 0
IsShut key answer = answer ≡ Err (record { key = key; error = SqliteFailure Closed })

abbrev pub IsShutAtFirst : List (List ℕ) → Result (Unit {0}) Failure → Type 0
IsShutAtFirst [] answer = answer ≡ Ok tt
IsShutAtFirst (key ∷ keys) answer = IsShut (Some key) answer

abbrev pub KeepsAnswer : {T : Type 0} → (Result T Failure → Type 0) → Option Failure → Result T ℕ → Option Failure → Type 0
KeepsAnswer IsAnswer before (Ok value) after = IsAnswer (Ok value) × (after ≡ before)
KeepsAnswer IsAnswer before (Err code) after =
    (failure : Failure) × IsAnswer (Err failure) × (after ≡ Some (failure_to_keep before failure))

abbrev pub AnswersOver : {C T : Type 0} → (Result T Failure → Type 0) → (C → C → Result T Failure → Type 0)
    → Option C → Option Failure → Result T ℕ → Option C → Option Failure → Type 0
AnswersOver shut lent None before result new after = KeepsAnswer shut before result after × (new ≡ None)
AnswersOver shut lent (Some old) before result None after = ⊥
AnswersOver shut lent (Some old) before result (Some new) after = KeepsAnswer (lent old new) before result after

abbrev pub IsAt : {C T : Type 0} → Option (List ℕ) → (C → C → Result T Error → Type 0) → C → C → Result T Failure → Type 0
IsAt key answers old new (Ok value) = answers old new (Ok value)
IsAt key answers old new (Err failure) = (failure.key ≡ key) × answers old new (Err failure.error)

abbrev pub IsAtOneOf : {C : Type 0} → List (List ℕ) → (C → C → Result (Unit {0}) Failure → Type 0)
    → C → C → Result (Unit {0}) Failure → Type 0
IsAtOneOf keys answers old new answer = IfErr answer (λ failure. IsSomeAnd failure.key (Contains keys)) × answers old new answer

module _ {D : Type 0} {g : disk.Ghosts D} where
  abbrev pub OnCleanDisk : {T : Type 0} → (State → State → Result T Error → Type 0)
      → Held (FileStore D g) → Held (FileStore D g) → Result T Error → Type 0
  OnCleanDisk answers old new answer = HasCleanDisk (file_state new) → answers (file_state old) (file_state new) answer

  abbrev pub LoadsFromFile : List (List ℕ) → AnswersByKey → AnswersByKey
      → Held (FileStore D g) → Held (FileStore D g) → Result (Unit {0}) Failure → Type 0
  LoadsFromFile keys before after old new answer =
      HasCleanDisk (file_state new) → LoadsAll over_files keys old new before after answer
