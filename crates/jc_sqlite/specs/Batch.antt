-- Batches: a statement for each row of parameters, in one transaction.
--     in_transaction    the connection, in an open transaction
--     RanEach           the statement ran once for each row of parameters, in their order, inside one transaction
--     RanAll            a whole batch ran in this way, from the connection before it, and left this database
--     FailsAtRow        the statement failed at one of the rows, after it had run for those before it
--     FailsAtEnd        the statement ran for all rows, and the commit failed
--     FailsInBatch      the cause of a failed batch: one of these two, or a transaction was open before it
--     RunsAsOne         a batch ran in one transaction: all of it or none, and no transaction is left open by it. If a failure of
--                       the disk shut the connection, or if the machine stopped at any moment, all or none of it is found when the
--                       file is opened again
use Rattle.std.specs.Prelude.{◌≡◌, ◌⊎◌, ℕ, true, List, [], ◌∷◌, ◌++◌, Result, Ok, Err, IsTrue, OnOk, OnErr, IfErr}
use Rattle.sqlite.specs.declared.error.Error.{Error}
use Rattle.sqlite.specs.declared.error.Error.TheVariants.{SqliteFailure}
use Rattle.sqlite.specs.declared.error.ErrorCode.TheVariants.{TransactionState}
use Rattle.sqlite.specs.Order.{Row}
use Rattle.sqlite.specs.Store.{Ghosts}
use Rattle.sqlite.specs.Effect.{Database}
use Rattle.sqlite.specs.State.{HasCleanDisk, Survives, Executes, ExecutesInside}
use Rattle.sqlite.specs.Steps.{FailsToCommit}
use Rattle.sqlite.specs.Held.{Held, state}

abbrev pub in_transaction : {S : Type 0} → Held S → Held S
in_transaction old = record old { in_transaction = true }

abbrev pub RanEach : {S : Type 0} → Ghosts S → List ℕ → List Row → Held S → Held S → Type 0
RanEach {S = S} g sql [] old new = new ≡ old
RanEach {S = S} g sql (row ∷ rows) old new =
    (mid : Held S) × (count : ℕ) × Executes sql row (state g old) (state g mid) (Ok count) × RanEach g sql rows mid new

pub record RanAll {S : Type 0} (g : Ghosts S) (sql : List ℕ) (rows : List Row) (old : Held S) (db : Database) : Type 0 where
  pub last : Held S
  pub ran : RanEach g sql rows (in_transaction old) last
  pub is : db ≡ (state g last).now

pub record FailsAtRow {S : Type 0} (g : Ghosts S) (sql : List ℕ) (rows : List Row) (old : Held S) (e : Error) : Type 0 where
  pub before : List Row
  pub row : Row
  pub after : List Row
  pub split : rows ≡ before ++ row ∷ after
  pub reached : Held S
  pub next : Held S
  pub ran : RanEach g sql before (in_transaction old) reached
  pub fails : ExecutesInside 0 sql row (state g reached) (state g next) (Err e)

pub record FailsAtEnd {S : Type 0} (g : Ghosts S) (sql : List ℕ) (rows : List Row) (old new : Held S) (e : Error) : Type 0 where
  pub last : Held S
  pub ran : RanEach g sql rows (in_transaction old) last
  pub fails : FailsToCommit (state g last) (state g new) e

abbrev pub FailsInBatch : {S : Type 0} → Ghosts S → List ℕ → List Row → Held S → Held S → Error → Type 0
FailsInBatch g sql rows old new e =
    ((e ≡ SqliteFailure TransactionState) × (old.in_transaction ≡ true))
    ⊎ (FailsAtRow g sql rows old e ⊎ FailsAtEnd g sql rows old new e)

pub record RunsAsOne {S : Type 0} (g : Ghosts S) (sql : List ℕ) (rows : List Row) (old new : Held S)
    (result : Result (Unit {0}) Error) : Type 0 where
  -- after a success the last commit has all of it
  pub all : HasCleanDisk (state g new) → OnOk result (RanAll g sql rows old (state g new).committed)
  -- after a failure, if the connection is still open, neither the table nor its last commit has changed
  pub none : HasCleanDisk (state g new) → IsTrue (state g new).is_open
      → OnErr result (((state g new).now ≡ (state g old).now) × ((state g new).committed ≡ (state g old).committed))
  pub cause : HasCleanDisk (state g new) → IfErr result (FailsInBatch g sql rows old new)
  -- the batch's own transaction has ended, and one that was open before still is
  pub mode : new.in_transaction ≡ old.in_transaction
  pub crash : Survives (state g old) (state g new) (λ trees. (db : Database) × RanAll g sql rows old db × (trees ≡ db.trees))
