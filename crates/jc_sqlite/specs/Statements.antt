-- The statements on the table, and their results.
--     create_sql, count_sql, load_sql, write_sql, delete_sql    the statements that make the table, count its rows, look a key
--                           up, write an entry and delete the entry of a key
--     kept_sql              the statement that makes the table as another program keeps it, without IF NOT EXISTS
--     schema_sql            the statement that shows the text of the table or view with this name, and of triggers on it
--     entry_row, key_row    the row of parameters of an entry, and that of a key
--     ExecutesOnce          the statement ran with these parameters, or failed
--     IsOwnText, IsOwn      the text is that of the statement that makes the table; the only row that the schema shows has this
--                           text
--     TellsOwn              the answer tells whether the schema shows only this row; an error is the query's
--     IsCount               the number is that of the row's first column; an error is that of reading this column
--     Counts                the number is that of the row which the count shows; an error is the query's, or that of this row
--     IsValueColumn         the column is a value of a cache
--     row_error             the error of a row without a value: it has no column, or its first column has too many bytes, or is
--                           no blob
--     ReadsValue            the row's first column has these bytes; an error says why it has no value
--     IsInFirst             the value is that of the first row, or there is neither; an error says why the first row has no value
--     Loads                 the value is that of the first row which the query at this key shows; an error is the query's, or
--                           that of this row
--     LoadsInto             the value that was loaded at a key was put into the answers; an error is that of the load, with its
--                           key
--     LoadsAll              each key was loaded in this way, in their order; an error is that of the first load that failed,
--                           after which nothing was loaded
--     CommitsLoading        what the load of one of these keys commits
use Rattle.std.specs.Prelude.{◌≡◌, ◌≤◌, ◌⊎◌, ℕ, pos, Bool, false, IsTrue, List, [], ◌∷◌, length, Contains, Result, Ok, Err, Option}
use Rattle.std.specs.Prelude.{None, Some, codes}
use Rattle.jc_outside.specs.Answers.{AnswersByKey, answers_with_found}
use Rattle.jc_types.specs.declared.limits.TheConstants.{VALUE_MAX}
use Rattle.sqlite.specs.declared.types.Value.{Value}
use Rattle.sqlite.specs.declared.types.Value.TheVariants.{Int, Text, Blob}
use Rattle.sqlite.specs.declared.error.Error.{Error}
use Rattle.sqlite.specs.declared.error.Error.TheVariants.{SqliteFailure, InvalidColumnIndex, InvalidColumnType}
use Rattle.sqlite.specs.declared.error.ErrorCode.TheVariants.{TooBig}
use Rattle.sqlite.specs.Order.{Row, column}
use Rattle.sqlite.specs.Reading.{IsReadError}
use Rattle.sqlite.specs.State.{State, Executes, FailsToQuery, QueriesRow, Shown, CommitsShowing}
use Rattle.sqlite.specs.Store.{Ghosts}
use Rattle.sqlite.specs.Tree.{Trees}
use Rattle.sqlite.specs.Held.{Held, state}
use Rattle.sqlite.specs.Values.{type_of}
use Rattle.jc_sqlite.specs.declared.failure.Failure.{Failure}

abbrev pub create_sql : List ℕ
create_sql = codes "CREATE TABLE IF NOT EXISTS entry (key BLOB PRIMARY KEY NOT NULL, value BLOB NOT NULL) STRICT"

abbrev pub kept_sql : List ℕ
kept_sql = codes "CREATE TABLE entry (key BLOB PRIMARY KEY NOT NULL, value BLOB NOT NULL) STRICT"

abbrev pub schema_sql : List ℕ
schema_sql = codes "SELECT sql FROM sqlite_schema WHERE tbl_name = 'entry' AND type <> 'index'"

abbrev pub count_sql : List ℕ
count_sql = codes "SELECT count(*) FROM entry"

abbrev pub load_sql : List ℕ
load_sql = codes "SELECT value FROM entry WHERE key = ?1"

abbrev pub write_sql : List ℕ
write_sql = codes "INSERT INTO entry (key, value) VALUES (?1, ?2) ON CONFLICT (key) DO UPDATE SET value = excluded.value"

abbrev pub delete_sql : List ℕ
delete_sql = codes "DELETE FROM entry WHERE key = ?1"

abbrev pub entry_row : List ℕ × List ℕ → Row
entry_row entry = Blob entry.0 ∷ Blob entry.1 ∷ []

abbrev pub key_row : List ℕ → Row
key_row key = Blob key ∷ []

abbrev pub ExecutesOnce : List ℕ → Row → State → State → Result (Unit {0}) Error → Type 0
ExecutesOnce sql row old new (Ok done) = (count : ℕ) × Executes sql row old new (Ok count)
ExecutesOnce sql row old new (Err e) = Executes sql row old new (Err e)

abbrev pub IsOwnText : List ℕ → Type 0
IsOwnText text = (text ≡ create_sql) ⊎ (text ≡ kept_sql)

abbrev pub IsOwn : List Row → Type 0
IsOwn rows = (row : Row) × (text : List ℕ) × (rows ≡ row ∷ []) × (column row 0 ≡ Text text) × IsOwnText text

abbrev pub TellsOwn : State → State → Result Bool Error → Type 0
TellsOwn old new (Ok own) =
    (rows : List Row) × Shown schema_sql [] old new rows × (IsTrue own → IsOwn rows) × (own ≡ false → ¬ IsOwn rows)
TellsOwn old new (Err e) = FailsToQuery schema_sql [] old new e

abbrev pub IsCount : Row → Result ℕ Error → Type 0
IsCount row (Ok count) = column row 0 ≡ Int (pos count)
IsCount row (Err e) = IsReadError 0 (column row 0) e

abbrev pub Counts : State → State → Result ℕ Error → Type 0
Counts old new (Ok count) = (row : Row) × QueriesRow count_sql [] old new (Ok row) × IsCount row (Ok count)
Counts old new (Err e) =
    QueriesRow count_sql [] old new (Err e) ⊎ ((row : Row) × QueriesRow count_sql [] old new (Ok row) × IsCount row (Err e))

abbrev pub IsValueColumn : Value → Type 0
IsValueColumn it = (bytes : List ℕ) × (it ≡ Blob bytes) × (length bytes ≤ VALUE_MAX)

abbrev pub row_error : Row → Error
row_error [] = InvalidColumnIndex 0
row_error (Blob bytes ∷ more) = SqliteFailure TooBig
row_error (it ∷ more) = InvalidColumnType 0 (type_of it)

abbrev pub ReadsValue : Row → Result (List ℕ) Error → Type 0
ReadsValue row (Ok bytes) = column row 0 ≡ Blob bytes
ReadsValue row (Err e) = (¬ IsValueColumn (column row 0)) × (e ≡ row_error row)

abbrev pub IsInFirst : List Row → Result (Option (List ℕ)) Error → Type 0
IsInFirst [] (Ok found) = found ≡ None
IsInFirst [] (Err e) = ⊥
IsInFirst (row ∷ rows) (Ok found) = (bytes : List ℕ) × (found ≡ Some bytes) × (column row 0 ≡ Blob bytes)
IsInFirst (row ∷ rows) (Err e) = ReadsValue row (Err e)

abbrev pub Loads : List ℕ → State → State → Result (Option (List ℕ)) Error → Type 0
Loads key old new (Ok found) = (rows : List Row) × Shown load_sql (key_row key) old new rows × IsInFirst rows (Ok found)
Loads key old new (Err e) =
    FailsToQuery load_sql (key_row key) old new e
    ⊎ ((rows : List Row) × Shown load_sql (key_row key) old new rows × IsInFirst rows (Err e))

abbrev pub LoadsInto : List ℕ → State → State → AnswersByKey → AnswersByKey → Result (Unit {0}) Failure → Type 0
LoadsInto key old new before after (Ok done) =
    (found : Option (List ℕ)) × Loads key old new (Ok found) × (after ≡ answers_with_found before key found)
LoadsInto key old new before after (Err failure) =
    (failure.key ≡ Some key) × Loads key old new (Err failure.error) × (after ≡ before)

abbrev pub LoadsAll : {S : Type 0} → Ghosts S → List (List ℕ) → Held S → Held S → AnswersByKey → AnswersByKey
    → Result (Unit {0}) Failure → Type 0
LoadsAll {S = S} g [] old new before after result = (result ≡ Ok tt) × (new ≡ old) × (after ≡ before)
LoadsAll {S = S} g (key ∷ keys) old new before after result =
    ((failure : Failure) × (result ≡ Err failure) × LoadsInto key (state g old) (state g new) before after (Err failure))
    ⊎ ((mid : Held S) × (between : AnswersByKey) × LoadsInto key (state g old) (state g mid) before between (Ok tt)
    × LoadsAll g keys mid new between after result)

abbrev pub CommitsLoading : {S : Type 0} → Ghosts S → List (List ℕ) → Trees → Type 0
CommitsLoading {S = S} g keys db =
    (key : List ℕ) × (before : Held S) × Contains keys key × CommitsShowing load_sql (key_row key) (state g before) db
