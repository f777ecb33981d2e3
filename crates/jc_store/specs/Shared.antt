-- What is read of a store behind a lock, and the relations of its loader and its writer. They don't name the store: contracts
-- can't know its contents at the moment of a call.
--     AreOfAStore           these are the entries of one store, each once, in the byte order of the keys
--     LoadsFromAStore       the answer is what some store has at the key; it isn't a failure
--     LoadsAllFromAStore    the answers are what one store has at all the keys; it isn't a failure
--     NO_MEMORY             the code of a writer whose store fails to allocate
--     store_report          the report of a writer on a change
--     ReportsChange         a write succeeds, or an allocation for it failed; a delete succeeds
--     WritesAllToAStore     a prefix of the entries is taken out: all of them, or an allocation of the store failed
--     DeletesAll            it succeeds, and all keys are taken out
use Rattle.std.specs.Prelude.{◌≡◌, ◌++◌, ◌<◌, ◌⊎◌, ℕ, List, [], length, Option, Result, Ok, Err}
use Rattle.std.specs.FinMap as map
use Rattle.jc_model.specs.Cache.{Bytes, Cache, entry_at}
use Rattle.jc_model.specs.declared.event.Change.{Change}
use Rattle.jc_model.specs.declared.event.Change.TheVariants.{Write, Delete}
use Rattle.jc_outside.specs.Answers.{AnswersByKey}
use Rattle.jc_store.specs.Store.{answers_from}

abbrev pub AreOfAStore : List (Bytes × Bytes) → Type 0
AreOfAStore entries = (store : Cache) × (entries ≡ map.entries store)

-- 1. Loaders.

abbrev pub LoadsFromAStore : Bytes → Result (Option Bytes) ℕ → Type 0
LoadsFromAStore key answer = (store : Cache) × (answer ≡ Ok (entry_at store key))

abbrev pub LoadsAllFromAStore : List Bytes → Result (Unit {0}) ℕ → AnswersByKey → Type 0
LoadsAllFromAStore keys answer answers = (store : Cache) × (answer ≡ Ok tt) × (answers ≡ answers_from store keys)

-- 2. Writers.

abbrev pub NO_MEMORY : ℕ
NO_MEMORY = 999999999

abbrev pub store_report : {E : Type 0} → Result (Unit {0}) E → Result (Unit {0}) ℕ
store_report (Ok done) = Ok tt
store_report (Err failed) = Err NO_MEMORY

abbrev pub ReportsChange : Change → Result (Unit {0}) ℕ → Type 0
ReportsChange (Write value) answer = (answer ≡ Ok tt) ⊎ (answer ≡ Err NO_MEMORY)
ReportsChange Delete answer = answer ≡ Ok tt

abbrev pub WritesAllToAStore : List (Bytes × Bytes) → Result (Unit {0}) ℕ → List (Bytes × Bytes) → Type 0
WritesAllToAStore entries (Ok done) left = left ≡ []
WritesAllToAStore entries (Err code) left =
    (code ≡ NO_MEMORY) × (0 < length left) × ((written : List (Bytes × Bytes)) × (entries ≡ written ++ left))

abbrev pub DeletesAll : Result (Unit {0}) ℕ → List Bytes → Type 0
DeletesAll answer left = (answer ≡ Ok tt) × (left ≡ [])
