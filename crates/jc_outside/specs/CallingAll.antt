-- One call of a loader or a writer for many keys, and its answer for each of them.
--     LoadAllRelation      the relation of a loader's call: the loader before, the keys, whether it fails, the answers that it
--                          puts, its state afterwards
--     found_or_nothing     a value that was found, or nothing
--     load_all_answer      the answer for a key: the value that was put there last, or nothing; after a failed call its failure
--     LoadsKeys            the loader, if there is one, was called once, with these keys; it returned this, and put these
--                          answers. Without one the call succeeds, and no answer is put
--     LoadsAllOnce         a loader was called once, with these keys: its answers, or its failure, give the answer for each key
--     WriteAllRelation     the relation of a writer's call: the writer before, the entries, its return, the entries that it
--                          leaves, its state afterwards
--     DeleteAllRelation    the relation of a call that deletes keys
--     returned_fault       the code of the fault that a writer returned, if any
--     WritesEntries        the writer, if there is one, was called once, with exactly these entries; it returned this, and left
--                          these
--     DeletesKeys          the same for keys to be deleted
--     WritesAllOnce        a writer was called once, for exactly this batch: the keys that it left and its fault give the outcome
--                          of each key
--     KeepsLoadRoom        a loader's call has removed the asks and the batch's keys, and there is memory for as many as before
--     loads_done           the done values of asks, by the answer for each key
--     writes_done          the done values of asks of a writer
--     asked_changes        each ask's key, with the change that it asks for
use Rattle.std.specs.Prelude.{◌≡◌, ◌+◌, ℕ, List, [], length, vec_capacity, Option, None, Some, Result, Ok, Err, map}
use Rattle.std.specs.Global.{Vec}
use Rattle.std.specs.Map.{keys_of}
use Rattle.jc_model.specs.Cache.{Bytes}
use Rattle.jc_model.specs.Batches.{answer_in_batch}
use Rattle.jc_model.specs.declared.event.Change.{Change}
use Rattle.jc_model.specs.declared.event.LoadAnswer.{LoadAnswer}
use Rattle.jc_model.specs.declared.event.LoadAnswer.TheVariants as load
use Rattle.jc_model.specs.declared.event.WriteAnswer.{WriteAnswer}
use Rattle.jc_batch.specs.Batch.{BatchState, empty_batch}
use Rattle.jc_batch.specs.declared.batch.Batch.{Batch}
use Rattle.jc_batch.specs.declared.batch.Batch.TheVariants.{Writes, Deletes}
use Rattle.jc_batch.specs.Answers.{AnswersByKey, no_answers, answer_of}
use Rattle.jc_outside.specs.Done.{LoadResult, WriteResult}
use Rattle.jc_outside.specs.declared.done.Origin.TheVariants.{Live}

-- 1. Loaders.

abbrev pub LoadAllRelation : Type 0 → Type 1
LoadAllRelation L = L → List Bytes → Result (Unit {0}) ℕ → AnswersByKey → List ℕ → Type 0

abbrev pub found_or_nothing : Option Bytes → LoadAnswer
found_or_nothing (Some value) = load.Found value
found_or_nothing None = load.Nothing

abbrev pub load_all_answer : Result (Unit {0}) ℕ → AnswersByKey → Bytes → LoadAnswer
load_all_answer (Ok done) answers key = found_or_nothing (answer_of answers key)
load_all_answer (Err code) answers key = load.Failed code

abbrev pub LoadsKeys : {L : Type 0} → LoadAllRelation L → (L → List ℕ) → Option L → List Bytes → Result (Unit {0}) ℕ
    → AnswersByKey → Option L → Type 0
LoadsKeys loads_all state None keys returned answers None = (returned ≡ Ok tt) × (answers ≡ no_answers keys)
LoadsKeys loads_all state None keys returned answers (Some new) = ⊥
LoadsKeys loads_all state (Some old) keys returned answers None = ⊥
LoadsKeys loads_all state (Some old) keys returned answers (Some new) = loads_all old keys returned answers (state new)

abbrev pub LoadsAllOnce : {L : Type 0} → LoadAllRelation L → (L → List ℕ) → Option L → List Bytes → (Bytes → LoadAnswer)
    → Option L → Type 0
LoadsAllOnce loads_all state old keys said new =
    (returned : Result (Unit {0}) ℕ) × (answers : AnswersByKey) × ((key : Bytes) → said key ≡ load_all_answer returned answers key)
    × LoadsKeys loads_all state old keys returned answers new

pub record KeepsLoadRoom {A D : Type 0} (asks : Vec A) (asks' : Vec A) (batch : BatchState Bytes) (batch' : BatchState Bytes)
    (done : Vec D) (done' : Vec D) : Type 0 where
  pub no_asks : asks'.items ≡ []
  pub asks_room : vec_capacity asks' ≡ vec_capacity asks
  pub batch_is : batch' ≡ empty_batch (length batch.items + batch.room)
  pub done_room : vec_capacity done' ≡ vec_capacity done

abbrev pub loads_done : {A : Type 0} → (A → Bytes) → (Bytes → LoadAnswer) → List A → List (LoadResult A)
loads_done key_of said asks = map (λ ask. record { ask = ask; origin = Live; answer = said (key_of ask) }) asks

-- 2. Writers.

abbrev pub WriteAllRelation : Type 0 → Type 1
WriteAllRelation W = W → List (Bytes × Bytes) → Result (Unit {0}) ℕ → List (Bytes × Bytes) → List ℕ → Type 0

abbrev pub DeleteAllRelation : Type 0 → Type 1
DeleteAllRelation W = W → List Bytes → Result (Unit {0}) ℕ → List Bytes → List ℕ → Type 0

abbrev pub returned_fault : Result (Unit {0}) ℕ → Option ℕ
returned_fault (Ok done) = None
returned_fault (Err code) = Some code

abbrev pub WritesEntries : {W : Type 0} → WriteAllRelation W → (W → List ℕ) → Option W → List (Bytes × Bytes) → Result (Unit {0}) ℕ
    → List (Bytes × Bytes) → Option W → Type 0
WritesEntries writes_all state (Some old) entries returned left (Some new) = writes_all old entries returned left (state new)
WritesEntries writes_all state (Some old) entries returned left None = ⊥
WritesEntries writes_all state None entries returned left new = ⊥

abbrev pub DeletesKeys : {W : Type 0} → DeleteAllRelation W → (W → List ℕ) → Option W → List Bytes → Result (Unit {0}) ℕ
    → List Bytes → Option W → Type 0
DeletesKeys deletes_all state (Some old) keys returned left (Some new) = deletes_all old keys returned left (state new)
DeletesKeys deletes_all state (Some old) keys returned left None = ⊥
DeletesKeys deletes_all state None keys returned left new = ⊥

abbrev pub WritesAllOnce : {W : Type 0} → WriteAllRelation W → DeleteAllRelation W → (W → List ℕ) → Option W → Batch
    → Result (Unit {0}) ℕ → (Bytes → WriteAnswer) → Option W → Type 0
WritesAllOnce writes_all deletes_all state old (Writes batch) returned said new =
    (left : List (Bytes × Bytes)) × ((key : Bytes) → said key ≡ answer_in_batch (keys_of left) (returned_fault returned) key)
    × WritesEntries writes_all state old batch.items returned left new
WritesAllOnce writes_all deletes_all state old (Deletes batch) returned said new =
    (left : List Bytes) × ((key : Bytes) → said key ≡ answer_in_batch left (returned_fault returned) key)
    × DeletesKeys deletes_all state old batch.items returned left new

abbrev pub writes_done : {A : Type 0} → (A → Bytes) → (Bytes → WriteAnswer) → List A → List (WriteResult A)
writes_done key_of said asks = map (λ ask. record { ask = ask; origin = Live; answer = said (key_of ask) }) asks

abbrev pub asked_changes : {A : Type 0} → (A → Bytes) → (A → Option Change) → List A → List (Bytes × Option Change)
asked_changes key_of change_of asks = map (λ ask. (key_of ask, change_of ask)) asks
