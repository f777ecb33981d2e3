-- One call of a loader or a writer, and its answer.
--     KeepsType         the boxed object afterwards is of the type that it had before, or there is none, before and after
--     LoadRelation      the relation of a loader's call: the loader before, the key, its return, its state afterwards
--     load_answer       the answer of a loader, by its return
--     LoadsOnce         the loader, if there is one, was called once, with this key and this answer; without one nothing is found
--     WriteRelation     the relation of a writer's call: the writer before, the key, the change, its return, its state afterwards
--     write_answer      the report of a writer, by its return
--     WritesOnce        the writer, if there is one, was called once, with this key and change, and reported this
use Rattle.std.specs.Prelude.{◌≡◌, ℕ, List, Option, None, Some, Result, Ok, Err, option_map}
use Rattle.std.specs.declared.dyn_box.DynBox.{DynBox}
use Rattle.jc_model.specs.Cache.{Bytes}
use Rattle.jc_model.specs.declared.event.Change.{Change}
use Rattle.jc_model.specs.declared.event.LoadAnswer.{LoadAnswer}
use Rattle.jc_model.specs.declared.event.LoadAnswer.TheVariants as load
use Rattle.jc_model.specs.declared.event.WriteAnswer.{WriteAnswer}
use Rattle.jc_model.specs.declared.event.WriteAnswer.TheVariants as write

-- 1. Boxes.

-- so the relation that its trait states of a second call is that of the same type
abbrev pub KeepsType : {I Z : Type 0} {D : I → Type 0} → Option (DynBox I Z D) → Option (DynBox I Z D) → Type 0
KeepsType old new = option_map (λ b. b.vtable) new ≡ option_map (λ b. b.vtable) old

-- 2. Loaders.

abbrev pub LoadRelation : Type 0 → Type 1
LoadRelation L = L → Bytes → Result (Option Bytes) ℕ → List ℕ → Type 0

abbrev pub load_answer : Result (Option Bytes) ℕ → LoadAnswer
load_answer (Ok (Some value)) = load.Found value
load_answer (Ok None) = load.Nothing
load_answer (Err code) = load.Failed code

abbrev pub LoadsOnce : {L : Type 0} → LoadRelation L → (L → List ℕ) → Option L → Bytes → LoadAnswer → Option L → Type 0
LoadsOnce loads state None key answer None = answer ≡ load.Nothing
LoadsOnce loads state None key answer (Some new) = ⊥
LoadsOnce loads state (Some old) key answer None = ⊥
LoadsOnce loads state (Some old) key answer (Some new) =
    (returned : Result (Option Bytes) ℕ) × (answer ≡ load_answer returned) × loads old key returned (state new)

-- 3. Writers.

abbrev pub WriteRelation : Type 0 → Type 1
WriteRelation W = W → Bytes → Change → Result (Unit {0}) ℕ → List ℕ → Type 0

abbrev pub write_answer : Result (Unit {0}) ℕ → WriteAnswer
write_answer (Ok done) = write.Done
write_answer (Err code) = write.Failed code

abbrev pub WritesOnce : {W : Type 0} → WriteRelation W → (W → List ℕ) → Option W → Bytes → Option Change → WriteAnswer
    → Option W → Type 0
WritesOnce writes state (Some old) key (Some change) answer (Some new) =
    (returned : Result (Unit {0}) ℕ) × (answer ≡ write_answer returned) × writes old key change returned (state new)
WritesOnce writes state (Some old) key (Some change) answer None = ⊥
WritesOnce writes state (Some old) key None answer new = ⊥
WritesOnce writes state None key change answer new = ⊥
