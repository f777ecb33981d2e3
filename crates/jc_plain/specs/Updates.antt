-- The effect on an entry of a processor that sees the value alone. No contract of a public function cites this.
--     change_to       the call that sets the entry to a value, or removes it
--     Changes         the calls after `getValue`: none if the value that is left is the one that was found, otherwise the change
--                     to it
--     ChangesAfter    the same after a success; after a failure there are none
--     UpdatesEntry    the processor first gets the value. If that fails, the whole fails with its code, and the update isn't
--                     asked; otherwise the update is asked once, with the value that was found, and its answer is that of the
--                     whole
use Rattle.std.specs.Prelude.{◌≡◌, ◌≢◌, ◌⊎◌, ℕ, List, [], ◌∷◌, Result, Ok, Err, Option, None, Some}
use Rattle.jc_model.specs.Cache.{Bytes}
use Rattle.jc_model.specs.declared.processor.EntryCall.{EntryCall}
use Rattle.jc_model.specs.declared.processor.EntryCall.TheVariants.{GetValue, SetValue, Remove}
use Rattle.jc_model.specs.declared.processor.EntryAnswer.{EntryAnswer}
use Rattle.jc_model.specs.declared.processor.EntryAnswer.TheVariants.{Done}
use Rattle.jc_mutentry.specs.Entries.{get_answer}

abbrev pub change_to : Option Bytes → EntryCall
change_to None = Remove
change_to (Some value) = SetValue value

abbrev pub Changes : Option Bytes → Option Bytes → List EntryCall → List EntryAnswer → Type 0
Changes found left calls answers =
    ((left ≡ found) × (calls ≡ []) × (answers ≡ [])) ⊎ ((left ≢ found) × (calls ≡ change_to left ∷ []) × (answers ≡ Done ∷ []))

abbrev pub ChangesAfter : Result (Option Bytes) ℕ → Option Bytes → Option Bytes → List EntryCall → List EntryAnswer → Type 0
ChangesAfter (Ok answer) found left calls answers = Changes found left calls answers
ChangesAfter (Err code) found left calls answers = (calls ≡ []) × (answers ≡ [])

abbrev pub UpdatesEntry : {U : Type 0}
    → (U → Bytes → Option Bytes → List Bytes → Result (Option Bytes) ℕ → Option Bytes → List ℕ → Type 0) → (U → List ℕ)
    → U → Bytes → List Bytes → List EntryCall → List EntryAnswer → Result (Option Bytes) ℕ → List ℕ → Type 0
UpdatesEntry updates state u key args calls answers answer after =
    ((code : ℕ) × (calls ≡ GetValue ∷ []) × (answers ≡ get_answer (Err code) ∷ []) × (answer ≡ Err code) × (after ≡ state u))
    ⊎ ((found : Option Bytes) × (left : Option Bytes) × (more : List EntryCall) × (done : List EntryAnswer)
    × (calls ≡ GetValue ∷ more) × (answers ≡ get_answer (Ok found) ∷ done) × updates u key found args answer left after
    × ChangesAfter answer found left more done)
