-- One call of the loader, or of the writer for a batch of either kind.
--     writes-batch, deletes-batch, loads-batch      what is called on the hands' own object is called for the batch
--     written-keys, deleted-keys                    the asks of a batch have its keys
--     reported                                      the fault is the code that was returned
--     keeps_type                                    the object keeps its type
use Rattle.std.proofs.Common.{◌≡◌, ◌++◌, ℕ, List, Option, Some, Result, map, refl, sym, ap, subst, ◌∙◌}
use Rattle.std.specs.Map.{keys_of}
use Rattle.std.proofs.lemmas.List.{map-id}
use Rattle.std.proofs.lemmas.Simd.{map-map}
use Rattle.jc_model.specs.Cache.{Bytes}
use Rattle.jc_model.specs.Batches.{answer_in_batch}
use Rattle.jc_model.specs.declared.event.Change.{Change}
use Rattle.jc_model.specs.declared.event.Change.TheVariants.{Write, Delete}
use Rattle.jc_batch.specs.Batch.{BatchState}
use Rattle.jc_batch.specs.Changes.{changes_of}
use Rattle.jc_batch.specs.declared.batch.Batch.{Batch}
use Rattle.jc_batch.specs.declared.batch.Batch.TheVariants.{Writes, Deletes}
use Rattle.jc_outside.specs.CallingAll.{LoadAllRelation, LoadsKeys, LoadsAllOnce, load_all_answer, WriteAllRelation, DeleteAllRelation, WritesEntries, DeletesKeys, WritesAllOnce, returned_fault, writes_done, asked_changes}
use Rattle.std.specs.declared.dyn_box.DynBox.{DynBox}
use Rattle.jc_outside.specs.Calling.{KeepsType}
use Rattle.jc_outside.specs.Done.{WriteResult}
use Rattle.jc_batch.specs.Answers.{AnswersByKey}

module _ {W : Type 0} (writes_all : WriteAllRelation W) (deletes_all : DeleteAllRelation W) (state : W → List ℕ)
    (old was : Option W) (same : old ≡ was) (batch : Batch) (returned : Result (Unit {0}) ℕ) (new : Option W) where
  pub writes-batch : (b : BatchState (Bytes × Bytes)) (entries left : List (Bytes × Bytes)) → batch ≡ Writes b → entries ≡ b.items
      → WritesEntries writes_all state old entries returned left new
      → WritesAllOnce writes_all deletes_all state was batch returned (answer_in_batch (keys_of left) (returned_fault returned)) new
  writes-batch b entries left is asked once =
      subst (λ x. WritesAllOnce writes_all deletes_all state was x returned (answer_in_batch (keys_of left) (returned_fault returned)) new) (sym is) (
        left,
        (λ key. refl),
        subst (λ o. WritesEntries writes_all state o b.items returned left new) same
            (subst (λ es. WritesEntries writes_all state old es returned left new) asked once),
      )

  pub deletes-batch : (b : BatchState Bytes) (keys left : List Bytes) → batch ≡ Deletes b → keys ≡ b.items
      → DeletesKeys deletes_all state old keys returned left new
      → WritesAllOnce writes_all deletes_all state was batch returned (answer_in_batch left (returned_fault returned)) new
  deletes-batch b keys left is asked once =
      subst (λ x. WritesAllOnce writes_all deletes_all state was x returned (answer_in_batch left (returned_fault returned)) new) (sym is) (
        left,
        (λ key. refl),
        subst (λ o. DeletesKeys deletes_all state o b.items returned left new) same
            (subst (λ ks. DeletesKeys deletes_all state old ks returned left new) asked once),
      )

-- the asks of a batch have its keys
module _ {A : Type 0} (key_of : A → Bytes) (change_of : A → Option Change) (batch : Batch) (asks : List A) where
  pub written-keys : (b : BatchState (Bytes × Bytes)) → batch ≡ Writes b → changes_of batch ≡ asked_changes key_of change_of asks → keys_of b.items ≡ map key_of asks
  written-keys b is asked =
      sym (map-map (λ (p : Bytes × Option Change). p.0) (λ (e : Bytes × Bytes). (e.0, Some (Write e.1))) b.items)
      ∙ ap (map (λ (p : Bytes × Option Change). p.0)) (ap changes_of (sym is) ∙ asked)
      ∙ map-map (λ (p : Bytes × Option Change). p.0) (λ a. (key_of a, change_of a)) asks

  pub deleted-keys : (b : BatchState Bytes) → batch ≡ Deletes b → changes_of batch ≡ asked_changes key_of change_of asks → b.items ≡ map key_of asks
  deleted-keys b is asked =
      sym (map-map (λ (p : Bytes × Option Change). p.0) (λ k. (k, Some Delete)) b.items ∙ map-id b.items)
      ∙ ap (map (λ (p : Bytes × Option Change). p.0)) (ap changes_of (sym is) ∙ asked)
      ∙ map-map (λ (p : Bytes × Option Change). p.0) (λ a. (key_of a, change_of a)) asks

module _ {L : Type 0} (loads_all : LoadAllRelation L) (state : L → List ℕ) where
  pub loads-batch : (old was : Option L) → old ≡ was → (keys asked : List Bytes) → keys ≡ asked → (returned : Result (Unit {0}) ℕ) (answers : AnswersByKey) (new : Option L)
      → LoadsKeys loads_all state old keys returned answers new
      → LoadsAllOnce loads_all state was asked (load_all_answer returned answers) new
  loads-batch old was same keys asked is returned answers new once = (
    returned,
    answers,
    (λ key. refl),
    subst (λ o. LoadsKeys loads_all state o asked returned answers new) same
        (subst (λ ks. LoadsKeys loads_all state old ks returned answers new) is once),
  )

pub reported : {A : Type 0} (key_of : A → Bytes) (left : List Bytes) (returned : Result (Unit {0}) ℕ) (fault : Option ℕ) → fault ≡ returned_fault returned
    → (asks : List A) (before after : List (WriteResult A))
    → after ≡ before ++ writes_done key_of (answer_in_batch left fault) asks
    → after ≡ before ++ writes_done key_of (answer_in_batch left (returned_fault returned)) asks
reported key_of left returned fault is asks before after ended = subst (λ f. after ≡ before ++ writes_done key_of (answer_in_batch left f) asks) is ended

pub keeps_type : {I Z : Type 0} {D : I → Type 0} (old was : Option (DynBox I Z D)) → old ≡ was → (new : Option (DynBox I Z D)) → KeepsType old new → KeepsType was new
keeps_type old was same new kept = subst (λ o. KeepsType o new) same kept
