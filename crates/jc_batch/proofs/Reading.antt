-- A split is read in the batch's order: the next key is the first of one of its lists.
use Rattle.std.proofs.Common.{◌≡◌, ℕ, true, false, List, [], ◌∷◌, Option, refl, sym, ap, ◌∙◌}
use Rattle.std.specs.List.{cons_option}
use Rattle.jc_model.specs.declared.event.WriteAnswer.TheVariants as write
use Rattle.jc_model.specs.Cache.{Bytes}
use Rattle.jc_model.specs.Batches.{is_among, batch_answer, answer_in_batch}
use Rattle.jc_batch.specs.Splitting.{success_of, failure_of, successes_in, failures_in, AreOutcomes}

module _ (left : List Bytes) (fault : Option ℕ) where
  -- the first of the keys that were written was written
  first_written : (keys : List Bytes) (x : Bytes) (xs : List Bytes) → x ∷ xs ≡ successes_in left fault keys → answer_in_batch left fault x ≡ write.Done
  first_written [] x xs is = cc
  first_written (key ∷ keys) x xs is =
      elim (is_among left key) as (λ b. is_among left key ≡ b → x ∷ xs ≡ cons_option (success_of key (batch_answer b fault)) (successes_in left fault keys)
      → answer_in_batch left fault x ≡ write.Done) [
        | true ↦ λ e h. first_written keys x xs h
        | false ↦ λ e h. let same : x ≡ key = cc in ap (answer_in_batch left fault) same ∙ ap (λ b. batch_answer b fault) e
      ] refl is

  pub next_written : (key : Bytes) (keys : List Bytes) (first : Bytes) (others : List Bytes) (failed : List (Bytes × ℕ))
      → AreOutcomes left fault (key ∷ keys) (first ∷ others) failed → first ≡ key
      → (write.Done ≡ answer_in_batch left fault key) × AreOutcomes left fault keys others failed
  next_written key keys first others failed are same =
      let was : answer_in_batch left fault key ≡ write.Done = ap (answer_in_batch left fault) (sym same) ∙ first_written (key ∷ keys) first others are.written_are in
      elim (is_among left key) as (λ b. batch_answer b fault ≡ write.Done
      → first ∷ others ≡ cons_option (success_of key (batch_answer b fault)) (successes_in left fault keys)
      → failed ≡ cons_option (failure_of key (batch_answer b fault)) (failures_in left fault keys)
      → (write.Done ≡ batch_answer b fault) × AreOutcomes left fault keys others failed) [
        | true ↦ λ done w f. cc
        | false ↦ λ done w f. (refl, record { written_are = cc; failed_are = f })
      ] was are.written_are are.failed_are
