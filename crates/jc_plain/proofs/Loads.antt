-- The default `load_all`: how far it has come, and each step of its loop.
use Rattle.std.proofs.Common.{◌≡◌, ℕ, suc, ◌+◌, add-one, List, ◌∷◌, length, drop, drop-cons, get_or, ◌<◌, Option, Result, Ok, Err, inl, inr, refl, ap, sym, subst, ◌∙◌}
use Rattle.jc_model.specs.Cache.{Bytes}
use Rattle.jc_outside.specs.Answers.{AnswersByKey}
use Rattle.jc_outside.specs.Answers.{answers_with_found}
use Rattle.jc_plain.specs.Loads.{LoadsEach}

next_key : (keys : List Bytes) (i : ℕ) (key : Bytes) → i < length keys → key ≡ get_or keys i key → drop i keys ≡ key ∷ drop (suc i) keys
next_key keys i key within is = drop-cons keys i key within ∙ ap (λ it. it ∷ drop (suc i) keys) (sym is)

module _ {L : Type 0} (loads : L → Bytes → Result (Option Bytes) ℕ → List ℕ → Type 0) (state : L → List ℕ) where
  -- whatever the loads of the rest do, all loads have done
  abbrev pub HasLoaded : L → List Bytes → AnswersByKey → L → List Bytes → AnswersByKey → Type 0
  HasLoaded old keys before now rest between = (result : Result (Unit {0}) ℕ) (after : AnswersByKey) (end : List ℕ) → LoadsEach loads state now rest between result after end → LoadsEach loads state old keys before result after end

  pub loads_more : (old now next : L) (keys : List Bytes) (i : ℕ) (key : Bytes) (before between after : AnswersByKey) (found : Option Bytes) → i < length keys → key ≡ get_or keys i key
      → HasLoaded old keys before now (drop i keys) between → loads now key (Ok found) (state next) → after ≡ answers_with_found between key found → HasLoaded old keys before next (drop (i + 1) keys) after
  loads_more old now next keys i key before between after found within is so_far loaded put result last end rest =
      so_far result last end (subst (λ it. LoadsEach loads state now it between result last end) (sym (next_key keys i key within is))
      (inr (next, found, loaded, subst (λ it. LoadsEach loads state next (drop (suc i) keys) it result last end) put (subst (λ n. LoadsEach loads state next (drop n keys) after result last end) (add-one i) rest))))

  pub loads_no_more : (old now : L) (keys : List Bytes) (i : ℕ) (key : Bytes) (before between : AnswersByKey) (code : ℕ) (end : List ℕ) → i < length keys → key ≡ get_or keys i key
      → HasLoaded old keys before now (drop i keys) between → loads now key (Err code) end → LoadsEach loads state old keys before (Err code) between end
  loads_no_more old now keys i key before between code end within is so_far failed =
      so_far (Err code) between end (subst (λ it. LoadsEach loads state now it between (Err code) between end) (sym (next_key keys i key within is)) (inl (code, failed, refl, refl)))
