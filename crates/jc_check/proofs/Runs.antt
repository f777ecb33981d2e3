-- A run of a processor is what a step of its call has to have been.
use Rattle.std.proofs.Common.{◌≡◌, ℕ, zero, suc, ◌<◌, List, [], ◌∷◌, ◌++◌, length, map, take, get_or, Bool, true, false, Option, Result, Ok, Err, sym, subst, ap, refl, ◌∙◌, arith, append_assoc}
use Rattle.std.proofs.lemmas.List.{append-nil}
use Rattle.jc_model.specs.declared.event.Effect.{Effect}
use Rattle.jc_model.specs.declared.event.LoadAnswer.{LoadAnswer}
use Rattle.jc_model.specs.declared.event.Out.{Out}
use Rattle.jc_model.specs.declared.event.ProcessAnswer.{ProcessAnswer}
use Rattle.jc_model.specs.declared.processor.EntryAnswer.{EntryAnswer}
use Rattle.jc_model.specs.declared.processor.EntryAnswer.TheVariants.{Done}
use Rattle.jc_model.specs.declared.processor.EntryCall.{EntryCall}
use Rattle.jc_model.specs.Cache.{Bytes}
use Rattle.jc_model.specs.Processor.{answer_after, answers_after, net_effect, process_answer}
use Rattle.jc_check.specs.declared.record.EntrySight.{EntrySight}
use Rattle.jc_check.specs.Recording.{HasRun, IsRun}
use Rattle.jc_check.specs.Spot.{FitsEffect, FitsProcess, FitsSights, calls_of}

abbrev answers_of : List EntrySight → List EntryAnswer
answers_of sights = map (λ s. s.answer) sights

first-answer : (x y : EntryAnswer) (xs ys : List EntryAnswer) → x ∷ xs ≡ y ∷ ys → x ≡ y
first-answer x y xs ys e = ap (λ (l : List EntryAnswer). get_or l 0 Done) e

other-answers : (x y : EntryAnswer) (xs ys : List EntryAnswer) → x ∷ xs ≡ y ∷ ys → xs ≡ ys
other-answers x y xs ys e = ap (λ (l : List EntryAnswer). tail l) e
  where
    tail : List EntryAnswer → List EntryAnswer
    tail [] = []
    tail (z ∷ zs) = zs

answers-each : (read_through : Bool) (entry : Option Bytes) (answer : LoadAnswer) (before : List EntryCall) (sights : List EntrySight)
    → answers_of sights ≡ answers_after read_through entry answer before (calls_of sights) → (k : ℕ) (d : EntrySight) → k < length sights
    → (get_or sights k d).answer ≡ answer_after read_through entry answer (before ++ calls_of (take k sights)) (get_or sights k d).call
answers-each read_through entry answer before [] is k d h = absurd (omega (arith, h))
answers-each read_through entry answer before (s ∷ sights) is zero d h =
    first-answer _ _ _ _ is ∙ ap (λ (calls : List EntryCall). answer_after read_through entry answer calls s.call) (sym (append-nil before))
answers-each read_through entry answer before (s ∷ sights) is (suc k) d h =
    answers-each read_through entry answer (before ++ s.call ∷ []) sights (other-answers _ _ _ _ is) k d (omega (arith, h))
    ∙ ap (λ (calls : List EntryCall). answer_after read_through entry answer calls (get_or sights k d).call)
    (append_assoc before (s.call ∷ []) (calls_of (take k sights)))

effect-fits : (answer : ProcessAnswer) (net : Effect) (returned : Result (Option Bytes) ℕ) → answer ≡ process_answer net returned → FitsEffect answer net
effect-fits answer net returned is = subst (λ (a : ProcessAnswer). FitsEffect a net) (sym is) (by-return returned)
  where
    by-return : (r : Result (Option Bytes) ℕ) → FitsEffect (process_answer net r) net
    by-return (Ok outcome) = refl
    by-return (Err code) = tt

run-fits : (read_through : Bool) (entry : Option Bytes) (sights : List EntrySight) (out : Out) → IsRun read_through entry sights out
    → FitsProcess read_through entry sights out
run-fits read_through entry sights out is =
    record {
      answers = λ k d h. answers-each read_through entry out.load [] sights is.answers k d h;
      load = is.load;
      effect = effect-fits out.process (net_effect read_through entry out.load (calls_of sights)) is.returned is.process;
    }

pub has-run-fits : (invokes read_through : Bool) (entry : Option Bytes) (sights : List EntrySight) (out : Out)
    → HasRun invokes read_through entry sights out → FitsSights invokes read_through entry sights out
has-run-fits false read_through entry sights out has = tt
has-run-fits true read_through entry sights out has = run-fits read_through entry sights out has
