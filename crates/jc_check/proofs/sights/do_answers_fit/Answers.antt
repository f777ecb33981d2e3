use Rattle.std.proofs.Common.{◌≡◌, ℕ, get_or, take, ap, ◌∙◌, subst, rules}
use Rattle.std.proofs.lemmas.List.{get_or_default}
use Rattle.jc_model.specs.Processor.{answer_after}
use Rattle.jc_check.specs.declared.record.EntrySight.{EntrySight}
use Rattle.jc_check.specs.Spot.{calls_of}
use Rattle.jc_check.proofs.Lists.{below_one-more}
use Rattle.jc_check.proofs.sights.do_answers_fit.Goals as goal

pub loop-place-preserved : goal.loop-place-preserved
loop-place-preserved c k d h =
    let sights = c.args.sights.now in
    let P : ℕ → EntrySight → Type 0 = λ k s. s.answer ≡ answer_after c.args.read_through c.args.entry.now c.args.answer.now (calls_of (take k sights)) s.call in
    below_one-more (λ k. (d : EntrySight) → P k (get_or sights k d)) c.loop-place.place (λ k less d. c.loop-place.invariant k d less)
    (λ d. subst (P c.loop-place.place) (get_or_default sights c.loop-place.place _ d c.loop-place-test.true)
    (c.is_same_answer.ensures.0 (search (rules, c.if-not-is_same_answer.false)) ∙ c.answer_after-expected.ensures
    ∙ ap (λ (s : EntrySight). answer_after c.args.read_through c.args.entry.now c.args.answer.now (calls_of (take c.loop-place.place sights)) s.call)
    (get_or_default sights c.loop-place.place _ _ c.loop-place-test.true))) k h d
