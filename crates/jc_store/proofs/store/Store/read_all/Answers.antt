use Rattle.std.proofs.Common.{◌≡◌, ◌+◌, ◌++◌, [], ◌∷◌, take, drop, true, le_antisymm, ap, sym, ◌∙◌, option_copied}
use Rattle.std.proofs.lemmas.List.{take_more, take-append-drop}
use Rattle.std.proofs.Math.Seq.{take-length}
use Rattle.jc_model.specs.Cache.{Bytes}
use Rattle.jc_outside.specs.Answers.{AnswersState, answers_with}
use Rattle.jc_store.proofs.Batches.{among, answers_by, values_at, all-answered, is_among, one-answered, none-answered}
use Rattle.jc_store.proofs.store.Store.read_all.Goals as goal
use Rattle.jc_store.proofs.store.Store.read_all.Goals.{in-Some, in_default}

pub loop-key-preserved : goal.loop-key-preserved
loop-key-preserved c =
    let keys = c.args.keys.now in
    let i = c.loop-key.key-index in
    let done = take i keys in
    let k = c.key-item.result in
    let store = c.args.self.now in
    let more : done ++ k ∷ [] ≡ take (i + 1) keys = ap (λ (x : Bytes). done ++ x ∷ []) c.key-item.is ∙ sym (take_more keys i k c.loop-key-test.true) in
    let there : among k keys ≡ true =
    ap (among k) (sym (ap (λ xs. xs ++ drop (i + 1) keys) more ∙ take-append-drop (i + 1) keys)) ∙ is_among k done (drop (i + 1) keys) in
    elim c.match-read.branch [
      | in-Some w ↦ record {
        answers = ap (λ (a : AnswersState). a.by_key) w.answers-is ∙ w.put.ensures.answers
            ∙ ap (λ m. answers_with m k w.in-Some.value.now) c.loop-key.invariant.answers
            ∙ one-answered store done keys k w.in-Some.value.now there (sym c.read.ensures ∙ ap option_copied w.in-Some.is)
            ∙ ap (λ xs. answers_by (values_at store xs) keys) more;
        room = ap (λ (a : AnswersState). a.room) w.answers-is ∙ w.put.ensures.room ∙ c.loop-key.invariant.room;
      }
      | in_default w ↦ record {
        answers = ap (λ (a : AnswersState). a.by_key) w.answers-is ∙ c.loop-key.invariant.answers
            ∙ none-answered store done keys k (sym c.read.ensures ∙ ap option_copied w.in_default.is)
            ∙ ap (λ xs. answers_by (values_at store xs) keys) more;
        room = ap (λ (a : AnswersState). a.room) w.answers-is ∙ c.loop-key.invariant.room;
      }
    ]

pub returns-clause-answers : goal.returns-clause-answers
returns-clause-answers c =
    let keys = c.args.keys.now in
    let i = c.loop-key.key-index in
    c.loop-key.invariant.answers
    ∙ ap (λ n. answers_by (values_at c.args.self.now (take n keys)) keys) (le_antisymm c.loop-key.auto.key-index-end c.loop-key-test.false)
    ∙ ap (λ xs. answers_by (values_at c.args.self.now xs) keys) (take-length keys)
    ∙ all-answered c.args.self.now keys
