use Rattle.std.proofs.Common.{◌≡◌, Bool, Option, Some, true, false, is_some, cond, ap, sym, ◌∙◌}
use Rattle.std.specs.FinMap as finite
use Rattle.std.specs.FinMap.{from_entries}
use Rattle.jc_model.specs.Cache.{Bytes, key_cmp}
use Rattle.jc_batch.specs.Answers.{AnswersState, is_asked}
use Rattle.jc_batch.proofs.CallerLemmas.{get-entries, insert-entries}
use Rattle.jc_batch.proofs.answers.Answers.put.Goals as goal

pub returns-clause-asked : goal.returns-clause-asked
returns-clause-asked c =
    ap (λ (o : Option (Option Bytes)). is_some o) (c.in-Some.ensures.value ∙ get-entries c.self.inside.answers c.args.key.now)
    ∙ ap (λ (a : AnswersState). is_asked a.by_key c.args.key.now) c.self.view_is

pub returns-clause-answers : goal.returns-clause-answers
returns-clause-answers c =
    let m = c.self.inside.answers in
    let k = c.args.key.now in
    let v = Some c.args.value.now in
    let there = sym (ap (λ (o : Option (Option Bytes)). is_some o) c.in-Some.ensures.value) in
    let asked : true ≡ is_asked c.args.self.now.by_key k = returns-clause-asked c in
    insert-entries m (c.get_mut.follows.lender v) k v ((c.get_mut.follows.holds v).3 there)
    ∙ ap (λ (a : AnswersState). finite.insert a.by_key k v) c.self.view_is
    ∙ ap (λ (b : Bool). cond b (finite.insert c.args.self.now.by_key k v) c.args.self.now.by_key) asked

pub returns-in-None-clause-asked : goal.returns-in-None-clause-asked
returns-in-None-clause-asked c =
    ap (λ (o : Option (Option Bytes)). is_some o) (c.in-None.ensures.value ∙ get-entries c.self.inside.answers c.args.key.now)
    ∙ ap (λ (a : AnswersState). is_asked a.by_key c.args.key.now) c.self.view_is

pub returns-in-None-clause-answers : goal.returns-in-None-clause-answers
returns-in-None-clause-answers c =
    let k = c.args.key.now in
    let v = Some c.args.value.now in
    let asked : false ≡ is_asked c.args.self.now.by_key k = returns-in-None-clause-asked c in
    ap (λ n. from_entries {R = key_cmp} n.entries) c.get_mut.follows.holds-at-none
    ∙ ap (λ (a : AnswersState). a.by_key) c.self.view_is
    ∙ ap (λ (b : Bool). cond b (finite.insert c.args.self.now.by_key k v) c.args.self.now.by_key) asked
