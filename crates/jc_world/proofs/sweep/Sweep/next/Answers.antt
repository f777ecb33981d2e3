use Rattle.std.specs.List.{each_same}
use Rattle.std.proofs.lemmas.Result.{IfOk-from_err}
use Rattle.jc_world.proofs.Common.{◌≡◌, ℕ, Bool, cond, List, [], ◌∷◌, ◌++◌, Some, None, true, false, sym, ap, ◌∙◌, SweepState, has_looked_at_each, next_sweep}
use Rattle.jc_world.proofs.sweep.Sweep.next.Goals as goal

pub returns-in_err-looked : goal.returns-in_err-looked
returns-in_err-looked c = IfOk-from_err c.from_residual.result _ c.from_residual.ensures.0

pub returns-in_err-push : goal.returns-in_err-push
returns-in_err-push c = IfOk-from_err c.from_residual-in_err-push.result _ c.from_residual-in_err-push.ensures.0

-- by whether it has looked at each
next_is : (stripes stripe : ℕ) (sweep now : SweepState) (copy looked : List ℕ) (b : Bool) → copy ≡ sweep.looked → looked ≡ copy ++ stripe ∷ [] → has_looked_at_each looked stripes ≡ b → sweep ≡ now
    → cond b None (Some (record sweep { looked = looked })) ≡ next_sweep stripes stripe now
next_is stripes stripe sweep now copy looked b same is test view =
    ap (λ b. cond b None (Some (record sweep { looked = looked }))) (sym test)
    ∙ ap (λ xs. cond (has_looked_at_each xs stripes) None (Some (record sweep { looked = xs }))) (is ∙ ap (λ xs. xs ++ stripe ∷ []) same)
    ∙ ap (next_sweep stripes stripe) view

pub returns-then-has_looked_at_each : goal.returns-then-has_looked_at_each
returns-then-has_looked_at_each c =
    next_is c.args.stripes c.args.stripe _ _ _ c.push.new.self.items true (each_same c.self.inside.looked.items c.in_ok-looked.looked.items c.in_ok-looked.ensures.cases.0) c.in_ok-push.ensures.items
    (ap (λ xs. has_looked_at_each xs c.args.stripes) (sym c.deref.ensures.value) ∙ sym c.has_looked_at_each.ensures ∙ c.if-has_looked_at_each.true) c.self.view_is

pub returns : goal.returns
returns c =
    next_is c.args.stripes c.args.stripe _ _ _ c.push.new.self.items false (each_same c.self.inside.looked.items c.in_ok-looked.looked.items c.in_ok-looked.ensures.cases.0) c.in_ok-push.ensures.items
    (ap (λ xs. has_looked_at_each xs c.args.stripes) (sym c.deref.ensures.value) ∙ sym c.has_looked_at_each.ensures ∙ c.if-has_looked_at_each.false) c.self.view_is
