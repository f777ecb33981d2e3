use Rattle.jc_record.proofs.Common.{◌≡◌, ◌++◌, ◌∙◌, List, ℕ, [], ap, append-nil, drop, drop_all, refl, rules, subst, sym}
use Rattle.jc_model.specs.Cache.{Bytes}
use Rattle.jc_record.specs.Reading.{record_value}
use Rattle.jc_record.specs.Running.{AnswersKeys}
use Rattle.jc_record.proofs.judge.put_keys.Goals as goal

pub returns : goal.returns
returns c =
    let inv = c.loop-at.invariant.1 in
    let none : drop c.loop-at.at c.args.index.now.keys ≡ [] = drop_all c.loop-at.at c.args.index.now.keys (search rules) in
    let left = subst (λ (keys : List Bytes). AnswersKeys c.args.asked.now (record_value c.args.history.now) c.args.index.now c.loop-at.at keys c.loop-at.tally [] c.loop-at.tally) (sym none) (refl, refl) in
    (inv.0 ++ [], inv.1 ∙ ap (λ (x : List ℕ). c.args.out.now.items ++ x) (sym (append-nil inv.0)), inv.2 [] c.loop-at.tally left)
