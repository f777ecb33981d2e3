use Rattle.std.proofs.Common.{ℕ, suc, ◌≡◌, ◌<◌, ◌-◌, ◌∙◌, ◌∷◌, List, length, drop, sym, ap, subst, arith}
use Rattle.jc_model.specs.Cache.{Bytes}
use Rattle.jc_model.specs.Listed.{others}
use Rattle.jc_entries.proofs.Filling.{drop-on}
use Rattle.jc_entries.proofs.entries.Entries.of.Goals as goal

pub loop-left-preserved : goal.loop-left-preserved
loop-left-preserved c =
    let all : List (Bytes × Bytes) = c.args.contents.now in
    let m : ℕ = c.loop-left.left - 1 in
    let within = c.loop-left.invariant.0 in
    let more = c.loop-left-test.true in
    let at : c.loop-left.left ≡ suc m = omega arith in
    let near : m < length all = omega arith in
    let x : Bytes × Bytes = c.index-contents-left.result in
    let P : Bytes × Bytes → Type 0 = λ y. y ∷ others y.0 (drop (suc m) all) ≡ drop m all in
    let one : P x = subst P (sym c.index-contents-left.is) (drop-on all m x c.requires.once near) in (
      omega arith,
      c.in_ok-put_first.ensures.ok
          ∙ (λ k. record { capacity = (c.loop-left.invariant.1 k).capacity; list = x ∷ others x.0 ((c.loop-left.invariant.1 k).list) })
          ∙ ap (λ (n : ℕ). record { capacity = c.args.capacity; list = x ∷ others x.0 (drop n all) }) at
          ∙ ap (λ (l : List (Bytes × Bytes)). record { capacity = c.args.capacity; list = l }) one,
    )
