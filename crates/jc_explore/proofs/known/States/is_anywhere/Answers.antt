use Rattle.jc_explore.proofs.Common.{ℕ, arith, IsKeyAt}
use Rattle.jc_explore.proofs.Searching.{at-known, below_one-more, there-at}
use Rattle.jc_explore.proofs.known.States.is_anywhere.Goals as goal

pub returns-then-is_at-clause-there : goal.returns-then-is_at-clause-there
returns-then-is_at-clause-there c _ = at-known c.args.self.now.list.items c.loop-place.place c.args.key.now (c.is_at.ensures.same c.if-is_at.true)

pub loop-place-preserved : goal.loop-place-preserved
loop-place-preserved c =
    below_one-more (λ (k : ℕ). IsKeyAt c.args.self.now.list.items k c.args.key.now → ⊥) c.loop-place.place c.loop-place.invariant (c.is_at.ensures.apart c.if-is_at.false)

pub returns-clause-none : goal.returns-clause-none
returns-clause-none c _ k d h one =
    let known = c.args.self.now.list.items in
    c.loop-place.invariant k (omega (arith, h, c.loop-place-test.false, c.len-place-end.ensures, c.args.self.now.list.ok.0)) (_, there-at known k d h, one)
