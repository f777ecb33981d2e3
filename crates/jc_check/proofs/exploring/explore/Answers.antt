use Rattle.std.proofs.Common.{◌∙◌, sym, subst, arith, true≢false}
use Rattle.jc_check.specs.Nodes.{IsWhole, node_value}
use Rattle.jc_check.proofs.Covering.{all-done, done-more}
use Rattle.jc_check.proofs.Known.{at-index, grows-more, grows-not, one-value}
use Rattle.jc_check.proofs.exploring.explore.Goals as goal

pub loop-place-init : goal.loop-place-init
loop-place-init c = (c.requires.known, grows-not c.args.states.now, λ k n h at. absurd (omega (arith, h)))

pub returns-then-place-len-clause-ends : goal.returns-then-place-len-clause-ends
returns-then-place-len-clause-ends c = (
  all-done c.args.rules.now c.args.calls.now c.loop-place.states c.loop-place.place c.loop-place.invariant.2 (omega (arith, c.if-place-len.true)),
  omega (arith, c.if-place-len.true, c.loop-place-test.true),
)

pub returns-then-is_whole-clause-ends : goal.returns-then-is_whole-clause-ends
returns-then-is_whole-clause-ends c = (
  node_value c.index.result.now,
  at-index c.loop-place.states c.loop-place.place c.index.result.now (omega (arith, c.if-place-len.false)) c.index.ensures,
  c.is_whole.ensures.0 c.if-is_whole.true,
)

pub loop-place-preserved : goal.loop-place-preserved
loop-place-preserved c =
    let old = c.loop-place.states in
    let new = c.try_all.new.states in
    let place = c.loop-place.place in
    let m = c.index.result.now in (
      c.in_ok-try_all.ensures.known,
      grows-more c.args.states.now old new c.loop-place.invariant.1 c.in_ok-try_all.ensures.grows,
      done-more c.args.rules.now c.args.calls.now old new place c.in_ok-try_all.ensures.grows (omega (arith, c.if-place-len.false)) c.loop-place.invariant.2
          c.in_ok-try_all.ensures.covers
          (λ n at whole. true≢false
          (sym
          (c.is_whole.ensures.1
          (subst (IsWhole c.args.calls.now)
          (sym (one-value old place (node_value m) n (at-index old place m (omega (arith, c.if-place-len.false)) c.index.ensures) at)) whole))
          ∙ c.if-is_whole.false)),
    )

pub returns-then-len-budget-clause-grows : goal.returns-then-len-budget-clause-grows
returns-then-len-budget-clause-grows c =
    grows-more c.args.states.now c.loop-place.states c.try_all.new.states c.loop-place.invariant.1 c.in_ok-try_all.ensures.grows

pub returns-clause-ends : goal.returns-clause-ends
returns-clause-ends c = (
  all-done c.args.rules.now c.args.calls.now c.loop-place.states c.loop-place.place c.loop-place.invariant.2
      (omega (arith, c.if-len-budget-2.false, c.loop-place-test.false)),
  omega (arith, c.if-len-budget-2.false),
)
