use Rattle.std.proofs.Common.{List, Some, ap, subst, sym, ◌∙◌, arith}
use Rattle.std.proofs.lemmas.Option.{slice_get-get_or}
use Rattle.jc_check.specs.declared.record.Turn.{Turn}
use Rattle.jc_check.proofs.Known.{LeadsOn, leads-before}
use Rattle.jc_check.proofs.states.States.path_to.Goals as goal

pub loop-at-smaller : goal.loop-at-smaller
loop-at-smaller c =
    let s = c.args.self.now in
    let step = c.index-step.result.now in
    (leads-before c.args.rules.now c.args.calls.now s c.loop-at.at c.loop-at.turns.items c.args.place step c.requires.known c.loop-at-test.true
    (slice_get-get_or s.steps.items c.loop-at.at step (omega (arith, c.loop-at.invariant.0, c.requires.known.steps)) ∙ ap Some (sym c.index-step.ensures))
    c.loop-at.invariant).1

pub loop-at-preserved : goal.loop-at-preserved
loop-at-preserved c =
    let s = c.args.self.now in
    let step = c.index-step.result.now in
    subst (λ (ts : List Turn). LeadsOn c.args.rules.now c.args.calls.now s step.from ts c.args.place) (sym c.in_ok-push.ensures.items)
    (leads-before c.args.rules.now c.args.calls.now s c.loop-at.at c.loop-at.turns.items c.args.place step c.requires.known c.loop-at-test.true
    (slice_get-get_or s.steps.items c.loop-at.at step (omega (arith, c.loop-at.invariant.0, c.requires.known.steps)) ∙ ap Some (sym c.index-step.ensures))
    c.loop-at.invariant).0
