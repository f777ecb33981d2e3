use Rattle.std.proofs.Common.{List, Bool, Some, false, ap, subst, ◌∙◌}
use Rattle.std.proofs.lemmas.Option.{slice_get-get_or}
use Rattle.jc_check.specs.declared.smallest.Trial.{Trial}
use Rattle.jc_check.specs.Parts.{IsTrial, forget, whole, without}
use Rattle.jc_check.proofs.smallest.Shrinking.need_of.Goals as goal

pub returns-in-Stopped-clause-need : goal.returns-in-Stopped-clause-need
returns-in-Stopped-clause-need c = (
  slice_get-get_or c.args.kept.now c.args.call false c.requires.there ∙ ap Some c.if-not-kept-call.false,
  subst (λ (t : Trial). IsTrial c.args.rules.now (forget (without c.args.kept.now c.args.call) (whole c.args.self.now)) c.args.opening.now c.args.self.now.each t)
      c.in-Stopped.is
      (subst (λ (ks : List Bool). IsTrial c.args.rules.now (forget ks (whole c.args.self.now)) c.args.opening.now c.args.self.now.each c.in_ok-try_kept.field-0)
      (c.deref.ensures.value ∙ c.in_ok-fewer.ensures) c.in_ok-try_kept.ensures.trial),
)

pub returns-clause-need : goal.returns-clause-need
returns-clause-need c = slice_get-get_or c.args.kept.now c.args.call false c.requires.there ∙ ap Some c.if-not-kept-call.false
