use Rattle.std.proofs.Common.{◌≡◌, List, Bool, length, ap, refl, sym, subst, ◌∙◌}
use Rattle.jc_check.specs.declared.record.Recorded.{Recorded}
use Rattle.jc_check.specs.declared.record.Role.{Role}
use Rattle.jc_check.specs.Parts.{IsTrial, forget, with_roles}
use Rattle.jc_check.proofs.Forgetting.{length-forget, length-with_roles, roles-again}
use Rattle.jc_check.proofs.smallest.Shrinking.try_kept.Goals as goal

pub returns-clause-same : goal.returns-clause-same
returns-clause-same c =
    let own : List Role = c.args.self.now.own.items in
    let calls : List Recorded = c.args.self.now.calls.items in
    let kept : List Bool = c.args.kept.now in
    let back : c.set_roles.new.calls.items ≡ with_roles own calls = c.set_roles.ensures ∙ ap (λ (rs : List Role). with_roles rs calls) c.deref.ensures.value in
    let less : c.forget.new.calls.items ≡ forget kept (with_roles own calls) = c.forget.ensures ∙ ap (forget kept) back in
    record {
      calls = ap (with_roles own) less ∙ roles-again own kept calls c.requires;
      each = refl;
      roles = c.requires ∙ sym (ap length less ∙ length-forget kept (with_roles own calls) ∙ length-with_roles own calls);
    }

pub returns-clause-trial : goal.returns-clause-trial
returns-clause-trial c =
    let own : List Role = c.args.self.now.own.items in
    let calls : List Recorded = c.args.self.now.calls.items in
    let kept : List Bool = c.args.kept.now in
    let back : c.set_roles.new.calls.items ≡ with_roles own calls = c.set_roles.ensures ∙ ap (λ (rs : List Role). with_roles rs calls) c.deref.ensures.value in
    let less : c.forget.new.calls.items ≡ forget kept (with_roles own calls) = c.forget.ensures ∙ ap (forget kept) back in
    subst (λ (cs : List Recorded). IsTrial c.args.rules.now cs c.args.opening.now c.args.self.now.each c.trial_of.result) (c.deref-2.ensures.value ∙ less)
    (c.trial_of.ensures c.args.rules.now c.deref-2.result.now c.args.opening.now c.args.self.now.each c.in_ok-verdict.ensures)
