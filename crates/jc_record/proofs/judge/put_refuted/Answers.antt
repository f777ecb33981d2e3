use Rattle.jc_record.proofs.Common.{◌∙◌, ◌++◌, List, None, Option, Some, [], ℕ, ap, append-nil, append_assoc, refl, subst, sym}
use Rattle.std.specs.Option.{IfSome}
use Rattle.jc_check.specs.declared.reasons.Reason.{Reason}
use Rattle.jc_check.specs.declared.record.Recorded.{Recorded}
use Rattle.jc_check.specs.Reasons.{IsReason}
use Rattle.jc_record.specs.Details.{part_text, reason_text}
use Rattle.jc_record.proofs.judge.put_refuted.Goals as goal

pub returns-in-None : goal.returns-in-None
returns-in-None c =
    let part = c.in_ok-part.part in (
      part_text part,
      c.in_ok-put_part.ensures,
      record { part = part; right = c.in_ok-part.ensures; reason = None; why = []; told = refl; text = sym (append-nil (part_text part)) },
    )

pub returns : goal.returns
returns c =
    let rules = c.args.case.now.rules in
    let opening = c.args.case.now.opening in
    let part = c.in_ok-part.part in
    let reason = c.in-Some.reason in
    let why : List ℕ = reason_text rules part.calls.items reason in
    let right = subst (λ (o : Option Reason). IfSome o (IsReason rules c.deref.result.now opening)) c.in-Some.is c.in_ok-reason_of.ensures in (
      part_text part ++ why,
      c.in_ok-put_reason-in-Some.ensures
          ∙ ap (λ (cs : List Recorded). c.put_part.new.out.items ++ reason_text rules cs reason) c.deref-in-Some.ensures.value
          ∙ ap (λ (x : List ℕ). x ++ why) c.in_ok-put_part.ensures ∙ append_assoc c.args.out.now.items (part_text part) why,
      record {
        part = part;
        right = c.in_ok-part.ensures;
        reason = Some reason;
        why = why;
        told = (subst (λ (cs : List Recorded). IsReason rules cs opening reason) c.deref.ensures.value right, refl);
        text = refl;
      },
    )
