use Rattle.std.proofs.Common.{◌≡◌, ℕ, List, Bool, length, map, ap, sym, subst, ◌∙◌}
use Rattle.jc_check.specs.declared.record.Recorded.{Recorded}
use Rattle.jc_check.specs.declared.record.Role.{Role}
use Rattle.jc_check.specs.Explains.{IsExplained}
use Rattle.jc_check.specs.Parts.{AreNeeds, forget, whole, with_roles}
use Rattle.jc_check.proofs.Forgetting.{own-roles}
use Rattle.jc_check.proofs.smallest.smallest_part.Goals as goal

pub halved-requires-clause-left : goal.halved-requires-clause-left
halved-requires-clause-left c =
    let calls : List Recorded = c.args.calls.items in
    let own : with_roles c.in_ok-own.own.items calls ≡ calls =
    ap (λ (rs : List Role). with_roles rs calls) (c.in_ok-own.ensures ∙ ap (map (λ (r : Recorded). r.role)) c.deref.ensures.value) ∙ own-roles calls in
    λ h. c.requires (subst (λ (cs : List Recorded). IsExplained c.args.rules.now cs c.args.opening.now)
    (ap (forget c.in_ok-kept.kept.items) own ∙ c.in_ok-kept.ensures.all calls) h)

pub returns : goal.returns
returns c =
    let rules = c.args.rules.now in
    let opening = c.args.opening.now in
    let calls : List Recorded = c.args.calls.items in
    let kept : List Bool = c.in_ok-kept-3.kept.items in
    let end = c.in_ok-kept-3.ensures.end in
    let own : with_roles c.in_ok-own.own.items calls ≡ calls =
    ap (λ (rs : List Role). with_roles rs calls) (c.in_ok-own.ensures ∙ ap (map (λ (r : Recorded). r.role)) c.deref.ensures.value) ∙ own-roles calls in
    let half : whole c.halved.new.self ≡ calls = c.in_ok-kept-2.ensures.same.calls ∙ own in
    let all : whole c.settled.new.self ≡ calls = c.in_ok-kept-3.ensures.same.calls ∙ half in
    let back : c.set_roles.new.calls.items ≡ calls =
    c.set_roles.ensures ∙ ap (λ (rs : List Role). with_roles rs c.settled.new.self.calls.items) c.deref-2.ensures.value ∙ all in
    let less : c.forget.new.calls.items ≡ forget kept calls =
    c.forget.ensures ∙ ap (λ (ks : List Bool). forget ks c.set_roles.new.calls.items) c.deref-3.ensures.value ∙ ap (forget kept) back in
    let count : length c.in_ok-kept-2.kept.items ≡ length calls =
    c.in_ok-kept-2.ensures.left.0 ∙ c.in_ok-kept.ensures.count ∙ c.len.ensures ∙ c.args.calls.ok.0 in
    record {
      forgets = less;
      none = λ h. end.left (subst (λ (cs : List Recorded). IsExplained rules cs opening) (less ∙ ap (forget kept) (sym half)) h);
      marks = end.marks ∙ count;
      each = end.each ∙ count;
      right = subst (λ (limit : ℕ). AreNeeds rules calls opening limit kept 0 c.in_ok-kept-3.needs.items) c.in_ok-kept-2.ensures.same.each
          (subst (λ (cs : List Recorded). AreNeeds rules cs opening c.halved.new.self.each kept 0 c.in_ok-kept-3.needs.items) half end.right);
    }
