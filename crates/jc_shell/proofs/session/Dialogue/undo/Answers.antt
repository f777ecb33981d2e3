use Rattle.jc_shell.proofs.Common.{◌∙◌, ◌++◌, ◌<◌, ℕ, List, ap, arith, inl, inr, length, refl, subst, sym, HasFaultNow, Holds, opened_world, no_undo_text, not_undone_text, undone_text}
use Rattle.jc_shell.proofs.Streams.{ok_then}
use Rattle.jc_shell.proofs.Turns.{last_of, nothing_of, shown_of}
use Rattle.jc_shell.specs.declared.session.Dialogue.{Dialogue}
use Rattle.jc_shell.proofs.session.Dialogue.undo.Goals as goal

pub returns-then-self-eq0 : goal.returns-then-self-eq0
returns-then-self-eq0 c = λ a h.
    (no_undo_text, a, h, inl (nothing_of a.lines (sym h.lines_is ∙ c.if-self-eq0.true), refl, refl), c.in_ok-put.ensures)

pub returns-in-Ok-true : goal.returns-in-Ok-true
returns-in-Ok-true c =
    let script = c.args.self.now.script.items in
    let some : 0 < length script = omega (arith, c.args.self.now.counted, c.if-self-eq0.false) in
    ok_then c.put_undone-answered.result _ _ (λ put. λ a h.
    let r = (rw c.in-Ok-true.is at (c.play_front.ensures a.lines (c.deref.ensures.value ∙ h.script_is) (rw c.deref.ensures.value some))) in
    let b = r.0 in
    let front = r.2 c.in-Ok-true.field-0-test in
    let text = last_of c.deref.result.now c.args.self.now.script.items _ b c.play_front.new.self.script.items front.0 _
    c.deref.ensures.value c.deref-in-Ok-true.ensures.value (c.len.ensures ∙ c.play_front.new.self.script.ok.0) r.1.script_is front.2 in (
      undone_text front.0,
      b,
      subst (λ (d : Dialogue). Holds b d.script.items d.lines (opened_world d.player.world)) (sym c.replace-former.ensures.after) r.1,
      inr (inl (front.0, front.1, sym h.script_is ∙ sym c.deref.ensures.value ∙ front.2, shown_of b _ r.1.goes_on, refl)),
      put ∙ ap (λ (t : List ℕ). c.args.out.now.items ++ t) text,
    )) c.put_undone-answered.ensures

pub returns-in-Ok-false : goal.returns-in-Ok-false
returns-in-Ok-false c =
    let script = c.args.self.now.script.items in
    let some : 0 < length script = omega (arith, c.args.self.now.counted, c.if-self-eq0.false) in
    ok_then c.put-in-Ok-false.result _ _ (λ put. λ a h.
    let r = (rw c.in-Ok-false.is at (c.play_front.ensures a.lines (c.deref.ensures.value ∙ h.script_is) (rw c.deref.ensures.value some))) in
    let stuck = subst (λ (t : List ℕ). HasFaultNow t) (c.deref.ensures.value ∙ h.script_is) (r.3 c.in-Ok-false.field-0-test) in
    (not_undone_text, a, h, inr (inr (stuck, refl, refl)), put)) c.put-in-Ok-false.ensures
