use Rattle.jc_shell.proofs.Common.{◌∙◌, ◌∷◌, [], ◌++◌, ℕ, List, ap, append-nil, inl, inr, refl}
use Rattle.jc_shell.proofs.Streams.{answered_one, appends_none, err_then, late_none, ok_then, stops_at_one}
use Rattle.jc_shell.proofs.run.answer_line.Goals as goal

pub returns-in-Ok-clause-ok : goal.returns-in-Ok-clause-ok
returns-in-Ok-clause-ok g c = ok_then c.say_both.result _ _ (λ said. λ a h.
    let r = c.in-Ok.ensures.answered a h in
    let text_is = c.deref.ensures.value ∙ r.5 ∙ ap (λ (t : List ℕ). t ++ r.0) c.new-out.ensures.items in
    (r.0, r.1, r.2, r.3, r.4, rw text_is at said, r.6)) c.say_both.ensures.ok

pub returns-in-Ok-clause-err : goal.returns-in-Ok-clause-err
returns-in-Ok-clause-err g c = err_then c.say_both.result _ _ (λ e w. λ a h.
    let r = c.in-Ok.ensures.answered a h in
    let line = c.args.line.now in
    let prompt = c.args.prompt.now in
    let text_is = c.deref.ensures.value ∙ r.5 ∙ ap (λ (t : List ℕ). t ++ r.0) c.new-out.ensures.items in (
      line ∷ [],
      r.0 ++ prompt,
      w.1.0,
      r.1,
      [],
      r.2,
      inr refl,
      answered_one prompt a line r.0 r.1 r.2 c.requires.whole r.4,
      rw w.0 (rw text_is at w.1.1),
      w.1.2,
      late_none e,
      rw (append-nil r.1) r.6,
      λ write. stops_at_one prompt a line r.0 r.1 r.2 w.1.0 r.4,
    )) c.say_both.ensures.err

pub returns-clause-err : goal.returns-clause-err
returns-clause-err g c = λ a h.
    let u = c.in-Err.ensures.unsaved in
    ([], [], [], [], u.0, a, inl refl, (refl, refl, refl), refl, appends_none _, u.1, u.2, λ write. absurd cc)
