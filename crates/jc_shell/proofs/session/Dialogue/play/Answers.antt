use Rattle.jc_shell.proofs.Common.{◌∙◌, ◌+◌, ◌++◌, ℕ, List, ap, inl, inr, complaint, next_line_number}
use Rattle.jc_shell.proofs.session.Dialogue.play.Goals as goal

pub returns-in-None : goal.returns-in-None
returns-in-None c =
    let accepts = rw c.in-None.is at c.in_ok-accept.ensures in
    λ a h.
    let r = accepts a h in
    (r.0, r.1, r.2, inl r.3, r.4)

pub returns-in_ok-explain-in-Some : goal.returns-in_ok-explain-in-Some
returns-in_ok-explain-in-Some c =
    let rejects = rw c.in-Some.is at c.in_ok-accept.ensures in
    let line = c.args.line.now in
    let f = c.in-Some.fault in
    let lines = c.accept.new.self.lines in
    λ a h.
    let r = rejects a h in (
      complaint (next_line_number a) line f,
      a,
      r.0,
      inr r.1,
      c.in_ok-explain-in-Some.ensures ∙ ap (λ (t : List ℕ). t ++ complaint (lines + 1) line f) r.2
          ∙ ap (λ (n : ℕ). c.args.out.now.items ++ complaint (n + 1) line f) r.0.lines_is,
    )
