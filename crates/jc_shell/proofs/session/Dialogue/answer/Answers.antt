use Rattle.jc_shell.proofs.Common.{◌≡◌, ◌∙◌, ◌++◌, ℕ, List, [], ap, refl, sym, help_text, line_help, name_in, word_of, Help, HelpOn, Line, Undo}
use Rattle.jc_shell.proofs.Turns.{calls_none}
use Rattle.jc_shell.proofs.session.Dialogue.answer.Goals as goal

pub returns-in_ok-put-in-Help-clause-answered : goal.returns-in_ok-put-in-Help-clause-answered
returns-in_ok-put-in-Help-clause-answered g c =
    let word : word_of c.args.line.now ≡ Help = sym c.word_of.ensures ∙ c.in-Help.is in
    λ a h. (help_text, [], a, h, rw word (refl, refl, refl), c.in_ok-put-in-Help.ensures, calls_none _)

pub returns-in_ok-put-in-HelpOn-clause-answered : goal.returns-in_ok-put-in-HelpOn-clause-answered
returns-in_ok-put-in-HelpOn-clause-answered g c =
    let line = c.args.line.now in
    let word : word_of line ≡ HelpOn = sym c.word_of.ensures ∙ c.in-HelpOn.is in
    let text = c.line_help.ensures ∙ ap line_help c.name_in.ensures in
    λ a h. (line_help (name_in line), [], a, h, rw word (refl, refl, refl), c.in_ok-put-in-HelpOn.ensures ∙ ap (λ (t : List ℕ). c.args.out.now.items ++ t) text, calls_none _)

pub returns-in_ok-undo-in-Undo-clause-answered : goal.returns-in_ok-undo-in-Undo-clause-answered
returns-in_ok-undo-in-Undo-clause-answered g c =
    let word : word_of c.args.line.now ≡ Undo = sym c.word_of.ensures ∙ c.in-Undo.is in
    λ a h.
    let r = c.in_ok-undo-in-Undo.ensures a h in
    (r.0, [], r.1, r.2, rw word (refl, r.3), r.4, calls_none _)

pub returns-in_ok-play-in-Line-clause-answered : goal.returns-in_ok-play-in-Line-clause-answered
returns-in_ok-play-in-Line-clause-answered g c =
    let word : word_of c.args.line.now ≡ Line = sym c.word_of.ensures ∙ c.in-Line.is in
    λ a h.
    let r = c.in_ok-play-in-Line.ensures a h in
    (r.0, [], r.1, r.2, rw word (refl, r.3), r.4, calls_none _)
