use Rattle.jc_litmus.proofs.Common.{◌∙◌, ap, arith, Bool, sym, ended, explanation_at_end}
use Rattle.jc_litmus.proofs.ProgramLines.{at_fault, last_line, next_line}
use Rattle.jc_litmus.proofs.ExplainedLines.{last_told, next_told, told_at_fault}
use Rattle.jc_litmus.proofs.reading.read_lines.Goals as goal

pub loop-text-preserved : goal.loop-text-preserved
loop-text-preserved c =
    let before = c.loop-text.reading in
    let after = c.read_line.new.self in
    let n = c.loop-text.number in
    let text = c.in-Some.text.now in
    let more = c.in-Some.after.now in
    let rest = c.loop-text.rest.now in (
      omega (arith, c.loop-text.invariant.0, c.in-Some.ensures.1),
      sym (next_line before after n text more rest c.in-Some.ensures.0 c.in-Ok.ensures.read) ∙ c.loop-text.invariant.1,
      c.loop-text.invariant.2,
      sym (next_told before after n text more rest c.in-Some.ensures.0 c.in-Ok.ensures.read) ∙ c.loop-text.invariant.3,
    )

pub returns-in-Err-clause-program : goal.returns-in-Err-clause-program
returns-in-Err-clause-program c =
    let read = at_fault c.loop-text.reading c.read_line.new.self c.loop-text.number c.in-Some.text.now c.in-Some.after.now c.loop-text.rest.now c.in-Err.error
    _ _ c.note_error.result c.in-Some.ensures.0 c.in-Err.ensures.read c.note_error.ensures in
    rw (← c.loop-text.invariant.1) read

pub returns-in-Err-clause-notes : goal.returns-in-Err-clause-notes
returns-in-Err-clause-notes c =
    let notes = told_at_fault c.loop-text.reading c.read_line.new.self c.loop-text.number c.in-Some.text.now c.in-Some.after.now c.loop-text.rest.now c.in-Err.error
    _ _ c.note_error.result c.in-Some.ensures.0 c.in-Err.ensures.read c.in-Err.ensures.kept c.note_error.ensures in
    rw (← c.loop-text.invariant.3, ← c.loop-text.invariant.2) notes

pub returns-clause-program : goal.returns-clause-program
returns-clause-program c =
    let so_far = c.loop-text.reading in
    let n = c.loop-text.number in
    sym c.loop-text.invariant.1
    ∙ last_line so_far n c.loop-text.rest.now c.in_default.ensures
    ∙ ap (λ (b : Bool). ended so_far n b) (sym c.is_blank.ensures)

pub returns-clause-notes : goal.returns-clause-notes
returns-clause-notes c =
    let so_far = c.loop-text.reading in
    let n = c.loop-text.number in (
      c.loop-text.invariant.2,
      sym c.loop-text.invariant.3
          ∙ last_told so_far n c.loop-text.rest.now c.in_default.ensures
          ∙ ap (λ (b : Bool). explanation_at_end so_far n b) (sym c.is_blank.ensures),
    )
