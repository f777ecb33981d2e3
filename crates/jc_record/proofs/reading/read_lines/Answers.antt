use Rattle.jc_record.proofs.Common.{◌∙◌, ap, arith, Bool, sym}
use Rattle.jc_record.specs.Reading.{ended}
use Rattle.jc_record.proofs.RecordLines.{at_fault, last_line, next_line}
use Rattle.jc_record.proofs.reading.read_lines.Goals as goal

pub loop-text-preserved : goal.loop-text-preserved
loop-text-preserved c =
    let before = c.loop-text.reading in
    let after = c.read_line.new.self in (
      omega (arith, c.loop-text.invariant.0, c.in-Some.ensures.1),
      sym (next_line before after c.loop-text.number c.in-Some.text.now c.in-Some.after.now c.loop-text.rest.now c.in-Some.ensures.0 c.in-Ok.ensures) ∙ c.loop-text.invariant.1,
    )

pub returns-in-Err : goal.returns-in-Err
returns-in-Err c =
    let before = c.loop-text.reading in
    let after = c.read_line.new.self in
    let n = c.loop-text.number in
    let told = at_fault before after n c.in-Some.text.now c.in-Some.after.now c.loop-text.rest.now c.in-Err.error c.in-Some.ensures.0 c.in-Err.ensures in
    rw (c.fault_at.ensures, ← c.loop-text.invariant.1) told

pub returns : goal.returns
returns c =
    let so_far = c.loop-text.reading in
    let n = c.loop-text.number in
    sym c.loop-text.invariant.1
    ∙ last_line so_far n c.loop-text.rest.now c.in_default.ensures
    ∙ ap (λ (b : Bool). ended so_far n b) (sym c.is_blank.ensures)
