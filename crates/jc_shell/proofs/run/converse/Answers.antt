use Rattle.jc_shell.proofs.Common.{◌∙◌, rules, take_rest}
use Rattle.jc_shell.proofs.Streams.{err_both, err_then, fits_reading, nothing_taken, ok_then, ran_out, ran_quit, stopped_answering, stopped_ending, stopped_first, stopped_reading, talked_next}
use Rattle.jc_shell.proofs.run.converse.Goals as goal

pub returns-in-Err-clause-stopped : goal.returns-in-Err-clause-stopped
returns-in-Err-clause-stopped g c =
    let s = c.in-Err.ensures.err in
    stopped_first _ c.in-Err.fault _ _ _ _ s.1.0 s.0 s.1.1 s.1.2

pub returns-in-Err-read_more-clause-stopped : goal.returns-in-Err-read_more-clause-stopped
returns-in-Err-read_more-clause-stopped g c =
    let r = c.in-Err-read_more.ensures.err in
    stopped_reading _ _ _ _ _ _ _ _ _ c.reads.input.items r.2.0 c.reads.at _ _ _ c.reads.invariant.0 r.2.2 (nothing_taken r.2.1 r.1)
    (fits_reading c.in-Err-read_more.fault c.reads.input.items r.2.0 r.1 r.2.1 (search rules) r.2.3)

pub returns-in-Err-answer_lines-clause-stopped : goal.returns-in-Err-answer_lines-clause-stopped
returns-in-Err-answer_lines-clause-stopped g c =
    let t = c.reads.invariant.0 in
    let m = c.in-Ok-true.ensures.ok in
    let r = c.in-Err-answer_lines.ensures.err t.b t.holds in
    stopped_answering _ _ _ _ _ _ _ _ _ _ _ c.reads.input.items m.0 c.read_more.new.input.items c.reads.at _ _ _
    r.0 r.1 r.2 r.3 r.4 r.6 r.5 t m.2 m.1 r.7 (rw (take_rest c.read_more.new.input.items c.reads.at) at (rw c.deref.ensures.value at r.8)) r.9 r.10 r.11 r.12
    c.in-Err-answer_lines.ensures.kinds m.3 r.13

pub returns-in-Ok-None-clause-ran : goal.returns-in-Ok-None-clause-ran
returns-in-Ok-None-clause-ran g c =
    let t = c.reads.invariant.0 in
    let m = c.in-Ok-true.ensures.ok in
    let ok = rw c.in-Ok-None.field-0-is at c.in-Ok-None.ensures.ok in
    let r = ok t.b t.holds in
    ran_quit _ _ _ _ _ _ _ _ _ _ c.reads.input.items m.0 c.read_more.new.input.items c.reads.at _ _ _
    r.0 r.1 r.2 r.4 r.3 t m.2 m.1 r.5 (rw (take_rest c.read_more.new.input.items c.reads.at) at (rw c.deref.ensures.value at r.6)) r.7 r.8 r.9 m.3

pub reads-preserved : goal.reads-preserved
reads-preserved g c =
    let t = c.reads.invariant.0 in
    let m = c.in-Ok-true.ensures.ok in
    let ok = rw c.in-Ok-Some.field-0-is at c.in-Ok-Some.ensures.ok in
    let r = ok t.b t.holds in (
      rw (c.len-in-Ok-Some.ensures ∙ c.read_more.new.input.ok.0)
          (talked_next _ _ _ _ _ _ _ _ _ _ c.reads.input.items m.0 c.read_more.new.input.items c.reads.at c.in-Ok-Some.left _ _ _ _ _ _
          r.0 r.1 r.2 r.4 r.3 t m.2 m.1 r.5 (rw (take_rest c.read_more.new.input.items c.reads.at) at (rw c.deref.ensures.value at r.6)) r.7 r.8 r.9.0 r.9.1 r.9.2),
      m.3,
      search rules,
      search rules,
    )

pub returns-in-Ok-false-clause-ran : goal.returns-in-Ok-false-clause-ran
returns-in-Ok-false-clause-ran g c =
    let t = c.reads.invariant.0 in
    let m = c.in-Ok-false.ensures.ok in
    let end = m.5 c.in-Ok-false.field-0-test in
    ok_then c.end_input.result _ _ (λ said.
    let s = said t.b t.holds in
    ran_out _ _ _ _ _ _ _ _ _ c.reads.input.items m.0 c.read_more.new.input.items c.reads.at _ _ _
    s.0 t m.2 m.1 end.0 end.1 (rw (take_rest c.read_more.new.input.items c.reads.at) at (rw c.deref-in-Ok-false.ensures.value at s.1)) s.2 (search rules)) c.end_input.ensures.ok

pub returns-in-Ok-false-clause-stopped : goal.returns-in-Ok-false-clause-stopped
returns-in-Ok-false-clause-stopped g c =
    let t = c.reads.invariant.0 in
    let m = c.in-Ok-false.ensures.ok in
    let end = m.5 c.in-Ok-false.field-0-test in
    err_then c.end_input.result _ _ (λ e said.
    let s = said.0 t.b t.holds in
    stopped_ending _ e _ _ _ _ _ _ _ _ c.reads.input.items m.0 c.read_more.new.input.items c.reads.at _ _ _
    s.0 s.1 t m.2 m.1 end.0 end.1 (rw (take_rest c.read_more.new.input.items c.reads.at) at (rw c.deref-in-Ok-false.ensures.value at s.2)) s.3 s.4
    said.1 (search rules)) (err_both c.end_input.result _ _ c.end_input.ensures.err c.end_input.ensures.kinds)
