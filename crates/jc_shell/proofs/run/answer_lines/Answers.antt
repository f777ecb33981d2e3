use Rattle.jc_shell.proofs.Common.{◌≡◌, ◌∷◌, [], ◌++◌, append_assoc, refl, rules, Quit, word_of, pieces_of, appends-then}
use Rattle.jc_shell.proofs.Lines.{first_is_whole, line_and_rest}
use Rattle.jc_shell.proofs.Turns.{calls_none, calls_then}
use Rattle.jc_shell.proofs.Streams.{answered_one, answered_then, appends_none, left_of, read_one, read_then, stops_then, written_then}
use Rattle.jc_shell.proofs.run.answer_lines.Goals as goal

pub loop-line-init : goal.loop-line-init
loop-line-init g c = (λ a h. ([], [], [], a, (refl, refl, refl), refl, appends_none _, calls_none _, h), λ calm. calm)

pub answer_line-requires-clause-whole : goal.answer_line-requires-clause-whole
answer_line-requires-clause-whole g c = first_is_whole c.loop-line.rest.now c.in-Some.line.now (pieces_of c.in-Some.after.now) c.in-Some.ensures.0

pub loop-line-preserved : goal.loop-line-preserved
loop-line-preserved g c =
    let rest = c.loop-line.rest.now in
    let line = c.in-Some.line.now in
    let after = c.in-Some.after.now in
    let prompt = c.args.prompt.now in
    let whole = first_is_whole rest line (pieces_of after) c.in-Some.ensures.0 in
    let is = line_and_rest rest line after c.in-Some.ensures.0 in (
      λ a h.
          let p = c.loop-line.invariant.0 a h in
          let r = c.in-Ok.ensures.ok p.3 p.8 in (
            p.0 ++ line ∷ [],
            p.1 ++ (r.0 ++ prompt),
            p.2 ++ r.1,
            r.2,
            answered_then prompt p.0 (line ∷ []) p.1 (r.0 ++ prompt) p.2 r.1 a p.3 r.2 p.4 (answered_one prompt p.3 line r.0 r.1 r.2 whole r.4),
            read_then c.args.bytes.now rest after p.0 (line ∷ []) p.5 (read_one rest line after is),
            appends-then _ _ _ p.1 (r.0 ++ prompt) p.6 r.5,
            calls_then _ _ _ p.2 r.1 p.7 r.6,
            r.3,
          ),
      search rules,
    )

pub returns-then-eq-clause-ok : goal.returns-then-eq-clause-ok
returns-then-eq-clause-ok g c =
    let rest = c.loop-line.rest.now in
    let line = c.in-Some.line.now in
    let after = c.in-Some.after.now in
    let is = line_and_rest rest line after c.in-Some.ensures.0 in
    let asked : word_of line ≡ Quit = search rules in
    λ a h.
    let p = c.loop-line.invariant.0 a h in
    (p.0, p.1, p.2, p.3, rest, p.4, p.5, p.6, p.7, (line, after, asked, is))

pub returns-in-Err-clause-err : goal.returns-in-Err-clause-err
returns-in-Err-clause-err g c =
    let rest = c.loop-line.rest.now in
    let line = c.in-Some.line.now in
    let after = c.in-Some.after.now in
    let prompt = c.args.prompt.now in
    let is = line_and_rest rest line after c.in-Some.ensures.0 in
    λ a h.
    let p = c.loop-line.invariant.0 a h in
    let r = c.in-Err.ensures.err p.3 p.8 in
    let left = left_of rest line after r.0 is r.6 in (
      p.0 ++ r.0,
      p.1 ++ r.1,
      p.1 ++ r.2,
      p.2 ++ r.3,
      r.4,
      r.5,
      left.0,
      answered_then prompt p.0 r.0 p.1 r.1 p.2 r.3 a p.3 r.5 p.4 r.7,
      read_then c.args.bytes.now rest left.0 p.0 r.0 p.5 left.1,
      written_then _ p.1 r.1 r.2 r.8,
      appends-then _ _ _ p.1 r.2 p.6 r.9,
      r.10,
      rw (append_assoc p.2 r.3 r.4) (calls_then _ _ _ p.2 (r.3 ++ r.4) p.7 r.11),
      λ write. stops_then prompt [] p.0 r.0 p.1 r.1 r.2 p.2 r.3 a p.3 r.5 p.4 (r.12 write),
    )

pub returns-clause-ok : goal.returns-clause-ok
returns-clause-ok g c = λ a h.
    let p = c.loop-line.invariant.0 a h in
    (p.0, p.1, p.2, p.3, c.loop-line.rest.now, p.4, p.5, p.6, p.7, (search rules, first_is_whole c.loop-line.rest.now c.loop-line.rest.now [] c.in_default.ensures, p.8))
