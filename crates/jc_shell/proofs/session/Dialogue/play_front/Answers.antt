use Rattle.jc_shell.proofs.Common.{◌≡◌, ◌∙◌, ◌∷◌, ◌++◌, ℕ, List, [], ap, arith, length, pieces_of, refl, rules, sym, nobody, script_of}
use Rattle.jc_shell.proofs.Feeds.{no_feed}
use Rattle.jc_shell.proofs.Lines.{first_is_whole, line_and_rest}
use Rattle.jc_shell.proofs.Turns.{next_script, nothing_of}
use Rattle.jc_shell.proofs.session.Dialogue.play_front.Goals as goal

pub loop-line-init : goal.loop-line-init
loop-line-init c = (nobody, c.requires, refl, λ some. some)

pub accept-requires : goal.accept-requires
accept-requires c = first_is_whole c.loop-line.rest.now c.in-Some.line.now (pieces_of c.in-Some.after.now) c.in-Some.ensures.0

pub loop-line-preserved : goal.loop-line-preserved
loop-line-preserved c =
    let rest = c.loop-line.rest.now in
    let line = c.in-Some.line.now in
    let after = c.in-Some.after.now in
    let is = line_and_rest rest line after c.in-Some.ensures.0 in
    let b = c.loop-line.invariant.0 in
    let r = (rw c.in-None.is at c.in_ok-accept.ensures) b c.loop-line.invariant.1 in
    (r.1, r.2, next_script c.args.script.now b r.1 line r.0 rest after r.3.0 c.loop-line.invariant.2 is, λ some. search rules)

pub returns-then-is_empty : goal.returns-then-is_empty
returns-then-is_empty c =
    let rest = c.loop-line.rest.now in
    let line = c.in-Some.line.now in
    let after = c.in-Some.after.now in
    let b = c.loop-line.invariant.0 in
    let whole = first_is_whole rest line (pieces_of after) c.in-Some.ensures.0 in
    let none : length after ≡ 0 = search rules in
    let empty = nothing_of after none in
    let is = line_and_rest rest line after c.in-Some.ensures.0 ∙ ap (λ (t : List ℕ). line ++ 10 ∷ t) empty in
    λ lines made some. (
      b,
      c.loop-line.invariant.1,
      λ yes. (line, whole, c.loop-line.invariant.2 ∙ ap (λ (t : List ℕ). script_of b.lines ++ t) is),
      λ no. absurd cc,
    )

pub returns-in-Some-2 : goal.returns-in-Some-2
returns-in-Some-2 c =
    let rest = c.loop-line.rest.now in
    let line = c.in-Some.line.now in
    let after = c.in-Some.after.now in
    let b = c.loop-line.invariant.0 in
    let rejects = rw c.in-Some-2.is at c.in_ok-accept.ensures in
    let r = rejects b c.loop-line.invariant.1 in
    let is = line_and_rest rest line after c.in-Some.ensures.0 in
    λ lines made some. (
      b,
      r.0,
      λ yes. absurd cc,
      λ no. (b.lines, line, after, _, _, c.loop-line.invariant.2 ∙ ap (λ (t : List ℕ). script_of b.lines ++ t) is, r.1.1.1),
    )

pub returns : goal.returns
returns c =
    let rest = c.loop-line.rest.now in
    let b = c.loop-line.invariant.0 in
    λ lines made some.
    let empty = no_feed lines (script_of b.lines) rest (sym made ∙ c.loop-line.invariant.2) (first_is_whole rest rest [] c.in_default.ensures) in
    let left = c.loop-line.invariant.3 some in
    absurd (omega (arith, left, ap length empty))
