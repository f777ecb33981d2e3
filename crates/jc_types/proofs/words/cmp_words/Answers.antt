use Rattle.std.proofs.Common.{◌≡◌, ◌+◌, ◌*◌, ◌∙◌, ap, sym, take, drop, arith}
use Rattle.std.specs.Int.{w64, from_be_bytes}
use Rattle.std.specs.Ordering.{nat_cmp}
use Rattle.std.specs.Cmp.Lexicographic.{slice_cmp}
use Rattle.jc_types.proofs.WordOrder.{past_word, at_word}
use Rattle.jc_types.proofs.words.cmp_words.Goals as goal

-- src/words.rt:21:13
pub returns-then-a-b : goal.returns-then-a-b
returns-then-a-b c =
    let below = c.loop-i-test.true in
    c.cmp.ensures
    ∙ ap (λ n. nat_cmp n c.word_at-b.result) c.word_at-a.ensures
    ∙ ap (λ n. nat_cmp (from_be_bytes w64 (take 8 (drop (c.loop-i.i * 8) c.args.mine.now))) n) c.word_at-b.ensures
    ∙ sym (at_word c.args.mine.now c.args.theirs.now (c.loop-i.i * 8) (omega (arith, c.told-mine, below)) (omega (arith, c.told-theirs, below)) c.fits-mine c.fits-theirs
    (λ same. c.if-a-b.true (c.word_at-a.ensures ∙ same ∙ sym c.word_at-b.ensures)))
    ∙ sym c.loop-i.invariant

-- src/words.rt:18:5
pub loop-i-preserved : goal.loop-i-preserved
loop-i-preserved c =
    let below = c.loop-i-test.true in
    let next : c.loop-i.i * 8 + 8 ≡ (c.loop-i.i + 1) * 8 = omega arith in
    c.loop-i.invariant
    ∙ past_word c.args.mine.now c.args.theirs.now (c.loop-i.i * 8) (omega (arith, c.told-mine, below)) (omega (arith, c.told-theirs, below)) c.fits-mine c.fits-theirs
    (sym c.word_at-a.ensures ∙ c.if-a-b.false ∙ c.word_at-b.ensures)
    ∙ ap (λ k. slice_cmp nat_cmp (drop k c.args.mine.now) (drop k c.args.theirs.now)) next
