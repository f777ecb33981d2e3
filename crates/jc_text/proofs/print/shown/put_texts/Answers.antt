use Rattle.std.proofs.Common.{◌++◌, ◌≤◌, ap, ◌∙◌, sym, subst, append-nil}
use Rattle.jc_text.proofs.Texts.{texts_over}
use Rattle.jc_text.proofs.print.shown.put_texts.Goals as goal

pub returns : goal.returns
returns c =
    let over = texts_over c.loop-place.place c.args.events.now c.args.seen.now (subst (λ n. n ≤ c.loop-place.place) c.min-place-end.ensures c.loop-place-test.false) in
    sym (append-nil c.loop-place.out.items) ∙ ap (λ text. c.loop-place.out.items ++ text) (sym over) ∙ c.loop-place.invariant
