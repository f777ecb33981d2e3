use Rattle.std.proofs.Common.{sym, ◌∙◌}
use Rattle.std.proofs.lemmas.Option.{none-some, same_Some}
use Rattle.jc_lock.proofs.Steps.{closes}
use Rattle.jc_lock.proofs.lock.HistLock.close.Goals as goal

pub unreachable-requires : goal.unreachable-requires
unreachable-requires c = let f = c.close_with-closed.ensures.values.2 in
    let e = closes (λ b. b.value) f.0 _ _ c.seat.invariant.0 _ _ f.1 f.2 f.4 _ c.word-word.ensures c.if-word-ne-FREE.false _ c.take-stripe.ensures.value in none-some e.0 (sym c.in-None.is ∙ e.1)

pub returns : goal.returns
returns c = let f = c.close_with-closed.ensures.values.2 in
    let e = closes (λ b. b.value) f.0 _ _ c.seat.invariant.0 _ _ f.1 f.2 f.4 _ c.word-word.ensures c.if-word-ne-FREE.false _ c.take-stripe.ensures.value in
    let same = same_Some _ _ (sym e.1 ∙ c.in-Some.is) in
    rw (← c.seat.view_is, ← same) e.2
