use Rattle.jc_snapshot.proofs.Common.{[], ◌∷◌, ◌++◌, take, sym, subst, ◌∙◌, framed, AreRows, IsOpenCallRow}
use Rattle.jc_snapshot.proofs.FlatRows.{rows_stay, rows_push, flat_push}
use Rattle.jc_snapshot.proofs.TableNumbers.{take_next}
use Rattle.jc_snapshot.proofs.StripeRows.{call_stays, grows_self, grows_twice}
use Rattle.jc_snapshot.proofs.calls.call_rows.Goals as goal

pub loop-call-init : goal.loop-call-init
loop-call-init c = (([], c.new-words.ensures.items, tt), grows_self _)

pub loop-call-preserved : goal.loop-call-preserved
loop-call-preserved c =
    let i = c.loop-call.call-index in
    let x = c.call-item.result in
    let s = c.loop-call.seen in
    let t = c.call_row.new.seen in
    let old = c.loop-call.invariant.0 in
    let row = c.in_ok-row.row.items in
    let xs = take i c.args.calls.now in
    let stays = rows_stay (IsOpenCallRow s) (IsOpenCallRow t) (call_stays s t c.call_row.ensures.grows) xs old.0 old.2 in
    let all = rows_push (IsOpenCallRow t) xs old.0 x row stays c.in_ok-row.ensures.row in
    let written = c.in_ok-push_row.ensures ∙ (λ j. old.1 j ++ framed (c.deref.ensures.value j)) ∙ sym (flat_push old.0 row) in
    ((old.0 ++ row ∷ [], written, subst (λ ys. AreRows (IsOpenCallRow t) ys (old.0 ++ row ∷ [])) (sym (take_next c.args.calls.now i x c.loop-call-test.true c.call-item.is)) all), grows_twice _ _ _ c.loop-call.invariant.1 c.call_row.ensures.grows)

pub returns-in_err-push_row-clause-grows : goal.returns-in_err-push_row-clause-grows
returns-in_err-push_row-clause-grows c = grows_twice _ _ _ c.loop-call.invariant.1 c.call_row.ensures.grows
