use Rattle.jc_snapshot.proofs.Common.{◌≡◌, ◌+◌, [], ◌∷◌, ◌++◌, length, map, take, refl, sym, ap, subst, ◌∙◌, map-append, slice_get_read, essence_of, framed, AreRows, IsStripeRow}
use Rattle.jc_snapshot.proofs.FlatRows.{rows_stay, rows_push, flat_push}
use Rattle.jc_snapshot.proofs.TableNumbers.{take_next}
use Rattle.jc_snapshot.proofs.StripeRows.{stripe_stays, grows_self, grows_twice}
use Rattle.jc_snapshot.proofs.stripes.stripe_rows.Goals as goal

pub loop-stripe-init : goal.loop-stripe-init
loop-stripe-init c = (([], c.new-words.ensures.items, tt), grows_self _)

pub stripe_row-requires : goal.stripe_row-requires
stripe_row-requires c =
    c.requires c.loop-stripe.stripe-index c.stripe-item.result
    (slice_get_read c.args.stripes.now (length c.args.stripes.now) c.loop-stripe.stripe-index c.stripe-item.result refl c.loop-stripe-test.true c.stripe-item.is)

pub loop-stripe-preserved : goal.loop-stripe-preserved
loop-stripe-preserved c =
    let i = c.loop-stripe.stripe-index in
    let x = c.stripe-item.result in
    let s = c.loop-stripe.seen in
    let t = c.stripe_row.new.seen in
    let old = c.loop-stripe.invariant.0 in
    let row = c.in_ok-row.row.items in
    let xs = map essence_of (take i c.args.stripes.now) in
    let stays = rows_stay (IsStripeRow s) (IsStripeRow t) (stripe_stays s t c.stripe_row.ensures.grows) xs old.0 old.2 in
    let all = rows_push (IsStripeRow t) xs old.0 (essence_of x) row stays c.in_ok-row.ensures.row in
    let listed : map essence_of (take (i + 1) c.args.stripes.now) ≡ xs ++ essence_of x ∷ [] =
    ap (map essence_of) (take_next c.args.stripes.now i x c.loop-stripe-test.true c.stripe-item.is) ∙ map-append essence_of (take i c.args.stripes.now) (x ∷ [])
    in
    let written = c.in_ok-push_row.ensures ∙ (λ j. old.1 j ++ framed (c.deref.ensures.value j)) ∙ sym (flat_push old.0 row) in
    ((old.0 ++ row ∷ [], written, subst (λ ys. AreRows (IsStripeRow t) ys (old.0 ++ row ∷ [])) (sym listed) all), grows_twice _ _ _ c.loop-stripe.invariant.1 c.stripe_row.ensures.grows)

pub returns-in_err-push_row-clause-grows : goal.returns-in_err-push_row-clause-grows
returns-in_err-push_row-clause-grows c = grows_twice _ _ _ c.loop-stripe.invariant.1 c.stripe_row.ensures.grows
