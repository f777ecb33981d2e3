use Rattle.jc_snapshot.proofs.Common.{[], ◌∷◌, ◌++◌, map, refl, sym, ap, subst, ◌∙◌, essence_of, framed, flat, AreRows, IsStripeRow, IsOpenCallRow, own_rows}
use Rattle.jc_snapshot.proofs.FlatRows.{rows_stay, flat_push}
use Rattle.jc_snapshot.proofs.StripeRows.{grows_twice, stripe_stays, call_stays}
use Rattle.jc_snapshot.proofs.snapshot.Snapshot.of.Goals as goal

pub returns-clause-snapshot : goal.returns-clause-snapshot
returns-clause-snapshot c =
    let w = c.args.world.now.world in
    let s = c.stripe_rows.new.seen in
    let t = c.call_rows.new.seen in
    let u = c.own_words.new.seen in
    let g = grows_twice s t u c.call_rows.ensures.grows c.own_words.ensures.grows in
    let st = c.in_ok-stripes.ensures.rows in
    let ca = c.in_ok-calls.ensures.rows in
    let ow = c.in_ok-words.ensures.rows in
    let stripes = rows_stay (IsStripeRow s) (IsStripeRow u) (stripe_stays s u g) (map essence_of c.stripe_list.result.now) st.0 st.2 in
    let calls = rows_stay (IsOpenCallRow t) (IsOpenCallRow u) (call_stays t u c.own_words.ensures.grows) c.calls.result.now ca.0 ca.2 in
    let own = own_rows ow.0 w in
    let written =
    c.in_ok-push_row-2.ensures
    ∙ (λ i. (c.in_ok-push_row.ensures ∙ (λ j. ow.1 j ++ framed ((c.deref.ensures.value ∙ st.1) j))) i ++ framed ((c.deref-2.ensures.value ∙ ca.1) i))
    ∙ sym (flat_push (own ++ flat st.0 ∷ []) (flat ca.0) ∙ ap (λ l. l ++ framed (flat ca.0)) (flat_push own (flat st.0)))
    in (
      record { own = ow.0; stripes = st.0; calls = ca.0 },
      record {
        own = record { config_is = ow.2.config_is; premises_are = ow.2.premises_are; store_is = ow.2.store_is; parts_are = ow.2.parts_are; joins_are = ow.2.joins_are; foreign_are = ow.2.foreign_are };
        stripes_are = subst (λ ss. AreRows (IsStripeRow u) (map essence_of ss) st.0) c.stripe_list.ensures.stripes stripes;
        calls_are = subst (λ us. AreRows (IsOpenCallRow u) us ca.0) c.calls.ensures calls;
        rest_is = refl;
      },
      written,
    )

pub returns-in_err-calls-clause-grows : goal.returns-in_err-calls-clause-grows
returns-in_err-calls-clause-grows c = grows_twice _ _ _ c.stripe_rows.ensures.grows c.call_rows.ensures.grows
