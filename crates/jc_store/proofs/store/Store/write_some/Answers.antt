use Rattle.std.proofs.Common.{◌++◌, [], ◌∷◌, Some, take, ap, sym, ◌∙◌}
use Rattle.std.proofs.lemmas.List.{take_more}
use Rattle.std.proofs.lemmas.Option.{get_or_from_slice_get, slice_get_within}
use Rattle.jc_model.specs.Cache.{Bytes, with_entry}
use Rattle.jc_store.specs.Store.{with_entries}
use Rattle.jc_store.proofs.Batches.{with_entries-last, when_ok}
use Rattle.jc_store.proofs.store.Store.write_some.Goals as goal

pub loop-place-preserved : goal.loop-place-preserved
loop-place-preserved c =
    let entries = c.args.entries.now.entries in
    let place = c.loop-place.place in
    let done = take place entries in
    let e : Bytes × Bytes = (c.in-Some.key.now, c.in-Some.value.now) in
    let there = sym c.in-Some.ensures.entry in
    when_ok c.write.result _ (sym c.is_err.ensures.value ∙ c.if-is_err.false) c.write.ensures.ok
    ∙ ap (λ s. with_entry s e.0 (Some e.1)) c.loop-place.invariant
    ∙ sym (with_entries-last c.args.self.now done e)
    ∙ ap (with_entries c.args.self.now)
    (ap (λ (x : Bytes × Bytes). done ++ x ∷ []) (sym (get_or_from_slice_get entries place e e there)) ∙ sym (take_more entries place e (slice_get_within entries place e there)))
