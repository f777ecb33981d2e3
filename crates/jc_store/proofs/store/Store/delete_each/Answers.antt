use Rattle.std.proofs.Common.{◌++◌, [], ◌∷◌, None, take, ap, sym, ◌∙◌}
use Rattle.std.proofs.lemmas.List.{take_more}
use Rattle.jc_model.specs.Cache.{Bytes, with_entry}
use Rattle.jc_store.specs.Store.{without_keys}
use Rattle.jc_store.proofs.Batches.{without_keys-last}
use Rattle.jc_store.proofs.store.Store.delete_each.Goals as goal

pub loop-key-preserved : goal.loop-key-preserved
loop-key-preserved c =
    let keys = c.args.keys.now in
    let done = take c.loop-key.key-index keys in
    let k = c.key-item.result in
    c.delete.ensures
    ∙ ap (λ s. with_entry s k None) c.loop-key.invariant
    ∙ sym (without_keys-last c.args.self.now done k)
    ∙ ap (without_keys c.args.self.now) (ap (λ (x : Bytes). done ++ x ∷ []) c.key-item.is ∙ sym (take_more keys c.loop-key.key-index k c.loop-key-test.true))
