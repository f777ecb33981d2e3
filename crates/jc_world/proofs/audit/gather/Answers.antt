use Rattle.jc_world.proofs.Common.{◌≡◌, ◌++◌, Option, ap, ◌∙◌, Bytes, entry_at, key_cmp, by_use, found_after}
use Rattle.std.specs.FinMap as map
use Rattle.jc_world.proofs.Homes.{found_next}
use Rattle.jc_world.proofs.audit.gather.Goals as goal

pub loop-stripe-init : goal.loop-stripe-init
loop-stripe-init c key = ap (λ (o : Option Bytes). found_after o c.args.stripes.now key) (ap (λ m. entry_at m key) c.new-all.ensures ∙ map.get-empty key_cmp key)

pub loop-stripe-preserved : goal.loop-stripe-preserved
loop-stripe-preserved c key =
    let listed : c.deref.result.now ≡ by_use c.stripe-item.result.opening c.stripe-item.result.history =
    c.deref.ensures.value ∙ c.in_ok-entries.ensures.by_use ∙ ap (λ es. es ++ by_use c.stripe-item.result.opening c.stripe-item.result.history) c.new-entries.ensures.items
    in
    found_next c.args.stripes.now c.loop-stripe.stripe-index c.stripe-item.result (entry_at c.loop-stripe.all key) (entry_at c.add_entries.new.all key) c.deref.result.now key
    c.loop-stripe-test.true c.stripe-item.is (ap (map.from_entries {R = key_cmp}) listed ∙ c.entries.ensures.cache) (c.in_ok-add_entries.ensures key)
    ∙ c.loop-stripe.invariant key
