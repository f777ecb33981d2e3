use Rattle.std.proofs.Common.{◌≡◌, ◌<◌, ◌≤◌, ℕ, Bool, true, false, cond, List, None, length, nat_lt, ap, sym, ◌∙◌, arith}
use Rattle.std.proofs.lemmas.Bool.Decides.{nat_tests}
use Rattle.std.specs.FinMap.{len}
use Rattle.jc_model.specs.Cache.{Bytes}
use Rattle.jc_model.specs.Listed.{has_distinct_keys}
use Rattle.jc_model.proofs.CallerLemmas.{len-distinct}
use Rattle.jc_entries.specs.ByUse.{lru_victim}
use Rattle.jc_stripe.specs.Inside.{state_of, IsStripe}
use Rattle.jc_stripe.specs.declared.stripe.Stripe.TheInside.{Inside}
use Rattle.jc_stripe.specs.OrderOfUse.{next_victim, least_used, by_use}
use Rattle.jc_stripe.proofs.stripe.Stripe.next_victim.Goals as goal

below : (n m : ℕ) → n < m → nat_lt n m ≡ true
below n m low = grind (arith, nat_tests)

not_below : (n m : ℕ) → m ≤ n → nat_lt n m ≡ false
not_below n m low = grind (arith, nat_tests)

cached : (i : Inside) → IsStripe i → len (state_of i).cache ≡ length i.entries.list
cached i sound = len-distinct i.entries.list (ap has_distinct_keys sound.by_use ∙ sound.state.used.once)

pub returns-then-len-capacity : goal.returns-then-len-capacity
returns-then-len-capacity c =
    let i = c.self.inside in
    let long = cached i c.self.invariant in
    let low : nat_lt (len (state_of i).cache) i.config.capacity ≡ true = below _ _ (omega (arith, long, c.len.ensures.len, c.capacity.ensures.capacity, c.self.invariant.capacity, c.if-len-capacity.true)) in
    sym (ap (λ (b : Bool). cond b None (least_used (state_of i))) low) ∙ ap next_victim c.self.view_is

pub returns : goal.returns
returns c =
    let i = c.self.inside in
    let long = cached i c.self.invariant in
    let full : nat_lt (len (state_of i).cache) i.config.capacity ≡ false = not_below _ _ (omega (arith, long, c.len.ensures.len, c.capacity.ensures.capacity, c.self.invariant.capacity, c.if-len-capacity.false)) in
    c.lru_victim.ensures ∙ ap (λ (l : List (Bytes × Bytes)). lru_victim l c.keys.result.now) c.self.invariant.by_use
    ∙ ap (lru_victim (by_use i.life.opening i.history.events)) c.keys.ensures.keys
    ∙ sym (ap (λ (b : Bool). cond b None (least_used (state_of i))) full) ∙ ap next_victim c.self.view_is
