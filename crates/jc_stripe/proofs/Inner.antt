-- What a stripe's fields say of its state.
use Rattle.std.proofs.Common.{List, [], ◌∷◌, ◌||◌, cond, is_some, ◌≡◌, ◌≤◌, ◌+◌, length, Bool, true, false, Some, find, refl, ap, ◌∙◌, arith}
use Rattle.std.specs.List.{list_any}
use Rattle.std.specs.FinMap.{len, from_entries}
use Rattle.jc_model.specs.Cache.{Bytes, key_cmp}
use Rattle.jc_model.specs.Listed.{has_distinct_keys}
use Rattle.jc_model.proofs.CallerLemmas.{len-distinct}
use Rattle.jc_history.specs.Past.{places_used}
use Rattle.jc_stripe.specs.declared.stripe.Stripe.TheInside.{Inside}
use Rattle.jc_stripe.specs.State.{is_key, is_reserved, promised, reservation_of}
use Rattle.jc_stripe.specs.Inside.{IsStripe, state_of}

-- the places that are gone are those of the events and the promised ones
pub used_of : (i : Inside) → IsStripe i → places_used i.history ≡ length (state_of i).history + promised (state_of i)
used_of i sound = ap (λ n. length i.history.events + n) sound.promised

-- how many entries there are
pub entries_len : (i : Inside) → IsStripe i → length i.entries.list ≤ i.entries.capacity
entries_len i sound =
    let n : len (from_entries {R = key_cmp} i.entries.list) ≡ length i.entries.list = len-distinct i.entries.list (ap has_distinct_keys sound.by_use ∙ sound.state.used.once) in
    let few = sound.state.few_entries in
    let c = sound.capacity in
    omega arith

some_found : {X : Type 0} (p : X → Bool) (xs : List X) → is_some (find p xs) ≡ list_any p xs
some_found p [] = refl
some_found p (x ∷ xs) = elim (p x) as (λ b. is_some (cond b (Some x) (find p xs)) ≡ (b || list_any p xs)) [ true ↦ refl | false ↦ some_found p xs ]

-- a key is reserved if the table finds it
pub reserved_found : (i : Inside) (key : Bytes) → is_some (reservation_of (state_of i) key) ≡ is_reserved (state_of i) key
reserved_found i key = some_found (is_key key) (state_of i).reservations
