-- What the checker tests of an opening and of the stripe, and what a legal history says of them.
use Rattle.std.proofs.Common.{◌≡◌, ◌==◌, ◌≤◌, ℕ, List, [], ◌∷◌, length, Bool, true, false, cond, Option, Some, is_some, refl, ap, ◌∙◌, arith}
use Rattle.std.specs.List.{list_all}
use Rattle.std.specs.Ordering.{eq_by_cmp}
use Rattle.std.specs.Cmp.{eq_by_cmp_equiv}
use Rattle.std.proofs.lemmas.Bool.{and_parts, and_from, eqb-true, eq-eqb}
use Rattle.std.proofs.lemmas.Cmp.{nat_list_cmp_total}
use Rattle.std.specs.FinMap.{find, from_entries, get-from_entries}
use Rattle.jc_types.specs.declared.config.Config.{Config}
use Rattle.jc_types.specs.Stripes.{stripe_of}
use Rattle.jc_model.specs.declared.event.Event.{Event}
use Rattle.jc_model.specs.Cache.{Bytes, key_cmp}
use Rattle.jc_model.specs.Listed.{has_distinct_keys}
use Rattle.jc_model.specs.Legal.{IsOpening, event_key, is_of_stripe}
use Rattle.jc_model.specs.Reader.{are_of_stripe, are_of_one_stripe}
use Rattle.jc_model.proofs.CallerLemmas.{len-distinct}

-- 1. The keys of an opening.

-- and a test that holds of each key that is found holds of each entry's key
holds_found : (p : Bytes → Bool) (entries : List (Bytes × Bytes)) → ((q : Bytes) → is_some (find key_cmp q entries) ≡ true → p q ≡ true) → list_all (λ e. p e.0) entries ≡ true
holds_found p [] h = refl
holds_found p (e ∷ es) h =
    and_from (p e.0) (list_all (λ e. p e.0) es)
    (h e.0 (ap (λ b. is_some (cond b (Some e.1) (find key_cmp e.0 es))) ((eq_by_cmp_equiv nat_list_cmp_total).refl e.0)))
    (holds_found p es (λ q found. h q (later (eq_by_cmp key_cmp q e.0) (find key_cmp q es) e.1 found)))
  where
    later : (b : Bool) (o : Option Bytes) (v : Bytes) → is_some o ≡ true → is_some (cond b (Some v) o) ≡ true
    later true o v found = refl
    later false o v found = found

-- 2. Openings.

pub opening_few : (config : Config) (stripe : ℕ) (opening : List (Bytes × Bytes)) → has_distinct_keys opening ≡ true → IsOpening config stripe (from_entries opening) → length opening ≤ config.capacity
opening_few config stripe opening once opens = let e = len-distinct opening once in let few = opens.few in omega arith

pub opening_own : (config : Config) (stripe : ℕ) (opening : List (Bytes × Bytes)) → IsOpening config stripe (from_entries opening)
    → list_all (λ e. stripe_of e.0 config.stripes == stripe) opening ≡ true
opening_own config stripe opening opens =
    holds_found (λ k. stripe_of k config.stripes == stripe) opening
    (λ key found. eq-eqb _ _ (opens.own key (ap is_some (get-from_entries nat_list_cmp_total opening key) ∙ found)))

-- 3. One stripe.

-- keys that are all of some stripe are of the stripe of the first
pub of_first : (stripes stripe : ℕ) (opening : List (Bytes × Bytes)) (events : List Event) → are_of_stripe stripes stripe opening events ≡ true → are_of_one_stripe stripes opening events ≡ true
of_first stripes stripe [] [] h = refl
of_first stripes stripe [] (v ∷ vs) h =
    let here = and_parts (stripe_of (event_key v) stripes == stripe) (list_all (is_of_stripe stripes stripe) vs) h in
    ap (λ s. are_of_stripe stripes s [] (v ∷ vs)) (eqb-true _ _ here.0) ∙ h
of_first stripes stripe (o ∷ os) events h =
    let parts = and_parts (list_all (λ e. stripe_of e.0 stripes == stripe) (o ∷ os)) (list_all (is_of_stripe stripes stripe) events) h in
    let here = and_parts (stripe_of o.0 stripes == stripe) (list_all (λ e. stripe_of e.0 stripes == stripe) os) parts.0 in
    ap (λ s. are_of_stripe stripes s (o ∷ os) events) (eqb-true _ _ here.0) ∙ h
