-- The keys of a stripe that a call looks at.
--     all_here       they belong to the stripe
--     new_here       so a call hasn't taken them, if what it has taken is of other stripes
--     stripe_at      the stripe that is read
--     look_found, look_takes
--                    a call whose look fits hasn't looked at that stripe, which is there, and may take its keys
use Rattle.jc_world.proofs.Common.{◌≡◌, ℕ, ◌<◌, true, false, List, [], ◌∷◌, length, get_or, is_some, is_none, IsSomeAnd, nat_lt, ◌==◌, slice_get, Some, None, Option, sym, refl, ap, ◌∙◌, subst, not-true, ltb-true, eqb-true, and_parts, and_from, slice_get_read, pointwise, list_all, lookup, stripe_of, Bytes, keys_once, keys_own, AreKeys, State, WorldEvent, Task, SweepState, CallState, has_number, has_looked, is_to_look, may_look, fits, are_new, TakesKeys, IsWorldStripe, Sweeps, IsSoundWorld, WorldState, open_call}
use Rattle.jc_world.proofs.Shares.{fact_found, is_some_and}

-- 1. The keys of a stripe belong to it.

pub all_here : (w : WorldState) (i : ℕ) (s : State) (found : List Bytes) → IsWorldStripe w i s → AreKeys s found → list_all (λ k. stripe_of k w.config.stripes == i) found ≡ true
all_here w i s found at are = sym (λ j. list_all (λ k. stripe_of k (at.config_is j).stripes == at.number_is j) found) ∙ keys_own s found at.reached are

-- 2. A call hasn't taken them.

pub new_here : (stripes i : ℕ) (looked : List ℕ) (tasks : List Task) (keys : List Bytes) → has_looked looked i ≡ false → list_all (λ k. stripe_of k stripes == i) keys ≡ true
    → ((key : Bytes) → is_some (lookup (pointwise ◌==◌ key) tasks) ≡ true → has_looked looked (stripe_of key stripes) ≡ true) → are_new tasks keys ≡ true
new_here stripes i looked tasks [] fresh here before = refl
new_here stripes i looked tasks (key ∷ keys) fresh here before =
    let parts = and_parts (stripe_of key stripes == i) (list_all (λ k. stripe_of k stripes == i) keys) here in
    and_from _ _ (go (lookup (pointwise ◌==◌ key) tasks) refl (eqb-true (stripe_of key stripes) i parts.0)) (new_here stripes i looked tasks keys fresh parts.1 before)
  where
    go : (o : Option _) → lookup (pointwise ◌==◌ key) tasks ≡ o → stripe_of key stripes ≡ i → is_none o ≡ true
    go None e is = refl
    go (Some x) e is = let t : true ≡ false = sym (before key (ap is_some e)) ∙ ap (has_looked looked) is ∙ fresh in cc

-- 3. A look that fits.

-- the stripe that is read
pub stripe_at : (w : WorldState) (items : List State) (stripe : ℕ) (s : State) → IsSoundWorld w → items ≡ w.stripes → stripe < w.config.stripes → s ≡ get_or items stripe s → (slice_get w.stripes stripe ≡ Some s) × (s.config ≡ w.config)
stripe_at w items stripe s old same within is =
    let there : slice_get w.stripes stripe ≡ Some s =
    slice_get_read w.stripes (length w.stripes) stripe s refl (subst (λ n. stripe < n) (sym old.shape.count) within) (is ∙ ap (λ ss. get_or ss stripe s) same)
    in
    (there, (old.shape.each stripe s there).config_is)

-- the call hasn't looked at the stripe, which is there
pub look_found : (w : WorldState) (call stripe : ℕ) → fits w (WorldEvent.Look call stripe) ≡ true
    → (u : CallState) × (s : SweepState) × (open_call w call ≡ Some u) × (u.sweep ≡ Some s) × (has_looked s.looked stripe ≡ false) × (stripe < w.config.stripes)
look_found w call stripe fit = go (open_call w call) refl
  where
    go : (o : Option CallState) → open_call w call ≡ o → (u : CallState) × (s : SweepState) × (open_call w call ≡ Some u) × (u.sweep ≡ Some s) × (has_looked s.looked stripe ≡ false) × (stripe < w.config.stripes)
    go None e = let t : false ≡ true = sym (ap (may_look w.config.stripes stripe) e) ∙ fit in cc
    go (Some u) e =
        let parts = and_parts (nat_lt stripe w.config.stripes) (is_to_look stripe u.sweep) (sym (ap (may_look w.config.stripes stripe) e) ∙ fit) in
        by u.sweep refl parts.1 (ltb-true stripe w.config.stripes parts.0)
      where
        by : (o : Option SweepState) → u.sweep ≡ o → is_to_look stripe o ≡ true → stripe < w.config.stripes
            → (u : CallState) × (s : SweepState) × (open_call w call ≡ Some u) × (u.sweep ≡ Some s) × (has_looked s.looked stripe ≡ false) × (stripe < w.config.stripes)
        by None f h within = cc
        by (Some s) f h within = (u, s, e, f, not-true (has_looked s.looked stripe) h, within)

-- and may take its keys
pub look_takes : (w : WorldState) (call stripe : ℕ) (from : State) (keys : List Bytes) → fits w (WorldEvent.Look call stripe) ≡ true → IsSoundWorld w → slice_get w.stripes stripe ≡ Some from → AreKeys from keys → IsSomeAnd (open_call w call) (TakesKeys keys)
look_takes w call stripe from keys fit old there are =
    let at = look_found w call stripe fit in
    let own = fact_found (Sweeps w.config) (has_number call) w.calls at.0 at.2 old.sweeps at.1 at.3 in
    let is = old.shape.each stripe from there in
    is_some_and (open_call w call) (TakesKeys keys) at.0 at.2
    (record {
      sweep = at.1;
      sweep_is = at.3;
      new = new_here w.config.stripes stripe at.1.looked at.0.tasks keys at.4 (all_here w stripe from keys is are) own;
      distinct = keys_once from keys is.reached are;
    })
