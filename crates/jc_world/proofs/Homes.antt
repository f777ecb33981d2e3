-- A stripe caches none but its own keys, so what all stripes cache for a key is what its own stripe does.
--     homes          a stripe that is reached caches no key of another
--     gathered       the stripes together cache what the world does
--     found_next     the stripes that are left, once one was gone through
--     untold         an entry that differs in a world that is coherent as told is of an untold key
--     all_untold     so are all that differ
use Rattle.jc_world.proofs.Common.{◌≡◌, ℕ, zero, suc, ◌+◌, ◌<◌, Bool, true, false, cond, not, ◌&&◌, List, [], ◌∷◌, map, length, get_or, drop, ◌==◌, slice_get, Some, None, filter, Option, sym, refl, ap, ◌∙◌, add-one, arith, drop-cons, ne_eqb, and_parts, and_from, and_right, nat_list_cmp_total, eq_by_cmp_equiv, texts_ties, is_sorted, entries, entries_sorted, get, from_entries, get-from_entries, below_all, list_all, is_eq, is_lt, eq_by_cmp, T, Ordering, Less, stripe_of, Config, same_key, Bytes, Cache, entry_at, key_cmp, holds, IsReached, by_use, State, is_of, IsCache, differs, differing, CoherentAsTold, or_else, found_after, IsSoundWorld, WorldState, home, entry_in, cached_entry, has_progress, has_changed, is_untold}
use Rattle.std.specs.FinMap.{find, get-entries}

-- 1. What a stripe caches.

-- a key of another stripe isn't one of this stripe's
other_key : (s : State) (key own : Bytes) → is_of s key ≡ false → is_of s own ≡ true → eq_by_cmp key_cmp key own ≡ false
other_key s key own off on =
    elim (eq_by_cmp key_cmp key own) as (λ b. eq_by_cmp key_cmp key own ≡ b → b ≡ false) [
      | true ↦ λ e. sym on ∙ ap (is_of s) (sym (same_key key own e)) ∙ off
      | false ↦ λ e. refl
    ] refl

-- nor is it found among entries that are all of this stripe's keys
none_of_others : (s : State) (key : Bytes) (es : List (Bytes × Bytes)) → is_of s key ≡ false → list_all (λ (e : Bytes × Bytes). is_of s e.0) es ≡ true → find key_cmp key es ≡ None
none_of_others s key [] off own = refl
none_of_others s key (e ∷ es) off own =
    let parts = and_parts (is_of s e.0) (list_all (λ (e : Bytes × Bytes). is_of s e.0) es) own in
    ap (λ b. cond b (Some e.1) (find key_cmp key es)) (other_key s key e.0 off parts.0) ∙ none_of_others s key es off parts.1

-- a stripe caches no key of another
pub homes : (s : State) (key : Bytes) → IsReached s → is_of s key ≡ false → entry_at s.cache key ≡ None
homes s key reached off =
    let listed = by_use s.opening s.history in
    ap (λ c. entry_at c key) reached.used.cache ∙ get-from_entries nat_list_cmp_total listed key ∙ none_of_others s key listed off reached.used.own

-- 2. What all stripes cache.

-- stripes that cache nothing for a key add nothing
found_none : (found : Option Bytes) (stripes : List State) (key : Bytes) → ((i : ℕ) (s : State) → slice_get stripes i ≡ Some s → entry_at s.cache key ≡ None) → found_after found stripes key ≡ found
found_none found [] key h = refl
found_none found (s ∷ ss) key h = ap (λ o. found_after (or_else o found) ss key) (h 0 s refl) ∙ found_none found ss key (λ i x e. h (suc i) x e)

-- if one alone may, what it caches counts
found_one : (found : Option Bytes) (stripes : List State) (key : Bytes) (n : ℕ) → ((i : ℕ) (s : State) → slice_get stripes i ≡ Some s → (n ≡ i → ⊥) → entry_at s.cache key ≡ None)
    → found_after found stripes key ≡ or_else (entry_in (slice_get stripes n) key) found
found_one found [] key n h = refl
found_one found (s ∷ ss) key zero h = found_none (or_else (entry_at s.cache key) found) ss key (λ i x e. h (suc i) x e (λ t. absurd (omega arith)))
found_one found (s ∷ ss) key (suc n) h =
    ap (λ o. found_after (or_else o found) ss key) (h 0 s refl (λ t. absurd (omega arith)))
    ∙ found_one found ss key n (λ i x e apart. h (suc i) x e (λ t. apart (omega arith)))

-- nothing was found before the first
or_none : (o : Option Bytes) → or_else o None ≡ o
or_none None = refl
or_none (Some x) = refl

-- so the stripes cache together what the world does
pub gathered : (w : WorldState) (key : Bytes) → IsSoundWorld w → found_after None w.stripes key ≡ cached_entry w key
gathered w key old =
    found_one None w.stripes key (home w key) (λ i s at apart.
    let h = old.shape.each i s at in
    homes s key h.reached (ap (λ (c : Config). stripe_of key c.stripes == s.stripe) h.config_is ∙ ap (λ n. home w key == n) h.number_is ∙ ne_eqb (home w key) i apart))
    ∙ or_none (cached_entry w key)

-- the entries of a further stripe
pub found_next : (stripes : List State) (n : ℕ) (s : State) (here next : Option Bytes) (listed : List (Bytes × Bytes)) (key : Bytes) → n < length stripes → s ≡ get_or stripes n s → from_entries {R = key_cmp} listed ≡ s.cache
    → next ≡ or_else (find key_cmp key listed) here → found_after next (drop (n + 1) stripes) key ≡ found_after here (drop n stripes) key
found_next stripes n s here next listed key within is cache e =
    ap (λ o. found_after o (drop (n + 1) stripes) key) (e ∙ ap (λ o. or_else o here) (sym (get-from_entries nat_list_cmp_total listed key) ∙ ap (λ m. entry_at m key) cache))
    ∙ ap (λ k. found_after (or_else (entry_at s.cache key) here) (drop k stripes) key) (add-one n)
    ∙ ap (λ ss. found_after here ss key) (sym (drop-cons stripes n s within ∙ ap (λ t. t ∷ drop (suc n) stripes) (sym is)))

-- 3. What differs.

-- a truth is true
is_true : (b : Bool) → T b → b ≡ true
is_true true h = refl
is_true false h = absurd h

-- what is less isn't equal
less_not_equal : (r : Ordering) → is_lt r ≡ true → is_eq r ≡ false
less_not_equal Less h = refl
less_not_equal r h = cc

-- a key below all of a list isn't in it
none_below : (key : Bytes) (es : List (Bytes × Bytes)) → below_all key_cmp key es ≡ true → find key_cmp key es ≡ None
none_below key [] h = refl
none_below key (e ∷ es) h =
    let parts = and_parts (is_lt (key_cmp key e.0)) (below_all key_cmp key es) h in
    ap (λ b. cond b (Some e.1) (find key_cmp key es)) (less_not_equal (key_cmp key e.0) parts.0) ∙ none_below key es parts.1

-- what is found in a sorted list is found after the first, too, if it is there
found_behind : (e : Bytes × Bytes) (es : List (Bytes × Bytes)) (key value : Bytes) → below_all key_cmp e.0 es ≡ true → find key_cmp key es ≡ Some value → find key_cmp key (e ∷ es) ≡ Some value
found_behind e es key value low h =
    elim (eq_by_cmp key_cmp key e.0) as (λ b. eq_by_cmp key_cmp key e.0 ≡ b → cond b (Some e.1) (find key_cmp key es) ≡ Some value) [
      | true ↦ λ t. let gone : None ≡ Some value = sym (none_below e.0 es low) ∙ ap (λ k. find key_cmp k es) (sym (same_key key e.0 t)) ∙ h in cc
      | false ↦ λ t. h
    ] refl

-- what a test takes of a sorted list has this key, if each key has it whose value passes the test
all_taken : (p : Bytes × Bytes → Bool) (q : Bytes → Bool) (es : List (Bytes × Bytes)) → is_sorted key_cmp es ≡ true → ((key value : Bytes) → find key_cmp key es ≡ Some value → p (key, value) ≡ true → q key ≡ true)
    → list_all q (map (λ (e : Bytes × Bytes). e.0) (filter p es)) ≡ true
all_taken p q [] sorted h = refl
all_taken p q (e ∷ es) sorted h =
    let parts = and_parts (below_all key_cmp e.0 es) (is_sorted key_cmp es) sorted in
    let here : find key_cmp e.0 (e ∷ es) ≡ Some e.1 = ap (λ b. cond b (Some e.1) (find key_cmp e.0 es)) ((eq_by_cmp_equiv nat_list_cmp_total).refl e.0) in
    let rest = all_taken p q es parts.1 (λ key value found. h key value (found_behind e es key value parts.0 found)) in
    elim (p e) as (λ b. p e ≡ b → list_all q (map (λ (e : Bytes × Bytes). e.0) (cond b (e ∷ filter p es) (filter p es))) ≡ true) [
      | true ↦ λ is. and_from (q e.0) (list_all q (map (λ (e : Bytes × Bytes). e.0) (filter p es))) (h e.0 e.1 here is) rest
      | false ↦ λ is. rest
    ] refl

-- a value that is stored is held
held_true : (stored : Option Bytes) (value : Bytes) → stored ≡ Some value → holds stored value ≡ true
held_true stored value h = ap (λ o. holds o value) h ∙ texts_ties value value ∙ (eq_by_cmp_equiv nat_list_cmp_total).refl value

-- an entry that is held doesn't differ
held_apart : (stored : Option Bytes) (value : Bytes) (changed : Bool) → (changed ≡ false → stored ≡ Some value) → (not (holds stored value) && not changed) ≡ false
held_apart stored value true h = and_right (not (holds stored value)) false refl
held_apart stored value false h = ap (λ b. not b && true) (held_true stored value (h refl))

-- an entry that differs in a world that is coherent as told is of an untold key
pub untold : (w : WorldState) (key value : Bytes) → CoherentAsTold w → cached_entry w key ≡ Some value → differs w (key, value) ≡ true → is_untold w key ≡ true
untold w key value coherent is differing =
    elim (is_untold w key) as (λ b. is_untold w key ≡ b → b ≡ true) [
      | true ↦ λ told. refl
      | false ↦ λ told. let t : false ≡ true = sym (held_apart (entry_at w.store key) value (has_progress has_changed (get w.parts key)) (λ unchanged. rw is at (coherent key told unchanged))) ∙ differing in cc
    ] refl

-- so are all that differ
pub all_untold : (w : WorldState) (cache : Cache) → IsCache w cache → CoherentAsTold w → list_all (is_untold w) (differing w (entries cache)) ≡ true
all_untold w cache is coherent =
    all_taken (differs w) (is_untold w) (entries cache) (is_true (is_sorted key_cmp (entries cache)) (entries_sorted cache))
    (λ key value found differing. untold w key value coherent (sym (is key) ∙ get-entries cache key ∙ found) differing)
