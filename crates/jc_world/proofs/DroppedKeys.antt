-- What a reopening keeps of a key.
--     HasRoom          a stripe that has as many entries has room for this many more
--     found_kept       what is found among the entries that the stripe of a key keeps: nothing if the key is dropped, else what there was
--     found_in_all     what is found among all entries is what the stripe of the key caches
use Rattle.jc_world.proofs.Common.{◌≡◌, ◌==◌, ℕ, zero, suc, ◌+◌, ◌<◌, ◌≤◌, Bool, true, false, cond, ◌||◌, List, [], ◌∷◌, ◌++◌, map, length, take, slice_get, Some, None, Option, option_or, is_none, sym, refl, ap, ◌∙◌, subst, arith, add-zero, zero-add, and_parts, eq-eqb, eqb-true, filter-append, list_any, list_all, pointwise, texts_ties, nat_list_cmp_total, get-from_entries, eq_by_cmp, stripe_of, Config, Bytes, entry_at, key_cmp, State, IsReached, IsWorldShaped, WorldState, home, entry_in, cached_entry, none_is}
use Rattle.std.specs.FinMap as map
use Rattle.std.proofs.lemmas.Bool.{le-leb, lt-leb}
use Rattle.std.proofs.lemmas.List.{length-append}
use Rattle.jc_model.specs.Listed.{has_distinct_keys}
use Rattle.jc_stripe.specs.Reopening.{entries_of, all_entries, belongs_to_stripe, entries_for, kept, is_full_behind, dropped_behind, dropped}
use Rattle.jc_world.proofs.Lemmas.{split, tied}

abbrev Entries : Type 0
Entries = List (Bytes × Bytes)

abbrev is_among : Bytes → Entries → Bool
is_among key entries = list_any (pointwise ◌==◌ key) (map (λ entry. entry.0) entries)

-- 1. A key that isn't there isn't dropped.

absent : (key : Bytes) (e : Bytes × Bytes) (es : Entries) → map.find key_cmp key (e ∷ es) ≡ None → (pointwise ◌==◌ key e.0 ≡ false) × (map.find key_cmp key es ≡ None)
absent key e es none =
    let both = split key e.0 (λ b. cond b (Some e.1) (map.find key_cmp key es) ≡ None → (b ≡ false) × (map.find key_cmp key es ≡ None)) (λ same h. cc) (λ apart h. (refl, h)) none in
    (texts_ties key e.0 ∙ both.0, both.1)

one_more : (key : Bytes) (e : Bytes × Bytes) (b : Bool) (es : Entries) → pointwise ◌==◌ key e.0 ≡ false → is_among key (cond b (e ∷ es) es) ≡ is_among key es
one_more key e true es apart = ap (λ b. b || is_among key es) apart
one_more key e false es apart = refl

not_dropped : (config : Config) (key : Bytes) (before es : Entries) → map.find key_cmp key es ≡ None → is_among key (dropped_behind config before es) ≡ false
not_dropped config key before [] none = refl
not_dropped config key before (e ∷ es) none =
    let parts = absent key e es none in
    one_more key e (is_full_behind config before e.0) (dropped_behind config (before ++ e ∷ []) es) parts.0 ∙ not_dropped config key (before ++ e ∷ []) es parts.1

-- 2. One stripe.

module _ (config : Config) (key : Bytes) where
  abbrev number : ℕ
  number = stripe_of key config.stripes

  abbrev own : Entries → Entries
  own es = entries_for config number es

  -- as many as there are leave room for this number more
  abbrev HasRoom : ℕ → ℕ → Type 0
  HasRoom there zero = config.capacity ≤ there
  HasRoom there (suc room) = there + suc room ≡ config.capacity

  room_less : (there room : ℕ) → HasRoom there (suc room) → HasRoom (there + 1) room
  room_less there zero h = omega arith
  room_less there (suc room) h = omega arith

  -- one entry more in front
  own_more : (before : Entries) (e : Bytes × Bytes) (b : Bool) → belongs_to_stripe config number e ≡ b → length (own (before ++ e ∷ [])) ≡ length (own before) + cond b 1 0
  own_more before e true is = ap length (filter-append (belongs_to_stripe config number) before (e ∷ []) ∙ ap (λ b. own before ++ cond b (e ∷ []) []) is) ∙ length-append (own before) (e ∷ [])
  own_more before e false is = ap length (filter-append (belongs_to_stripe config number) before (e ∷ []) ∙ ap (λ b. own before ++ cond b (e ∷ []) []) is) ∙ length-append (own before) []

  abbrev nothing : Entries
  nothing = []

  nothing_taken : (room : ℕ) → map.find key_cmp key (take room nothing) ≡ None
  nothing_taken zero = refl
  nothing_taken (suc room) = refl

  abbrev left : Entries → Entries → Option Bytes
  left before es = cond (is_among key (dropped_behind config before es)) None (map.find key_cmp key es)

  own_key : (e : Bytes × Bytes) → key ≡ e.0 → eq_by_cmp key_cmp key e.0 ≡ true
  own_key e same = ap (eq_by_cmp key_cmp key) (sym same) ∙ tied key

  -- an entry of the key itself
  own_entry : (room : ℕ) (before : Entries) (e : Bytes × Bytes) (es : Entries) → key ≡ e.0 → map.find key_cmp key es ≡ None → HasRoom (length (own before)) room → map.find key_cmp key (take room (e ∷ own es)) ≡ left before (e ∷ es)
  own_entry zero before e es same none room =
      let full : is_full_behind config before e.0 ≡ true = ap (is_full_behind config before) (sym same) ∙ le-leb config.capacity (length (own before)) room in
      let is : pointwise ◌==◌ key e.0 ≡ true = texts_ties key e.0 ∙ own_key e same in
      sym (ap (λ b. cond (is_among key (cond b (e ∷ dropped_behind config (before ++ e ∷ []) es) (dropped_behind config (before ++ e ∷ []) es))) None (map.find key_cmp key (e ∷ es))) full ∙ ap (λ b. cond (b || is_among key (dropped_behind config (before ++ e ∷ []) es)) None (map.find key_cmp key (e ∷ es))) is)
  own_entry (suc more) before e es same none room =
      let free : is_full_behind config before e.0 ≡ false = ap (is_full_behind config before) (sym same) ∙ lt-leb config.capacity (length (own before)) (omega arith) in
      let is : eq_by_cmp key_cmp key e.0 ≡ true = own_key e same in
      ap (λ b. cond b (Some e.1) (map.find key_cmp key (take more (own es)))) is
      ∙ sym (ap (λ b. cond (is_among key (cond b (e ∷ dropped_behind config (before ++ e ∷ []) es) (dropped_behind config (before ++ e ∷ []) es))) None (map.find key_cmp key (e ∷ es))) free
      ∙ ap (λ b. cond b None (map.find key_cmp key (e ∷ es))) (not_dropped config key (before ++ e ∷ []) es none)
      ∙ ap (λ b. cond b (Some e.1) (map.find key_cmp key es)) is)

  -- an entry of another key
  other_entry : (before : Entries) (e : Bytes × Bytes) (es : Entries) → pointwise ◌==◌ key e.0 ≡ false → left before (e ∷ es) ≡ left (before ++ e ∷ []) es
  other_entry before e es apart =
      ap (λ b. cond b None (map.find key_cmp key (e ∷ es))) (one_more key e (is_full_behind config before e.0) (dropped_behind config (before ++ e ∷ []) es) apart)
      ∙ ap (λ b. cond (is_among key (dropped_behind config (before ++ e ∷ []) es)) None (cond b (Some e.1) (map.find key_cmp key es))) (sym (texts_ties key e.0) ∙ apart)

  -- if it is of the stripe, it takes a place there
  taken_other : (room : ℕ) (before : Entries) (e : Bytes × Bytes) (es : Entries) → eq_by_cmp key_cmp key e.0 ≡ false → HasRoom (length (own before)) room → length (own (before ++ e ∷ [])) ≡ length (own before) + 1
      → ((next : ℕ) → HasRoom (length (own (before ++ e ∷ []))) next → map.find key_cmp key (take next (own es)) ≡ left (before ++ e ∷ []) es)
      → map.find key_cmp key (take room (e ∷ own es)) ≡ left (before ++ e ∷ []) es
  taken_other zero before e es apart has more rest = rest 0 (omega arith)
  taken_other (suc room) before e es apart has more rest =
      ap (λ b. cond b (Some e.1) (map.find key_cmp key (take room (own es)))) apart ∙ rest room (subst (λ n. HasRoom n room) (sym more) (room_less (length (own before)) room has))

  found_kept_from : (room : ℕ) (before es : Entries) → has_distinct_keys es ≡ true → HasRoom (length (own before)) room → map.find key_cmp key (take room (own es)) ≡ left before es
  found_kept_from room before [] once has = nothing_taken room
  found_kept_from room before (e ∷ es) once has =
      let parts = and_parts (is_none (map.find key_cmp e.0 es)) (has_distinct_keys es) once in
      let rest : (next : ℕ) → HasRoom (length (own (before ++ e ∷ []))) next → map.find key_cmp key (take next (own es)) ≡ left (before ++ e ∷ []) es = λ next has. found_kept_from next (before ++ e ∷ []) es parts.1 has in
      split key e.0 (λ b. map.find key_cmp key (take room (own (e ∷ es))) ≡ left before (e ∷ es))
      (λ same.
      let is : belongs_to_stripe config number e ≡ true = eq-eqb (stripe_of e.0 config.stripes) number (ap (λ k. stripe_of k config.stripes) (sym same)) in
      let none : map.find key_cmp key es ≡ None = ap (λ k. map.find key_cmp k es) same ∙ none_is (map.find key_cmp e.0 es) parts.0 in
      ap (λ b. map.find key_cmp key (take room (cond b (e ∷ own es) (own es)))) is ∙ own_entry room before e es same none has)
      (λ apart.
      elim (belongs_to_stripe config number e) as (λ b. belongs_to_stripe config number e ≡ b → map.find key_cmp key (take room (cond b (e ∷ own es) (own es))) ≡ left (before ++ e ∷ []) es) [
        | true ↦ λ is. taken_other room before e es apart has (own_more before e true is) rest
        | false ↦ λ is. rest room (subst (λ n. HasRoom n room) (sym (own_more before e false is ∙ add-zero (length (own before)))) has)
      ] refl
      ∙ sym (other_entry before e es (texts_ties key e.0 ∙ apart)))

  full_room : (capacity : ℕ) → capacity ≡ config.capacity → HasRoom 0 capacity
  full_room zero is = omega arith
  full_room (suc capacity) is = omega arith

  pub found_kept : (entries : Entries) → has_distinct_keys entries ≡ true → map.find key_cmp key (kept config number entries) ≡ cond (is_among key (dropped config entries)) None (map.find key_cmp key entries)
  found_kept entries once = found_kept_from config.capacity [] entries once (full_room config.capacity refl)

-- 3. All entries.

missing_own : (config : Config) (key : Bytes) (n : ℕ) (es : Entries) → list_all (belongs_to_stripe config n) es ≡ true → (stripe_of key config.stripes ≡ n → ⊥) → map.find key_cmp key es ≡ None
missing_own config key n [] own other = refl
missing_own config key n (e ∷ es) own other =
    let parts = and_parts (belongs_to_stripe config n e) (list_all (belongs_to_stripe config n) es) own in
    split key e.0 (λ b. cond b (Some e.1) (map.find key_cmp key es) ≡ None)
    (λ same. absurd (other (ap (λ k. stripe_of k config.stripes) same ∙ eqb-true (stripe_of e.0 config.stripes) n parts.0)))
    (λ apart. missing_own config key n es parts.1 other)

find-append : (key : Bytes) (es fs : Entries) → map.find key_cmp key (es ++ fs) ≡ option_or (map.find key_cmp key es) (map.find key_cmp key fs)
find-append key [] fs = refl
find-append key (e ∷ es) fs =
    elim (eq_by_cmp key_cmp key e.0) as (λ b. cond b (Some e.1) (map.find key_cmp key (es ++ fs)) ≡ option_or (cond b (Some e.1) (map.find key_cmp key es)) (map.find key_cmp key fs)) [
      | true ↦ refl
      | false ↦ find-append key es fs
    ]

or_none : (o : Option Bytes) → option_or o None ≡ o
or_none None = refl
or_none (Some x) = refl

-- stripes with numbers in order, from a first one on
abbrev AreStripes : Config → ℕ → List State → Type 0
AreStripes config n stripes = (i : ℕ) (s : State) → slice_get stripes i ≡ Some s → IsReached s × (s.config ≡ config) × (s.stripe ≡ n + i)

first_own : (config : Config) (n : ℕ) (s : State) → IsReached s × (s.config ≡ config) × (s.stripe ≡ n + 0) → list_all (belongs_to_stripe config n) (entries_of s) ≡ true
first_own config n s (reached, shape, number) =
    subst (λ (x : Config × ℕ). list_all (belongs_to_stripe x.0 x.1) (entries_of s) ≡ true) (λ i. (shape i, (number ∙ add-zero n) i)) reached.used.own

others : (config : Config) (n : ℕ) (s : State) (ss : List State) → AreStripes config n (s ∷ ss) → AreStripes config (n + 1) ss
others config n s ss at i t h = let r = at (suc i) t h in (r.0, r.1, (let e = r.2 in omega arith))

-- stripes with greater numbers have nothing of the key
found_later : (config : Config) (key : Bytes) (n : ℕ) (stripes : List State) → AreStripes config n stripes → stripe_of key config.stripes < n → map.find key_cmp key (all_entries stripes) ≡ None
found_later config key n [] at less = refl
found_later config key n (s ∷ ss) at less =
    find-append key (entries_of s) (all_entries ss)
    ∙ (λ i. option_or (missing_own config key n (entries_of s) (first_own config n s (at 0 s refl)) (λ same. omega arith) i) (found_later config key (n + 1) ss (others config n s ss at) (omega arith) i))

found_from : (config : Config) (key : Bytes) (n i : ℕ) (stripes : List State) → AreStripes config n stripes → stripe_of key config.stripes ≡ n + i → map.find key_cmp key (all_entries stripes) ≡ entry_in (slice_get stripes i) key
found_from config key n i [] at is = refl
found_from config key n zero (s ∷ ss) at is =
    let first = at 0 s refl in
    find-append key (entries_of s) (all_entries ss)
    ∙ ap (option_or (map.find key_cmp key (entries_of s))) (found_later config key (n + 1) ss (others config n s ss at) (omega arith))
    ∙ or_none (map.find key_cmp key (entries_of s))
    ∙ sym (ap (λ c. entry_at c key) first.0.used.cache ∙ get-from_entries nat_list_cmp_total (entries_of s) key)
found_from config key n (suc i) (s ∷ ss) at is =
    find-append key (entries_of s) (all_entries ss)
    ∙ ap (λ o. option_or o (map.find key_cmp key (all_entries ss))) (missing_own config key n (entries_of s) (first_own config n s (at 0 s refl)) (λ same. omega arith))
    ∙ found_from config key (n + 1) i ss (others config n s ss at) (omega arith)

pub found_in_all : (w : WorldState) (key : Bytes) → IsWorldShaped w → map.find key_cmp key (all_entries w.stripes) ≡ cached_entry w key
found_in_all w key shape =
    found_from w.config key 0 (home w key) w.stripes (λ i s here. let at = shape.each i s here in (at.reached, at.config_is, at.number_is ∙ sym (zero-add i))) (sym (zero-add (home w key)))
