-- Valid entries stay so, and an eviction makes room.
use Rattle.std.proofs.Common.{◌≡◌, ℕ, ◌<◌, ◌≤◌, List, ◌∷◌, Bool, true, false, cond, ◌||◌, nat_lt, length, Option, Some, None, is_some, ap, refl, ◌∙◌, arith}
use Rattle.std.specs.Option.{option_map_or}
use Rattle.std.specs.Ordering.{eq_by_cmp}
use Rattle.std.specs.FinMap as finite
use Rattle.std.proofs.lemmas.Bool.{ltb-true, lt-ltb, or_parts, or_right}
use Rattle.jc_types.proofs.CallerLemmas.{none_from}
use Rattle.jc_model.specs.Cache.{Bytes, key_cmp}
use Rattle.jc_model.specs.Listed.{others}
use Rattle.jc_model.proofs.CallerLemmas.{find-others, distinct-others, distinct-first}
use Rattle.jc_entries.specs.ByUse.{ByUse, IsValidByUse, after_touch}
use Rattle.jc_entries.specs.Inserting.{has_room_for}
use Rattle.jc_entries.proofs.CallerLemmas.{length-others, length-others_found, others-missing}

-- 1. Room.

-- what has no room is new
pub no_room-new : (entries : ByUse) (key : Bytes) → has_room_for key entries ≡ false → finite.find key_cmp key entries.list ≡ None
no_room-new entries key h = none_from _ (or_parts _ _ h).0

-- with the victim gone there is room
pub has_room_for-eviction : (entries : ByUse) (key victim : Bytes) → IsValidByUse entries → is_some (finite.find key_cmp victim entries.list) ≡ true
    → has_room_for key (record entries { list = others victim entries.list }) ≡ true
has_room_for-eviction entries key victim h found =
    let few = length-others_found victim entries.list found in
    let bounded = h.bounded in
    or_right (is_some (finite.find key_cmp key (others victim entries.list))) _ (lt-ltb (length (others victim entries.list)) entries.capacity (omega arith))

-- what had no entry has none then
pub others-new : (key victim : Bytes) (entries : List (Bytes × Bytes)) → finite.find key_cmp key entries ≡ None → others key (others victim entries) ≡ others victim entries
others-new key victim entries missing =
    others-missing key (others victim entries)
    (find-others victim entries key ∙ ap (cond (eq_by_cmp key_cmp key victim) None) missing ∙ elim (eq_by_cmp key_cmp key victim) as (λ b. cond {A = Option Bytes} b None None ≡ None) [ true ↦ refl | false ↦ refl ])

-- 2. Valid entries.

-- without a key
pub IsValidByUse-others : (entries : ByUse) (key : Bytes) → IsValidByUse entries → IsValidByUse (record entries { list = others key entries.list })
IsValidByUse-others entries key h = record {
  distinct = distinct-others key entries.list h.distinct;
  bounded = let few = length-others key entries.list in omega arith;
  least = h.least;
  most = h.most;
}

fits : (there free : Bool) (rest all capacity : ℕ) → (there || free) ≡ true → (there ≡ true → rest < all) → rest ≤ all → all ≤ capacity → (free ≡ true → all < capacity) → rest < capacity
fits true free rest all capacity room found few h some = let fewer : rest < all = found refl in omega arith
fits false free rest all capacity room found few h some = let more : all < capacity = some room in omega arith

-- with a first entry that there is room for
pub IsValidByUse-first : (entries : ByUse) (key value : Bytes) → IsValidByUse entries → has_room_for key entries ≡ true → IsValidByUse (record entries { list = (key, value) ∷ others key entries.list })
IsValidByUse-first entries key value h room = record {
  distinct = distinct-first key (Some value) entries.list h.distinct;
  bounded =
      let few = fits (is_some (finite.find key_cmp key entries.list)) (nat_lt (length entries.list) entries.capacity) (length (others key entries.list)) (length entries.list) entries.capacity room
      (length-others_found key entries.list) (length-others key entries.list) h.bounded (ltb-true _ _) in
      omega arith;
  least = h.least;
  most = h.most;
}

after : (entries : ByUse) (key : Bytes) (f : Option Bytes) → finite.find key_cmp key entries.list ≡ f → IsValidByUse entries
    → IsValidByUse (record entries { list = option_map_or (λ value. (key, value) ∷ others key entries.list) f entries.list })
after entries key None e h = h
after entries key (Some value) e h = IsValidByUse-first entries key value h (ap (λ o. is_some o || nat_lt (length entries.list) entries.capacity) e)

-- with a touched key
pub IsValidByUse-after_touch : (entries : ByUse) (key : Bytes) → IsValidByUse entries → IsValidByUse (record entries { list = after_touch key entries.list })
IsValidByUse-after_touch entries key h = after entries key _ refl h
