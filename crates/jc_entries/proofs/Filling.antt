-- Entries are filled from the last of a list to the first.
--     drop-on    one entry more is the list from one place earlier
use Rattle.std.proofs.Common.{◌≡◌, ◌<◌, ℕ, zero, suc, List, [], ◌∷◌, length, drop, get_or, true, Option, None, Some, is_none, refl, ap, arith}
use Rattle.std.proofs.lemmas.Bool.{and_parts}
use Rattle.std.specs.FinMap as finite
use Rattle.jc_model.specs.Cache.{Bytes, key_cmp}
use Rattle.jc_model.specs.Listed.{others, has_distinct_keys}
use Rattle.jc_entries.proofs.CallerLemmas.{others-missing}

nothing : (found : Option Bytes) → is_none found ≡ true → found ≡ None
nothing None h = refl
nothing (Some value) h = cc

pub drop-on : (contents : List (Bytes × Bytes)) (n : ℕ) (d : Bytes × Bytes) → has_distinct_keys contents ≡ true → n < length contents
    → (get_or contents n d) ∷ others (get_or contents n d).0 (drop (suc n) contents) ≡ drop n contents
drop-on [] n d once lt = absurd (omega arith)
drop-on (e ∷ es) zero d once lt =
    ap (λ (xs : List (Bytes × Bytes)). e ∷ xs) (others-missing e.0 es (nothing (finite.find key_cmp e.0 es) (and_parts (is_none (finite.find key_cmp e.0 es)) (has_distinct_keys es) once).0))
drop-on (e ∷ es) (suc n) d once lt = drop-on es n d (and_parts (is_none (finite.find key_cmp e.0 es)) (has_distinct_keys es) once).1 (omega arith)
