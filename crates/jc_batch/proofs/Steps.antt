-- One more key of a batch.
use Rattle.std.proofs.Common.{◌≡◌, ◌<◌, ◌+◌, ℕ, Bool, false, List, [], ◌∷◌, ◌++◌, length, take, Option, None, refl, ap, sym, ◌∙◌}
use Rattle.std.specs.Prelude.{get_or}
use Rattle.std.specs.List.{cons_option, filter_map, list_any}
use Rattle.std.specs.Map.{keys_of, lookup}
use Rattle.std.proofs.lemmas.List.{take_more}
use Rattle.std.proofs.lemmas.List.Elements.{filter_map-append}
use Rattle.std.proofs.lemmas.Map.Made.{is_some-lookup}
use Rattle.jc_types.proofs.CallerLemmas.{none_from}
use Rattle.jc_model.specs.Cache.{Bytes}

pub filter_map_more : {X Y : Type 0} (h : X → Option Y) (xs : List X) (i : ℕ) (x : X) → i < length xs → x ≡ get_or xs i x
    → filter_map h (take (i + 1) xs) ≡ filter_map h (take i xs) ++ cons_option (h x) []
filter_map_more h xs i x lt is =
    ap (filter_map h) (take_more xs i x lt ∙ ap (λ y. take i xs ++ y ∷ []) (sym is)) ∙ filter_map-append h (take i xs) (x ∷ [])

-- a key that no entry has is found by no look-up
pub absent_from : {X : Type 0} (test : Bytes → Bool) (es : List (Bytes × X)) → list_any test (keys_of es) ≡ false → lookup test es ≡ None
absent_from test es e = none_from (lookup test es) (is_some-lookup test es ∙ e)

pub keys-push : {X : Type 0} (es : List (Bytes × X)) (k : Bytes) (v : X) → keys_of (es ++ (k, v) ∷ []) ≡ keys_of es ++ k ∷ []
keys-push [] k v = refl
keys-push (e ∷ es) k v = ap (λ ks. e.0 ∷ ks) (keys-push es k v)
