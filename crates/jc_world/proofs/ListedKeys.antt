-- The keys of the entries that pass a test, one entry after another.
--     keys_passing        those of a list
--     keys_passing_more   those of one entry more
use Rattle.std.proofs.lemmas.List.Elements.{filter_more}
use Rattle.jc_world.proofs.Common.{◌≡◌, ℕ, ◌+◌, ◌<◌, Bool, true, false, cond, List, [], ◌∷◌, ◌++◌, map, length, get_or, take, filter, refl, ap, ◌∙◌, sym, Bytes, map-append}

abbrev pub keys_passing : (Bytes × Bytes → Bool) → List (Bytes × Bytes) → List Bytes
keys_passing test entries = map (λ e. e.0) (filter test entries)

pub keys_passing_more : (test : Bytes × Bytes → Bool) (entries : List (Bytes × Bytes)) (i : ℕ) (e : Bytes × Bytes) (b : Bool) → i < length entries → e ≡ get_or entries i e → b ≡ test e → keys_passing test (take (i + 1) entries) ≡ keys_passing test (take i entries) ++ cond b (e.0 ∷ []) []
keys_passing_more test entries i e b h is tests =
    ap (map (λ (e : Bytes × Bytes). e.0)) (filter_more test entries i e h)
    ∙ map-append (λ (e : Bytes × Bytes). e.0) (filter test (take i entries)) (cond (test (get_or entries i e)) (get_or entries i e ∷ []) [])
    ∙ ap (λ x. keys_passing test (take i entries) ++ map (λ (e : Bytes × Bytes). e.0) (cond (test x) (x ∷ []) [])) (sym is)
    ∙ ap (λ b. keys_passing test (take i entries) ++ map (λ (e : Bytes × Bytes). e.0) (cond b (e ∷ []) [])) (sym tests)
    ∙ ap (λ ks. keys_passing test (take i entries) ++ ks) (one b e)
  where
    one : (b : Bool) (e : Bytes × Bytes) → map (λ (e : Bytes × Bytes). e.0) (cond b (e ∷ []) []) ≡ cond b (e.0 ∷ []) []
    one true e = refl
    one false e = refl
