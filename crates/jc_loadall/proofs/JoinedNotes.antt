-- What the notes of all workers say together.
--     found_here, found_next    a note, found among those of one worker, or later
--     wider                     entries whose keys are among some keys are within more of them
--     fresh_place               the key of a place isn't among entries within the keys before it
--     within_more               one key more
--     entries_more              what is noted of one key more
--     none_told                 without a cause nothing failed
--     nothing_noted             of a piece that was loaded nothing is noted to have failed, and it has no cause
use Rattle.jc_loadall.proofs.Common.{◌≡◌, ◌==◌, ◌<◌, ◌≤◌, ◌+◌, ◌||◌, ◌++◌, ℕ, zero, suc, List, [], ◌∷◌, Bool, true, false, cond, length, take, drop, get_or, Option, None, Some, IfNone, option_map, refl, sym, ap, subst, ◌∙◌, nat_eq, arith, nat_list_eq_equiv, flat_map-cons, filter_map-append, drop-cons, option_or, IsDistinct, cons_option, flat_map, list_any, keys_of, pointwise, texts_ties, keys_ordered, new_at, is_among, Bytes, key_cmp, Refusal, Note, PieceResult, Loaded, Failed, Refused, AreWithin, all_noted, cause_noted, entries_noted, find_note, first_noted, refusal_noted, piece_at}
use Rattle.std.specs.Cmp.{Equal-is}

-- 1. Notes.

find_append : (piece : ℕ) (xs ys : List Note) (o : Option PieceResult) → find_note piece xs ≡ o → find_note piece (xs ++ ys) ≡ elim o as (λ _. Option PieceResult) [ None ↦ find_note piece ys | Some r ↦ Some r ]
find_append piece [] ys None is = refl
find_append piece [] ys (Some r) is = cc
find_append piece (x ∷ xs) ys o is =
    elim (nat_eq x.piece piece) as (λ b. cond b (Some x.result) (find_note piece xs) ≡ o → cond b (Some x.result) (find_note piece (xs ++ ys)) ≡ elim o as (λ _. Option PieceResult) [ None ↦ find_note piece ys | Some r ↦ Some r ])
    [ true ↦ λ e. subst (λ (p : Option PieceResult). Some x.result ≡ elim p as (λ _. Option PieceResult) [ None ↦ find_note piece ys | Some r ↦ Some r ]) e refl | false ↦ λ e. find_append piece xs ys o e ] is

module _ {W : Type 0} (f : W → List Note) (piece : ℕ) (ws : List W) (i : ℕ) (w : W) (near : i < length ws) (is : w ≡ get_or ws i w) where
  from_here : flat_map f (drop i ws) ≡ f w ++ flat_map f (drop (i + 1) ws)
  from_here =
      let next : suc i ≡ i + 1 = omega arith in
      ap (flat_map f) (drop-cons ws i w near) ∙ flat_map-cons f (get_or ws i w) (drop (suc i) ws) ∙ (λ j. f (sym is j) ++ flat_map f (drop (next j) ws))

  pub found_here : (r : PieceResult) → find_note piece (f w) ≡ Some r → find_note piece (flat_map f (drop i ws)) ≡ Some r
  found_here r found = ap (find_note piece) from_here ∙ find_append piece (f w) (flat_map f (drop (i + 1) ws)) (Some r) found

  pub found_next : find_note piece (f w) ≡ None → find_note piece (flat_map f (drop (i + 1) ws)) ≡ find_note piece (flat_map f (drop i ws))
  found_next none = sym (ap (find_note piece) from_here ∙ find_append piece (f w) (flat_map f (drop (i + 1) ws)) None none)

-- 2. Keys.

kept : (p : Bytes → Bool) (xs : List Bytes) (m n : ℕ) → m ≤ n → list_any p (take m xs) ≡ true → list_any p (take n xs) ≡ true
kept p [] zero zero le h = h
kept p [] zero (suc n) le h = h
kept p [] (suc m) zero le h = h
kept p [] (suc m) (suc n) le h = h
kept p (x ∷ xs) zero n le h = cc
kept p (x ∷ xs) (suc m) zero le h = absurd (omega arith)
kept p (x ∷ xs) (suc m) (suc n) le h =
    elim (p x) as (λ b. (b || list_any p (take m xs)) ≡ true → (b || list_any p (take n xs)) ≡ true) [ true ↦ λ e. refl | false ↦ λ e. kept p xs m n (omega arith) e ] h

pub wider : (keys : List Bytes) (m n : ℕ) (es : List (Bytes × Refusal)) → m ≤ n → AreWithin keys m es → AreWithin keys n es
wider keys m n [] le all = tt
wider keys m n (e ∷ es) le all = (kept (pointwise ◌==◌ e.0) keys m n le all.0, wider keys m n es le all.1)

apart : (keys : List Bytes) (n : ℕ) (key : Bytes) (es : List (Bytes × Refusal)) → AreWithin keys n es → is_among (take n keys) key ≡ false → is_among (keys_of es) key ≡ false
apart keys n key [] all none = refl
apart keys n key (e ∷ es) all none =
    elim (pointwise ◌==◌ key e.0) as (λ b. pointwise ◌==◌ key e.0 ≡ b → (b || is_among (keys_of es) key) ≡ false) [
      | true ↦ λ same.
          let one : key ≡ e.0 = keys_ordered.exact key e.0 ((Equal-is (key_cmp key e.0)).0 (sym (texts_ties key e.0) ∙ same)) in
          let there : is_among (take n keys) key ≡ true = ap (is_among (take n keys)) one ∙ all.0 in cc
      | false ↦ λ other. apart keys n key es all.1 none
    ]
    refl

pub fresh_place : (keys : List Bytes) (place : ℕ) (key : Bytes) (es : List (Bytes × Refusal)) → IsDistinct (pointwise ◌==◌) keys → place < length keys → key ≡ get_or keys place key
    → AreWithin keys place es → is_among (keys_of es) key ≡ false
fresh_place keys place key es d near is all = apart keys place key es all (new_at keys place key d near is)

there : (keys : List Bytes) (place : ℕ) (key : Bytes) → place < length keys → key ≡ get_or keys place key → is_among (take (place + 1) keys) key ≡ true
there [] place key near is = absurd (omega arith)
there (k ∷ keys) zero key near is = ap (λ b. b || list_any (pointwise ◌==◌ key) []) (ap (pointwise ◌==◌ key) (sym is) ∙ nat_list_eq_equiv.refl key)
there (k ∷ keys) (suc place) key near is =
    let ih = there keys place key (omega arith) is in
    let next : suc place + 1 ≡ suc (place + 1) = omega arith in
    ap (λ n. is_among (take n (k ∷ keys)) key) next ∙ elim (pointwise ◌==◌ key k) as (λ b. (b || list_any (pointwise ◌==◌ key) (take (place + 1) keys)) ≡ true) [ true ↦ refl | false ↦ ih ]

pub within_more : (keys : List Bytes) (place : ℕ) (key : Bytes) (es : List (Bytes × Refusal)) (o : Option Refusal) → place < length keys → key ≡ get_or keys place key
    → AreWithin keys place es → AreWithin keys (place + 1) (es ++ cons_option (option_map (λ (r : Refusal). (key, r)) o) [])
within_more keys place key [] None near is all = tt
within_more keys place key [] (Some r) near is all = (there keys place key near is, tt)
within_more keys place key (e ∷ es) o near is all = (kept (pointwise ◌==◌ e.0) keys place (place + 1) (omega arith) all.0, within_more keys place key es o near is all.1)

pub entries_more : (result : PieceResult) (keys : List Bytes) (key : Bytes)
    → entries_noted result (keys ++ key ∷ []) ≡ entries_noted result keys ++ cons_option (option_map (λ (r : Refusal). (key, r)) (refusal_noted result key)) []
entries_more result keys key = filter_map-append (λ (k : Bytes). option_map (λ (r : Refusal). (k, r)) (refusal_noted result k)) keys (key ∷ [])

-- 3. Pieces.

pub nothing_noted : (keys : List Bytes) → entries_noted Loaded keys ≡ []
nothing_noted [] = refl
nothing_noted (k ∷ keys) = nothing_noted keys

no_cause : (result : PieceResult) (keys : List Bytes) → cause_noted result ≡ None → entries_noted result keys ≡ []
no_cause Loaded keys is = nothing_noted keys
no_cause (Failed fault) keys is = cc
no_cause Refused keys is = cc

neither : (a b : Option Refusal) → option_or a b ≡ None → (a ≡ None) × (b ≡ None)
neither None b is = (refl, is)
neither (Some r) b is = cc

none_noted : (keys : List Bytes) (results : ℕ → PieceResult) (n : ℕ) → first_noted results n ≡ None → all_noted results keys n ≡ []
none_noted keys results zero is = refl
none_noted keys results (suc n) is =
    let both = neither (first_noted results n) (cause_noted (results n)) is in
    λ i. none_noted keys results n both.0 i ++ no_cause (results n) (piece_at keys n) both.1 i

pub none_told : (keys : List Bytes) (results : ℕ → PieceResult) (n : ℕ) (cause : Option Refusal) (failed : List (Bytes × Refusal)) → cause ≡ first_noted results n → failed ≡ all_noted results keys n → IfNone cause (failed ≡ [])
none_told keys results n None failed is are = are ∙ none_noted keys results n (sym is)
none_told keys results n (Some r) failed is are = tt
