-- How the keys of a call ended, as it is added key by key.
--     ends_more       how the keys before a place ended, with one key more
--     told_at         what is said of the end of a key that is so far
--     entries_more    the entries of what is said of the ends, with one key more
--     entries_new     the next key is in none of them
--     entries_whole   the entries of all keys
--     failures_are    the failures are those of the entries that failed
use Rattle.jc_rounds.proofs.Common.{◌≡◌, ◌==◌, ◌||◌, ◌<◌, ◌≤◌, ◌+◌, ◌++◌, ℕ, zero, suc, List, [], ◌∷◌, length, map, take, get_or, min, false, Option, None, Some, option_map, Result, slice_get, append_assoc, refl, sym, ap, ◌∙◌, arith, append-nil, or_parts, take_all, take_more, length-take, take-map, filter_map-append, same_Some, cons_option, list_any, IsDistinct, keys_of, pointwise, Refusal, Bytes, Op, Get, Reply, KeyProgress, Waiting, Reserved, Joined, Ended, failures, refusal_in}
use Rattle.jc_batch.proofs.CallerLemmas.{not_before}
use Rattle.jc_rounds.specs.Ends.{KeyEnd, entries_by, failed_entries, key_end, key_ends}
use Rattle.jc_rounds.specs.KeyProgress.{at_end}

-- 1. One key more.

ends_push : (targets : List (Bytes × Op)) (ps : List KeyProgress) (t : Bytes × Op) (p : KeyProgress) → length ps ≡ length targets
    → key_ends (targets ++ t ∷ []) (ps ++ p ∷ []) ≡ key_ends targets ps ++ key_end t p
ends_push [] [] t p many = append-nil (key_end t p)
ends_push [] (q ∷ ps) t p many = cc
ends_push (u ∷ targets) [] t p many = cc
ends_push (u ∷ targets) (q ∷ ps) t p many =
    let fewer : length ps ≡ length targets = omega (arith, many) in
    ap (λ es. key_end u q ++ es) (ends_push targets ps t p fewer) ∙ sym (append_assoc (key_end u q) (key_ends targets ps) (key_end t p))

pub ends_more : (targets : List (Bytes × Op)) (ps : List KeyProgress) (i : ℕ) (t : Bytes × Op) (p : KeyProgress) → length ps ≡ length targets → i < length ps
    → key_ends (take (i + 1) targets) (take (i + 1) ps) ≡ key_ends (take i targets) (take i ps) ++ key_end (get_or targets i t) (get_or ps i p)
ends_more targets ps i t p many near =
    let same : length (take i ps) ≡ length (take i targets) = length-take i ps ∙ ap (min i) many ∙ sym (length-take i targets) in
    (λ j. key_ends (take_more targets i t (omega (arith, many, near)) j) (take_more ps i p near j))
    ∙ ends_push (take i targets) (take i ps) (get_or targets i t) (get_or ps i p) same

key_there : (targets : List (Bytes × Op)) (i : ℕ) (t : Bytes × Op) (key : Bytes) → slice_get (keys_of targets) i ≡ Some key → (get_or targets i t).0 ≡ key
key_there [] i t key at = cc
key_there (u ∷ targets) zero t key at = same_Some u.0 key at
key_there (u ∷ targets) (suc i) t key at = key_there targets i t key at

keys_before : (targets : List (Bytes × Op)) (i : ℕ) → keys_of (take i targets) ≡ take i (keys_of targets)
keys_before targets i = sym (take-map (λ (t : Bytes × Op). t.0) i targets)

-- 2. What is said of an end.

module _ {V : Type 0} (said : Result Reply Refusal → Option V) where
  told_at : (t : Bytes × Op) (p : KeyProgress) → entries_by said (key_end t p) ≡ cons_option (option_map (λ v. (t.0, v)) (at_end said p)) []
  told_at t Waiting = refl
  told_at t Reserved = refl
  told_at t Joined = refl
  told_at t (Ended ended) = refl

  pub entries_more : (targets : List (Bytes × Op)) (ps : List KeyProgress) (i : ℕ) (key : Bytes) (p : KeyProgress) (es : List (Bytes × V)) → length ps ≡ length targets → i < length ps → slice_get (keys_of targets) i ≡ Some key → p ≡ get_or ps i p
      → es ≡ entries_by said (key_ends (take i targets) (take i ps)) → es ++ cons_option (option_map (λ v. (key, v)) (at_end said p)) [] ≡ entries_by said (key_ends (take (i + 1) targets) (take (i + 1) ps))
  entries_more targets ps i key p es many near there is so_far =
      let t : Bytes × Op = (key, Get) in
      let here = key_there targets i t key there in
      let more : List KeyEnd = key_end (get_or targets i t) (get_or ps i p) in
      let one : entries_by said more ≡ cons_option (option_map (λ v. (key, v)) (at_end said p)) [] =
      told_at (get_or targets i t) (get_or ps i p) ∙ (λ j. cons_option (option_map (λ v. (here j, v)) (at_end said (sym is j))) []) in
      ap (λ xs. es ++ xs) (sym one) ∙ ap (λ xs. xs ++ entries_by said more) so_far
      ∙ sym (filter_map-append (λ (e : KeyEnd). option_map (λ v. (e.key, v)) (said e.ended)) (key_ends (take i targets) (take i ps)) more)
      ∙ ap (entries_by said) (sym (ends_more targets ps i t p many near))

  one_absent : (o : Option V) (k q : Bytes) (es : List (Bytes × V)) → pointwise ◌==◌ q k ≡ false → list_any (pointwise ◌==◌ q) (keys_of es) ≡ false
      → list_any (pointwise ◌==◌ q) (keys_of (cons_option (option_map (λ v. (k, v)) o) es)) ≡ false
  one_absent None k q es apart none = none
  one_absent (Some v) k q es apart none = ap (λ b. b || list_any (pointwise ◌==◌ q) (keys_of es)) apart ∙ none

  entries_absent : (targets : List (Bytes × Op)) (ps : List KeyProgress) (q : Bytes) → list_any (pointwise ◌==◌ q) (keys_of targets) ≡ false → list_any (pointwise ◌==◌ q) (keys_of (entries_by said (key_ends targets ps))) ≡ false
  entries_absent [] ps q away = refl
  entries_absent (t ∷ targets) [] q away = refl
  entries_absent (t ∷ targets) (Waiting ∷ ps) q away = entries_absent targets ps q (or_parts (pointwise ◌==◌ q t.0) _ away).1
  entries_absent (t ∷ targets) (Reserved ∷ ps) q away = entries_absent targets ps q (or_parts (pointwise ◌==◌ q t.0) _ away).1
  entries_absent (t ∷ targets) (Joined ∷ ps) q away = entries_absent targets ps q (or_parts (pointwise ◌==◌ q t.0) _ away).1
  entries_absent (t ∷ targets) (Ended ended ∷ ps) q away =
      let parts = or_parts (pointwise ◌==◌ q t.0) (list_any (pointwise ◌==◌ q) (keys_of targets)) away in
      one_absent (said ended) t.0 q (entries_by said (key_ends targets ps)) parts.0 (entries_absent targets ps q parts.1)

  pub entries_new : (targets : List (Bytes × Op)) (ps : List KeyProgress) (i : ℕ) (key : Bytes) (es : List (Bytes × V)) → IsDistinct (pointwise ◌==◌) (keys_of targets) → slice_get (keys_of targets) i ≡ Some key
      → es ≡ entries_by said (key_ends (take i targets) (take i ps)) → list_any (pointwise ◌==◌ key) (keys_of es) ≡ false
  entries_new targets ps i key es d there so_far =
      ap (λ xs. list_any (pointwise ◌==◌ key) (keys_of xs)) so_far
      ∙ entries_absent (take i targets) (take i ps) key (ap (list_any (pointwise ◌==◌ key)) (keys_before targets i) ∙ not_before (keys_of targets) i key d there)

  pub entries_whole : (targets : List (Bytes × Op)) (ps : List KeyProgress) (i : ℕ) (es : List (Bytes × V)) → length ps ≡ length targets → length ps ≤ i
      → es ≡ entries_by said (key_ends (take i targets) (take i ps)) → es ≡ entries_by said (key_ends targets ps)
  entries_whole targets ps i es many past so_far =
      so_far ∙ (λ j. entries_by said (key_ends (take_all i targets (omega (arith, past, many)) j) (take_all i ps past j)))

-- 3. What failed.

told_map : (o : Option Refusal) (k : Bytes) (es : List (Bytes × Refusal)) → map (λ (e : Bytes × Refusal). e.1) (cons_option (option_map (λ r. (k, r)) o) es) ≡ cons_option o (map (λ (e : Bytes × Refusal). e.1) es)
told_map None k es = refl
told_map (Some r) k es = refl

pub failures_are : (targets : List (Bytes × Op)) (ps : List KeyProgress) → length ps ≡ length targets → map (λ (e : Bytes × Refusal). e.1) (failed_entries (key_ends targets ps)) ≡ failures ps
failures_are [] [] many = refl
failures_are [] (p ∷ ps) many = cc
failures_are (t ∷ targets) [] many = cc
failures_are (t ∷ targets) (Waiting ∷ ps) many = failures_are targets ps (omega (arith, many))
failures_are (t ∷ targets) (Reserved ∷ ps) many = failures_are targets ps (omega (arith, many))
failures_are (t ∷ targets) (Joined ∷ ps) many = failures_are targets ps (omega (arith, many))
failures_are (t ∷ targets) (Ended ended ∷ ps) many =
    told_map (refusal_in ended) t.0 (failed_entries (key_ends targets ps)) ∙ ap (cons_option (refusal_in ended)) (failures_are targets ps (omega (arith, many)))
