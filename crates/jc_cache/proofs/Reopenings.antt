-- A closed cache that is opened again, and the keys that two of its stripes leave.
--     rest_at, rest_whole        what is left of a list from a place on
--     some_share_left            whether two of these stripes leave the same key
--     is_open, left_entries      the stripes that weren't shut have what all stripes leave
--     any_of, any_open           a test of the elements that pass another one
--     some_left, once_left       two stripes leave the same key exactly if a key is left twice
--     asked_of                   whether one more of all stripes leaves a key that a later one leaves, too
--     found_repeated             what is known once that was asked of all
--     reopened_so                a cache that was opened with all entries
use Rattle.jc_cache.proofs.Common.{◌≡◌, ◌<◌, ◌+◌, ◌-◌, ℕ, suc, List, [], ◌∷◌, ◌++◌, Ok, map, subst, length, length-drop, take, drop, get_or, Bool, true, false, cond, not, ◌&&◌, ◌||◌, filter, refl, sym, ap, ◌∙◌, drop-cons, arith, list_any, All, check, Config, Bytes, State, IsReached, live_on, all_entries, dropped, entries_of, opened_stripes, shares_key, some_share_key, KeepsOrDrops, CacheOwnerState, OpensWith, stripes_opening, once_unless_shared}
use Rattle.std.proofs.Math.Bool.{or_assoc}
use Rattle.std.proofs.Math.Seq.{take-length}
use Rattle.std.proofs.lemmas.List.Elements.{All-filter}
use Rattle.std.specs.List.Sorted.{IsPermutation}
use Rattle.jc_model.specs.Listed.{has_distinct_keys}
use Rattle.jc_outside.specs.declared.done.Origin.TheVariants.{Live}
use Rattle.jc_cache.specs.Reopening.{IsReopened, all_left, refusal_by, shares_left}

rest_at : (xs : List State) (i : ℕ) (x : State) → i < length xs → x ≡ get_or xs i x → drop i xs ≡ x ∷ drop (i + 1) xs
rest_at xs i x near is = let next : suc i ≡ i + 1 = omega arith in drop-cons xs i x near ∙ (λ j. sym is j ∷ drop (next j) xs)

pub rest_whole : (xs : List State) (n : ℕ) → take (length xs - n) (drop n xs) ≡ drop n xs
rest_whole xs n = ap (λ (m : ℕ). take m (drop n xs)) (sym (length-drop n xs)) ∙ take-length (drop n xs)

-- 1. Keys that two stripes leave.

abbrev pub some_share_left : List State → Bool
some_share_left [] = false
some_share_left (state ∷ states) = list_any (shares_left state) states || some_share_left states

abbrev is_open : State → Bool
is_open state = not state.shut

left_entries : (states : List State) → all_left states ≡ all_entries (filter is_open states)
left_entries [] = refl
left_entries (s ∷ ss) =
    elim s.shut as (λ b. (cond b [] (entries_of s) ++ all_left ss) ≡ all_entries (cond (not b) (s ∷ filter is_open ss) (filter is_open ss))) [
      | true ↦ left_entries ss
      | false ↦ ap (λ (es : List (Bytes × Bytes)). entries_of s ++ es) (left_entries ss)
    ]

any_of : (b : Bool) (p : State → Bool) (ss : List State) → list_any (λ t. b && p t) ss ≡ (b && list_any p ss)
any_of true p ss = refl
any_of false p [] = refl
any_of false p (s ∷ ss) = any_of false p ss

any_open : (p : State → Bool) (ss : List State) → list_any (λ t. not t.shut && p t) ss ≡ list_any p (filter is_open ss)
any_open p [] = refl
any_open p (s ∷ ss) =
    elim s.shut as (λ b. ((not b && p s) || list_any (λ t. not t.shut && p t) ss) ≡ list_any p (cond (not b) (s ∷ filter is_open ss) (filter is_open ss))) [
      | true ↦ any_open p ss
      | false ↦ ap (λ (b : Bool). p s || b) (any_open p ss)
    ]

some_left : (states : List State) → some_share_left states ≡ some_share_key (filter is_open states)
some_left [] = refl
some_left (s ∷ ss) =
    (λ i. (any_of (not s.shut) (λ t. not t.shut && shares_key s t) ss ∙ ap (λ (b : Bool). not s.shut && b) (any_open (shares_key s) ss)) i || some_left ss i)
    ∙ elim s.shut as (λ b. ((not b && list_any (shares_key s) (filter is_open ss)) || some_share_key (filter is_open ss)) ≡ some_share_key (cond (not b) (s ∷ filter is_open ss) (filter is_open ss))) [
      | true ↦ refl
      | false ↦ refl
    ]

once_left : (states : List State) → All IsReached states → has_distinct_keys (all_left states) ≡ not (some_share_left states)
once_left states all =
    ap has_distinct_keys (left_entries states) ∙ once_unless_shared (filter is_open states) (All-filter is_open IsReached states all) ∙ ap not (sym (some_left states))

pub asked_of : (stripes : List State) (i : ℕ) (s : State) (found shares : Bool) → i < length stripes → s ≡ get_or stripes i s → shares ≡ list_any (shares_left s) (drop (i + 1) stripes)
    → (found || some_share_left (drop i stripes)) ≡ some_share_left stripes → ((found || shares) || some_share_left (drop (i + 1) stripes)) ≡ some_share_left stripes
asked_of stripes i s found shares near is any all =
    or_assoc found shares (some_share_left (drop (i + 1) stripes)) ∙ ap (λ (b : Bool). found || (b || some_share_left (drop (i + 1) stripes))) any
    ∙ ap (λ (ss : List State). found || some_share_left ss) (sym (rest_at stripes i s near is)) ∙ all

or_none : (b : Bool) → (b || false) ≡ b
or_none true = refl
or_none false = refl

not_not : (b : Bool) → b ≡ not (not b)
not_not true = refl
not_not false = refl

pub found_repeated : (stripes left : List State) (found : Bool) → left ≡ [] → All IsReached stripes → (found || some_share_left left) ≡ some_share_left stripes → found ≡ not (has_distinct_keys (all_left stripes))
found_repeated stripes left found none all is =
    sym (or_none found) ∙ ap (λ (ss : List State). found || some_share_left ss) (sym none) ∙ is ∙ not_not (some_share_left stripes) ∙ ap not (sym (once_left stripes all))

-- 2. What is kept and what is dropped.

living_entries : (states : List State) → all_entries (map live_on states) ≡ all_entries states
living_entries [] = refl
living_entries (state ∷ states) = ap (λ (es : List (Bytes × Bytes)). entries_of state ++ es) (living_entries states)

opening_entries : (lives : Bool) (config : Config) (entries : List (Bytes × Bytes)) → all_entries (stripes_opening lives config entries) ≡ all_entries (opened_stripes config Live entries 0 config.stripes)
opening_entries false config entries = refl
opening_entries true config entries = living_entries (opened_stripes config Live entries 0 config.stripes)

pub reopened_so : KeepsOrDrops → (lives lived_on : Bool) (config : Config) (given entries : List (Bytes × Bytes)) (owner : CacheOwnerState) (gone : List (Bytes × Bytes)) → check config ≡ Ok tt → has_distinct_keys entries ≡ true → lives ≡ lived_on → given ≡ entries
    → OpensWith lives config given owner → gone ≡ dropped config given → IsReopened lived_on config entries owner gone
reopened_so law lives lived_on config given entries owner gone fits once same all opens is =
    let distinct : has_distinct_keys given ≡ true = ap has_distinct_keys all ∙ once in
    let kept : all_entries owner.noted ≡ all_entries (opened_stripes config Live given 0 config.stripes) = ap all_entries opens.noted ∙ opening_entries lives config given in
    let made : IsReopened lives config given owner gone = record {
      may = λ i. refusal_by (fits i) (distinct i);
      opens = opens;
      gone_is = is;
      all = subst (λ (es : List (Bytes × Bytes)). IsPermutation given es) (λ i. sym kept i ++ sym is i) (law config Live given fits);
    } in
    subst (λ (z : Bool × List (Bytes × Bytes)). IsReopened z.0 config z.1 owner gone) (λ i. (same i, all i)) made
