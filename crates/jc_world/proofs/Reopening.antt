-- A cache that is opened again: its world is an opening.
--     no_calls, no_parts, no_joins
--                            with no call under way no key is reserved, and no load is joined
--     reopened_at            each stripe of the new shape opens with what it keeps
--     entries_once           what is cached in all stripes has each key once
--     reopened_history, few_reopened
--                            the new stripes have no history, and are not too many
--     passed_reopened        their opening passes a test if all that they cache does
--     reopened_coherent      if the opening is coherent but for what others have written, so is the world
--     may_reopen             what a reopening rests on
--     reopened_opens         the world is an opening
use Rattle.jc_world.proofs.Common.{◌≡◌, ℕ, zero, suc, ◌+◌, true, false, cond, Bool, is_some, ◌&&◌, ◌||◌, List, [], ◌∷◌, length, slice_get, Some, None, Ok, Err, Option, Result, IfSome, IsSomeAnd, sym, refl, ap, ◌∙◌, subst, zero-add, Get, eqb-true, and_parts, nil_from_length, find, list_all, list_all-append, slice_get_within, ◌<◌, ◌≤◌, STRIPES_MAX, history_in, history_at, get, empty, from_entries, get-empty, get-from_entries, nat_list_cmp_total, same_map, eq_by_cmp, same_key, stripe_of, check, Config, Refusal, Bytes, entry_at, key_cmp, Played, State, WorldEvent, CallState, has_number, stripes_reopened, after_reopening, fits, IsOpeningStripe, IsOpeningWorld, is_stored, is_as_told, opens, opens_coherent, opens_as_told, is_untold, has_any, IsCallOf, IsSoundWorld, join_cmp, WorldState, entry_in, cached_entry, is_idle, open_call, op_at}
use Rattle.std.specs.FinMap as map
use Rattle.std.specs.Result.{is_ok}
use Rattle.jc_world.specs.Reopening.{foreign_reopened}
use Rattle.jc_model.specs.Listed.{has_distinct_keys}
use Rattle.jc_stripe.specs.Reopening.{all_entries, kept, opened_stripe, opened_stripes}
use Rattle.jc_stripe.proofs.CallerLemmas.{all_at, all_entries_once, opened_len, opened_at, opened_opens}
use Rattle.jc_world.proofs.Lemmas.{missing, same_found, few_stripes}
use Rattle.jc_world.proofs.Holding.{call_on}
use Rattle.jc_world.proofs.Kept.{holds_same}
use Rattle.jc_world.proofs.Maps.{keys_ordered, joins_ordered}

-- 1. No call is under way.

pub no_calls : (w : WorldState) → is_idle w ≡ true → w.calls ≡ []
no_calls w idle = nil_from_length w.calls (eqb-true (length w.calls) 0 idle)

-- so none is found, of which anything would hold
not_open : (w : WorldState) (call : ℕ) (P : CallState → Type 0) → is_idle w ≡ true → IsSomeAnd (open_call w call) P → ⊥
not_open w call P idle h = subst (λ o. IsSomeAnd o P) (ap (find (has_number call)) (no_calls w idle)) h

pub no_parts : (w : WorldState) → IsSoundWorld w → is_idle w ≡ true → w.parts ≡ empty
no_parts w old idle =
    same_map keys_ordered.total keys_ordered.exact w.parts empty (λ key.
    missing (get w.parts key) (λ part there. not_open w part.reservation.caller.call (λ u. op_at u key ≡ Some part.reservation.op) idle (call_on w key part there old))
    ∙ sym (get-empty key_cmp key))

pub no_joins : (w : WorldState) → IsSoundWorld w → is_idle w ≡ true → w.joins ≡ empty
no_joins w old idle =
    same_map joins_ordered.total joins_ordered.exact w.joins empty (λ at.
    missing (get w.joins at) (λ join there. not_open w join.caller.call (IsCallOf join.caller.session join.key Get) idle (old.joins at join there).1.call)
    ∙ sym (get-empty join_cmp at))

-- 2. The stripes of the new shape.

pub reopened_at : (config : Config) (w : WorldState) (n : ℕ) (s : State) → slice_get (stripes_reopened config w) n ≡ Some s → s ≡ opened_stripe config Played n (kept config n (all_entries w.stripes))
reopened_at config w n s here =
    let entries = all_entries w.stripes in
    let within : n < config.stripes = subst (λ count. n < count) (opened_len config Played entries 0 config.stripes) (slice_get_within (stripes_reopened config w) n s here) in
    same_found (slice_get (stripes_reopened config w) n) s (opened_stripe config Played n (kept config n entries)) here
    (opened_at config Played entries 0 config.stripes n within ∙ ap (λ m. Some (opened_stripe config Played m (kept config m entries))) (zero-add n))

-- no key is in two of the old ones, nor twice in one
pub entries_once : (w : WorldState) → IsSoundWorld w → has_distinct_keys (all_entries w.stripes) ≡ true
entries_once w old =
    all_entries_once w.config 0 w.stripes (λ i s here.
    let at = old.shape.each i s here in (at.reached, at.config_is, at.number_is ∙ sym (zero-add i)))

-- nothing is in their histories
pub reopened_history : (config : Config) (w : WorldState) (number : ℕ) → history_at (stripes_reopened config w) number ≡ []
reopened_history config w number = go (slice_get (stripes_reopened config w) number) refl
  where
    go : (o : Option State) → slice_get (stripes_reopened config w) number ≡ o → history_in o ≡ []
    go None is = refl
    go (Some s) is = ap (λ (t : State). t.history) (reopened_at config w number s is)

-- and there are not too many of them
pub few_reopened : (config : Config) (w : WorldState) → check config ≡ Ok tt → length (stripes_reopened config w) ≤ STRIPES_MAX
few_reopened config w fits_in =
    subst (λ count. count ≤ STRIPES_MAX) (sym (opened_len config Played (all_entries w.stripes) 0 config.stripes)) (few_stripes config fits_in)

-- 3. What is cached, if the opening is coherent but for what others have written.

-- an opening passes a test if all that the stripes then cache does
passed_all : (test : Bytes × Bytes → Bool) (config : Config) (contents : List (Bytes × Bytes)) (number count : ℕ)
    → list_all test (all_entries (opened_stripes config Played contents number count)) ≡ opens test (opened_stripes config Played contents number count)
passed_all test config contents number zero = refl
passed_all test config contents number (suc count) =
    list_all-append test (kept config number contents) (all_entries (opened_stripes config Played contents (number + 1) count))
    ∙ ap (λ b. list_all test (kept config number contents) && b) (passed_all test config contents (number + 1) count)

pub passed_reopened : (test : Bytes × Bytes → Bool) (config : Config) (w : WorldState) → list_all test (all_entries (stripes_reopened config w)) ≡ opens test (stripes_reopened config w)
passed_reopened test config w = passed_all test config (all_entries w.stripes) 0 config.stripes

found_passes : (test : Bytes × Bytes → Bool) (entries : List (Bytes × Bytes)) (key value : Bytes) → list_all test entries ≡ true → map.find key_cmp key entries ≡ Some value → test (key, value) ≡ true
found_passes test [] key value all h = cc
found_passes test (e ∷ es) key value all h =
    let parts = and_parts (test e) (list_all test es) all in
    elim (eq_by_cmp key_cmp key e.0) as (λ b. eq_by_cmp key_cmp key e.0 ≡ b → cond b (Some e.1) (map.find key_cmp key es) ≡ Some value → test (key, value) ≡ true) [
      | true ↦ λ same h.
          let is : value ≡ e.1 = cc in
          let at = same_key key e.0 same in
          ap test (λ i. (at i, is i)) ∙ parts.0
      | false ↦ λ other h. found_passes test es key value parts.1 h
    ] refl h

-- what is cached then passes a test that the opening passes
kept_passes : (test : Bytes × Bytes → Bool) (config : Config) (w : WorldState) → opens test (stripes_reopened config w) ≡ true → (key value : Bytes) → cached_entry (after_reopening config w) key ≡ Some value → test (key, value) ≡ true
kept_passes test config w all key value cached = go (slice_get (stripes_reopened config w) (stripe_of key config.stripes)) refl
  where
    go : (o : Option State) → slice_get (stripes_reopened config w) (stripe_of key config.stripes) ≡ o → test (key, value) ≡ true
    go None is = let t : None ≡ Some value = sym (ap (λ o. entry_in o key) is) ∙ cached in cc
    go (Some s) is =
        let number = stripe_of key config.stripes in
        let contents = kept config number (all_entries w.stripes) in
        let opened : s ≡ opened_stripe config Played number contents = reopened_at config w number s is in
        let passed : list_all test contents ≡ true =
        ap (λ (t : State). list_all test t.opening) (sym opened) ∙ all_at (λ t. list_all test t.opening) (stripes_reopened config w) number s all is
        in
        let found : entry_at (from_entries contents) key ≡ Some value =
        ap (λ (t : State). entry_at t.cache key) (sym opened) ∙ sym (ap (λ o. entry_in o key) is) ∙ cached
        in
        found_passes test contents key value passed (sym (get-from_entries nat_list_cmp_total contents key) ∙ found)

pub left_false : (a b : Bool) → b ≡ true → (a && b) ≡ false → a ≡ false
left_false false b t h = refl
left_false true b t h = let x : true ≡ false = sym t ∙ h in cc

-- so it is the store's, unless somebody else has written its key
kept_stored : (config : Config) (w : WorldState) (key value : Bytes) → opens_as_told w.foreign w.store (stripes_reopened config w) ≡ true → cached_entry (after_reopening config w) key ≡ Some value
    → is_untold (after_reopening config w) key ≡ false → entry_at w.store key ≡ Some value
kept_stored config w key value all cached told =
    let any : has_any (after_reopening config w) key ≡ true = ap (λ o. is_some o || is_some (get (after_reopening config w).parts key)) cached in
    elim (opens_coherent w.store (stripes_reopened config w)) as (λ b. opens_coherent w.store (stripes_reopened config w) ≡ b → (is_some (entry_at (foreign_reopened w.foreign b) key) && has_any (after_reopening config w) key) ≡ false → entry_at w.store key ≡ Some value) [
      | true ↦ λ is told. holds_same (entry_at w.store key) value (kept_passes (is_stored w.store) config w is key value cached)
      | false ↦ λ is told.
          let free = left_false (is_some (entry_at w.foreign key)) (has_any (after_reopening config w) key) any told in
          holds_same (entry_at w.store key) value (ap (λ b. b || is_stored w.store (key, value)) (sym free) ∙ kept_passes (is_as_told w.foreign w.store) config w all key value cached)
    ] refl told

pub reopened_coherent : (config : Config) (w : WorldState) → opens_as_told w.foreign w.store (stripes_reopened config w) ≡ true → (key : Bytes) → is_untold (after_reopening config w) key ≡ false → IfSome (cached_entry (after_reopening config w) key) (λ value. entry_at w.store key ≡ Some value)
reopened_coherent config w all key told = go (cached_entry (after_reopening config w) key) refl
  where
    go : (o : Option Bytes) → cached_entry (after_reopening config w) key ≡ o → IfSome o (λ value. entry_at w.store key ≡ Some value)
    go None is = tt
    go (Some value) is = kept_stored config w key value all is told

-- 4. The world is an opening.

checked : (r : Result (Unit {0}) Refusal) → is_ok r ≡ true → r ≡ Ok tt
checked (Ok x) h = refl
checked (Err e) h = cc

-- what a reopening rests on
pub may_reopen : (w : WorldState) (config : Config) → fits w (WorldEvent.Reopen config) ≡ true → (is_idle w ≡ true) × (check config ≡ Ok tt)
may_reopen w config fit = let parts = and_parts (is_idle w) (is_ok (check config)) fit in (parts.0, checked (check config) parts.1)

pub reopened_opens : (w : WorldState) (config : Config) → IsSoundWorld w → fits w (WorldEvent.Reopen config) ≡ true → IsOpeningWorld (after_reopening config w)
reopened_opens w config old fit =
    let fits_in = (may_reopen w config fit).1 in
    record {
      config_fits = fits_in;
      count = opened_len config Played (all_entries w.stripes) 0 config.stripes;
      each = λ n s here. subst (IsOpeningStripe config n) (sym (reopened_at config w n s here)) (record {
        config_is = refl;
        number_is = refl;
        origin_is = refl;
        opened = opened_opens config Played (all_entries w.stripes) n fits_in (entries_once w old);
      });
      order = refl;
      calls = refl;
      parts = refl;
      joins = refl;
      cold = λ fresh. absurd (let t : false ≡ true = fresh in cc);
      coherent = λ hold key told unchanged. reopened_coherent config w (and_parts config.write_through (opens_as_told w.foreign w.store (stripes_reopened config w)) hold).1 key told;
    }
