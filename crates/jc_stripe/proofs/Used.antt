-- What a step and its group leave of the entries by use, and of the cache that these make.
use Rattle.std.proofs.Common.{◌≡◌, ◌&&◌, ℕ, List, [], ◌∷◌, ◌++◌, map, Bool, true, false, cond, Option, Some, None, is_some, is_none, refl, sym, ap, ◌∙◌}
use Rattle.std.specs.Ordering.{eq_by_cmp}
use Rattle.std.proofs.lemmas.Cmp.{nat_list_cmp_total}
use Rattle.std.specs.FinMap as finite
use Rattle.std.specs.FinMap.{from_entries, get-from_entries}
use Rattle.jc_types.specs.declared.refusal.Refusal.{Refusal}
use Rattle.jc_model.specs.declared.event.Cause.{Cause}
use Rattle.jc_model.specs.declared.event.Event.{Event}
use Rattle.jc_model.specs.declared.event.Op.{Op}
use Rattle.jc_model.specs.declared.event.Op.TheVariants.{ContainsKey, LoadAll}
use Rattle.jc_model.specs.declared.event.Out.{Out}
use Rattle.jc_model.specs.declared.event.LoadAnswer.{LoadAnswer}
use Rattle.jc_model.specs.declared.event.LoadAnswer.TheVariants.{NotAsked, Found, Nothing, Failed}
use Rattle.jc_model.specs.Cache.{Bytes, Cache, key_cmp, entry_at, with_entry}
use Rattle.jc_model.specs.Listed.{has_distinct_keys, with_entry_first}
use Rattle.jc_model.specs.Table.{first_fault, entry_without_fault, entry_after, entry_by_fault, value_after_load, seq_cache}
use Rattle.jc_model.specs.Processor.{found_in}
use Rattle.jc_model.specs.Group.{Group, victim_events, shared_event, evicted_events, events_of, step_event, step_place, cache_after_group, without_own}
use Rattle.jc_model.specs.Group as group
use Rattle.jc_model.proofs.CallerLemmas.{from_entries-others, from_entries-first, distinct-others, distinct-first, same_cache, get-with_entry, same_key}
use Rattle.jc_entries.specs.ByUse.{after_eviction}
use Rattle.jc_stripe.specs.OrderOfUse.{uses, is_use, used_at, order_after_event, by_use}
use Rattle.jc_stripe.specs.Appending.{without_own_entry, entries_after}
use Rattle.jc_types.specs.declared.caller.Caller.{Caller}

-- 1. The events of a group, one after another.

pub by_use-append : (entries : List (Bytes × Bytes)) (xs ys : List Event) → by_use entries (xs ++ ys) ≡ by_use (by_use entries xs) ys
by_use-append entries [] ys = refl
by_use-append entries (x ∷ xs) ys = by_use-append (order_after_event entries x) xs ys

-- shared steps leave the entries
pub by_use-shared : (entries : List (Bytes × Bytes)) (place : ℕ) (key : Bytes) (answer : LoadAnswer) (callers : List Caller) → by_use entries (map (shared_event place key answer) callers) ≡ entries
by_use-shared entries place key answer [] = refl
by_use-shared entries place key answer (c ∷ cs) = by_use-shared entries place key answer cs

by_use-victim : (entries : List (Bytes × Bytes)) (victim : Option Bytes) → by_use entries (victim_events victim) ≡ after_eviction victim entries
by_use-victim entries None = refl
by_use-victim entries (Some key) = refl

by_use-evicted : (entries : List (Bytes × Bytes)) (key : Bytes) (cause : Option Cause) → by_use entries (evicted_events key cause) ≡ without_own_entry key cause entries
by_use-evicted entries key None = refl
by_use-evicted entries key (Some cause) = refl

-- a group leaves the entries after its victim's eviction, with the step's entry, and after that entry's own eviction if it goes again
pub by_use-group : (entries : List (Bytes × Bytes)) (place : ℕ) (g : Group) → by_use entries (events_of place g) ≡ entries_after entries g.step.key g.step.op g.step.out g.victim g.evicted
by_use-group entries place g =
    let shared : List Event = map (shared_event (step_place place g) g.step.key g.step.out.load) g.joined in
    let own : List Event = evicted_events g.step.key g.evicted in
    let at : List (Bytes × Bytes) = used_at (after_eviction g.victim entries) g.step.key g.step.op g.step.out in
    by_use-append entries (victim_events g.victim ++ step_event g ∷ shared) own
    ∙ ap (λ es. by_use es own)
    (by_use-append entries (victim_events g.victim) (step_event g ∷ shared)
    ∙ ap (λ es. by_use es (step_event g ∷ shared)) (by_use-victim entries g.victim)
    ∙ by_use-shared at (step_place place g) g.step.key g.step.out.load g.joined)
    ∙ by_use-evicted at g.step.key g.evicted

-- 2. The entries, each key once.

apart-without : (victim : Option Bytes) (entries : List (Bytes × Bytes)) → has_distinct_keys entries ≡ true → has_distinct_keys (after_eviction victim entries) ≡ true
apart-without None entries h = h
apart-without (Some key) entries h = distinct-others key entries h

apart-used_at : (entries : List (Bytes × Bytes)) (key : Bytes) (op : Op) (out : Out) → has_distinct_keys entries ≡ true → has_distinct_keys (used_at entries key op out) ≡ true
apart-used_at entries key op out h = elim (is_use op out) as (λ b. has_distinct_keys (cond b (with_entry_first key (entry_after op (finite.find key_cmp key entries) out) entries) entries) ≡ true) [
  | true ↦ distinct-first key (entry_after op (finite.find key_cmp key entries) out) entries h
  | false ↦ h
]

apart-own_gone : (key : Bytes) (cause : Option Cause) (entries : List (Bytes × Bytes)) → has_distinct_keys entries ≡ true → has_distinct_keys (without_own_entry key cause entries) ≡ true
apart-own_gone key None entries h = h
apart-own_gone key (Some cause) entries h = distinct-others key entries h

pub apart-left : (entries : List (Bytes × Bytes)) (key : Bytes) (op : Op) (out : Out) (victim : Option Bytes) (evicted : Option Cause) → has_distinct_keys entries ≡ true → has_distinct_keys (entries_after entries key op out victim evicted) ≡ true
apart-left entries key op out victim evicted h = apart-own_gone key evicted _ (apart-used_at (after_eviction victim entries) key op out (apart-without victim entries h))

-- 3. The cache that they make.

pub find-entry : (entries : List (Bytes × Bytes)) (key : Bytes) → finite.find key_cmp key entries ≡ entry_at (from_entries {R = key_cmp} entries) key
find-entry entries key = sym (get-from_entries nat_list_cmp_total entries key)

from-without : (victim : Option Bytes) (entries : List (Bytes × Bytes)) → from_entries {R = key_cmp} (after_eviction victim entries) ≡ group.without_victim (from_entries entries) victim
from-without None entries = refl
from-without (Some key) entries = from_entries-others key entries

pub cond_same : {A : Type 0} (b : Bool) (x y : A) → (b ≡ true → x ≡ y) → cond b x y ≡ y
cond_same true x y h = h refl
cond_same false x y h = refl

-- an entry that is put where it is leaves the cache
pub same-entry : (cache : Cache) (key : Bytes) (entry : Option Bytes) → entry ≡ entry_at cache key → with_entry cache key entry ≡ cache
same-entry cache key entry h = same_cache _ _ (λ q. get-with_entry cache key entry q ∙ cond_same (eq_by_cmp key_cmp q key) entry (entry_at cache q) (λ e. h ∙ ap (entry_at cache) (sym (same_key q key e))))

-- a step that is no use leaves its entry
not_found : (answer : LoadAnswer) (entry : Option Bytes) → is_some (found_in answer) ≡ false → value_after_load answer entry ≡ entry
not_found NotAsked entry h = refl
not_found (Found value) entry h = cc
not_found Nothing entry h = refl
not_found (Failed code) entry h = refl

unused_after : (op : Op) (entry : Option Bytes) (out : Out) → uses op out.load ≡ false → entry_without_fault op entry out ≡ entry
unused_after ContainsKey entry out h = refl
unused_after (LoadAll replace) entry out h = not_found out.load entry h
unused_after op entry out h = cc

unused_left : (fault : Option Refusal) (used : Bool) (entry after : Option Bytes) → (is_none fault && used) ≡ false → (used ≡ false → after ≡ entry) → entry_by_fault fault entry after ≡ entry
unused_left (Some fault) used entry after h later = refl
unused_left None used entry after h later = later h

pub unused_keeps : (op : Op) (entry : Option Bytes) (out : Out) → is_use op out ≡ false → entry_after op entry out ≡ entry
unused_keeps op entry out h = unused_left (first_fault out) (uses op out.load) entry (entry_without_fault op entry out) h (unused_after op entry out)

from-used_at : (entries : List (Bytes × Bytes)) (key : Bytes) (op : Op) (out : Out)
    → from_entries {R = key_cmp} (used_at entries key op out) ≡ with_entry (from_entries entries) key (entry_after op (entry_at (from_entries entries) key) out)
from-used_at entries key op out = go (is_use op out) refl
  where
    cache : Cache
    cache = from_entries entries

    go : (b : Bool) → is_use op out ≡ b → from_entries {R = key_cmp} (cond b (with_entry_first key (entry_after op (finite.find key_cmp key entries) out) entries) entries) ≡ with_entry (from_entries entries) key (entry_after op (entry_at (from_entries entries) key) out)
    go true e = from_entries-first key (entry_after op (finite.find key_cmp key entries) out) entries ∙ ap (λ o. with_entry (from_entries entries) key (entry_after op o out)) (find-entry entries key)
    go false e = sym (same-entry (from_entries entries) key _ (unused_keeps op (entry_at (from_entries entries) key) out e))

from-own_gone : (key : Bytes) (cause : Option Cause) (entries : List (Bytes × Bytes)) → from_entries {R = key_cmp} (without_own_entry key cause entries) ≡ without_own (from_entries entries) key cause
from-own_gone key None entries = refl
from-own_gone key (Some cause) entries = from_entries-others key entries

-- the entries that a group leaves make the cache that it leaves
pub from-left : (entries : List (Bytes × Bytes)) (g : Group) → from_entries {R = key_cmp} (entries_after entries g.step.key g.step.op g.step.out g.victim g.evicted) ≡ cache_after_group (from_entries entries) g
from-left entries g =
    from-own_gone g.step.key g.evicted (used_at (after_eviction g.victim entries) g.step.key g.step.op g.step.out)
    ∙ ap (λ c. without_own c g.step.key g.evicted) (from-used_at (after_eviction g.victim entries) g.step.key g.step.op g.step.out ∙ ap (λ c. seq_cache c g.step) (from-without g.victim entries))
