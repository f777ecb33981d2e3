-- The reopening of a closed cache.
--     entries_left     the entries that a closed stripe leaves to the cache that opens: none if it was shut, because each of them
--                      was to be forgotten
--     all_left         the entries that these stripes leave, stripe by stripe
--     shares_left      whether two stripes leave the same key
--     refusal_by       the refusal, by the result of `check` on the shape, and by whether all keys are distinct
--     reopen_refusal   the refusal to open a closed cache with these entries in this shape, if there is enough memory: the shape
--                      is out of its limits, or a key is there twice
--     IsReopenRefusal  why the cache is not opened: `reopen_refusal`; or, without one, a failed allocation
--     lived            whether the cache of these stripes lived on, by the first of them
--     IsReopened       the owner of a cache that was opened with these entries, and lives on or doesn't, and the entries that
--                      were dropped: what the stripes open with and what was dropped are all entries, in another order
use Rattle.std.specs.Prelude.{◌≡◌, ◌⊎◌, ◌&&◌, List, [], ◌∷◌, ◌++◌, Bool, false, not, Option, None, Some, Result, Ok, Err}
use Rattle.std.specs.Prelude.{if◌then◌else◌}
use Rattle.std.specs.List.Sorted.{IsPermutation}
use Rattle.jc_types.specs.declared.config.Config.{Config}
use Rattle.jc_types.specs.declared.refusal.Refusal.{Refusal}
use Rattle.jc_types.specs.declared.refusal.Refusal.TheVariants.{OutOfMemory, RepeatedKey}
use Rattle.jc_types.specs.Limits.{check}
use Rattle.jc_model.specs.Cache.{Bytes}
use Rattle.jc_model.specs.Listed.{has_distinct_keys}
use Rattle.jc_stripe.specs.State.{State}
use Rattle.jc_stripe.specs.Reopening.{all_entries, dropped, entries_of, shares_key}
use Rattle.jc_cache.specs.Caches.{CacheOwnerState, OpensWith}

-- 1. What the closed cache leaves. Nothing is reserved in it, so no key of a stripe that is shut is spared.

abbrev pub entries_left : State → List (Bytes × Bytes)
entries_left state = if state.shut then [] else entries_of state

abbrev pub all_left : List State → List (Bytes × Bytes)
all_left [] = []
all_left (state ∷ states) = entries_left state ++ all_left states

abbrev pub shares_left : State → State → Bool
shares_left state other = not state.shut && (not other.shut && shares_key state other)

-- 2. The cache that opens, or why none does.

abbrev pub refusal_by : Result (Unit {0}) Refusal → Bool → Option Refusal
refusal_by (Err refusal) distinct = Some refusal
refusal_by (Ok fits) distinct = if distinct then None else Some RepeatedKey

abbrev pub reopen_refusal : Config → List (Bytes × Bytes) → Option Refusal
reopen_refusal config entries = refusal_by (check config) (has_distinct_keys entries)

abbrev pub IsReopenRefusal : Config → List (Bytes × Bytes) → Refusal → Type 0
IsReopenRefusal config entries refusal =
    (reopen_refusal config entries ≡ Some refusal) ⊎ ((reopen_refusal config entries ≡ None) × (refusal ≡ OutOfMemory))

abbrev pub lived : List State → Bool
lived [] = false
lived (state ∷ states) = state.lives

pub record IsReopened (lives : Bool) (config : Config) (entries : List (Bytes × Bytes)) (owner : CacheOwnerState)
    (gone : List (Bytes × Bytes)) : Type 0 where
  pub may : reopen_refusal config entries ≡ None
  pub opens : OpensWith lives config entries owner
  pub gone_is : gone ≡ dropped config entries
  pub all : IsPermutation entries (all_entries owner.noted ++ gone)
