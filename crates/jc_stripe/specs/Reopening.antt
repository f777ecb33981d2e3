-- The entries of a closed cache when it is opened again, in any shape.
--     entries_of        the entries that a stripe caches, the most recently used first
--     all_entries       the entries that these stripes cache, stripe by stripe
--     shares_key        whether a key is cached in both stripes
--     some_share_key    whether two of these stripes share a key
--     belongs_to_stripe whether an entry is of the stripe with this number, in this shape
--     entries_for       the entries of the stripe with this number, in their order
--     kept              the entries that this stripe opens with: its first ones, as many as it has room for
--     is_full_behind    whether the stripe of a key has as many entries as it has room for among these
--     dropped_behind    the entries that are dropped from a list that follows another: those whose stripe is full by then
--     dropped           the entries that are dropped
--     opened_stripe     the stripe with this number, in which nothing has happened: it opens with these entries
--     opened_stripes    a number of such stripes, numbered from a first number on, each with the entries that it keeps
--     KeepsOrDrops      the entries that all these stripes open with, and the dropped ones, are the given entries in another order:
--                       none is lost, and none is there more often than it was given
use Rattle.std.specs.Prelude.{◌≡◌, ◌==◌, ℕ, zero, suc, ◌+◌, List, [], ◌∷◌, ◌++◌, filter, length, take, Bool, false, not, ◌||◌, Ok}
use Rattle.std.specs.Prelude.{nat_le, if◌then◌else◌}
use Rattle.std.specs.List.{list_any}
use Rattle.std.specs.List.Sorted.{IsPermutation}
use Rattle.std.specs.FinMap.{from_entries}
use Rattle.jc_types.specs.declared.config.Config.{Config}
use Rattle.jc_types.specs.Limits.{check}
use Rattle.jc_types.specs.Stripes.{stripe_of}
use Rattle.jc_model.specs.Cache.{Bytes}
use Rattle.jc_model.specs.Apart.{keys_apart}
use Rattle.jc_outside.specs.declared.done.Origin.{Origin}
use Rattle.jc_stripe.specs.State.{State}
use Rattle.jc_stripe.specs.OrderOfUse.{by_use}

-- 1. The entries that were cached.

abbrev pub entries_of : State → List (Bytes × Bytes)
entries_of state = by_use state.opening state.history

abbrev pub all_entries : List State → List (Bytes × Bytes)
all_entries [] = []
all_entries (state ∷ states) = entries_of state ++ all_entries states

-- 2. Keys in two stripes.

abbrev pub shares_key : State → State → Bool
shares_key state other = not (keys_apart (entries_of state) (entries_of other))

-- the stripe and one of the others, or two of the others
abbrev pub some_share_key : List State → Bool
some_share_key [] = false
some_share_key (state ∷ states) = list_any (shares_key state) states || some_share_key states

-- 3. The entries that are kept.

abbrev pub belongs_to_stripe : Config → ℕ → Bytes × Bytes → Bool
belongs_to_stripe config number entry = stripe_of entry.0 config.stripes == number

abbrev pub entries_for : Config → ℕ → List (Bytes × Bytes) → List (Bytes × Bytes)
entries_for config number entries = filter (belongs_to_stripe config number) entries

abbrev pub kept : Config → ℕ → List (Bytes × Bytes) → List (Bytes × Bytes)
kept config number entries = take config.capacity (entries_for config number entries)

-- 4. The entries that are dropped.

abbrev pub is_full_behind : Config → List (Bytes × Bytes) → Bytes → Bool
is_full_behind config before key = nat_le config.capacity (length (entries_for config (stripe_of key config.stripes) before))

-- `before` comes in front of the list, in the order of all entries
abbrev pub dropped_behind : Config → List (Bytes × Bytes) → List (Bytes × Bytes) → List (Bytes × Bytes)
dropped_behind config before [] = []
dropped_behind config before (entry ∷ entries) =
    if is_full_behind config before entry.0 then entry ∷ dropped_behind config (before ++ entry ∷ []) entries
    else dropped_behind config (before ++ entry ∷ []) entries

abbrev pub dropped : Config → List (Bytes × Bytes) → List (Bytes × Bytes)
dropped config entries = dropped_behind config [] entries

-- 5. The stripes that are opened.

abbrev pub opened_stripe : Config → Origin → ℕ → List (Bytes × Bytes) → State
opened_stripe config origin number contents =
    record {
      config = config;
      stripe = number;
      origin = origin;
      lives = false;
      ended = [];
      opening = contents;
      cache = from_entries contents;
      reservations = [];
      joiners = [];
      history = [];
      next = 0;
      marked = [];
      shut = false;
    }

abbrev pub opened_stripes : Config → Origin → List (Bytes × Bytes) → ℕ → ℕ → List State
opened_stripes config origin entries number zero = []
opened_stripes config origin entries number (suc count) =
    opened_stripe config origin number (kept config number entries) ∷ opened_stripes config origin entries (number + 1) count

-- 6. A law of every reopening.

abbrev pub KeepsOrDrops : Type 0
KeepsOrDrops =
    (config : Config) (origin : Origin) (entries : List (Bytes × Bytes)) → check config ≡ Ok tt
    → IsPermutation entries (all_entries (opened_stripes config origin entries 0 config.stripes) ++ dropped config entries)
