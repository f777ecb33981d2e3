-- What a clear of a key leaves, and a load that replaces its entry, as laws over every run of a world.
--     IsClear         a call has a clear to make at a key
--     TellsCleared    a clear of a key that is done leaves nothing of it: neither an entry nor a reservation. So it isn't untold,
--                     whatever others have written before
--     is_misled_at    a key is reserved, and the loader or the writer has lied about it
--     TellsLoaded     nor is it once a key of a `loadAll` is committed, if the store still holds what the loader answered
--     is_foreign_write
--                     an event is a write of a key by somebody else
--     RunsTrueTo      a run in which nobody else writes a key, and nobody who is asked for it lies
--     StaysTold       with write-through on, until the cache is opened again: a key that isn't untold, and about which nobody has
--                     lied since it was reserved, stays so in such a run
--     StaysCoherentTold
--                     so from any moment on at which a key isn't untold, as long as nobody else writes it and nobody lies about it:
--                     what is cached for it is the store's, unless its writer has changed the store and its call isn't committed
--     StaysCoherentCleared, StaysCoherentLoaded
--                     so it is from a clear of the key that is done on, and from such a load on
--     ForgetsCleared  what is cached for a key after a clear of it is what the parts of the history since then leave of an empty
--                     cache: what was loaded or put before it counts no longer
use Rattle.std.specs.Prelude.{◌≡◌, ◌==◌, ℕ, List, [], ◌∷◌, ◌++◌, Bool, true, false, Option, Some, IsSomeAnd}
use Rattle.std.specs.Cmp.Lexicographic.{pointwise}
use Rattle.std.specs.FinMap.{empty, get}
use Rattle.jc_model.specs.Cache.{Bytes, Cache, entry_at}
use Rattle.jc_model.specs.Group.{Group, Part as HistoryPart, Made, nothing_said, load_only, cache_after_parts}
use Rattle.jc_model.specs.declared.event.LoadAnswer.TheVariants.{Found}
use Rattle.jc_model.specs.declared.event.Op.TheVariants.{Clear, LoadAll}
use Rattle.jc_world.specs.declared.event.Outcome.TheVariants as outcome
use Rattle.jc_world.specs.declared.event.Over.{Over}
use Rattle.jc_world.specs.declared.event.Shown.{Shown}
use Rattle.jc_world.specs.declared.event.Stepped.{Stepped}
use Rattle.jc_world.specs.declared.event.WorldEvent.{WorldEvent}
use Rattle.jc_world.specs.declared.event.WorldEvent.TheVariants as event
use Rattle.jc_world.specs.Calls.{op_at}
use Rattle.jc_world.specs.declared.event.Part.{Part}
use Rattle.jc_world.specs.World.{WorldState, open_call, part_of, out_of_part, has_progress, is_misled, has_any, is_untold}
use Rattle.jc_world.specs.Runs.{Step}
use Rattle.jc_world.specs.Coherent.{IsCoherentAt, all_hold}
use Rattle.jc_world.specs.Headline.{Reaches, reopens}

abbrev pub IsClear : WorldState → ℕ → Bytes → Type 0
IsClear w call key = IsSomeAnd (open_call w call) (λ u. op_at u key ≡ Some Clear)

abbrev pub TellsCleared : Type 0
TellsCleared =
    (opening : WorldState) (events : List WorldEvent) (seen : List Shown) (old new : WorldState)
    (call : ℕ) (key : Bytes) (x : Stepped) (over : Option Over)
    → Reaches opening events seen old → IsClear old call key
    → Step old (event.Start call key) (record { outcome = outcome.Stepped x; over = over }) new
    → (has_any new key ≡ false) × (is_untold new key ≡ false)

abbrev pub is_misled_at : WorldState → Bytes → Bool
is_misled_at w key = has_progress is_misled (get w.parts key)

abbrev pub TellsLoaded : Type 0
TellsLoaded =
    (opening : WorldState) (events : List WorldEvent) (seen : List Shown) (old new : WorldState)
    (call : ℕ) (key value : Bytes) (part : Part) (replace : Bool) (x : Stepped) (over : Option Over)
    → Reaches opening events seen old → part_of old call key ≡ Some part
    → part.reservation.op ≡ LoadAll replace → out_of_part part ≡ load_only (Found value)
    → entry_at old.store key ≡ Some value
    → Step old (event.Commit call key) (record { outcome = outcome.Stepped x; over = over }) new
    → (is_untold new key ≡ false) × (is_misled_at new key ≡ false)

abbrev pub is_foreign_write : Bytes → WorldEvent → Bool
is_foreign_write key (event.Foreign k value) = pointwise ◌==◌ key k
is_foreign_write key e = false

abbrev pub RunsTrueTo : Bytes → WorldState → List WorldEvent → List Shown → WorldState → Type 0
RunsTrueTo key old [] [] new = new ≡ old
RunsTrueTo key old (e ∷ es) (s ∷ ss) new =
    (mid : WorldState) × Step old e s mid
    × (is_foreign_write key e ≡ false) × (is_misled_at mid key ≡ false)
    × RunsTrueTo key mid es ss new
RunsTrueTo key old [] (s ∷ ss) new = ⊥
RunsTrueTo key old (e ∷ es) [] new = ⊥

abbrev pub StaysTold : Type 0
StaysTold =
    (opening : WorldState) (before events : List WorldEvent) (seen_before seen : List Shown)
    (old new : WorldState) (key : Bytes)
    → Reaches opening before seen_before old → RunsTrueTo key old events seen new → reopens seen ≡ false
    → old.config.write_through ≡ true → is_misled_at old key ≡ false
    → is_untold old key ≡ false → is_untold new key ≡ false

abbrev pub StaysCoherentTold : Type 0
StaysCoherentTold =
    (opening : WorldState) (before events : List WorldEvent) (seen_before seen : List Shown)
    (old new : WorldState) (key : Bytes)
    → Reaches opening before seen_before old → is_misled_at old key ≡ false → is_untold old key ≡ false
    → RunsTrueTo key old events seen new → reopens seen ≡ false
    → all_hold new ≡ true → IsCoherentAt new key

abbrev pub StaysCoherentCleared : Type 0
StaysCoherentCleared =
    (opening : WorldState) (before events : List WorldEvent) (seen_before seen : List Shown)
    (old cleared new : WorldState) (call : ℕ) (key : Bytes) (x : Stepped) (over : Option Over)
    → Reaches opening before seen_before old → IsClear old call key
    → Step old (event.Start call key) (record { outcome = outcome.Stepped x; over = over }) cleared
    → RunsTrueTo key cleared events seen new → reopens seen ≡ false
    → all_hold new ≡ true → IsCoherentAt new key

abbrev pub StaysCoherentLoaded : Type 0
StaysCoherentLoaded =
    (opening : WorldState) (before events : List WorldEvent) (seen_before seen : List Shown)
    (old loaded new : WorldState) (call : ℕ) (key value : Bytes) (part : Part) (replace : Bool)
    (x : Stepped) (over : Option Over)
    → Reaches opening before seen_before old → part_of old call key ≡ Some part
    → part.reservation.op ≡ LoadAll replace → out_of_part part ≡ load_only (Found value)
    → entry_at old.store key ≡ Some value
    → Step old (event.Commit call key) (record { outcome = outcome.Stepped x; over = over }) loaded
    → RunsTrueTo key loaded events seen new → reopens seen ≡ false
    → all_hold new ≡ true → IsCoherentAt new key

-- in each list of parts of a history
abbrev pub ForgetsCleared : Type 0
ForgetsCleared =
    (cache : Cache) (before after : List HistoryPart) (clear : Group)
    → clear.step.op ≡ Clear → clear.step.out ≡ nothing_said
    → entry_at (cache_after_parts cache (before ++ Made clear ∷ after)) clear.step.key
    ≡ entry_at (cache_after_parts empty after) clear.step.key
