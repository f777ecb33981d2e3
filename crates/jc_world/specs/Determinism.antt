-- The law that two runs of one world with the same events show the same, as long as no allocation for a new entry fails.
--     cause_has_memory       the cause of an eviction isn't that an allocation failed
--     eviction_has_memory    that is so of an eviction, if one was made
--     has_memory             the same of what was shown: no new entry was lost because an allocation for it failed
--     have_memory            the same of all that was shown
--     RunsAreDetermined      two runs of the same events from one world, in both of which memory was there, have shown the same and
--                            end in the same world
use Rattle.std.specs.Prelude.{◌≡◌, List, Bool, true, false, Option, None, Some}
use Rattle.std.specs.List.{list_all}
use Rattle.jc_model.specs.declared.event.Cause.{Cause}
use Rattle.jc_model.specs.declared.event.Cause.TheVariants.{Full, Memory, Invalidated}
use Rattle.jc_stripe.specs.declared.begun.Eviction.{Eviction}
use Rattle.jc_world.specs.declared.event.Outcome.{Outcome}
use Rattle.jc_world.specs.declared.event.Outcome.TheVariants as outcome
use Rattle.jc_world.specs.declared.event.Shown.{Shown}
use Rattle.jc_world.specs.declared.event.WorldEvent.{WorldEvent}
use Rattle.jc_world.specs.World.{WorldState}
use Rattle.jc_world.specs.Runs.{Run}

abbrev pub cause_has_memory : Cause → Bool
cause_has_memory Full = true
cause_has_memory Memory = false
cause_has_memory Invalidated = true

abbrev pub eviction_has_memory : Option Eviction → Bool
eviction_has_memory None = true
eviction_has_memory (Some e) = cause_has_memory e.cause

-- only a step shows an eviction of its own key
abbrev pub has_memory : Outcome → Bool
has_memory (outcome.Stepped x) = eviction_has_memory x.evicted
has_memory o = true

abbrev pub have_memory : List Shown → Bool
have_memory seen = list_all (λ s. has_memory s.outcome) seen

abbrev pub RunsAreDetermined : Type 0
RunsAreDetermined =
    (old one other : WorldState) (events : List WorldEvent) (seen shown : List Shown)
    → Run old events seen one → have_memory seen ≡ true
    → Run old events shown other → have_memory shown ≡ true
    → (seen ≡ shown) × (one ≡ other)
