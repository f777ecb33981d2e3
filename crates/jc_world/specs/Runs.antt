-- Runs of a world: events one after another, each with what it shows. Every law of a world speaks of what a run leaves and shows.
--     Step                        one event: one that doesn't fit is shown as a fault and changes nothing
--     Run                         events one after another
--     RunAppending                the same, and what they show is appended to a list
--     is_fit, all_fit             an outcome is not the fault of an event that doesn't fit, and none of those that are shown is
--     AllFit                      whatever the world may choose, each of these events fits when it comes
use Rattle.std.specs.Prelude.{◌≡◌, ◌⊎◌, List, [], ◌∷◌, ◌++◌, Bool, true, false}
use Rattle.std.specs.List.{list_all}
use Rattle.jc_world.specs.declared.event.WorldEvent.{WorldEvent}
use Rattle.jc_world.specs.declared.event.Outcome.{Outcome}
use Rattle.jc_world.specs.declared.event.Outcome.TheVariants as outcome
use Rattle.jc_world.specs.declared.event.Shown.{Shown}
use Rattle.jc_world.specs.World.{WorldState}
use Rattle.jc_world.specs.Fits.{fits}
use Rattle.jc_world.specs.Events.{not_over, Happens}

-- 1. Steps and runs.

-- what happens, if it fits
abbrev pub Step : WorldState → WorldEvent → Shown → WorldState → Type 0
Step old e seen new =
    ((fits old e ≡ true) × Happens old e seen new)
    ⊎ ((fits old e ≡ false) × (seen ≡ not_over outcome.Unfit) × (new ≡ old))

abbrev pub Run : WorldState → List WorldEvent → List Shown → WorldState → Type 0
Run old [] [] new = new ≡ old
Run old (e ∷ es) (s ∷ ss) new = (mid : WorldState) × Step old e s mid × Run mid es ss new
Run old [] (s ∷ ss) new = ⊥
Run old (e ∷ es) [] new = ⊥

abbrev pub RunAppending : WorldState → List WorldEvent → List Shown → List Shown → WorldState
    → Type 0
RunAppending old events before after new =
    (seen : List Shown) × Run old events seen new × (after ≡ before ++ seen)

-- 2. Events that fit.

abbrev pub is_fit : Outcome → Bool
is_fit outcome.Unfit = false
is_fit o = true

abbrev pub all_fit : List Shown → Bool
all_fit seen = list_all (λ s. is_fit s.outcome) seen

abbrev pub AllFit : WorldState → List WorldEvent → Type 0
AllFit old events =
    (seen : List Shown) (new : WorldState) → Run old events seen new → all_fit seen ≡ true
