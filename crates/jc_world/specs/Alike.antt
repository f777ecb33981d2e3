-- Worlds that go on alike: they differ in their past events, and nothing that they may show from now on depends on that.
--     AgreeAt          two histories have the same event at the place that answers a joiner, if the joiner has an answer
--     Agree            the same of each of these joiners
--     IsLike           a stripe is like another: both have the same entries in the same order of use, as many events, and the same
--                      answers for their joiners. All else but the opening and the history is equal
--     AreLike          each stripe of one list is like the stripe of the other that has its number
--     WorldsAlike      the stripes of one world are like those of the other, and all else but the order of events is equal
--     WorldsGoOnAlike  of two worlds that are alike, whatever one may show of events the other may show of them, and then they are
--                      alike again
use Rattle.std.specs.Prelude.{◌≡◌, List, [], ◌∷◌, length, slice_get}
use Rattle.jc_model.specs.declared.event.Event.{Event}
use Rattle.jc_inflight.specs.declared.joiner.Joiner.{Joiner}
use Rattle.jc_inflight.specs.declared.joiner.JoinState.{JoinState}
use Rattle.jc_inflight.specs.declared.joiner.JoinState.TheVariants.{Waiting, Answered, Again}
use Rattle.jc_stripe.specs.OrderOfUse.{by_use}
use Rattle.jc_stripe.specs.State.{State}
use Rattle.jc_world.specs.declared.event.Shown.{Shown}
use Rattle.jc_world.specs.declared.event.WorldEvent.{WorldEvent}
use Rattle.jc_world.specs.Runs.{Run}
use Rattle.jc_world.specs.World.{WorldState}

-- 1. Stripes.

abbrev pub AgreeAt : JoinState → List Event → List Event → Type 0
AgreeAt Waiting h k = Unit {0}
AgreeAt (Answered place shared) h k = slice_get k place ≡ slice_get h place
AgreeAt Again h k = Unit {0}

abbrev pub Agree : List Joiner → List Event → List Event → Type 0
Agree [] h k = Unit {0}
Agree (j ∷ joiners) h k = AgreeAt j.state h k × Agree joiners h k

pub record IsLike (a b : State) : Type 0 where
  pub is : b ≡ record a { opening = b.opening; history = b.history }
  pub order : by_use b.opening b.history ≡ by_use a.opening a.history
  pub count : length b.history ≡ length a.history
  pub answers : Agree a.joiners a.history b.history

abbrev pub AreLike : List State → List State → Type 0
AreLike [] [] = Unit {0}
AreLike [] (b ∷ bs) = ⊥
AreLike (a ∷ as_) [] = ⊥
AreLike (a ∷ as_) (b ∷ bs) = IsLike a b × AreLike as_ bs

-- 2. Worlds.

pub record WorldsAlike (w v : WorldState) : Type 0 where
  pub is : v ≡ record w { stripes = v.stripes; order = v.order }
  pub alike : AreLike w.stripes v.stripes

abbrev pub WorldsGoOnAlike : Type 0
WorldsGoOnAlike =
    (w v n : WorldState) (events : List WorldEvent) (seen : List Shown)
    → WorldsAlike w v → Run w events seen n
    → (m : WorldState) × Run v events seen m × WorldsAlike n m
