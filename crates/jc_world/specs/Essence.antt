-- The essence of a world: what decides all that it may show from now on.
--     answer_in          the event that answers a joiner, if the joiner has an answer
--     StripeEssence      a stripe without its opening and history. In their place: its entries in their order of use, the number of
--                        its events, and the event that answers each joiner
--     essence_of         the essence of a stripe
--     WorldEssence       a world without its order of events, and of each stripe the essence alone
--     essence_of_world   the essence of a world
--     EssencesTell       two worlds with the same essence are alike
use Rattle.std.specs.Prelude.{◌≡◌, ℕ, List, [], length, map, Option, None, slice_get}
use Rattle.jc_model.specs.Cache.{Bytes}
use Rattle.jc_model.specs.declared.event.Event.{Event}
use Rattle.jc_inflight.specs.declared.joiner.JoinState.{JoinState}
use Rattle.jc_inflight.specs.declared.joiner.JoinState.TheVariants.{Waiting, Answered, Again}
use Rattle.jc_stripe.specs.OrderOfUse.{by_use}
use Rattle.jc_stripe.specs.State.{State}
use Rattle.jc_world.specs.Alike.{WorldsAlike}
use Rattle.jc_world.specs.World.{WorldState}

-- 1. Stripes.

abbrev pub answer_in : List Event → JoinState → Option Event
answer_in history Waiting = None
answer_in history (Answered place shared) = slice_get history place
answer_in history Again = None

pub record StripeEssence : Type 0 where
  pub rest : State  -- with no opening and no history
  pub entries : List (Bytes × Bytes)  -- in their order of use
  pub events : ℕ
  pub answers : List (Option Event)  -- of each joiner, in their order

abbrev pub essence_of : State → StripeEssence
essence_of s =
    record {
      rest = record s { opening = []; history = [] };
      entries = by_use s.opening s.history;
      events = length s.history;
      answers = map (λ j. answer_in s.history j.state) s.joiners;
    }

-- 2. Worlds.

pub record WorldEssence : Type 0 where
  pub rest : WorldState  -- with no stripes and no order of events
  pub stripes : List StripeEssence

abbrev pub essence_of_world : WorldState → WorldEssence
essence_of_world w =
    record { rest = record w { stripes = []; order = [] }; stripes = map essence_of w.stripes }

abbrev pub EssencesTell : Type 0
EssencesTell =
    (w v : WorldState) → essence_of_world w ≡ essence_of_world v → WorldsAlike w v
