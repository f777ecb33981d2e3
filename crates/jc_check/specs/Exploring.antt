-- The search for an order of turns that explains a record: which turns it has covered. No contract of a public function cites this.
--     IsSurvey          what is known of the calls of a record as a whole is right
--     Covers            a turn leads to a node that a known one covers, or can't be made
--     CoversActs        the same of all that a call may do, but for a landing
--     CoversLandings    the same of the landings of some calls
--     CoversAll         the same of all turns
--     AreDone           the nodes before a place are closed
--     EndsRight         an exploration's ending is right
use Rattle.std.specs.Prelude.{◌≡◌, ◌≤◌, ◌<◌, ℕ, List, length, true}
use Rattle.std.specs.List.{All}
use Rattle.jc_check.specs.declared.exploring.Ending.{Ending}
use Rattle.jc_check.specs.declared.exploring.Ending.TheVariants.{Whole, Closed, Spent}
use Rattle.jc_check.specs.declared.exploring.Survey.{Survey}
use Rattle.jc_check.specs.declared.record.Act.{Act}
use Rattle.jc_check.specs.declared.record.Act.TheVariants.{Land}
use Rattle.jc_check.specs.declared.record.Recorded.{Recorded}
use Rattle.jc_check.specs.declared.record.Rules.{Rules}
use Rattle.jc_check.specs.declared.record.Spot.{Spot}
use Rattle.jc_check.specs.declared.record.Turn.{Turn}
use Rattle.jc_check.specs.declared.record.Turn.TheVariants.{Call}
use Rattle.jc_check.specs.declared.states.States.{States}
use Rattle.jc_check.specs.Nodes.{HasLanded, IsClosedAt, IsWhole, LeadsInside, MayGo, NodeValue, landable_at}
use Rattle.jc_check.specs.Orders.{AreOrdered}
use Rattle.jc_check.specs.States.{IsAt, node_values}

pub record IsSurvey (calls : List Recorded) (survey : Survey) : Type 0 where
  pub ordered : survey.is_ordered ≡ true → AreOrdered calls
  pub landable : (call : ℕ) → landable_at calls call ≡ true → HasLanded survey.landable.items call

abbrev pub Covers : Rules → List Recorded → States → NodeValue → Turn → Type 0
Covers rules calls states n t =
    (spot : Spot) → MayGo rules calls n t spot → LeadsInside rules calls (node_values states.list.items) n t

abbrev pub CoversActs : Rules → List Recorded → States → NodeValue → ℕ → Type 0
CoversActs rules calls states n call = (act : Act) → (act ≡ Land → ⊥) → Covers rules calls states n (Call call act)

abbrev pub CoversLandings : Rules → List Recorded → States → List ℕ → NodeValue → Type 0
CoversLandings rules calls states some n = (call : ℕ) → HasLanded some call → Covers rules calls states n (Call call Land)

abbrev pub CoversAll : Rules → List Recorded → States → NodeValue → Type 0
CoversAll rules calls states n = (t : Turn) → Covers rules calls states n t

abbrev pub AreDone : Rules → List Recorded → States → ℕ → Type 0
AreDone rules calls states end =
    (place : ℕ) (n : NodeValue) → place < end → IsAt states place n → IsClosedAt rules calls (node_values states.list.items) n

abbrev pub EndsRight : Rules → List Recorded → ℕ → States → Ending → Type 0
EndsRight rules calls budget states (Whole place) = (n : NodeValue) × IsAt states place n × IsWhole calls n
EndsRight rules calls budget states Closed =
    All (IsClosedAt rules calls (node_values states.list.items)) (node_values states.list.items)
    × (length states.list.items ≤ budget)
EndsRight rules calls budget states Spent = budget < length states.list.items
