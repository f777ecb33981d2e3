-- The verdict on the recorded calls at one key: explained, not explained, or given up.
--     IsRefuted    no turns explain the record, and these nodes, at most as many as the budget, are closed
--     HasMet       more nodes than the budget were met: the opening, and nodes to each of which a turn leads from one before it; no
--                  two are the same
--     IsVerdict    a verdict is right: the turns explain the record; or no turns do, since these nodes are closed; or more nodes
--                  than the budget were met
use Rattle.std.specs.Prelude.{◌≤◌, ◌<◌, ℕ, List, length}
use Rattle.jc_check.specs.declared.record.Recorded.{Recorded}
use Rattle.jc_check.specs.declared.record.Rules.{Rules}
use Rattle.jc_check.specs.declared.record.Spot.{Spot}
use Rattle.jc_check.specs.declared.states.States.{States}
use Rattle.jc_check.specs.declared.verdict.Verdict.{Verdict}
use Rattle.jc_check.specs.declared.verdict.Verdict.TheVariants.{Explained, Refuted, Stopped}
use Rattle.jc_check.specs.Explains.{Explains, IsExplained}
use Rattle.jc_check.specs.Nodes.{IsClosed, opening_node}
use Rattle.jc_check.specs.States.{AreKnown, IsAt, node_values}

pub record IsRefuted (rules : Rules) (calls : List Recorded) (opening : Spot) (budget : ℕ) (states : States) : Type 0 where
  pub none : IsExplained rules calls opening → ⊥
  pub closed : IsClosed rules calls opening (node_values states.list.items)
  pub few : length states.list.items ≤ budget

pub record HasMet (rules : Rules) (calls : List Recorded) (opening : Spot) (budget : ℕ) (states : States) : Type 0 where
  pub first : IsAt states 0 (opening_node opening)
  pub known : AreKnown rules calls states
  pub more : budget < length states.list.items

abbrev pub IsVerdict : Rules → List Recorded → Spot → ℕ → Verdict → Type 0
IsVerdict rules calls opening budget (Explained turns) = Explains rules calls opening turns.items
IsVerdict rules calls opening budget (Refuted states) = IsRefuted rules calls opening budget states
IsVerdict rules calls opening budget (Stopped states) = HasMet rules calls opening budget states
