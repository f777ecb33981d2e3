-- Laws about verdicts and records.
--     ClosedNodesRefute    no order explains a record of which some nodes are closed
--     ClosedNodesForesee   what is there when it is the turn of a call that has to be placed is among these, if what is at each
--                          closed node is at which it is its turn
--     WholeNodesExplain    turns that lead from the opening to a whole node explain a record
--     LegalIsExplained     a record of a legal history at a key is explained by the rules that judge the cache alone, whatever the
--                          store has at first
--     WholeIsExplained     the same of a legal history over all stripes
--     LegalIsRecorded      a legal history has a record at each key, if no processor whose load failed has an effect; `some` is any
--                          call
use Rattle.std.specs.Prelude.{◌≡◌, ℕ, List, true, IsTrue}
use Rattle.std.specs.FinMap.{from_entries}
use Rattle.std.specs.List.{list_all}
use Rattle.jc_types.specs.declared.config.Config.{Config}
use Rattle.jc_types.specs.Stripes.{stripe_of}
use Rattle.jc_model.specs.declared.event.Event.{Event}
use Rattle.jc_model.specs.Cache.{Bytes, Cache, entry_at}
use Rattle.jc_model.specs.Legal.{IsWholeHistory, Legal}
use Rattle.jc_check.specs.declared.record.Recorded.{Recorded}
use Rattle.jc_check.specs.declared.record.Rules.{Rules}
use Rattle.jc_check.specs.declared.record.Spot.{Spot}
use Rattle.jc_check.specs.declared.record.Turn.{Turn}
use Rattle.jc_check.specs.Explains.{Explains, IsExplained}
use Rattle.jc_check.specs.Nodes.{IsAmong, IsClosed, IsWhole, NodeValue, PlaysNodes, must_at, opening_node}
use Rattle.jc_check.specs.Reasons.{CouldBe, IsForeseen, IsReady}
use Rattle.jc_check.specs.Recording.{AreTableRules, IsRecordOf, heeds_failed_load}

abbrev pub ClosedNodesRefute : Type 0
ClosedNodesRefute =
    (rules : Rules) (calls : List Recorded) (opening : Spot) (nodes : List NodeValue) → IsClosed rules calls opening nodes
    → IsExplained rules calls opening → ⊥

abbrev pub ClosedNodesForesee : Type 0
ClosedNodesForesee =
    (rules : Rules) (calls : List Recorded) (opening : Spot) (nodes : List NodeValue) (call : ℕ) (spots : List Spot)
    → IsClosed rules calls opening nodes → must_at calls call ≡ true
    → ((n : NodeValue) → IsAmong nodes n → IsReady rules calls n call → IsForeseen rules calls call spots n.spot)
    → CouldBe rules calls opening call spots

abbrev pub WholeNodesExplain : Type 0
WholeNodesExplain =
    (rules : Rules) (calls : List Recorded) (opening : Spot) (turns : List Turn) (n : NodeValue)
    → PlaysNodes rules calls (opening_node opening) turns n → IsWhole calls n → Explains rules calls opening turns

abbrev pub LegalIsExplained : Type 0
LegalIsExplained =
    (config : Config) (opening : List (Bytes × Bytes)) (events : List Event) (key : Bytes) (rules : Rules)
    (calls : List Recorded) (spot : Spot)
    → Legal config opening events → AreTableRules config rules → spot.entry ≡ entry_at (from_entries opening) key
    → IsRecordOf config key (entry_at (from_entries opening) key) events calls → IsExplained rules calls spot

abbrev pub WholeIsExplained : Type 0
WholeIsExplained =
    (config : Config) (opening : ℕ → Cache) (events : List Event) (next : ℕ → Cache) (key : Bytes) (rules : Rules)
    (calls : List Recorded) (spot : Spot)
    → IsWholeHistory config opening events next → AreTableRules config rules
    → spot.entry ≡ entry_at (opening (stripe_of key config.stripes)) key
    → IsRecordOf config key (entry_at (opening (stripe_of key config.stripes)) key) events calls → IsExplained rules calls spot

abbrev pub LegalIsRecorded : Type 0
LegalIsRecorded =
    (config : Config) (opening : List (Bytes × Bytes)) (events : List Event) (key : Bytes) (some : Recorded)
    → Legal config opening events → IsTrue (list_all heeds_failed_load events)
    → (calls : List Recorded) × IsRecordOf config key (entry_at (from_entries opening) key) events calls
