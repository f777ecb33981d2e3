-- Fingerprints of the nodes that a search for an explanation has met, for its table.
--     print_with          a fingerprint with one more number, as in FNV-1a
--     print_with_mark     a fingerprint with one more mark
--     print_with_entry    a fingerprint with an entry
--     print_with_store    a fingerprint with what the store has
--     print_with_load     a fingerprint with a loader's answer
--     print_with_spot     a fingerprint with what is at a key
--     print_of_rest       the fingerprint of a node without the writes that have landed
--     print_of            the fingerprint of a node
--     HasPlace            a fingerprint was noted
--     HavePrints          the fingerprints are those of the nodes
--     HavePlaces          each fingerprint has a place
--     HaveSameSpots       two keys have the same entry, store and shared load
--     HaveSameMarks       the same calls are settled in two nodes, and it is noted alike
--     HaveSameParts       two nodes have the same parts
--     IsThatNode          a node, if it is there, is this one
--     IsNodeAt            the node at a place is this one
--     node_values         the values of the nodes
--     IsAt                the node at a place has this value
--     Grows               nodes were added, behind the others
--     IsEmpty             there are no nodes
--     HasMorePlaces       a fingerprint was noted, and each that was noted before
--     Comes               a turn leads to a node from one that is there
--     IsMet               the node at a place, unless it is the first one, comes from one before it
--     AreKnown            each node but the first comes from one before it, no two are the same, and their fingerprints are noted
use Rattle.std.specs.Prelude.{◌≡◌, ◌<◌, ℕ, ◌*◌, ◌%◌, ◌^◌, ◌++◌, List, [], Bool, true, false, bit_xor, length, map, nat_eq, Option}
use Rattle.std.specs.Prelude.{None, Some, IsSome, slice_get}
use Rattle.std.specs.HashMap.{get}
use Rattle.std.specs.List.{All, AllPairs, fold}
use Rattle.jc_model.specs.declared.event.LoadAnswer.{LoadAnswer}
use Rattle.jc_model.specs.declared.event.LoadAnswer.TheVariants as load
use Rattle.jc_model.specs.Cache.{Bytes}
use Rattle.jc_check.specs.declared.node.Node.{Node}
use Rattle.jc_check.specs.declared.places.Places.{Places}
use Rattle.jc_check.specs.declared.record.Recorded.{Recorded}
use Rattle.jc_check.specs.declared.record.Rules.{Rules}
use Rattle.jc_check.specs.declared.record.Spot.{Spot}
use Rattle.jc_check.specs.declared.record.Stored.{Stored}
use Rattle.jc_check.specs.declared.record.Stored.TheVariants.{Unknown, Known}
use Rattle.jc_check.specs.declared.states.States.{States}
use Rattle.jc_check.specs.declared.states.Step.{Step}
use Rattle.jc_check.specs.declared.states.TheConstants.{PRINT_FACTOR}
use Rattle.jc_check.specs.Nodes.{NodeGoes, NodeValue, node_value}

abbrev pub print_with : ℕ → ℕ → ℕ
print_with print word = (bit_xor print word * PRINT_FACTOR) % 2 ^ 64

abbrev pub print_with_mark : ℕ → Bool → ℕ
print_with_mark print true = print_with print 1
print_with_mark print false = print_with print 0

abbrev pub print_with_entry : ℕ → Option Bytes → ℕ
print_with_entry print None = print_with print 3
print_with_entry print (Some value) = fold print_with (print_with print 2) value

abbrev pub print_with_store : ℕ → Stored → ℕ
print_with_store print Unknown = print_with print 4
print_with_store print (Known value) = print_with_entry print value

abbrev pub print_with_load : ℕ → LoadAnswer → ℕ
print_with_load print load.NotAsked = print_with print 5
print_with_load print (load.Found value) = fold print_with (print_with print 6) value
print_with_load print load.Nothing = print_with print 7
print_with_load print (load.Failed code) = print_with (print_with print 8) code

abbrev pub print_with_spot : ℕ → Spot → ℕ
print_with_spot print spot = print_with_load (print_with_store (print_with_entry print spot.entry) spot.store) spot.shared

abbrev pub print_of_rest : NodeValue → ℕ
print_of_rest n = print_with_spot (fold print_with_mark (print_with (print_with 0 n.from) n.end) n.rest) n.spot

abbrev pub print_of : NodeValue → ℕ
print_of n = fold print_with (print_of_rest n) n.landed

abbrev pub HasPlace : Places → ℕ → Type 0
HasPlace places n = IsSome (get nat_eq places.by_print n)

abbrev pub HavePrints : States → Type 0
HavePrints states = states.prints.items ≡ map (λ n. print_of (node_value n)) states.list.items

abbrev pub HavePlaces : States → Type 0
HavePlaces states = All (HasPlace states.places) states.prints.items

pub record HaveSameSpots (a b : Spot) : Type 0 where
  pub entry : a.entry ≡ b.entry
  pub store : a.store ≡ b.store
  pub shared : a.shared ≡ b.shared

pub record HaveSameMarks (a b : NodeValue) : Type 0 where
  pub from : a.from ≡ b.from
  pub end : a.end ≡ b.end
  pub rest : a.rest ≡ b.rest

pub record HaveSameParts (a b : NodeValue) : Type 0 where
  pub marks : HaveSameMarks a b
  pub landed : a.landed ≡ b.landed
  pub spot : HaveSameSpots a.spot b.spot

abbrev pub IsThatNode : Option Node → NodeValue → Type 0
IsThatNode None n = ⊥
IsThatNode (Some m) n = node_value m ≡ n

abbrev pub IsNodeAt : List Node → ℕ → NodeValue → Type 0
IsNodeAt nodes place n = IsThatNode (slice_get nodes place) n

abbrev pub node_values : List Node → List NodeValue
node_values nodes = map node_value nodes

abbrev pub IsAt : States → ℕ → NodeValue → Type 0
IsAt states place n = slice_get (node_values states.list.items) place ≡ Some n

abbrev pub Grows : States → States → Type 0
Grows old new = (more : List Node) × (new.list.items ≡ old.list.items ++ more)

pub record IsEmpty (states : States) : Type 0 where
  pub list : states.list.items ≡ []
  pub steps : states.steps.items ≡ []
  pub prints : states.prints.items ≡ []

pub record HasMorePlaces (old new : Places) (print : ℕ) : Type 0 where
  pub there : HasPlace new print
  pub others : (n : ℕ) → HasPlace old n → HasPlace new n

pub record Comes (rules : Rules) (calls : List Recorded) (states : States) (step : Step) (n : NodeValue) : Type 0 where
  pub before : NodeValue
  pub there : IsAt states step.from before
  pub goes : NodeGoes rules calls before step.turn n

pub record IsMet (rules : Rules) (calls : List Recorded) (states : States) (place : ℕ) (n : NodeValue) : Type 0 where
  pub step : Step
  pub at : slice_get states.steps.items place ≡ Some step
  pub before : step.from < place
  pub comes : Comes rules calls states step n

pub record AreKnown (rules : Rules) (calls : List Recorded) (states : States) : Type 0 where
  pub met : (place : ℕ) (n : NodeValue) → 0 < place → IsAt states place n → IsMet rules calls states place n
  pub steps : length states.steps.items ≡ length states.list.items
  pub apart : AllPairs (λ a b. a ≡ b → ⊥) (node_values states.list.items)
  pub prints : HavePrints states
  pub places : HavePlaces states
