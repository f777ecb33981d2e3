-- Nodes: what the turns so far have done, as far as it counts for those to come. They serve the search alone: `Explains` doesn't
-- speak of them. A call is settled in a node if it is placed there or can't be placed any more.
--     NodeValue          the calls that are settled: those below `from`, and those that `rest` marks from there to `end`; those
--                        whose writes may land and have changed the store; and what is at the key
--     node_value         the value of a node
--     IsMarked           a call is among those that are marked
--     NotesNext          it was noted whether the next call is marked
--     IsSettled          a call is settled in a node
--     HasLanded          a call is among those whose write has changed the store
--     IsNot              something doesn't hold of a call, if there is one
--     is_must, must_at   a call, if it is there, has to be placed
--     is_landable, landable_at    the same of: its write may change the store though the call makes no step, or answered that it
--                                 failed
--     kept               something, under a condition
--     landed_call        the call whose write may land and changes the store in a turn, if one does
--     landed_with        calls whose writes have changed the store, with one more
--     IsFresh            the call that a turn places isn't settled, and that whose write changes the store in it hasn't done so
--     Keeps              no call that has to be placed, and isn't, has to come before what a turn does
--     IsLost             a call has to be placed, isn't settled, and can't be placed after a turn that doesn't place it
--     IsOutrun           a call that need not be placed can't be placed after a turn
--     IsSettledBy        a call is settled after a turn
--     MayGo              a turn may be made at a node, and leaves this at the key
--     NodeGoes           one turn leads from a node to another one
--     opening_node       the node at first
--     PlaysNodes         turns lead from one node to another one
--     IsWhole            each call that has to be placed is settled
--     IsAmong            a node is one of these
--     IsNoMore           a call is settled in a node only if it is in another one, and then, too, if it has to be placed
--     IsCovering         what may follow another node may follow a node, too: the other one differs at most in calls that it has
--                        settled and that need not be placed, and in writes that have changed the store
--     IsCovered          one of these nodes covers a node
--     LeadsInside        a turn leads to a node that one of these nodes covers
--     IsClosedAt         each turn from a node leads to a node that one of these covers; and the node isn't whole
--     IsClosed           the opening is one of these nodes, and each of them is closed
use Rattle.std.specs.Prelude.{◌≡◌, ◌<◌, ◌⊎◌, ◌↔◌, ℕ, ◌+◌, ◌-◌, List, [], ◌∷◌, ◌++◌, Bool, true, false, Option, None, Some, get_or}
use Rattle.std.specs.Prelude.{slice_get}
use Rattle.std.specs.List.{All, Any}
use Rattle.jc_check.specs.declared.node.Marks.{Marks}
use Rattle.jc_check.specs.declared.node.Node.{Node}
use Rattle.jc_check.specs.declared.record.Recorded.{Recorded}
use Rattle.jc_check.specs.declared.record.Rules.{Rules}
use Rattle.jc_check.specs.declared.record.Spot.{Spot}
use Rattle.jc_check.specs.declared.record.Turn.{Turn}
use Rattle.jc_check.specs.Explains.{Goes, NumbersPrecede, call_at, call_of, may_land, must_be_placed, placed_call, stored_call}

pub record NodeValue : Type 0 where
  pub from : ℕ
  pub end : ℕ
  pub rest : List Bool
  pub landed : List ℕ
  pub spot : Spot

abbrev pub node_value : Node → NodeValue
node_value n =
    record { from = n.settled.from; end = n.settled.end; rest = n.settled.rest.items; landed = n.landed.items; spot = n.spot }

-- 1. Calls of a node.

abbrev pub IsMarked : ℕ → ℕ → List Bool → ℕ → Type 0
IsMarked from end rest call = (call < from) ⊎ ((call < end) × (get_or rest (call - from) false ≡ true))

-- the first marks of all are counted, and not noted
abbrev pub NotesNext : Marks → Marks → ℕ → Bool → Type 0
NotesNext old new call is_marked =
    ((is_marked ≡ true) × (old.rest.items ≡ []) × (new.from ≡ call + 1) × (new.rest.items ≡ []))
    ⊎ ((new.from ≡ old.from) × (new.rest.items ≡ old.rest.items ++ is_marked ∷ []))

abbrev pub IsSettled : NodeValue → ℕ → Type 0
IsSettled n call = IsMarked n.from n.end n.rest call

abbrev pub HasLanded : List ℕ → ℕ → Type 0
HasLanded landed call = Any (λ c. c ≡ call) landed

abbrev pub IsNot : (ℕ → Type 0) → Option ℕ → Type 0
IsNot P None = Unit {0}
IsNot P (Some call) = P call → ⊥

abbrev pub is_must : Option Recorded → Bool
is_must None = false
is_must (Some c) = must_be_placed c

abbrev pub must_at : List Recorded → ℕ → Bool
must_at calls call = is_must (slice_get calls call)

abbrev pub is_landable : Option Recorded → Bool
is_landable None = false
is_landable (Some c) = may_land c

abbrev pub landable_at : List Recorded → ℕ → Bool
landable_at calls call = is_landable (slice_get calls call)

abbrev pub kept : Bool → Option ℕ → Option ℕ
kept false call = None
kept true call = call

abbrev pub landed_call : List Recorded → Turn → Option ℕ
landed_call calls t = kept (is_landable (call_at calls (call_of t))) (stored_call calls t)

abbrev pub landed_with : Option ℕ → List ℕ → List ℕ
landed_with None landed = landed
landed_with (Some call) landed = landed ++ call ∷ []

-- 2. Turns.

abbrev pub IsFresh : List Recorded → NodeValue → Turn → Type 0
IsFresh calls n t = IsNot (IsSettled n) (placed_call t) × IsNot (HasLanded n.landed) (landed_call calls t)

abbrev pub Keeps : Rules → List Recorded → NodeValue → Turn → Type 0
Keeps rules calls n t =
    (call : ℕ) → must_at calls call ≡ true → NumbersPrecede rules calls (Some call) (call_of t)
    → IsSettled n call ⊎ (placed_call t ≡ Some call)

pub record IsLost (rules : Rules) (calls : List Recorded) (n : NodeValue) (t : Turn) (call : ℕ) : Type 0 where
  pub must : must_at calls call ≡ true
  pub left : IsSettled n call → ⊥
  pub other : placed_call t ≡ Some call → ⊥
  pub before : NumbersPrecede rules calls (Some call) (call_of t)

abbrev pub IsOutrun : Rules → List Recorded → Turn → ℕ → Type 0
IsOutrun rules calls t call = (must_at calls call ≡ false) × NumbersPrecede rules calls (Some call) (call_of t)

abbrev pub IsSettledBy : Rules → List Recorded → NodeValue → Turn → ℕ → Type 0
IsSettledBy rules calls n t call = IsSettled n call ⊎ ((placed_call t ≡ Some call) ⊎ IsOutrun rules calls t call)

pub record MayGo (rules : Rules) (calls : List Recorded) (n : NodeValue) (t : Turn) (spot : Spot) : Type 0 where
  pub goes : Goes rules calls n.spot t spot
  pub fresh : IsFresh calls n t
  pub keeps : Keeps rules calls n t

pub record NodeGoes (rules : Rules) (calls : List Recorded) (n : NodeValue) (t : Turn) (next : NodeValue) : Type 0 where
  pub may : MayGo rules calls n t next.spot
  pub settled : (call : ℕ) → IsSettled next call ↔ IsSettledBy rules calls n t call
  pub landed : next.landed ≡ landed_with (landed_call calls t) n.landed

-- 3. Nodes that are reached, and nodes that are closed.

abbrev pub opening_node : Spot → NodeValue
opening_node spot = record { from = 0; end = 0; rest = []; landed = []; spot = spot }

abbrev pub PlaysNodes : Rules → List Recorded → NodeValue → List Turn → NodeValue → Type 0
PlaysNodes rules calls n [] last = last ≡ n
PlaysNodes rules calls n (t ∷ ts) last = (next : NodeValue) × NodeGoes rules calls n t next × PlaysNodes rules calls next ts last

abbrev pub IsWhole : List Recorded → NodeValue → Type 0
IsWhole calls n = (call : ℕ) → must_at calls call ≡ true → IsSettled n call

abbrev pub IsAmong : List NodeValue → NodeValue → Type 0
IsAmong nodes n = Any (λ m. m ≡ n) nodes

abbrev pub IsNoMore : List Recorded → NodeValue → NodeValue → ℕ → Type 0
IsNoMore calls m n call = (IsSettled m call → IsSettled n call) × (must_at calls call ≡ true → IsSettled n call → IsSettled m call)

pub record IsCovering (calls : List Recorded) (m n : NodeValue) : Type 0 where
  pub settled : (call : ℕ) → IsNoMore calls m n call
  pub spot : m.spot ≡ n.spot
  pub landed : (call : ℕ) → HasLanded m.landed call → HasLanded n.landed call

abbrev pub IsCovered : List Recorded → List NodeValue → NodeValue → Type 0
IsCovered calls nodes n = Any (λ m. IsCovering calls m n) nodes

pub record LeadsInside (rules : Rules) (calls : List Recorded) (nodes : List NodeValue) (n : NodeValue) (t : Turn) : Type 0 where
  pub next : NodeValue
  pub goes : NodeGoes rules calls n t next
  pub inside : IsCovered calls nodes next

pub record IsClosedAt (rules : Rules) (calls : List Recorded) (nodes : List NodeValue) (n : NodeValue) : Type 0 where
  pub goes : (t : Turn) (spot : Spot) → MayGo rules calls n t spot → LeadsInside rules calls nodes n t
  pub undone : IsWhole calls n → ⊥

pub record IsClosed (rules : Rules) (calls : List Recorded) (opening : Spot) (nodes : List NodeValue) : Type 0 where
  pub first : IsAmong nodes (opening_node opening)
  pub each : All (IsClosedAt rules calls nodes) nodes
