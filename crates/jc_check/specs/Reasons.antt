-- What could be at the key when it was a call's turn.
--     LeadsUpTo     turns lead up to a call: they can be played from what was there at first, place each call that has to come
--                   before it, not it itself, and each call that has to be placed and isn't can still come after them; in what is
--                   there then
--     CanFollow     a call can come after turns: it need not come before what acts in any of them
--     seen_load, seen_spot
--                   what is at a key, but for a loaded value that may be shared: the entry has that
--     IsSeen        what is at a key is among these
--     FitsAt        a call's answers fit what is at the key: by a step of its own, or by the load that was just made
--     IsForeseen    what is at the key is among these, or a call's answers fit it
--     CouldBe       whatever turns lead up to a call, what is there then is among these, or the call's answers fit it
--     IsReason      what is said of why no order explains a record is right: the call has to be placed, and where its answers don't
--                   fit, this could be at the key
--     IsReady       at a node it is a call's turn: it isn't settled, and each call is that has to be placed and come before it
use Rattle.std.specs.Prelude.{◌≡◌, ◌⊎◌, ℕ, List, true, Option, None, Some, slice_get}
use Rattle.std.specs.List.{All, Any}
use Rattle.jc_model.specs.declared.event.LoadAnswer.{LoadAnswer}
use Rattle.jc_model.specs.declared.event.LoadAnswer.TheVariants as load
use Rattle.jc_check.specs.declared.record.Act.TheVariants.{Land}
use Rattle.jc_check.specs.declared.record.Recorded.{Recorded}
use Rattle.jc_check.specs.declared.record.Rules.{Rules}
use Rattle.jc_check.specs.declared.record.Spot.{Spot}
use Rattle.jc_check.specs.declared.record.Turn.{Turn}
use Rattle.jc_check.specs.declared.record.Turn.TheVariants.{Call}
use Rattle.jc_check.specs.declared.reasons.Reason.{Reason}
use Rattle.jc_check.specs.Explains.{AreInOrder, AreOnce, IsPlaced, NumbersPrecede, PlaysTurns, call_of, must_be_placed}
use Rattle.jc_check.specs.Nodes.{IsSettled, Keeps, NodeValue, must_at}
use Rattle.jc_check.specs.Spot.{FitsShare, FitsStep}

abbrev pub CanFollow : Rules → List Recorded → List Turn → ℕ → Type 0
CanFollow rules calls turns call = All (λ t. NumbersPrecede rules calls (Some call) (call_of t) → ⊥) turns

pub record LeadsUpTo (rules : Rules) (calls : List Recorded) (opening : Spot) (turns : List Turn) (call : ℕ)
    (last : Spot) : Type 0 where
  pub plays : PlaysTurns rules calls opening turns last
  pub once : AreOnce calls turns
  pub order : AreInOrder rules calls turns
  pub before : (i : ℕ) (c : Recorded) → slice_get calls i ≡ Some c → must_be_placed c ≡ true
      → NumbersPrecede rules calls (Some i) (Some call)
      → IsPlaced turns i
  pub others : (i : ℕ) (c : Recorded) → slice_get calls i ≡ Some c → must_be_placed c ≡ true
      → IsPlaced turns i ⊎ CanFollow rules calls turns i
  pub apart : IsPlaced turns call → ⊥

abbrev pub seen_load : LoadAnswer → LoadAnswer
seen_load load.NotAsked = load.NotAsked
seen_load (load.Found value) = load.NotAsked
seen_load load.Nothing = load.Nothing
seen_load (load.Failed code) = load.Failed code

abbrev pub seen_spot : Spot → Spot
seen_spot s = record { entry = s.entry; store = s.store; shared = seen_load s.shared }

abbrev pub IsSeen : List Spot → Spot → Type 0
IsSeen spots s = Any (λ x. x ≡ seen_spot s) spots

abbrev pub FitsAt : Rules → Option Recorded → Spot → Type 0
FitsAt rules None s = ⊥
FitsAt rules (Some c) s = FitsStep rules s c ⊎ FitsShare s c

abbrev pub IsForeseen : Rules → List Recorded → ℕ → List Spot → Spot → Type 0
IsForeseen rules calls call spots s = IsSeen spots s ⊎ FitsAt rules (slice_get calls call) s

abbrev pub CouldBe : Rules → List Recorded → Spot → ℕ → List Spot → Type 0
CouldBe rules calls opening call spots =
    (turns : List Turn) (last : Spot) → LeadsUpTo rules calls opening turns call last → IsForeseen rules calls call spots last

pub record IsReason (rules : Rules) (calls : List Recorded) (opening : Spot) (r : Reason) : Type 0 where
  pub must : must_at calls r.call ≡ true
  pub could : CouldBe rules calls opening r.call r.spots.items

abbrev pub IsReady : Rules → List Recorded → NodeValue → ℕ → Type 0
IsReady rules calls n call = (IsSettled n call → ⊥) × Keeps rules calls n (Call call Land)
