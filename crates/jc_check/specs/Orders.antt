-- The order in which the calls of a record stand. No contract of a public function cites this.
--     AreOrdered    the calls stand in the order of their beginnings, and none ended before it began
--     IsEnd         from this number on no call has to come before what acts in a turn
--     DoEndBefore   one call, if it is there, had ended before another one began
--     IsLeft        a call has to be placed, and isn't settled
--     IsBarred      a call that has to be placed, and isn't settled, has to come before this one
--     AreBarred     from this number on each call is barred
use Rattle.std.specs.Prelude.{◌≡◌, ◌≤◌, ◌<◌, ℕ, List, length, true, Option, None, Some, slice_get}
use Rattle.jc_check.specs.declared.record.Recorded.{Recorded}
use Rattle.jc_check.specs.declared.record.Rules.{Rules}
use Rattle.jc_check.specs.declared.record.Turn.{Turn}
use Rattle.jc_check.specs.Explains.{EndsBefore, NumbersPrecede, call_of}
use Rattle.jc_check.specs.Nodes.{IsSettled, NodeValue, must_at}

pub record AreOrdered (calls : List Recorded) : Type 0 where
  pub sorted : (i j : ℕ) (a b : Recorded) → i ≤ j → slice_get calls i ≡ Some a → slice_get calls j ≡ Some b → a.began ≤ b.began
  pub lasting : (i at : ℕ) (a : Recorded) → slice_get calls i ≡ Some a → a.ended ≡ Some at → a.began ≤ at

abbrev pub IsEnd : Rules → List Recorded → Turn → ℕ → Type 0
IsEnd rules calls t end = (call : ℕ) → end ≤ call → NumbersPrecede rules calls (Some call) (call_of t) → ⊥

abbrev pub DoEndBefore : Option Recorded → Option Recorded → Type 0
DoEndBefore None b = ⊥
DoEndBefore (Some a) None = ⊥
DoEndBefore (Some a) (Some b) = EndsBefore a b

pub record IsLeft (calls : List Recorded) (n : NodeValue) (call : ℕ) : Type 0 where
  pub must : must_at calls call ≡ true
  pub left : IsSettled n call → ⊥

pub record IsBarred (rules : Rules) (calls : List Recorded) (n : NodeValue) (call : ℕ) : Type 0 where
  pub first : ℕ
  pub left : IsLeft calls n first
  pub other : first ≡ call → ⊥
  pub before : NumbersPrecede rules calls (Some first) (Some call)

abbrev pub AreBarred : Rules → List Recorded → NodeValue → ℕ → Type 0
AreBarred rules calls n end = (call : ℕ) → end ≤ call → call < length calls → IsBarred rules calls n call
