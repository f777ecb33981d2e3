-- Orders of turns, and when one explains what was recorded.
--     is_write_done     the writer reported success
--     is_foreign        a line of a record stands for what another program did
--     may_land          a call's write may change the store though the call makes no step, or answered that it failed
--     must_be_placed    a call has ended and isn't forgotten: an order has to place it
--     entry_of_change   the entry that goes with a change of the store
--     entry_of_effect   the entry that goes with a processor's net effect, if there is one
--     entry_of_op       the entry that an operation leaves if it mutates, if it may
--     left_entry        the entry that a call leaves if it mutates: by what its writer was asked for, otherwise by its operation
--     is_forgotten      a call is forgotten
--     spot_vanished     what is there when the entry has vanished
--     spot_landed       what is there when a call's change is in the store
--     spot_foreign      what is there when another program has changed the store
--     spot_left         what is there when the entry was left by a forgotten call
--     spot_loaded       what is there when a forgotten call has cached what its loader answered
--     IsLeft            an entry was left, if there is one to leave
--     CallGoes          what a call may do in a turn
--     ActGoes           the same of a call, if it is there
--     Goes              one turn leads from what is at the key to what is there next
--     PlaysTurns        turns, one after the other
--     places            an act places its call
--     some_if           a number, under a condition
--     placed_call       the call that a turn places, if it places one
--     call_of           the call that acts in a turn, if one does
--     changes_store     a call's write changes the store by an act
--     changes_at        the same of a call, if there is one
--     stored_call       the call whose write changes the store in a turn, if one does
--     EndsBefore        a call had ended before another one began
--     IsThreadBefore    a call of the same thread began before another one
--     CallPrecedes      a call has to come before another one: it had ended before that began, if real time counts, or is the same
--                       thread's and began before it
--     call_at           the call with a number, if there is one
--     CallsPrecede, NumbersPrecede    the same of calls, and of numbers of calls, if they are there
--     MustPrecede       the call that one turn places has to come before the call that acts in another one
--     AreApart          two numbers, if both are there, aren't the same
--     Differ            two turns place no call in common, and no write changes the store in both
--     IsPlaced          a turn places the call with this number
--     AreOnce           no call is placed twice, and no write changes the store twice
--     AreAll            each call that has to be placed is placed
--     AreInOrder        no turn has to come before an earlier one
--     Explains          an order explains a record: the turns can be played from what was there at first, each call that has ended
--                       is placed, none twice, no write changes the store twice, and the order of the calls is respected
--     IsExplained       some order does
use Rattle.std.specs.Prelude.{◌≡◌, ◌<◌, ◌⊎◌, ℕ, List, [], ◌∷◌, Bool, true, false, not, ◌&&◌, ◌||◌, Option, None, Some, is_none}
use Rattle.std.specs.Prelude.{is_some, option_map, slice_get}
use Rattle.std.specs.List.{Any, AllPairs}
use Rattle.jc_model.specs.declared.event.Change.{Change}
use Rattle.jc_model.specs.declared.event.Change.TheVariants.{Write, Delete}
use Rattle.jc_model.specs.declared.event.Effect.TheVariants as effect
use Rattle.jc_model.specs.declared.event.LoadAnswer.TheVariants as load
use Rattle.jc_model.specs.declared.event.Op.{Op}
use Rattle.jc_model.specs.declared.event.Op.TheVariants as op
use Rattle.jc_model.specs.declared.event.ProcessAnswer.{ProcessAnswer}
use Rattle.jc_model.specs.declared.event.ProcessAnswer.TheVariants as process
use Rattle.jc_model.specs.declared.event.WriteAnswer.{WriteAnswer}
use Rattle.jc_model.specs.declared.event.WriteAnswer.TheVariants as write
use Rattle.jc_model.specs.Cache.{Bytes}
use Rattle.jc_model.specs.Table.{is_load_given, value_after_load}
use Rattle.jc_check.specs.declared.record.Act.{Act}
use Rattle.jc_check.specs.declared.record.Act.TheVariants.{Step, Share, Land, Foreign, LeaveEntry, LeaveStore, LeaveBoth, LeaveLoad}
use Rattle.jc_check.specs.declared.record.Recorded.{Recorded}
use Rattle.jc_check.specs.declared.record.Role.{Role}
use Rattle.jc_check.specs.declared.record.Role.TheVariants as role
use Rattle.jc_check.specs.declared.record.Rules.{Rules}
use Rattle.jc_check.specs.declared.record.Spot.{Spot}
use Rattle.jc_check.specs.declared.record.Turn.{Turn}
use Rattle.jc_check.specs.declared.record.Turn.TheVariants.{Vanish, Call}
use Rattle.jc_check.specs.Spot.{FitsShare, FitsStep, spot_after, stored_by}

-- 1. One turn.

abbrev pub is_write_done : WriteAnswer → Bool
is_write_done write.Done = true
is_write_done write.NotAsked = false
is_write_done (write.Failed code) = false

abbrev pub is_foreign : Role → Bool
is_foreign role.Foreign = true
is_foreign role.Call = false
is_foreign role.Forgotten = false

-- the writer was asked, and didn't report success to a call that has ended
abbrev pub may_land : Recorded → Bool
may_land c = not (is_foreign c.role) && is_some c.change && (is_none c.reply || not (is_write_done c.out.write))

abbrev pub is_forgotten : Role → Bool
is_forgotten role.Forgotten = true
is_forgotten role.Call = false
is_forgotten role.Foreign = false

abbrev pub must_be_placed : Recorded → Bool
must_be_placed c = not (is_forgotten c.role) && is_some c.reply

abbrev pub entry_of_change : Change → Option Bytes
entry_of_change (Write value) = Some value
entry_of_change Delete = None

abbrev pub entry_of_effect : ProcessAnswer → Option (Option Bytes)
entry_of_effect (process.Ended (effect.Set value) outcome) = Some (Some value)
entry_of_effect (process.Ended effect.Remove outcome) = Some None
entry_of_effect (process.Ended effect.Keep outcome) = None
entry_of_effect process.NotAsked = None
entry_of_effect (process.Failed code) = None

abbrev pub entry_of_op : Op → ProcessAnswer → Option (Option Bytes)
entry_of_op op.Get answer = None
entry_of_op op.ContainsKey answer = None
entry_of_op (op.Put value) answer = Some (Some value)
entry_of_op (op.GetAndPut value) answer = Some (Some value)
entry_of_op (op.PutIfAbsent value) answer = Some (Some value)
entry_of_op op.Remove answer = Some None
entry_of_op (op.RemoveIf old) answer = Some None
entry_of_op op.GetAndRemove answer = Some None
entry_of_op (op.Replace value) answer = Some (Some value)
entry_of_op (op.ReplaceIf old new) answer = Some (Some new)
entry_of_op (op.GetAndReplace value) answer = Some (Some value)
entry_of_op op.Clear answer = Some None
entry_of_op (op.LoadAll replace) answer = None
entry_of_op op.Invoke answer = entry_of_effect answer

abbrev pub left_entry : Option Change → Op → ProcessAnswer → Option (Option Bytes)
left_entry (Some change) operation answer = Some (entry_of_change change)
left_entry None operation answer = entry_of_op operation answer

abbrev pub spot_vanished : Spot → Spot
spot_vanished s = record { entry = None; store = s.store; shared = load.NotAsked }

abbrev pub spot_landed : Spot → Recorded → Spot
spot_landed s c = record { entry = s.entry; store = stored_by c.change s.store; shared = s.shared }

abbrev pub spot_foreign : Bool → Spot → Recorded → Spot
spot_foreign false s c = s
spot_foreign true s c = spot_landed s c

abbrev pub spot_left : Spot → Option Bytes → Spot
spot_left s entry = record { entry = entry; store = s.store; shared = load.NotAsked }

abbrev pub spot_loaded : Spot → Recorded → Spot
spot_loaded s c = record { entry = value_after_load c.out.load s.entry; store = s.store; shared = c.out.load }

abbrev pub IsLeft : Option (Option Bytes) → Spot → Spot → Type 0
IsLeft None s next = ⊥
IsLeft (Some entry) s next = next ≡ spot_left s entry

-- what another program does changes the store if the store counts; a write lands only then
abbrev pub CallGoes : Rules → Recorded → Spot → Act → Spot → Type 0
CallGoes rules c s Step next = (c.role ≡ role.Call) × FitsStep rules s c × (next ≡ spot_after rules s c)
CallGoes rules c s Share next = (c.role ≡ role.Call) × FitsShare s c × (next ≡ s)
CallGoes rules c s Land next = (rules.is_store_known ≡ true) × (may_land c ≡ true) × (next ≡ spot_landed s c)
CallGoes rules c s Foreign next = (c.role ≡ role.Foreign) × (next ≡ spot_foreign rules.is_store_known s c)
CallGoes rules c s LeaveEntry next =
    (c.role ≡ role.Forgotten) × IsLeft (left_entry c.change c.op c.out.process) s next
CallGoes rules c s LeaveStore next =
    (c.role ≡ role.Forgotten) × (rules.is_store_known ≡ true) × (is_some c.change ≡ true) × (next ≡ spot_landed s c)
CallGoes rules c s LeaveBoth next =
    (c.role ≡ role.Forgotten) × (rules.is_store_known ≡ true) × IsLeft (option_map entry_of_change c.change) (spot_landed s c) next
CallGoes rules c s LeaveLoad next =
    (c.role ≡ role.Forgotten) × (is_load_given c.out.load ≡ true) × (next ≡ spot_loaded s c)

abbrev pub ActGoes : Rules → Option Recorded → Spot → Act → Spot → Type 0
ActGoes rules None s act next = ⊥
ActGoes rules (Some c) s act next = CallGoes rules c s act next

abbrev pub Goes : Rules → List Recorded → Spot → Turn → Spot → Type 0
Goes rules calls s Vanish next = (rules.may_vanish ≡ true) × (next ≡ spot_vanished s)
Goes rules calls s (Call i act) next = ActGoes rules (slice_get calls i) s act next

abbrev pub PlaysTurns : Rules → List Recorded → Spot → List Turn → Spot → Type 0
PlaysTurns rules calls s [] last = last ≡ s
PlaysTurns rules calls s (t ∷ ts) last = (next : Spot) × Goes rules calls s t next × PlaysTurns rules calls next ts last

-- 2. The order.

abbrev pub places : Act → Bool
places Step = true
places Share = true
places Land = false
places Foreign = true
places LeaveEntry = true
places LeaveStore = true
places LeaveBoth = true
places LeaveLoad = true

abbrev pub some_if : Bool → ℕ → Option ℕ
some_if true i = Some i
some_if false i = None

abbrev pub placed_call : Turn → Option ℕ
placed_call Vanish = None
placed_call (Call i act) = some_if (places act) i

-- a landing is bound by the beginning of its write alone
abbrev pub call_of : Turn → Option ℕ
call_of Vanish = None
call_of (Call i act) = Some i

abbrev pub changes_store : Act → Recorded → Bool
changes_store Step c = is_write_done c.out.write
changes_store Share c = false
changes_store Land c = true
changes_store Foreign c = false
changes_store LeaveEntry c = false
changes_store LeaveStore c = true
changes_store LeaveBoth c = true
changes_store LeaveLoad c = false

abbrev pub changes_at : Act → Option Recorded → Bool
changes_at act None = false
changes_at act (Some c) = changes_store act c

abbrev pub stored_call : List Recorded → Turn → Option ℕ
stored_call calls Vanish = None
stored_call calls (Call i act) = some_if (changes_at act (slice_get calls i)) i

pub record EndsBefore (a b : Recorded) : Type 0 where
  pub at : ℕ
  pub ended : a.ended ≡ Some at
  pub before : at < b.began

pub record IsThreadBefore (a b : Recorded) : Type 0 where
  pub one : a.thread ≡ b.thread
  pub before : a.began < b.began

abbrev pub CallPrecedes : Rules → Recorded → Recorded → Type 0
CallPrecedes rules a b = ((rules.is_real ≡ true) × EndsBefore a b) ⊎ IsThreadBefore a b

abbrev pub CallsPrecede : Rules → Option Recorded → Option Recorded → Type 0
CallsPrecede rules None b = ⊥
CallsPrecede rules (Some a) None = ⊥
CallsPrecede rules (Some a) (Some b) = CallPrecedes rules a b

abbrev pub call_at : List Recorded → Option ℕ → Option Recorded
call_at calls None = None
call_at calls (Some i) = slice_get calls i

abbrev pub NumbersPrecede : Rules → List Recorded → Option ℕ → Option ℕ → Type 0
NumbersPrecede rules calls i j = CallsPrecede rules (call_at calls i) (call_at calls j)

-- the step of a call has to come before what another call does
abbrev pub MustPrecede : Rules → List Recorded → Turn → Turn → Type 0
MustPrecede rules calls t u = NumbersPrecede rules calls (placed_call t) (call_of u)

abbrev pub AreApart : Option ℕ → Option ℕ → Type 0
AreApart None j = Unit {0}
AreApart (Some i) None = Unit {0}
AreApart (Some i) (Some j) = i ≡ j → ⊥

abbrev pub Differ : List Recorded → Turn → Turn → Type 0
Differ calls t u = AreApart (placed_call t) (placed_call u) × AreApart (stored_call calls t) (stored_call calls u)

abbrev pub IsPlaced : List Turn → ℕ → Type 0
IsPlaced turns i = Any (λ t. placed_call t ≡ Some i) turns

abbrev pub AreOnce : List Recorded → List Turn → Type 0
AreOnce calls turns = AllPairs (Differ calls) turns

abbrev pub AreAll : List Recorded → List Turn → Type 0
AreAll calls turns = (i : ℕ) (c : Recorded) → slice_get calls i ≡ Some c → must_be_placed c ≡ true → IsPlaced turns i

abbrev pub AreInOrder : Rules → List Recorded → List Turn → Type 0
AreInOrder rules calls turns = AllPairs (λ t u. MustPrecede rules calls u t → ⊥) turns

-- 3. Explanations.

pub record Explains (rules : Rules) (calls : List Recorded) (opening : Spot) (turns : List Turn) : Type 0 where
  pub last : Spot
  pub plays : PlaysTurns rules calls opening turns last
  pub once : AreOnce calls turns
  pub each : AreAll calls turns
  pub order : AreInOrder rules calls turns

abbrev pub IsExplained : Rules → List Recorded → Spot → Type 0
IsExplained rules calls opening = (turns : List Turn) × Explains rules calls opening turns
