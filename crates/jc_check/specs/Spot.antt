-- What is at a key, and the steps that a recorded call may make there. The rows of the operation table are those of `jc_model`.
--     LoadedFrom       the loader's answer is what the store had
--     FitsLoad         the loader's answer is what the store had, if the store counts
--     FitsReply        the answer that was recorded, if any, is the one that the table has
--     FitsChange       the writer was asked for what the table has
--     calls_of         the calls of a processor on its entry
--     AreAnswered      each call of a processor was answered as the table has it, after the calls before it
--     FitsEffect       the net effect of a processor that ended is this one
--     FitsProcess      a processor saw what the table has: each of its calls was answered so, the loader was asked if it used the
--                      load, and its effect is its net effect
--     FitsSights       the same if the operation runs a processor
--     FitsStep         a call may make its step at a key
--     stored_by        the store after a change
--     store_told       the store after the loader told what it has
--     store_written    the store after a writer's answer
--     store_after      the store after a step, if the store counts
--     joined_answer    the answer that others may share after a step
--     spot_after       what a step leaves at a key
--     shared_reply     the answer of a call that shares a load
--     FitsShare        a call may share the load that was just made: it asked nobody itself, and answered as that load
use Rattle.std.specs.Prelude.{◌≡◌, ◌<◌, ℕ, List, map, take, length, get_or, Bool, true, false, ◌&&◌, IsTrue, Option, None, Some}
use Rattle.std.specs.Prelude.{is_none, if◌then◌else◌}
use Rattle.jc_model.specs.declared.event.Change.{Change}
use Rattle.jc_model.specs.declared.event.Change.TheVariants.{Write, Delete}
use Rattle.jc_model.specs.declared.event.Effect.{Effect}
use Rattle.jc_model.specs.declared.event.LoadAnswer.{LoadAnswer}
use Rattle.jc_model.specs.declared.event.LoadAnswer.TheVariants as load
use Rattle.jc_model.specs.declared.event.Op.TheVariants.{Get}
use Rattle.jc_model.specs.declared.event.Out.{Out}
use Rattle.jc_model.specs.declared.event.ProcessAnswer.{ProcessAnswer}
use Rattle.jc_model.specs.declared.event.ProcessAnswer.TheVariants as process
use Rattle.jc_model.specs.declared.event.Reply.{Reply}
use Rattle.jc_model.specs.declared.event.WriteAnswer.{WriteAnswer}
use Rattle.jc_model.specs.declared.event.WriteAnswer.TheVariants as write
use Rattle.jc_model.specs.declared.processor.EntryCall.{EntryCall}
use Rattle.jc_model.specs.Cache.{Bytes}
use Rattle.jc_model.specs.Group.{load_only, nothing_said}
use Rattle.jc_model.specs.Lawful.{loads_whole}
use Rattle.jc_model.specs.Processor.{answer_after, net_effect, uses_load}
use Rattle.jc_model.specs.Table.{answers_fit, entry_after, is_invoke, is_load_given, is_write_given, reply_after, write_ask}
use Rattle.jc_check.specs.declared.record.EntrySight.{EntrySight}
use Rattle.jc_check.specs.declared.record.Recorded.{Recorded}
use Rattle.jc_check.specs.declared.record.Rules.{Rules}
use Rattle.jc_check.specs.declared.record.Spot.{Spot}
use Rattle.jc_check.specs.declared.record.Stored.{Stored}
use Rattle.jc_check.specs.declared.record.Stored.TheVariants.{Unknown, Known}

-- 1. Whether a step fits.

abbrev pub LoadedFrom : Stored → LoadAnswer → Type 0
LoadedFrom Unknown answer = Unit {0}
LoadedFrom (Known value) load.NotAsked = Unit {0}
LoadedFrom (Known value) (load.Found found) = value ≡ Some found
LoadedFrom (Known value) load.Nothing = value ≡ None
LoadedFrom (Known value) (load.Failed code) = Unit {0}

abbrev pub FitsLoad : Bool → Stored → LoadAnswer → Type 0
FitsLoad false store answer = Unit {0}
FitsLoad true store answer = LoadedFrom store answer

-- a call that hasn't ended may answer anything
abbrev pub FitsReply : Option Reply → Reply → Type 0
FitsReply None reply = Unit {0}
FitsReply (Some told) reply = told ≡ reply

-- that the writer answered exactly if it has to be asked is a part of `answers_fit`
abbrev pub FitsChange : Recorded → Option Bytes → Type 0
FitsChange c entry = c.change ≡ (if is_write_given c.out.write then write_ask c.op entry c.out.process else None)

abbrev pub calls_of : List EntrySight → List EntryCall
calls_of sights = map (λ s. s.call) sights

abbrev pub FitsEffect : ProcessAnswer → Effect → Type 0
FitsEffect process.NotAsked net = Unit {0}
FitsEffect (process.Failed code) net = Unit {0}
FitsEffect (process.Ended effect outcome) net = effect ≡ net

abbrev pub AreAnswered : Bool → Option Bytes → LoadAnswer → List EntrySight → Type 0
AreAnswered read_through entry answer sights =
    (k : ℕ) (d : EntrySight) → k < length sights
    → (get_or sights k d).answer ≡ answer_after read_through entry answer (calls_of (take k sights)) (get_or sights k d).call

pub record FitsProcess (read_through : Bool) (entry : Option Bytes) (sights : List EntrySight) (out : Out) : Type 0 where
  pub answers : AreAnswered read_through entry out.load sights
  pub load : is_load_given out.load ≡ uses_load read_through entry (calls_of sights)
  pub effect : FitsEffect out.process (net_effect read_through entry out.load (calls_of sights))

abbrev pub FitsSights : Bool → Bool → Option Bytes → List EntrySight → Out → Type 0
FitsSights false read_through entry sights out = Unit {0}
FitsSights true read_through entry sights out = FitsProcess read_through entry sights out

pub record FitsStep (rules : Rules) (s : Spot) (c : Recorded) : Type 0 where
  pub answers : IsTrue (answers_fit rules.config c.op s.entry c.out)
  pub change : FitsChange c s.entry
  pub load : FitsLoad rules.is_store_known s.store c.out.load
  pub reply : FitsReply c.reply (reply_after c.op s.entry c.out)
  pub sights : FitsSights (is_invoke c.op) rules.config.read_through s.entry c.sights.items c.out

-- 2. What it leaves.

abbrev pub stored_by : Option Change → Stored → Stored
stored_by None store = store
stored_by (Some (Write value)) store = Known (Some value)
stored_by (Some Delete) store = Known None

abbrev pub store_told : LoadAnswer → Stored → Stored
store_told load.NotAsked store = store
store_told (load.Found value) store = Known (Some value)
store_told load.Nothing store = Known None
store_told (load.Failed code) store = store

abbrev pub store_written : WriteAnswer → Option Change → Stored → Stored
store_written write.Done change store = stored_by change store
store_written write.NotAsked change store = store
store_written (write.Failed code) change store = store

-- if the store doesn't count, it stays what it was
abbrev pub store_after : Bool → Recorded → Stored → Stored
store_after false c store = store
store_after true c store = store_written c.out.write c.change (store_told c.out.load store)

-- the load of a step that found its key missing, with read-through on
abbrev pub joined_answer : Rules → Recorded → Option Bytes → LoadAnswer
joined_answer rules c entry =
    if rules.config.read_through && loads_whole c.op && is_none entry then c.out.load else load.NotAsked

abbrev pub spot_after : Rules → Spot → Recorded → Spot
spot_after rules s c =
    record {
      entry = entry_after c.op s.entry c.out;
      store = store_after rules.is_store_known c s.store;
      shared = joined_answer rules c s.entry;
    }

-- 3. Shared loads.

abbrev pub shared_reply : LoadAnswer → Reply
shared_reply answer = reply_after Get None (load_only answer)

pub record FitsShare (s : Spot) (c : Recorded) : Type 0 where
  pub op : c.op ≡ Get
  pub alone : c.out ≡ nothing_said
  pub change : c.change ≡ None
  pub shared : IsTrue (is_load_given s.shared)
  pub reply : c.reply ≡ Some (shared_reply s.shared)
