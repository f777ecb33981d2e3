-- The calls outside of a call with many keys, round by round: one call of the loader, or one of the writer, or a processor on
-- each key and then the writer.
--     LoadRound        one call of the loader: the keys, and its answer for each
--     WriteRound       one call of the writer: the batch, what it returned, and its answer for each key
--     KeyRun           a run of a processor on a key: the entry that it was shown, if any, whether it might load it, and the
--                      answers of its loader and itself
--     ProcessRound     a processor's runs, in the order of their keys, and the writer's answers for the keys of the writes and of
--                      the deletes
--     Round            the calls outside of one round
--     change_of        the change that the writer is asked for after a run: with write-through on the net effect; none after a
--                      fault
--     answer_by        the writer's answer, from the batch in which the change was
--     run_out          the outside answers of a run's step
--     keys_asked       the keys that were asked for in a round
--     asked_in         the keys that were asked for in these rounds
--     IsShown          a run on a key was shown the entry that the step at the key makes its processor see
--     IsAnswer         a step's outside answers are a round's answers for its key, and the round asked whoever the step asks
--                      first
--     round_returned   what the writer returned in a round that is one call of it; `Ok` in any other round
--     writer_failure   the fault that a call of the writer returned, if it failed
--     round_fault      the fault that the writer returned in a round, if it failed; after a processor such a fault has no key,
--                      and is dropped
--     faults_in        the faults that the writer returned in these rounds
use Rattle.std.specs.Prelude.{◌≡◌, ℕ, List, map, Bool, true, Option, None, Some, Result, Ok, Err, if◌then◌else◌}
use Rattle.std.specs.List.{IsAmong, filter_map, flat_map}
use Rattle.jc_types.specs.declared.config.Config.{Config}
use Rattle.jc_types.specs.declared.refusal.Refusal.{Refusal}
use Rattle.jc_types.specs.declared.refusal.Refusal.TheVariants.{WriterFailed}
use Rattle.jc_model.specs.Cache.{Bytes}
use Rattle.jc_model.specs.Group.{load_only, write_only}
use Rattle.jc_model.specs.declared.event.Change.{Change}
use Rattle.jc_model.specs.declared.event.Change.TheVariants.{Write, Delete}
use Rattle.jc_model.specs.declared.event.LoadAnswer.{LoadAnswer}
use Rattle.jc_model.specs.declared.event.Out.{Out}
use Rattle.jc_model.specs.declared.event.ProcessAnswer.{ProcessAnswer}
use Rattle.jc_model.specs.declared.event.WriteAnswer.{WriteAnswer}
use Rattle.jc_model.specs.declared.event.WriteAnswer.TheVariants.{NotAsked}
use Rattle.jc_batch.specs.Changes.{changes_of}
use Rattle.jc_batch.specs.declared.batch.Batch.{Batch}
use Rattle.jc_mutentry.specs.Done.{effect_change}
use Rattle.jc_stripe.specs.declared.ticket.First.{First}
use Rattle.jc_stripe.specs.Tickets.{asks_loader, asks_processor, asks_writer, entry_seen, is_loadable}

pub record LoadRound : Type 0 where
  pub keys : List Bytes
  pub said : Bytes → LoadAnswer

pub record WriteRound : Type 0 where
  pub batch : Batch
  pub returned : Result (Unit {0}) ℕ
  pub said : Bytes → WriteAnswer

pub record KeyRun : Type 0 where
  pub key : Bytes
  pub entry : Option Bytes
  pub may_load : Bool
  pub load : LoadAnswer
  pub process : ProcessAnswer

pub record ProcessRound : Type 0 where
  pub runs : List KeyRun
  pub written : Bytes → WriteAnswer
  pub deleted : Bytes → WriteAnswer

pub data Round : Type 0 where
  LoadAll : LoadRound → Round
  WriteAll : WriteRound → Round
  ProcessAll : ProcessRound → Round

-- 1. A run. `through` is whether the cache writes through.

abbrev pub change_of : Bool → KeyRun → Option Change
change_of through run = if through then effect_change run.load run.process else None

abbrev pub answer_by : Option Change → WriteAnswer → WriteAnswer → WriteAnswer
answer_by None written deleted = NotAsked
answer_by (Some (Write value)) written deleted = written
answer_by (Some Delete) written deleted = deleted

abbrev pub run_out : Bool → ProcessRound → KeyRun → Out
run_out through round run = record {
  load = run.load;
  write = answer_by (change_of through run) (round.written run.key) (round.deleted run.key);
  process = run.process;
}

-- 2. One round.

abbrev pub keys_asked : Round → List Bytes
keys_asked (LoadAll r) = r.keys
keys_asked (WriteAll r) = map (λ (c : Bytes × Option Change). c.0) (changes_of r.batch)
keys_asked (ProcessAll r) = map (λ (run : KeyRun). run.key) r.runs

abbrev pub IsShown : First → KeyRun → Type 0
IsShown first run = (run.entry ≡ entry_seen first) × (run.may_load ≡ is_loadable first)

abbrev pub IsAnswer : Config → Round → Bytes → First → Out → Type 0
IsAnswer config (LoadAll r) key first out = (asks_loader first ≡ true) × (out ≡ load_only (r.said key))
IsAnswer config (WriteAll r) key first out = (asks_writer first ≡ true) × (out ≡ write_only (r.said key))
IsAnswer config (ProcessAll r) key first out =
    (asks_processor first ≡ true)
    × ((run : KeyRun) × IsAmong r.runs run × (run.key ≡ key) × IsShown first run × (out ≡ run_out config.write_through r run))

abbrev pub round_returned : Round → Result (Unit {0}) ℕ
round_returned (LoadAll r) = Ok tt
round_returned (WriteAll r) = r.returned
round_returned (ProcessAll r) = Ok tt

abbrev pub writer_failure : Result (Unit {0}) ℕ → Option Refusal
writer_failure (Ok done) = None
writer_failure (Err code) = Some (WriterFailed code)

abbrev pub round_fault : Round → Option Refusal
round_fault round = writer_failure (round_returned round)

-- 3. All rounds.

abbrev pub asked_in : List Round → List Bytes
asked_in rounds = flat_map keys_asked rounds

abbrev pub faults_in : List Round → List Refusal
faults_in rounds = filter_map round_fault rounds
