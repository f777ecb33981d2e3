-- What an `invoke_all`, which runs a processor on many keys, asks outside, round by round: its processors, and then its writer.
--     change_if       a change, if it is of the kind that a batch asks for
--     batch_changes   the changes of one kind of these runs, each with its key
--     RunBehavior     the answers that a loader, a writer and a processor may give, and the changes of their states
--     run_behavior    the behavior of these relations
--     in_boxes        the behavior of a loader and a writer in boxes
--     RunsOne         a run: the processor was run once, on this key and entry, and the loader was called exactly if the run has
--                     a load's answer
--     RunsEach        these runs, one after another, each from the state that the one before has left
--     WritesKind      the writer was called once for exactly these changes, if there are any, and otherwise it wasn't called;
--                     what it returned is dropped
--     CallsRound      the calls outside of one round: the runs, then the batch of writes, then that of deletes
--     CallsEach       the calls outside of all rounds, in their order
use Rattle.std.specs.declared.dyn_box.DynBox.{DynBox}
use Rattle.std.specs.Prelude.{◌≡◌, ℕ, List, [], ◌∷◌, Bool, true, false, Option, None, Some, Result, if◌then◌else◌}
use Rattle.std.specs.List.{filter_map}
use Rattle.jc_model.specs.Cache.{Bytes}
use Rattle.jc_model.specs.declared.event.Change.{Change}
use Rattle.jc_model.specs.declared.event.WriteAnswer.{WriteAnswer}
use Rattle.jc_outside.specs.Calling.{LoadRelation}
use Rattle.jc_outside.specs.CallingAll.{DeleteAllRelation, WriteAllRelation}
use Rattle.jc_mutentry.specs.Running.{LoadsIfGiven, ProcessRelation, RunsOnce}
use Rattle.jc_session.specs.Boxed.{boxed}
use Rattle.jc_rounds.specs.Answers.{is_change_of}
use Rattle.jc_rounds.specs.OutsideCalls.{WritesBatch}
use Rattle.jc_rounds.specs.Rounds.{KeyRun, ProcessRound, change_of}

-- `through` is whether the cache writes through

abbrev pub change_if : Bool → Bytes → Option Change → Option (Bytes × Option Change)
change_if deletes key change = if is_change_of deletes change then Some (key, change) else None

abbrev pub batch_changes : Bool → Bool → List KeyRun → List (Bytes × Option Change)
batch_changes through deletes runs = filter_map (λ (run : KeyRun). change_if deletes run.key (change_of through run)) runs

pub record RunBehavior (L W P : Type 0) : Type 1 where
  pub loads : LoadRelation L
  pub load_state : L → List ℕ
  pub writes_all : WriteAllRelation W
  pub deletes_all : DeleteAllRelation W
  pub write_state : W → List ℕ
  pub processes : ProcessRelation P
  pub process_state : P → List ℕ

abbrev pub run_behavior : {L W P : Type 0} → LoadRelation L → (L → List ℕ) → WriteAllRelation W → DeleteAllRelation W → (W → List ℕ)
    → ProcessRelation P → (P → List ℕ) → RunBehavior L W P
run_behavior loads load_state writes_all deletes_all write_state processes process_state =
    record {
      loads = loads;
      load_state = load_state;
      writes_all = writes_all;
      deletes_all = deletes_all;
      write_state = write_state;
      processes = processes;
      process_state = process_state;
    }

abbrev pub in_boxes : {I J P X : Type 0} {D : I → Type 0} {E : J → Type 0} → RunBehavior ((i : I) × D i) ((j : J) × E j) P
    → RunBehavior (DynBox I X D) (DynBox J X E) P
in_boxes behavior = record {
  loads = boxed behavior.loads;
  load_state = boxed behavior.load_state;
  writes_all = boxed behavior.writes_all;
  deletes_all = boxed behavior.deletes_all;
  write_state = boxed behavior.write_state;
  processes = behavior.processes;
  process_state = behavior.process_state;
}

module _ {L W P : Type 0} (behavior : RunBehavior L W P) (args : List Bytes) where
  pub record RunsOne (processor : P) (loader : Option L) (run : KeyRun) (processor' : P) (loader' : Option L) : Type 0 where
    pub run_is : RunsOnce behavior.processes behavior.process_state processor run.key args run.may_load run.entry run.load
        run.process processor'
    pub load_is : LoadsIfGiven behavior.loads behavior.load_state loader run.key run.load loader'

  abbrev pub RunsEach : P → Option L → List KeyRun → P → Option L → Type 0
  RunsEach processor loader [] processor' loader' = (processor' ≡ processor) × (loader' ≡ loader)
  RunsEach processor loader (run ∷ runs) processor' loader' =
      (p : P) × (l : Option L) × RunsOne processor loader run p l × RunsEach p l runs processor' loader'

  abbrev pub WritesKind : Bool → List (Bytes × Option Change) → Option W → (Bytes → WriteAnswer) → Option W → Type 0
  WritesKind deletes changes writer said writer' =
      (returned : Result (Unit {0}) ℕ)
      × WritesBatch behavior.writes_all behavior.deletes_all behavior.write_state deletes changes writer returned said writer'

  pub record CallsRound (through : Bool) (processor : P) (loader : Option L) (writer : Option W) (round : ProcessRound)
      (processor' : P) (loader' : Option L) (writer' : Option W) : Type 0 where
    pub runs_are : RunsEach processor loader round.runs processor' loader'
    pub between : Option W
    pub writes_are : WritesKind false (batch_changes through false round.runs) writer round.written between
    pub deletes_are : WritesKind true (batch_changes through true round.runs) between round.deleted writer'

  abbrev pub CallsEach : Bool → P → Option L → Option W → List ProcessRound → P → Option L → Option W → Type 0
  CallsEach through processor loader writer [] processor' loader' writer' =
      (processor' ≡ processor) × (loader' ≡ loader) × (writer' ≡ writer)
  CallsEach through processor loader writer (round ∷ rounds) processor' loader' writer' =
      (p : P) × (l : Option L) × (w : Option W) × CallsRound through processor loader writer round p l w
      × CallsEach through p l w rounds processor' loader' writer'
