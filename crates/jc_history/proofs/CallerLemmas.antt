-- Lemmas for the crates above: which events may be stored.
use Rattle.std.proofs.Common.{◌≡◌, ℕ, ◌≤◌, ◌+◌, ◌&&◌, Bool, true, false, not, cond, IsTrue, Option, None, Some, is_none, is_some, refl, ap, arith, ◌==◌}
use Rattle.std.specs.Bool.{beq}
use Rattle.std.specs.Cmp.Lexicographic.{pointwise}
use Rattle.std.proofs.lemmas.Bool.{and_parts}
use Rattle.std.proofs.lemmas.Cmp.{nat_list_eq_equiv}
use Rattle.jc_types.specs.declared.caller.Caller.{Caller}
use Rattle.jc_types.specs.declared.config.Config.{Config}
use Rattle.jc_types.specs.declared.refusal.Refusal.{Refusal}
use Rattle.jc_model.specs.declared.event.Op.{Op}
use Rattle.jc_model.specs.declared.event.Op.TheVariants.{Get, LoadAll, Invoke}
use Rattle.jc_model.specs.declared.event.LoadAnswer.{LoadAnswer}
use Rattle.jc_model.specs.declared.event.LoadAnswer.TheVariants as load
use Rattle.jc_model.specs.declared.event.WriteAnswer.{WriteAnswer}
use Rattle.jc_model.specs.declared.event.ProcessAnswer.{ProcessAnswer}
use Rattle.jc_model.specs.declared.event.ProcessAnswer.TheVariants as process
use Rattle.jc_model.specs.declared.event.Effect.{Effect}
use Rattle.jc_model.specs.declared.event.Effect.TheVariants as effect
use Rattle.jc_model.specs.declared.event.Out.{Out}
use Rattle.jc_model.specs.declared.event.Reply.{Reply}
use Rattle.jc_model.specs.declared.event.Reply.TheVariants as reply
use Rattle.jc_model.specs.declared.event.Event.TheVariants.{Step}
use Rattle.jc_model.specs.Cache.{Bytes}
use Rattle.jc_model.specs.Table.{answers_fit, reply_after, reply_by_fault, loader_ask, load_fits, write_ask, early_fault, first_fault, is_load_given, is_process_given, is_write_given, is_invoke, outcome_of}
use Rattle.jc_model.proofs.CallerLemmas.{is_numbered}
use Rattle.jc_history.specs.Values.{repeats_outside, values_in_op, values_in_load, values_in_effect, values_in_process, values_in_reply, IsStorable}

-- 1. At most this number of values.

pub few_in_op : (op : Op) → values_in_op op ≤ 2
few_in_op op = (is_numbered op).few

pub few_in_load : (answer : LoadAnswer) → values_in_load answer ≤ 1
few_in_load load.NotAsked = omega arith
few_in_load (load.Found value) = omega arith
few_in_load load.Nothing = omega arith
few_in_load (load.Failed code) = omega arith

few_in_effect : (net : Effect) → values_in_effect net ≤ 1
few_in_effect effect.Keep = omega arith
few_in_effect (effect.Set value) = omega arith
few_in_effect effect.Remove = omega arith

pub few_in_process : (answer : ProcessAnswer) → values_in_process answer ≤ 2
few_in_process process.NotAsked = omega arith
few_in_process (process.Ended net None) = omega (arith, few_in_effect net)
few_in_process (process.Ended net (Some value)) = omega (arith, few_in_effect net)
few_in_process (process.Failed code) = omega arith

at_most_one : (repeats : Bool) → cond repeats 0 1 ≤ 1
at_most_one true = omega arith
at_most_one false = omega arith

pub few_in_reply : (out : Out) (answer : Reply) → values_in_reply out answer ≤ 1
few_in_reply out reply.Unit = omega arith
few_in_reply out (reply.Flag flag) = omega arith
few_in_reply out (reply.Value None) = omega arith
few_in_reply out (reply.Value (Some value)) = at_most_one (repeats_outside out value)
few_in_reply out (reply.Fault refusal) = omega arith

-- 2. None of whom wasn't asked.

none_in_load : (answer : LoadAnswer) → not (is_load_given answer) ≡ true → values_in_load answer ≡ 0
none_in_load load.NotAsked h = refl
none_in_load (load.Found value) h = cc
none_in_load load.Nothing h = refl
none_in_load (load.Failed code) h = refl

none_in_process : (answer : ProcessAnswer) → beq (is_process_given answer) false ≡ true → values_in_process answer ≡ 0
none_in_process process.NotAsked h = refl
none_in_process (process.Ended net outcome) h = cc
none_in_process (process.Failed code) h = refl

-- 3. A processor's outcome is answered, and isn't stored twice.

-- bytes are the same as themselves
pub same_bytes : (value : Bytes) → pointwise ◌==◌ value value ≡ true
same_bytes value = nat_list_eq_equiv.refl value

none_behind_process : (answer : LoadAnswer) (written : WriteAnswer) (processed : ProcessAnswer)
    → values_in_reply (record { load = answer; write = written; process = processed }) (reply.Value (outcome_of processed)) ≡ 0
none_behind_process answer written process.NotAsked = refl
none_behind_process answer written (process.Ended net None) = refl
none_behind_process answer written (process.Ended net (Some value)) = ap (λ b. cond b 0 1) (same_bytes value)
none_behind_process answer written (process.Failed code) = refl

fewer_by_fault : (out : Out) (fault : Option Refusal) (answer : Reply) → values_in_reply out (reply_by_fault fault answer) ≤ values_in_reply out answer
fewer_by_fault out None answer = omega arith
fewer_by_fault out (Some fault) answer = omega arith

-- 4. A step.

-- what the tables say of the loader and the processor
fitting : (config : Config) (op : Op) (entry : Option Bytes) (out : Out) → IsTrue (answers_fit config op entry out)
    → (load_fits (loader_ask config.read_through op entry) (is_load_given out.load) ≡ true) × (beq (is_process_given out.process) (is_invoke op) ≡ true)
fitting config op entry out fits =
    let write = beq (is_write_given out.write) (config.write_through && is_none (early_fault out) && is_some (write_ask op entry out.process)) in
    let loaded = load_fits (loader_ask config.read_through op entry) (is_load_given out.load) in
    let processed = beq (is_process_given out.process) (is_invoke op) in
    and_parts loaded processed (and_parts (loaded && processed) write fits).0

-- a call that asks the writer alone, or nobody
storable_plain : (op : Op) (out : Out) (answer : Reply) → not (is_load_given out.load) ≡ true → beq (is_process_given out.process) false ≡ true
    → values_in_op op + (values_in_load out.load + values_in_process out.process) + values_in_reply out answer ≤ 3
storable_plain op out answer unloaded unprocessed = omega (arith, few_in_op op, none_in_load out.load unloaded, none_in_process out.process unprocessed, few_in_reply out answer)

storable_load : (out : Out) (answer : Reply) → beq (is_process_given out.process) false ≡ true
    → 0 + (values_in_load out.load + values_in_process out.process) + values_in_reply out answer ≤ 3
storable_load out answer unprocessed = omega (arith, few_in_load out.load, none_in_process out.process unprocessed, few_in_reply out answer)

-- what a step with answers as the tables ask for them replies can be stored
pub storable_step : (config : Config) (caller : Caller) (op : Op) (key : Bytes) (entry : Option Bytes) (out : Out) (shared_with : Option ℕ) → IsTrue (answers_fit config op entry out)
    → IsStorable (Step caller op key out shared_with (reply_after op entry out))
storable_step config caller Get key entry out shared_with fits = storable_load out _ (fitting config Get entry out fits).1
storable_step config caller (LoadAll replace) key entry out shared_with fits = storable_load out _ (fitting config (LoadAll replace) entry out fits).1
storable_step config caller Invoke key entry out shared_with fits =
    omega (arith, few_in_load out.load, few_in_process out.process, fewer_by_fault out (first_fault out) (reply.Value (outcome_of out.process)), none_behind_process out.load out.write out.process)
storable_step config caller op key entry out shared_with fits = let parts = fitting config op entry out fits in storable_plain op out _ parts.0 parts.1

-- 5. A shared step.
