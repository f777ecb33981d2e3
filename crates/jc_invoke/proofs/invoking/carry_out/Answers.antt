use Rattle.jc_invoke.proofs.Common.{result_entries, spare, Invoke, key_ends, HasRun, ops_with, ◌≤◌, ◌==◌, subst, ap, sym, ◌∙◌, length, pointwise, IsDistinct}
use Rattle.jc_invoke.proofs.Invoked.{before_it, has_begun, invoked, over}
use Rattle.jc_invoke.proofs.KeyResults.{as_many, keys_distinct}
use Rattle.jc_invoke.proofs.invoking.carry_out.Goals.{After-next_call}
use Rattle.jc_invoke.proofs.invoking.carry_out.Goals as goal

-- the call has made no round yet
first : (g : _) (c : After-next_call g) → HasRun c.args.cache.now (before_it c.args.cache.now c.args.session.now c.next_call.new.self c.args.memory.call c.args.keys.now.keys) c.next_call.new.self c.args.memory.call
first g c =
    let m = c.requires.memory in
    has_begun c.args.cache.now c.args.session.now c.next_call.new.self c.args.memory.call c.args.keys.now.keys c.requires.may c.next_call.ensures.call m.call_is m.targets_are c.as_slice-slice.ensures.unique

pub run_rounds-requires-clause-ready : goal.run_rounds-requires-clause-ready
run_rounds-requires-clause-ready g c = let m = c.requires.memory in record { invoked = (c.args.keys.now.keys, m.targets_are); room_is = m.room_is }

pub run_rounds-requires-clause-run : goal.run_rounds-requires-clause-run
run_rounds-requires-clause-run g c =
    (before_it c.args.cache.now c.args.session.now c.next_call.new.self c.args.memory.call c.args.keys.now.keys, first g (goal.at.run_rounds-requires-clause-run g c).After-next_call)

pub end-progress-requires : goal.end-progress-requires
end-progress-requires g c =
    let made = c.run_rounds.ensures.runs _ (first g (goal.at.end-progress-requires g c).After-next_call) in
    (over _ c.args.processing.now.args.now c.args.cache.now c.args.session.now c.next_call.new.self c.run_rounds.new.session c.args.memory.call c.run_rounds.new.call
    c.args.processing.now.processor.now c.run_rounds.new.processing.processor.now c.args.keys.now.keys c.requires.memory.targets_are made).1

pub add_entries-requires-clause-distinct : goal.add_entries-requires-clause-distinct
add_entries-requires-clause-distinct g c = keys_distinct Invoke c.as_slice-slice.result.now (subst (IsDistinct (pointwise ◌==◌)) (sym c.as_slice-slice.ensures.keys) c.as_slice-slice.ensures.unique)

pub add_entries-requires-clause-many : goal.add_entries-requires-clause-many
add_entries-requires-clause-many g c =
    let made = c.run_rounds.ensures.runs _ (first g (goal.at.add_entries-requires-clause-many g c).After-next_call) in
    ap length c.as_slice.ensures.value ∙ ap (λ v. length v.items) c.end-progress.ensures.0
    ∙ (over _ c.args.processing.now.args.now c.args.cache.now c.args.session.now c.next_call.new.self c.run_rounds.new.session c.args.memory.call c.run_rounds.new.call
    c.args.processing.now.processor.now c.run_rounds.new.processing.processor.now c.args.keys.now.keys c.requires.memory.targets_are made).2
    ∙ sym (ap length c.as_slice-slice.ensures.keys) ∙ sym (as_many Invoke c.as_slice-slice.result.now)

pub add_entries-requires-clause-empty : goal.add_entries-requires-clause-empty
add_entries-requires-clause-empty g c =
    let m = c.requires.memory in
    (m.no_results, subst (λ ks. length (ops_with Invoke ks) ≤ spare c.args.memory.results) (sym c.as_slice-slice.ensures.keys) m.results_room)

pub returns : goal.returns
returns g c =
    let m = c.requires.memory in
    let made = c.run_rounds.ensures.runs _ (first g (goal.at.returns g c).After-next_call) in
    let is = invoked _ c.args.processing.now.args.now c.args.cache.now c.args.session.now c.next_call.new.self c.run_rounds.new.session c.args.memory.call c.run_rounds.new.call
    c.args.processing.now.processor.now c.run_rounds.new.processing.processor.now c.args.keys.now.keys c.next_call.ensures.call m.targets_are c.run_rounds.ensures.over.0 made in
    let items = c.as_slice.ensures.value ∙ ap (λ v. v.items) c.end-progress.ensures.0 in
    record {
      may = (over _ c.args.processing.now.args.now c.args.cache.now c.args.session.now c.next_call.new.self c.run_rounds.new.session c.args.memory.call c.run_rounds.new.call
          c.args.processing.now.processor.now c.run_rounds.new.processing.processor.now c.args.keys.now.keys m.targets_are made).0;
      call = (
        c.run_rounds.ensures.over.1,
        key_ends (ops_with Invoke c.args.keys.now.keys) c.run_rounds.new.call.progress.items,
        is.0,
        is.1,
        c.add_entries.ensures ∙ (λ i. result_entries (key_ends (ops_with Invoke (c.as_slice-slice.ensures.keys i)) (items i))),
      );
    }
