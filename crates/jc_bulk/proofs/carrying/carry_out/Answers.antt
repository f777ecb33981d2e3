use Rattle.jc_bulk.proofs.Common.{KeysAskAs, may_again, failed_entries, key_ends, HasRun, with_rounds, ops_of, IsNew, length, ap, arith, subst, sym, ◌∙◌}
use Rattle.jc_bulk.proofs.CarriedOut.{begun, ends_for, first_run}
use Rattle.jc_bulk.proofs.carrying.carry_out.Goals.{After-next_call}
use Rattle.jc_bulk.proofs.carrying.carry_out.Goals as goal

-- the call is new, and before its first round
new : (g : _) (c : After-next_call g) → IsNew c.args.targets.now c.args.cache.now.config.stripes c.new-call.result
new g c = c.new-call.ensures.new c.args.cache.now.config.stripes c.requires.room.room_is.rooms

first : (g : _) (c : After-next_call g) → HasRun c.args.cache.now (begun c.args.session.now) c.next_call.new.self c.new-call.result
first g c =
    first_run c.args.cache.now c.args.session.now c.next_call.new.self c.args.targets.now c.new-call.result c.requires.may c.requires.room.distinct (new g c) c.next_call.ensures.call

pub run_rounds-requires-clause-ready : goal.run_rounds-requires-clause-ready
run_rounds-requires-clause-ready g c =
    let is = new g (goal.at.run_rounds-requires-clause-ready g c).After-next_call in
    let outside = c.requires.room.room_is.outside in
    record {
      none = ap (λ s. s.items) outside;
      kind = subst (λ t. KeysAskAs c.args.room.outside.kind (ops_of t)) (sym is.targets_are) c.requires.room.asks;
      room = omega (arith, c.new-call.ensures.most, ap (λ s. s.room) outside);
    }

pub run_rounds-requires-clause-run : goal.run_rounds-requires-clause-run
run_rounds-requires-clause-run g c = (begun c.args.session.now, first g (goal.at.run_rounds-requires-clause-run g c).After-next_call)

pub end-progress-requires : goal.end-progress-requires
end-progress-requires g c =
    let between = (c.run_rounds.ensures.runs (begun c.args.session.now) (first g (goal.at.end-progress-requires g c).After-next_call)).run.between in
    (between.no_tickets, between.no_joins)

pub add_entries-requires-clause-many : goal.add_entries-requires-clause-many
add_entries-requires-clause-many g c =
    let at = (goal.at.add_entries-requires-clause-many g c).After-next_call in
    let runs = c.run_rounds.ensures.runs (begun c.args.session.now) (first g at) in
    ap length c.as_slice.ensures.value ∙ ap (λ v. length v.items) c.end-progress.ensures.0 ∙ runs.run.between.on.under.so_far.many ∙ ap (λ t. length (ops_of t)) (ap (λ t. t.now) runs.targets ∙ (new g at).targets_are)

pub returns : goal.returns
returns g c =
    let at = (goal.at.returns g c).After-next_call in
    let ops = ops_of c.args.targets.now in
    let runs = c.run_rounds.ensures.runs (begun c.args.session.now) (first g at) in
    record {
      may = may_again c.args.cache.now (with_rounds (begun c.args.session.now) runs.rounds) c.run_rounds.new.session c.run_rounds.new.call runs.run.between;
      call = record {
        carried = ends_for _ c.args.cache.now c.args.session.now c.next_call.new.self c.run_rounds.new.session c.args.targets.now c.new-call.result c.run_rounds.new.call c.end-progress.result.0 c.end-progress.result.1 c.next_call.ensures.call (new g at).targets_are c.end-progress.ensures.0
            c.end-progress.ensures.1 c.run_rounds.ensures.over runs;
        failed = c.add_entries.ensures ∙ ap (λ ps. failed_entries (key_ends ops ps)) c.as_slice.ensures.value;
        many = ap (λ v. length v.items) c.end-progress.ensures.0 ∙ runs.run.between.on.under.so_far.many ∙ ap (λ t. length (ops_of t)) (ap (λ t. t.now) runs.targets ∙ (new g at).targets_are);
      };
    }
