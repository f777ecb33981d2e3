use Rattle.std.proofs.Common.{◌≡◌, ◌+◌, ◌-◌, List, map, length, sym, ap, ◌∙◌}
use Rattle.jc_model.specs.declared.event.Event.{Event}
use Rattle.jc_model.specs.Group.{victim_events, shared_event, evicted_events}
use Rattle.jc_history.specs.Past.{unpromise}
use Rattle.jc_stripe.specs.Appending.{new_step, callers_in, append_all}
use Rattle.jc_stripe.proofs.Counting.{append_none, appended_group}
use Rattle.jc_stripe.proofs.appending.append_group.Goals.{in-Some, in_default}
use Rattle.jc_stripe.proofs.appending.append_group.Goals as goal

-- the shared steps
abbrev shared : (c : goal.After-result-1) → List Event
shared c =
    let g = c.args.group.now in
    map (shared_event (length c.args.history.now.events + length (victim_events g.victim)) g.key g.out.load) (callers_in c.args.load c.args.joiners.now)

-- what they leave
with_shared : (c : goal.After-result-1) → c.match-load.history ≡ append_all c.args.group.now.found (shared c) c.append_step-place.new.history
with_shared c =
    let g = c.args.group.now in
    elim c.match-load.branch [
      | in-Some w ↦
          w.history-is ∙ w.append_shared.ensures.history
          ∙ (λ i. append_all g.found (map (shared_event (c.append_step-place.ensures.place i) g.key g.out.load) (callers_in (sym w.in-Some.is i) c.args.joiners.now)) c.append_step-place.new.history)
      | in_default w ↦
          w.history-is ∙ sym (append_none g.found c.append_step-place.new.history)
          ∙ (λ i. append_all g.found (map (shared_event (length c.args.history.now.events + length (victim_events g.victim)) g.key g.out.load) (callers_in (sym w.in_default.is i) c.args.joiners.now)) c.append_step-place.new.history)
    ]

pub returns-clause-history : goal.returns-clause-history
returns-clause-history c =
    let g = c.args.group.now in
    appended_group g.found c.args.history.now c.match-load.history c.unpromise.new.self (victim_events g.victim) (new_step g) (shared c) (evicted_events g.key g.evicted) c.args.kept (c.args.kept - (c.len.result - c.len-before.result))
    (with_shared c ∙ ap (append_all g.found (shared c)) c.append_step-place.ensures.history)
    (c.unpromise.ensures.after ∙ ap (unpromise (c.args.kept - (c.len.result - c.len-before.result))) c.append_evicted-evicted.ensures.history)
    ((λ i. c.args.kept - (c.len.ensures.len i - c.len-before.ensures.len i)) ∙ ap (λ (n : List Event). c.args.kept - (length n - length c.args.history.now.events)) (ap (λ p. p.events) c.append_evicted-evicted.ensures.history))
    c.requires.places
