use Rattle.jc_world.proofs.Common.{◌≡◌, true, Some, sym, ap, ◌∙◌, subst, get, after_change, world_of, WorldState, part_of, has_progress, waits_for_report}
use Rattle.jc_world.proofs.Holding.{of_key}
use Rattle.jc_world.proofs.WriterBatches.{asked_waits}
use Rattle.jc_world.proofs.machine.Machine.change.Goals as goal

pub change-requires : goal.change-requires
change-requires c =
    let v : WorldState = world_of c.self.inside in
    let W : WorldState → Type 0 = λ x. has_progress waits_for_report (part_of x c.args.call c.args.key.now) ≡ true in
    (of_key (has_progress waits_for_report) (get v.parts c.args.key.now) c.args.call (λ h. cc) (subst W (sym c.self.view_is) (asked_waits c.args.self.now c.args.call c.args.key.now c.requires))).3

pub returns-clause-ok : goal.returns-clause-ok
returns-clause-ok c =
    let v : WorldState = world_of c.self.inside in
    let key = c.args.key.now in
    let W : WorldState → Type 0 = λ x. has_progress waits_for_report (part_of x c.args.call key) ≡ true in
    let of = of_key (has_progress waits_for_report) (get v.parts key) c.args.call (λ h. cc) (subst W (sym c.self.view_is) (asked_waits c.args.self.now c.args.call c.args.key.now c.requires)) in
    let said = c.in_ok-change.ensures.ok in
    let part = said.0 in
    let there : part_of v c.args.call key ≡ Some part = of.1 ∙ sym of.2 ∙ said.2 in
    let next = world_of (record c.self.inside { store = c.change.new.store; held = c.change.new.held; foreign = c.forget.new.foreign }) in
    let is : next ≡ after_change v key part said.1 = λ i. record v { store = said.5 i; parts = said.4 i; foreign = c.forget.ensures i } in
    (part, said.1, sym (ap (λ (x : WorldState). part_of x c.args.call key) c.self.view_is) ∙ there, said.3, c.show.ensures, is ∙ ap (λ (x : WorldState). after_change x key part said.1) c.self.view_is)
