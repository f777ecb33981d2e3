use Rattle.jc_world.proofs.Common.{◌≡◌, true, ◌&&◌, Some, sym, ap, ◌∙◌, subst, get, after_report, waits_at, world_of, is_true_report, WorldState, part_of, has_progress, waits_for_report, has_changed}
use Rattle.jc_world.proofs.Holding.{of_key}
use Rattle.jc_world.proofs.machine.Machine.report.Goals as goal

pub report-is_changed-requires-clause-waits : goal.report-is_changed-requires-clause-waits
report-is_changed-requires-clause-waits c =
    let v : WorldState = world_of c.self.inside in
    let W : WorldState → Type 0 = λ x. waits_at x c.args.call c.args.key.now ≡ true in
    (of_key (has_progress waits_for_report) (get v.parts c.args.key.now) c.args.call (λ h. cc) (subst W (sym c.self.view_is) c.requires.waits)).3

pub returns : goal.returns
returns c =
    let v : WorldState = world_of c.self.inside in
    let key = c.args.key.now in
    let W : WorldState → Type 0 = λ x. waits_at x c.args.call key ≡ true in
    let of = of_key (has_progress waits_for_report) (get v.parts key) c.args.call (λ h. cc) (subst W (sym c.self.view_is) c.requires.waits) in
    let said = c.report-is_changed.ensures in
    let part = said.0 in
    let there : part_of v c.args.call key ≡ Some part = of.1 ∙ sym of.2 ∙ said.1 in
    let answer = c.args.answer in
    let next = world_of (record c.self.inside { held = c.report-is_changed.new.held; premises = record c.self.inside.premises { writers = c.self.inside.premises.writers && c.is_honest_report-honest.result } }) in
    let writers : (c.self.inside.premises.writers && c.is_honest_report-honest.result) ≡ (c.self.inside.premises.writers && is_true_report answer (has_changed part)) =
    ap (λ b. c.self.inside.premises.writers && b) (c.is_honest_report-honest.ensures ∙ ap (is_true_report answer) said.2) in
    let is : next ≡ after_report v key part answer = λ i. record v { parts = said.3 i; premises = record c.self.inside.premises { writers = writers i } } in
    (part, sym (ap (λ (x : WorldState). part_of x c.args.call key) c.self.view_is) ∙ there, is ∙ ap (λ (x : WorldState). after_report x key part answer) c.self.view_is)
