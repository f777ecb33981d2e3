use Rattle.jc_world.proofs.Common.{◌≡◌, Some, Option, option_map, find, has_number, sym, ap, ◌∙◌, option_copied, WriterFailed, Refusal, List, not_over, with_met_by, keys_reported, reported_now, after_reports, report_for, world_of, WorldState, open_call}
use Rattle.jc_world.specs.declared.reports.ReportedKey.{ReportedKey}
use Rattle.jc_world.specs.declared.event.Outcome.TheVariants as outcome
use Rattle.jc_world.proofs.machine.Machine.writer_returns.Goals as goal

pub returns-clause-ok : goal.returns-clause-ok
returns-clause-ok c =
    let v : WorldState = world_of c.self.inside in
    let call = c.args.call in
    let u = c.in-Some.u.now in
    let here : open_call c.args.self.now call ≡ Some u =
    ap (find (has_number call)) (sym (c.deref.ensures.value ∙ ap (λ (w : WorldState). w.calls) c.self.view_is)) ∙ sym c.find_call.ensures ∙ ap option_copied c.in-Some.is in
    let keys : c.in_ok-reported.reported.items ≡ reported_now c.args.self.now call u = c.in_ok-reported.ensures ∙ ap (λ (w : WorldState). reported_now w call u) c.self.view_is in
    let shown = c.show.ensures ∙ ap (λ (ks : List ReportedKey). not_over (outcome.Reported (record { keys = ks; fault = c.args.fault }))) (c.new-keys.ensures ∙ keys) in
    let met : record v { calls = c.meet.new.calls.items } ≡ with_met_by c.args.self.now call (option_map WriterFailed c.args.fault) =
    (λ i. record v { calls = c.meet.ensures i }) ∙ ap (λ (m : Option Refusal). with_met_by v call m) c.fault_of.ensures
    ∙ ap (λ (w : WorldState). with_met_by w call (option_map WriterFailed c.args.fault)) c.self.view_is in
    let reported = c.deref-2.ensures.value ∙ keys in
    (u, here, shown, c.report_each.ensures ∙ (λ i. after_reports (met i) call (report_for (c.kind-kind.ensures i) c.args.left.now c.args.fault) (keys_reported (reported i))))
