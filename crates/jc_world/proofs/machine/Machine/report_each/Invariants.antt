use Rattle.jc_world.proofs.Common.{◌≡◌, drop, keys_reported, after_reports, report_for}
use Rattle.jc_world.proofs.machine.Machine.report_each.Given as goal

abbrev pub invariant-loop-one : goal.invariant-loop-one
invariant-loop-one l =
    after_reports l.self l.call (report_for l.kind l.left l.fault) (keys_reported (drop l.one-index l.reported))
    ≡ after_reports l.fn.self l.call (report_for l.kind l.left l.fault) (keys_reported l.reported)
