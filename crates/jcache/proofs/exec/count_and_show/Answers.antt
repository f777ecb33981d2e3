use Rattle.std.proofs.Common.{Err, Ok, inl, inr, refl, rules, ◌≡◌, false}
use Rattle.jc_commands.specs.CommandLine.{is_too_much}
use Rattle.jcache.proofs.exec.count_and_show.Goals as goal

pub returns-in-Ok-clause-counted : goal.returns-in-Ok-clause-counted
returns-in-Ok-clause-counted g c =
    let few : is_too_much c.args.plan.now ≡ false = search rules in
    inr (few, (Ok c.in-Ok.report, c.in-Ok.ensures.counted, (c.in-Ok.ensures.plan, c.show_report.ensures.shown)))

pub returns-in-Err-clause-counted : goal.returns-in-Err-clause-counted
returns-in-Err-clause-counted g c =
    let few : is_too_much c.args.plan.now ≡ false = search rules in
    inr (few, (Err c.in-Err.field-0, c.in-Err.ensures.counted, (c.end_without_memory.ensures, refl)))
