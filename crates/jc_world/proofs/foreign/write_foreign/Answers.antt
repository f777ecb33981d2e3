use Rattle.jc_world.proofs.Common.{◌∙◌, without_foreign}
use Rattle.jc_world.proofs.Marked.{unmarked}
use Rattle.jc_world.proofs.foreign.write_foreign.Goals as goal

pub returns-then-is_err-clause-foreign_err : goal.returns-then-is_err-clause-foreign_err
returns-then-is_err-clause-foreign_err c =
    let m = c.in_ok-is_new.ensures in
    c.forget.ensures ∙ (λ i. without_foreign (m.ok i) c.args.key.now (m.new i)) ∙ unmarked c.args.foreign.now c.args.key.now
