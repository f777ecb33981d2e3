use Rattle.std.proofs.Common.{IfOk}
use Rattle.jc_sqlite.specs.Opening.{HasOwnTable}
use Rattle.jc_sqlite.specs.contracts.opening.FileOpeningOpening.TheImpl as file
use Rattle.jc_sqlite.proofs.Turns.{in_the_end}
use Rattle.jc_sqlite.proofs.opening.open_file.Goals as goal

pub returns : goal.returns
returns c =
    in_the_end file.opens-value.it file.pauses-value.it (λ answer. IfOk answer HasOwnTable) (λ old answer new opened. opened)
    c.args.options.now.retries record { rt = c.args.rt; path = c.args.path; pause = c.args.options.now.pause } c.open_in_turns.new.opening
    c.open_in_turns.result c.open_in_turns.ensures
