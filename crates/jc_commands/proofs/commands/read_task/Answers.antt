use Rattle.std.proofs.Common.{◌∙◌, Err, ap, map, string_bytes, subst, sym}
use Rattle.clap.specs.Words.{FailsBy, fault_of, is_simple, is_simple_and_free, subcommand_of}
use Rattle.jc_commands.specs.CommandLine.{IsAsked}
use Rattle.jc_commands.specs.declared.commands.Task.{Task}
use Rattle.jc_commands.proofs.commands.read_task.Goals as goal

pub returns-in-Ok-clause-kinds : goal.returns-in-Ok-clause-kinds
returns-in-Ok-clause-kinds c =
    let made = c.in_ok-program.ensures.made in
    let words = map string_bytes c.args.words.now in
    sym (ap (λ a. fault_of a words) made) ∙ c.in-Ok.ensures.kinds (ap is_simple_and_free made)

pub returns-in-Ok-clause-asked : goal.returns-in-Ok-clause-asked
returns-in-Ok-clause-asked c =
    let made = c.in_ok-program.ensures.made in
    let words = map string_bytes c.args.words.now in
    let found = c.in-Ok.ensures.matches (ap is_simple made) in
    subst (λ s. IsAsked s c.task_in.result) (found.1 ∙ ap (λ a. subcommand_of a words) made) c.task_in.ensures

pub returns-in-Err-clause-kinds : goal.returns-in-Err-clause-kinds
returns-in-Err-clause-kinds c =
    let made = c.in_ok-program.ensures.made in
    let words = map string_bytes c.args.words.now in
    subst (λ a. FailsBy {T = Task} (fault_of a words) (Err c.in-Err.error)) made (c.in-Err.ensures.kinds (ap is_simple_and_free made))
