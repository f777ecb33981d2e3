use Rattle.std.proofs.Common.{◌∙◌, ap}
use Rattle.clap.specs.Words.{found_of}
use Rattle.clap.proofs.WalkLemmas.{first_value-rows}
use Rattle.jc_commands.specs.CommandLine.{choice_of}
use Rattle.jc_commands.proofs.commands.choice.Goals as goal

pub returns : goal.returns
returns c =
    c.choice_of.ensures
    ∙ ap (choice_of c.args.first.now c.args.second.now) (c.get_str.ensures ∙ first_value-rows (found_of c.args.options.now) c.args.name.now)
