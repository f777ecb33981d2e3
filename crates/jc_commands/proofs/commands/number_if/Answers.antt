use Rattle.std.specs.Str.Parse.{ExplainsUnsignedError, HasUnsignedDigitsIfOk, ParsesUnsigned}
use Rattle.clap.specs.Words.{found_of}
use Rattle.clap.proofs.WalkLemmas.{one_text-rows}
use Rattle.jc_commands.proofs.Asking.{reads_if}
use Rattle.jc_commands.proofs.commands.number_if.Goals as goal

pub returns : goal.returns
returns c =
    rw (← one_text-rows (found_of c.args.options.now) c.args.name.now)
    (reads_if (λ text read. ParsesUnsigned 32 10 text read × ExplainsUnsignedError 10 text read × HasUnsignedDigitsIfOk text read)
    _ c.get_one.result (λ text read gives. gives.0) c.get_one.ensures.none c.get_one.ensures.value)
