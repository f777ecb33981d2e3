use Rattle.std.proofs.Common.{◌∙◌}
use Rattle.jc_batch.proofs.CallerLemmas.{entry_last}
use Rattle.jc_batch.proofs.new_entry.insert_new.Goals as goal

pub returns-clause-entries : goal.returns-clause-entries
returns-clause-entries g c = c.in-Ok.ensures.entries ∙ entry_last c.args.map.now c.args.key.now c.args.value c.requires.new
