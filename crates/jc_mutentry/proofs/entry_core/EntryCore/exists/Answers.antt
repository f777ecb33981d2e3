use Rattle.std.proofs.Common.{subst}
use Rattle.jc_model.specs.declared.processor.EntryCall.TheVariants.{Exists}
use Rattle.jc_model.specs.declared.processor.EntryAnswer.TheVariants.{Present}
use Rattle.jc_mutentry.specs.Entries.{Makes}
use Rattle.jc_mutentry.specs.contracts.entry_core.EntryCore.{the_view}
use Rattle.jc_mutentry.proofs.Stepping.{exists_makes}
use Rattle.jc_mutentry.proofs.entry_core.EntryCore.exists.Goals as goal

pub returns : goal.returns
returns c =
    subst (λ s. Makes s Exists (Present c.is_present.result) s) c.self.view_is
    (exists_makes (the_view c.self.inside) c.is_present.result c.is_present.ensures)
