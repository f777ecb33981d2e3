use Rattle.std.proofs.Common.{subst}
use Rattle.jc_model.specs.declared.processor.EntryCall.TheVariants.{Remove}
use Rattle.jc_model.specs.declared.processor.EntryAnswer.TheVariants.{Done}
use Rattle.jc_mutentry.specs.Entries.{Makes}
use Rattle.jc_mutentry.specs.contracts.entry_core.EntryCore.{the_view}
use Rattle.jc_mutentry.proofs.Stepping.{remove_makes}
use Rattle.jc_mutentry.proofs.entry_core.EntryCore.remove.Goals as goal

pub returns-clause-remove : goal.returns-clause-remove
returns-clause-remove c =
    subst (λ s. Makes s Remove Done (the_view (record c.self.inside { effect = c.mutate.new.effect }))) c.self.view_is
    (remove_makes (the_view c.self.inside) c.mutate.new.effect c.mutate.ensures)
