use Rattle.std.proofs.Common.{subst}
use Rattle.jc_model.specs.declared.processor.EntryCall.TheVariants.{SetValue}
use Rattle.jc_model.specs.declared.processor.EntryAnswer.TheVariants.{Done}
use Rattle.jc_mutentry.specs.Entries.{Makes}
use Rattle.jc_mutentry.specs.contracts.entry_core.EntryCore.{the_view}
use Rattle.jc_mutentry.proofs.Stepping.{set_makes}
use Rattle.jc_mutentry.proofs.entry_core.EntryCore.set_value.Goals as goal

pub returns-clause-set : goal.returns-clause-set
returns-clause-set c =
    subst (λ s. Makes s (SetValue c.args.value.now) Done (the_view (record c.self.inside { effect = c.mutate.new.effect }))) c.self.view_is
    (set_makes (the_view c.self.inside) c.args.value.now c.mutate.new.effect c.mutate.ensures)
