use Rattle.std.proofs.Common.{ap, subst, ◌∙◌}
use Rattle.jc_model.specs.declared.processor.EntryCall.TheVariants.{GetValue}
use Rattle.jc_mutentry.specs.Entries.{Makes, get_answer, asks_load}
use Rattle.jc_mutentry.specs.contracts.entry_core.EntryCore.{the_view}
use Rattle.jc_mutentry.proofs.Stepping.{load_makes}
use Rattle.jc_mutentry.proofs.entry_core.EntryCore.load.Goals as goal

pub returns-clause-get : goal.returns-clause-get
returns-clause-get c =
    subst (λ s. Makes s GetValue (get_answer c.get_result.result) (the_view (record c.self.inside { load = c.args.answer }))) c.self.view_is
    (load_makes (the_view c.self.inside) c.args.answer c.get_result.result (ap asks_load c.self.view_is ∙ c.requires.asks) c.requires.given c.get_result.ensures)
