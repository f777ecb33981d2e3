use Rattle.std.proofs.Common.{subst}
use Rattle.jc_mutentry.specs.GetOutcomes.{IsGetOutcome}
use Rattle.jc_mutentry.specs.contracts.entry_core.EntryCore.{the_view}
use Rattle.jc_mutentry.proofs.Stepping.{is_get_outcome}
use Rattle.jc_mutentry.proofs.entry_core.EntryCore.get_value.Goals as goal

pub returns : goal.returns
returns c =
    subst (λ s. IsGetOutcome s c.get_outcome.result) c.self.view_is
    (is_get_outcome (the_view c.self.inside) c.get_outcome.result c.get_outcome.ensures)
