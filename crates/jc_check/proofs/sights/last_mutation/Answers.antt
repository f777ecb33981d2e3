use Rattle.std.proofs.Common.{◌∙◌, ap, sym, Option}
use Rattle.std.specs.Option.{option_or}
use Rattle.jc_model.specs.Cache.{Bytes}
use Rattle.jc_model.specs.Processor.{mutation}
use Rattle.jc_check.proofs.Mutations.{last-more}
use Rattle.jc_check.proofs.sights.last_mutation.Goals as goal

pub loop-sight-preserved : goal.loop-sight-preserved
loop-sight-preserved c =
    c.or-last.ensures ∙ ap (λ (m : Option (Option Bytes)). option_or m c.loop-sight.last) c.mutation.ensures
    ∙ ap (option_or (mutation c.sight-item.result.call)) c.loop-sight.invariant
    ∙ sym (last-more c.args.sights.now c.loop-sight.sight-index c.sight-item.result c.loop-sight-test.true c.sight-item.is)
