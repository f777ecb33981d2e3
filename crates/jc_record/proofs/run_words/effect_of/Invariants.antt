use Rattle.jc_record.proofs.Common.{◌≡◌, drop}
use Rattle.jc_model.specs.declared.event.Effect.TheVariants.{Keep}
use Rattle.jc_record.specs.Words.{effect_from}
use Rattle.jc_record.proofs.run_words.effect_of.Given as goal

abbrev pub invariant-loop-sight : goal.invariant-loop-sight
invariant-loop-sight l = effect_from l.effect (drop l.sight-index l.sights) ≡ effect_from Keep l.sights
