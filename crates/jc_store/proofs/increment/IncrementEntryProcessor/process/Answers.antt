use Rattle.std.proofs.Common.{[], ◌∷◌}
use Rattle.jc_model.specs.declared.processor.EntryCall.TheVariants.{GetValue, SetValue}
use Rattle.jc_model.specs.declared.processor.EntryAnswer.TheVariants.{Done}
use Rattle.jc_mutentry.specs.Entries.{get_answer}
use Rattle.jc_mutentry.proofs.CallerLemmas.{after_none, loads_first}
use Rattle.jc_store.proofs.increment.IncrementEntryProcessor.process.Goals as goal

pub returns-in_err-old-clause-calls : goal.returns-in_err-old-clause-calls
returns-in_err-old-clause-calls g c = (GetValue ∷ [], get_answer c.get_value.result ∷ [], c.get_value.ensures.get.after [] [] (after_none _ c.requires), tt)

pub returns-in-Some-clause-calls : goal.returns-in-Some-clause-calls
returns-in-Some-clause-calls g c = (
  GetValue ∷ SetValue c.in-Some.sum ∷ [],
  get_answer c.get_value.result ∷ Done ∷ [],
  c.set_value.ensures.set.after (GetValue ∷ []) (get_answer c.get_value.result ∷ []) (c.get_value.ensures.get.after [] [] (after_none _ c.requires)),
  tt,
)

pub returns-in-Some-clause-loader : goal.returns-in-Some-clause-loader
returns-in-Some-clause-loader g c =
    loads_first (λ l. (goal.CacheLoader-dyn g l).loads l.1) (λ l. (goal.CacheLoader-dyn g l).load_state l.1)
    c.args.entry.now.key c.args.entry.now.entry.load c.get_value.new.self.entry.load c.set_value.new.self.entry.load _ _ c.get_value.ensures.loader c.set_value.ensures.load

pub returns-in-None-clause-calls : goal.returns-in-None-clause-calls
returns-in-None-clause-calls g c = (GetValue ∷ [], get_answer c.get_value.result ∷ [], c.get_value.ensures.get.after [] [] (after_none _ c.requires), tt)
