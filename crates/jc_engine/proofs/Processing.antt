-- What a call that runs a processor says of the processor.
--     ran    the processor was run once, on the entry that the first phase found
use Rattle.jc_engine.proofs.Common.{◌≡◌, ◌&&◌, ℕ, List, Bool, true, false, is_none, MatchBool, refl, sym, subst, Bytes, entry_at, Invoke, LoadAnswer, wanted_if, is_process_given, First, State, entry_seen, is_loadable, first_asked, is_wanted}
use Rattle.jc_model.specs.declared.event.ProcessAnswer.{ProcessAnswer}
use Rattle.jc_mutentry.specs.Running.{ProcessRelation, RunsOnce}

wanted : (b : Bool) → is_wanted (wanted_if b) ≡ b
wanted true = refl
wanted false = refl

module _ {P : Type 0} (processes : ProcessRelation P) (state : P → List ℕ) where
  pub ran : (before : State) (key asked : Bytes) (args : List Bytes) (first : First) (load : LoadAnswer) (process : ProcessAnswer) (old new : P)
      → first_asked before.config Invoke (entry_at before.cache key) ≡ first → asked ≡ key → is_process_given process ≡ true
      → RunsOnce processes state old asked args (is_loadable first) (entry_seen first) load process new
      → MatchBool (is_process_given process) (RunsOnce processes state old key args (before.config.read_through && is_none (entry_at before.cache key)) (entry_at before.cache key) load process new) (new ≡ old)
  ran before key asked args first load process old new is same given once =
      let entry = entry_at before.cache key in
      let may = before.config.read_through && is_none entry in
      subst (λ b. MatchBool b (RunsOnce processes state old key args may entry load process new) (new ≡ old)) (sym given)
      (subst (λ b. RunsOnce processes state old key args b entry load process new) (wanted may)
      (subst (λ f. RunsOnce processes state old key args (is_loadable f) (entry_seen f) load process new) (sym is)
      (subst (λ k. RunsOnce processes state old k args (is_loadable first) (entry_seen first) load process new) same once)))
