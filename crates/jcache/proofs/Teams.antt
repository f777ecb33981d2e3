-- Lists of workers that grow and shrink by one.
use Rattle.std.proofs.Common.{◌≡◌, ◌≤◌, ◌+◌, ◌++◌, ◌∙◌, ℕ, List, [], ◌∷◌, Some, length, sym, ap, subst, arith}
use Rattle.std.specs.List.{All}
use Rattle.std.proofs.lemmas.List.{length-append}
use Rattle.std.proofs.lemmas.List.Elements.{All-pop, All-push}
use Rattle.jc_cache.specs.Caches.{CacheOwnerState, CacheState}
use Rattle.jc_cache.specs.Sessions.{MayCall}
use Rattle.jcache.specs.Teams.{HasCounted}
use Rattle.jcache.specs.declared.threads.Incrementer.{Incrementer}

-- how many are left, of a team of which the last was taken
pub are_left : {X : Type 0} (workers : ℕ) (all rest : List X) (last : X) → all ≡ rest ++ last ∷ [] → length all ≡ workers + 1 → length rest ≡ workers
are_left workers all rest last popped long =
    let short : length all ≡ length rest + 1 = ap length popped ∙ length-append rest (last ∷ []) in
    omega arith

module _ {I J P : Type 0} {D : I → Type 0} {E : J → Type 0} {F : P → Type 0} where
  -- a new worker is ready
  pub one_more : (old new : CacheOwnerState) (team team' : List (Incrementer I J P D E F)) (worker : Incrementer I J P D E F)
      → new ≡ record old { given = old.given + 1 } → MayCall new.cache worker.session → worker.session.agent.counts.own ≡ 0 → team' ≡ team ++ worker ∷ []
      → All (λ (w : Incrementer I J P D E F). HasCounted old.cache 0 w.session) team → All (λ (w : Incrementer I J P D E F). HasCounted new.cache 0 w.session) team'
  one_more old new team team' worker changed may none pushed ready =
      let cache_is : old.cache ≡ new.cache = sym (ap (λ (o : CacheOwnerState). o.cache) changed) in
      let R : CacheState → Incrementer I J P D E F → Type 0 = λ cache w. HasCounted cache 0 w.session in
      let few : worker.session.agent.counts.own ≤ 0 = omega arith in
      let others : All (R new.cache) team = subst (λ (c : CacheState). All (R c) team) cache_is ready in
      subst (All (R new.cache)) (sym pushed) (All-push (R new.cache) team worker others (record { may = may; few = few }))

  -- of ready workers, one is taken
  pub ready_less : (cache seen : CacheState) (left rest : List (Incrementer I J P D E F)) (worker : Incrementer I J P D E F) → seen ≡ cache → left ≡ rest ++ worker ∷ []
      → All (λ (w : Incrementer I J P D E F). HasCounted cache 0 w.session) left → All (λ (w : Incrementer I J P D E F). HasCounted seen 0 w.session) rest × MayCall cache worker.session
  ready_less cache seen left rest worker same popped ready =
      let both = All-pop (λ (w : Incrementer I J P D E F). HasCounted cache 0 w.session) left rest (Some worker) popped ready in
      (subst (λ (c : CacheState). All (λ (w : Incrementer I J P D E F). HasCounted c 0 w.session) rest) (sym same) both.0, (let one : HasCounted cache 0 worker.session = both.1 in one.may))
