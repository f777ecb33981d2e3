use Rattle.jc_explore.proofs.Common.{[], ◌∷◌, map, refl, OnEnd, OnStates, calls_of}
use Rattle.jc_explore.proofs.Telling.{tells-then}
use Rattle.jc_explore.proofs.search.explore.Goals as goal

pub returns-in-Ok-explored-clause-told : goal.returns-in-Ok-explored-clause-told
returns-in-Ok-explored-clause-told g c =
    let t = c.in-Ok-explored.ensures.told in
    (calls_of t.0, tells-then _ _ _ (map OnStates t.0) (OnEnd ∷ []) t.1 c.on_end.ensures, (t.0, refl, t.2))

pub returns-in-Err-explored-clause-told : goal.returns-in-Err-explored-clause-told
returns-in-Err-explored-clause-told g c =
    let t = c.in-Err-explored.ensures.told in
    (calls_of t.0, tells-then _ _ _ (map OnStates t.0) (OnEnd ∷ []) t.1 c.on_end.ensures, (t.0, refl, t.2))
