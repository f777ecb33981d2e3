use Rattle.std.proofs.Common.{◌≡◌, List, Result, Ok, Err, IfOk}
use Rattle.std.specs.FinMap as map
use Rattle.std.specs.Global.{Vec}
use Rattle.jc_model.specs.Cache.{Bytes, Cache}
use Rattle.jc_store.specs.Shared.{AreOfAStore}
use Rattle.jc_store.proofs.shared.SharedStore.entries.Goals as goal

of_store : {E : Type 0} (store : Cache) (r : Result (Vec (Bytes × Bytes)) E) → IfOk r (λ entries. entries.items ≡ map.entries store) → IfOk r (λ entries. AreOfAStore entries.items)
of_store store (Ok entries) is = (store, is)
of_store store (Err failed) is = is

-- the store that was locked
pub returns : goal.returns
returns g c = of_store _ c.entries.result c.entries.ensures
