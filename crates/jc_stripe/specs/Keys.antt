-- The keys of a stripe, as a look at it returns them.
--     AreKeys    the keys that have an entry, each once, in byte order
--     Looks      a look at the stripe appends its keys to a list
use Rattle.std.specs.Map.{keys_of}
use Rattle.std.specs.Prelude.{◌≡◌, ◌++◌, List}
use Rattle.std.specs.List.Sorted.{IsPermutation, IsSorted}
use Rattle.jc_model.specs.Cache.{Bytes, key_cmp}
use Rattle.jc_stripe.specs.State.{State}
use Rattle.jc_stripe.specs.OrderOfUse.{by_use}

pub record AreKeys (state : State) (keys : List Bytes) : Type 0 where
  pub each : IsPermutation (keys_of (by_use state.opening state.history)) keys
  pub order : IsSorted key_cmp keys

abbrev pub Looks : State → List Bytes → List Bytes → Type 0
Looks state old new = (found : List Bytes) × (new ≡ old ++ found) × AreKeys state found
