-- The end of a world, at which each ticket and each join is spent: what is still out in its stripes. No contract of a public
-- function cites this.
--     IsLeftStripe   a stripe of a world that ends: it is reached
--     AreLeft        there is a stripe for each number
--     out_at         the stripe of a key
--     IsPartOut      the reservation of a held key is out in the stripe of its key
--     HasHeld        each held key's is, each reservation of a stripe has its key, and after a processor the writer is asked
--                    exactly if it has to be
--     IsJoinOut      a join has its joiner in the stripe of its key
--     HasJoins       each join has, and is of the call and the key by which it is found
--     NoneReserved   no key of any stripe is reserved
use Rattle.std.specs.Prelude.{◌≡◌, ℕ, List, [], length, true, Option, Some, IsSomeAnd, is_some, slice_get}
use Rattle.std.specs.List.{list_all}
use Rattle.std.specs.FinMap.{get}
use Rattle.jc_types.specs.declared.config.Config.{Config}
use Rattle.jc_types.specs.Stripes.{stripe_of}
use Rattle.jc_model.specs.Cache.{Bytes}
use Rattle.jc_outside.specs.declared.done.Origin.TheVariants.{Played}
use Rattle.jc_stripe.specs.Tickets.{JoinClaim}
use Rattle.jc_stripe.specs.State.{State, IsOut, IsJoined}
use Rattle.jc_stripe.specs.Reached.{IsReached}
use Rattle.jc_world.specs.declared.event.Part.{Part}
use Rattle.jc_world.specs.World.{Parts, JoinKey, Joins, join_key}
use Rattle.jc_world.specs.Sound.{AllDue}

pub record IsLeftStripe (config : Config) (number : ℕ) (s : State) : Type 0 where
  pub config_is : s.config ≡ config
  pub number_is : s.stripe ≡ number
  pub origin_is : s.origin ≡ Played
  pub reached : IsReached s

pub record AreLeft (config : Config) (stripes : List State) : Type 0 where
  pub count : length stripes ≡ config.stripes
  pub each : (number : ℕ) (s : State) → slice_get stripes number ≡ Some s → IsLeftStripe config number s

abbrev pub out_at : Config → List State → Bytes → Option State
out_at config stripes key = slice_get stripes (stripe_of key config.stripes)

abbrev pub IsPartOut : Config → List State → Bytes → Part → Type 0
IsPartOut config stripes key part =
    IsSomeAnd (out_at config stripes key) (λ s. (part.reservation.key ≡ key)
    × IsOut s part.reservation)

pub record HasHeld (config : Config) (stripes : List State) (parts : Parts) : Type 0 where
  pub out : (key : Bytes) (part : Part) → get parts key ≡ Some part
      → IsPartOut config stripes key part
  pub back : (number : ℕ) (s : State) → slice_get stripes number ≡ Some s
      → list_all (λ r. is_some (get parts r.key)) s.reservations ≡ true
  pub due : AllDue config parts

abbrev pub IsJoinOut : Config → List State → JoinClaim → Type 0
IsJoinOut config stripes join = IsSomeAnd (out_at config stripes join.key) (λ s. IsJoined s join)

abbrev pub HasJoins : Config → List State → Joins → Type 0
HasJoins config stripes joins =
    (at : JoinKey) (join : JoinClaim) → get joins at ≡ Some join
    → (join_key join ≡ at) × IsJoinOut config stripes join

abbrev pub NoneReserved : List State → Type 0
NoneReserved stripes =
    (number : ℕ) (s : State) → slice_get stripes number ≡ Some s → s.reservations ≡ []
