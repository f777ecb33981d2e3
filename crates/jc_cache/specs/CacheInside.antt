-- The invariants of a cache and of its owner.
--     IsShaped     a cache has as many locks as its shape says
--     IsOwnSeat    the view of the owner's seat at the stripe with this number, which gives out session numbers from `given` on
--     GiveNumbers  each of these seats gives out session numbers
--     IsWhole      there are as many locks as the shape says, each with a seat of the owner's; at most as many sessions were
--                  given out as there may be
use Rattle.std.specs.Prelude.{◌≡◌, ◌≤◌, ℕ, List, length, map, false, None, Some, Ok, slice_get}
use Rattle.atomic_table.specs.Seated.{TableId}
use Rattle.jc_types.specs.declared.config.Config.{Config}
use Rattle.jc_types.specs.declared.limits.TheConstants.{SESSIONS_MAX}
use Rattle.jc_types.specs.Limits.{check}
use Rattle.jc_outside.specs.declared.done.Origin.TheVariants.{Live}
use Rattle.jc_lock.specs.declared.view.View.{View}

pub record IsShaped (config : Config) (locks : List TableId) : Type 0 where
  pub fits : check config ≡ Ok tt
  pub count : length locks ≡ config.stripes

pub record IsOwnSeat (config : Config) (stripe given : ℕ) (view : View) : Type 0 where
  pub of_none : view.session ≡ None
  pub gives : view.next_session ≡ Some given
  pub free : view.holds ≡ false
  pub unspent : view.spent ≡ false
  pub config_is : view.noted.config ≡ config
  pub stripe_is : view.noted.stripe ≡ stripe
  pub origin_is : view.noted.origin ≡ Live

abbrev pub GiveNumbers : List (TableId × View) → Type 0
GiveNumbers seats =
    (i : ℕ) (seat : TableId × View) → slice_get seats i ≡ Some seat → (session : ℕ) × (seat.1.next_session ≡ Some session)

pub record IsWhole (config : Config) (given : ℕ) (locks : List TableId) (seats : List (TableId × View)) : Type 0 where
  pub fits : check config ≡ Ok tt
  pub few : given ≤ SESSIONS_MAX
  pub count : length locks ≡ config.stripes
  pub own : map (λ (seat : TableId × View). seat.0) seats ≡ locks
  pub each : (i : ℕ) (seat : TableId × View) → slice_get seats i ≡ Some seat → IsOwnSeat config i given seat.1
