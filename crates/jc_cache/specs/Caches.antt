-- The models of a cache and of its owner.
--     CacheState        a cache: its shape, and the locks of its stripes, by their numbers
--     noted_by          the states of the stripes that these seats have noted
--     fronts_of         what these seats have seen of the histories
--     Log, log_of       the lendings of a seat, and the number of its tries that found the stripe held
--     logs_of           the logs of these seats
--     CacheOwnerState   the owner of a cache: the cache, the number of sessions given out, and for each stripe what the owner's
--                       own seat has noted, what it has seen of the history, and its log
--     stripes_opening   the stripes of a cache of this shape that opens with these entries, and lives on or doesn't
--     OpensWith         a cache that has just been opened: no session was given out, each stripe has its part of the entries, and
--                       nothing has happened in it
--     session_refusal   the refusal of a session with or without a loader and a writer: too many, no loader, no writer
use Rattle.std.specs.Prelude.{◌≡◌, ◌&&◌, ℕ, List, [], map, length, replicate, Bool, true, false, not, Option, None, Some, nat_le}
use Rattle.std.specs.Prelude.{if◌then◌else◌}
use Rattle.atomic_table.specs.Seated.{TableId}
use Rattle.jc_types.specs.declared.config.Config.{Config}
use Rattle.jc_types.specs.declared.limits.TheConstants.{SESSIONS_MAX}
use Rattle.jc_types.specs.declared.refusal.Refusal.{Refusal}
use Rattle.jc_types.specs.declared.refusal.Refusal.TheVariants.{TooManySessions, NoLoader, NoWriter}
use Rattle.jc_model.specs.Cache.{Bytes}
use Rattle.jc_model.specs.declared.event.Event.{Event}
use Rattle.jc_outside.specs.declared.done.Origin.TheVariants.{Live}
use Rattle.jc_stripe.specs.State.{State}
use Rattle.jc_stripe.specs.Renewal.{live_on}
use Rattle.jc_stripe.specs.Reopening.{opened_stripes}
use Rattle.jc_lock.specs.declared.view.View.{View}

pub record CacheState : Type 0 where
  pub config : Config
  pub locks : List TableId

-- 1. Who owns a cache.

abbrev pub noted_by : List (TableId × View) → List State
noted_by seats = map (λ (seat : TableId × View). seat.1.noted) seats

abbrev pub fronts_of : List (TableId × View) → List (List Event)
fronts_of seats = map (λ (seat : TableId × View). seat.1.front) seats

pub record Log : Type 0 where
  pub lendings : List (State × State)
  pub misses : ℕ

abbrev pub log_of : View → Log
log_of view = record { lendings = view.lendings; misses = view.misses }

abbrev pub logs_of : List (TableId × View) → List Log
logs_of seats = map (λ (seat : TableId × View). log_of seat.1) seats

pub record CacheOwnerState : Type 0 where
  pub cache : CacheState
  pub given : ℕ
  pub noted : List State  -- stripe by stripe, as its own seat found it last, or as the stripe was opened
  pub fronts : List (List Event)
  pub logs : List Log

abbrev pub stripes_opening : Bool → Config → List (Bytes × Bytes) → List State
stripes_opening false config entries = opened_stripes config Live entries 0 config.stripes
stripes_opening true config entries = map live_on (opened_stripes config Live entries 0 config.stripes)

pub record OpensWith (lives : Bool) (config : Config) (entries : List (Bytes × Bytes)) (owner : CacheOwnerState) : Type 0 where
  pub config_is : owner.cache.config ≡ config
  pub locks : length owner.cache.locks ≡ config.stripes
  pub given : owner.given ≡ 0
  pub noted : owner.noted ≡ stripes_opening lives config entries
  pub fronts : owner.fronts ≡ replicate config.stripes []

-- 2. Sessions that are refused.

abbrev pub session_refusal : CacheOwnerState → Bool → Bool → Option Refusal
session_refusal owner has_loader has_writer =
    if nat_le SESSIONS_MAX owner.given then Some TooManySessions
    else (if owner.cache.config.read_through && not has_loader then Some NoLoader
    else (if owner.cache.config.write_through && not has_writer then Some NoWriter else None))
