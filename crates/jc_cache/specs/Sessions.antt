-- The sessions of a cache.
--     IsSeatAt        a view of a session's seat at the stripe with this number of a cache of this shape, which has not taken the
--                     stripe
--     own_total       the number of own steps in the views of these seats, together
--     IsOf            a session is one of this cache's: its seats are at this cache's locks and of this session alone, its hands
--                     hold nothing, it has the loader and the writer that the cache's shape asks for, and it counts its own steps
--     IsCaller        a session is one of this cache's, and has the number of this caller
--     GoesOn          a session is still one of this cache's, after this change
--     HoldsNothing    a session's hands hold nothing, and none of its seats has taken its stripe
--     HasAsked        a session has asked outside, and the rest of it is unchanged: it is of the same cache
--     BeginsAt        a session's seats have noted and seen what those of the cache's owner have, with no lending and no miss: a
--                     new session begins like this
--     MayCall         a session of this cache may begin its next call: it has no reservation and no join out, and its own steps
--                     are all of calls before that one
--     IsGivenOut      a session that its owner has just given out, with this loader and this writer: it has made no step, and may
--                     call
--     IsNotGivenOut   why no session was given out; the owner is unchanged, and the loader and the writer come back
--     Completes       a call has this outcome, and its session may begin its next call
use Rattle.std.specs.Prelude.{◌≡◌, ◌⊎◌, ◌+◌, is_some, None, ℕ, List, [], ◌∷◌, length, map, true, false, Some, IsSome, slice_get}
use Rattle.std.specs.List.{list_all}
use Rattle.atomic_table.specs.Seated.{TableId}
use Rattle.jc_types.specs.declared.caller.Caller.{Caller}
use Rattle.jc_types.specs.declared.config.Config.{Config}
use Rattle.jc_types.specs.declared.refusal.Refusal.TheVariants.{OutOfMemory}
use Rattle.jc_model.specs.Statistics.{capped}
use Rattle.jc_outside.specs.declared.done.Origin.TheVariants.{Live}
use Rattle.jc_outside.specs.declared.hands.Outside.{Outside}
use Rattle.jc_stripe.specs.OwnSteps.{is_before_call}
use Rattle.jc_lock.specs.declared.view.View.{View}
use Rattle.jc_session.specs.Counting.{one_more}
use Rattle.jc_session.specs.declared.fault.SessionFault.{SessionFault}
use Rattle.jc_session.specs.declared.session.Session.{Session}
use Rattle.jc_cache.specs.Caches.{CacheState, CacheOwnerState, noted_by, fronts_of, session_refusal}

pub record IsSeatAt (config : Config) (stripe session : ℕ) (view : View) : Type 0 where
  pub of_session : view.session ≡ Some session
  pub free : view.holds ≡ false
  pub unspent : view.spent ≡ false
  pub config_is : view.noted.config ≡ config
  pub stripe_is : view.noted.stripe ≡ stripe
  pub origin_is : view.noted.origin ≡ Live

abbrev pub own_total : List (TableId × View) → ℕ
own_total [] = 0
own_total (seat ∷ seats) = length seat.1.own + own_total seats

pub record IsOf {I J : Type 0} {D : I → Type 0} {E : J → Type 0} (cache : CacheState) (session : Session I J D E) : Type 0 where
  pub locks : map (λ (seat : TableId × View). seat.0) session.seats.items ≡ cache.locks
  pub count : length cache.locks ≡ cache.config.stripes
  pub seats : (i : ℕ) (seat : TableId × View) → slice_get session.seats.items i ≡ Some seat
      → IsSeatAt cache.config i session.agent.caller.session seat.1
  pub held : session.agent.hands.held ≡ 0
  pub loads : cache.config.read_through ≡ true → IsSome session.agent.hands.outside.loader
  pub writes : cache.config.write_through ≡ true → IsSome session.agent.hands.outside.writer
  pub own : session.agent.counts.own ≡ capped (own_total session.seats.items)

pub record IsCaller {I J : Type 0} {D : I → Type 0} {E : J → Type 0} (cache : CacheState) (session : Session I J D E)
    (who : Caller) : Type 0 where
  pub own : IsOf cache session
  pub caller : who.session ≡ session.agent.caller.session

pub record GoesOn {I J : Type 0} {D : I → Type 0} {E : J → Type 0} (cache : CacheState) (session : Session I J D E)
    (Made : Type 0) : Type 0 where
  pub own : IsOf cache session
  pub phase : Made

pub record HoldsNothing {I J : Type 0} {D : I → Type 0} {E : J → Type 0} (session : Session I J D E) : Type 0 where
  pub held : session.agent.hands.held ≡ 0
  pub seats : (i : ℕ) (seat : TableId × View) → slice_get session.seats.items i ≡ Some seat → seat.1.holds ≡ false

pub record HasAsked {I J : Type 0} {D : I → Type 0} {E : J → Type 0} (old new : Session I J D E) (Asked : Type 0) : Type 0 where
  pub asked : Asked
  pub rest : new ≡ record old { agent = record old.agent { hands = new.agent.hands } }
  pub own : (cache : CacheState) → IsOf cache old → IsOf cache new

pub record BeginsAt {I J : Type 0} {D : I → Type 0} {E : J → Type 0} (owner : CacheOwnerState)
    (session : Session I J D E) : Type 0 where
  pub noted : noted_by session.seats.items ≡ owner.noted
  pub fronts : fronts_of session.seats.items ≡ owner.fronts
  pub none_lent : (i : ℕ) (seat : TableId × View) → slice_get session.seats.items i ≡ Some seat
      → (seat.1.lendings ≡ []) × (seat.1.misses ≡ 0)

pub record MayCall {I J : Type 0} {D : I → Type 0} {E : J → Type 0} (cache : CacheState) (session : Session I J D E) : Type 0 where
  pub own : IsOf cache session
  pub reservations : session.agent.counts.reservations ≡ 0
  pub joins : session.agent.counts.joins ≡ 0
  pub numbers : (i : ℕ) (seat : TableId × View) → slice_get session.seats.items i ≡ Some seat
      → list_all (is_before_call session.agent.caller.session (one_more session.agent.caller.call)) seat.1.own ≡ true

pub record IsGivenOut {I J : Type 0} {D : I → Type 0} {E : J → Type 0} (from left : CacheOwnerState) (outside : Outside I J D E)
    (session : Session I J D E) : Type 0 where
  pub fits : session_refusal from (is_some outside.loader) (is_some outside.writer) ≡ None
  pub owner : left ≡ record from { given = from.given + 1 }
  pub caller : session.agent.caller ≡ record { session = from.given; call = 0 }
  pub boxes : session.agent.hands.outside ≡ outside
  pub may : MayCall left.cache session
  pub none : session.agent.counts.own ≡ 0
  pub begins : BeginsAt from session

pub record IsNotGivenOut {I J : Type 0} {D : I → Type 0} {E : J → Type 0} (from left : CacheOwnerState) (outside : Outside I J D E)
    (fault : SessionFault I J D E) : Type 0 where
  pub why : (session_refusal from (is_some outside.loader) (is_some outside.writer) ≡ Some fault.refusal)
      ⊎ ((session_refusal from (is_some outside.loader) (is_some outside.writer) ≡ None) × (fault.refusal ≡ OutOfMemory))
  pub same : left ≡ from
  pub back : (fault.loader ≡ outside.loader) × (fault.writer ≡ outside.writer)

pub record Completes {I J : Type 0} {D : I → Type 0} {E : J → Type 0} (cache : CacheState) (session : Session I J D E)
    (Ended : Type 0) : Type 0 where
  pub may : MayCall cache session
  pub call : Ended
