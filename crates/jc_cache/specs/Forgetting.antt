-- Invalidations by a session.
--     IsForgetting       the lendings of an invalidation: full generations that may end have ended first, each in a lending of its
--                        own; the last lending found one state, which is reached, and left the other
--     HasForgotten       a seat has invalidated a key, which is forgotten in the state that it left: by the law `Forgets` no call
--                        that begins later is answered from what was cached or reserved of the key before
--     HasSwept           a seat has swept its stripe, until calls may begin again, or no place is free and no generation may end
--     HasForgottenAll    a seat has invalidated all keys of its stripe, each of which is forgotten in the state that it left; then
--                        it has swept the stripe
--     HasInvalidated     a session has invalidated a key; its other seats and the rest of it are unchanged
--     HasForgottenEach   each of these seats has invalidated all keys of its stripe
--     HasInvalidatedAll  a session has invalidated all keys of each stripe; the rest of it is unchanged
use Rattle.std.specs.Prelude.{◌≡◌, ◌⊎◌, ℕ, List, [], ◌∷◌, ◌++◌, true, false, Some, slice_get, slice_set}
use Rattle.atomic_table.specs.Seated.{TableId}
use Rattle.jc_types.specs.Stripes.{stripe_of}
use Rattle.jc_model.specs.Cache.{Bytes}
use Rattle.jc_stripe.specs.State.{State}
use Rattle.jc_stripe.specs.Reached.{IsReached}
use Rattle.jc_stripe.specs.Renewal.{Renews}
use Rattle.jc_stripe.specs.Invalidating.{Invalidates, InvalidatesAll, Sweeps, is_forgotten}
use Rattle.jc_lock.specs.declared.view.View.{View}
use Rattle.jc_session.specs.declared.session.Session.{Session}
use Rattle.jc_engine.specs.Rows.{AllLend}
use Rattle.jc_engine.specs.Forgetting.{may_go_on}
use Rattle.jc_cache.specs.Caches.{CacheState}
use Rattle.jc_cache.specs.Fronts.{HasAllSeen, HasSeen}
use Rattle.jc_cache.specs.Turns.{HasLent}

-- 1. One seat.

pub record IsForgetting (row : List (State × State)) (forgets : State → State → Type 0) (found left : State) : Type 0 where
  pub renewals : List (State × State)
  pub row_is : row ≡ renewals ++ (found, left) ∷ []
  pub renewed : AllLend Renews renewals
  pub reached : IsReached found
  pub made : forgets found left

pub record HasForgotten (key : Bytes) (before after : View) : Type 0 where
  pub row : List (State × State)
  pub lent : HasLent before row after
  pub found : State
  pub did : IsForgetting row (λ a b. Invalidates a key b) found after.noted
  pub forgotten : is_forgotten after.noted key ≡ true
  pub on : HasSeen before after
  pub all : HasAllSeen after

pub record HasSwept (before after : View) : Type 0 where
  pub sweeps : List (State × State)
  pub lent : HasLent before sweeps after
  pub swept : AllLend (λ a b. Renews a b ⊎ Sweeps a b) sweeps
  pub last : may_go_on after.noted ≡ false
  pub on : HasSeen before after
  pub all : HasAllSeen after

pub record HasForgottenAll (before after : View) : Type 0 where
  pub row : List (State × State)
  pub sweeps : List (State × State)
  pub lent : HasLent before (row ++ sweeps) after
  pub found : State
  pub left : State
  pub did : IsForgetting row InvalidatesAll found left
  pub forgotten : (key : Bytes) → is_forgotten left key ≡ true
  pub swept : AllLend (λ a b. Renews a b ⊎ Sweeps a b) sweeps
  pub last : may_go_on after.noted ≡ false
  pub on : HasSeen before after
  pub all : HasAllSeen after

-- 2. A session.

pub record HasInvalidated {I J : Type 0} {D : I → Type 0} {E : J → Type 0} (cache : CacheState) (old : Session I J D E)
    (key : Bytes) (new : Session I J D E) : Type 0 where
  pub lock : TableId
  pub before : View
  pub after : View
  pub was : slice_get old.seats.items (stripe_of key cache.config.stripes) ≡ Some (lock, before)
  pub now : new.seats.items ≡ slice_set old.seats.items (stripe_of key cache.config.stripes) (lock, after)
  pub did : HasForgotten key before after
  pub stays : new.agent ≡ old.agent

abbrev pub HasForgottenEach : List (TableId × View) → List (TableId × View) → Type 0
HasForgottenEach before after =
    (i : ℕ) (a b : TableId × View) → slice_get before i ≡ Some a → slice_get after i ≡ Some b → HasForgottenAll a.1 b.1

pub record HasInvalidatedAll {I J : Type 0} {D : I → Type 0} {E : J → Type 0} (old new : Session I J D E) : Type 0 where
  pub each : HasForgottenEach old.seats.items new.seats.items
  pub stays : new.agent ≡ old.agent
