-- The effect of a call on its session's view of the key's stripe. The view's front is what the session has seen of the stripe's
-- whole history, all generations in a row: a prefix of it, for ever. Its own steps are the session's steps there, in all
-- generations, without those whose answer it has not picked up.
--     IsSameSeat     the same session's seat at the same stripe, which has not taken it; the next reservation's number hasn't
--                    fallen, and the ended generations begin with those that had ended
--     HasAllSeen     the noted state is reached, and the front is its whole history: so each generation in it is legal from its
--                    opening, which is what the one before it left, and the last one leads to what is cached
--     HasSeen        the front may be longer; the own steps are the former ones
--     HasMade        the front is the whole history of the noted state, and begins with the former one; this step comes after
--                    that, in the present generation, and is one own step more
--     IsAskedFor     what a call has asked outside for its step: nothing if it shares another call's load
--     MakesStep      the call's step: its caller, operation and key, and this reply
--     SeatAfter      a whole call: its step was made; or it was refused with `HistoryFull`, as the noted state refuses it, and
--                    the front is that state's whole history
--     IsBusyAt       a call that never waits couldn't be made on what was found without waiting or asking; the stripe was given
--                    back as it was, but made way: with its generation ended, exactly if that was full and might end; or swept,
--                    if it was shut
--     WasBusy        such a call couldn't be made at any of its tries, and how often somebody else had the stripe
--     TriesTo        its first phase, at the first try, or at the second if a generation stood in the way of the first
--     SeatTried      such a call: its step was made; it was refused as `Busy`; or it was refused as the noted state refuses it,
--                    though it need ask nobody
--     IsBetween      a state in which a call found the stripe: between the former front and the present one
--     IsMadeIn       the call's step, if it was made, was made in this state
use Rattle.std.specs.Prelude.{◌≡◌, ◌≤◌, ◌⊎◌, ◌+◌, ℕ, List, ◌++◌, false, length, Option, None, Some, Result, Ok, Err, slice_get}
use mathlib.Core.List.{IsPrefix}
use Rattle.jc_types.specs.declared.caller.Caller.{Caller}
use Rattle.jc_types.specs.declared.refusal.Refusal.{Refusal}
use Rattle.jc_types.specs.declared.refusal.Refusal.TheVariants.{Busy, HistoryFull}
use Rattle.jc_model.specs.Cache.{Bytes}
use Rattle.jc_model.specs.Group.{nothing_said}
use Rattle.jc_model.specs.declared.event.Event.{Event}
use Rattle.jc_model.specs.declared.event.Event.TheVariants.{Step}
use Rattle.jc_model.specs.declared.event.Op.{Op}
use Rattle.jc_model.specs.declared.event.Out.{Out}
use Rattle.jc_model.specs.declared.event.Reply.{Reply}
use Rattle.jc_stripe.specs.State.{State}
use Rattle.jc_stripe.specs.Generations.{past_events, whole_history, IsOfSameStripe}
use Rattle.jc_stripe.specs.Reached.{IsReached}
use Rattle.jc_stripe.specs.Refusals.{first_refusal}
use Rattle.jc_stripe.specs.Outcomes.{Begun, StepDone}
use Rattle.jc_stripe.specs.Outcomes as begun
use Rattle.jc_stripe.specs.Tests.{asks_outside}
use Rattle.jc_stripe.specs.OwnSteps.{HasOneMore}
use Rattle.jc_lock.specs.declared.view.View.{View}
use Rattle.jc_engine.specs.Rows.{AllLend, IsTurn}
use Rattle.jc_engine.specs.Doors.{AreTries, IsAgain, MakesWay}
use Rattle.jc_engine.specs.Needs.{can_start}
use Rattle.jc_engine.specs.Turns.{trying}
use Rattle.jc_engine.specs.declared.first.How.TheVariants.{Alone}
use Rattle.jc_engine.specs.MadeIn.{IsNext}
use Rattle.jc_cache.specs.Turns.{HasLent}

-- 1. One seat.

pub record IsSameSeat (before after : View) : Type 0 where
  pub session : after.session ≡ before.session
  pub next_session : after.next_session ≡ before.next_session
  pub spent : after.spent ≡ before.spent
  pub free : after.holds ≡ false
  pub same : IsOfSameStripe before.noted after.noted
  pub next : before.noted.next ≤ after.noted.next
  pub ended : IsPrefix before.noted.ended after.noted.ended

pub record HasSeen (before after : View) : Type 0 where
  pub seat : IsSameSeat before after
  pub front : IsPrefix before.front after.front
  pub own : after.own ≡ before.own

pub record HasAllSeen (view : View) : Type 0 where
  pub reached : IsReached view.noted
  pub front : view.front ≡ whole_history view.noted

-- `place` is the place of the step in the whole history
pub record HasMade (before after : View) (event : Event) (place : ℕ) : Type 0 where
  pub seat : IsSameSeat before after
  pub all : HasAllSeen after
  pub front : IsPrefix before.front after.front
  pub behind : length before.front ≤ place
  pub present : length (past_events after.noted.ended) ≤ place
  pub there : slice_get after.front place ≡ Some event
  pub own : HasOneMore event before.own after.own

-- 2. A whole call.

abbrev pub IsAskedFor : Option ℕ → Out → Out → Type 0
IsAskedFor None out asked = asked ≡ out
IsAskedFor (Some shared_with) out asked = asked ≡ nothing_said

pub record MakesStep (before : View) (caller : Caller) (key : Bytes) (op : Op) (asked : Out) (reply : Reply)
    (after : View) : Type 0 where
  pub out : Out
  pub shared_with : Option ℕ
  pub place : ℕ
  pub asked_for : IsAskedFor shared_with out asked
  pub made : HasMade before after (Step caller op key out shared_with reply) place

abbrev pub SeatAfter : View → Caller → Bytes → Op → Out → Result Reply Refusal → View → Type 0
SeatAfter before caller key op asked (Ok reply) after = MakesStep before caller key op asked reply after
SeatAfter before caller key op asked (Err refusal) after =
    HasSeen before after × (asked ≡ nothing_said) × (refusal ≡ HistoryFull)
    × (first_refusal after.noted caller key op ≡ Some refusal) × HasAllSeen after

abbrev pub IsBusyAt : Caller → Bytes → Op → State → State → Type 0
IsBusyAt caller key op found left = (can_start Alone found caller key op ≡ false) × MakesWay found left

pub record WasBusy (before : View) (caller : Caller) (key : Bytes) (op : Op) (after : View) : Type 0 where
  pub row : List (State × State)
  pub missed : ℕ
  pub lendings : after.lendings ≡ before.lendings ++ row
  pub misses : after.misses ≡ before.misses + missed
  pub each : AllLend (IsBusyAt caller key op) row
  pub tries : AreTries row missed

pub record TriesTo (before : View) (caller : Caller) (key : Bytes) (op : Op) (begun : Begun) (after : View) : Type 0 where
  pub row : List (State × State)
  pub lent : HasLent before row after
  pub turn : IsTurn (trying caller key op begun) row
  pub again : IsAgain turn.waits

abbrev pub SeatTried : View → Caller → Bytes → Op → Result Reply Refusal → View → Type 0
SeatTried before caller key op (Ok reply) after =
    MakesStep before caller key op nothing_said reply after
    × ((done : StepDone) × (done.reply ≡ reply) × TriesTo before caller key op (begun.Done done) after)
SeatTried before caller key op (Err refusal) after =
    HasSeen before after
    × (((refusal ≡ Busy) × WasBusy before caller key op after)
    ⊎ ((first_refusal after.noted caller key op ≡ Some refusal) × (asks_outside after.noted key op ≡ false) × HasAllSeen after
    × TriesTo before caller key op (begun.Refused refusal) after))

pub record IsBetween (before : View) (state : State) (after : View) : Type 0 where
  pub reached : IsReached state
  pub same : IsOfSameStripe before.noted state
  pub front : IsPrefix before.front (whole_history state)
  pub later : IsPrefix (whole_history state) after.front

-- 3. The state in which a call's step was made.

abbrev pub IsMadeIn : (before : View) (caller : Caller) (key : Bytes) (op : Op) (asked : Out) (ended : Result Reply Refusal)
    (after : View) → SeatAfter before caller key op asked ended after → State → Type 0
IsMadeIn before caller key op asked (Ok reply) after seat state = IsNext state key seat.place after.front
IsMadeIn before caller key op asked (Err refusal) after seat state = Unit {0}
