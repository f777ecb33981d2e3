-- What callers were shown, over every run of a world since its last opening: each answer is the reply of a step of the order, and
-- each step was answered once.
--     IsReplyOfStep  the event at a place of the order is a step of a call that has begun before, with this reply
--     Stands          the outcome of an event, if it is an answer, is that of its call's step
--     RepliesStand    after every list of events since the last opening, each answer that was shown is that of the step at its
--                     place
--     is_answer_at    an outcome is the answer of the step at a place
--     joiners_in, joiners_at
--                     the joiners of a stripe, and of the one with a number; none if there is no such stripe
--     times_shown     once, or not yet if the answer is still parked
--     StepsShownOnce  after every list of events since the last opening, each step of the order was shown exactly once, or its
--                     answer is parked
use Rattle.std.specs.Prelude.{◌≡◌, ◌==◌, ◌&&◌, ℕ, List, [], take, zip, count_by, slice_get, Bool, false, Option, None, Some}
use Rattle.std.specs.Prelude.{if◌then◌else◌}
use Rattle.jc_types.specs.declared.caller.Caller.{Caller}
use Rattle.jc_model.specs.declared.event.Op.{Op}
use Rattle.jc_model.specs.declared.event.Out.{Out}
use Rattle.jc_model.specs.declared.event.Reply.{Reply}
use Rattle.jc_model.specs.declared.event.Event.TheVariants.{Step}
use Rattle.jc_model.specs.Cache.{Bytes}
use Rattle.jc_model.specs.Legal.{of_stripe}
use Rattle.jc_inflight.specs.declared.joiner.Joiner.{Joiner}
use Rattle.jc_stripe.specs.State.{State}
use Rattle.jc_stripe.specs.OnePhase.{is_parked}
use Rattle.jc_world.specs.declared.command.Command.{Command}
use Rattle.jc_world.specs.declared.event.WorldEvent.{WorldEvent}
use Rattle.jc_world.specs.declared.event.WorldEvent.TheVariants as event
use Rattle.jc_world.specs.declared.event.Outcome.{Outcome}
use Rattle.jc_world.specs.declared.event.Outcome.TheVariants as outcome
use Rattle.jc_world.specs.declared.event.Shown.{Shown}
use Rattle.jc_world.specs.World.{WorldState, home}
use Rattle.jc_world.specs.Calls.{op_for, new_call}
use Rattle.jc_world.specs.Headline.{ReachesSince}

-- 1. Each answer is that of a step.

-- `shows` are the events before the answer, each with what it showed; `stripe` and `place` are those that were shown; `shared` is
-- the place of the step whose load this one shares
pub record IsReplyOfStep (w : WorldState) (shows : List (WorldEvent × Shown)) (call : ℕ)
    (key : Bytes)
    (reply : Reply) (stripe place : ℕ) (shared : Option ℕ) : Type 0 where
  pub session : ℕ
  pub command : Command
  pub op : Op
  pub at : ℕ
  pub seen : Shown
  pub begun : slice_get shows at ≡ Some (event.Call call session command, seen)
  pub begun_is : seen.outcome ≡ outcome.Begun
  pub op_is : op_for (new_call call session command) key ≡ Some op
  pub home_is : stripe ≡ home w key
  pub out : Out
  pub step : slice_get (of_stripe w.config.stripes stripe w.order) place
      ≡ Some (Step (record { session = session; call = call }) op key out shared reply)

abbrev pub Stands : WorldState → List (WorldEvent × Shown) → WorldEvent → Outcome → Type 0
Stands w shows (event.Start call key) (outcome.Stepped x) =
    IsReplyOfStep w shows call key x.reply x.stripe x.place None
Stands w shows (event.Commit call key) (outcome.Stepped x) =
    IsReplyOfStep w shows call key x.reply x.stripe x.place None
Stands w shows (event.PickUp call key) (outcome.PickedUp x) =
    IsReplyOfStep w shows call key x.reply x.stripe x.place (Some x.shared)
Stands w shows e (outcome.Stepped x) = ⊥
Stands w shows e (outcome.PickedUp x) = ⊥
Stands w shows e o = Unit {0}

abbrev pub RepliesStand : Type 0
RepliesStand =
    (opening : WorldState) (events : List WorldEvent) (seen : List Shown) (new : WorldState)
    → ReachesSince opening events seen new
    → (at : ℕ) (e : WorldEvent) (s : Shown) → slice_get (zip events seen) at ≡ Some (e, s)
    → Stands new (take at (zip events seen)) e s.outcome

-- 2. Each step was answered once.

abbrev pub is_answer_at : ℕ → ℕ → Outcome → Bool
is_answer_at stripe place (outcome.Stepped x) = (x.stripe == stripe) && (x.place == place)
is_answer_at stripe place (outcome.PickedUp x) = (x.stripe == stripe) && (x.place == place)
is_answer_at stripe place o = false

abbrev pub joiners_in : Option State → List Joiner
joiners_in None = []
joiners_in (Some stripe) = stripe.joiners

abbrev pub joiners_at : WorldState → ℕ → List Joiner
joiners_at w number = joiners_in (slice_get w.stripes number)

abbrev pub times_shown : Bool → ℕ
times_shown parked = if parked then 0 else 1

abbrev pub StepsShownOnce : Type 0
StepsShownOnce =
    (opening : WorldState) (events : List WorldEvent) (seen : List Shown) (new : WorldState)
    → ReachesSince opening events seen new
    → (stripe place : ℕ) (caller : Caller) (op : Op) (key : Bytes) (out : Out) (shared : Option ℕ)
    (reply : Reply)
    → slice_get (of_stripe opening.config.stripes stripe new.order) place
    ≡ Some (Step caller op key out shared reply)
    → count_by (λ s. is_answer_at stripe place s.outcome) seen
    ≡ times_shown (is_parked (joiners_at new stripe) caller key)
