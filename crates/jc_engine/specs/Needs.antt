-- When a first phase can be made on the stripe that a take finds, when it is put off, and what it leaves.
--     BeginsIfClear   a call may begin on a live stripe in this state, once the stripe is clear for it: the session's own steps
--                     allow it
--     StartsAt        a call's first phase on a live stripe that is clear for it
--     is_alone        a first phase is made only if it asks nobody
--     is_blocked      a full generation has to end first, or a shut stripe has to evict an entry first, and has a place for that
--     can_start       a first phase can be made: the stripe is clear for it and isn't blocked, and it asks nobody if it mustn't
--     is_waited_out   a first phase was refused for a reason that other calls can end
--     puts_off        a first phase is to be tried again: it was refused for such a reason, and waits it out
--     StartsBy        a call's first phase, by what it does if it is blocked
--     Starts          a first phase that waits if it is blocked
--     IsPutOff        a stripe in this state refuses a call, which waits the refusal out
--     Hits            whether the first phase of a get on a live stripe found its entry, and the value; if it didn't, nothing was
--                     done
--     CannotHit       a get can't be a hit on this stripe: the stripe isn't clear for it, its history has no place, the key is
--                     barred, or the entry is missing
--     HasMissed       a get wasn't a hit: nothing was done
--     counted_hit     the change of the session's counts
--     IsReported      after a processor, the writer's report is there exactly if it is due
--     CommitsHere     a call that has its outside answer may be committed on a live stripe in this state, if its reservation is
--                     out there
--     is_early        a pick-up that waits is too early
--     PicksUpBy       a pick-up, which may wait, and whose reply is returned apart
--     IsTooEarly      a pick-up that waits would be too early on a stripe in this state
--     PicksUpLate     a pick-up that isn't too early
use Rattle.std.specs.Prelude.{◌≡◌, ◌⊎◌, Bool, true, false, not, ◌&&◌, ◌||◌, None, Some, length}
use Rattle.jc_types.specs.declared.caller.Caller.{Caller}
use Rattle.jc_types.specs.declared.config.Config.{Config}
use Rattle.jc_types.specs.Refusals.{is_put_off}
use Rattle.jc_types.specs.declared.refusal.Refusal.{Refusal}
use Rattle.jc_model.specs.Cache.{Bytes, entry_at}
use Rattle.jc_model.specs.declared.event.Op.{Op}
use Rattle.jc_model.specs.declared.event.Op.TheVariants.{Get}
use Rattle.jc_model.specs.declared.event.Reply.{Reply}
use Rattle.jc_outside.specs.declared.done.Origin.TheVariants.{Live}
use Rattle.jc_stripe.specs.declared.ticket.Reservation.{Reservation}
use Rattle.jc_stripe.specs.declared.begun.Picked.{Picked}
use Rattle.jc_stripe.specs.declared.begun.Picked.TheVariants as picked
use Rattle.jc_stripe.specs.Outcomes.{Begun}
use Rattle.jc_stripe.specs.Polled.{Polled}
use Rattle.jc_stripe.specs.Outcomes as begun
use Rattle.jc_stripe.specs.Effects.{HasReport, change_due}
use Rattle.jc_stripe.specs.State.{State}
use Rattle.jc_stripe.specs.Tickets.{TicketClaim, JoinClaim}
use Rattle.jc_stripe.specs.Renewal.{all_own_steps, is_renewable}
use Rattle.jc_stripe.specs.OwnSteps.{may_come_all}
use Rattle.jc_stripe.specs.Polled as polled
use Rattle.jc_stripe.specs.Refusals.{first_refusal, may_hit}
use Rattle.jc_stripe.specs.Invalidating.{has_place}
use Rattle.jc_stripe.specs.Tests.{asks_outside, is_clear}
use Rattle.jc_stripe.specs.Phases.{MayBegin, Begins, PicksUp, hit_done, polled_with}
use Rattle.jc_session.specs.declared.counts.Counted.{Counted}
use Rattle.jc_session.specs.declared.counts.Counted.TheVariants.{Nothing, Step}
use Rattle.jc_engine.specs.declared.first.How.{How}
use Rattle.jc_engine.specs.declared.first.How.TheVariants.{Waits, Now, Alone}
use Rattle.jc_engine.specs.Answered.{CallAnswer, Loaded, Written, Processed, IsAnswered}

-- 1. First phases.

pub record BeginsIfClear (caller : Caller) (key : Bytes) (state : State) : Type 0 where
  pub live : state.origin ≡ Live
  pub may : may_come_all (all_own_steps caller.session state) caller key ≡ true

pub record StartsAt (caller : Caller) (key : Bytes) (op : Op) (begun : Begun) (before after : State) : Type 0 where
  pub live : before.origin ≡ Live
  pub may : MayBegin before caller key
  pub begins : Begins before caller key op begun after

abbrev pub is_alone : How → Bool
is_alone Waits = false
is_alone Now = false
is_alone Alone = true

abbrev pub is_blocked : State → Bool
is_blocked state = is_renewable state || (state.shut && has_place state)

abbrev pub can_start : How → State → Caller → Bytes → Op → Bool
can_start how state caller key op =
    is_clear state caller key && not (is_blocked state) && not (is_alone how && asks_outside state key op)

abbrev pub is_waited_out : Begun → Bool
is_waited_out (begun.Refused refusal) = is_put_off refusal
is_waited_out (begun.Done done) = false
is_waited_out (begun.Asks ticket) = false
is_waited_out (begun.Joined join) = false

abbrev pub puts_off : How → Begun → Bool
puts_off Waits begun = is_waited_out begun
puts_off Now begun = false
puts_off Alone begun = false

pub record StartsBy (how : How) (caller : Caller) (key : Bytes) (op : Op) (begun : Begun) (before after : State) : Type 0 where
  pub first : StartsAt caller key op begun before after
  pub last : puts_off how begun ≡ false
  pub alone : is_alone how ≡ true → asks_outside before key op ≡ false

abbrev pub Starts : Caller → Bytes → Op → Begun → State → State → Type 0
Starts = StartsBy Waits

pub record IsPutOff (how : How) (caller : Caller) (key : Bytes) (op : Op) (state : State) : Type 0 where
  pub refusal : Refusal
  pub refused : first_refusal state caller key op ≡ Some refusal
  pub put_off : puts_off how (begun.Refused refusal) ≡ true

abbrev pub CannotHit : Caller → Bytes → State → Type 0
CannotHit caller key state =
    (is_clear state caller key ≡ false) ⊎ ((may_hit state caller.call key ≡ false) ⊎ (entry_at state.cache key ≡ None))

pub record HasMissed (caller : Caller) (key : Bytes) (before after : State) : Type 0 where
  pub same : after ≡ before
  pub why : CannotHit caller key before

abbrev pub Hits : Caller → Bytes → Bool → Bytes → State → State → Type 0
Hits caller key false value before after = HasMissed caller key before after
Hits caller key true value before after = Starts caller key Get (begun.Done (hit_done (length before.history) value)) before after

abbrev pub counted_hit : Bool → Counted
counted_hit false = Nothing
counted_hit true = Step

-- 2. Commits.

abbrev pub IsReported : Config → Reservation → CallAnswer → Type 0
IsReported config r (Loaded done) = Unit {0}
IsReported config r (Written done) = Unit {0}
IsReported config r (Processed done report) = HasReport Live r (change_due config done) report

pub record CommitsHere (ticket : TicketClaim) (answered : CallAnswer) (state : State) : Type 0 where
  pub live : state.origin ≡ Live
  pub is_answered : IsAnswered ticket answered
  pub reported : IsReported state.config ticket.reservation answered

-- 3. Pick-ups.

abbrev pub is_early : Bool → Picked → Bool
is_early waits (picked.Answer place shared_with) = false
is_early waits picked.Again = false
is_early waits (picked.NotYet back) = waits

pub record PicksUpBy (waits : Bool) (old : State) (join : JoinClaim) (picked : Picked) (reply : Reply) (new : State) : Type 0 where
  pub picks : PicksUp old join (polled_with picked reply) new
  pub last : is_early waits picked ≡ false

pub record IsTooEarly (waits : Bool) (join : JoinClaim) (state : State) : Type 0 where
  pub waits_is : waits ≡ true
  pub not_yet : PicksUp state join (polled.NotYet join) state

abbrev pub PicksUpLate : State → JoinClaim → Polled → State → Type 0
PicksUpLate old join (polled.Answer reply place shared_with) new = PicksUp old join (polled.Answer reply place shared_with) new
PicksUpLate old join polled.Again new = PicksUp old join polled.Again new
PicksUpLate old join (polled.NotYet back) new = ⊥
