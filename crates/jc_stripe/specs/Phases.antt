-- A stripe as a machine of phases: the outcome of a first phase, and the effects of the others.
--     is_other_call    a reservation is another session's, or the same call's at another key
--     is_other_join    the same for a joiner, also for one that has not picked up its answer
--     MayBegin         the conditions on a first phase that the callers' order rests on
--     inserts_here     the step inserts: its key is missing before it and there after it
--     overflows        it inserts into a full stripe
--     victim           the entry that is evicted before the step, if one must be and can be
--     own_cause        the cause for which the step's own key is evicted after it, if it is
--     new_group        the group that a step makes here, from the order of use and the reservations
--     after_group      the stripe after a group: its cache, and its history with the group's events
--     own_eviction     the eviction of the step's own key, at the last place of its group, if it is evicted
--     Steps            the stripe appends the group of one step
--     with_joiner      the stripe with one more joiner, which waits for a load
--     hit_done         the step of a get that found this value, at this place: nobody is evicted
--     with_reply       a step whose reply was written apart
--     begun_with       the outcome of a first phase whose reply was written apart
--     Begins           the first phase
--     after_commit     the stripe with a reservation over, and the answer parked for each that waits for its load
--     Commits          the last phase: the reservation ends, its step is appended, and with it those of its joiners
--     after_withdrawal the stripe with a reservation over, and each that waits for its load told to retry
--     Withdraws        the reservation is given back, and its joiners are told to retry
--     without_joiner   the stripe without a join that is over
--     IsSharedStep     the event at a place is the join's own step, with this reply, and names the step that loaded
--     told_to          the state of a join: it waits, was answered, or is told to retry
--     polled_with      the outcome of a pick-up whose reply was written apart
--     PicksUp          a joiner asks for its answer
use Rattle.std.specs.Prelude.{◌≡◌, ◌==◌, ◌-◌, ◌+◌, ℕ, List, [], ◌++◌, length, Bool, true, false, not, ◌&&◌, ◌||◌, IsTrue, Option}
use Rattle.std.specs.Prelude.{None, Some, is_some, is_none, slice_get, option_map, if◌then◌else◌}
use Rattle.std.specs.List.{list_all}
use Rattle.std.specs.Cmp.Lexicographic.{pointwise}
use Rattle.std.specs.FinMap.{len}
use Rattle.jc_types.specs.declared.caller.Caller.{Caller}
use Rattle.jc_model.specs.declared.event.Op.{Op}
use Rattle.jc_model.specs.declared.event.Op.TheVariants.{Get}
use Rattle.jc_model.specs.declared.event.Out.{Out}
use Rattle.jc_model.specs.declared.event.Reply.{Reply}
use Rattle.jc_model.specs.declared.event.Reply.TheVariants as reply
use Rattle.jc_model.specs.declared.event.Cause.{Cause}
use Rattle.jc_model.specs.declared.event.Cause.TheVariants.{Full, Memory}
use Rattle.jc_model.specs.declared.event.Event.TheVariants.{Step}
use Rattle.jc_model.specs.Cache.{Bytes, entry_at}
use Rattle.jc_model.specs.Table.{entry_after, reply_after}
use Rattle.jc_model.specs.Group.{Group, events_of, step_place, cache_after_group, nothing_said}
use Rattle.jc_model.specs.Lawful.{IsLawful}
use Rattle.jc_model.specs.Legal.{may_come}
use Rattle.jc_inflight.specs.declared.joiner.Joiner.{Joiner}
use Rattle.jc_inflight.specs.declared.joiner.JoinState.{JoinState}
use Rattle.jc_inflight.specs.declared.joiner.JoinState.TheVariants as state
use Rattle.jc_inflight.specs.Joining.{callers_of}
use Rattle.jc_inflight.specs.Joining as joining
use Rattle.jc_inflight.specs.Resolving.{after_resolve}
use Rattle.jc_inflight.specs.Dissolving.{after_dissolve}
use Rattle.jc_inflight.specs.Taking as taking
use Rattle.jc_stripe.specs.declared.ticket.First.TheVariants.{Nobody}
use Rattle.jc_stripe.specs.declared.ticket.Reservation.{Reservation}
use Rattle.jc_stripe.specs.declared.begun.Eviction.{Eviction}
use Rattle.jc_stripe.specs.declared.begun.Appended.{Appended}
use Rattle.jc_stripe.specs.declared.begun.Started.{Started}
use Rattle.jc_stripe.specs.declared.begun.Started.TheVariants as started
use Rattle.jc_stripe.specs.declared.begun.Picked.{Picked}
use Rattle.jc_stripe.specs.declared.begun.Picked.TheVariants as picked
use Rattle.jc_stripe.specs.Outcomes.{StepDone, Begun}
use Rattle.jc_stripe.specs.Polled.{Polled}
use Rattle.jc_stripe.specs.Outcomes as begun
use Rattle.jc_stripe.specs.Polled as polled
use Rattle.jc_stripe.specs.Tickets.{JoinClaim}
use Rattle.jc_stripe.specs.State.{State, is_of, new_reservation, with_reservation, without_reservation, IsOut, IsJoined}
use Rattle.jc_stripe.specs.Refusals.{first_refusal, first_asked, load_joined, reserves}
use Rattle.jc_stripe.specs.OrderOfUse.{least_used}

-- 1. The conditions on a first phase.

-- a reservation is another session's, or the same call's at another key
abbrev pub is_other_call : Caller → Bytes → Reservation → Bool
is_other_call caller key r =
    not (r.caller.session == caller.session) || ((r.caller.call == caller.call) && not (pointwise ◌==◌ r.key key))

-- a joiner is another session's, or the same call's at another key, also one that has not picked up its answer
abbrev pub is_other_join : Caller → Bytes → Joiner → Bool
is_other_join caller key j =
    not (j.caller.session == caller.session) || ((j.caller.call == caller.call) && not (pointwise ◌==◌ j.key key))

-- the call's number is at least every one of its session here, no reservation and no join of the session has another number, and
-- there is no step, no reservation and no join of this call at this key
pub record MayBegin (state : State) (caller : Caller) (key : Bytes) : Type 0 where
  pub of_stripe : IsTrue (is_of state key)
  pub behind : IsTrue (list_all (λ e. may_come e caller key) state.history)
  pub beside : IsTrue (list_all (is_other_call caller key) state.reservations)
  pub apart : IsTrue (list_all (is_other_join caller key) state.joiners)

-- 2. The group of a step.

-- whether the step inserts
abbrev pub inserts_here : State → Bytes → Op → Out → Bool
inserts_here state key op out = is_none (entry_at state.cache key) && is_some (entry_after op (entry_at state.cache key) out)

-- whether it inserts into a full stripe
abbrev pub overflows : State → Bytes → Op → Out → Bool
overflows state key op out = inserts_here state key op out && (len state.cache == state.config.capacity)

-- the entry that is evicted before the step, if one must be and can be
abbrev pub victim : State → Bytes → Op → Out → Option Bytes
victim state key op out = if overflows state key op out then least_used state else None

-- the cause for which the inserted entry is evicted, if it is: no other entry could be evicted for it, or the insertion was out
-- of memory
abbrev pub own_cause : Bool → Bool → Bool → Bool → Option Cause
own_cause inserts full has_victim short =
    if inserts then (if full && not has_victim then Some Full else (if short then Some Memory else None)) else None

-- `callers` share the step's load; with `short` an insertion is out of memory
abbrev pub new_group : State → Caller → Bytes → Op → Out → List Caller → Bool → Group
new_group state caller key op out callers short =
    record {
      victim = victim state key op out;
      caller = caller;
      step = record { op = op; key = key; out = out; reply = reply_after op (entry_at state.cache key) out };
      joined = callers;
      evicted = own_cause (inserts_here state key op out) (overflows state key op out) (is_some (victim state key op out)) short;
    }

-- 3. The stripe appends the lawful group of one step, and reports it.

abbrev pub after_group : State → Group → State
after_group old group =
    record old { cache = cache_after_group old.cache group; history = old.history ++ events_of (length old.history) group }

-- the eviction of the step's own key is the last event of its group
abbrev pub own_eviction : ℕ → Group → Option Eviction
own_eviction place group =
    option_map (λ cause. record { cause = cause; place = place + (length (events_of place group) - 1) }) group.evicted

pub record Steps (old : State) (caller : Caller) (key : Bytes) (op : Op) (out : Out) (callers : List Caller) (done : StepDone)
    (new : State) : Type 0 where
  pub short : Bool
  pub lawful : IsLawful old.config old.cache (new_group old caller key op out callers short)
  pub reply : done.reply ≡ reply_after op (entry_at old.cache key) out
  pub place : done.place ≡ step_place (length old.history) (new_group old caller key op out callers short)
  pub victim_is : done.victim ≡ victim old key op out
  pub evicted : done.evicted ≡ own_eviction (length old.history) (new_group old caller key op out callers short)
  pub after : new ≡ after_group old (new_group old caller key op out callers short)

-- 4. The first phase.

abbrev pub with_joiner : State → JoinClaim → State
with_joiner old join = record old { joiners = joining.joiners_with join.caller join.key join.load old.joiners }

-- the step of a get that found this value, at this place: nobody is evicted
abbrev pub hit_done : ℕ → Bytes → StepDone
hit_done place value = record { reply = reply.Value (Some value); place = place; victim = None; evicted = None }

abbrev pub with_reply : Appended → Reply → StepDone
with_reply step reply = record { reply = reply; place = step.place; victim = step.victim; evicted = step.evicted }

abbrev pub begun_with : Started → Reply → Begun
begun_with (started.Done step) reply = begun.Done (with_reply step reply)
begun_with (started.Asks ticket) reply = begun.Asks ticket
begun_with (started.Joined join) reply = begun.Joined join
begun_with (started.Refused refusal) reply = begun.Refused refusal

abbrev pub Begins : State → Caller → Bytes → Op → Begun → State → Type 0
Begins old caller key op (begun.Refused refusal) new = (first_refusal old caller key op ≡ Some refusal) × (new ≡ old)
Begins old caller key op (begun.Done done) new =
    (first_refusal old caller key op ≡ None) × (first_asked old.config op (entry_at old.cache key) ≡ Nobody)
    × Steps old caller key op nothing_said [] done new
Begins old caller key op (begun.Asks ticket) new =
    (first_refusal old caller key op ≡ None) × (load_joined old key op ≡ None)
    × (first_asked old.config op (entry_at old.cache key) ≡ ticket.reservation.first)
    × (reserves ticket.reservation.first ≡ true)
    × (ticket ≡ record {
      reservation = new_reservation old caller key op ticket.reservation.first;
      asked = false;
      writer_asked = false;
    })
    × (new ≡ with_reservation old ticket.reservation)
Begins old caller key op (begun.Joined join) new =
    (first_refusal old caller key op ≡ None) × (load_joined old key op ≡ Some join.load)
    × (join ≡ record { caller = caller; key = key; load = join.load })
    × (new ≡ with_joiner old join)

-- 5. The last phase.

-- the reservation is over, and for each joiner that waits for its load the answer is parked: that of the step at this place
abbrev pub after_commit : State → Reservation → ℕ → State
after_commit old r place = record (without_reservation old r.key) { joiners = after_resolve r.number place old.joiners }

abbrev pub Commits : State → Reservation → Out → StepDone → State → Type 0
Commits old r out done new =
    IsOut old r × Steps (after_commit old r done.place) r.caller r.key r.op out (callers_of r.number old.joiners) done new

-- 6. A reservation is given back: cache and history stay.

abbrev pub after_withdrawal : State → Reservation → State
after_withdrawal old r = record (without_reservation old r.key) { joiners = after_dissolve r.number old.joiners }

abbrev pub Withdraws : State → Reservation → State → Type 0
Withdraws old r new = IsOut old r × (new ≡ after_withdrawal old r)

-- 7. A joiner asks for its answer.

-- the join is over
abbrev pub without_joiner : State → JoinClaim → State
without_joiner old join = record old { joiners = taking.joiners_without join.caller join.key old.joiners }

-- the event at a place is the join's own step, which names the step that loaded
abbrev pub IsSharedStep : State → JoinClaim → Reply → ℕ → ℕ → Type 0
IsSharedStep state join reply place shared_with =
    (out : Out) × (slice_get state.history place ≡ Some (Step join.caller Get join.key out (Some shared_with) reply))

abbrev pub told_to : State → JoinClaim → Option JoinState
told_to state join = taking.join_state_of join.caller join.key state.joiners

abbrev pub polled_with : Picked → Reply → Polled
polled_with (picked.Answer place shared_with) reply = polled.Answer reply place shared_with
polled_with picked.Again reply = polled.Again
polled_with (picked.NotYet join) reply = polled.NotYet join

abbrev pub PicksUp : State → JoinClaim → Polled → State → Type 0
PicksUp old join (polled.Answer reply place shared_with) new =
    IsJoined old join × (told_to old join ≡ Some (state.Answered place shared_with)) × IsSharedStep old join reply place shared_with
    × (new ≡ without_joiner old join)
PicksUp old join polled.Again new = IsJoined old join × (told_to old join ≡ Some state.Again) × (new ≡ without_joiner old join)
PicksUp old join (polled.NotYet back) new =
    IsJoined old join × (told_to old join ≡ Some state.Waiting) × (back ≡ join) × (new ≡ old)
