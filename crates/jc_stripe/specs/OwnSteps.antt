-- The effect of each kind of phase on its session's own steps, and what follows for a caller.
--     AddsOwn           an event is at a place after all earlier events, and it is the session's last own step
--     OwnSteps          the law: a call that is done at once, and a commit, add their step in this way; a pick-up that is
--                       answered makes the parked step an own one, at its place; a refusal, a reservation, a join, a withdrawal,
--                       'again', 'not yet', an invalidation and a sweep leave the own steps
--     may_come_all      a step of this caller at this key may come after each of these events
--     is_before_call    an event is no step of this session with this call number or a later one
--     HasNoCallFrom     no step, reservation or join of a session has this call number or a later one
--     CallerNumbers     the law of a session's numbers: a call with such a number may begin at any key of the stripe, and once
--                       its steps were appended and nothing of it is out, the next number is such a number
--     HasOneMore        a list of steps has this one more than another, somewhere in it
--     OwnNumbers        the law of own steps' numbers: if they are all of earlier calls, a step of this call may come after them,
--                       at any key; with one more step, which is of this call, they are all of calls before the next one, and
--                       stay so with a further one; and if a step of this call may come at a key, it may after one more at
--                       another key
--     StepsBehind       the law of places: a step that may still come after a history has a place after all of it
--     WholeCall         the law of a whole call: a first phase that reserves its key, and its commit, are one step of that
--                       caller, operation and key
--     JoinsOnlyLoads    the law of joins: a first phase that finds no load of its key does not join
use Rattle.std.specs.Prelude.{◌≡◌, ◌≤◌, ◌==◌, ◌+◌, ℕ, List, [], ◌∷◌, ◌++◌, length, Bool, true, false, not, ◌||◌, Option, None, Some}
use Rattle.std.specs.Prelude.{IsTrue, slice_get, nat_lt}
use Rattle.std.specs.List.{list_all}
use Rattle.std.specs.Cmp.Lexicographic.{pointwise}
use Rattle.jc_types.specs.declared.caller.Caller.{Caller}
use Rattle.jc_model.specs.declared.event.Op.{Op}
use Rattle.jc_model.specs.declared.event.Op.TheVariants.{Get}
use Rattle.jc_model.specs.declared.event.Out.{Out}
use Rattle.jc_model.specs.declared.event.Reply.{Reply}
use Rattle.jc_model.specs.declared.event.Event.{Event}
use Rattle.jc_model.specs.declared.event.Event.TheVariants.{Step, Evict}
use Rattle.jc_model.specs.Cache.{Bytes}
use Rattle.jc_model.specs.Group.{nothing_said}
use Rattle.jc_model.specs.Legal.{may_come}
use Rattle.jc_types.specs.declared.refusal.Refusal.{Refusal}
use Rattle.jc_stripe.specs.declared.ticket.Reservation.{Reservation}
use Rattle.jc_stripe.specs.Outcomes.{StepDone, Done, Asks, Joined, Refused}
use Rattle.jc_stripe.specs.Polled.{Answer, Again, NotYet}
use Rattle.jc_stripe.specs.Tickets.{TicketClaim, JoinClaim}
use Rattle.jc_stripe.specs.State.{State, is_of}
use Rattle.jc_stripe.specs.Refusals.{load_joined}
use Rattle.jc_stripe.specs.Phases.{is_other_join, MayBegin, Steps, Begins, Commits, Withdraws, PicksUp}
use Rattle.jc_stripe.specs.Reached.{IsReached}
use Rattle.jc_stripe.specs.Invalidating.{Ends, GivesBack}
use Rattle.jc_stripe.specs.OnePhase.{own_steps, GainsOwn, Forgetting}

-- 1. Own steps, by each kind of phase.

pub record AddsOwn (session : ℕ) (old new : State) (event : Event) (place : ℕ) : Type 0 where
  pub behind : length old.history ≤ place
  pub there : slice_get new.history place ≡ Some event
  pub own : own_steps session new ≡ own_steps session old ++ event ∷ []

pub record OwnSteps : Type 0 where
  pub done : (old new : State) (caller : Caller) (key : Bytes) (op : Op) (done : StepDone) → MayBegin old caller key
      → Begins old caller key op (Done done) new
      → AddsOwn caller.session old new (Step caller op key nothing_said None done.reply) done.place
  pub commits : (old new : State) (r : Reservation) (out : Out) (done : StepDone) → IsReached old → Commits old r out done new
      → AddsOwn r.caller.session old new (Step r.caller r.op r.key out None done.reply) done.place
  pub ends : (old new : State) (r : Reservation) (out : Out) (done : StepDone) → IsReached old → Ends old r out done new
      → AddsOwn r.caller.session old new (Step r.caller r.op r.key out None done.reply) done.place
  pub gives_back : (old new : State) (session : ℕ) (r : Reservation) → IsReached old → GivesBack old r new
      → own_steps session new ≡ own_steps session old
  pub forgets : (old new : State) (session : ℕ) → IsReached old → Forgetting old new → own_steps session new ≡ own_steps session old
  pub refused : (old new : State) (caller : Caller) (key : Bytes) (op : Op) (refusal : Refusal)
      → Begins old caller key op (Refused refusal) new → own_steps caller.session new ≡ own_steps caller.session old
  pub reserves : (old new : State) (caller : Caller) (key : Bytes) (op : Op) (ticket : TicketClaim)
      → Begins old caller key op (Asks ticket) new → own_steps caller.session new ≡ own_steps caller.session old
  pub joins : (old new : State) (caller : Caller) (key : Bytes) (op : Op) (join : JoinClaim)
      → Begins old caller key op (Joined join) new → own_steps caller.session new ≡ own_steps caller.session old
  pub withdraws : (old new : State) (session : ℕ) (r : Reservation) → Withdraws old r new
      → own_steps session new ≡ own_steps session old
  pub picks_up : (old new : State) (join : JoinClaim) (reply : Reply) (place shared_with : ℕ) → IsReached old
      → PicksUp old join (Answer reply place shared_with) new
      → (out : Out) × GainsOwn join.caller.session old new (Step join.caller Get join.key out (Some shared_with) reply) place
  pub again : (old new : State) (join : JoinClaim) → IsReached old → PicksUp old join Again new
      → own_steps join.caller.session new ≡ own_steps join.caller.session old
  pub not_yet : (old new : State) (join back : JoinClaim) → PicksUp old join (NotYet back) new
      → own_steps join.caller.session new ≡ own_steps join.caller.session old

-- 2. A session's numbers.

abbrev pub may_come_all : List Event → Caller → Bytes → Bool
may_come_all events caller key = list_all (λ e. may_come e caller key) events

abbrev pub is_before_call : ℕ → ℕ → Event → Bool
is_before_call session call (Step who op key out shared_with reply) = not (who.session == session) || nat_lt who.call call
is_before_call session call (Evict key cause) = true

pub record HasNoCallFrom (state : State) (session call : ℕ) : Type 0 where
  pub steps : IsTrue (list_all (is_before_call session call) state.history)
  pub reservations : IsTrue (list_all (λ r. not (r.caller.session == session)) state.reservations)
  pub joins : IsTrue (list_all (λ j. not (j.caller.session == session)) state.joiners)

pub record CallerNumbers : Type 0 where
  pub may_begin : (state : State) (caller : Caller) (key : Bytes) → HasNoCallFrom state caller.session caller.call
      → is_of state key ≡ true → MayBegin state caller key
  pub clear : (state : State) (caller : Caller) (key : Bytes) → IsTrue (list_all (is_other_join caller key) state.joiners)
      → may_come_all (own_steps caller.session state) caller key ≡ true → may_come_all state.history caller key ≡ true
  pub done : (old new : State) (caller : Caller) (key : Bytes) (op : Op) (done : StepDone)
      → HasNoCallFrom old caller.session caller.call → Begins old caller key op (Done done) new
      → HasNoCallFrom new caller.session (caller.call + 1)
  pub refused : (old new : State) (caller : Caller) (key : Bytes) (op : Op) (refusal : Refusal)
      → HasNoCallFrom old caller.session caller.call → Begins old caller key op (Refused refusal) new
      → HasNoCallFrom new caller.session (caller.call + 1)
  pub committed : (old mid new : State) (caller : Caller) (key : Bytes) (op : Op) (ticket : TicketClaim) (out : Out)
      (done : StepDone) → IsReached old → HasNoCallFrom old caller.session caller.call
      → Begins old caller key op (Asks ticket) mid → Commits mid ticket.reservation out done new
      → HasNoCallFrom new caller.session (caller.call + 1)

-- a list of steps has this one more than another, somewhere in it
pub record HasOneMore (event : Event) (old new : List Event) : Type 0 where
  pub before : List Event
  pub after : List Event
  pub was : old ≡ before ++ after
  pub is : new ≡ before ++ event ∷ after

pub record OwnNumbers : Type 0 where
  pub may_come : (own : List Event) (caller : Caller) (key : Bytes)
      → list_all (is_before_call caller.session caller.call) own ≡ true → may_come_all own caller key ≡ true
  pub next : (old new : List Event) (caller : Caller) (op : Op) (key : Bytes) (out : Out) (shared_with : Option ℕ) (reply : Reply)
      → HasOneMore (Step caller op key out shared_with reply) old new
      → list_all (is_before_call caller.session caller.call) old ≡ true
      → list_all (is_before_call caller.session (caller.call + 1)) new ≡ true
  pub further : (old new : List Event) (caller : Caller) (op : Op) (key : Bytes) (out : Out) (shared_with : Option ℕ)
      (reply : Reply) → HasOneMore (Step caller op key out shared_with reply) old new
      → list_all (is_before_call caller.session (caller.call + 1)) old ≡ true
      → list_all (is_before_call caller.session (caller.call + 1)) new ≡ true
  pub other_key : (old new : List Event) (caller : Caller) (op : Op) (key other : Bytes) (out : Out) (shared_with : Option ℕ)
      (reply : Reply) → HasOneMore (Step caller op key out shared_with reply) old new
      → pointwise ◌==◌ key other ≡ false → may_come_all old caller other ≡ true → may_come_all new caller other ≡ true

abbrev pub StepsBehind : Type 0
StepsBehind =
    (history more : List Event) (caller : Caller) (op : Op) (key : Bytes) (out : Out) (shared_with : Option ℕ) (reply : Reply)
    (place : ℕ) → may_come_all history caller key ≡ true
    → slice_get (history ++ more) place ≡ Some (Step caller op key out shared_with reply) → length history ≤ place

-- 3. Whole calls.

abbrev pub WholeCall : Type 0
WholeCall =
    (old mid new : State) (caller : Caller) (key : Bytes) (op : Op) (ticket : TicketClaim) (out : Out) (done : StepDone)
    → IsReached old
    → Begins old caller key op (Asks ticket) mid → Commits mid ticket.reservation out done new
    → Steps (record old { next = old.next + 1 }) caller key op out [] done new

abbrev pub JoinsOnlyLoads : Type 0
JoinsOnlyLoads =
    (old new : State) (caller : Caller) (key : Bytes) (op : Op) (join : JoinClaim) → load_joined old key op ≡ None
    → Begins old caller key op (Joined join) new → ⊥
