-- What is true of every world that a run reaches. The contracts of public calls hand out what callers need of it.
--     IsWorldStripe                      a stripe of the world: it is reached, and its history is its part of the order
--     IsWorldShaped                 there is a stripe for each number
--     HaveNoneEnded                 of these stripes none has ended a generation
--     is_up_to, number_up_to        a number is at most the last call's, and so is the number of an event's step
--     has_parked_answer             an answer is parked for a joiner that is there
--     is_served_in, is_served       the answer of a load that it has joined is parked for a caller at a key, in a stripe and in the
--                                   world
--     is_apart                      two calls are of different sessions, and have different numbers
--     FitsKey                       a key of a call: its step may still come, unless it is served
--     FitsCall                      a call under way: its number is at most the last, and that is so of each open key, and of each
--                                   key that it may still find
--     CallsFit                      that is so of all calls under way, and no two are of one session or have one number
--     Each                          a fact is true of each of a list
--     FitsAsked                     what is told of a key is of whom its reservation asks first
--     change_in                     what the writer is to be asked for after a processor
--     IsDueIn, IsDue                after a processor the writer is asked for just that
--     AllDue                        that is so of all parts
--     IsHeld                        a part has its reservation, whose call is then under way
--     IsCallOf                      a call is of a session, and an operation is open in it at a key
--     IsOwned, AllOwned             a reservation has its part and its call; each does
--     IsWaitedFor, AllWaitedFor     a join has its joiner and its call, which has no part; each does, and is of the call and the
--                                   key by which it is found
--     IsCalled, AllCalled           a joiner has its join and its call, and is in the stripe of its key; each is so
--     Agrees                        an entry that is there is the store's value
--     LoadAgrees, WriteAgrees       as long as the premises hold: what is known of a key that is loaded, also for a processor, and
--                                   of one that is written
--     ChangeAgrees, ProgressAgrees  and so of a reserved key, by whether the writer is asked
--     PartAgrees                    and whether anyone was misled
--     KeyAgrees                     as long as the premises hold: what is known of any key, by its part, the store's value and the
--                                   cached one
--     Sweeps                        a call that is still to look at a stripe: the keys that it has taken are of those at which it
--                                   has looked
--     IsSoundWorld                  all of it; and in a fresh world nothing is cached, reserved, joined or under way
use Rattle.std.specs.Prelude.{◌≡◌, ◌==◌, if◌then◌else◌, ℕ, List, [], ◌∷◌, length, Ok, Bool, true, false, not, ◌&&◌, Option, None}
use Rattle.std.specs.Prelude.{Some, IfSome, IsSomeAnd, is_some, find, slice_get, nat_le}
use Rattle.std.specs.List.{list_all}
use Rattle.std.specs.Map.{lookup}
use Rattle.std.specs.Cmp.Lexicographic.{pointwise}
use Rattle.std.specs.FinMap.{get}
use Rattle.jc_types.specs.declared.caller.Caller.{Caller}
use Rattle.jc_types.specs.declared.config.Config.{Config}
use Rattle.jc_types.specs.Limits.{check}
use Rattle.jc_types.specs.Stripes.{stripe_of}
use Rattle.jc_model.specs.declared.event.Event.{Event}
use Rattle.jc_model.specs.declared.event.Op.{Op}
use Rattle.jc_model.specs.declared.event.Op.TheVariants.{Get}
use Rattle.jc_model.specs.declared.event.Event.TheVariants as stripe
use Rattle.jc_model.specs.declared.event.LoadAnswer.{LoadAnswer}
use Rattle.jc_model.specs.declared.event.WriteAnswer.{WriteAnswer}
use Rattle.jc_model.specs.Cache.{Bytes, entry_at}
use Rattle.jc_model.specs.declared.event.Change.{Change}
use Rattle.jc_model.specs.declared.event.Out.{Out}
use Rattle.jc_model.specs.declared.event.WriteAnswer.TheVariants as write
use Rattle.jc_model.specs.Group.{load_only, write_only}
use Rattle.jc_model.specs.Table.{is_write_given, is_process_given}
use Rattle.jc_model.specs.Legal.{in_order, of_stripe}
use Rattle.jc_model.specs.Processor.{found_in}
use Rattle.jc_stripe.specs.declared.ticket.First.{First}
use Rattle.jc_outside.specs.declared.done.Origin.TheVariants.{Played}
use Rattle.jc_mutentry.specs.Done.{effect_change}
use Rattle.jc_stripe.specs.declared.ticket.First.TheVariants.{Nobody, Loader, Writer, Processor}
use Rattle.jc_inflight.specs.declared.joiner.Joiner.{Joiner}
use Rattle.jc_inflight.specs.Joining.{belongs_to}
use Rattle.jc_stripe.specs.declared.ticket.Reservation.{Reservation}
use Rattle.jc_stripe.specs.Tickets.{JoinClaim}
use Rattle.jc_stripe.specs.State.{State, IsOut, IsJoined}
use Rattle.jc_stripe.specs.Reached.{IsReached}
use Rattle.jc_stripe.specs.OnePhase.{is_answered}
use Rattle.jc_stripe.specs.OwnSteps.{may_come_all}
use Rattle.jc_world.specs.Calls.{CallState, SweepState, has_looked, op_at, op_for}
use Rattle.jc_world.specs.declared.event.Part.{Part}
use Rattle.jc_world.specs.declared.event.PartProgress.{PartProgress}
use Rattle.jc_world.specs.World.{WorldState, home, stripe_for, cached_entry, open_call, part_of, JoinKey, Joins, join_key}
use Rattle.jc_world.specs.World.{is_joined, is_unanswered, Parts, is_foreign}
use Rattle.jc_world.specs.Premises.{changed_to, is_done}
use Rattle.jc_world.specs.Coherent.{all_hold}

-- 1. The stripes and the order.

pub record IsWorldStripe (w : WorldState) (number : ℕ) (s : State) : Type 0 where
  pub config_is : s.config ≡ w.config
  pub number_is : s.stripe ≡ number
  pub origin_is : s.origin ≡ Played
  pub ended_is : s.ended ≡ []
  pub reached : IsReached s
  pub share : of_stripe w.config.stripes number w.order ≡ s.history

pub record IsWorldShaped (w : WorldState) : Type 0 where
  pub config_fits : check w.config ≡ Ok tt
  pub count : length w.stripes ≡ w.config.stripes
  pub each : (number : ℕ) (s : State) → slice_get w.stripes number ≡ Some s → IsWorldStripe w number s

abbrev pub HaveNoneEnded : List State → Type 0
HaveNoneEnded stripes = (number : ℕ) (s : State) → slice_get stripes number ≡ Some s → s.ended ≡ []

-- 2. The calls.

-- a number is at most the last
abbrev pub is_up_to : Option ℕ → ℕ → Bool
is_up_to None number = false
is_up_to (Some last) number = nat_le number last

abbrev pub number_up_to : Option ℕ → Event → Bool
number_up_to last (stripe.Step caller op key out shared_with reply) = is_up_to last caller.call
number_up_to last (stripe.Evict key cause) = true

abbrev pub has_parked_answer : Option Joiner → Bool
has_parked_answer None = false
has_parked_answer (Some j) = is_answered j.state

-- at the stripe of its key
abbrev pub is_served_in : Option State → Caller → Bytes → Bool
is_served_in None caller key = false
is_served_in (Some s) caller key = has_parked_answer (find (belongs_to caller key) s.joiners)

abbrev pub is_served : WorldState → Caller → Bytes → Bool
is_served w caller key = is_served_in (stripe_for w key) caller key

-- another session's call, with another number
abbrev pub is_apart : CallState → CallState → Bool
is_apart u other =
    not (other.caller.session == u.caller.session) && not (other.caller.call == u.caller.call)

-- a caller that is served at a key has its step of that key in the order
pub record FitsKey (w : WorldState) (caller : Caller) (key : Bytes) (op : Op) : Type 0 where
  pub comes : is_served w caller key ≡ false → may_come_all w.order caller key ≡ true

pub record FitsCall (w : WorldState) (u : CallState) : Type 0 where
  pub number : is_up_to w.last u.caller.call ≡ true
  pub keys : (key : Bytes) (op : Op) → op_for u key ≡ Some op → FitsKey w u.caller key op

abbrev pub CallsFit : WorldState → List CallState → Type 0
CallsFit w [] = Unit {0}
CallsFit w (u ∷ us) = FitsCall w u × (list_all (is_apart u) us ≡ true) × CallsFit w us

-- 3. The keys that calls have reserved.

-- a fact of each of a list
abbrev pub Each : {A : Type 0} → (A → Type 0) → List A → Type 0
Each P [] = Unit {0}
Each P (x ∷ xs) = P x × Each P xs

-- what is told is of whom the reservation asks first; before a processor has run nothing is told, and no writer is asked
abbrev pub FitsAsked : First → PartProgress → Type 0
FitsAsked Nobody p = ⊥
FitsAsked Loader p = (p.change ≡ None) × (p.out ≡ load_only p.out.load)
FitsAsked (Writer change) p = (p.change ≡ Some change) × (p.out ≡ write_only p.out.write)
FitsAsked (Processor entry may_load) p =
    (p.change ≡ None → p.out.write ≡ write.NotAsked)
    × (is_process_given p.out.process ≡ false
    → (p.change ≡ None) × (is_unanswered p.out ≡ true) × (p.is_changed ≡ false))

-- what the writer is to be asked for after a processor
abbrev pub change_in : Config → Out → Option Change
change_in config out = if config.write_through then effect_change out.load out.process else None

-- after a processor the writer is asked for what it is to be asked for
abbrev pub IsDueIn : Config → First → PartProgress → Type 0
IsDueIn config Nobody p = Unit {0}
IsDueIn config Loader p = Unit {0}
IsDueIn config (Writer change) p = Unit {0}
IsDueIn config (Processor entry may_load) p = p.change ≡ change_in config p.out

abbrev pub IsDue : Config → Part → Type 0
IsDue config part = IsDueIn config part.reservation.first part.progress

abbrev pub AllDue : Config → Parts → Type 0
AllDue config parts = (key : Bytes) (part : Part) → get parts key ≡ Some part → IsDue config part

-- the part of a key whose stripe is `s`
pub record IsHeld (s : State) (key : Bytes) (part : Part) : Type 0 where
  pub key_is : part.reservation.key ≡ key
  pub out : IsOut s part.reservation
  pub asked : FitsAsked part.reservation.first part.progress

-- a call is of this session, and this operation is open in it at this key
abbrev pub IsCallOf : ℕ → Bytes → Op → CallState → Type 0
IsCallOf session key op u = (u.caller.session ≡ session) × (op_at u key ≡ Some op)

-- the reservation of a call under way, with its part
pub record IsOwned (w : WorldState) (r : Reservation) : Type 0 where
  pub part : IsSomeAnd (get w.parts r.key) (λ part. part.reservation.caller.call ≡ r.caller.call)
  pub call : IsSomeAnd (open_call w r.caller.call) (IsCallOf r.caller.session r.key r.op)

abbrev pub AllOwned : WorldState → List Reservation → Type 0
AllOwned w rs = Each (IsOwned w) rs

-- 4. The calls that have joined a load.

-- the joiner is in the stripe of its key, and the call is under way with no part
pub record IsWaitedFor (w : WorldState) (join : JoinClaim) : Type 0 where
  pub out : IsSomeAnd (stripe_for w join.key) (λ s. IsJoined s join)
  pub call : IsSomeAnd (open_call w join.caller.call) (IsCallOf join.caller.session join.key Get)
  pub no_part : part_of w join.caller.call join.key ≡ None

abbrev pub AllWaitedFor : WorldState → Joins → Type 0
AllWaitedFor w joins = (at : JoinKey) (join : JoinClaim) → get joins at ≡ Some join
    → (join_key join ≡ at) × IsWaitedFor w join

-- the joiner of a call under way, with its join, in the stripe of its key
pub record IsCalled (w : WorldState) (number : ℕ) (j : Joiner) : Type 0 where
  pub home_is : home w j.key ≡ number
  pub join : is_joined w j.caller.call j.key ≡ true
  pub call : IsSomeAnd (open_call w j.caller.call) (IsCallOf j.caller.session j.key Get)

abbrev pub AllCalled : WorldState → ℕ → List Joiner → Type 0
AllCalled w number js = Each (IsCalled w number) js

-- 5. As long as the premises hold.

abbrev pub Agrees : Option Bytes → Option Bytes → Type 0
Agrees entry stored = IfSome entry (λ value. stored ≡ Some value)

pub record LoadAgrees (answer : LoadAnswer) (stored entry : Option Bytes) : Type 0 where
  pub loaded : Agrees (found_in answer) stored
  pub unwritten : Agrees entry stored

pub record WriteAgrees (change : Change) (is_changed : Bool) (report : WriteAnswer)
    (stored entry : Option Bytes) : Type 0 where
  pub written : is_changed ≡ true → stored ≡ changed_to change
  pub unwritten : is_changed ≡ false → Agrees entry stored
  pub honest : is_write_given report ≡ true → is_done report ≡ is_changed

abbrev pub ChangeAgrees : Option Change → PartProgress → Option Bytes → Option Bytes → Type 0
ChangeAgrees None p stored entry = LoadAgrees p.out.load stored entry
ChangeAgrees (Some change) p stored entry = WriteAgrees change p.is_changed p.out.write stored entry

abbrev pub ProgressAgrees : PartProgress → Option Bytes → Option Bytes → Type 0
ProgressAgrees p stored entry = ChangeAgrees p.change p stored entry

-- until the writer has changed the store, the entry is the one from before; and if nobody has lied, more is known
pub record PartAgrees (p : PartProgress) (stored entry : Option Bytes) : Type 0 where
  pub kept : p.is_changed ≡ false → Agrees entry stored
  pub honest : p.is_misled ≡ false → ProgressAgrees p stored entry

abbrev pub KeyAgrees : Option Part → Option Bytes → Option Bytes → Type 0
KeyAgrees None stored entry = Agrees entry stored
KeyAgrees (Some part) stored entry = PartAgrees part.progress stored entry

-- 6. The calls that look at the stripes.

abbrev pub Sweeps : Config → CallState → Type 0
Sweeps config u =
    (sweep : SweepState) → u.sweep ≡ Some sweep
    → (key : Bytes) → is_some (lookup (pointwise ◌==◌ key) u.tasks) ≡ true
    → has_looked sweep.looked (stripe_of key config.stripes) ≡ true

-- 7. The world. In a fresh one nothing is cached, reserved, joined or under way.
pub record IsSoundWorld (w : WorldState) : Type 0 where
  pub shape : IsWorldShaped w
  pub order : in_order w.order ≡ true
  pub numbers : list_all (number_up_to w.last) w.order ≡ true
  pub calls : CallsFit w w.calls
  pub sweeps : Each (Sweeps w.config) w.calls
  pub held : (key : Bytes) (part : Part) → get w.parts key ≡ Some part
      → IsSomeAnd (stripe_for w key) (λ s. IsHeld s key part)
  pub due : AllDue w.config w.parts
  pub owned : (number : ℕ) (s : State) → slice_get w.stripes number ≡ Some s
      → AllOwned w s.reservations
  pub joins : AllWaitedFor w w.joins
  pub called : (number : ℕ) (s : State) → slice_get w.stripes number ≡ Some s
      → AllCalled w number s.joiners
  pub told : all_hold w ≡ true → (key : Bytes) → is_foreign w key ≡ false
      → KeyAgrees (get w.parts key) (entry_at w.store key) (cached_entry w key)
  pub cold : w.is_fresh ≡ true → (key : Bytes) → cached_entry w key ≡ None
  pub idle : w.is_fresh ≡ true → w.calls ≡ []
