-- The one call outside that a bulk call makes for all keys that a round has reserved.
--     items_in, outside_kind, room_in   the asks of such a call, its kind, and the number of asks for which it still has room
--     OutsideState                      the model of such a call
--     write_kind                        the kind of a writer's call, by whether it deletes
--     no_asks                           an empty call
--     with_ask                          the call with one ask more
--     fits_first                        this asks whoever calls of this kind ask
--     HasOneToAsk                       the session has a writer, if calls of this kind ask it
--     AsksAs                            this operation asks outside by calls of this kind, if it asks at all; a `Clear` asks
--                                       nobody
--     MayAskFor                         a session may ask for these tickets in a call: it holds no stripe, and has the one to
--                                       ask; none has asked, all are of the call's kind, their keys differ, and there is room
--     BulkBehavior                      the answers that a loader and a writer may give when they are called for many keys, and
--                                       the changes of their states
--     bulk_behavior                     the behavior of these relations
--     CallsOnce                         the loader or the writer was called once for a round, and the other one wasn't
--     CallsInRounds                     the loader or the writer was called once for each of these rounds, in their order, and
--                                       neither was called otherwise
--     HaveAsked                         a session's loader and its writer were called for exactly these rounds, and have the same
--                                       types as before
--     wanted_changes                    each reservation's key, with the change that it asks for
--     IsWrittenOf                       a round called the writer, for exactly the changes of these reservations
--     IsAskedOf                         a round called the loader or the writer, by this kind, for exactly what these
--                                       reservations ask for
--     IsRest                            what such a call, with this room, leaves for a later round: all memory of a loader's
--                                       call, and nothing of a writer's
--     IsSpent                           as `IsRest`, once none of the answers is left
--     Answered                          the call was made for these tickets, each of which has an answer, and this is left for a
--                                       later round
use Rattle.std.specs.Prelude.{◌≡◌, ◌≤◌, ◌⊎◌, ◌-◌, ◌++◌, ◌==◌, ℕ, List, [], ◌∷◌, length, map, Bool, true, false, Option, None, Some}
use Rattle.std.specs.Prelude.{IsSome}
use Rattle.std.specs.List.{AllByRecursion, IsDistinct}
use Rattle.std.specs.Cmp.Lexicographic.{pointwise}
use Rattle.jc_types.specs.declared.config.Config.{Config}
use Rattle.jc_types.specs.declared.refusal.Refusal.{Refusal}
use Rattle.jc_model.specs.Cache.{Bytes}
use Rattle.jc_model.specs.declared.event.Change.{Change}
use Rattle.jc_model.specs.declared.event.Op.{Op}
use Rattle.jc_model.specs.declared.event.Op.TheVariants as op
use Rattle.jc_batch.specs.Changes.{changes_of}
use Rattle.jc_outside.specs.CallingAll.{LoadAllRelation, LoadsAllOnce, WriteAllRelation, DeleteAllRelation, WritesAllOnce}
use Rattle.jc_outside.specs.declared.hands.Outside.{Outside}
use Rattle.jc_stripe.specs.declared.ticket.First.{First}
use Rattle.jc_stripe.specs.declared.ticket.Reservation.{Reservation}
use Rattle.jc_stripe.specs.Tickets.{Claim, TicketClaim, asks_loader, change_asked}
use Rattle.jc_session.specs.Boxed.{boxed}
use Rattle.jc_engine.specs.Asking.{KeepsTypes}
use Rattle.jc_cache.specs.Sessions.{HoldsNothing}
use Rattle.jc_session.specs.declared.session.Session.{Session}
use Rattle.jc_rounds.specs.declared.answers.RoundAnswers.{RoundAnswers}
use Rattle.jc_rounds.specs.declared.load_call.SpentLoads.{SpentLoads}
use Rattle.jc_rounds.specs.Answers.{AreAnswers, done_room, is_change_of}
use Rattle.jc_rounds.specs.Asking.{reserved_keys}
use Rattle.jc_rounds.specs.OutsideCalls.{AreSpent, is_delete}
use Rattle.jc_rounds.specs.Rounds.{LoadAll, ProcessAll, Round, WriteAll, round_fault}
use Rattle.jc_rounds.specs.Underway.{reserved_by}
use Rattle.jc_bulk.specs.declared.outside.OutsideKind.{OutsideKind}
use Rattle.jc_bulk.specs.declared.outside.OutsideKind.TheVariants.{Load, Write, Delete}
use Rattle.jc_bulk.specs.declared.outside.CallOf.{CallOf}
use Rattle.jc_bulk.specs.declared.outside.CallOf.TheVariants.{Loads, Writes}

-- 1. Calls.

abbrev pub write_kind : Bool → OutsideKind
write_kind false = Write
write_kind true = Delete

abbrev pub outside_kind : CallOf → OutsideKind
outside_kind (Loads call) = Load
outside_kind (Writes call) = write_kind call.deletes

abbrev pub items_in : CallOf → List Claim
items_in (Loads call) = call.items
items_in (Writes call) = call.items

abbrev pub room_in : CallOf → ℕ
room_in (Loads call) = call.room
room_in (Writes call) = call.room

pub record OutsideState : Type 0 where
  pub kind : OutsideKind
  pub items : List Claim
  pub room : ℕ

abbrev pub no_asks : OutsideKind → ℕ → OutsideState
no_asks kind room = record { kind = kind; items = []; room = room }

abbrev pub with_ask : OutsideState → Claim → OutsideState
with_ask calls ask = record calls { items = calls.items ++ ask ∷ []; room = calls.room - 1 }

abbrev pub fits_first : OutsideKind → First → Bool
fits_first Load first = asks_loader first
fits_first Write first = is_change_of false (change_asked first)
fits_first Delete first = is_change_of true (change_asked first)

abbrev pub HasOneToAsk : {W : Type 0} → OutsideKind → Option W → Type 0
HasOneToAsk Load writer = Unit {0}
HasOneToAsk Write writer = IsSome writer
HasOneToAsk Delete writer = IsSome writer

abbrev pub AsksAs : OutsideKind → Op → Type 0
AsksAs Load o = (o ≡ op.Get) ⊎ ((replace : Bool) × (o ≡ op.LoadAll replace)) ⊎ (o ≡ op.Clear)
AsksAs Write o = (value : Bytes) × (o ≡ op.Put value)
AsksAs Delete o = o ≡ op.Remove

pub record MayAskFor {I J : Type 0} {D : I → Type 0} {E : J → Type 0} (session : Session I J D E) (call : OutsideState)
    (tickets : List TicketClaim) : Type 0 where
  pub nothing : HoldsNothing session
  pub writer : HasOneToAsk call.kind session.agent.hands.outside.writer
  pub none : call.items ≡ []
  pub some : tickets ≡ [] → ⊥
  pub unasked : AllByRecursion (λ (t : TicketClaim). t.asked ≡ false) tickets
  pub kind : AllByRecursion (λ (t : TicketClaim). fits_first call.kind t.reservation.first ≡ true) tickets
  pub distinct : IsDistinct (pointwise ◌==◌) (reserved_keys (map reserved_by tickets))
  pub room : length tickets ≤ call.room

-- 2. What was called.

pub record BulkBehavior (L W : Type 0) : Type 1 where
  pub loads_all : LoadAllRelation L
  pub load_state : L → List ℕ
  pub writes_all : WriteAllRelation W
  pub deletes_all : DeleteAllRelation W
  pub write_state : W → List ℕ

abbrev pub bulk_behavior : {L W : Type 0} → LoadAllRelation L → (L → List ℕ) → WriteAllRelation W → DeleteAllRelation W
    → (W → List ℕ) → BulkBehavior L W
bulk_behavior loads_all load_state writes_all deletes_all write_state =
    record {
      loads_all = loads_all;
      load_state = load_state;
      writes_all = writes_all;
      deletes_all = deletes_all;
      write_state = write_state;
    }

module _ {I J : Type 0} {D : I → Type 0} {E : J → Type 0} (behavior : BulkBehavior ((i : I) × D i) ((j : J) × E j)) where
  abbrev pub CallsOnce : Outside I J D E → Round → Outside I J D E → Type 0
  CallsOnce old (LoadAll r) new =
      LoadsAllOnce (boxed behavior.loads_all) (boxed behavior.load_state) old.loader r.keys r.said new.loader
      × (new.writer ≡ old.writer)
  CallsOnce old (WriteAll r) new =
      WritesAllOnce (boxed behavior.writes_all) (boxed behavior.deletes_all) (boxed behavior.write_state) old.writer r.batch
      r.returned r.said new.writer × (new.loader ≡ old.loader)
  CallsOnce old (ProcessAll r) new = ⊥

  abbrev pub CallsInRounds : Outside I J D E → List Round → Outside I J D E → Type 0
  CallsInRounds old [] new = new ≡ old
  CallsInRounds old (r ∷ rs) new = (mid : Outside I J D E) × CallsOnce old r mid × CallsInRounds mid rs new

  pub record HaveAsked (old new : Session I J D E) (rounds : List Round) : Type 0 where
    pub calls : CallsInRounds old.agent.hands.outside rounds new.agent.hands.outside
    pub types : KeepsTypes old.agent new.agent

abbrev pub wanted_changes : List Reservation → List (Bytes × Option Change)
wanted_changes calls = map (λ (r : Reservation). (r.key, change_asked r.first)) calls

abbrev pub IsWrittenOf : Bool → List Reservation → Round → Type 0
IsWrittenOf deletes calls (LoadAll r) = ⊥
IsWrittenOf deletes calls (WriteAll r) = (is_delete r.batch ≡ deletes) × (changes_of r.batch ≡ wanted_changes calls)
IsWrittenOf deletes calls (ProcessAll r) = ⊥

abbrev pub IsAskedOf : OutsideKind → List Reservation → Round → Type 0
IsAskedOf Load calls (LoadAll r) = r.keys ≡ reserved_keys calls
IsAskedOf Load calls (WriteAll r) = ⊥
IsAskedOf Load calls (ProcessAll r) = ⊥
IsAskedOf Write calls round = IsWrittenOf false calls round
IsAskedOf Delete calls round = IsWrittenOf true calls round

abbrev pub IsRest : OutsideKind → ℕ → RoundAnswers → Option SpentLoads → Type 0
IsRest Load room answers (Some rest) = AreSpent rest × (rest.batch.room ≡ room) × (room ≤ done_room answers)
IsRest Load room answers None = ⊥
IsRest Write room answers (Some rest) = ⊥
IsRest Write room answers None = Unit {0}
IsRest Delete room answers (Some rest) = ⊥
IsRest Delete room answers None = Unit {0}

pub record IsSpent (kind : OutsideKind) (room : ℕ) (answers : RoundAnswers) (rest : Option SpentLoads) : Type 0 where
  pub config : Config
  pub calls : List Reservation
  pub round : Round
  pub asked : IsAskedOf kind calls round
  pub none : AreAnswers config round answers []
  pub rest_is : IsRest kind room answers rest

-- `room` is that of the call
pub record Answered
    {I J : Type 0} {D : I → Type 0} {E : J → Type 0} (behavior : BulkBehavior ((i : I) × D i) ((j : J) × E j))
    (old : Session I J D E) (kind : OutsideKind) (room : ℕ) (tickets : List TicketClaim) (answers : RoundAnswers)
    (fault : Option Refusal) (rest : Option SpentLoads) (new : Session I J D E) : Type 0 where
  pub round : Round
  pub asked : IsAskedOf kind (map reserved_by tickets) round
  pub fault_is : fault ≡ round_fault round
  pub calls : CallsOnce behavior old.agent.hands.outside round new.agent.hands.outside
  pub answered : (config : Config) → AreAnswers config round answers (map reserved_by tickets)
  pub rest_is : IsRest kind room answers rest
  pub types : KeepsTypes old.agent new.agent
