-- A bulk call between its phases: its past, the memory of its rounds, and what it has out.
--     CallPast           the past of a call: its caller, what the session had seen of each stripe before it, and its rounds that
--                        asked
--     with_round         the past with one round more
--     reserved_by        a ticket's reservation
--     IsFresh            a ticket for which nobody was asked, of a key for which none of these rounds asked
--     AreFresh          each of these tickets is fresh
--     AreRooms           the memory of the rounds of a call with this number of keys, none of which was started
--     IsNew              a call for these keys before its first round, with room for its rounds
--     IsOn               the session's current call, with this past, which has these tickets and joins out
--     IsBetween          the call with nothing out, as between two rounds: its cause is one of the faults and refusals that it
--                        has met
--     Advances           phases of the call: what has ended stays ended, and a cause that was noted stays; of the session only
--                        its seats and its counts have changed
--     AdvancesUnnoted    as `Advances`, before the faults that they have met are noted
--     HasStarted         the first phases of a round were made: each key that waits was put off, and nobody was asked yet
--     IsStarting         the first phases are being made, and this place is next
--     IsAnswered         the tickets' asks were answered in a round of the call
--     IsCommitting       the last phases are being made, this place is next, and these tickets are left
--     HasCommitted       the last phases were made: no key is reserved
--     IsPicking          the pick-ups are being made, this place is next, and these joins are left
--     HasNoRoom          there is no room for one more ticket, or for one more join
--     KeepsJoined        a first phase: each key that has joined a load has done so since before the round
--     HasRoom            there is room for one more ticket and for one more join
--     KeepsRoom          only the tickets and the joins have changed, and there is as much room for them
--     IsOver             no key waits
use Rattle.std.specs.Prelude.{◌≡◌, ◌==◌, ◌⊎◌, ◌≤◌, ◌<◌, ℕ, List, [], ◌∷◌, ◌++◌, length, map, true, false, None, nat_lt}
use Rattle.std.specs.Prelude.{vec_capacity}
use Rattle.std.specs.List.{AllByRecursion, IsAmong, IsDistinct}
use Rattle.std.specs.Map.{keys_of}
use Rattle.std.specs.Cmp.Lexicographic.{pointwise}
use Rattle.atomic_table.specs.Seated.{TableId}
use Rattle.jc_types.specs.declared.caller.Caller.{Caller}
use Rattle.jc_types.specs.declared.limits.TheConstants.{JOINERS_MAX, RESERVATIONS_MAX}
use Rattle.jc_model.specs.Batches.{is_among}
use Rattle.jc_stripe.specs.Refusals.{last_number}
use Rattle.jc_stripe.specs.Tickets.{JoinClaim, TicketClaim}
use Rattle.jc_stripe.specs.declared.ticket.Reservation.{Reservation}
use Rattle.jc_lock.specs.declared.view.View.{View}
use Rattle.jc_cache.specs.Caches.{CacheState}
use Rattle.jc_session.specs.declared.session.Session.{Session}
use Rattle.jc_rounds.specs.declared.answers.RoundAnswers.{RoundAnswers}
use Rattle.jc_rounds.specs.declared.bulk_call.BulkCall.{BulkCall}
use Rattle.jc_rounds.specs.declared.bulk_call.Rooms.{Rooms}
use Rattle.jc_rounds.specs.declared.targets.Targets.{Targets}
use Rattle.jc_rounds.specs.Answers.{AreAnswers}
use Rattle.jc_rounds.specs.Asking.{HasAskedSoFar}
use Rattle.jc_rounds.specs.KeyProgress.{IsCauseIn, IsMet, KeepsCause, StillWaits, all_waiting, failures, holds_reservation}
use Rattle.jc_rounds.specs.KeyProgress.{waits_for_joined_load}
use Rattle.jc_rounds.specs.Rounds.{Round, asked_in, faults_in}
use Rattle.jc_rounds.specs.SoFar.{AreHeldBack, AreSettledFrom, AreUnder, IsUnderway, KeysAdvance}
use Rattle.jc_rounds.specs.Seats.{HasGrown, view_at}
use Rattle.jc_rounds.specs.Starting.{HaveJoined, IsFull, IsRoomFor}
use Rattle.jc_rounds.specs.Targets.{ops_of}

pub record CallPast : Type 0 where
  pub caller : Caller
  pub first : List (TableId × View)
  pub rounds : List Round

abbrev pub with_round : CallPast → Round → CallPast
with_round past round = record past { rounds = past.rounds ++ round ∷ [] }

abbrev pub reserved_by : TicketClaim → Reservation
reserved_by ticket = ticket.reservation

abbrev pub IsFresh : List Round → TicketClaim → Type 0
IsFresh rounds ticket =
    (ticket.asked ≡ false) × (ticket.writer_asked ≡ false) × (is_among (asked_in rounds) ticket.reservation.key ≡ false)

abbrev pub AreFresh : List Round → List TicketClaim → Type 0
AreFresh rounds tickets = AllByRecursion (IsFresh rounds) tickets

pub record AreRooms (keys stripes : ℕ) (rooms : Rooms) : Type 0 where
  pub waiting : rooms.progress.items ≡ all_waiting keys
  pub no_tickets : rooms.tickets.items ≡ []
  pub no_joins : rooms.joins.items ≡ []
  pub tickets_room : rooms.most ≤ vec_capacity rooms.tickets
  pub most : IsRoomFor RESERVATIONS_MAX keys stripes rooms.most
  pub joins_room : IsRoomFor JOINERS_MAX keys stripes (vec_capacity rooms.joins)

pub record IsNew (targets : Targets) (stripes : ℕ) (call : BulkCall) : Type 0 where
  pub targets_are : call.targets.now ≡ targets
  pub waiting : call.progress.items ≡ all_waiting (length (ops_of targets))
  pub no_tickets : call.tickets.items ≡ []
  pub no_joins : call.joins.items ≡ []
  pub no_cause : call.cause ≡ None
  pub tickets_room : call.most ≤ vec_capacity call.tickets
  pub most : IsRoomFor RESERVATIONS_MAX (length (ops_of targets)) stripes call.most
  pub joins_room : IsRoomFor JOINERS_MAX (length (ops_of targets)) stripes (vec_capacity call.joins)

module _ {I J : Type 0} {D : I → Type 0} {E : J → Type 0} (cache : CacheState) (past : CallPast) where
  pub record IsOn (session : Session I J D E) (call : BulkCall) (tickets : List TicketClaim) (joins : List JoinClaim) : Type 0 where
    pub distinct : IsDistinct (pointwise ◌==◌) (keys_of (ops_of call.targets.now))
    pub under : IsUnderway cache past.caller (ops_of call.targets.now) past.rounds past.first session call.progress.items
        (map reserved_by tickets) joins
    pub asked : HasAskedSoFar cache.config (ops_of call.targets.now) past.rounds call.progress.items
    pub met : IsMet call.cause call.progress.items (faults_in past.rounds)
    pub tickets_room : call.most ≤ vec_capacity call.tickets
    pub most : IsRoomFor RESERVATIONS_MAX (length (ops_of call.targets.now)) cache.config.stripes call.most
    pub joins_room : IsRoomFor JOINERS_MAX (length (ops_of call.targets.now)) cache.config.stripes (vec_capacity call.joins)

  pub record IsBetween (session : Session I J D E) (call : BulkCall) : Type 0 where
    pub on : IsOn session call [] []
    pub no_tickets : call.tickets.items ≡ []
    pub no_joins : call.joins.items ≡ []
    pub cause : IsCauseIn call.cause (failures call.progress.items ++ faults_in past.rounds)

  -- 1. First phases.

  pub record IsStarting (session : Session I J D E) (call : BulkCall) (place : ℕ) : Type 0 where
    pub on : IsOn session call call.tickets.items call.joins.items
    pub fresh : AreFresh past.rounds call.tickets.items
    pub few : length call.tickets.items ≤ call.most
    pub settled : AreSettledFrom place call.progress.items

  pub record HasStarted (old new : Session I J D E) (call : BulkCall) : Type 0 where
    pub on : IsOn new call call.tickets.items call.joins.items
    pub fresh : AreFresh past.rounds call.tickets.items
    pub few : length call.tickets.items ≤ call.most
    pub held : AreHeldBack
        (IsFull past.caller cache.config.stripes (ops_of call.targets.now) old.seats.items new.seats.items
        (length call.tickets.items)) (length (ops_of call.targets.now)) past.caller cache.config.stripes (ops_of call.targets.now)
        old.seats.items new.seats.items call.progress.items

  -- 2. Last phases.

  pub record IsAnswered (round : Round) (session : Session I J D E) (call : BulkCall) (answers : RoundAnswers) : Type 0 where
    pub on : IsOn session call call.tickets.items call.joins.items
    pub among : IsAmong past.rounds round
    pub answered : AreAnswers cache.config round answers (map reserved_by call.tickets.items)

  pub record IsCommitting (round : Round) (session : Session I J D E) (call : BulkCall) (left : List TicketClaim)
      (answers : RoundAnswers) (place : ℕ) : Type 0 where
    pub on : IsOn session call left call.joins.items
    pub among : IsAmong past.rounds round
    pub answered : AreAnswers cache.config round answers (map reserved_by left)
    pub committed : AreUnder holds_reservation place call.progress.items

  pub record HasCommitted (session : Session I J D E) (call : BulkCall) : Type 0 where
    pub on : IsOn session call [] call.joins.items
    pub no_tickets : call.tickets.items ≡ []

  -- 3. Pick-ups.

  pub record IsPicking (session : Session I J D E) (call : BulkCall) (left : List JoinClaim) (place : ℕ) : Type 0 where
    pub on : IsOn session call [] left
    pub no_tickets : call.tickets.items ≡ []
    pub picked : AreUnder waits_for_joined_load place call.progress.items

pub record Advances {I J : Type 0} {D : I → Type 0} {E : J → Type 0} (old new : Session I J D E)
    (call later : BulkCall) : Type 0 where
  pub goes : KeysAdvance old.seats.items new.seats.items call.progress.items later.progress.items
  pub agent : new.agent ≡ record old.agent { counts = new.agent.counts }
  pub targets : later.targets ≡ call.targets
  pub most : later.most ≡ call.most
  pub cause : KeepsCause call.cause later.cause

pub record AdvancesUnnoted {I J : Type 0} {D : I → Type 0} {E : J → Type 0} (old new : Session I J D E)
    (call later : BulkCall) : Type 0 where
  pub advances : Advances old new call later
  pub cause : later.cause ≡ call.cause

abbrev pub HasNoRoom : BulkCall → Type 0
HasNoRoom call = (call.most ≤ length call.tickets.items) ⊎ (vec_capacity call.joins ≤ length call.joins.items)

-- `start` is what the session had seen before the round
abbrev pub KeepsJoined : {I J : Type 0} {D : I → Type 0} {E : J → Type 0} → Caller → CacheState → Session I J D E → Session I J D E
    → BulkCall → BulkCall → Type 0
KeepsJoined caller cache old new call later =
    (start : List (TableId × View)) → ((i : ℕ) → HasGrown (view_at start i) (view_at old.seats.items i))
    → HaveJoined caller cache.config.stripes (ops_of call.targets.now) start old.seats.items call.progress.items
    → HaveJoined caller cache.config.stripes (ops_of later.targets.now) start new.seats.items later.progress.items

pub record HasRoom (call : BulkCall) : Type 0 where
  pub tickets : length call.tickets.items < call.most
  pub joins : length call.joins.items < vec_capacity call.joins
  pub few_tickets : nat_lt (length call.tickets.items) last_number ≡ true
  pub few_joins : nat_lt (length call.joins.items) last_number ≡ true

pub record KeepsRoom (call later : BulkCall) : Type 0 where
  pub rest : later ≡ record call { tickets = later.tickets; joins = later.joins }
  pub tickets_room : vec_capacity later.tickets ≡ vec_capacity call.tickets
  pub joins_room : vec_capacity later.joins ≡ vec_capacity call.joins

abbrev pub IsOver : BulkCall → Type 0
IsOver call = (place : ℕ) → StillWaits call.progress.items place → ⊥
