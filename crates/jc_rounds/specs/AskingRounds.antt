-- Rounds of a call, with their calls outside.
--     KeepsTickets   the tickets stand for the same reservations, with as much room for them
--     HasReserved    a round has reserved keys, and nobody was asked for them yet
--     IsRoundTold    a round asked this outside for the keys that it has reserved, and these are the answers
--     RunsRounds     rounds of a call, with these calls outside: the call goes on, and of its session only seats, counts and
--                    hands have changed
use Rattle.std.specs.Prelude.{◌≡◌, List, [], map, Option, vec_capacity}
use Rattle.std.specs.Global.{Vec}
use Rattle.jc_types.specs.declared.refusal.Refusal.{Refusal}
use Rattle.jc_stripe.specs.Tickets.{TicketClaim}
use Rattle.jc_cache.specs.Caches.{CacheState}
use Rattle.jc_cache.specs.Sessions.{IsOf}
use Rattle.jc_session.specs.declared.session.Session.{Session}
use Rattle.jc_rounds.specs.declared.answers.RoundAnswers.{RoundAnswers}
use Rattle.jc_rounds.specs.declared.bulk_call.BulkCall.{BulkCall}
use Rattle.jc_rounds.specs.Answers.{AreAnswers}
use Rattle.jc_rounds.specs.Asking.{AsksFor, reserved_keys}
use Rattle.jc_rounds.specs.Rounds.{Round, keys_asked, round_fault}
use Rattle.jc_rounds.specs.Running.{HasRun, with_rounds}
use Rattle.jc_rounds.specs.Targets.{ops_of}
use Rattle.jc_rounds.specs.Underway.{Advances, CallPast, HasStarted, reserved_by}

pub record KeepsTickets (tickets tickets' : Vec TicketClaim) : Type 0 where
  pub reservations : map reserved_by tickets'.items ≡ map reserved_by tickets.items
  pub room : vec_capacity tickets' ≡ vec_capacity tickets

-- `old` and `before` are the session and the call before the round
pub record HasReserved {I J : Type 0} {D : I → Type 0} {E : J → Type 0} (cache : CacheState) (past : CallPast)
    (session : Session I J D E) (call : BulkCall) : Type 0 where
  pub old : Session I J D E
  pub before : BulkCall
  pub run : HasRun cache past old before
  pub started : HasStarted cache past old session call
  pub advances : Advances old session before call
  pub some : call.tickets.items ≡ [] → ⊥

-- `asking` and `reserving` are the session and the call once the round has reserved its keys; `fault` is what the writer returned
pub record IsRoundTold {I J : Type 0} {D : I → Type 0} {E : J → Type 0} (cache : CacheState) (past : CallPast) (round : Round)
    (session : Session I J D E) (call : BulkCall) (answers : RoundAnswers) (fault : Option Refusal) : Type 0 where
  pub asking : Session I J D E
  pub reserving : BulkCall
  pub reserved : HasReserved cache past asking reserving
  pub own : IsOf cache session
  pub rest : session ≡ record asking { agent = record asking.agent { hands = session.agent.hands } }
  pub kept : KeepsTickets reserving.tickets call.tickets
  pub call_is : call ≡ record reserving { tickets = call.tickets }
  pub keys : keys_asked round ≡ reserved_keys (map reserved_by reserving.tickets.items)
  pub asks : AsksFor cache.config (ops_of reserving.targets.now) round
  pub fault_is : fault ≡ round_fault round
  pub answered : AreAnswers cache.config round answers (map reserved_by reserving.tickets.items)

pub record RunsRounds {I J : Type 0} {D : I → Type 0} {E : J → Type 0} (Asked : List Round → Type 0) (cache : CacheState)
    (past : CallPast) (old : Session I J D E) (call : BulkCall) (new : Session I J D E) (later : BulkCall) : Type 0 where
  pub rounds : List Round
  pub asked : Asked rounds
  pub run : HasRun cache (with_rounds past rounds) new later
  pub agent : new.agent ≡ record old.agent { counts = new.agent.counts; hands = new.agent.hands }
  pub targets : later.targets ≡ call.targets
  pub most : later.most ≡ call.most
