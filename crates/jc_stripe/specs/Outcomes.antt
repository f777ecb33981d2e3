-- The outcomes of first and last phases, each with the reply that the phase has written to the caller's buffer.
--     StepDone    a step that was appended to the history, with its reply and the evictions that belong to it
--     Begun       the outcome of a first phase: a step, a reservation, a join or a refusal
use Rattle.std.specs.Prelude.{ℕ, Option}
use Rattle.jc_types.specs.declared.refusal.Refusal.{Refusal}
use Rattle.jc_model.specs.declared.event.Reply.{Reply}
use Rattle.jc_model.specs.Cache.{Bytes}
use Rattle.jc_stripe.specs.declared.begun.Eviction.{Eviction}
use Rattle.jc_stripe.specs.Tickets.{TicketClaim, JoinClaim}

pub record StepDone : Type 0 where
  pub reply : Reply
  pub place : ℕ
  pub victim : Option Bytes
  pub evicted : Option Eviction

pub data Begun : Type 0 where
  Done : (done : StepDone) → Begun
  Asks : (ticket : TicketClaim) → Begun
  Joined : (join : JoinClaim) → Begun
  Refused : (refusal : Refusal) → Begun
