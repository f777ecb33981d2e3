-- The outcome of a pick-up, by which a call that has joined a load asks for its answer, with the reply that it has written to the
-- caller's buffer.
--     Polled    the answer, the word to retry, or the join, since the load isn't over
use Rattle.std.specs.Prelude.{ℕ}
use Rattle.jc_model.specs.declared.event.Reply.{Reply}
use Rattle.jc_stripe.specs.Tickets.{JoinClaim}

pub data Polled : Type 0 where
  Answer : (reply : Reply) (place : ℕ) (shared_with : ℕ) → Polled
  Again : Polled
  NotYet : (join : JoinClaim) → Polled
