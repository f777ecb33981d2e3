-- What a crate above needs of the phases that a session counts.
--     phase_of        what is counted is at most one phase of the session
--     counted_with, polled_counts
--                     what a first phase and a pick-up count, whose reply was written apart
use Rattle.std.proofs.Common.{◌≡◌, inl, inr, ℕ, refl}
use Rattle.jc_model.specs.declared.event.Reply.{Reply}
use Rattle.jc_stripe.specs.State.{State}
use Rattle.jc_stripe.specs.OnePhase.{IsPhaseOf}
use Rattle.jc_session.specs.declared.counts.Counted.{Counted}
use Rattle.jc_session.specs.Counting.{IsCounted, counted_begun, counted_started, counted_picked, counted_polled}
use Rattle.jc_stripe.specs.Phases.{begun_with, polled_with}
use Rattle.jc_stripe.specs.declared.begun.Started.{Started}
use Rattle.jc_stripe.specs.declared.begun.Started.TheVariants as started
use Rattle.jc_stripe.specs.declared.begun.Picked.{Picked}
use Rattle.jc_stripe.specs.declared.begun.Picked.TheVariants as picked

pub phase_of : (counted : Counted) (session : ℕ) (old new : State) → IsCounted counted session old new → IsPhaseOf session old new
phase_of counted session old new (inl same) = inl same.0
phase_of counted session old new (inr (inl first)) = inr (inl first.0)
phase_of counted session old new (inr (inr (inl last))) = inr (inr (inl last.0))
phase_of counted session old new (inr (inr (inr (inl pick)))) = inr (inr (inr (inr (inl pick.0))))
phase_of counted session old new (inr (inr (inr (inr (inl back))))) = inr (inr (inr (inl back.0)))
phase_of counted session old new (inr (inr (inr (inr (inr forgets))))) = inr (inr (inr (inr (inr forgets.0))))

pub counted_with : (s : Started) (reply : Reply) → counted_begun (begun_with s reply) ≡ counted_started s
counted_with (started.Done step) reply = refl
counted_with (started.Asks ticket) reply = refl
counted_with (started.Joined join) reply = refl
counted_with (started.Refused refusal) reply = refl

pub polled_counts : (p : Picked) (reply : Reply) → counted_polled (polled_with p reply) ≡ counted_picked p
polled_counts (picked.Answer place shared_with) reply = refl
polled_counts picked.Again reply = refl
polled_counts (picked.NotYet join) reply = refl
