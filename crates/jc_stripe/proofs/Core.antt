-- The phases without what follows an invalidation. Each phase is one of these, and then nothing that a session sees.
--     Committed    the commit of a reservation of the session
--     Withdrawn    a reservation of the session is given back
--     IsCore       at most one of these
--     core_of      a phase is one of these, and then nothing that a session sees
use Rattle.std.proofs.Common.{◌≡◌, ◌⊎◌, ⊎_elim, inl, inr, ℕ, refl}
use Rattle.jc_model.specs.declared.event.Out.{Out}
use Rattle.jc_stripe.specs.declared.ticket.Reservation.{Reservation}
use Rattle.jc_stripe.specs.Outcomes.{StepDone}
use Rattle.jc_stripe.specs.State.{State}
use Rattle.jc_stripe.specs.Phases.{Commits, Withdraws}
use Rattle.jc_stripe.specs.Reached.{IsReached}
use Rattle.jc_stripe.specs.OnePhase.{FirstPhase, LastPhase, Withdrawal, PickUp, Forgetting, IsPhaseOf}
use Rattle.jc_stripe.proofs.Settling.{IsQuiet, quiet_same, quiet_forgetting}
use Rattle.jc_stripe.proofs.Ending.{ended, given_back}

pub record Committed (session : ℕ) (old new : State) : Type 0 where
  pub reservation : Reservation
  pub out : Out
  pub done : StepDone
  pub own : reservation.caller.session ≡ session
  pub commits : Commits old reservation out done new

pub record Withdrawn (session : ℕ) (old new : State) : Type 0 where
  pub reservation : Reservation
  pub own : reservation.caller.session ≡ session
  pub withdraws : Withdraws old reservation new

abbrev pub IsCore : ℕ → State → State → Type 0
IsCore session old new = (new ≡ old) ⊎ FirstPhase session old new ⊎ Committed session old new ⊎ Withdrawn session old new ⊎ PickUp session old new

-- one of these, and then nothing that a session sees; it is reached
pub record HasCore (session : ℕ) (old new : State) : Type 0 where
  pub mid : State
  pub core : IsCore session old mid
  pub quiet : IsReached mid → IsQuiet mid new

at_once : (session : ℕ) (old new : State) → IsCore session old new → HasCore session old new
at_once session old new core = record { mid = new; core = core; quiet = λ reached. quiet_same new reached }

pub core_of : (session : ℕ) (old new : State) → IsReached old → IsPhaseOf session old new → HasCore session old new
core_of session old new reached phase =
    ⊎_elim (λ same. at_once session old new (inl same))
    (λ rest. ⊎_elim (λ (b : FirstPhase session old new). at_once session old new (inr (inl b)))
    (λ rest. ⊎_elim (λ (b : LastPhase session old new).
    let e = ended old new b.reservation b.out b.done reached b.ends in
    record { mid = e.mid; core = inr (inr (inl (record { reservation = b.reservation; out = b.out; done = e.step; own = b.own; commits = e.commits }))); quiet = λ r. e.quiet })
    (λ rest. ⊎_elim (λ (b : Withdrawal session old new).
    let e = given_back old new b.reservation reached b.gives_back in
    record { mid = e.0; core = inr (inr (inr (inl (record { reservation = b.reservation; own = b.own; withdraws = e.1 })))); quiet = λ r. e.2 })
    (λ rest. ⊎_elim (λ (b : PickUp session old new). at_once session old new (inr (inr (inr (inr b)))))
    (λ (f : Forgetting old new). record { mid = old; core = inl refl; quiet = λ r. quiet_forgetting old new r f }) rest) rest) rest) rest) phase
