-- What the invalidation of a key promises, or of all keys of a stripe: a law over every later phase.
--     BeginsAt     a first phase of a call at a key, which isn't refused
--     GoesOn       a phase of some session, or the end of a generation, leads from one state to the next
--     Passes       the states that a stripe goes through, one after another, up to a last one
--     BeginsAmong  a call begins at the key on the way, and the key was forgotten up to then
--     Forgets      the law: a key is forgotten once it was invalidated, or all were; it stays so in every phase of every session
--                  and at the end of a generation, until a call begins at it; and that call finds no entry and joins no load. So it
--                  is over any number of phases
use Rattle.std.specs.Prelude.{◌≡◌, ◌⊎◌, ℕ, List, [], ◌∷◌, true, None}
use Rattle.jc_types.specs.declared.caller.Caller.{Caller}
use Rattle.jc_model.specs.declared.event.Op.{Op}
use Rattle.jc_model.specs.Cache.{Bytes, entry_at}
use Rattle.jc_stripe.specs.Outcomes.{Begun}
use Rattle.jc_stripe.specs.State.{State}
use Rattle.jc_stripe.specs.Refusals.{first_refusal, load_joined}
use Rattle.jc_stripe.specs.Phases.{Begins}
use Rattle.jc_stripe.specs.Reached.{IsReached}
use Rattle.jc_stripe.specs.OnePhase.{IsPhaseOf}
use Rattle.jc_stripe.specs.Generations.{after_renewal}
use Rattle.jc_stripe.specs.Invalidating.{Invalidates, InvalidatesAll, is_forgotten}

-- a call that begins at the key finds no entry, and joins no load
pub record BeginsAt (old : State) (key : Bytes) (new : State) : Type 0 where
  pub caller : Caller
  pub op : Op
  pub begun : Begun
  pub begins : Begins old caller key op begun new
  pub unrefused : first_refusal old caller key op ≡ None
  pub missing : entry_at old.cache key ≡ None
  pub alone : load_joined old key op ≡ None

abbrev pub GoesOn : State → State → Type 0
GoesOn old new = ((session : ℕ) × IsPhaseOf session old new) ⊎ (new ≡ after_renewal old)

abbrev pub Passes : State → List State → State → Type 0
Passes old [] new = new ≡ old
Passes old (next ∷ states) new = IsReached old × GoesOn old next × Passes next states new

abbrev pub BeginsAmong : State → Bytes → List State → Type 0
BeginsAmong old key [] = ⊥
BeginsAmong old key (next ∷ states) = BeginsAt old key next ⊎ ((is_forgotten next key ≡ true) × BeginsAmong next key states)

pub record Forgets : Type 0 where
  pub invalidated : (old new : State) (key : Bytes) → Invalidates old key new → is_forgotten new key ≡ true
  pub all : (old new : State) (key : Bytes) → InvalidatesAll old new → is_forgotten new key ≡ true
  pub stays : (session : ℕ) (old new : State) (key : Bytes) → IsReached old → IsPhaseOf session old new
      → is_forgotten old key ≡ true
      → (is_forgotten new key ≡ true) ⊎ BeginsAt old key new
  pub along : (old new : State) (states : List State) (key : Bytes) → Passes old states new → is_forgotten old key ≡ true
      → (is_forgotten new key ≡ true) ⊎ BeginsAmong old key states
