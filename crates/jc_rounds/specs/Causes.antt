-- The cause that a call with many keys returns.
--     HasFailed    the session had seen a step of the call that replied this fault
--     HasMet       `HasFailed`, or the writer had returned this fault in one of these rounds
--     HasRefused   by what the session had seen, a key of the call has ended in this refusal: no round had asked for it, and the
--                  seat had found the stripe full for it; or an allocation failed, after a round that asked, in a call whose
--                  later rounds take memory
--     IsFirst      if the call had met a fault by the end of one of its rounds, its cause is a fault that it had met by then, or
--                  such a refusal
use Rattle.std.specs.Prelude.{◌≡◌, ◌⊎◌, ◌++◌, ℕ, List, [], ◌∷◌, Option, Some, Err}
use Rattle.std.specs.List.{IsAmong}
use Rattle.atomic_table.specs.Seated.{TableId}
use Rattle.jc_types.specs.declared.caller.Caller.{Caller}
use Rattle.jc_types.specs.declared.config.Config.{Config}
use Rattle.jc_types.specs.declared.refusal.Refusal.{Refusal}
use Rattle.jc_model.specs.Cache.{Bytes}
use Rattle.jc_model.specs.declared.event.Event.TheVariants.{Step}
use Rattle.jc_model.specs.declared.event.Op.{Op}
use Rattle.jc_model.specs.declared.event.Out.{Out}
use Rattle.jc_model.specs.declared.event.Reply.TheVariants.{Fault}
use Rattle.jc_lock.specs.declared.view.View.{View}
use Rattle.jc_rounds.specs.Keys.{EndsKey}
use Rattle.jc_rounds.specs.Recorded.{steps_of}
use Rattle.jc_rounds.specs.Rounds.{Round, faults_in}
use Rattle.jc_rounds.specs.Seats.{view_of}
use Rattle.jc_rounds.specs.Starting.{RoundEnd}

module _ (config : Config) (caller : Caller) (targets : List (Bytes × Op)) where
  abbrev pub HasFailed : List (TableId × View) → Refusal → Type 0
  HasFailed seats fault =
      (key : Bytes) × (op : Op) × (out : Out) × (shared : Option ℕ) × IsAmong targets (key, op)
      × (steps_of caller key (view_of config.stripes seats key).own ≡ Step caller op key out shared (Fault fault) ∷ [])

  abbrev pub HasMet : List Round → List (TableId × View) → Refusal → Type 0
  HasMet rounds seats fault = IsAmong (faults_in rounds) fault ⊎ HasFailed seats fault

  -- `old` are the seats from before the call
  abbrev pub HasRefused : List (TableId × View) → List Round → List (TableId × View) → Refusal → Type 0
  HasRefused old rounds seats refusal =
      (key : Bytes) × (op : Op) × IsAmong targets (key, op)
      × EndsKey config caller rounds (view_of config.stripes old key) (view_of config.stripes seats key) key op (Err refusal)

  -- `before` are the calls outside of the rounds before these
  abbrev pub IsFirst : List (TableId × View) → List Round → List RoundEnd → Option Refusal → Type 0
  IsFirst old before [] cause = Unit {0}
  IsFirst old before (e ∷ es) cause =
      ((fault : Refusal) → HasMet (before ++ e.calls) e.seats fault
      → (first : Refusal) × (cause ≡ Some first)
      × (HasRefused old (before ++ e.calls) e.seats first ⊎ HasMet (before ++ e.calls) e.seats first))
      × IsFirst old (before ++ e.calls) es cause
