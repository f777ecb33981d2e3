-- How an entry answers the calls of its processor, and changes, by the one state that it keeps. No contract of a public function
-- cites this.
--     is_present         whether a value is there: by the net effect, otherwise by the initial value, otherwise by the load
--     outcome_by_load    the outcome of `getValue` while nothing has mutated the entry
--     get_outcome        the outcome of `getValue`
--     effect_after       the net effect after one more mutation: after a failed load none counts
--     is_load_failed     whether the load failed
--     get_result         the return of `getValue` once the loader has answered
use Rattle.std.specs.Prelude.{ℕ, Bool, true, false, ◌&&◌, ◌||◌, Option, None, Some, Result, Ok, Err, is_some, is_none}
use Rattle.std.specs.Prelude.{if◌then◌else◌}
use Rattle.jc_model.specs.Cache.{Bytes}
use Rattle.jc_model.specs.declared.event.LoadAnswer.{LoadAnswer}
use Rattle.jc_model.specs.declared.event.LoadAnswer.TheVariants as load
use Rattle.jc_model.specs.declared.event.Effect.{Effect}
use Rattle.jc_model.specs.declared.event.Effect.TheVariants as effect
use Rattle.jc_model.specs.Processor.{found_in}
use Rattle.jc_mutentry.specs.declared.entry_core.GetOutcome.{GetOutcome}
use Rattle.jc_mutentry.specs.declared.entry_core.GetOutcome.TheVariants.{Value, MustLoad, Failed}

abbrev pub is_present : Option Bytes → LoadAnswer → Effect → Bool
is_present initial answer (effect.Set value) = true
is_present initial answer effect.Remove = false
is_present initial answer effect.Keep = is_some initial || is_some (found_in answer)

abbrev pub outcome_by_load : Option Bytes → Bool → LoadAnswer → GetOutcome
outcome_by_load initial may_load (load.Found value) = Value (Some value)
outcome_by_load initial may_load load.Nothing = Value None
outcome_by_load initial may_load (load.Failed code) = Failed code
outcome_by_load initial may_load load.NotAsked = if may_load && is_none initial then MustLoad else Value initial

abbrev pub get_outcome : Option Bytes → Bool → LoadAnswer → Effect → GetOutcome
get_outcome initial may_load answer (effect.Set value) = Value (Some value)
get_outcome initial may_load answer effect.Remove = Value None
get_outcome initial may_load answer effect.Keep = outcome_by_load initial may_load answer

abbrev pub is_load_failed : LoadAnswer → Bool
is_load_failed (load.Failed code) = true
is_load_failed load.NotAsked = false
is_load_failed (load.Found value) = false
is_load_failed load.Nothing = false

abbrev pub effect_after : LoadAnswer → Effect → Effect → Effect
effect_after answer old next = if is_load_failed answer then old else next

abbrev pub get_result : LoadAnswer → Result (Option Bytes) ℕ
get_result (load.Found value) = Ok (Some value)
get_result load.Nothing = Ok None
get_result load.NotAsked = Ok None
get_result (load.Failed code) = Err code
