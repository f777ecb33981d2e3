-- The limits of a configuration, tested in order.
--     is_between   whether a number is at least the low limit and at most the high one
--     is_session   whether a number is that of a session: from 1 to the most sessions
--     check        nothing if each field is within its limits, otherwise the refusal of the first one that isn't
use Rattle.std.specs.Prelude.{ℕ, Bool, ◌&&◌, nat_le, Result, Ok, Err, if◌then◌else◌}
use Rattle.jc_types.specs.declared.config.Config.{Config}
use Rattle.jc_types.specs.declared.refusal.Refusal.{Refusal}
use Rattle.jc_types.specs.declared.refusal.Refusal.TheVariants.{BadConfig}
use Rattle.jc_types.specs.declared.config.Field.TheVariants.{Stripes, Capacity, History}
use Rattle.jc_types.specs.declared.limits.TheConstants.{STRIPES_MAX, CAPACITY_MAX, HISTORY_MIN, HISTORY_MAX, SESSIONS_MAX}

-- whether a number is at least the low limit and at most the high one
abbrev pub is_between : ℕ → ℕ → ℕ → Bool
is_between low high n = nat_le low n && nat_le n high

-- whether a number is that of a session
abbrev pub is_session : ℕ → Bool
is_session session = is_between 1 SESSIONS_MAX session

-- nothing if each field is within its limits, otherwise the refusal of the first one that isn't
abbrev pub check : Config → Result (Unit {0}) Refusal
check config =
    if is_between 1 STRIPES_MAX config.stripes
    then (if is_between 1 CAPACITY_MAX config.capacity
    then (if is_between HISTORY_MIN HISTORY_MAX config.history then Ok tt else Err (BadConfig History))
    else Err (BadConfig Capacity))
    else Err (BadConfig Stripes)
