-- The `open` line of a program of threads: the shape that it gives, or its fault.
--     shape_fault    the fault of a line whose shape of a cache is refused
--     has_shape      a cache may have the shape that was read
use Rattle.std.specs.Prelude.{Bool, true, is_ok, Option, None, Some}
use Rattle.jc_types.specs.declared.config.Config.{Config}
use Rattle.jc_types.specs.declared.refusal.Refusal.{Refusal}
use Rattle.jc_types.specs.declared.refusal.Refusal.TheVariants as refusal
use Rattle.jc_types.specs.Limits.{check}
use Rattle.jc_text.specs.declared.fault.Fault.{Fault}
use Rattle.jc_text.specs.declared.fault.Fault.TheVariants.{BadConfig, BadLine}

abbrev pub shape_fault : Refusal → Fault
shape_fault (refusal.BadConfig field) = BadConfig field
shape_fault other = BadLine

abbrev pub has_shape : Option Config → Bool
has_shape None = true
has_shape (Some config) = is_ok (check config)
