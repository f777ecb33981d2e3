-- The keys of a bulk call, and the operation at each of them.
--     ops_with    these keys, each with the same operation
--     put_ops     these keys, each put with its value
--     ops_of      the keys that a call works on, with its operations
use Rattle.std.specs.Prelude.{List, map}
use Rattle.jc_model.specs.Cache.{Bytes}
use Rattle.jc_model.specs.declared.event.Op.{Op}
use Rattle.jc_model.specs.declared.event.Op.TheVariants.{Put}
use Rattle.jc_rounds.specs.declared.targets.Targets.{Targets}
use Rattle.jc_rounds.specs.declared.targets.Targets.TheVariants as targets

abbrev pub ops_with : Op → List Bytes → List (Bytes × Op)
ops_with op keys = map (λ (key : Bytes). (key, op)) keys

abbrev pub put_ops : List (Bytes × Bytes) → List (Bytes × Op)
put_ops entries = map (λ (e : Bytes × Bytes). (e.0, Put e.1)) entries

abbrev pub ops_of : Targets → List (Bytes × Op)
ops_of (targets.Each keys op) = ops_with op keys.now
ops_of (targets.Puts entries) = put_ops entries.now.entries
