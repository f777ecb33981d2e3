-- The keys of `get_all`, `put_all` and the other bulk calls, with the operation at each.
--     get_ops, remove_ops, clear_ops, load_ops    each key is got, removed, cleared or loaded
use Rattle.std.specs.Prelude.{Bool, List}
use Rattle.jc_model.specs.Cache.{Bytes}
use Rattle.jc_model.specs.declared.event.Op.{Op}
use Rattle.jc_model.specs.declared.event.Op.TheVariants as op
use Rattle.jc_rounds.specs.Targets.{ops_with}

abbrev pub get_ops : List Bytes → List (Bytes × Op)
get_ops keys = ops_with op.Get keys

abbrev pub remove_ops : List Bytes → List (Bytes × Op)
remove_ops keys = ops_with op.Remove keys

abbrev pub clear_ops : List Bytes → List (Bytes × Op)
clear_ops keys = ops_with op.Clear keys

abbrev pub load_ops : Bool → List Bytes → List (Bytes × Op)
load_ops replace keys = ops_with (op.LoadAll replace) keys
