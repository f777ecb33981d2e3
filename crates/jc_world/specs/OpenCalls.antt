-- How a call under way in a world keeps what it does at its keys. No contract of a public function cites this.
--     tasks_of       what a call does, as data
--     IsCountKept    of a call of many keys, it is kept how many are open
--     IsMany         what a call does is kept as that of a call of many keys
--     IsSwept        so it is of a call that is to look at a stripe
--     are_new        keys of which no task is
--     TakesKeys      a call is still to look at a stripe, and these keys differ, also from those that it has
use Rattle.std.specs.Prelude.{◌≡◌, ◌==◌, List, [], ◌∷◌, Bool, true, Option, Some, is_none, is_some, length}
use Rattle.std.specs.List.{list_all, IsDistinct}
use Rattle.std.specs.Map.{lookup}
use Rattle.std.specs.Cmp.Lexicographic.{pointwise}
use Rattle.jc_model.specs.Cache.{Bytes}
use Rattle.jc_world.specs.Calls.{CallState, SweepState, Task, open_in}
use Rattle.jc_world.specs.declared.tasks.Tasks.{Tasks}
use Rattle.jc_world.specs.declared.tasks.Tasks.TheVariants.{One, Many}

abbrev pub tasks_of : Tasks → List Task
tasks_of (One key op) = (key, op) ∷ []
tasks_of (Many ops count) = ops.entries

abbrev pub IsCountKept : Tasks → Type 0
IsCountKept (One key op) = Unit {0}
IsCountKept (Many ops count) = count ≡ length (open_in ops.entries)

abbrev pub IsMany : Tasks → Type 0
IsMany (One key op) = ⊥
IsMany (Many ops count) = Unit {0}

abbrev pub IsSwept : Option SweepState → Tasks → Type 0
IsSwept sweep tasks = is_some sweep ≡ true → IsMany tasks

abbrev pub are_new : List Task → List Bytes → Bool
are_new tasks keys = list_all (λ key. is_none (lookup (pointwise ◌==◌ key) tasks)) keys

pub record TakesKeys (keys : List Bytes) (u : CallState) : Type 0 where
  pub sweep : SweepState
  pub sweep_is : u.sweep ≡ Some sweep
  pub new : are_new u.tasks keys ≡ true
  pub distinct : IsDistinct (pointwise ◌==◌) keys
