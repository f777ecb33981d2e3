-- The calls of a saver.
--     SaveCall      a call that was to save a script under a name, and the reason if it was refused
--     Calls         the list of calls has these more at its end. `None` claims nothing
--     AreRefused    each of these calls was refused
--     SavesNothing  each call that was made was refused
use Rattle.std.specs.Prelude.{◌≡◌, ℕ, List, ◌++◌, Option, None, Some, is_some, true}
use Rattle.std.specs.List.{list_all}

pub record SaveCall : Type 0 where
  pub name : List ℕ
  pub script : List ℕ
  pub refusal : Option (List ℕ)

abbrev pub Calls : (old new : Option (List SaveCall)) → List SaveCall → Type 0
Calls None new more = Unit {0}
Calls (Some xs) None more = ⊥
Calls (Some xs) (Some ys) more = ys ≡ xs ++ more

abbrev pub AreRefused : List SaveCall → Type 0
AreRefused calls = list_all (λ call. is_some call.refusal) calls ≡ true

abbrev pub SavesNothing : (old new : Option (List SaveCall)) → Type 0
SavesNothing old new = (refused : List SaveCall) × AreRefused refused × Calls old new refused
