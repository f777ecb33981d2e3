-- What a watch is told.
--     Progress     how many states a search has followed, how many it knows, and how many final states it has found
--     WatchCall    a call of a watch: the progress of a search, or that the search is over
--     Tells        the list of a watch's calls has these more at its end. `None` claims nothing
--     calls_of     the calls for a search: one for each progress, and that it is over
use Rattle.std.specs.Prelude.{◌≡◌, ℕ, List, [], ◌∷◌, ◌++◌, map, Option, None, Some}

pub record Progress : Type 0 where
  pub followed : ℕ
  pub known : ℕ
  pub found : ℕ

pub data WatchCall : Type 0 where
  OnStates : (progress : Progress) → WatchCall
  OnEnd : WatchCall

abbrev pub Tells : (old new : Option (List WatchCall)) → List WatchCall → Type 0
Tells None new more = Unit {0}
Tells (Some xs) None more = ⊥
Tells (Some xs) (Some ys) more = ys ≡ xs ++ more

abbrev pub calls_of : List Progress → List WatchCall
calls_of rows = map OnStates rows ++ OnEnd ∷ []
