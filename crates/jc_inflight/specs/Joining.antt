-- The calls that have joined a load, as a list in the order of joining.
--     belongs_to   whether a joiner is this caller's, at this key
--     has_joined   whether one of the joiners is this caller's, at this key
--     is_waiting   whether the load of a joiner in this state isn't over
--     waits        whether a joiner waits, for any load
--     waits_for    whether a joiner waits for this load
--     callers_of   the callers that wait for the load
--     joiners_with the joiners with one more at the end, which waits
use Rattle.std.specs.Prelude.{◌==◌, ◌&&◌, ℕ, filter, map, List, [], ◌∷◌, ◌++◌, Bool, true, false}
use Rattle.std.specs.List.{list_any}
use Rattle.std.specs.Cmp.Lexicographic.{pointwise}
use Rattle.jc_types.specs.declared.caller.Caller.{Caller}
use Rattle.jc_model.specs.Cache.{Bytes}
use Rattle.jc_inflight.specs.declared.joiner.Joiner.{Joiner}
use Rattle.jc_inflight.specs.declared.joiner.JoinState.{JoinState}
use Rattle.jc_inflight.specs.declared.joiner.JoinState.TheVariants.{Waiting, Answered, Again}

abbrev pub belongs_to : Caller → Bytes → Joiner → Bool
belongs_to caller key j = (j.caller.session == caller.session) && (j.caller.call == caller.call) && pointwise ◌==◌ key j.key

abbrev pub has_joined : Caller → Bytes → List Joiner → Bool
has_joined caller key joiners = list_any (belongs_to caller key) joiners

abbrev pub is_waiting : JoinState → Bool
is_waiting Waiting = true
is_waiting (Answered place shared_with) = false
is_waiting Again = false

abbrev pub waits : Joiner → Bool
waits j = is_waiting j.state

abbrev pub waits_for : ℕ → Joiner → Bool
waits_for load j = (j.load == load) && waits j

abbrev pub callers_of : ℕ → List Joiner → List Caller
callers_of load joiners = map (λ j. j.caller) (filter (waits_for load) joiners)

abbrev pub joiners_with : Caller → Bytes → ℕ → List Joiner → List Joiner
joiners_with caller key load joiners = joiners ++ record { caller = caller; key = key; load = load; state = Waiting } ∷ []
