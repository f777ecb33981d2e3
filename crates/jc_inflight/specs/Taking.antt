-- A joiner, a call that has joined a load, asks for its answer: what it is told, and the joiners afterwards.
--     join_state_of      the state of the load that the caller has joined at the key, if it has joined one
--     is_over            whether there is such a load, and it is over
--     joiners_without    the joiners of the other callers and keys
--     joiners_after_take the joiners after the call has asked: without its joiner if the load is over
use Rattle.std.specs.Prelude.{List, Bool, false, not, find, filter, Option, None, Some, option_map, if◌then◌else◌}
use Rattle.jc_types.specs.declared.caller.Caller.{Caller}
use Rattle.jc_model.specs.Cache.{Bytes}
use Rattle.jc_inflight.specs.declared.joiner.Joiner.{Joiner}
use Rattle.jc_inflight.specs.declared.joiner.JoinState.{JoinState}
use Rattle.jc_inflight.specs.Joining.{belongs_to, is_waiting}

abbrev pub join_state_of : Caller → Bytes → List Joiner → Option JoinState
join_state_of caller key joiners = option_map (λ j. j.state) (find (belongs_to caller key) joiners)

abbrev pub is_over : Option JoinState → Bool
is_over None = false
is_over (Some state) = not (is_waiting state)

abbrev pub joiners_without : Caller → Bytes → List Joiner → List Joiner
joiners_without caller key joiners = filter (λ j. not (belongs_to caller key j)) joiners

abbrev pub joiners_after_take : Caller → Bytes → List Joiner → List Joiner
joiners_after_take caller key joiners =
    if is_over (join_state_of caller key joiners) then joiners_without caller key joiners else joiners
