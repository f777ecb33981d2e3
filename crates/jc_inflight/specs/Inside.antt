-- The meaning of the field of `Joiners`, and its invariant. Callers see the list alone. No contract of a public function cites
-- this.
--     joiners_of     the list that it means
--     HasJoiners     that list satisfies `IsJoinerList`
use Rattle.std.specs.Prelude.{List}
use Rattle.jc_inflight.specs.declared.joiner.Joiner.{Joiner}
use Rattle.jc_inflight.specs.declared.joiners.Joiners.TheInside.{Inside}
use Rattle.jc_inflight.specs.IsJoinerList.{IsJoinerList}

abbrev pub joiners_of : Inside → List Joiner
joiners_of a = a.joiners.items

pub record HasJoiners (a : Inside) : Type 0 where
  pub list : IsJoinerList a.joiners.items
