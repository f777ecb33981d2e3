-- Records of which some calls are forgotten, and the smallest part of a refusal.
--     with_role        a call with another role
--     with_roles       calls with these roles, from the first one on
--     if_kept          a call, forgotten unless it is kept
--     forget           calls, those forgotten that aren't kept
--     whole            the calls of a search for a part, with their own roles
--     HasRoles         each call of a search for a part has a role of its own
--     IsSame           two searches for a part are of the same calls, with the same room for each try
--     MeetsMore        more nodes than this number can be met
--     IsTrial          what a try says of a record is right
--     IsLeft           no turns explain the record of which these calls are kept
--     without          what is kept, without one more call
--     IsKept           a call is kept
--     IsNeed           what is said of one call of a part is right: it is forgotten; or it is kept, and without it some turns
--                      explain the record, or more nodes than the limit can be met
--     AreNeeds         the same of some calls, the first of which has this number
--     IsRoundEnd       what a round over the calls of a part says is right
--     IsSettledPart    what is kept and what is said of each call is right
--     IsRefutedPart    a part of a refusal is right: its calls are those of the record, those forgotten that aren't kept; no turns
--                      explain them; and what is said of each call is right
--     is_settled_need  a call is forgotten, or known to be needed
use Rattle.std.specs.Prelude.{◌≡◌, ℕ, ◌+◌, List, [], ◌∷◌, Bool, true, false, length, Some, set, slice_get}
use Rattle.jc_check.specs.declared.record.Recorded.{Recorded}
use Rattle.jc_check.specs.declared.record.Role.{Role}
use Rattle.jc_check.specs.declared.record.Role.TheVariants as role
use Rattle.jc_check.specs.declared.record.Rules.{Rules}
use Rattle.jc_check.specs.declared.record.Spot.{Spot}
use Rattle.jc_check.specs.declared.smallest.Need.{Need}
use Rattle.jc_check.specs.declared.smallest.Need.TheVariants as need
use Rattle.jc_check.specs.declared.smallest.RefutedPart.{RefutedPart}
use Rattle.jc_check.specs.declared.smallest.RoundEnd.{RoundEnd}
use Rattle.jc_check.specs.declared.smallest.RoundEnd.TheVariants as round
use Rattle.jc_check.specs.declared.smallest.Shrinking.{Shrinking}
use Rattle.jc_check.specs.declared.smallest.Trial.{Trial}
use Rattle.jc_check.specs.declared.smallest.Trial.TheVariants as trial
use Rattle.jc_check.specs.declared.states.States.{States}
use Rattle.jc_check.specs.Explains.{IsExplained}
use Rattle.jc_check.specs.Verdict.{HasMet}

-- 1. Forgotten calls.

abbrev pub with_role : Recorded → Role → Recorded
with_role c r = record c { role = r }

abbrev pub with_roles : List Role → List Recorded → List Recorded
with_roles [] calls = calls
with_roles (r ∷ roles) [] = []
with_roles (r ∷ roles) (c ∷ calls) = with_role c r ∷ with_roles roles calls

abbrev pub if_kept : Bool → Recorded → Recorded
if_kept true c = c
if_kept false c = with_role c role.Forgotten

abbrev pub forget : List Bool → List Recorded → List Recorded
forget [] calls = calls
forget (k ∷ kept) [] = []
forget (k ∷ kept) (c ∷ calls) = if_kept k c ∷ forget kept calls

-- 2. Tries.

abbrev pub whole : Shrinking → List Recorded
whole s = with_roles s.own.items s.calls.items

abbrev pub HasRoles : Shrinking → Type 0
HasRoles s = length s.own.items ≡ length s.calls.items

pub record IsSame (old new : Shrinking) : Type 0 where
  pub calls : whole new ≡ whole old
  pub each : new.each ≡ old.each
  pub roles : HasRoles new

abbrev pub MeetsMore : Rules → List Recorded → Spot → ℕ → Type 0
MeetsMore rules calls opening limit = (states : States) × HasMet rules calls opening limit states

abbrev pub IsTrial : Rules → List Recorded → Spot → ℕ → Trial → Type 0
IsTrial rules calls opening limit trial.Refuted = IsExplained rules calls opening → ⊥
IsTrial rules calls opening limit trial.Explained = IsExplained rules calls opening
IsTrial rules calls opening limit trial.Stopped = MeetsMore rules calls opening limit
IsTrial rules calls opening limit trial.Untried = Unit {0}

abbrev pub IsLeft : Rules → List Recorded → Spot → List Bool → Type 0
IsLeft rules calls opening kept = IsExplained rules (forget kept calls) opening → ⊥

-- 3. Parts.

abbrev pub without : List Bool → ℕ → List Bool
without kept call = set kept call false

abbrev pub IsKept : List Bool → ℕ → Type 0
IsKept kept call = slice_get kept call ≡ Some true

abbrev pub IsNeed : Rules → List Recorded → Spot → ℕ → List Bool → ℕ → Need → Type 0
IsNeed rules calls opening limit kept call need.Forgotten = slice_get kept call ≡ Some false
IsNeed rules calls opening limit kept call need.Needed =
    IsKept kept call × IsExplained rules (forget (without kept call) calls) opening
IsNeed rules calls opening limit kept call need.Unclear =
    IsKept kept call × MeetsMore rules (forget (without kept call) calls) opening limit
IsNeed rules calls opening limit kept call need.Untried = IsKept kept call

abbrev pub AreNeeds : Rules → List Recorded → Spot → ℕ → List Bool → ℕ → List Need → Type 0
AreNeeds rules calls opening limit kept from [] = Unit {0}
AreNeeds rules calls opening limit kept from (n ∷ needs) =
    IsNeed rules calls opening limit kept from n × AreNeeds rules calls opening limit kept (from + 1) needs

abbrev pub IsRoundEnd : Rules → List Recorded → Spot → ℕ → List Bool → RoundEnd → Type 0
IsRoundEnd rules calls opening limit kept (round.All needs) =
    (length needs.items ≡ length kept) × AreNeeds rules calls opening limit kept 0 needs.items
IsRoundEnd rules calls opening limit kept (round.Fewer fewer) =
    (length fewer.items ≡ length kept) × IsLeft rules calls opening fewer.items

pub record IsSettledPart (rules : Rules) (calls : List Recorded) (opening : Spot) (limit count : ℕ) (kept : List Bool)
    (needs : List Need) : Type 0 where
  pub left : IsLeft rules calls opening kept
  pub marks : length kept ≡ count
  pub each : length needs ≡ count
  pub right : AreNeeds rules calls opening limit kept 0 needs

pub record IsRefutedPart (rules : Rules) (calls : List Recorded) (opening : Spot) (limit : ℕ) (p : RefutedPart) : Type 0 where
  pub forgets : p.calls.items ≡ forget p.kept.items calls
  pub none : IsExplained rules p.calls.items opening → ⊥
  pub marks : length p.kept.items ≡ length calls
  pub each : length p.needs.items ≡ length calls
  pub right : AreNeeds rules calls opening limit p.kept.items 0 p.needs.items

abbrev pub is_settled_need : Need → Bool
is_settled_need need.Forgotten = true
is_settled_need need.Needed = true
is_settled_need need.Unclear = false
is_settled_need need.Untried = false
