-- Attempts at the members of a collection, each a call of one closure that may fail. No contract of a public function cites this.
--     FailsAt         an attempt at this key was made, and the flag tells whether it failed
--     FailsAtEntry    an attempt at this entry was made, and the flag tells whether it failed; the entry's value stays
use Rattle.std.specs.Prelude.{◌≡◌, ℕ, Bool, Result, is_err}
use denote.Ref.{Bor}
use Rattle.std.specs.Fn.{Mut, CalledAt, CalledAtTwo}
use Rattle.jc_model.specs.Cache.{Bytes}

abbrev pub FailsAt : {F : Type 0} → Mut F (Bor Bytes × Unit {0}) (Result (Unit {0}) ℕ) → F → Bytes → Bool → F → Type 0
FailsAt calls before key failed after =
    (outcome : Result (Unit {0}) ℕ) × CalledAt calls before key outcome after × (failed ≡ is_err outcome)

abbrev pub FailsAtEntry : {F : Type 0} → Mut F (Bor Bytes × (Bor Bytes × Unit {0})) (Result (Unit {0}) ℕ)
    → F → Bytes → Bytes → Bool → Bytes → F → Type 0
FailsAtEntry calls before key value failed left after =
    (outcome : Result (Unit {0}) ℕ) × CalledAtTwo calls before key value outcome after × (failed ≡ is_err outcome) × (left ≡ value)
