-- Small facts of tests and of what is found.
--     denied                        a test whose converse holds doesn't hold
--     missing, same_found           what is not found is none, and what is found twice is one
--     none_some, some_back          nothing is not something, and what is there is one thing
use Rattle.jc_world.proofs.Common.{◌≡◌, Bool, true, false, not, is_some, Some, None, Option, sym, refl, ap, ◌∙◌, true≢false}

-- a test whose converse holds doesn't hold
pub denied : (b : Bool) → not b ≡ true → b ≡ true → ⊥
denied true h k = cc
denied false h k = cc

-- what cannot be there is none
pub missing : {A : Type 0} (o : Option A) → ((x : A) → o ≡ Some x → ⊥) → o ≡ None
missing None h = refl
missing (Some x) h = absurd (h x refl)

-- what is found twice is one
pub same_found : {A : Type 0} (o : Option A) (x y : A) → o ≡ Some x → o ≡ Some y → x ≡ y
same_found o x y e f = let t : Some x ≡ Some y = sym e ∙ f in cc

-- nothing is not something
pub none_some : {A : Type 0} {x : A} {o : Option A} → o ≡ None → o ≡ Some x → ⊥
none_some n s = true≢false (ap is_some (sym s) ∙ ap is_some n)

-- what is there is one thing
pub some_back : {A : Type 0} (x y : A) → Some x ≡ Some y → x ≡ y
some_back x y h = cc
