-- What holds of a value that steps which may fail give at all.
use Rattle.jc_text.proofs.Common.{◌≡◌, ℕ, List, Bool, true, false, cond, Result, Ok, Err, refl, IfOk, bytes_eq, bytes_eq-Decides, Fault, ◌>>=◌}

-- continues through a step that may fail
pub ok_bind : {A B : Type 0} (r : Result A Fault) (f : A → Result B Fault) (P : B → Type 0) → ((x : A) → IfOk (f x) P) → IfOk (r >>= f) P
ok_bind (Ok x) f P h = h x
ok_bind (Err e) f P h = tt

-- with what is known of that step's value
pub ok_then : {A B : Type 0} (r : Result A Fault) (f : A → Result B Fault) (Q : A → Type 0) (P : B → Type 0) → IfOk r Q → ((x : A) → Q x → IfOk (f x) P) → IfOk (r >>= f) P
ok_then (Ok x) f Q P q h = h x q
ok_then (Err e) f Q P q h = tt

-- through a test that has to hold
pub ok_if : {A : Type 0} (b : Bool) (r : Result A Fault) (e : Fault) (P : A → Type 0) → (b ≡ true → IfOk r P) → IfOk (cond b r (Err e)) P
ok_if true r e P h = h refl
ok_if false r e P h = tt

-- and through one that has to fail
pub ok_unless : {A : Type 0} (b : Bool) (r : Result A Fault) (e : Fault) (P : A → Type 0) → IfOk r P → IfOk (cond b (Err e) r) P
ok_unless true r e P h = tt
ok_unless false r e P h = h

-- with what is known of that test
pub ok_since : {A : Type 0} (b : Bool) (r : Result A Fault) (e : Fault) (P : A → Type 0) → (b ≡ false → IfOk r P) → IfOk (cond b (Err e) r) P
ok_since true r e P h = tt
ok_since false r e P h = h refl

-- through the comparison of a word with a text, by what holds of that text
pub ok_word : {A : Type 0} (word text : List ℕ) (found other : Result A Fault) (P : List ℕ → A → Type 0) → IfOk found (P text) → IfOk other (P word) → IfOk (cond (bytes_eq word text) found other) (P word)
ok_word {A} word text found other P h k = by (bytes_eq word text) (bytes_eq-Decides word text).0
  where
    by : (b : Bool) → (b ≡ true → word ≡ text) → IfOk (cond b found other) (P word)
    by true same = rw (same refl) h
    by false same = k

-- what follows from it
pub ok_weaker : {A : Type 0} (r : Result A Fault) (Q P : A → Type 0) → ((x : A) → Q x → P x) → IfOk r Q → IfOk r P
ok_weaker (Ok x) Q P h q = h x q
ok_weaker (Err e) Q P h q = tt
