-- Words as they are spelled, and read.
use Rattle.jc_text.proofs.Common.{◌≡◌, ◌∙◌, ◌==◌, ℕ, zero, suc, ◌+◌, ◌-◌, ◌*◌, ◌/◌, ◌%◌, ◌^◌, ◌<◌, ◌≤◌, Bool, true, false, cond, List, [], ◌∷◌, ◌++◌, length, get_or, Result, Ok, Err, inl, inr, refl, ap, arith, decimal, codes, ◌&&◌, nat_le, nat_lt, ◌⊎◌, list_all, bytes_eq, and_from, and_parts, leb-true, common_steps, decimal_by_steps, decimal_digit, decimal_nonempty, first_decimal, Fault, BadNumber, BadCaller, SESSIONS_MAX, VALUE_MAX, is_session, ◌>>=◌, digits_from, number_of, caller_of, is_digit, is_letter, value_of, is_text, value_text}

-- ---- numbers

pass_on : (t : Bool) (x y : Result ℕ Fault) (f : ℕ → Result ℕ Fault) → x ≡ (y >>= f) → cond t x (Err BadNumber) ≡ (cond t y (Err BadNumber) >>= f)
pass_on true x y f e = e
pass_on false x y f e = refl

digits_onto : (n : ℕ) (ds : List ℕ) (d : ℕ) → digits_from n (ds ++ d ∷ []) ≡ (digits_from n ds >>= λ m. digits_from m (d ∷ []))
digits_onto n [] d = refl
digits_onto n (b ∷ bs) d =
    pass_on (is_digit b && nat_le (n * 10 + (b - 48)) 999999999) _ _ (λ m. digits_from m (d ∷ [])) (digits_onto (n * 10 + (b - 48)) bs d)

passes : (t : Bool) (x y : ℕ) → t ≡ true → x ≡ y → cond {A = Result ℕ Fault} t (Ok x) (Err BadNumber) ≡ Ok y
passes true x y e same = ap Ok same
passes false x y e same = absurd cc

is_digit_of : (r : ℕ) → r < 10 → is_digit (48 + r) ≡ true
is_digit_of r small = grind (arith, common_steps)

last_digit : (m r n : ℕ) → r < 10 → m * 10 + r ≡ n → n ≤ 999999999 → digits_from m ((48 + r) ∷ []) ≡ Ok n
last_digit m r n small same fits =
    let back : m * 10 + (48 + r - 48) ≡ n = omega arith in
    let within : nat_le (m * 10 + (48 + r - 48)) 999999999 ≡ true = rw back (grind (arith, common_steps)) in
    passes _ _ n (and_from _ _ (is_digit_of r small) within) back

digits_of_decimal : (n : ℕ) → n < 2 ^ 64 → n ≤ 999999999 → digits_from 0 (decimal n) ≡ Ok n
digits_of_decimal = decimal_by_steps (λ n ds. n ≤ 999999999 → digits_from 0 ds ≡ Ok n)
    (λ n small fits. last_digit 0 n n small (omega arith) fits)
    (λ n ds least front fits.
    let before : digits_from 0 ds ≡ Ok (n / 10) = front (omega arith) in
    digits_onto 0 ds (48 + n % 10) ∙ rw before (last_digit (n / 10) (n % 10) n (omega arith) (omega arith) fits))

skips : {A : Type 0} (t : Bool) (x y : A) → t ≡ false → cond t x y ≡ y
skips true x y e = absurd cc
skips false x y e = refl

takes : {A : Type 0} (t : Bool) (x y : A) → t ≡ true → cond t x y ≡ x
takes true x y e = refl
takes false x y e = absurd cc

no_zero_first : (ds : List ℕ) → 0 < length ds → (get_or ds 0 0 ≡ 48 → length ds ≡ 1) → number_of ds ≡ digits_from 0 ds
no_zero_first [] some one = absurd (omega arith)
no_zero_first (b ∷ bs) some one = skips ((b == 48) && nat_lt 0 (length bs)) (Err BadNumber) (digits_from 0 (b ∷ bs)) (grind (arith, common_steps))

one_digit : (n : ℕ) → n < 2 ^ 64 → get_or (decimal n) 0 0 ≡ 48 → length (decimal n) ≡ 1
one_digit zero fits e = rw (decimal_digit 0 (omega arith)) refl
one_digit (suc n) fits e = absurd (omega (arith, first_decimal (suc n) (omega arith) fits))

pub number_back : (n : ℕ) → n ≤ 999999999 → number_of (decimal n) ≡ Ok n
number_back n fits =
    let wide : n < 2 ^ 64 = omega arith in
    no_zero_first (decimal n) (decimal_nonempty n wide) (one_digit n wide) ∙ digits_of_decimal n wide fits

-- ---- callers

pub few_sessions : (n : ℕ) → is_session n ≡ true → n ≤ SESSIONS_MAX
few_sessions n known = leb-true n SESSIONS_MAX (and_parts (nat_le 1 n) (nat_le n SESSIONS_MAX) known).1

pub caller_back : (n : ℕ) → is_session n ≡ true → caller_of (115 ∷ decimal n) ≡ Ok n
caller_back n known =
    let few = few_sessions n known in
    rw (number_back n (omega (arith, few))) (ap (λ b. cond b (Ok n) (Err BadCaller)) known)

-- ---- values

tilde_is_no_letter : (b : ℕ) (t : Bool) → (b == 126) ≡ t → is_letter b ≡ true → t ≡ false
tilde_is_no_letter b false e letter = refl
tilde_is_no_letter b true e letter =
    let same : b ≡ 126 = grind (arith, common_steps) in
    let no : false ≡ true = rw same at letter in
    absurd cc

third : (x y z : Bool) → (x && y && z) ≡ true → z ≡ true
third true true z e = e
third true false z e = absurd cc
third false y z e = absurd cc

first : (x y : Bool) → (x && y) ≡ true → x ≡ true
first true y e = refl
first false y e = absurd cc

first_letter : (most b : ℕ) (bs : List ℕ) → is_text most (b ∷ bs) ≡ true → is_letter b ≡ true
first_letter most b bs t =
    first (is_letter b) (list_all is_letter bs) (third (nat_lt 0 (length (b ∷ bs))) (nat_le (length (b ∷ bs)) most) (list_all is_letter (b ∷ bs)) t)

kept : (b : ℕ) (bs : List ℕ) → value_text (b ∷ bs) ≡ b ∷ bs
kept b bs = skips (length (b ∷ bs) == 0) (codes "~") (b ∷ bs) (grind (arith, common_steps))

both_false : (x y : Bool) → x ≡ false → (x && y) ≡ false
both_false x y e = rw e refl

not_tilde : (b : ℕ) (bs : List ℕ) → is_letter b ≡ true → bytes_eq (b ∷ bs) (codes "~") ≡ false
not_tilde b bs letter = both_false _ _ (tilde_is_no_letter b _ refl letter)

no_tilde : (v : List ℕ) → is_text VALUE_MAX v ≡ true → value_of (value_text v) ≡ Ok v
no_tilde [] t = refl
no_tilde (b ∷ bs) t = rw (kept b bs) (skips _ _ _ (not_tilde b bs (first_letter VALUE_MAX b bs t)) ∙ takes _ _ _ t)

pub value_back : (v : List ℕ) → (v ≡ []) ⊎ (is_text VALUE_MAX v ≡ true) → value_of (value_text v) ≡ Ok v
value_back v (inl e) = rw e refl
value_back v (inr t) = no_tilde v t
