-- Words that are read are spelled as what they say.
use Rattle.jc_text.proofs.Common.{◌≡◌, ◌∙◌, ◌==◌, ℕ, ◌+◌, ◌-◌, ◌*◌, ◌^◌, ◌<◌, ◌≤◌, true, false, cond, List, [], ◌∷◌, ◌++◌, length, map, suc, get_or, take, drop, Option, None, Some, Result, Ok, Err, inl, inr, refl, sym, ap, append_assoc, arith, rules, IfOk, decimal, codes, ◌&&◌, nat_le, nat_lt, All, list_all, and_parts, and_from, leb-true, eqb-true, All-nil, All-cons, All-same, drop-cons, common_steps, decimal-digits_value, KEY_MAX, VALUE_MAX, is_session, Bytes, Fault, BadNumber, BadCaller, BadKey, BadValue, value_text, value_or_none_text, IsNumber, IsSession, IsKey, IsValue, IsValueOrNone, IsPair, session_text, pair_text}
use Rattle.std.proofs.lemmas.List.{take-append-drop, append-nil}
use Rattle.std.proofs.lemmas.List.Quantifiers.{position-Some}
use Rattle.std.proofs.lemmas.Str.Parse.{IsNumeralModel, numerals_by_fold}
use Rattle.jc_text.specs.Words.{◌>>=◌, is_digit, is_text, digits_from, number_of, caller_if, caller_of, key_of, value_of, some_value, value_or_none_of, Pairs, equals_at, key_part, value_part, pair_onto, pairs_from, pairs_of}
use Rattle.jc_text.proofs.Given.{ok_bind, ok_then, ok_if, ok_since, ok_word, ok_weaker}
use Rattle.jc_text.proofs.SpelledWords.{text_shown, pair_parts}

-- 1. Numbers.

-- the number that digits spell, after the digits of another
value_from : ℕ → List ℕ → ℕ
value_from n [] = n
value_from n (b ∷ bs) = value_from (n * 10 + (b - 48)) bs

numerals : IsNumeralModel (λ ds. list_all is_digit ds ≡ true) (value_from 0)
unfolding value_from
numerals = numerals_by_fold _ (search rules) value_from (search rules)

record AreDigits (n : ℕ) (ds : List ℕ) (m : ℕ) : Type 0 where
  digits : list_all is_digit ds ≡ true
  value : m ≡ value_from n ds
  small : n ≤ 999999999 → m ≤ 999999999

digits_read : (n : ℕ) (ds : List ℕ) → IfOk (digits_from n ds) (AreDigits n ds)
unfolding value_from
digits_read n [] = record { digits = refl; value = refl; small = λ h. h }
digits_read n (b ∷ bs) =
    ok_if (is_digit b && nat_le (n * 10 + (b - 48)) 999999999) _ BadNumber (AreDigits n (b ∷ bs)) (λ test.
    let tests = and_parts (is_digit b) (nat_le (n * 10 + (b - 48)) 999999999) test in
    onto (digits_from (n * 10 + (b - 48)) bs) tests.0 (leb-true (n * 10 + (b - 48)) 999999999 tests.1) (digits_read (n * 10 + (b - 48)) bs))
  where
    onto : (r : Result ℕ Fault) → is_digit b ≡ true → n * 10 + (b - 48) ≤ 999999999 → IfOk r (AreDigits (n * 10 + (b - 48)) bs) → IfOk r (AreDigits n (b ∷ bs))
    onto (Ok m) digit fits h = record { digits = and_from _ _ digit h.digits; value = h.value; small = λ k. h.small fits }
    onto (Err e) digit fits h = tt

abbrev pub SaysNumber : List ℕ → ℕ → Type 0
SaysNumber w n = IsNumber n × (w ≡ decimal n)

pub number_read : (w : List ℕ) → IfOk (number_of w) (SaysNumber w)
number_read [] = tt
number_read (b ∷ bs) =
    ok_since ((b == 48) && nat_lt 0 (length bs)) (digits_from 0 (b ∷ bs)) BadNumber (SaysNumber (b ∷ bs)) (λ test.
    spelled (digits_from 0 (b ∷ bs)) (leading b bs test) (digits_read 0 (b ∷ bs)))
  where
    leading : (b : ℕ) (bs : List ℕ) → ((b == 48) && nat_lt 0 (length bs)) ≡ false → get_or (b ∷ bs) 0 0 ≡ 48 → length (b ∷ bs) ≡ 1
    leading b bs test e = grind (arith, common_steps)

    spelled : (r : Result ℕ Fault) → (get_or (b ∷ bs) 0 0 ≡ 48 → length (b ∷ bs) ≡ 1) → IfOk r (AreDigits 0 (b ∷ bs)) → IfOk r (SaysNumber (b ∷ bs))
    spelled (Ok n) one h =
        let small : n ≤ 999999999 = h.small (omega arith) in
        let wide : value_from 0 (b ∷ bs) < 2 ^ 64 = omega (arith, h.value) in
        (small, sym (rw h.value (decimal-digits_value numerals (b ∷ bs) h.digits (omega arith) one wide)))
    spelled (Err e) one h = tt

-- 2. Sessions, keys and values.

abbrev pub SaysSession : List ℕ → ℕ → Type 0
SaysSession w n = IsSession n × (w ≡ session_text n)

pub session_read : (w : List ℕ) → IfOk (caller_of w) (SaysSession w)
session_read [] = tt
session_read (b ∷ bs) = ok_if (b == 115) (caller_if (number_of bs)) BadCaller (SaysSession (b ∷ bs)) (λ e. spelled (number_of bs) (eqb-true b 115 e) (number_read bs))
  where
    spelled : (r : Result ℕ Fault) → b ≡ 115 → IfOk r (SaysNumber bs) → IfOk (caller_if r) (SaysSession (b ∷ bs))
    spelled (Ok n) s h = ok_if (is_session n) (Ok n) BadCaller (SaysSession (b ∷ bs)) (λ e. (e, rw (s, h.1) refl))
    spelled (Err e) s h = tt

abbrev pub SaysKey : List ℕ → Bytes → Type 0
SaysKey w key = IsKey key × (w ≡ key)

pub key_read : (w : List ℕ) → IfOk (key_of w) (SaysKey w)
key_read w = ok_if (is_text KEY_MAX w) (Ok w) BadKey (SaysKey w) (λ e. (e, refl))

abbrev pub SaysValue : List ℕ → Bytes → Type 0
SaysValue w value = IsValue value × (w ≡ value_text value)

pub value_read : (w : List ℕ) → IfOk (value_of w) (SaysValue w)
value_read w =
    ok_word w (codes "~") (Ok []) (cond (is_text VALUE_MAX w) (Ok w) (Err BadValue)) SaysValue (inl refl, refl)
    (ok_if (is_text VALUE_MAX w) (Ok w) BadValue (SaysValue w) (λ e. (inr e, shown w e)))
  where
    shown : (w : List ℕ) → is_text VALUE_MAX w ≡ true → w ≡ value_text w
    shown [] e = absurd cc
    shown (b ∷ bs) e = sym (text_shown b bs)

abbrev pub SaysValueOrNone : List ℕ → Option Bytes → Type 0
SaysValueOrNone w value = IsValueOrNone value × (w ≡ value_or_none_text value)

pub value_or_none_read : (w : List ℕ) → IfOk (value_or_none_of w) (SaysValueOrNone w)
value_or_none_read w = ok_word w (codes "-") (Ok None) (some_value (value_of w)) SaysValueOrNone (tt, refl) (some (value_of w) (value_read w))
  where
    some : (r : Result Bytes Fault) → IfOk r (SaysValue w) → IfOk (some_value r) (SaysValueOrNone w)
    some (Ok value) h = h
    some (Err e) h = tt

-- 3. Pairs.

-- a word with an equals sign is what is before the first one, that sign, and what follows it
cut_at_sign : (w : List ℕ) (at : ℕ) → equals_at w ≡ Some at → w ≡ take at w ++ (61 ∷ drop (at + 1) w)
cut_at_sign w at e =
    let found = position-Some (λ b. b == 61) w at 0 e in
    let sign : get_or w at 0 ≡ 61 = eqb-true (get_or w at 0) 61 found.1 in
    let next : suc at ≡ at + 1 = omega arith in
    let back : drop at w ≡ 61 ∷ drop (at + 1) w = drop-cons w at 0 found.0 ∙ rw (sign, next) refl in
    sym (take-append-drop at w) ∙ ap (λ rest. take at w ++ rest) back

-- so it is a pair as it is spelled
pub pair_spelled : (w : List ℕ) (at : ℕ) (key value : Bytes) → equals_at w ≡ Some at → SaysKey (take at w) key → SaysValue (drop (at + 1) w) value → w ≡ pair_text (key, value)
pair_spelled w at key value e k v =
    cut_at_sign w at e ∙ ap (λ front. front ++ (61 ∷ drop (at + 1) w)) k.1 ∙ ap (λ back. key ++ (61 ∷ back)) v.1 ∙ sym (pair_parts (key, value))

abbrev pub SaysPair : Pairs → List ℕ → Pairs → Type 0
SaysPair before w all = (pair : Bytes × Bytes) × IsPair pair × (all ≡ before ++ (pair ∷ [])) × (w ≡ pair_text pair)

pair_read : (before : Pairs) (w : List ℕ) → IfOk (pair_onto before w) (SaysPair before w)
unfolding pair_onto
pair_read before w = by (equals_at w) refl
  where
    by : (at : Option ℕ) → equals_at w ≡ at → IfOk (key_of (key_part at w) >>= λ key. value_part at w >>= λ value. Ok (before ++ ((key, value) ∷ []))) (SaysPair before w)
    by None e = ok_bind (key_of w) _ (SaysPair before w) (λ key. tt)
    by (Some at) e =
        ok_then (key_of (take at w)) _ (SaysKey (take at w)) (SaysPair before w) (key_read (take at w)) (λ key k.
        ok_then (value_of (drop (at + 1) w)) _ (SaysValue (drop (at + 1) w)) (SaysPair before w) (value_read (drop (at + 1) w)) (λ value v. (
          (key, value),
          (k.0, v.0),
          refl,
          pair_spelled w at key value e k v,
        )))

abbrev SaysPairs : Pairs → List (List ℕ) → Pairs → Type 0
SaysPairs before ws all = (pairs : Pairs) × All IsPair pairs × (all ≡ before ++ pairs) × (ws ≡ map pair_text pairs)

pairs_onto_read : (before : Pairs) (ws : List (List ℕ)) → IfOk (pairs_from before ws) (SaysPairs before ws)
pairs_onto_read before [] = ([], All-nil IsPair, sym (append-nil before), refl)
pairs_onto_read before (w ∷ ws) =
    ok_then (pair_onto before w) (λ more. pairs_from more ws) (SaysPair before w) (SaysPairs before (w ∷ ws)) (pair_read before w) (λ more p.
    ok_weaker (pairs_from more ws) (SaysPairs more ws) (SaysPairs before (w ∷ ws)) (λ all h.
    (p.0 ∷ h.0, All-cons IsPair p.0 h.0 p.1 h.1, h.2 ∙ ap (λ front. front ++ h.0) p.2 ∙ append_assoc before (p.0 ∷ []) h.0, rw (p.3, h.3) refl))
    (pairs_onto_read more ws))

abbrev pub ArePairs : List (List ℕ) → Pairs → Type 0
ArePairs ws pairs = All IsPair pairs × (ws ≡ map pair_text pairs)

pub pairs_read : (ws : List (List ℕ)) → IfOk (pairs_of ws) (ArePairs ws)
pairs_read ws = ok_weaker (pairs_of ws) (SaysPairs [] ws) (ArePairs ws) (λ all h. (All-same IsPair all h.0 h.2 h.1, h.3 ∙ ap (λ pairs. map pair_text pairs) (sym h.2))) (pairs_onto_read [] ws)
