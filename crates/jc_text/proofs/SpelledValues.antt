-- Values that are spelled are no dash, so a value or none is read as what it says.
use Rattle.jc_text.proofs.Common.{◌≡◌, ◌∙◌, ◌==◌, ℕ, true, false, [], ◌∷◌, length, Option, None, Some, Ok, inl, inr, refl, ap, arith, codes, ◌&&◌, nat_lt, nat_le, list_all, bytes_eq, and_left, and_parts, cond-false, common_steps, VALUE_MAX, Bytes, is_letter, some_value, value_or_none_of, value_text, value_or_none_text, IsValue, IsValueOrNone}
use Rattle.jc_text.proofs.Spelling.{value_back}
use Rattle.jc_text.proofs.SpelledWords.{text_shown}

dash_is_no_letter : (b : ℕ) → is_letter b ≡ true → (b == 45) ≡ false
dash_is_no_letter b e = grind (arith, common_steps)

-- no value is printed as a dash
pub no_dash : (value : Bytes) → IsValue value → bytes_eq (value_text value) (codes "-") ≡ false
no_dash value (inl e) = rw e refl
no_dash [] (inr t) = refl
no_dash (b ∷ bs) (inr t) =
    let letters = and_parts (nat_lt 0 (length (b ∷ bs)) && nat_le (length (b ∷ bs)) VALUE_MAX) (list_all is_letter (b ∷ bs)) t in
    rw (text_shown b bs) (and_left _ _ (dash_is_no_letter b (and_parts (is_letter b) (list_all is_letter bs) letters.1).0))

-- a dash is no value, and no value is printed as a dash
pub value_or_none_back : (value : Option Bytes) → IsValueOrNone value → value_or_none_of (value_or_none_text value) ≡ Ok value
value_or_none_back None known = refl
value_or_none_back (Some value) known = cond-false _ (Ok None) _ (no_dash value known) ∙ ap some_value (value_back value known)
