-- Words that are spelled: no byte of them separates words, so the words of a line are those that it was joined from.
use Rattle.jc_text.proofs.Common.{◌≡◌, ◌∙◌, ◌==◌, ℕ, ◌+◌, ◌%◌, ◌^◌, ◌<◌, ◌≤◌, Bool, true, false, not, List, [], ◌∷◌, ◌++◌, length, Option, None, Some, Ok, Err, inl, inr, refl, ap, append_assoc, arith, decimal, codes, ◌&&◌, nat_le, nat_lt, All, list_all, join_with_byte, and_from, and_parts, not_from_true, cond-true, cond-false, le-ltb, decimal_by_steps, decimal_nonempty, common_steps, list_all-append, AllPass-from_list_all, slice_split_none, slice_split_at, BadByte, BadLine, LineTooLong, Line, words_of, is_letter, is_text, value_text, value_or_none_text, IsNumber, IsSession, IsValue, IsValueOrNone, IsPair, session_text, pair_text}
use Rattle.jc_text.specs.Lines.{are_words, line_of, parsed, is_plain, is_comment, some_line, read_line}
use Rattle.jc_text.proofs.Spelling.{few_sessions}

-- 1. Bytes that may be in a word, and words of them.

-- a byte after the space
abbrev pub is_mark : ℕ → Bool
is_mark b = nat_le 33 b && nat_le b 126

-- at least one of them
abbrev pub is_word : List ℕ → Bool
is_word w = nat_lt 0 (length w) && list_all is_mark w

pub word_marks : (w : List ℕ) → is_word w ≡ true → list_all is_mark w ≡ true
word_marks w e = (and_parts (nat_lt 0 (length w)) (list_all is_mark w) e).1

mark_is_plain : (b : ℕ) → is_mark b ≡ true → is_plain b ≡ true
mark_is_plain b e = grind (arith, common_steps)

mark_is_no_space : (b : ℕ) → is_mark b ≡ true → (b == 32) ≡ false
mark_is_no_space b e = grind (arith, common_steps)

letter_is_mark : (b : ℕ) → is_letter b ≡ true → is_mark b ≡ true
letter_is_mark b e = grind (arith, common_steps)

-- what passes one test passes a weaker one
weaker : (p q : ℕ → Bool) → ((b : ℕ) → p b ≡ true → q b ≡ true) → (bs : List ℕ) → list_all p bs ≡ true → list_all q bs ≡ true
weaker p q h [] e = refl
weaker p q h (b ∷ bs) e =
    let both = and_parts (p b) (list_all p bs) e in
    and_from _ _ (h b both.0) (weaker p q h bs both.1)

-- 2. What each kind of word consists of.

decimal_marks : (n : ℕ) → n < 2 ^ 64 → list_all is_mark (decimal n) ≡ true
decimal_marks = decimal_by_steps (λ n ds. list_all is_mark ds ≡ true)
    (λ n small. digit n small)
    (λ n ds least front. list_all-append is_mark ds ((48 + n % 10) ∷ []) ∙ and_from _ _ front (digit (n % 10) (omega arith)))
  where
    digit : (n : ℕ) → n < 10 → list_all is_mark ((48 + n) ∷ []) ≡ true
    digit n small = grind (arith, common_steps)

pub number_word : (n : ℕ) → IsNumber n → is_word (decimal n) ≡ true
number_word n most =
    let wide : n < 2 ^ 64 = omega arith in
    let some = decimal_nonempty n wide in
    and_from _ _ (grind (arith, common_steps)) (decimal_marks n wide)

pub session_word : (n : ℕ) → IsSession n → is_word (session_text n) ≡ true
session_word n known =
    let few = few_sessions n known in
    let wide : n < 2 ^ 64 = omega (arith, few) in
    and_from _ _ (grind (arith, common_steps)) (decimal_marks n wide)

pub text_word : (most : ℕ) (w : List ℕ) → is_text most w ≡ true → is_word w ≡ true
text_word most w e =
    let letters = and_parts (nat_lt 0 (length w) && nat_le (length w) most) (list_all is_letter w) e in
    let sizes = and_parts (nat_lt 0 (length w)) (nat_le (length w) most) letters.0 in
    and_from _ _ sizes.0 (weaker is_letter is_mark letter_is_mark w letters.1)

pub text_shown : (b : ℕ) (bs : List ℕ) → value_text (b ∷ bs) ≡ b ∷ bs
text_shown b bs = cond-false (length (b ∷ bs) == 0) (codes "~") (b ∷ bs) (grind (arith, common_steps))

-- a value as it is printed
pub value_word : (v : List ℕ) → IsValue v → is_word (value_text v) ≡ true
value_word v (inl e) = rw e refl
value_word [] (inr t) = refl
value_word (b ∷ bs) (inr t) = rw (text_shown b bs) (text_word _ (b ∷ bs) t)

-- the same, or a dash
pub value_or_none_word : (v : Option (List ℕ)) → IsValueOrNone v → is_word (value_or_none_text v) ≡ true
value_or_none_word None known = refl
value_or_none_word (Some v) known = value_word v known

-- a pair, cut at its equals sign
pub pair_parts : (pair : List ℕ × List ℕ) → pair_text pair ≡ pair.0 ++ (61 ∷ value_text pair.1)
pair_parts pair = append_assoc pair.0 (61 ∷ []) (value_text pair.1)

some_onto : (bs cs : List ℕ) (c : ℕ) → nat_lt 0 (length (bs ++ (c ∷ cs))) ≡ true
some_onto bs cs c = grind (arith, common_steps)

pub pair_word : (pair : List ℕ × List ℕ) → IsPair pair → is_word (pair_text pair) ≡ true
pair_word pair known =
    let key = word_marks pair.0 (text_word _ pair.0 known.0) in
    let value = word_marks (value_text pair.1) (value_word pair.1 known.1) in
    let marks : list_all is_mark (pair.0 ++ (61 ∷ value_text pair.1)) ≡ true = list_all-append is_mark pair.0 (61 ∷ value_text pair.1) ∙ and_from _ _ key value in
    rw (pair_parts pair) (and_from _ _ (some_onto pair.0 (value_text pair.1) 61) marks)

-- 3. A line of words.

abbrev pub AreWords : List (List ℕ) → Type 0
AreWords words = list_all is_word words ≡ true

abbrev joined : List (List ℕ) → List ℕ
joined words = join_with_byte 32 words

no_space : (w : List ℕ) → is_word w ≡ true → All (λ b. (b == 32) ≡ false) w
no_space w e k d lt = mark_is_no_space _ (AllPass-from_list_all is_mark w (word_marks w e) k d lt)

-- the words of a line are those that it was joined from
words_back : (w : List ℕ) (ws : List (List ℕ)) → AreWords (w ∷ ws) → words_of (joined (w ∷ ws)) ≡ w ∷ ws
words_back w [] e = slice_split_none (λ b. b == 32) w (no_space w (and_parts (is_word w) true e).0)
words_back w (v ∷ vs) e =
    let both = and_parts (is_word w) (list_all is_word (v ∷ vs)) e in
    slice_split_at (λ b. b == 32) w 32 (joined (v ∷ vs)) (no_space w both.0) refl ∙ ap (λ rest. w ∷ rest) (words_back v vs both.1)

-- each byte may be in a line
plain_word : (w : List ℕ) → is_word w ≡ true → list_all is_plain w ≡ true
plain_word w e = weaker is_mark is_plain mark_is_plain w (word_marks w e)

all_plain : (ws : List (List ℕ)) → AreWords ws → list_all is_plain (joined ws) ≡ true
all_plain [] e = refl
all_plain (w ∷ []) e = plain_word w (and_parts (is_word w) true e).0
all_plain (w ∷ v ∷ vs) e =
    let both = and_parts (is_word w) (list_all is_word (v ∷ vs)) e in
    list_all-append is_plain w (32 ∷ joined (v ∷ vs)) ∙ and_from _ _ (plain_word w both.0) (all_plain (v ∷ vs) both.1)

-- no word is empty
none_empty : (ws : List (List ℕ)) → AreWords ws → are_words ws ≡ true
none_empty [] e = refl
none_empty (w ∷ ws) e =
    let both = and_parts (is_word w) (list_all is_word ws) e in
    and_from _ _ (and_parts (nat_lt 0 (length w)) (list_all is_mark w) both.0).0 (none_empty ws both.1)

-- the line begins as its first word does
no_comment : (w : List ℕ) (ws : List (List ℕ)) → is_comment w ≡ false → is_comment (joined (w ∷ ws)) ≡ false
no_comment [] ws e = absurd cc
no_comment (b ∷ bs) [] e = e
no_comment (b ∷ bs) (v ∷ vs) e = e

-- so what the words ask for, the line asks for
pub line_of_words : (w : List ℕ) (ws : List (List ℕ)) (line : Line) → is_comment w ≡ false → AreWords (w ∷ ws) → length (joined (w ∷ ws)) ≤ 65536
    → line_of w ws ≡ Ok line → read_line (joined (w ∷ ws)) ≡ Ok (Some line)
unfolding read_line parsed
line_of_words w ws line first known short asks =
    let text = joined (w ∷ ws) in
    cond-false (nat_lt 65536 (length text)) (Err LineTooLong) _ (le-ltb 65536 (length text) short)
    ∙ cond-false (not (list_all is_plain text)) (Err BadByte) _ (not_from_true _ (all_plain (w ∷ ws) known))
    ∙ cond-false (is_comment text) (Ok None) _ (no_comment w ws first)
    ∙ ap (λ words. some_line (parsed words)) (words_back w ws known)
    ∙ ap some_line (cond-true (are_words (w ∷ ws)) _ (Err BadLine) (none_empty (w ∷ ws) known) ∙ asks)
