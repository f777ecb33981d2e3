-- The laws of replies as text.
--     is_inner            a byte is neither a space nor a colon
--     replies_back        what an expectation writes for a reply is read as that reply
--     replies_told        of two replies the texts differ
--     silence_told        none of these texts is that of a call that is never answered
use Rattle.jc_litmus.proofs.Common.{◌≡◌, ◌∙◌, ◌==◌, ℕ, ◌+◌, ◌%◌, ◌^◌, ◌<◌, Bool, true, false, not, List, [], ◌∷◌, ◌++◌, length, map, None, Some, Result, Ok, Err, inl, inr, refl, ap, arith, codes, decimal, ◌&&◌, nat_lt, nat_le, list_all, position_or_len, and_from, and_parts, cond-true, cond-false, not_from_false, common_steps, take_at, HistoryFull, Busy, LoaderFailed, WriterFailed, ProcessorFailed, Bytes, Reply, Fault, IsNumber, IsValue, NumbersReadBack, ValuesReadBack, is_letter, number_of, some_value, value_or_none_of, LineFault, BadReply, ReplyKind, halves_of, failure_with, plain_reply, plain_value, reply_from, reply_said, two_words, colon_for_space, RepliesAreTold, RepliesReadBack, reply_word, SilenceIsTold, no_dash, text_shown}
use Rattle.std.proofs.lemmas.Fmt.{decimal_by_steps}
use Rattle.std.proofs.lemmas.List.Folds.{list_all-append}
use Rattle.std.proofs.Math.Seq.{drop-append-add}
use Rattle.jc_types.specs.declared.limits.TheConstants.{VALUE_MAX}
use Rattle.jc_model.specs.declared.event.Reply.TheVariants as reply
use Rattle.jc_text.specs.Printing.{coded_text, value_text}

-- 1. Words without a space and a colon.

abbrev is_inner : ℕ → Bool
is_inner b = not (b == 32) && not (b == 58)

no_space : (b : ℕ) → is_inner b ≡ true → (b == 32) ≡ false
no_space b e = grind (arith, common_steps)

no_colon : (b : ℕ) → is_inner b ≡ true → (b == 58) ≡ false
no_colon b e = grind (arith, common_steps)

-- they stay as they are
stays : (bs : List ℕ) → list_all is_inner bs ≡ true → map colon_for_space bs ≡ bs
stays [] e = refl
stays (b ∷ bs) e =
    let both = and_parts (is_inner b) (list_all is_inner bs) e in
    ap (λ x. x ∷ map colon_for_space bs) (cond-false (b == 32) 58 b (no_space b both.0)) ∙ ap (λ x. b ∷ x) (stays bs both.1)

past_all : (bs : List ℕ) → list_all is_inner bs ≡ true → position_or_len (λ b. b == 58) bs ≡ length bs
past_all [] e = refl
past_all (b ∷ bs) e =
    let both = and_parts (is_inner b) (list_all is_inner bs) e in
    cond-true (not (b == 58)) _ 0 (not_from_false _ (no_colon b both.0)) ∙ ap (λ n. 1 + n) (past_all bs both.1) ∙ omega arith

-- one word has no second half
pub one_half : (bs : List ℕ) → list_all is_inner bs ≡ true → halves_of 58 bs ≡ None
one_half bs e = rw (past_all bs e) (rw (cond-false _ (Some (length bs)) None (not_less bs)) refl)
  where
    not_less : (bs : List ℕ) → nat_lt (length bs) (length bs) ≡ false
    not_less bs = grind (arith, common_steps)

-- of two words these are the halves
sign_after : (front rest : List ℕ) → list_all is_inner front ≡ true → position_or_len (λ b. b == 58) (front ++ (58 ∷ rest)) ≡ length front
sign_after [] rest e = refl
sign_after (b ∷ bs) rest e =
    let both = and_parts (is_inner b) (list_all is_inner bs) e in
    cond-true (not (b == 58)) _ 0 (not_from_false _ (no_colon b both.0)) ∙ ap (λ n. 1 + n) (sign_after bs rest both.1) ∙ omega arith

pub two_halves : (front rest : List ℕ) → list_all is_inner front ≡ true → halves_of 58 (front ++ (58 ∷ rest)) ≡ Some (front, rest)
two_halves front rest e =
    rw (sign_after front rest e)
    (rw (cond-true _ (Some (length front)) None (within front rest))
    (rw (take_at front (58 ∷ rest) (length front) refl) (rw (drop-append-add front (58 ∷ rest) 1) refl)))
  where
    within : (front rest : List ℕ) → nat_lt (length front) (length (front ++ (58 ∷ rest))) ≡ true
    within front rest = grind (arith, common_steps)

-- 2. Numbers and values are such words.

digits_inner : (n : ℕ) → n < 2 ^ 64 → list_all is_inner (decimal n) ≡ true
digits_inner = decimal_by_steps (λ n ds. list_all is_inner ds ≡ true)
    (λ n small. digit n small)
    (λ n ds least front. list_all-append is_inner ds ((48 + n % 10) ∷ []) ∙ and_from _ _ front (digit (n % 10) (omega arith)))
  where
    digit : (n : ℕ) → n < 10 → list_all is_inner ((48 + n) ∷ []) ≡ true
    digit n small = grind (arith, common_steps)

number_inner : (n : ℕ) → IsNumber n → list_all is_inner (decimal n) ≡ true
number_inner n most = digits_inner n (omega arith)

letter_inner : (b : ℕ) → is_letter b ≡ true → is_inner b ≡ true
letter_inner b e = grind (arith, common_steps)

letters_inner : (bs : List ℕ) → list_all is_letter bs ≡ true → list_all is_inner bs ≡ true
letters_inner [] e = refl
letters_inner (b ∷ bs) e =
    let both = and_parts (is_letter b) (list_all is_letter bs) e in
    and_from _ _ (letter_inner b both.0) (letters_inner bs both.1)

value_inner : (v : Bytes) → IsValue v → list_all is_inner (value_text v) ≡ true
value_inner v (inl e) = rw e refl
value_inner [] (inr t) = refl
value_inner (b ∷ bs) (inr t) =
    let letters = and_parts (nat_lt 0 (length (b ∷ bs)) && nat_le (length (b ∷ bs)) VALUE_MAX) (list_all is_letter (b ∷ bs)) t in
    rw (text_shown b bs) (letters_inner (b ∷ bs) letters.1)

-- 3. Replies are read back.

-- from one word
one_back : (kind : ReplyKind) (word : List ℕ) (r : Reply) → list_all is_inner word ≡ true → plain_reply kind.answer word ≡ Ok r → reply_said kind word ≡ Ok r
one_back kind word r inner plain = ap (λ halves. reply_from kind halves word) (one_half word inner) ∙ plain

-- from two
two_back : (kind : ReplyKind) (front rest : List ℕ) (r : Reply) → list_all is_inner front ≡ true → two_words kind front rest ≡ Ok r
    → reply_said kind (front ++ (58 ∷ rest)) ≡ Ok r
two_back kind front rest r inner plain =
    ap (λ halves. reply_from kind halves (front ++ (58 ∷ rest))) (two_halves front rest inner) ∙ plain

value_said : ValuesReadBack → (v : Bytes) → IsValue v → plain_value (value_or_none_of (value_text v)) ≡ Ok (reply.Value (Some v))
value_said back v known =
    ap plain_value (cond-false _ (Ok None) _ (no_dash v known) ∙ ap some_value (back v known))

value_back : ValuesReadBack → (kind : ReplyKind) (v : Bytes) → IsValue v → plain_reply kind.answer (value_text v) ≡ Ok (reply.Value (Some v))
    → reply_said kind (map colon_for_space (value_text v)) ≡ Ok (reply.Value (Some v))
value_back back kind v known plain =
    ap (λ word. reply_said kind word) (stays (value_text v) (value_inner v known)) ∙ one_back kind (value_text v) _ (value_inner v known) plain

-- a failure with its code
coded_back : (kind : ReplyKind) (name : List ℕ) (code : ℕ) (r : Reply) → list_all is_inner name ≡ true → IsNumber code
    → two_words kind name (decimal code) ≡ Ok r → reply_said kind (name ++ (58 ∷ map colon_for_space (decimal code))) ≡ Ok r
coded_back kind name code r inner known plain =
    ap (λ word. reply_said kind (name ++ (58 ∷ word))) (stays (decimal code) (number_inner code known)) ∙ two_back kind name (decimal code) r inner plain

loader_back : (kind : ReplyKind) (code : ℕ) → kind.loader ≡ true → number_of (decimal code) ≡ Ok code
    → two_words kind (codes "LoaderFailed") (decimal code) ≡ Ok (reply.Fault (LoaderFailed code))
loader_back kind code may number =
    ap (λ (n : Result ℕ Fault). failure_with kind (codes "LoaderFailed") n) number ∙ cond-true kind.loader (Ok (reply.Fault (LoaderFailed code))) (Err BadReply) may

processor_back : (kind : ReplyKind) (code : ℕ) → kind.processor ≡ true → number_of (decimal code) ≡ Ok code
    → two_words kind (codes "ProcessorFailed") (decimal code) ≡ Ok (reply.Fault (ProcessorFailed code))
processor_back kind code may number =
    ap (λ (n : Result ℕ Fault). failure_with kind (codes "ProcessorFailed") n) number ∙ cond-true kind.processor (Ok (reply.Fault (ProcessorFailed code))) (Err BadReply) may

writer_back : (kind : ReplyKind) (code : ℕ) → kind.writer ≡ true → number_of (decimal code) ≡ Ok code
    → two_words kind (codes "WriterFailed") (decimal code) ≡ Ok (reply.Fault (WriterFailed code))
writer_back kind code may number =
    ap (λ (n : Result ℕ Fault). failure_with kind (codes "WriterFailed") n) number ∙ cond-true kind.writer (Ok (reply.Fault (WriterFailed code))) (Err BadReply) may

pub replies_back : NumbersReadBack → ValuesReadBack → RepliesReadBack
unfolding coded_text
replies_back numbers values kind reply.Unit known = one_back kind (codes "ok") reply.Unit refl (rw known.0 refl)
replies_back numbers values kind (reply.Flag true) known = one_back kind (codes "true") (reply.Flag true) refl (rw known.0 refl)
replies_back numbers values kind (reply.Flag false) known = one_back kind (codes "false") (reply.Flag false) refl (rw known.0 refl)
replies_back numbers values kind (reply.Value None) known = one_back kind (codes "-") (reply.Value None) refl (rw known.0 refl)
replies_back numbers values kind (reply.Value (Some v)) known = value_back values kind v known.1 (rw known.0 (value_said values v known.1))
replies_back numbers values kind (reply.Fault HistoryFull) known =
    two_back kind (codes "refused") (codes "HistoryFull") (reply.Fault HistoryFull) refl refl
replies_back numbers values kind (reply.Fault (LoaderFailed code)) known =
    coded_back kind (codes "LoaderFailed") code _ refl known.1 (loader_back kind code known.0 (numbers code known.1))
replies_back numbers values kind (reply.Fault (ProcessorFailed code)) known =
    coded_back kind (codes "ProcessorFailed") code _ refl known.1 (processor_back kind code known.0 (numbers code known.1))
replies_back numbers values kind (reply.Fault (WriterFailed code)) known =
    coded_back kind (codes "WriterFailed") code _ refl known.1 (writer_back kind code known.0 (numbers code known.1))
replies_back numbers values kind (reply.Fault Busy) known = absurd known.0
replies_back numbers values kind other known = absurd known.0

-- 4. So their texts tell them.

same_read : (x : Result Reply LineFault) (r s : Reply) → x ≡ Ok r → x ≡ Ok s → r ≡ s
same_read x r s first second = cc

pub replies_told : RepliesReadBack → RepliesAreTold
replies_told back kind r s of_r of_s same =
    same_read (reply_said kind (reply_word r)) r s (back kind r of_r)
    (ap (λ (text : List ℕ). reply_said kind (map colon_for_space text)) same ∙ back kind s of_s)

-- two words that are no reply
not_read : (kind : ReplyKind) → reply_said kind (codes "never:answered") ≡ Err BadReply
not_read kind = ap (λ halves. reply_from kind halves (codes "never:answered")) (two_halves (codes "never") (codes "answered") refl) ∙ no_code kind
  where
    no_code : (kind : ReplyKind) → two_words kind (codes "never") (codes "answered") ≡ Err BadReply
    no_code kind = refl

unlike : (x : Result Reply LineFault) (r : Reply) → x ≡ Ok r → x ≡ Err BadReply → ⊥
unlike x r first second = absurd cc

pub silence_told : RepliesReadBack → SilenceIsTold
silence_told back kind r of_r same =
    unlike (reply_said kind (reply_word r)) r (back kind r of_r)
    (ap (λ (text : List ℕ). reply_said kind (map colon_for_space text)) same ∙ not_read kind)
