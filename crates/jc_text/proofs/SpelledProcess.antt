-- The words of a `process` line that are spelled are read as what they say.
--     process_words      they are words
--     process_back       a line of them is read back
use Rattle.jc_text.proofs.Common.{◌≡◌, ◌∙◌, ℕ, true, false, List, [], ◌∷◌, ◌++◌, length, map, Option, None, Some, Ok, arith, refl, sym, ap, append_assoc, append-nil, decimal, codes, nat_lt, common_steps, All, list_all, and_from, list_all-append, All-head, All-tail, EntryCall, LoadSource, Store, Stated, Failing, OfCall, Process, are_calls_from, without_load, source_of, calls_from, source_words, call_text, fail_words, value_text, value_or_none_text, IsNumber, IsSource, IsEntryCall, IsOptionalCode}
use Rattle.jc_model.specs.declared.processor.EntryCall.TheVariants as entry
use Rattle.jc_text.specs.Lines.{process_of}
use Rattle.jc_text.proofs.Spelling.{number_back, value_back}
use Rattle.jc_text.proofs.SpelledValues.{value_or_none_back}
use Rattle.jc_text.proofs.SpelledWords.{AreWords, is_mark, is_word, word_marks, number_word, value_word, value_or_none_word}

-- the words after the one for the loader
abbrev rest_words : List EntryCall → Option ℕ → List (List ℕ)
rest_words calls fail = map call_text calls ++ fail_words fail

-- 1. They are words.

-- a text of marks, and more of them, is a word
after : (text rest : List ℕ) → is_word text ≡ true → list_all is_mark rest ≡ true → is_word (text ++ rest) ≡ true
after [] rest t k = cc
after (b ∷ bs) rest t k = and_from _ _ (some b (bs ++ rest)) (list_all-append is_mark (b ∷ bs) rest ∙ and_from _ _ (word_marks (b ∷ bs) t) k)
  where
    some : (b : ℕ) (bs : List ℕ) → nat_lt 0 (length (b ∷ bs)) ≡ true
    some b bs = grind (arith, common_steps)

source_are_words : (source : LoadSource) → IsSource source → AreWords (source_words source)
source_are_words Store known = refl
source_are_words (Stated value) known = and_from _ _ (after (codes "loadsay=") (value_or_none_text value) refl (word_marks (value_or_none_text value) (value_or_none_word value known))) refl
source_are_words (Failing code) known = and_from _ _ (after (codes "loadfail=") (decimal code) refl (word_marks (decimal code) (number_word code known))) refl

call_is_word : (call : EntryCall) → IsEntryCall call → is_word (call_text call) ≡ true
call_is_word (entry.SetValue value) known = after (codes "set=") (value_text value) refl (word_marks (value_text value) (value_word value known))
call_is_word other known = refl

calls_are_words : (calls : List EntryCall) → All IsEntryCall calls → AreWords (map call_text calls)
calls_are_words [] known = refl
calls_are_words (call ∷ calls) known = and_from _ _ (call_is_word call (All-head IsEntryCall call calls known)) (calls_are_words calls (All-tail IsEntryCall call calls known))

fail_are_words : (fail : Option ℕ) → IsOptionalCode fail → AreWords (fail_words fail)
fail_are_words None known = refl
fail_are_words (Some code) known = and_from _ _ (after (codes "fail=") (decimal code) refl (word_marks (decimal code) (number_word code known))) refl

pub process_words : (source : LoadSource) (calls : List EntryCall) (fail : Option ℕ) → IsSource source → All IsEntryCall calls → IsOptionalCode fail → AreWords ((source_words source ++ (map call_text calls ++ fail_words fail)))
process_words source calls fail s c f =
    list_all-append is_word (source_words source) (rest_words calls fail)
    ∙ and_from _ _ (source_are_words source s) (list_all-append is_word (map call_text calls) (fail_words fail) ∙ and_from _ _ (calls_are_words calls c) (fail_are_words fail f))

-- 2. They read back.

shape_back : (calls : List EntryCall) (fail : Option ℕ) → are_calls_from false (rest_words calls fail) ≡ true
shape_back [] None = refl
shape_back [] (Some code) = refl
shape_back (entry.GetValue ∷ calls) fail = shape_back calls fail
shape_back (other ∷ calls) fail = shape_back calls fail

without_back : (source : LoadSource) (calls : List EntryCall) (fail : Option ℕ) → without_load (source_words source ++ rest_words calls fail) ≡ rest_words calls fail
without_back Store [] None = refl
without_back Store (entry.GetValue ∷ calls) fail = refl
without_back source calls fail = refl

source_back : (source : LoadSource) (calls : List EntryCall) (fail : Option ℕ) → IsSource source → source_of (source_words source ++ rest_words calls fail) ≡ Ok source
source_back (Stated value) calls fail known = rw (value_or_none_back value known) refl
source_back (Failing code) calls fail known = rw (number_back code known) refl
source_back Store [] None known = refl
source_back Store (entry.GetValue ∷ calls) fail known = refl
source_back Store calls fail known = refl

calls_back : (before calls : List EntryCall) (fail : Option ℕ) → All IsEntryCall calls → IsOptionalCode fail → calls_from before None (rest_words calls fail) ≡ Ok (before ++ calls, fail)
calls_back before [] None known code_is = ap (λ cs. Ok (cs, None)) (sym (append-nil before))
calls_back before [] (Some code) known code_is = rw (number_back code code_is) (ap (λ cs. Ok (cs, Some code)) (sym (append-nil before)))
calls_back before (entry.GetValue ∷ calls) fail known code_is = calls_back (before ++ entry.GetValue ∷ []) calls fail (All-tail IsEntryCall entry.GetValue calls known) code_is ∙ ap (λ cs. Ok (cs, fail)) (append_assoc before (entry.GetValue ∷ []) calls)
calls_back before (entry.Exists ∷ calls) fail known code_is = calls_back (before ++ entry.Exists ∷ []) calls fail (All-tail IsEntryCall entry.Exists calls known) code_is ∙ ap (λ cs. Ok (cs, fail)) (append_assoc before (entry.Exists ∷ []) calls)
calls_back before (entry.Remove ∷ calls) fail known code_is = calls_back (before ++ entry.Remove ∷ []) calls fail (All-tail IsEntryCall entry.Remove calls known) code_is ∙ ap (λ cs. Ok (cs, fail)) (append_assoc before (entry.Remove ∷ []) calls)
calls_back before (entry.SetValue value ∷ calls) fail known code_is =
    let call = entry.SetValue value in
    rw (value_back value (All-head IsEntryCall call calls known))
    (calls_back (before ++ call ∷ []) calls fail (All-tail IsEntryCall call calls known) code_is ∙ ap (λ cs. Ok (cs, fail)) (append_assoc before (call ∷ []) calls))

pub process_back : (call : ℕ) (source : LoadSource) (calls : List EntryCall) (fail : Option ℕ) → IsNumber call → IsSource source → All IsEntryCall calls → IsOptionalCode fail
    → process_of (decimal call ∷ (source_words source ++ (map call_text calls ++ fail_words fail))) ≡ Ok (OfCall call (Process source calls fail))
unfolding process_of
process_back call source calls fail n s c f =
    rw (without_back source calls fail) (rw (shape_back calls fail) (rw (number_back call n, source_back source calls fail s) (rw (calls_back [] calls fail c f) refl)))
