-- The words of a `process` line that are read are spelled as what they say.
--     SaysSource, source_read     how the loader answers, and the words after it
--     SaysCalls, calls_read       the calls, and the code
use Rattle.jc_text.proofs.Common.{◌≡◌, ◌∙◌, ℕ, Bool, true, false, cond, List, [], ◌∷◌, ◌++◌, length, map, take, drop, None, Some, Result, Ok, Err, refl, sym, ap, append_assoc, IfOk, codes, ◌||◌, All, bytes_eq, and_parts, bytes_eq-Decides, All-nil, All-cons, All-same, EntryCall, LoadSource, Store, Stated, Failing, Fault, ◌>>=◌, number_of, value_of, value_or_none_of, Calls, begins_with, is_call_word, is_fail, are_calls_from, without_load, source_of, call_of, calls_from, calls_of, source_words, call_text, fail_words, IsSource, IsEntryCall, IsOptionalCode}
use Rattle.std.proofs.lemmas.List.{take-append-drop, append-nil}
use Rattle.jc_model.specs.declared.processor.EntryCall.TheVariants as entry
use Rattle.jc_text.proofs.Given.{ok_then, ok_weaker}
use Rattle.jc_text.proofs.ReadWords.{SaysNumber, number_read, SaysValue, value_read, SaysValueOrNone, value_or_none_read}

-- a word that begins with a text is that text and what follows it
begun_word : (text w : List ℕ) → begins_with text w ≡ true → w ≡ text ++ drop (length text) w
begun_word text w e = sym (take-append-drop (length text) w) ∙ ap (λ front. front ++ drop (length text) w) ((bytes_eq-Decides (take (length text) w) text).0 e)

-- 1. How the loader answers.

abbrev pub SaysSource : List (List ℕ) → LoadSource → Type 0
SaysSource ws source = IsSource source × (ws ≡ source_words source ++ without_load ws)

abbrev SaysBy : List ℕ → List (List ℕ) → Bool → Bool → LoadSource → Type 0
SaysBy w ws fails says source = IsSource source × (w ∷ ws ≡ source_words source ++ cond (fails || says) ws (w ∷ ws))

pub source_read : (ws : List (List ℕ)) → IfOk (source_of ws) (SaysSource ws)
source_read [] = (tt, refl)
source_read (w ∷ ws) = by (begins_with (codes "loadfail=") w) (begins_with (codes "loadsay=") w) (begun_word (codes "loadfail=") w) (begun_word (codes "loadsay=") w)
  where
    by : (fails says : Bool) → (fails ≡ true → w ≡ codes "loadfail=" ++ drop 9 w) → (says ≡ true → w ≡ codes "loadsay=" ++ drop 8 w)
        → IfOk (cond fails (number_of (drop 9 w) >>= λ code. Ok (Failing code)) (cond says (value_or_none_of (drop 8 w) >>= λ value. Ok (Stated value)) (Ok Store))) (SaysBy w ws fails says)
    by true says f s =
        ok_then (number_of (drop 9 w)) _ (SaysNumber (drop 9 w)) (SaysBy w ws true says) (number_read (drop 9 w)) (λ code k.
        (k.0, ap (λ x. x ∷ ws) (f refl ∙ ap (λ back. codes "loadfail=" ++ back) k.1)))
    by false true f s =
        ok_then (value_or_none_of (drop 8 w)) _ (SaysValueOrNone (drop 8 w)) (SaysBy w ws false true) (value_or_none_read (drop 8 w)) (λ value k.
        (k.0, ap (λ x. x ∷ ws) (s refl ∙ ap (λ back. codes "loadsay=" ++ back) k.1)))
    by false false f s = (tt, refl)

-- 2. The calls, and the code.

abbrev SaysCall : List ℕ → EntryCall → Type 0
SaysCall w call = IsEntryCall call × (w ≡ call_text call)

call_read : (w : List ℕ) → is_call_word w ≡ true → IfOk (call_of w) (SaysCall w)
call_read w e =
    by (bytes_eq w (codes "get")) (bytes_eq w (codes "exists")) (bytes_eq w (codes "remove")) (begins_with (codes "set=") w)
    (bytes_eq-Decides w (codes "get")).0 (bytes_eq-Decides w (codes "exists")).0 (bytes_eq-Decides w (codes "remove")).0 (begun_word (codes "set=") w) e
  where
    by : (a b c d : Bool) → (a ≡ true → w ≡ codes "get") → (b ≡ true → w ≡ codes "exists") → (c ≡ true → w ≡ codes "remove") → (d ≡ true → w ≡ codes "set=" ++ drop 4 w) → (a || b || c || d) ≡ true
        → IfOk (cond a (Ok entry.GetValue) (cond b (Ok entry.Exists) (cond c (Ok entry.Remove) (value_of (drop 4 w) >>= λ value. Ok (entry.SetValue value))))) (SaysCall w)
    by true b c d x y z t e = (tt, x refl)
    by false true c d x y z t e = (tt, y refl)
    by false false true d x y z t e = (tt, z refl)
    by false false false true x y z t e =
        ok_then (value_of (drop 4 w)) _ (SaysValue (drop 4 w)) (SaysCall w) (value_read (drop 4 w)) (λ value k. (k.0, t refl ∙ ap (λ back. codes "set=" ++ back) k.1))
    by false false false false x y z t e = cc

abbrev SaysMore : List EntryCall → List (List ℕ) → Calls → Type 0
SaysMore before ws all = (calls : List EntryCall) × All IsEntryCall calls × (all.0 ≡ before ++ calls) × IsOptionalCode all.1 × (ws ≡ map call_text calls ++ fail_words all.1)

-- nothing follows the code
last_word : (ws : List (List ℕ)) → are_calls_from true ws ≡ true → ws ≡ []
last_word [] e = refl
last_word (w ∷ ws) e = cc

abbrev with_code : List EntryCall → ℕ → Result Calls Fault
with_code before code = Ok (before, Some code)

abbrev with_call : List EntryCall → EntryCall → Result Calls Fault
with_call before call = Ok (before ++ (call ∷ []), None)

abbrev following : List (List ℕ) → Calls → Result Calls Fault
following ws more = calls_from more.0 more.1 ws

either : (a : Bool) → (a || false) ≡ true → a ≡ true
either true e = refl
either false e = cc

-- the code is the last word
code_read : (before : List EntryCall) (w : List ℕ) (r : Result ℕ Fault) → w ≡ codes "fail=" ++ drop 5 w → IfOk r (SaysNumber (drop 5 w))
    → IfOk (r >>= with_code before >>= following []) (SaysMore before (w ∷ []))
code_read before w (Ok code) f k = ([], All-nil IsEntryCall, sym (append-nil before), k.0, ap (λ x. x ∷ []) (f ∙ ap (λ back. codes "fail=" ++ back) k.1))
code_read before w (Err fault) f k = tt

-- more words follow a call
one_read : (before : List EntryCall) (w : List ℕ) (ws : List (List ℕ)) (r : Result EntryCall Fault) → IfOk r (SaysCall w)
    → ((call : EntryCall) → IfOk (calls_from (before ++ (call ∷ [])) None ws) (SaysMore (before ++ (call ∷ [])) ws))
    → IfOk (r >>= with_call before >>= following ws) (SaysMore before (w ∷ ws))
one_read before w ws (Err fault) k again = tt
one_read before w ws (Ok call) k again =
    ok_weaker (calls_from (before ++ (call ∷ [])) None ws) (SaysMore (before ++ (call ∷ [])) ws) (SaysMore before (w ∷ ws)) (λ all h. (
      call ∷ h.0,
      All-cons IsEntryCall call h.0 k.0 h.1,
      h.2 ∙ append_assoc before (call ∷ []) h.0,
      h.3,
      (λ i. k.1 i ∷ h.4 i),
    )) (again call)

more_read : (before : List EntryCall) (w : List ℕ) (ws : List (List ℕ)) (fails : Bool) → (fails ≡ true → w ≡ codes "fail=" ++ drop 5 w) → (is_call_word w || fails) ≡ true → are_calls_from fails ws ≡ true
    → ((call : EntryCall) → are_calls_from false ws ≡ true → IfOk (calls_from (before ++ (call ∷ [])) None ws) (SaysMore (before ++ (call ∷ [])) ws))
    → IfOk (cond fails (number_of (drop 5 w) >>= with_code before) (call_of w >>= with_call before) >>= following ws) (SaysMore before (w ∷ ws))
more_read before w ws true f one rest again = rw (last_word ws rest) (code_read before w (number_of (drop 5 w)) (f refl) (number_read (drop 5 w)))
more_read before w ws false f one rest again = one_read before w ws (call_of w) (call_read w (either (is_call_word w) one)) (λ call. again call rest)

calls_onto_read : (before : List EntryCall) (ws : List (List ℕ)) → are_calls_from false ws ≡ true → IfOk (calls_from before None ws) (SaysMore before ws)
calls_onto_read before [] e = ([], All-nil IsEntryCall, sym (append-nil before), tt, refl)
calls_onto_read before (w ∷ ws) e =
    let both = and_parts (is_call_word w || is_fail w) (are_calls_from (is_fail w) ws) e in
    more_read before w ws (is_fail w) (begun_word (codes "fail=") w) both.0 both.1 (λ call rest. calls_onto_read (before ++ (call ∷ [])) ws rest)

abbrev pub SaysCalls : List (List ℕ) → Calls → Type 0
SaysCalls ws all = All IsEntryCall all.0 × IsOptionalCode all.1 × (ws ≡ map call_text all.0 ++ fail_words all.1)

pub calls_read : (ws : List (List ℕ)) → are_calls_from false ws ≡ true → IfOk (calls_of ws) (SaysCalls ws)
calls_read ws e =
    ok_weaker (calls_of ws) (SaysMore [] ws) (SaysCalls ws) (λ all h.
    (All-same IsEntryCall all.0 h.0 h.2 h.1, h.3, h.4 ∙ ap (λ cs. map call_text cs ++ fail_words all.1) (sym h.2))) (calls_onto_read [] ws e)
