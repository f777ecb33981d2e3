-- Lines that are read are spelled as what they ask for.
use Rattle.jc_text.proofs.Common.{◌≡◌, ◌++◌, ◌∙◌, ◌==◌, ℕ, ◌≤◌, Bool, true, false, not, cond, List, [], ◌∷◌, length, Option, None, Some, Result, Ok, Err, refl, sym, ap, subst, arith, IfOk, IfSome, decimal, codes, nat_lt, nat_le, ◌&&◌, ◌||◌, list_all, join_with_byte, bytes_eq, ltb-true, leb-true, ltb-false, and_parts, bytes_eq-Decides, length-map, common_steps, join_with_byte-slice_split, Bytes, Config, Fault, LineTooLong, BadByte, BadLine, Line, BulkLine, Form, ScriptAct, Read, ReadFail, ApplyLie, End, Drop, More, Take, Op, value_text, words_of, number_of, caller_of, key_of, value_of, value_or_none_of, pairs_of, distinct_pairs_of, distinct_keys_of, IsNumber, IsShape, IsSession, session_text, IsValue, IsKey, AreKeyWords, AreLeftKeys, HasKeys, IsOperation, IsAct, SaysWords, IsSpellable, LinesAreSpelled, spelling, line_words, operation_words, load_word, bulk_words, act_words, left_words, pair_text, flag_words, shape_words, without_load, has_process_shape, source_of, calls_of, source_words}
use Rattle.jc_text.specs.declared.read.line.Operation.{Operation}
use Rattle.jc_text.specs.declared.read.commands.Bare.{Bare}
use Rattle.jc_text.specs.declared.read.commands.Bare.TheVariants as bare
use Rattle.jc_text.specs.declared.read.commands.Valued.{Valued}
use Rattle.jc_text.specs.declared.read.commands.Valued.TheVariants as valued
use Rattle.jc_text.specs.declared.read.commands.BulkName.{BulkName}
use Rattle.jc_text.specs.declared.read.commands.BulkName.TheVariants as name
use Rattle.jc_text.specs.declared.read.commands.Form.TheVariants as form
use Rattle.jc_text.specs.declared.read.line.BulkLine.TheVariants as bulk
use Rattle.jc_text.specs.Lines.{form_named, flags_of, takes_words, bare_op, valued_op, bare_of, valued_of, value_alone, replace_if_of, begin_with, is_load_mode, has_load_shape, bulk_takes, keys_of, load_all_of, bulk_of, has_but_shape, left_of, apply_of, apply_fail_of, command_of, shape_of, open_of, reopen_of, set_of, begin_of, number_alone, lone_of, coded_of, process_of, say_of, foreign_of, invalidate_of, audit_of, untold_of, line_of, are_words, parsed, is_plain, is_comment, some_line, read_line}
use Rattle.jc_text.proofs.ReadProcess.{SaysSource, source_read, SaysCalls, calls_read}
use Rattle.jc_text.proofs.Given.{ok_bind, ok_then, ok_if, ok_unless, ok_since, ok_word, ok_weaker}
use Rattle.jc_text.proofs.AreKeyWords.{SaysKeys, keys_read}
use Rattle.jc_text.proofs.AreDistinctPairs.{SaysDistinctPairs, distinct_pairs_read}
use Rattle.jc_text.proofs.ReadWords.{SaysNumber, number_read, SaysSession, session_read, SaysKey, key_read, SaysValue, value_read, SaysValueOrNone, value_or_none_read, ArePairs, pairs_read}

-- what is asked for is what these words say
abbrev SaysLine : List (List ℕ) → Line → Type 0
SaysLine words line = SaysWords line × (words ≡ line_words line)

-- 1. Operations.

record SaysCommand (words : List (List ℕ)) (command : Operation) : Type 0 where
  operation : IsOperation command.op
  key : IsKey command.key
  spelled : words ≡ operation_words command.op command.key

bare_read : (o : Op) (name : List ℕ) (words : List (List ℕ)) → IsOperation o → ((key : Bytes) → name ∷ key ∷ [] ≡ operation_words o key)
    → IfOk (bare_of o words) (SaysCommand (name ∷ words))
bare_read o name (k ∷ []) known spelled =
    ok_then (key_of k) _ (SaysKey k) (SaysCommand (name ∷ k ∷ [])) (key_read k) (λ key a. rw a.1 (record { operation = known; key = a.0; spelled = spelled key }))
bare_read o name words known spelled = tt

valued_read : (o : Bytes → Op) (name : List ℕ) (words : List (List ℕ)) → ((value : Bytes) → IsValue value → IsOperation (o value))
    → ((key value : Bytes) → name ∷ key ∷ value_text value ∷ [] ≡ operation_words (o value) key) → IfOk (valued_of o words) (SaysCommand (name ∷ words))
valued_read o name (k ∷ v ∷ []) known spelled =
    let P : Operation → Type 0 = SaysCommand (name ∷ k ∷ v ∷ []) in
    ok_then (key_of k) _ (SaysKey k) P (key_read k) (λ key a.
    ok_then (value_of v) _ (SaysValue v) P (value_read v) (λ value b. rw (a.1, b.1) (record { operation = known value b.0; key = a.0; spelled = spelled key value })))
valued_read o name words known spelled = tt

value_alone_read : (words : List (List ℕ)) → IfOk (value_alone words) (λ value. IsValue value × (words ≡ value_text value ∷ []))
value_alone_read (v ∷ []) = ok_weaker (value_of v) (SaysValue v) (λ value. IsValue value × (v ∷ [] ≡ value_text value ∷ [])) (λ value known. (known.0, rw known.1 refl)) (value_read v)
value_alone_read words = tt

replace_if_read : (words : List (List ℕ)) → IfOk (replace_if_of words) (SaysCommand (codes "replaceif" ∷ words))
unfolding replace_if_of
replace_if_read (k ∷ v ∷ words) =
    let P : Operation → Type 0 = SaysCommand (codes "replaceif" ∷ k ∷ v ∷ words) in
    ok_then (key_of k) _ (SaysKey k) P (key_read k) (λ key a.
    ok_then (value_of v) _ (SaysValue v) P (value_read v) (λ old b.
    ok_then (value_alone words) _ (λ value. IsValue value × (words ≡ value_text value ∷ [])) P (value_alone_read words) (λ value c.
    record { operation = (b.0, c.0); key = a.0; spelled = rw (a.1, b.1, c.1) refl })))
replace_if_read words = tt

-- what a name and the words after it ask for, if these have the shape that the name wants
abbrev SaysForm : List ℕ → Form → Type 0
SaysForm name form =
    (call session : ℕ) (words : List (List ℕ)) → IsNumber call → IsSession session → takes_words form words ≡ true
    → IfOk (command_of call session form words) (SaysLine (codes "begin" ∷ decimal call ∷ session_text session ∷ name ∷ words))

operation_said : (call session : ℕ) (words : List (List ℕ)) (r : Result Operation Fault) → IsNumber call → IsSession session → IfOk r (SaysCommand words)
    → IfOk (begin_with call session r) (SaysLine (codes "begin" ∷ decimal call ∷ session_text session ∷ words))
operation_said call session words (Err e) n s h = tt
operation_said call session words (Ok command) n s h =
    ((n, s, h.operation, h.key), ap (λ behind. codes "begin" ∷ decimal call ∷ session_text session ∷ behind) h.spelled)

bare_said : (b : Bare) (name : List ℕ) → IsOperation (bare_op b) → ((key : Bytes) → name ∷ key ∷ [] ≡ operation_words (bare_op b) key) → SaysForm name (form.Bare b)
bare_said b name known spelled call session words n s shaped =
    operation_said call session (name ∷ words) (bare_of (bare_op b) words) n s (bare_read (bare_op b) name words known spelled)

valued_said : (o : Valued) (name : List ℕ) → ((value : Bytes) → IsValue value → IsOperation (valued_op o value))
    → ((key value : Bytes) → name ∷ key ∷ value_text value ∷ [] ≡ operation_words (valued_op o value) key) → SaysForm name (form.Valued o)
valued_said o name known spelled call session words n s shaped =
    operation_said call session (name ∷ words) (valued_of (valued_op o) words) n s (valued_read (valued_op o) name words known spelled)

replace_if_said : SaysForm (codes "replaceif") form.ReplaceIf
replace_if_said call session words n s shaped = operation_said call session (codes "replaceif" ∷ words) (replace_if_of words) n s (replace_if_read words)

-- a call of many keys, from its name and what follows it
abbrev SaysBulk : List ℕ → List (List ℕ) → BulkLine → Type 0
SaysBulk name words bulk = HasKeys bulk × (name ∷ words ≡ bulk_words bulk)

bulk_said : (n : BulkName) (name : List ℕ) → ((words : List (List ℕ)) → bulk_takes n words ≡ true → IfOk (bulk_of n words) (SaysBulk name words)) → SaysForm name (form.Bulk n)
bulk_said n name said call session words a s shaped =
    ok_then (bulk_of n words) _ (SaysBulk name words) (SaysLine (codes "begin" ∷ decimal call ∷ session_text session ∷ name ∷ words)) (said words shaped) (λ bulk h.
    ((a, s, h.0), ap (λ behind. codes "begin" ∷ decimal call ∷ session_text session ∷ behind) h.1))

some_keys : (words keys : List (List ℕ)) → nat_lt 0 (length words) ≡ true → SaysKeys words keys → AreKeyWords 1 keys
some_keys words keys shaped h =
    let some : 1 ≤ length words = ltb-true 0 (length words) shaped in
    (rw h.1 at some, h.0, h.2)

keys_said : (b : List Bytes → BulkLine) (name : List ℕ) → ((keys : List Bytes) → AreKeyWords 1 keys → SaysBulk name keys (b keys))
    → (words : List (List ℕ)) → nat_lt 0 (length words) ≡ true → IfOk (keys_of b words) (SaysBulk name words)
keys_said b name says words shaped =
    ok_then (distinct_keys_of words) _ (SaysKeys words) (SaysBulk name words) (keys_read words) (λ keys h.
    let said = says keys (some_keys words keys shaped h) in
    (said.0, ap (λ behind. name ∷ behind) h.1 ∙ said.1))

pairs_said : (words : List (List ℕ)) → nat_lt 0 (length words) ≡ true → IfOk (bulk_of name.PutAll words) (SaysBulk (codes "putall") words)
pairs_said words shaped =
    let some : 1 ≤ length words = ltb-true 0 (length words) shaped in
    ok_then (distinct_pairs_of words) _ (SaysDistinctPairs words) (SaysBulk (codes "putall") words) (distinct_pairs_read words) (λ pairs h.
    ((subst (λ (count : ℕ). 1 ≤ count) (ap length h.1 ∙ length-map pairs pair_text) some, h.0, h.2), ap (λ behind. codes "putall" ∷ behind) h.1))

no_words : (words : List (List ℕ)) → (length words == 0) ≡ true → words ≡ []
no_words [] shaped = refl
no_words (x ∷ more) shaped = absurd (grind (arith, common_steps))

load_mode_said : (mode : List ℕ) → is_load_mode mode ≡ true → mode ≡ load_word (bytes_eq mode (codes "replace"))
load_mode_said mode = by (bytes_eq mode (codes "keep")) (bytes_eq mode (codes "replace")) (bytes_eq-Decides mode (codes "keep")).0 (bytes_eq-Decides mode (codes "replace")).0
  where
    by : (keep replace : Bool) → (keep ≡ true → mode ≡ codes "keep") → (replace ≡ true → mode ≡ codes "replace") → (keep || replace) ≡ true → mode ≡ load_word replace
    by keep true kept replaced h = replaced refl
    by true false kept replaced h = kept refl
    by false false kept replaced h = absurd cc

load_said : (words : List (List ℕ)) → has_load_shape words ≡ true → IfOk (load_all_of words) (SaysBulk (codes "loadall") words)
load_said [] shaped = tt
load_said (mode ∷ words) shaped =
    let both = and_parts (is_load_mode mode) (nat_lt 0 (length words)) shaped in
    ok_then (distinct_keys_of words) _ (SaysKeys words) (SaysBulk (codes "loadall") (mode ∷ words)) (keys_read words) (λ keys h.
    (some_keys words keys both.1 h, (λ i. codes "loadall" ∷ load_mode_said mode both.0 i ∷ h.1 i)))

form_read : (w : List ℕ) → IfOk (form_named w) (SaysForm w)
form_read w =
    ok_word w (codes "get") _ _ SaysForm (bare_said bare.Get _ tt (λ key. refl))
    (ok_word w (codes "contains") _ _ SaysForm (bare_said bare.Contains _ tt (λ key. refl))
    (ok_word w (codes "put") _ _ SaysForm (valued_said valued.Put _ (λ value known. known) (λ key value. refl))
    (ok_word w (codes "getput") _ _ SaysForm (valued_said valued.GetPut _ (λ value known. known) (λ key value. refl))
    (ok_word w (codes "putif") _ _ SaysForm (valued_said valued.PutIf _ (λ value known. known) (λ key value. refl))
    (ok_word w (codes "remove") _ _ SaysForm (bare_said bare.Remove _ tt (λ key. refl))
    (ok_word w (codes "removeif") _ _ SaysForm (valued_said valued.RemoveIf _ (λ value known. known) (λ key value. refl))
    (ok_word w (codes "getremove") _ _ SaysForm (bare_said bare.GetRemove _ tt (λ key. refl))
    (ok_word w (codes "replace") _ _ SaysForm (valued_said valued.Replace _ (λ value known. known) (λ key value. refl))
    (ok_word w (codes "replaceif") _ _ SaysForm replace_if_said
    (ok_word w (codes "getreplace") _ _ SaysForm (valued_said valued.GetReplace _ (λ value known. known) (λ key value. refl))
    (ok_word w (codes "forget") _ _ SaysForm (bare_said bare.Forget _ tt (λ key. refl))
    (ok_word w (codes "invoke") _ _ SaysForm (bare_said bare.Invoke _ tt (λ key. refl))
    (ok_word w (codes "getall") _ _ SaysForm (bulk_said name.GetAll _ (keys_said bulk.GetAll _ (λ keys known. (known, refl))))
    (ok_word w (codes "putall") _ _ SaysForm (bulk_said name.PutAll _ pairs_said)
    (ok_word w (codes "removeall") _ _ SaysForm (bulk_said name.RemoveAll _ (keys_said bulk.RemoveAll _ (λ keys known. (known, refl))))
    (ok_word w (codes "removeevery") _ _ SaysForm (bulk_said name.RemoveEvery _ (λ words shaped. (tt, ap (λ behind. codes "removeevery" ∷ behind) (no_words words shaped))))
    (ok_word w (codes "clear") _ _ SaysForm (bulk_said name.Clear _ (λ words shaped. (tt, ap (λ behind. codes "clear" ∷ behind) (no_words words shaped))))
    (ok_word w (codes "loadall") _ _ SaysForm (bulk_said name.LoadAll _ load_said)
    (ok_word w (codes "invokeall") _ (Err BadLine) SaysForm (bulk_said name.InvokeAll _ (keys_said bulk.InvokeAll _ (λ keys known. (known, refl)))) tt)))))))))))))))))))

-- 2. Lines.

flags_read : (words : List (List ℕ)) → IfOk (flags_of words) (λ set. words ≡ flag_words set.0 set.1)
flags_read [] = refl
flags_read (a ∷ []) =
    let P : List ℕ → Bool × Bool → Type 0 = λ a set. a ∷ [] ≡ flag_words set.0 set.1 in
    ok_word a (codes "read") (Ok (true, false)) _ P refl (ok_word a (codes "write") (Ok (false, true)) (Err BadLine) P refl tt)
flags_read (a ∷ b ∷ []) =
    ok_if (bytes_eq a (codes "read") && bytes_eq b (codes "write")) (Ok (true, true)) BadLine (λ set. a ∷ b ∷ [] ≡ flag_words set.0 set.1) (λ e.
    let both = and_parts (bytes_eq a (codes "read")) (bytes_eq b (codes "write")) e in
    rw ((bytes_eq-Decides a (codes "read")).0 both.0, (bytes_eq-Decides b (codes "write")).0 both.1) refl)
flags_read words = tt

shape_read : (words : List (List ℕ)) → IfOk (shape_of words) (λ config. IsShape config × (words ≡ shape_words config))
unfolding shape_of
shape_read (s ∷ c ∷ h ∷ flags) =
    let P : Config → Type 0 = λ config. IsShape config × (s ∷ c ∷ h ∷ flags ≡ shape_words config) in
    ok_then (flags_of flags) _ (λ set. flags ≡ flag_words set.0 set.1) P (flags_read flags) (λ set f.
    ok_then (number_of s) _ (SaysNumber s) P (number_read s) (λ stripes x.
    ok_then (number_of c) _ (SaysNumber c) P (number_read c) (λ capacity y.
    ok_then (number_of h) _ (SaysNumber h) P (number_read h) (λ history z.
    ((x.0, y.0, z.0), rw (x.1, y.1, z.1, f) refl)))))
shape_read words = tt

open_read : (words : List (List ℕ)) → IfOk (open_of words) (SaysLine (codes "open" ∷ words))
open_read words =
    ok_then (shape_of words) _ (λ config. IsShape config × (words ≡ shape_words config)) (SaysLine (codes "open" ∷ words)) (shape_read words)
    (λ config says. (says.0, ap (λ behind. codes "open" ∷ behind) says.1))

reopen_read : (words : List (List ℕ)) → IfOk (reopen_of words) (SaysLine (codes "reopen" ∷ words))
reopen_read words =
    ok_then (shape_of words) _ (λ config. IsShape config × (words ≡ shape_words config)) (SaysLine (codes "reopen" ∷ words)) (shape_read words)
    (λ config says. (says.0, ap (λ behind. codes "reopen" ∷ behind) says.1))

set_read : (words : List (List ℕ)) → IfOk (set_of words) (SaysLine (codes "set" ∷ words))
unfolding set_of
set_read (k ∷ v ∷ []) =
    let P : Line → Type 0 = SaysLine (codes "set" ∷ k ∷ v ∷ []) in
    ok_then (key_of k) _ (SaysKey k) P (key_read k) (λ key a. ok_then (value_of v) _ (SaysValue v) P (value_read v) (λ value b. ((a.0, b.0), rw (a.1, b.1) refl)))
set_read words = tt

begin_read : (words : List (List ℕ)) → IfOk (begin_of words) (SaysLine (codes "begin" ∷ words))
unfolding begin_of
begin_read (n ∷ who ∷ name ∷ words) =
    let P : Line → Type 0 = SaysLine (codes "begin" ∷ n ∷ who ∷ name ∷ words) in
    ok_then (form_named name) _ (SaysForm name) P (form_read name) (λ form says.
    let shape = takes_words form words in
    ok_then (cond shape (Ok true) (Err BadLine)) _ (λ b. shape ≡ true) P (ok_if shape (Ok true) BadLine (λ b. shape ≡ true) (λ e. e)) (λ b shaped.
    ok_then (number_of n) _ (SaysNumber n) P (number_read n) (λ call a.
    ok_then (caller_of who) _ (SaysSession who) P (session_read who) (λ session c.
    rw (a.1, c.1) (says call session words a.0 c.0 shaped)))))
begin_read words = tt

number_alone_read : (words : List (List ℕ)) → IfOk (number_alone words) (λ n. IsNumber n × (words ≡ decimal n ∷ []))
number_alone_read (n ∷ []) = ok_weaker (number_of n) (SaysNumber n) (λ m. IsNumber m × (n ∷ [] ≡ decimal m ∷ [])) (λ m known. (known.0, rw known.1 refl)) (number_read n)
number_alone_read words = tt

lone_read : (act : ScriptAct) (first : List ℕ) (words : List (List ℕ)) → IsAct act → ((call : ℕ) → first ∷ decimal call ∷ [] ≡ act_words call act)
    → IfOk (lone_of act words) (SaysLine (first ∷ words))
lone_read act first words known spelled =
    ok_then (number_alone words) _ (λ n. IsNumber n × (words ≡ decimal n ∷ [])) (SaysLine (first ∷ words)) (number_alone_read words) (λ call a. rw a.1 ((a.0, known), spelled call))

coded_read : (act : ℕ → ScriptAct) (first : List ℕ) (words : List (List ℕ)) → ((code : ℕ) → IsNumber code → IsAct (act code))
    → ((call code : ℕ) → first ∷ decimal call ∷ decimal code ∷ [] ≡ act_words call (act code)) → IfOk (coded_of act words) (SaysLine (first ∷ words))
unfolding coded_of
coded_read act first [] known spelled = tt
coded_read act first (n ∷ words) known spelled =
    let P : Line → Type 0 = SaysLine (first ∷ n ∷ words) in
    ok_bind (cond (length words == 1) (Ok true) (Err BadLine)) _ P (λ shaped.
    ok_then (number_of n) _ (SaysNumber n) P (number_read n) (λ call a.
    ok_then (number_alone words) _ (λ n. IsNumber n × (words ≡ decimal n ∷ [])) P (number_alone_read words) (λ code b. rw (a.1, b.1) ((a.0, known code b.0), spelled call code))))

abbrev SaysLeft : ℕ → List (List ℕ) → Option (List Bytes) → Type 0
SaysLeft least words left = AreLeftKeys least left × (words ≡ left_words left)

left_read : (least : ℕ) (words : List (List ℕ)) → has_but_shape least words ≡ true → IfOk (left_of words) (SaysLeft least words)
left_read least [] shaped = (tt, refl)
left_read least (word ∷ words) shaped =
    let both = and_parts (bytes_eq word (codes "but")) (nat_le least (length words)) shaped in
    let many : least ≤ length words = leb-true least (length words) both.1 in
    ok_then (distinct_keys_of words) _ (SaysKeys words) (SaysLeft least (word ∷ words)) (keys_read words) (λ keys h.
    ((rw h.1 at many, h.0, h.2), rw ((bytes_eq-Decides word (codes "but")).0 both.0, h.1) refl))

apply_read : (words : List (List ℕ)) → IfOk (apply_of words) (SaysLine (codes "apply" ∷ words))
unfolding apply_of
apply_read [] = tt
apply_read (n ∷ words) =
    let P : Line → Type 0 = SaysLine (codes "apply" ∷ n ∷ words) in
    let shape = has_but_shape 1 words in
    ok_then (cond shape (Ok true) (Err BadLine)) _ (λ b. shape ≡ true) P (ok_if shape (Ok true) BadLine (λ b. shape ≡ true) (λ e. e)) (λ b shaped.
    ok_then (number_of n) _ (SaysNumber n) P (number_read n) (λ call a.
    ok_then (left_of words) _ (SaysLeft 1 words) P (left_read 1 words shaped) (λ left c. ((a.0, c.0), rw (a.1, c.1) refl))))

apply_fail_read : (words : List (List ℕ)) → IfOk (apply_fail_of words) (SaysLine (codes "applyfail" ∷ words))
unfolding apply_fail_of
apply_fail_read (n ∷ m ∷ words) =
    let P : Line → Type 0 = SaysLine (codes "applyfail" ∷ n ∷ m ∷ words) in
    let shape = has_but_shape 0 words in
    ok_then (cond shape (Ok true) (Err BadLine)) _ (λ b. shape ≡ true) P (ok_if shape (Ok true) BadLine (λ b. shape ≡ true) (λ e. e)) (λ b shaped.
    ok_then (number_of n) _ (SaysNumber n) P (number_read n) (λ call a.
    ok_then (number_of m) _ (SaysNumber m) P (number_read m) (λ code d.
    ok_then (left_of words) _ (SaysLeft 0 words) P (left_read 0 words shaped) (λ left c. ((a.0, (d.0, c.0)), rw (a.1, d.1, c.1) refl)))))
apply_fail_read words = tt

say_read : (words : List (List ℕ)) → IfOk (say_of words) (SaysLine (codes "say" ∷ words))
unfolding say_of
say_read [] = tt
say_read (n ∷ words) =
    let P : Line → Type 0 = SaysLine (codes "say" ∷ n ∷ words) in
    ok_then (number_of n) _ (SaysNumber n) P (number_read n) (λ call a. ok_then (pairs_of words) _ (ArePairs words) P (pairs_read words) (λ pairs b. ((a.0, b.0), rw (a.1, b.1) refl)))

process_read : (words : List (List ℕ)) → IfOk (process_of words) (SaysLine (codes "process" ∷ words))
unfolding process_of
process_read [] = tt
process_read (n ∷ words) =
    let P : Line → Type 0 = SaysLine (codes "process" ∷ n ∷ words) in
    let shape = has_process_shape words in
    ok_then (cond shape (Ok true) (Err BadLine)) _ (λ b. shape ≡ true) P (ok_if shape (Ok true) BadLine (λ b. shape ≡ true) (λ e. e)) (λ shaped e.
    ok_then (number_of n) _ (SaysNumber n) P (number_read n) (λ call a.
    ok_then (source_of words) _ (SaysSource words) P (source_read words) (λ source b.
    ok_then (calls_of (without_load words)) _ (SaysCalls (without_load words)) P (calls_read (without_load words) e) (λ run c.
    ((a.0, (b.0, c.0, c.1)), (λ i. codes "process" ∷ a.1 i ∷ (b.1 ∙ ap (λ rest. source_words source ++ rest) c.2) i))))))

foreign_read : (words : List (List ℕ)) → IfOk (foreign_of words) (SaysLine (codes "foreign" ∷ words))
unfolding foreign_of
foreign_read (k ∷ v ∷ []) =
    let P : Line → Type 0 = SaysLine (codes "foreign" ∷ k ∷ v ∷ []) in
    ok_then (key_of k) _ (SaysKey k) P (key_read k) (λ key a. ok_then (value_or_none_of v) _ (SaysValueOrNone v) P (value_or_none_read v) (λ value b. ((a.0, b.0), rw (a.1, b.1) refl)))
foreign_read words = tt

invalidate_read : (words : List (List ℕ)) → IfOk (invalidate_of words) (SaysLine (codes "invalidate" ∷ words))
unfolding invalidate_of
invalidate_read (k ∷ []) =
    let P : Line → Type 0 = SaysLine (codes "invalidate" ∷ k ∷ []) in
    ok_then (key_of k) _ (SaysKey k) P (key_read k) (λ key a. (a.0, rw a.1 refl))
invalidate_read words = tt

audit_read : (words : List (List ℕ)) → IfOk (audit_of words) (SaysLine (codes "audit" ∷ words))
audit_read [] = (tt, refl)
audit_read (x ∷ more) = tt

untold_read : (words : List (List ℕ)) → IfOk (untold_of words) (SaysLine (codes "untold" ∷ words))
untold_read [] = (tt, refl)
untold_read (x ∷ more) = tt

line_read : (w : List ℕ) (words : List (List ℕ)) → IfOk (line_of w words) (SaysLine (w ∷ words))
line_read w words =
    let P : List ℕ → Line → Type 0 = λ first. SaysLine (first ∷ words) in
    ok_word w (codes "begin") _ _ P (begin_read words) (ok_word w (codes "open") _ _ P (open_read words) (ok_word w (codes "set") _ _ P (set_read words)
    (ok_word w (codes "foreign") _ _ P (foreign_read words) (ok_word w (codes "audit") _ _ P (audit_read words)
    (ok_word w (codes "read") _ _ P (lone_read Read _ words tt (λ call. refl)) (ok_word w (codes "apply") _ _ P (apply_read words)
    (ok_word w (codes "end") _ _ P (lone_read End _ words tt (λ call. refl)) (ok_word w (codes "drop") _ _ P (lone_read Drop _ words tt (λ call. refl))
    (ok_word w (codes "more") _ _ P (lone_read More _ words tt (λ call. refl)) (ok_word w (codes "take") _ _ P (lone_read Take _ words tt (λ call. refl))
    (ok_word w (codes "say") _ _ P (say_read words) (ok_word w (codes "readfail") _ _ P (coded_read ReadFail _ words (λ code known. known) (λ call code. refl))
    (ok_word w (codes "applyfail") _ _ P (apply_fail_read words) (ok_word w (codes "applylie") _ _ P (coded_read ApplyLie _ words (λ code known. known) (λ call code. refl))
    (ok_word w (codes "process") _ _ P (process_read words) (ok_word w (codes "reopen") _ _ P (reopen_read words)
    (ok_word w (codes "untold") _ _ P (untold_read words)
    (ok_word w (codes "invalidate") _ (Err BadLine) P (invalidate_read words) tt))))))))))))))))))

parsed_read : (words : List (List ℕ)) → IfOk (parsed words) (SaysLine words)
unfolding parsed
parsed_read [] = tt
parsed_read (w ∷ words) = ok_if (are_words (w ∷ words)) (line_of w words) BadLine (SaysLine (w ∷ words)) (λ e. line_read w words)

-- 3. The bytes of a line.

-- it is the spelling of something that a script can say
abbrev pub SaysText : List ℕ → Line → Type 0
SaysText text line = IsSpellable line × (text ≡ spelling line)

some_read : (text : List ℕ) (r : Result Line Fault) → length text ≤ 65536 → IfOk r (SaysLine (words_of text)) → IfOk (some_line r) (λ o. IfSome o (SaysText text))
some_read text (Err e) short h = tt
some_read text (Ok line) short h =
    let spelled : text ≡ spelling line = sym (join_with_byte-slice_split 32 text) ∙ ap (λ words. join_with_byte 32 words) h.1 in
    ((h.0, rw (← spelled) short), spelled)

pub text_read : (text : List ℕ) → IfOk (read_line text) (λ o. IfSome o (SaysText text))
unfolding read_line
text_read text =
    let P : Option Line → Type 0 = λ o. IfSome o (SaysText text) in
    ok_since (nat_lt 65536 (length text)) _ LineTooLong P (λ e.
    ok_unless (not (list_all is_plain text)) _ BadByte P
    (comment (is_comment text) (some_read text (parsed (words_of text)) (ltb-false 65536 (length text) e) (parsed_read (words_of text)))))
  where
    comment : (b : Bool) → IfOk (some_line (parsed (words_of text))) (λ o. IfSome o (SaysText text))
        → IfOk (cond b (Ok None) (some_line (parsed (words_of text)))) (λ o. IfSome o (SaysText text))
    comment true h = tt
    comment false h = h

pub line_spelled : LinesAreSpelled
line_spelled text line e = given (read_line text) e (text_read text)
  where
    given : (r : Result (Option Line) Fault) → r ≡ Ok (Some line) → IfOk r (λ o. IfSome o (SaysText text)) → SaysText text line
    given r e h = rw e at h
