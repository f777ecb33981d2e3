-- Lines that are spelled are read as what they say.
use Rattle.jc_text.proofs.Common.{◌≡◌, ℕ, ◌≤◌, Bool, true, false, List, [], ◌∷◌, ◌++◌, length, map, Option, None, Some, Ok, refl, sym, ap, subst, decimal, codes, All, and_from, lt-ltb, le-leb, length-map, Bytes, Config, Form, Op, Line, Open, Set, Begin, BeginBulk, OfCall, Foreign, Invalidate, Reopen, Audit, Untold, BulkLine, ScriptAct, Read, ReadFail, Say, Apply, ApplyFail, ApplyLie, End, Drop, More, Take, Process, source_words, call_text, fail_words, ◌>>=◌, Pairs, value_text, value_or_none_text, IsNumber, IsShape, IsSession, IsKey, IsValue, IsValueOrNone, IsPair, AreKeyWords, AreLeftKeys, HasKeys, IsOperation, IsAct, LinesReadBack, spelling, session_text, pair_text, flag_words, shape_words, operation_words, load_word, bulk_words, left_words}
use Rattle.jc_text.specs.declared.read.commands.BulkName.TheVariants as name
use Rattle.jc_text.specs.declared.read.commands.Form.TheVariants as form
use Rattle.jc_model.specs.declared.event.Op.TheVariants as op
use Rattle.jc_text.specs.declared.read.line.BulkLine.TheVariants as bulk
use Rattle.jc_text.specs.Lines.{form_named, flags_of, takes_words, bare_of, valued_of, replace_if_of, begin_with, has_load_shape, load_all_of, bulk_with, has_but_shape, left_of, apply_of, apply_fail_of, command_of, shape_of, set_of, begin_of, lone_of, coded_of, say_of, foreign_of, invalidate_of, read_line}
use Rattle.jc_text.proofs.AreKeyWords.{key_back, keys_back, keys_are_words}
use Rattle.jc_text.proofs.AreDistinctPairs.{distinct_pairs_back}
use Rattle.jc_text.proofs.SpelledPairs.{pairs_back, pairs_are_words}
use Rattle.jc_text.proofs.Spelling.{number_back, caller_back, value_back}
use Rattle.jc_text.proofs.SpelledValues.{value_or_none_back}
use Rattle.jc_text.proofs.SpelledProcess.{process_words, process_back}
use Rattle.jc_text.proofs.SpelledWords.{AreWords, line_of_words, number_word, session_word, text_word, value_word, value_or_none_word}

flags_back : (read write : Bool) → flags_of (flag_words read write) ≡ Ok (read, write)
flags_back false false = refl
flags_back true false = refl
flags_back read write = refl

flags_are_words : (read write : Bool) → AreWords (flag_words read write)
flags_are_words false false = refl
flags_are_words true false = refl
flags_are_words read write = refl

-- 1. Lines of fixed words.

shape_back : (config : Config) → IsShape config → shape_of (shape_words config) ≡ Ok config
unfolding shape_of
shape_back config (s, c, h) =
    rw (flags_back config.read_through config.write_through) (rw (number_back config.stripes s, number_back config.capacity c, number_back config.history h) refl)

shape_are_words : (config : Config) → IsShape config → AreWords (shape_words config)
shape_are_words config (s, c, h) =
    and_from _ _ (number_word config.stripes s) (and_from _ _ (number_word config.capacity c) (and_from _ _ (number_word config.history h) (flags_are_words config.read_through config.write_through)))

set_back : (key value : Bytes) → IsKey key → IsValue value → set_of (key ∷ value_text value ∷ []) ≡ Ok (Set key value)
unfolding set_of
set_back key value k v = rw (key_back key k, value_back value v) refl

foreign_back : (key : Bytes) (value : Option Bytes) → IsKey key → IsValueOrNone value → foreign_of (key ∷ value_or_none_text value ∷ []) ≡ Ok (Foreign key value)
unfolding foreign_of
foreign_back key value k v = rw (key_back key k, value_or_none_back value v) refl

invalidate_back : (key : Bytes) → IsKey key → invalidate_of (key ∷ []) ≡ Ok (Invalidate key)
unfolding invalidate_of
invalidate_back key k = rw (key_back key k) refl

-- 2. Operations.

bare_back : (o : Op) (key : Bytes) → IsKey key → bare_of o (key ∷ []) ≡ Ok (record { op = o; key = key })
bare_back o key k = rw (key_back key k) refl

valued_back : (o : Bytes → Op) (key value : Bytes) → IsKey key → IsValue value → valued_of o (key ∷ value_text value ∷ []) ≡ Ok (record { op = o value; key = key })
valued_back o key value k v = rw (key_back key k, value_back value v) refl

replace_if_back : (key old value : Bytes) → IsKey key → IsValue old → IsValue value
    → replace_if_of (key ∷ value_text old ∷ value_text value ∷ []) ≡ Ok (record { op = op.ReplaceIf old value; key = key })
unfolding replace_if_of
replace_if_back key old value k o v = rw (key_back key k, value_back old o, value_back value v) refl

operation_word : (o : Op) (key : Bytes) → IsOperation o → IsKey key → AreWords (operation_words o key)
operation_word op.Get key o k = and_from _ _ (text_word _ key k) refl
operation_word op.ContainsKey key o k = and_from _ _ (text_word _ key k) refl
operation_word (op.Put value) key o k = and_from _ _ (text_word _ key k) (and_from _ _ (value_word value o) refl)
operation_word (op.GetAndPut value) key o k = and_from _ _ (text_word _ key k) (and_from _ _ (value_word value o) refl)
operation_word (op.PutIfAbsent value) key o k = and_from _ _ (text_word _ key k) (and_from _ _ (value_word value o) refl)
operation_word op.Remove key o k = and_from _ _ (text_word _ key k) refl
operation_word (op.RemoveIf old) key o k = and_from _ _ (text_word _ key k) (and_from _ _ (value_word old o) refl)
operation_word op.GetAndRemove key o k = and_from _ _ (text_word _ key k) refl
operation_word (op.Replace value) key o k = and_from _ _ (text_word _ key k) (and_from _ _ (value_word value o) refl)
operation_word (op.ReplaceIf old value) key o k = and_from _ _ (text_word _ key k) (and_from _ _ (value_word old o.0) (and_from _ _ (value_word value o.1) refl))
operation_word (op.GetAndReplace value) key o k = and_from _ _ (text_word _ key k) (and_from _ _ (value_word value o) refl)
operation_word op.Clear key o k = and_from _ _ (text_word _ key k) refl
operation_word (op.LoadAll replace) key o k = absurd o
operation_word op.Invoke key o k = and_from _ _ (text_word _ key k) refl

-- the begin of a call, from what the words after the session ask for
begin_asks : (call session : ℕ) (name : List ℕ) (words : List (List ℕ)) (form : Form) (line : Line) → IsNumber call → IsSession session → form_named name ≡ Ok form
    → takes_words form words ≡ true → command_of call session form words ≡ Ok line → begin_of (decimal call ∷ session_text session ∷ name ∷ words) ≡ Ok line
unfolding begin_of
begin_asks call session name words form line n s named shaped asks =
    rw named (rw shaped (rw (number_back call n, caller_back session s) asks))

begin_back : (call session : ℕ) (o : Op) (key : Bytes) → IsNumber call → IsSession session → IsOperation o → IsKey key
    → begin_of (decimal call ∷ session_text session ∷ operation_words o key) ≡ Ok (Begin call session (record { op = o; key = key }))
begin_back call session op.Get key n s o k = begin_asks call session (codes "get") (key ∷ []) _ _ n s refl refl (ap (begin_with call session) (bare_back op.Get key k))
begin_back call session op.ContainsKey key n s o k = begin_asks call session (codes "contains") (key ∷ []) _ _ n s refl refl (ap (begin_with call session) (bare_back op.ContainsKey key k))
begin_back call session (op.Put value) key n s o k = begin_asks call session (codes "put") (key ∷ value_text value ∷ []) _ _ n s refl refl (ap (begin_with call session) (valued_back op.Put key value k o))
begin_back call session (op.GetAndPut value) key n s o k = begin_asks call session (codes "getput") (key ∷ value_text value ∷ []) _ _ n s refl refl (ap (begin_with call session) (valued_back op.GetAndPut key value k o))
begin_back call session (op.PutIfAbsent value) key n s o k = begin_asks call session (codes "putif") (key ∷ value_text value ∷ []) _ _ n s refl refl (ap (begin_with call session) (valued_back op.PutIfAbsent key value k o))
begin_back call session op.Remove key n s o k = begin_asks call session (codes "remove") (key ∷ []) _ _ n s refl refl (ap (begin_with call session) (bare_back op.Remove key k))
begin_back call session (op.RemoveIf old) key n s o k = begin_asks call session (codes "removeif") (key ∷ value_text old ∷ []) _ _ n s refl refl (ap (begin_with call session) (valued_back op.RemoveIf key old k o))
begin_back call session op.GetAndRemove key n s o k = begin_asks call session (codes "getremove") (key ∷ []) _ _ n s refl refl (ap (begin_with call session) (bare_back op.GetAndRemove key k))
begin_back call session (op.Replace value) key n s o k = begin_asks call session (codes "replace") (key ∷ value_text value ∷ []) _ _ n s refl refl (ap (begin_with call session) (valued_back op.Replace key value k o))
begin_back call session (op.ReplaceIf old value) key n s o k =
    begin_asks call session (codes "replaceif") (key ∷ value_text old ∷ value_text value ∷ []) _ _ n s refl refl (ap (begin_with call session) (replace_if_back key old value k o.0 o.1))
begin_back call session (op.GetAndReplace value) key n s o k = begin_asks call session (codes "getreplace") (key ∷ value_text value ∷ []) _ _ n s refl refl (ap (begin_with call session) (valued_back op.GetAndReplace key value k o))
begin_back call session op.Clear key n s o k = begin_asks call session (codes "forget") (key ∷ []) _ _ n s refl refl (ap (begin_with call session) (bare_back op.Clear key k))
begin_back call session (op.LoadAll replace) key n s o k = absurd o
begin_back call session op.Invoke key n s o k = begin_asks call session (codes "invoke") (key ∷ []) _ _ n s refl refl (ap (begin_with call session) (bare_back op.Invoke key k))

bulk_are_words : (b : BulkLine) → HasKeys b → AreWords (bulk_words b)
bulk_are_words (bulk.GetAll keys) known = keys_are_words keys known.1
bulk_are_words (bulk.PutAll pairs) known = pairs_are_words pairs known.1
bulk_are_words (bulk.RemoveAll keys) known = keys_are_words keys known.1
bulk_are_words bulk.RemoveEvery known = refl
bulk_are_words bulk.Clear known = refl
bulk_are_words (bulk.LoadAll false keys) known = keys_are_words keys known.1
bulk_are_words (bulk.LoadAll true keys) known = keys_are_words keys known.1
bulk_are_words (bulk.InvokeAll keys) known = keys_are_words keys known.1

load_shape : (replace : Bool) (keys : List Bytes) → 1 ≤ length keys → has_load_shape (load_word replace ∷ keys) ≡ true
load_shape false keys some = lt-ltb 0 (length keys) some
load_shape true keys some = lt-ltb 0 (length keys) some

load_back : (replace : Bool) (keys : List Bytes) → AreKeyWords 1 keys → load_all_of (load_word replace ∷ keys) ≡ Ok (bulk.LoadAll replace keys)
load_back false keys known = ap (λ r. r >>= λ keys. Ok (bulk.LoadAll false keys)) (keys_back 1 keys known)
load_back true keys known = ap (λ r. r >>= λ keys. Ok (bulk.LoadAll true keys)) (keys_back 1 keys known)

bulk_back : (call session : ℕ) (b : BulkLine) → IsNumber call → IsSession session → HasKeys b
    → begin_of (decimal call ∷ session_text session ∷ bulk_words b) ≡ Ok (BeginBulk call session b)
bulk_back call session (bulk.GetAll keys) n s known =
    begin_asks call session (codes "getall") keys (form.Bulk name.GetAll) _ n s refl (lt-ltb 0 (length keys) known.0)
    (ap (bulk_with call session) (ap (λ r. r >>= λ keys. Ok (bulk.GetAll keys)) (keys_back 1 keys known)))
bulk_back call session (bulk.PutAll pairs) n s known =
    begin_asks call session (codes "putall") (map pair_text pairs) (form.Bulk name.PutAll) _ n s refl (lt-ltb 0 (length (map pair_text pairs)) (subst (λ (count : ℕ). 1 ≤ count) (sym (length-map pairs pair_text)) known.0))
    (ap (bulk_with call session) (ap (λ r. r >>= λ pairs. Ok (bulk.PutAll pairs)) (distinct_pairs_back pairs known)))
bulk_back call session (bulk.RemoveAll keys) n s known =
    begin_asks call session (codes "removeall") keys (form.Bulk name.RemoveAll) _ n s refl (lt-ltb 0 (length keys) known.0)
    (ap (bulk_with call session) (ap (λ r. r >>= λ keys. Ok (bulk.RemoveAll keys)) (keys_back 1 keys known)))
bulk_back call session bulk.RemoveEvery n s known = begin_asks call session (codes "removeevery") [] (form.Bulk name.RemoveEvery) _ n s refl refl refl
bulk_back call session bulk.Clear n s known = begin_asks call session (codes "clear") [] (form.Bulk name.Clear) _ n s refl refl refl
bulk_back call session (bulk.LoadAll replace keys) n s known =
    begin_asks call session (codes "loadall") (load_word replace ∷ keys) (form.Bulk name.LoadAll) _ n s refl (load_shape replace keys known.0)
    (ap (bulk_with call session) (load_back replace keys known))
bulk_back call session (bulk.InvokeAll keys) n s known =
    begin_asks call session (codes "invokeall") keys (form.Bulk name.InvokeAll) _ n s refl (lt-ltb 0 (length keys) known.0)
    (ap (bulk_with call session) (ap (λ r. r >>= λ keys. Ok (bulk.InvokeAll keys)) (keys_back 1 keys known)))

-- 3. What happens next to a call.

lone_back : (act : ScriptAct) (call : ℕ) → IsNumber call → lone_of act (decimal call ∷ []) ≡ Ok (OfCall call act)
lone_back act call n = rw (number_back call n) refl

coded_back : (act : ℕ → ScriptAct) (call code : ℕ) → IsNumber call → IsNumber code → coded_of act (decimal call ∷ decimal code ∷ []) ≡ Ok (OfCall call (act code))
unfolding coded_of
coded_back act call code n c = rw (number_back call n, number_back code c) refl

left_are_words : (least : ℕ) (left : Option (List Bytes)) → AreLeftKeys least left → AreWords (left_words left)
left_are_words least None known = refl
left_are_words least (Some left) known = keys_are_words left known.1

left_shape : (least : ℕ) (left : Option (List Bytes)) → AreLeftKeys least left → has_but_shape least (left_words left) ≡ true
left_shape least None known = refl
left_shape least (Some left) known = le-leb least (length left) known.0

left_back : (least : ℕ) (left : Option (List Bytes)) → AreLeftKeys least left → left_of (left_words left) ≡ Ok left
left_back least None known = refl
left_back least (Some left) known = ap (λ r. r >>= λ keys. Ok (Some keys)) (keys_back least left known)

apply_back : (call : ℕ) (left : Option (List Bytes)) → IsNumber call → AreLeftKeys 1 left → apply_of (decimal call ∷ left_words left) ≡ Ok (OfCall call (Apply left))
unfolding apply_of
apply_back call left n known = rw (left_shape 1 left known) (rw (number_back call n, left_back 1 left known) refl)

apply_fail_back : (call code : ℕ) (left : Option (List Bytes)) → IsNumber call → IsNumber code → AreLeftKeys 0 left
    → apply_fail_of (decimal call ∷ decimal code ∷ left_words left) ≡ Ok (OfCall call (ApplyFail code left))
unfolding apply_fail_of
apply_fail_back call code left n c known =
    rw (left_shape 0 left known) (rw (number_back call n, number_back code c, left_back 0 left known) refl)

say_back : (call : ℕ) (pairs : Pairs) → IsNumber call → All IsPair pairs → say_of (decimal call ∷ map pair_text pairs) ≡ Ok (OfCall call (Say pairs))
unfolding say_of
say_back call pairs n known = rw (number_back call n, pairs_back pairs known) refl

-- 4. Any line.

abbrev IsReadBack : Line → Type 0
IsReadBack line = length (spelling line) ≤ 65536 → read_line (spelling line) ≡ Ok (Some line)

act_back : (call : ℕ) (act : ScriptAct) → IsNumber call → IsAct act → IsReadBack (OfCall call act)
act_back call Read n a short = line_of_words (codes "read") (decimal call ∷ []) _ refl (and_from _ _ (number_word call n) refl) short (lone_back Read call n)
act_back call (ReadFail code) n a short =
    line_of_words (codes "readfail") (decimal call ∷ decimal code ∷ []) _ refl (and_from _ _ (number_word call n) (and_from _ _ (number_word code a) refl)) short
    (coded_back ReadFail call code n a)
act_back call (Say pairs) n a short =
    line_of_words (codes "say") (decimal call ∷ map pair_text pairs) _ refl (and_from _ _ (number_word call n) (pairs_are_words pairs a)) short (say_back call pairs n a)
act_back call (Apply left) n a short =
    line_of_words (codes "apply") (decimal call ∷ left_words left) _ refl (and_from _ _ (number_word call n) (left_are_words 1 left a)) short (apply_back call left n a)
act_back call (ApplyFail code left) n a short =
    line_of_words (codes "applyfail") (decimal call ∷ decimal code ∷ left_words left) _ refl
    (and_from _ _ (number_word call n) (and_from _ _ (number_word code a.0) (left_are_words 0 left a.1))) short (apply_fail_back call code left n a.0 a.1)
act_back call (ApplyLie code) n a short =
    line_of_words (codes "applylie") (decimal call ∷ decimal code ∷ []) _ refl (and_from _ _ (number_word call n) (and_from _ _ (number_word code a) refl)) short
    (coded_back ApplyLie call code n a)
act_back call End n a short = line_of_words (codes "end") (decimal call ∷ []) _ refl (and_from _ _ (number_word call n) refl) short (lone_back End call n)
act_back call Drop n a short = line_of_words (codes "drop") (decimal call ∷ []) _ refl (and_from _ _ (number_word call n) refl) short (lone_back Drop call n)
act_back call More n a short = line_of_words (codes "more") (decimal call ∷ []) _ refl (and_from _ _ (number_word call n) refl) short (lone_back More call n)
act_back call Take n a short = line_of_words (codes "take") (decimal call ∷ []) _ refl (and_from _ _ (number_word call n) refl) short (lone_back Take call n)
act_back call (Process source calls fail) n a short =
    line_of_words (codes "process") (decimal call ∷ (source_words source ++ (map call_text calls ++ fail_words fail))) _ refl (and_from _ _ (number_word call n) (process_words source calls fail a.0 a.1 a.2)) short
    (process_back call source calls fail n a.0 a.1 a.2)

pub line_back : LinesReadBack
line_back (Open config) known =
    line_of_words (codes "open") (shape_words config) _ refl (shape_are_words config known.0) known.1 (ap (λ r. r >>= λ config. Ok (Open config)) (shape_back config known.0))
line_back (Set key value) known =
    line_of_words (codes "set") (key ∷ value_text value ∷ []) (Set key value) refl (and_from _ _ (text_word _ key known.0.0) (and_from _ _ (value_word value known.0.1) refl)) known.1
    (set_back key value known.0.0 known.0.1)
line_back (Begin call session command) known =
    line_of_words (codes "begin") (decimal call ∷ session_text session ∷ operation_words command.op command.key) _ refl
    (and_from _ _ (number_word call known.0.0) (and_from _ _ (session_word session known.0.1) (operation_word command.op command.key known.0.2 known.0.3))) known.1
    (begin_back call session command.op command.key known.0.0 known.0.1 known.0.2 known.0.3)
line_back (BeginBulk call session b) known =
    line_of_words (codes "begin") (decimal call ∷ session_text session ∷ bulk_words b) _ refl
    (and_from _ _ (number_word call known.0.0) (and_from _ _ (session_word session known.0.1) (bulk_are_words b known.0.2))) known.1
    (bulk_back call session b known.0.0 known.0.1 known.0.2)
line_back (OfCall call act) known = act_back call act known.0.0 known.0.1 known.1
line_back (Foreign key value) known =
    line_of_words (codes "foreign") (key ∷ value_or_none_text value ∷ []) _ refl (and_from _ _ (text_word _ key known.0.0) (and_from _ _ (value_or_none_word value known.0.1) refl)) known.1
    (foreign_back key value known.0.0 known.0.1)
line_back (Invalidate key) known =
    line_of_words (codes "invalidate") (key ∷ []) _ refl (and_from _ _ (text_word _ key known.0) refl) known.1 (invalidate_back key known.0)
line_back (Reopen config) known =
    line_of_words (codes "reopen") (shape_words config) _ refl (shape_are_words config known.0) known.1 (ap (λ r. r >>= λ config. Ok (Reopen config)) (shape_back config known.0))
line_back Audit known = line_of_words (codes "audit") [] Audit refl refl known.1 refl
line_back Untold known = line_of_words (codes "untold") [] Untold refl refl known.1 refl
