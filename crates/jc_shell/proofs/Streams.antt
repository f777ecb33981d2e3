-- What was read, answered and written, one part after another.
use Rattle.jc_shell.proofs.Common.{◌≡◌, ◌-◌, ◌+◌, ◌≤◌, ℕ, List, [], ◌∷◌, ◌++◌, length, drop, Option, None, Some, Result, Ok, Err, OnOk, IfErr, inl, inr, ◌⊎◌, Bool, false, true, refl, subst, sym, ap, ◌∙◌, append_assoc, append-nil, arith, drop-append_seam, take-append-add, take-length, flat_map-append, length-append, take-append-le, Appends, Consumes, IsAtEnd, BeginsWithQuit, Read, TooLong, OutOfMemory, Write, OpenedWorld, Holds, LateCalls, Calls, SaveCall, Accepted, AnswersLine, AreAnswered, has_feed, nobody, script_of, appends-then}
use Rattle.jc_shell.specs.declared.run.ShellFault.{ShellFault}
use Rattle.jc_types.specs.declared.limits.TheConstants.{SCRIPT_MAX}
use Rattle.jc_shell.specs.Running.{EndsDialogue, FitsLimit, LastText, RunsDialogue, Stopped, StopsAtAnswer, WrittenBy}
use Rattle.jc_shell.proofs.Feeds.{fed_line}
use Rattle.jc_shell.proofs.Turns.{calls_none, calls_then, script_more}

-- ---- lines after lines

pub answered_then : (prompt : List ℕ) (ls ms : List (List ℕ)) (o p : List ℕ) (s t : List SaveCall) (a b c : Accepted)
    → AreAnswered prompt a ls o s b → AreAnswered prompt b ms p t c → AreAnswered prompt a (ls ++ ms) (o ++ p) (s ++ t) c
answered_then prompt [] ms o p s t a b c (o_is, s_is, same) more = rw (o_is, s_is, ← same) more
answered_then prompt (l ∷ ls) ms o p s t a b c (answer, rest, now, later, d, whole, answers, others, o_is, s_is) more = (
  answer,
  rest ++ p,
  now,
  later ++ t,
  d,
  whole,
  answers,
  answered_then prompt ls ms rest p later t d b c others more,
  ap (λ (x : List ℕ). x ++ p) o_is ∙ append_assoc (answer ++ prompt) rest p,
  ap (λ (x : List SaveCall). x ++ t) s_is ∙ append_assoc now later t,
)

pub answered_one : (prompt : List ℕ) (a : Accepted) (line answer : List ℕ) (saved : List SaveCall) (b : Accepted)
    → has_feed line ≡ false → AnswersLine a line answer saved b → AreAnswered prompt a (line ∷ []) (answer ++ prompt) saved b
answered_one prompt a line answer saved b whole answers =
    (answer, [], saved, [], b, whole, answers, (refl, refl, refl), sym (append-nil (answer ++ prompt)), sym (append-nil saved))

-- ---- what was read

pub read_then : (bytes rest left : List ℕ) (ls ms : List (List ℕ)) → bytes ≡ script_of ls ++ rest → rest ≡ script_of ms ++ left
    → bytes ≡ script_of (ls ++ ms) ++ left
read_then bytes rest left ls ms e d =
    let f = λ (l : List ℕ). l ++ 10 ∷ [] in
    e ∙ ap (λ (t : List ℕ). script_of ls ++ t) d ∙ sym (append_assoc (script_of ls) (script_of ms) left)
    ∙ ap (λ (t : List ℕ). t ++ left) (sym (flat_map-append f ls ms))

pub read_one : (rest line after : List ℕ) → rest ≡ line ++ 10 ∷ after → rest ≡ script_of (line ∷ []) ++ after
read_one rest line after e = e ∙ sym (script_more [] line after)

pub consumes_then : (a b c : Option (List ℕ)) (xs ys : List ℕ) → Consumes a b xs → Consumes b c ys → Consumes a c (xs ++ ys)
consumes_then None b c xs ys p q = tt
consumes_then (Some a) None c xs ys p q = absurd p
consumes_then (Some a) (Some b) None xs ys p q = absurd q
consumes_then (Some a) (Some b) (Some c) xs ys p q = p ∙ ap (λ (t : List ℕ). xs ++ t) q ∙ sym (append_assoc xs ys c)

-- ---- what was written

pub appends_none : (a : Option (List ℕ)) → Appends a a []
appends_none None = tt
appends_none (Some xs) = sym (append-nil xs)

pub written_then : (e : ShellFault) (front said written : List ℕ) → WrittenBy e said written → WrittenBy e (front ++ said) (front ++ written)
written_then Write front said written (n, le, is) = (
  length front + n,
  omega (arith, le, length-append front said),
  ap (λ (t : List ℕ). front ++ t) is ∙ sym (take-append-add front said n),
)
written_then Read front said written is = ap (λ (t : List ℕ). front ++ t) is
written_then TooLong front said written is = ap (λ (t : List ℕ). front ++ t) is
written_then OutOfMemory front said written is = ap (λ (t : List ℕ). front ++ t) is

-- all that was said so far
pub written_whole : (e : ShellFault) (said : List ℕ) → WrittenBy e said said
written_whole Write said = (length said, omega arith, sym (take-length said))
written_whole other said = refl

pub written_more : (said after written : List ℕ) → WrittenBy Write said written → WrittenBy Write (said ++ after) written
written_more said after written (n, le, is) = (n, omega (arith, le, length-append said after), is ∙ sym (take-append-le n said after le))

-- ---- where a failed write stops

pub stops_at_one : (prompt : List ℕ) (a : Accepted) (line answer : List ℕ) (calls : List SaveCall) (b : Accepted) (out : List ℕ)
    → AnswersLine a line answer calls b → StopsAtAnswer prompt [] a (line ∷ []) (answer ++ prompt) calls b out
stops_at_one prompt a line answer calls b out answers =
    ([], line, [], answer, [], calls, a, refl, (refl, refl, refl), answers, refl, refl, omega arith)

-- after lines whose answers were written
pub stops_then : (prompt front : List ℕ) (ls ms : List (List ℕ)) (o p w : List ℕ) (s t : List SaveCall) (a b c : Accepted)
    → AreAnswered prompt a ls o s b → StopsAtAnswer prompt [] b ms p t c w
    → StopsAtAnswer prompt front a (ls ++ ms) (o ++ p) (s ++ t) c ((front ++ o) ++ w)
stops_then prompt front ls ms o p w s t a b c are (before, line, said, answer, now, later, d, lines_are, firsts, answers, p_is, t_is, le) = (
  ls ++ before,
  line,
  o ++ said,
  answer,
  s ++ now,
  later,
  d,
  ap (λ (x : List (List ℕ)). ls ++ x) lines_are ∙ sym (append_assoc ls before (line ∷ [])),
  answered_then prompt ls before o said s now a b d are firsts,
  answers,
  ap (λ (x : List ℕ). o ++ x) p_is ∙ sym (append_assoc o said (answer ++ prompt)),
  ap (λ (x : List SaveCall). s ++ x) t_is ∙ sym (append_assoc s now later),
  omega (arith, le, length-append front (o ++ said), length-append o said, length-append front o, length-append (front ++ o) w),
)

-- the line, if it was answered, and what is left
pub left_of : (rest line after : List ℕ) (answered : List (List ℕ)) → rest ≡ line ++ 10 ∷ after → (answered ≡ []) ⊎ (answered ≡ line ∷ [])
    → (left : List ℕ) × (rest ≡ script_of answered ++ left)
left_of rest line after answered is (inl e) = (rest, rw e refl)
left_of rest line after answered is (inr e) = (after, rw e (read_one rest line after is))

-- ---- results

pub ok_then : {A E : Type 0} (r : Result A E) (P Q : Type 0) → (P → Q) → OnOk r P → OnOk r Q
ok_then (Ok x) P Q f p = f p
ok_then (Err e) P Q f p = p

pub err_then : {A E : Type 0} (r : Result A E) (P Q : E → Type 0) → ((e : E) → P e → Q e) → IfErr r P → IfErr r Q
err_then (Ok x) P Q f p = p
err_then (Err e) P Q f p = f e p

pub err_both : {A E : Type 0} (r : Result A E) (P Q : E → Type 0) → IfErr r P → IfErr r Q → IfErr r (λ e. P e × Q e)
err_both (Ok x) P Q p q = p
err_both (Err e) P Q p q = (p, q)

-- ---- a session so far

pub record Talked (prompt : List ℕ) (before after old new : Option (List ℕ)) (kept saved : Option (List SaveCall)) (input : List ℕ) (at : ℕ) (script : List ℕ) (count : ℕ) (world : OpenedWorld) : Type 0 where
  pub lines : List (List ℕ)
  pub rest : List ℕ
  pub answers : List ℕ
  pub more : List SaveCall
  pub b : Accepted
  pub answered : AreAnswered prompt nobody lines answers more b
  pub input_is : input ≡ script_of lines ++ rest
  pub at_is : at + length rest ≡ length input
  pub whole : has_feed rest ≡ false
  pub read : Consumes before after input
  pub written : Appends old new (prompt ++ answers)
  pub saves : Calls kept saved more
  pub holds : Holds b script count world

consumes_none : (a : Option (List ℕ)) → Consumes a a []
consumes_none None = tt
consumes_none (Some xs) = refl

-- what isn't answered begins there
pub rest_at : (front rest bytes input more : List ℕ) (at : ℕ) → input ≡ front ++ rest → at + length rest ≡ length input → more ≡ input ++ bytes
    → drop at more ≡ rest ++ bytes
rest_at front rest bytes input more at e count grown =
    let more_is : more ≡ front ++ (rest ++ bytes) = grown ∙ ap (λ (t : List ℕ). t ++ bytes) e ∙ append_assoc front rest bytes in
    let at_is : at ≡ length front = omega (arith, count, ap length e, length-append front rest) in
    rw (at_is, more_is) (drop-append_seam front (rest ++ bytes))

all_of : (front rest bytes input more : List ℕ) (at : ℕ) → input ≡ front ++ rest → at + length rest ≡ length input → more ≡ input ++ bytes
    → more ≡ front ++ drop at more
all_of front rest bytes input more at e count grown =
    grown ∙ ap (λ (t : List ℕ). t ++ bytes) e ∙ append_assoc front rest bytes
    ∙ ap (λ (t : List ℕ). front ++ t) (sym (rest_at front rest bytes input more at e count grown))

pub talked_next : (prompt : List ℕ) (before after later old new newer : Option (List ℕ)) (kept saved latest : Option (List SaveCall)) (input bytes grown : List ℕ) (at left : ℕ)
    (script script' : List ℕ) (count count' : ℕ) (world world' : OpenedWorld) (lines : List (List ℕ)) (answers : List ℕ) (more : List SaveCall) (rest : List ℕ) (c : Accepted)
    → (t : Talked prompt before after old new kept saved input at script count world)
    → Consumes after later bytes → grown ≡ input ++ bytes
    → AreAnswered prompt t.b lines answers more c → drop at grown ≡ script_of lines ++ rest → Appends new newer answers → Calls saved latest more
    → left ≡ length rest → has_feed rest ≡ false → Holds c script' count' world'
    → Talked prompt before later old newer kept latest grown (length grown - left) script' count' world'
talked_next prompt before after later old new newer kept saved latest input bytes grown at left script script' count count' world world' lines answers more rest c t read is are cut app sv left_is whole h =
    let all = read_then grown (drop at grown) rest t.lines lines (all_of (script_of t.lines) t.rest bytes input grown at t.input_is t.at_is is) cut in
    record {
      lines = t.lines ++ lines;
      rest = rest;
      answers = t.answers ++ answers;
      more = t.more ++ more;
      b = c;
      answered = answered_then prompt t.lines lines t.answers answers t.more more nobody t.b c t.answered are;
      input_is = all;
      at_is = omega (arith, left_is, ap length all, length-append (script_of (t.lines ++ lines)) rest);
      whole = whole;
      read = rw is (consumes_then before after later input bytes t.read read);
      written = rw (← append_assoc prompt t.answers answers) (appends-then old new newer (prompt ++ t.answers) answers t.written app);
      saves = calls_then kept saved latest t.more more t.saves sv;
      holds = h;
    }

-- ---- how a session ends

not_both : {b : Bool} {P : Type 0} → b ≡ true → b ≡ false → P
not_both is isnt = absurd cc

quit_is_fed : (rest : List ℕ) {P : Type 0} → BeginsWithQuit rest → has_feed rest ≡ false → P
quit_is_fed rest (line, others, asked, is) none = not_both (ap has_feed is ∙ fed_line line others) none

pub ran_quit : (prompt : List ℕ) (before after later old new newer : Option (List ℕ)) (kept saved latest : Option (List SaveCall)) (input bytes grown : List ℕ) (at : ℕ)
    (script : List ℕ) (count : ℕ) (world : OpenedWorld) (lines : List (List ℕ)) (answers : List ℕ) (more : List SaveCall) (rest : List ℕ) (c : Accepted)
    → (t : Talked prompt before after old new kept saved input at script count world)
    → Consumes after later bytes → grown ≡ input ++ bytes
    → AreAnswered prompt t.b lines answers more c → drop at grown ≡ script_of lines ++ rest → Appends new newer answers → Calls saved latest more
    → BeginsWithQuit rest → length grown ≤ SCRIPT_MAX + 1
    → RunsDialogue prompt before later old newer kept latest
ran_quit prompt before after later old new newer kept saved latest input bytes grown at script count world lines answers more rest c t read is are cut app sv quit few =
    let all = read_then grown (drop at grown) rest t.lines lines (all_of (script_of t.lines) t.rest bytes input grown at t.input_is t.at_is is) cut in
    let taken = consumes_then before after later input bytes t.read read in
    record {
      lines = t.lines ++ lines;
      rest = rest;
      answers = t.answers ++ answers;
      text = [];
      calls = t.more ++ more;
      accepted = c;
      read = rw (← all, is) taken;
      few = rw (← all) few;
      fits = quit_is_fed rest quit;
      answered = answered_then prompt t.lines lines t.answers answers t.more more nobody t.b c t.answered are;
      ends = inl (refl, quit);
      written = rw (append-nil (prompt ++ (t.answers ++ answers)), ← append_assoc prompt t.answers answers) (appends-then old new newer (prompt ++ t.answers) answers t.written app);
      saves = calls_then kept saved latest t.more more t.saves sv;
    }

pub ran_out : (prompt : List ℕ) (before after later old new newer : Option (List ℕ)) (kept saved : Option (List SaveCall)) (input bytes grown : List ℕ) (at : ℕ)
    (script : List ℕ) (count : ℕ) (world : OpenedWorld) (text : List ℕ)
    → (t : Talked prompt before after old new kept saved input at script count world)
    → Consumes after later bytes → grown ≡ input ++ bytes → bytes ≡ [] → IsAtEnd later
    → LastText prompt t.b (drop at grown) text → Appends new newer text → length input ≤ SCRIPT_MAX
    → RunsDialogue prompt before later old newer kept saved
ran_out prompt before after later old new newer kept saved input bytes grown at script count world text t read is none at_end last app few =
    let here = rest_at (script_of t.lines) t.rest bytes input grown at t.input_is t.at_is is ∙ ap (λ (xs : List ℕ). t.rest ++ xs) none ∙ append-nil t.rest in
    let all = is ∙ ap (λ (xs : List ℕ). input ++ xs) none ∙ append-nil input ∙ t.input_is in
    record {
      lines = t.lines;
      rest = t.rest;
      answers = t.answers;
      text = text;
      calls = t.more;
      accepted = t.b;
      read = rw (← all, is) (consumes_then before after later input bytes t.read read);
      few = omega (arith, few, ap length t.input_is);
      fits = λ no_feed. omega (arith, few, ap length t.input_is);
      answered = t.answered;
      ends = inr (t.whole, rw here at last, at_end);
      written = appends-then old new newer (prompt ++ t.answers) text t.written app;
      saves = t.saves;
    }

-- ---- and where an error stops it

not_reading : (e : ShellFault) {P : Type 0} → (e ≡ Write) ⊎ (e ≡ OutOfMemory) → (e ≡ Read) ⊎ (e ≡ TooLong) → P
not_reading e (inl write) (inl read) = absurd cc
not_reading e (inl write) (inr long) = absurd cc
not_reading e (inr none) (inl read) = absurd cc
not_reading e (inr none) (inr long) = absurd cc

fits_over : (e : ShellFault) (read : List ℕ) → (e ≡ Write) ⊎ (e ≡ OutOfMemory) → length read ≤ SCRIPT_MAX + 1 → FitsLimit e read
fits_over e read (inl write) few = rw write few
fits_over e read (inr none) few = rw none few

-- a read that is within the limit, whatever stops it but the limit
pub fits_reading : (e : ShellFault) (input bytes : List ℕ) → (e ≡ TooLong → ⊥) → (e ≡ Read → bytes ≡ []) → length input ≤ SCRIPT_MAX
    → length input + length bytes ≤ SCRIPT_MAX + 1 → FitsLimit e (input ++ bytes)
fits_reading Read input bytes none nothing small few = omega (arith, small, length-append input bytes, ap length (nothing refl))
fits_reading TooLong input bytes none nothing small few = absurd (none refl)
fits_reading OutOfMemory input bytes none nothing small few = omega (arith, few, length-append input bytes)
fits_reading Write input bytes none nothing small few = omega (arith, few, length-append input bytes)

-- at the end of the input
fits_ending : (e : ShellFault) (read : List ℕ) → (e ≡ Write) ⊎ (e ≡ OutOfMemory) → length read ≤ SCRIPT_MAX → FitsLimit e read
fits_ending e read kinds few = fits_over e read kinds (omega (arith, few))

-- a failed read takes nothing
pub nothing_taken : {e : ShellFault} {bytes : List ℕ} → (e ≡ Read → bytes ≡ []) → (e ≡ TooLong → ⊥) → (e ≡ Read) ⊎ (e ≡ TooLong) → bytes ≡ []
nothing_taken none few (inl read) = none read
nothing_taken none few (inr long) = absurd (few long)

pub late_none : (e : ShellFault) → LateCalls e []
late_none OutOfMemory = refl
late_none Read = refl
late_none TooLong = refl
late_none Write = refl

pub stopped_first : (prompt : List ℕ) (e : ShellFault) (reader old new : Option (List ℕ)) (kept : Option (List SaveCall)) (out : List ℕ)
    → e ≡ Write → WrittenBy Write prompt out → Appends old new out → Stopped prompt e reader reader old new kept kept
stopped_first prompt e reader old new kept out is part app = record {
  lines = [];
  rest = [];
  answers = [];
  text = [];
  out = out;
  calls = [];
  late = [];
  accepted = nobody;
  read = consumes_none reader;
  few = subst (λ (x : ShellFault). FitsLimit x []) (sym is) (omega arith);
  whole = λ reading. refl;
  answered = (refl, refl, refl);
  ends = inl refl;
  part = rw (is, append-nil (prompt ++ []), append-nil prompt) part;
  halts = λ write. inr (refl, inl (refl, refl));
  written = app;
  unanswered = late_none e;
  saves = calls_none kept;
}

-- while more is read, or because that is too much
pub stopped_reading : (prompt : List ℕ) (e : ShellFault) (before after later old new : Option (List ℕ)) (kept saved : Option (List SaveCall)) (input bytes : List ℕ) (at : ℕ)
    (script : List ℕ) (count : ℕ) (world : OpenedWorld)
    → Talked prompt before after old new kept saved input at script count world → Consumes after later bytes
    → ((e ≡ Read) ⊎ (e ≡ TooLong) → bytes ≡ []) → FitsLimit e (input ++ bytes) → Stopped prompt e before later old new kept saved
stopped_reading prompt e before after later old new kept saved input bytes at script count world t read none few = record {
  lines = t.lines;
  rest = t.rest ++ bytes;
  answers = t.answers;
  text = [];
  out = prompt ++ t.answers;
  calls = t.more;
  late = [];
  accepted = t.b;
  read = rw (← append_assoc (script_of t.lines) t.rest bytes, ← t.input_is) (consumes_then before after later input bytes t.read read);
  few = rw (← append_assoc (script_of t.lines) t.rest bytes, ← t.input_is) few;
  whole = λ reading. rw (none reading, append-nil t.rest) t.whole;
  answered = t.answered;
  ends = inl refl;
  part = rw (append-nil (prompt ++ t.answers)) (written_whole e (prompt ++ t.answers));
  halts = λ write. inl (omega arith);
  written = t.written;
  unanswered = late_none e;
  saves = rw (append-nil t.more) t.saves;
}

-- while lines are answered
pub stopped_answering : (prompt : List ℕ) (e : ShellFault) (before after later old new newer : Option (List ℕ)) (kept saved latest : Option (List SaveCall)) (input bytes grown : List ℕ) (at : ℕ)
    (script : List ℕ) (count : ℕ) (world : OpenedWorld) (lines : List (List ℕ)) (answers out : List ℕ) (more late : List SaveCall) (rest : List ℕ) (c : Accepted)
    → (t : Talked prompt before after old new kept saved input at script count world)
    → Consumes after later bytes → grown ≡ input ++ bytes
    → AreAnswered prompt t.b lines answers more c → drop at grown ≡ script_of lines ++ rest → WrittenBy e answers out → Appends new newer out
    → LateCalls e late → Calls saved latest (more ++ late) → (e ≡ Write) ⊎ (e ≡ OutOfMemory) → length grown ≤ SCRIPT_MAX + 1
    → (e ≡ Write → StopsAtAnswer prompt [] t.b lines answers more c out)
    → Stopped prompt e before later old newer kept latest
stopped_answering prompt e before after later old new newer kept saved latest input bytes grown at script count world lines answers out more late rest c t read is are cut part app refused sv kinds few halts =
    let all = read_then grown (drop at grown) rest t.lines lines (all_of (script_of t.lines) t.rest bytes input grown at t.input_is t.at_is is) cut in
    record {
      lines = t.lines ++ lines;
      rest = rest;
      answers = t.answers ++ answers;
      text = [];
      out = (prompt ++ t.answers) ++ out;
      calls = t.more ++ more;
      late = late;
      accepted = c;
      read = rw (← all, is) (consumes_then before after later input bytes t.read read);
      few = rw (← all) (fits_over e grown kinds few);
      whole = not_reading e kinds;
      answered = answered_then prompt t.lines lines t.answers answers t.more more nobody t.b c t.answered are;
      ends = inl refl;
      part = rw (append-nil (prompt ++ (t.answers ++ answers)), ← append_assoc prompt t.answers answers) (written_then e (prompt ++ t.answers) answers out part);
      halts = λ write. inr (refl, inr (stops_then prompt prompt t.lines lines t.answers answers out t.more more nobody t.b c t.answered (halts write)));
      written = appends-then old new newer (prompt ++ t.answers) out t.written app;
      unanswered = refused;
      saves = rw (append_assoc t.more more late) (calls_then kept saved latest t.more (more ++ late) t.saves sv);
    }

-- while the cut line is told
pub stopped_ending : (prompt : List ℕ) (e : ShellFault) (before after later old new newer : Option (List ℕ)) (kept saved : Option (List SaveCall)) (input bytes grown : List ℕ) (at : ℕ)
    (script : List ℕ) (count : ℕ) (world : OpenedWorld) (text out : List ℕ)
    → (t : Talked prompt before after old new kept saved input at script count world)
    → Consumes after later bytes → grown ≡ input ++ bytes → bytes ≡ [] → IsAtEnd later
    → (text ≡ []) ⊎ ((e ≡ Write) × LastText prompt t.b (drop at grown) text) → WrittenBy e text out → Appends new newer out
    → (e ≡ Write) ⊎ (e ≡ OutOfMemory) → length input ≤ SCRIPT_MAX
    → Stopped prompt e before later old newer kept saved
stopped_ending prompt e before after later old new newer kept saved input bytes grown at script count world text out t read is none at_end said part app kinds few =
    let all = is ∙ ap (λ (xs : List ℕ). input ++ xs) none ∙ append-nil input ∙ t.input_is in
    record {
      lines = t.lines;
      rest = t.rest;
      answers = t.answers;
      text = text;
      out = (prompt ++ t.answers) ++ out;
      calls = t.more;
      late = [];
      accepted = t.b;
      read = rw (← all, is) (consumes_then before after later input bytes t.read read);
      few = fits_ending e (script_of t.lines ++ t.rest) kinds (omega (arith, few, ap length t.input_is));
      whole = λ reading. t.whole;
      answered = t.answered;
      ends = ending said;
      part = written_then e (prompt ++ t.answers) text out part;
      halts = λ write. inl (omega (arith, length-append (prompt ++ t.answers) out));
      written = appends-then old new newer (prompt ++ t.answers) out t.written app;
      unanswered = late_none e;
      saves = rw (append-nil t.more) t.saves;
    }
  where
    here : drop at grown ≡ t.rest
    here = rest_at (script_of t.lines) t.rest bytes input grown at t.input_is t.at_is is ∙ ap (λ (xs : List ℕ). t.rest ++ xs) none ∙ append-nil t.rest

    ending : (text ≡ []) ⊎ ((e ≡ Write) × LastText prompt t.b (drop at grown) text) → (text ≡ []) ⊎ ((e ≡ Write) × EndsDialogue prompt t.b t.rest text later)
    ending (inl none_said) = inl none_said
    ending (inr (write, last)) = inr (write, inr (t.whole, rw here at last, at_end))
