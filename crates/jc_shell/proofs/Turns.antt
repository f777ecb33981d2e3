-- Sessions: what is answered keeps to the transcript of the accepted lines.
use Rattle.jc_shell.proofs.Common.{◌≡◌, ℕ, ◌+◌, Option, List, [], ◌∷◌, ◌++◌, length, None, Some, false, refl, sym, ap, ◌∙◌, append_assoc, append-nil, inl, inr, flat_map-append, codes, drop, drop-append_seam, length-append, undone_text, OpenedWorld, Prints, IsTranscript, fault_of, Fault, Clean, LineFault, complaint, fault_line, Help, HelpOn, Quit, Save, Undo, Line, PlaysOn, Holds, SaveCall, Calls, SavesNothing, Accepted, AnswersWord, AreAnswered, IsLineAccepted, IsLineRejected, has_feed, next_line_number, nobody, script_of, with_accepted}
use Rattle.jc_shell.specs.declared.words.Word.{Word}
use Rattle.jc_shell.proofs.Lines.{at_fault, at_line}

-- ---- what was shown is the transcript

abbrev IsShown : Accepted → Type 0
IsShown a = IsTranscript (script_of a.lines) a.shown Clean

after_word : (w : Word) (a : Accepted) (line answer : List ℕ) (saved : List SaveCall) (b : Accepted) → IsShown a → AnswersWord w a line answer saved b → IsShown b
after_word Help a line answer saved b t (text, none, same) = rw same t
after_word HelpOn a line answer saved b t (text, none, same) = rw same t
after_word Quit a line answer saved b t h = absurd h
after_word Save a line answer saved b t (is, same) = rw same t
after_word Undo a line answer saved b t (none, inl (empty, said, same)) = rw same t
after_word Undo a line answer saved b t (none, inr (inl (last, whole, is, shown, said))) = shown
after_word Undo a line answer saved b t (none, inr (inr (stuck, said, same))) = rw same t
after_word Line a line answer saved b t (none, inl (more, played)) = rw more played
after_word Line a line answer saved b t (none, inr (same, told)) = rw same t

pub shown_after : (prompt : List ℕ) (lines : List (List ℕ)) (out : List ℕ) (saved : List SaveCall) (a b : Accepted)
    → IsShown a → AreAnswered prompt a lines out saved b → IsShown b
shown_after prompt [] out saved a c t (o, s, same) = rw same t
shown_after prompt (line ∷ lines) out saved a c t (answer, rest, now, later, b, whole, answers, more, o, s) =
    shown_after prompt lines rest later b c (after_word _ a line answer now b t answers) more

pub shown_at_first : IsShown nobody
shown_at_first = (refl, refl)

-- ---- one line more

pub script_more : (lines : List (List ℕ)) (line rest : List ℕ) → script_of (lines ++ line ∷ []) ++ rest ≡ script_of lines ++ (line ++ 10 ∷ rest)
script_more lines line rest =
    let f = λ (l : List ℕ). l ++ 10 ∷ [] in
    ap (λ (s : List ℕ). s ++ rest) (flat_map-append f lines (line ∷ []) ∙ ap (λ (s : List ℕ). script_of lines ++ s) (append-nil (f line)))
    ∙ append_assoc (script_of lines) (f line) rest
    ∙ ap (λ (s : List ℕ). script_of lines ++ s) (append_assoc line (10 ∷ []) rest)

script_end : (lines : List (List ℕ)) (line : List ℕ) → script_of (lines ++ line ∷ []) ≡ script_of lines ++ (line ++ 10 ∷ [])
script_end lines line = sym (append-nil (script_of (lines ++ line ∷ []))) ∙ script_more lines line []

count_more : (lines : List (List ℕ)) (line : List ℕ) → length (lines ++ line ∷ []) ≡ length lines + 1
count_more lines line = length-append lines (line ∷ [])

pub goes_on_after : (a : Accepted) (old new : OpenedWorld) (line text : List ℕ) → has_feed line ≡ false → PlaysOn a old → Prints old line text new
    → PlaysOn (with_accepted a line text) new
goes_on_after a old new line text whole goes prints = λ rest out end t.
    let t' = rw (count_more a.lines line) at t in
    rw (script_more a.lines line rest, append_assoc a.shown text out)
    (goes (line ++ 10 ∷ rest) (text ++ out) end (at_line old new (next_line_number a) line rest text out end whole prints t'))

-- nothing more is the transcript so far
pub shown_of : (a : Accepted) (world : OpenedWorld) → PlaysOn a world → IsShown a
shown_of a world goes = rw (← append-nil (script_of a.lines), ← append-nil a.shown) (goes [] [] Clean (refl, refl))

pub played : (a : Accepted) (old new : OpenedWorld) (line text : List ℕ) → has_feed line ≡ false → PlaysOn a old → Prints old line text new
    → IsLineAccepted a line text (with_accepted a line text)
played a old new line text whole goes prints = (refl, shown_of (with_accepted a line text) new (goes_on_after a old new line text whole goes prints))

pub told : (a : Accepted) (old : OpenedWorld) (line : List ℕ) (f : Fault) → has_feed line ≡ false → PlaysOn a old → fault_of old line ≡ Some f
    → IsLineRejected a line (complaint (next_line_number a) line f) a
told a old line f whole goes fault =
    let n = next_line_number a in
    let at = goes (line ++ 10 ∷ []) (fault_line n f) (LineFault n) (at_fault old n line [] f whole fault) in
    (refl, (f, rw (← append-nil (script_of (a.lines ++ line ∷ [])), script_more a.lines line []) at, refl))

pub nothing_of : {X : Type 0} (xs : List X) → length xs ≡ 0 → xs ≡ []
nothing_of [] none = refl
nothing_of (x ∷ xs) none = absurd cc

-- a script whose first lines are accepted, after one line more
pub next_script : (script : List ℕ) (a b : Accepted) (line answer rest after : List ℕ) → b ≡ with_accepted a line answer → script ≡ script_of a.lines ++ rest
    → rest ≡ line ++ 10 ∷ after → script ≡ script_of b.lines ++ after
next_script script a b line answer rest after more is cut =
    is ∙ ap (λ (t : List ℕ). script_of a.lines ++ t) cut ∙ sym (script_more a.lines line after)
    ∙ ap (λ (x : Accepted). script_of x.lines ++ after) (sym more)

-- the text about the last line of a script, whose lines before it were played
pub last_of : (first script second : List ℕ) (b : Accepted) (played_of last : List ℕ) (at : ℕ) → first ≡ script → second ≡ script → at ≡ length played_of
    → played_of ≡ script_of b.lines → first ≡ script_of b.lines ++ (last ++ 10 ∷ []) → codes "undone " ++ drop at second ≡ undone_text last
last_of first script second b played_of last at first_is second_is at_is played_is cut =
    ap (λ (n : ℕ). codes "undone " ++ drop n second) (at_is ∙ ap length played_is)
    ∙ ap (λ (t : List ℕ). codes "undone " ++ drop (length (script_of b.lines)) t) (second_is ∙ sym first_is ∙ cut)
    ∙ ap (λ (t : List ℕ). codes "undone " ++ t) (drop-append_seam (script_of b.lines) (last ++ 10 ∷ []))

-- ---- what a session has at hand

pub kept : (a : Accepted) (old new : OpenedWorld) (line text script more : List ℕ) (count next : ℕ) → has_feed line ≡ false → Holds a script count old
    → Prints old line text new → more ≡ script ++ (line ++ 10 ∷ []) → next ≡ count + 1 → Holds (with_accepted a line text) more next new
kept a old new line text script more count next whole h prints e n = record {
  script_is = e ∙ ap (λ (s : List ℕ). s ++ (line ++ 10 ∷ [])) h.script_is ∙ sym (script_end a.lines line);
  lines_is = n ∙ ap (λ (k : ℕ). k + 1) h.lines_is ∙ sym (count_more a.lines line);
  goes_on = goes_on_after a old new line text whole h.goes_on prints;
}

pub still : (a : Accepted) (script : List ℕ) (count : ℕ) (old new : OpenedWorld) → Holds a script count old → new ≡ old → Holds a script count new
still a script count old new h e = rw e h

-- ---- what was saved

pub calls_none : (old : Option (List SaveCall)) → Calls old old []
calls_none None = tt
calls_none (Some xs) = sym (append-nil xs)

pub saves_nothing : (old : Option (List SaveCall)) → SavesNothing old old
saves_nothing old = ([], refl, calls_none old)

pub calls_then : (a b c : Option (List SaveCall)) (xs ys : List SaveCall) → Calls a b xs → Calls b c ys → Calls a c (xs ++ ys)
calls_then None b c xs ys p q = tt
calls_then (Some a) None c xs ys p q = absurd p
calls_then (Some a) (Some b) None xs ys p q = absurd q
calls_then (Some a) (Some b) (Some c) xs ys p q = q ∙ ap (λ (t : List SaveCall). t ++ ys) p ∙ append_assoc a xs ys
