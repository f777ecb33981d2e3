-- Which word of a program's line a fault is about. Words of a line are counted from 0; the lines are those that no script has.
--     is_bare_call, is_valued_call      a word names a call with a key and no value, and with a key and one value
--     line_form, form_of                the form of a line, by its first word, and by its words
--     is_entry_call, reads_entry_call   a word has the shape of a call on an entry, and is one
--     is_misplaced                      no word of this shape may be at this place of a line with this form and this first word
--     is_wrong                          a word doesn't say what its place asks for
--     is_bad                            what is looked for: an empty word or a misplaced one, or else a wrong one
--     bad_from, bad_word                the first such word from the left, or the place behind the last word: from a word on, and
--                                       of all words
--     search_for                        which words a fault looks for, if it doesn't mean the whole line
--     word_by, word_meant               the word that a fault is about: the first one, if the whole line is meant
use Rattle.std.specs.Prelude.{◌==◌, ◌&&◌, ◌||◌, ◌+◌, ℕ, List, [], ◌∷◌, drop, length, codes, Bool, true, false, not, nat_lt, is_ok}
use Rattle.std.specs.Prelude.{is_some, Option, None, Some, if◌then◌else◌}
use Rattle.std.specs.Str.{bytes_eq}
use Rattle.jc_explore.specs.declared.program.Item.{Item}
use Rattle.jc_text.specs.declared.fault.Fault.TheVariants.{BadKey, BadLine, BadNumber, BadValue}
use Rattle.jc_text.specs.ProcessWords.{begins_with}
use Rattle.jc_text.specs.Words.{key_of, number_of, value_of}
use Rattle.jc_litmus.specs.declared.program.LineFault.{LineFault}
use Rattle.jc_litmus.specs.declared.program.LineFault.TheVariants.{BadReply, NoSuchItem, Script}
use Rattle.jc_litmus.specs.declared.fault_word.LineForm.{LineForm}
use Rattle.jc_litmus.specs.declared.fault_word.LineForm.TheVariants as form
use Rattle.jc_litmus.specs.declared.fault_word.WordSearch.{WordSearch}
use Rattle.jc_litmus.specs.declared.fault_word.WordSearch.TheVariants.{Content, Shape}
use Rattle.jc_litmus.specs.Atoms.{atom_of, is_atom}
use Rattle.jc_litmus.specs.Grammar.{failing_named, is_outside, quantifier_named}

abbrev pub is_bare_call : List ℕ → Bool
is_bare_call word =
    bytes_eq word (codes "get") || bytes_eq word (codes "contains") || bytes_eq word (codes "remove")
    || bytes_eq word (codes "getremove") || bytes_eq word (codes "forget")

abbrev pub is_valued_call : List ℕ → Bool
is_valued_call word =
    bytes_eq word (codes "put") || bytes_eq word (codes "getput") || bytes_eq word (codes "putif")
    || bytes_eq word (codes "removeif") || bytes_eq word (codes "replace") || bytes_eq word (codes "getreplace")

abbrev pub line_form : List ℕ → LineForm
line_form first =
    if is_outside first then form.Outside else
    if is_some (quantifier_named first) then form.Expectation else
    if bytes_eq first (codes "thread") then form.Thread else
    if bytes_eq first (codes "invoke") then form.Invoke else
    if is_bare_call first then form.Call 1 else
    if is_valued_call first then form.Call 2 else
    if bytes_eq first (codes "replaceif") then form.Call 3 else
    form.Unknown

abbrev pub form_of : List (List ℕ) → LineForm
form_of [] = form.Unknown
form_of (first ∷ words) = line_form first

abbrev pub is_entry_call : List ℕ → Bool
is_entry_call word =
    bytes_eq word (codes "get") || bytes_eq word (codes "exists") || bytes_eq word (codes "remove")
    || begins_with (codes "set=") word

abbrev pub reads_entry_call : List ℕ → Bool
reads_entry_call word = if begins_with (codes "set=") word then is_ok (value_of (drop 4 word)) else is_entry_call word

abbrev pub is_misplaced : LineForm → (first : List ℕ) (at : ℕ) (word : List ℕ) → Bool
is_misplaced form.Outside first at word =
    ((at == 1) && not (bytes_eq word (codes "may"))) || ((at == 2) && not (is_some (failing_named first word))) || nat_lt 3 at
is_misplaced form.Expectation first at word = nat_lt 0 at && not (is_atom word)
is_misplaced form.Thread first at word = nat_lt 0 at
is_misplaced form.Invoke first at word = ((at == 2) && not (bytes_eq word (codes ":"))) || (nat_lt 2 at && not (is_entry_call word))
is_misplaced (form.Call last) first at word = nat_lt last at
is_misplaced form.Unknown first at word = true

-- threads: those above the line
abbrev pub is_wrong : (threads : List (List Item)) → LineForm → (at : ℕ) (word : List ℕ) → Bool
is_wrong threads form.Outside at word = (at == 3) && not (is_ok (number_of word))
is_wrong threads form.Expectation at word = nat_lt 0 at && not (is_ok (atom_of threads word))
is_wrong threads form.Invoke at word = ((at == 1) && not (is_ok (key_of word))) || (nat_lt 2 at && not (reads_entry_call word))
is_wrong threads (form.Call last) at word = ((at == 1) && not (is_ok (key_of word))) || (nat_lt 1 at && not (is_ok (value_of word)))
is_wrong threads form.Thread at word = false
is_wrong threads form.Unknown at word = false

abbrev pub is_bad : WordSearch → (threads : List (List Item)) (first : List ℕ) (at : ℕ) (word : List ℕ) → Bool
is_bad Shape threads first at word = (length word == 0) || is_misplaced (line_form first) first at word
is_bad Content threads first at word = is_wrong threads (line_form first) at word

abbrev pub bad_from : WordSearch → (threads : List (List Item)) (first : List ℕ) (at : ℕ) → List (List ℕ) → ℕ
bad_from search threads first at [] = at
bad_from search threads first at (word ∷ words) =
    if is_bad search threads first at word then at else bad_from search threads first (at + 1) words

abbrev pub bad_word : WordSearch → (threads : List (List Item)) (first : List ℕ) → List (List ℕ) → ℕ
bad_word search threads first words = bad_from search threads first 0 words

abbrev pub search_for : LineFault → Option WordSearch
search_for (Script BadLine) = Some Shape
search_for (Script BadNumber) = Some Content
search_for (Script BadKey) = Some Content
search_for (Script BadValue) = Some Content
search_for BadReply = Some Content
search_for NoSuchItem = Some Content
search_for other = None

abbrev pub word_by : Option WordSearch → (threads : List (List Item)) → List (List ℕ) → ℕ
word_by None threads words = 0
word_by (Some search) threads [] = 0
word_by (Some search) threads (first ∷ words) = bad_word search threads first (first ∷ words)

abbrev pub word_meant : (threads : List (List Item)) → LineFault → List (List ℕ) → ℕ
word_meant threads fault words = word_by (search_for fault) threads words
