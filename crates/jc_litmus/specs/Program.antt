-- A program, read line by line.
--     Expected, expected                     an expectation, as data
--     ReadSoFar                              the parts of a program that were read so far
--     nothing_read                           the parts before the first line
--     if_open                                a line that comes after the `open`
--     opened_with, after_open                an `open`: the first one, with a shape that a cache may have
--     stored_before, after_set               a `set`, before the first thread
--     onto_last                              threads, with one more item in the last
--     room_for_item, may_add, with_thread_item, after_item    an item of the last thread: at most ITEMS_MAX, of all threads
--                                            together
--     after_script_line                      a line that scripts have, too
--     one_thread_more, after_thread          a `thread`: at most THREADS_MAX
--     after_call                             a call of one key
--     invocation_of, invocation, after_invoke    an entry processor on a key, with its calls
--     after_failing                          a fault that may happen
--     with_expected, after_expect            an expectation about the items above it
--     after_own_line, after_words, after_other_line    a line that no script has, by its first word, from its words, and if no
--                                            word is empty
--     after_fault, after_read, after_line    a line that no script has, a line as scripts read it, and the bytes of a line
--     ProgramValue                           a program with its expectations, as data
--     value_of_program                       the data of a program that was read
--     program_if, program_read               the program that was read, if the cache's shape is there
--     whole                                  the parts that were read up to a line's number, if they are a program: without an
--                                            `open` the fault is in that line
--     ended                                  the end of the text: after a line feed, or in a line that has none
--     is_blank                               a piece with no bytes
--     then_on                                what follows a line, or its fault
--     program_from                           the program of the lines from a number on, or the first line at fault, and its fault
--     program_of                             the program of a text, whose lines are the pieces between its line feeds
--     ReadsLines, ReadsProgram               the result of reading a text is that of `program_of`, unless an allocation failed
use Rattle.std.specs.Prelude.{◌≡◌, ℕ, ◌+◌, List, [], ◌∷◌, ◌++◌, length, map, codes, Bool, true, false, nat_lt, Option, None, Some}
use Rattle.std.specs.Prelude.{Result, Ok, Err, if◌then◌else◌}
use Rattle.std.specs.Str.{bytes_eq}
use Rattle.std.specs.List.{flat_map}
use Rattle.jc_types.specs.declared.config.Config.{Config}
use Rattle.jc_types.specs.declared.refusal.Refusal.{Refusal}
use Rattle.jc_types.specs.Limits.{check}
use Rattle.jc_model.specs.Cache.{Bytes}
use Rattle.jc_explore.specs.declared.program.Faults.{Faults}
use Rattle.jc_explore.specs.declared.program.Item.{Item}
use Rattle.jc_explore.specs.declared.program.Item.TheVariants as item
use Rattle.jc_text.specs.declared.fault.Fault.{Fault}
use Rattle.jc_text.specs.declared.fault.Fault.TheVariants.{BadLine, CutLine, NotOpen, OpenTwice, SetTooLate}
use Rattle.jc_text.specs.declared.read.line.Line.{Line}
use Rattle.jc_text.specs.declared.read.line.Line.TheVariants as line
use Rattle.jc_text.specs.Words.{key_of, words_of}
use Rattle.jc_text.specs.Lines.{are_words, read_line}
use Rattle.jc_text.specs.Pieces.{pieces_of}
use Rattle.jc_litmus.specs.declared.program.TheConstants.{ITEMS_MAX, THREADS_MAX}
use Rattle.jc_litmus.specs.declared.program.Atom.{Atom}
use Rattle.jc_litmus.specs.declared.program.Expectation.{Expectation}
use Rattle.jc_litmus.specs.declared.program.LineFault.{LineFault}
use Rattle.jc_litmus.specs.declared.program.LineFault.TheVariants.{Script, NoThread, TooManyThreads, TooManyItems, NotACall}
use Rattle.jc_litmus.specs.declared.program.Litmus.{Litmus}
use Rattle.jc_litmus.specs.declared.program.ProgramFault.{ProgramFault}
use Rattle.jc_litmus.specs.declared.program.ProgramFault.TheVariants as program_fault
use Rattle.jc_litmus.specs.declared.program.Quantifier.{Quantifier}
use Rattle.jc_litmus.specs.Atoms.{are_atoms, atoms_from, in_script}
use Rattle.jc_litmus.specs.Grammar.{after_space, begin_line, calls_of_text, is_outside, may_fail, operation_in, process_text}
use Rattle.jc_litmus.specs.Grammar.{quantifier_named, with_fault}
use Rattle.jc_litmus.specs.Opened.{shape_fault}
use Rattle.jc_litmus.specs.Then.{◌>>=◌}

-- 1. The parts that are read.

pub record Expected : Type 0 where
  pub quantifier : Quantifier
  pub atoms : List Atom
  pub text : List ℕ

abbrev pub expected : Expectation → Expected
expected e = record { quantifier = e.quantifier; atoms = e.atoms.items; text = e.text.items }

-- `items` is the number of items of all threads together
pub record ReadSoFar : Type 0 where
  pub config : Option Config
  pub stored : List (Bytes × Bytes)
  pub threads : List (List Item)
  pub items : ℕ
  pub faults : Faults
  pub expectations : List Expected

abbrev pub nothing_read : ReadSoFar
nothing_read =
    record {
      config = None;
      stored = [];
      threads = [];
      items = 0;
      faults = record { load = None; write = None; lie = None; process = None };
      expectations = [];
    }

-- 2. Lines that scripts have too.

abbrev pub if_open : {X : Type 0} → Option Config → Result X LineFault → Result X LineFault
if_open None then_so = Err (Script NotOpen)
if_open (Some config) then_so = then_so

abbrev pub opened_with : ReadSoFar → Config → Option Config → Result (Unit {0}) Refusal → Result ReadSoFar LineFault
opened_with so_far config (Some other) checked = Err (Script OpenTwice)
opened_with so_far config None (Ok u) = Ok (record so_far { config = Some config })
opened_with so_far config None (Err refusal) = Err (Script (shape_fault refusal))

unfoldable pub after_open : ReadSoFar → Config → Result ReadSoFar LineFault
after_open so_far config = opened_with so_far config so_far.config (check config)

abbrev pub stored_before : ReadSoFar → Bytes → Bytes → List (List Item) → Result ReadSoFar LineFault
stored_before so_far key value [] = Ok (record so_far { stored = so_far.stored ++ (key, value) ∷ [] })
stored_before so_far key value (thread ∷ more) = Err (Script SetTooLate)

unfoldable pub after_set : ReadSoFar → Bytes → Bytes → Result ReadSoFar LineFault
after_set so_far key value = if_open so_far.config (stored_before so_far key value so_far.threads)

abbrev pub onto_last : Item → List (List Item) → List (List Item)
onto_last one [] = []
onto_last one (thread ∷ []) = (thread ++ one ∷ []) ∷ []
onto_last one (thread ∷ next ∷ more) = thread ∷ onto_last one (next ∷ more)

abbrev pub room_for_item : ReadSoFar → List (List Item) → Result (Unit {0}) LineFault
room_for_item so_far [] = Err NoThread
room_for_item so_far (thread ∷ more) = if nat_lt so_far.items ITEMS_MAX then Ok tt else Err TooManyItems

abbrev pub may_add : ReadSoFar → Result (Unit {0}) LineFault
may_add so_far = if_open so_far.config (room_for_item so_far so_far.threads)

abbrev pub with_thread_item : ReadSoFar → Item → ReadSoFar
with_thread_item so_far one = record so_far { threads = onto_last one so_far.threads; items = so_far.items + 1 }

unfoldable pub after_item : ReadSoFar → Item → Result ReadSoFar LineFault
after_item so_far one = may_add so_far >>= λ room. Ok (with_thread_item so_far one)

unfoldable pub after_script_line : ReadSoFar → Line → Result ReadSoFar LineFault
after_script_line so_far (line.Open config) = after_open so_far config
after_script_line so_far (line.Set key value) = after_set so_far key value
after_script_line so_far (line.Foreign key value) = after_item so_far (item.Foreign key value)
after_script_line so_far (line.Invalidate key) = after_item so_far (item.Invalidate key)
after_script_line so_far other = if_open so_far.config (Err NotACall)

-- 3. Lines that no script has.

abbrev pub one_thread_more : ReadSoFar → Result ReadSoFar LineFault
one_thread_more so_far =
    if nat_lt (length so_far.threads) THREADS_MAX
    then Ok (record so_far { threads = so_far.threads ++ [] ∷ [] })
    else Err TooManyThreads

unfoldable pub after_thread : ReadSoFar → List (List ℕ) → Result ReadSoFar LineFault
after_thread so_far [] = if_open so_far.config (one_thread_more so_far)
after_thread so_far (word ∷ more) = Err (Script BadLine)

unfoldable pub after_call : ReadSoFar → List ℕ → List (List ℕ) → Result ReadSoFar LineFault
after_call so_far first words =
    begin_line first words >>= λ l. if_open so_far.config (operation_in l >>= λ o. after_item so_far (item.Call o.op o.key))

abbrev pub invocation_of : List ℕ → List (List ℕ) → Result Item LineFault
invocation_of k words =
    in_script (key_of k) >>= λ key. calls_of_text (process_text (flat_map after_space words))
    >>= λ calls. Ok (item.Invoke key calls)

unfoldable pub invocation : List (List ℕ) → Result Item LineFault
invocation (k ∷ colon ∷ words) = if bytes_eq colon (codes ":") then invocation_of k words else Err (Script BadLine)
invocation words = Err (Script BadLine)

unfoldable pub after_invoke : ReadSoFar → List (List ℕ) → Result ReadSoFar LineFault
after_invoke so_far words = invocation words >>= λ one. after_item so_far one

unfoldable pub after_failing : ReadSoFar → List (List ℕ) → Result ReadSoFar LineFault
after_failing so_far words =
    in_script (may_fail words)
    >>= λ who. if_open so_far.config (Ok (record so_far { faults = with_fault so_far.faults who.0 who.1 }))

abbrev pub with_expected : ReadSoFar → Quantifier → List ℕ → List Atom → ReadSoFar
with_expected so_far quantifier text atoms =
    record so_far { expectations = so_far.expectations ++ record { quantifier = quantifier; atoms = atoms; text = text } ∷ [] }

unfoldable pub after_expect : ReadSoFar → Quantifier → List ℕ → List (List ℕ) → Result ReadSoFar LineFault
after_expect so_far quantifier text words =
    if are_atoms words
    then if_open so_far.config (atoms_from so_far.threads [] words >>= λ atoms. Ok (with_expected so_far quantifier text atoms))
    else Err (Script BadLine)

unfoldable pub after_own_line : ReadSoFar → List ℕ → List ℕ → List (List ℕ) → Option Quantifier → Result ReadSoFar LineFault
after_own_line so_far text first words (Some quantifier) = after_expect so_far quantifier text words
after_own_line so_far text first words None =
    if bytes_eq first (codes "thread") then after_thread so_far words else
    if bytes_eq first (codes "invoke") then after_invoke so_far words else
    after_call so_far first words

abbrev pub after_words : ReadSoFar → List ℕ → List (List ℕ) → Result ReadSoFar LineFault
after_words so_far text [] = Err (Script BadLine)
after_words so_far text (first ∷ words) =
    if is_outside first then after_failing so_far (first ∷ words)
    else after_own_line so_far text first words (quantifier_named first)

unfoldable pub after_other_line : ReadSoFar → List ℕ → List (List ℕ) → Result ReadSoFar LineFault
after_other_line so_far text words = if are_words words then after_words so_far text words else Err (Script BadLine)

-- 4. A whole line.

-- a line that no script has may be one of a program
abbrev pub after_fault : ReadSoFar → List ℕ → Fault → Result ReadSoFar LineFault
after_fault so_far text BadLine = after_other_line so_far text (words_of text)
after_fault so_far text other = Err (Script other)

-- a comment changes nothing
abbrev pub after_read : ReadSoFar → List ℕ → Result (Option Line) Fault → Result ReadSoFar LineFault
after_read so_far text (Ok None) = Ok so_far
after_read so_far text (Ok (Some l)) = after_script_line so_far l
after_read so_far text (Err fault) = after_fault so_far text fault

unfoldable pub after_line : ReadSoFar → List ℕ → Result ReadSoFar LineFault
after_line so_far text = after_read so_far text (read_line text)

-- 5. A whole program.

pub record ProgramValue : Type 0 where
  pub config : Config
  pub stored : List (Bytes × Bytes)
  pub threads : List (List Item)
  pub faults : Faults
  pub expectations : List Expected

abbrev pub value_of_program : Litmus → ProgramValue
value_of_program x =
    record {
      config = x.program.config;
      stored = x.program.stored.items;
      threads = map (λ thread. thread.items) x.program.threads.items;
      faults = x.program.faults;
      expectations = map expected x.expectations.items;
    }

abbrev pub program_if : ReadSoFar → Option Config → Option ProgramValue
program_if so_far None = None
program_if so_far (Some config) =
    Some (record {
      config = config;
      stored = so_far.stored;
      threads = so_far.threads;
      faults = so_far.faults;
      expectations = so_far.expectations;
    })

abbrev pub program_read : ReadSoFar → Option ProgramValue
program_read so_far = program_if so_far so_far.config

abbrev pub whole : ℕ → Option ProgramValue → Result ProgramValue (ℕ × LineFault)
whole number None = Err (number, Script NotOpen)
whole number (Some program) = Ok program

abbrev pub ended : ReadSoFar → ℕ → Bool → Result ProgramValue (ℕ × LineFault)
ended so_far number true = whole number (program_read so_far)
ended so_far number false = Err (number, Script CutLine)

abbrev pub is_blank : List ℕ → Bool
is_blank [] = true
is_blank (b ∷ bs) = false

-- the first fault ends it
abbrev pub then_on : {X : Type 0} → ℕ → Result ReadSoFar LineFault → (ReadSoFar → Result X (ℕ × LineFault))
    → Result X (ℕ × LineFault)
then_on number (Ok so_far) go = go so_far
then_on number (Err fault) go = Err (number, fault)

-- there is always a last piece
abbrev pub program_from : ReadSoFar → ℕ → List (List ℕ) → Result ProgramValue (ℕ × LineFault)
program_from so_far number [] = ended so_far number true
program_from so_far number (last ∷ []) = ended so_far number (is_blank last)
program_from so_far number (text ∷ next ∷ more) =
    then_on number (after_line so_far text) (λ new. program_from new (number + 1) (next ∷ more))

abbrev pub program_of : List ℕ → Result ProgramValue (ℕ × LineFault)
program_of text = program_from nothing_read 1 (pieces_of text)

-- 6. The results of the functions.

-- by the place where the lines end, whether the last one has a line feed, and the parts that were read
abbrev pub ReadsLines : Result (ℕ × Bool) ProgramFault → ReadSoFar → Result ProgramValue (ℕ × LineFault) → Type 0
ReadsLines (Ok r) new said = said ≡ ended new r.0 r.1
ReadsLines (Err program_fault.OutOfMemory) new said = Unit {0}
ReadsLines (Err (program_fault.Line number fault)) new said = said ≡ Err (number, fault)

abbrev pub ReadsProgram : Result Litmus ProgramFault → Result ProgramValue (ℕ × LineFault) → Type 0
ReadsProgram (Ok x) said = said ≡ Ok (value_of_program x)
ReadsProgram (Err program_fault.OutOfMemory) said = Unit {0}
ReadsProgram (Err (program_fault.Line number fault)) said = said ≡ Err (number, fault)
