-- The shell's own words.
--     word_of                the word of the shell that a line is
--     name_in                the name in a line that asks to save, or what a line is
--     help_text              the answer to `help`
--     act_help, line_help    what a line is, by its first word, or that there is none: of a line about a call under way and the
--                            like, and of any
--     saved_text             the answer to a `save` that saved the script
--     not_saved_text         the answer to a `save` that didn't, with the reason
--     undone_text            the answer to an `undo` that took a line back
--     no_undo_text           the answer to an `undo` before the first accepted line
--     not_undone_text        the answer to an `undo` after which a line before has a fault
use Rattle.std.specs.Prelude.{◌++◌, ◌||◌, ℕ, List, codes, drop, take, if◌then◌else◌}
use Rattle.std.specs.Str.{bytes_eq}
use Rattle.jc_shell.specs.declared.words.Word.{Word}
use Rattle.jc_shell.specs.declared.words.Word.TheVariants.{Help, HelpOn, Quit, Save, Undo, Line}

abbrev pub word_of : List ℕ → Word
word_of line =
    if bytes_eq line (codes "help") then Help else
    if bytes_eq line (codes "quit") || bytes_eq line (codes "exit") then Quit else
    if bytes_eq line (codes "undo") then Undo else
    if bytes_eq (take 5 line) (codes "save ") then Save else
    if bytes_eq (take 5 line) (codes "help ") then HelpOn else Line

abbrev pub name_in : List ℕ → List ℕ
name_in line = drop 5 line

abbrev pub help_text : List ℕ
help_text =
    codes
    "A line of a script is answered by what it prints. A line with a fault does nothing.\n  open reopen set begin more read readfail say apply applyfail applylie process end drop take foreign invalidate audit untold\nBeside these:\n  help       says this\n  help NAME  says what a line NAME is; docs/SCRIPT.md says all of it\n  save FILE  writes the accepted lines to a file: a script\n  undo       takes the last accepted line back\n  quit       ends the session, as exit and the end of the input do\n"

abbrev pub act_help : List ℕ → List ℕ
act_help name =
    if bytes_eq name (codes "read") then codes "read N: the loader of call N reads the store\n" else
    if bytes_eq name (codes "readfail") then codes "readfail N C: the loader of call N fails with code C\n" else
    if bytes_eq name (codes "say") then codes "say N [K=V ..]: the loader of call N answers this, whatever the store has\n" else
    if bytes_eq name (codes "apply")
    then codes "apply N [but K ..]: the writer of call N changes the store as it was asked, but at these keys, and returns\n" else
    if bytes_eq name (codes "applyfail")
    then codes
    "applyfail N C [but [K ..]]: the writer of call N fails with code C, having changed nothing; with but, all other keys\n" else
    if bytes_eq name (codes "applylie")
    then codes "applylie N C: the writer of call N changes the store, and then says that it failed with code C\n" else
    if bytes_eq name (codes "process")
    then codes
    "process N [loadfail=C or loadsay=V or loadsay=-] [CALL ..] [fail=C]: the entry processor of call N runs. CALL is get, exists, remove or set=V\n" else
    if bytes_eq name (codes "end") then codes "end N: call N commits each key that it has reserved\n" else
    if bytes_eq name (codes "drop") then codes "drop N: call N gives up\n" else
    if bytes_eq name (codes "take") then codes "take N: call N asks for the answer of each load that it has joined\n" else
    if bytes_eq name (codes "audit")
    then codes "audit: what is cached, what the store has, whether they agree, and the history\n" else
    if bytes_eq name (codes "untold") then codes "untold: the keys at which the store may have another value than the cache\n" else
    codes "there is no such line; help lists them\n"

abbrev pub line_help : List ℕ → List ℕ
line_help name =
    if bytes_eq name (codes "open")
    then codes "open S C H [read] [write]: opens a cache of S stripes, each with C entries and H events\n" else
    if bytes_eq name (codes "reopen")
    then codes "reopen S C H [read] [write]: closes the cache and opens it again, if no call is under way\n" else
    if bytes_eq name (codes "set") then codes "set K V: the store has V at K before anything happens\n" else
    if bytes_eq name (codes "begin")
    then codes
    "begin N WHO OP ..: call N of session WHO (s1 to s32) begins. OP is get K, contains K, put K V, getput K V, putif K V, remove K, removeif K V, getremove K, forget K, replace K V, replaceif K V V, getreplace K V, invoke K, getall K .., putall K=V .., removeall K .., removeevery, clear, loadall keep K .., loadall replace K .. or invokeall K ..\n" else
    if bytes_eq name (codes "more")
    then codes "more N: call N makes the first phase again of each key that was put off or told to retry\n" else
    if bytes_eq name (codes "foreign")
    then codes "foreign K V, foreign K -: another program writes V in the store, or deletes K there\n" else
    if bytes_eq name (codes "invalidate")
    then codes "invalidate K: the cache forgets K, at once or at the end of the call that has reserved it\n" else
    act_help name

abbrev pub saved_text : List ℕ → List ℕ
saved_text name = codes "saved " ++ name ++ codes "\n"

abbrev pub not_saved_text : (name why : List ℕ) → List ℕ
not_saved_text name why = codes "not saved " ++ name ++ codes ": " ++ why ++ codes "\n"

abbrev pub undone_text : List ℕ → List ℕ
undone_text line = codes "undone " ++ line ++ codes "\n"

abbrev pub no_undo_text : List ℕ
no_undo_text = codes "nothing to undo\n"

abbrev pub not_undone_text : List ℕ
not_undone_text = codes "not undone: a line before it has a fault this time, since memory was short\n"
