-- The statuses and the output of the program, by its words and its streams.
--     ExitOfPlay              the script was played, and the status tells how that ended
--     status_of_fault         the status of a shell that ended before its input did: 4 if an allocation failed, otherwise 3
--     ExitOfShell             the lines that were typed were answered, up to the end of the input or a line `quit`; or up to an
--                             error, which the status tells
--     status_of_end           the status of an exploration whose answer was written: 0 if all outcomes are known and each
--                             expectation holds, 1 if a line has a fault, 5 if an expectation fails, 6 if none fails and not all
--                             outcomes are known
--     ExitOfExplore           the answer of an exploration was written, and the status tells how it ended; or a write failed, or
--                             nothing was written
--     is_first, asked_of      what a plan asks of a record
--     status_of_check         the status of a check whose answer was written: 0 if each key is explained, 1 if a line has a fault,
--                             5 if a key isn't explained, 6 if none is known not to be and the search of one gave up
--     ExitOfRecord            the answer of a check was written, and the status tells how it ended; or a write failed, or nothing
--                             was written
--     ExitOfCheck             the same of this plan; or a word of it is none of those that there are
--     status_of               the status of a report that was written: 0 if it is right, otherwise 5
--     BreaksOffText           a prefix of a text was written
--     ShowsReport             a report was written, and the status tells whether it is right; or a write failed, and a prefix of it
--                             was written; or an allocation failed, and nothing was written
--     ExitOfThreads           these threads were let count, and the report that this gave was shown, or it gave none for lack of
--                             memory, and nothing was written; or they were too much work
--     ExitOfTask              a task was carried out, and the status tells how that ended
--     Exits                   the same of these streams
--     version_text            the output of `--version`
--     help_ending             the end of the help: the meaning of the statuses, and the task of the repository's script
--     IsHelp                  a text of help; `clap`'s contract leaves open the part before the ending
--     ShowsText               a text was written; or a write failed, and a prefix of it was written
--     Shows                   the same of a text that was asked for
--     ExitOfFault             the output for these words with an error of this kind: the text that they asked for on standard
--                             output, or the error on standard error
--     Exit                    the task of right words is carried out; wrong ones are reported, and nothing is read; or an
--                             allocation failed, and nothing was read or written
--     status_without_words    the status if the words of the command line can't be read: 4 if an allocation failed, otherwise 2
--     IsOver, IsTooLong       the input has more bytes than a limit, and than a task takes; `threads` reads none
--     IsTooLongFor            the same of the task that the words ask for
--     FailsByStreams          status 3 is returned if a stream failed, and otherwise only if the input is too long; after a
--                             failed read this holds for standard output
use Rattle.std.specs.Prelude.{◌≡◌, ◌⊎◌, ◌<◌, ◌≤◌, ◌++◌, ℕ, List, [], Bool, true, false, not, Option, Result, IfSome, MatchResult}
use Rattle.std.specs.Prelude.{codes, length, take, if◌then◌else◌}
use Rattle.std.specs.Io.KnownBytes.{Appends}
use Rattle.clap.specs.Walk.{Row, Text}
use Rattle.clap.specs.Words.{IsAmong, Kinds}
use Rattle.clap.specs.declared.error.kind.ErrorKind.{ErrorKind}
use Rattle.clap.specs.declared.error.kind.ErrorKind.TheVariants as kind
use Rattle.std.specs.declared.alloc.AllocError.{AllocError}
use Rattle.std.specs.declared.io.ErrorKind.{ErrorKind as IoErrorKind}
use Rattle.std.specs.declared.io.ErrorKind.TheVariants as io-kind
use Rattle.jc_litmus.specs.Running.{BreaksOffExploration as BrokeLitmus, RunsExploration as RanLitmus}
use Rattle.jc_litmus.specs.declared.run.LitmusEnd.{LitmusEnd}
use Rattle.jc_litmus.specs.declared.run.LitmusEnd.TheVariants as litmus
use Rattle.jc_record.specs.Running.{BreaksOffCheck, ChecksRecord}
use Rattle.jc_record.specs.declared.input.TheConstants.{RECORD_MAX}
use Rattle.jc_record.specs.declared.judge.Asked.{Asked}
use Rattle.jc_record.specs.declared.run.RecordEnd.{RecordEnd}
use Rattle.jc_record.specs.declared.run.RecordEnd.TheVariants as record_end
use Rattle.jc_script.specs.Running.{BreaksOffScript, RunsScript}
use Rattle.jc_script.specs.declared.run.RunEnd.TheVariants.{Clean, LineFault}
use Rattle.jc_shell.specs.Running.{RunsDialogue as RanShell, Stopped as StoppedShell}
use Rattle.jc_shell.specs.Saving.{SaveCall}
use Rattle.jc_shell.specs.declared.run.ShellFault.{ShellFault}
use Rattle.jc_shell.specs.declared.run.ShellFault.TheVariants as shell
use Rattle.jc_types.specs.declared.limits.TheConstants.{SCRIPT_MAX}
use Rattle.jc_commands.specs.CommandLine.{IsAsked, is_too_much, is_wrong}
use Rattle.jc_commands.specs.declared.checking.CheckPlan.{CheckPlan}
use Rattle.jc_commands.specs.declared.checking.Choice.{Choice}
use Rattle.jc_commands.specs.declared.checking.Choice.TheVariants as choice
use Rattle.jcache.specs.Reports.{IsReportOf, is_right, report_text}
use Rattle.jc_commands.specs.declared.commands.Task.{Task}
use Rattle.jc_commands.specs.declared.commands.Task.TheVariants as task
use Rattle.jc_commands.specs.declared.plan.Plan.{Plan}
use Rattle.jcache.specs.declared.report.Report.{Report}

-- before and after: the bytes that the reader has left; old and new: those on standard output; silent: that nothing was written
-- to it
abbrev pub ExitOfPlay : (status : ℕ) (before after old new : Option (List ℕ)) (silent : Type 0) → Type 0
ExitOfPlay status before after old new silent =
    ((status ≡ 0) × RunsScript before after old new [] [] Clean)
    ⊎ (((status ≡ 1) × ((line : ℕ) × (note : List ℕ) × RunsScript before after old new [] note (LineFault line)))
    ⊎ (((status ≡ 3) × (BreaksOffScript before after old new ⊎ silent))
    ⊎ ((status ≡ 4) × silent)))

abbrev pub status_of_fault : ShellFault → ℕ
status_of_fault shell.OutOfMemory = 4
status_of_fault fault = 3

-- earlier and later: the calls that the shell's saver has had before and after
abbrev pub ExitOfShell : (prompt : List ℕ) (status : ℕ) (before after old new : Option (List ℕ))
    (earlier later : Option (List SaveCall)) → Type 0
ExitOfShell prompt status before after old new earlier later =
    ((status ≡ 0) × RanShell prompt before after old new earlier later)
    ⊎ ((fault : ShellFault) × (status ≡ status_of_fault fault) × StoppedShell prompt fault before after old new earlier later)

abbrev pub status_of_end : LitmusEnd → ℕ
status_of_end litmus.Holds = 0
status_of_end litmus.LineFault = 1
status_of_end litmus.Fails = 5
status_of_end litmus.Open = 6

abbrev pub ExitOfExplore : (states : ℕ) (status : ℕ) (before after old new : Option (List ℕ)) (silent : Type 0) → Type 0
ExitOfExplore states status before after old new silent =
    ((end : LitmusEnd) × (notes : List ℕ) × (status ≡ status_of_end end) × RanLitmus states before after old new [] notes end)
    ⊎ (((status ≡ 3) × (BrokeLitmus states before after old new ⊎ silent))
    ⊎ ((status ≡ 4) × silent))

abbrev pub is_first : Choice → Bool
is_first choice.First = true
is_first choice.Second = false
is_first choice.Wrong = false

abbrev pub asked_of : CheckPlan → Asked
asked_of plan =
    record {
      is_store_known = is_first plan.rules;
      may_vanish = is_first plan.evict;
      is_real = is_first plan.order;
      states = plan.states;
      is_ordered = not (is_first plan.witness);
    }

abbrev pub status_of_check : RecordEnd → ℕ
status_of_check record_end.Explained = 0
status_of_check record_end.LineFault = 1
status_of_check record_end.NotExplained = 5
status_of_check record_end.GaveUp = 6

abbrev pub ExitOfRecord : Asked → (status : ℕ) (before after old new : Option (List ℕ)) (silent : Type 0) → Type 0
ExitOfRecord asked status before after old new silent =
    ((end : RecordEnd) × (status ≡ status_of_check end) × ChecksRecord asked before after old new end)
    ⊎ (((status ≡ 3) × (BreaksOffCheck asked before after old new ⊎ silent))
    ⊎ ((status ≡ 4) × silent))

abbrev pub ExitOfCheck : CheckPlan → (status : ℕ) (before after old new : Option (List ℕ)) (silent unread : Type 0) → Type 0
ExitOfCheck plan status before after old new silent unread =
    ((is_wrong plan ≡ true) × (status ≡ 2) × silent × unread)
    ⊎ ((is_wrong plan ≡ false) × ExitOfRecord (asked_of plan) status before after old new silent)

abbrev pub status_of : Report → ℕ
status_of report = if is_right report then 0 else 5

abbrev pub BreaksOffText : (text : List ℕ) (old new : Option (List ℕ)) → Type 0
BreaksOffText text old new = (count : ℕ) × (count ≤ length text) × Appends old new (take count text)

abbrev pub ShowsReport : Report → (status : ℕ) (old new : Option (List ℕ)) (silent : Type 0) → Type 0
ShowsReport report status old new silent =
    ((status ≡ status_of report) × Appends old new (report_text report))
    ⊎ (((status ≡ 3) × BreaksOffText (report_text report) old new)
    ⊎ ((status ≡ 4) × silent))

-- Counts: that threads which were let count by a plan gave this
abbrev pub ExitOfThreads : (Counts : Plan → Result Report AllocError → Type 0) → Plan
    → (status : ℕ) (old new : Option (List ℕ)) (silent : Type 0) → Type 0
ExitOfThreads Counts plan status old new silent =
    ((is_too_much plan ≡ true) × (status ≡ 2) × silent)
    ⊎ ((is_too_much plan ≡ false)
    × ((counted : Result Report AllocError) × Counts plan counted
    × MatchResult counted (λ report. IsReportOf plan report × ShowsReport report status old new silent)
    (λ e. (status ≡ 4) × silent)))

-- played: that the script was played; explored: that at most this number of states was followed; answered: that the lines were
-- answered; counted: that this plan was carried out; checked: that a record was judged by this plan; unread: that nothing was
-- read
abbrev pub ExitOfTask : Task
    → (played : Type 0) (explored : ℕ → Type 0) (answered : Type 0) (counted : Plan → Type 0) (checked : CheckPlan → Type 0)
    (unread : Type 0) → Type 0
ExitOfTask task.Run played explored answered counted checked unread = played
ExitOfTask task.Shell played explored answered counted checked unread = answered
ExitOfTask (task.Explore states) played explored answered counted checked unread = explored states
ExitOfTask (task.Threads plan) played explored answered counted checked unread = counted plan × unread
ExitOfTask (task.Check plan) played explored answered counted checked unread = checked plan

abbrev pub Exits : (Counts : Plan → Result Report AllocError → Type 0) (prompt : List ℕ) → Task
    → (status : ℕ) (before after old new : Option (List ℕ)) (earlier later : Option (List SaveCall)) (silent unread : Type 0)
    → Type 0
Exits Counts prompt asked status before after old new earlier later silent unread =
    ExitOfTask asked (ExitOfPlay status before after old new silent)
    (λ states. ExitOfExplore states status before after old new silent)
    (ExitOfShell prompt status before after old new earlier later) (λ plan. ExitOfThreads Counts plan status old new silent)
    (λ plan. ExitOfCheck plan status before after old new silent unread) unread

abbrev pub version_text : List ℕ
version_text = codes "jcache 0.2.0\n"

abbrev pub help_ending : List ℕ
help_ending =
    codes
    "\nExit status: 0 done, 1 a line has a fault, 2 wrong words, 3 a stream failed, 4 out of memory, 5 wrong report, an expectation fails, or a key isn't explained,\n  6 not all is known: states were left\n\nThe script ./jcache of the repository builds this program if it has to, and has further words:\n  run FILE..       Plays these scripts, one after the other, up to the first whose exit status isn't 0; - is standard input\n  explore FILE..   Explores these programs of threads in the same way\n  check FILE..     Judges these records of calls in the same way\n  build [CRATE..]  Proves and builds the program, and these crates with those below them; exit status 125 if that fails\n\nFor example: ./jcache run examples/put_seen_after_commit.script\nThe words of a script, and all limits: docs/SCRIPT.md; of a program of threads: docs/EXPLORE.md; of a record: docs/CHECK.md\n"

abbrev pub IsHelp : List ℕ → Type 0
IsHelp text = (before : List ℕ) × (text ≡ before ++ help_ending)

abbrev pub ShowsText : (text : List ℕ) (status : ℕ) (old new : Option (List ℕ)) → Type 0
ShowsText text status old new = ((status ≡ 0) × Appends old new text) ⊎ ((status ≡ 3) × BreaksOffText text old new)

abbrev pub Shows : (asked : List ℕ → Type 0) (status : ℕ) (old new : Option (List ℕ)) → Type 0
Shows asked status old new = (text : List ℕ) × asked text × ShowsText text status old new

abbrev pub ExitOfFault : ErrorKind → (status : ℕ) (old new : Option (List ℕ)) (silent : Type 0) → Type 0
ExitOfFault kind.DisplayHelp status old new silent = Shows IsHelp status old new
ExitOfFault kind.DisplayVersion status old new silent = Shows (λ text. text ≡ version_text) status old new
ExitOfFault k status old new silent = (status ≡ 2) × silent

abbrev pub status_without_words : IoErrorKind → ℕ
status_without_words io-kind.OutOfMemory = 4
status_without_words why = 2

-- found: the subcommand with its options; done: that a task was carried out
abbrev pub Exit : Kinds → (found : Option (Text × List Row))
    → (status : ℕ) (done : Task → Type 0) (unread : Type 0) (old new : Option (List ℕ)) (silent : Type 0) → Type 0
Exit kinds found status done unread old new silent =
    ((kinds ≡ []) × ((t : Task) × IsAsked found t × done t))
    ⊎ (((k : ErrorKind) × IsAmong k kinds × ExitOfFault k status old new silent × unread)
    ⊎ ((status ≡ 4) × unread × silent))

abbrev pub IsOver : ℕ → Option (List ℕ) → Type 0
IsOver limit before = IfSome before (λ xs. limit < length xs)

abbrev pub IsTooLong : Task → (before : Option (List ℕ)) → Type 0
IsTooLong task.Run before = IsOver SCRIPT_MAX before
IsTooLong task.Shell before = IsOver SCRIPT_MAX before
IsTooLong (task.Explore states) before = IsOver SCRIPT_MAX before
IsTooLong (task.Threads plan) before = ⊥
IsTooLong (task.Check plan) before = IsOver RECORD_MAX before

abbrev pub IsTooLongFor : Option (Text × List Row) → (before : Option (List ℕ)) → Type 0
IsTooLongFor found before = (t : Task) × IsAsked found t × IsTooLong t before

abbrev pub FailsByStreams : (status : ℕ) (read_failed write_failed : Bool) (too_long silent : Type 0) → Type 0
FailsByStreams status read_failed write_failed too_long silent =
    (read_failed ≡ true → (status ≡ 3) × silent)
    × (write_failed ≡ true → status ≡ 3)
    × (status ≡ 3 → (read_failed ≡ true) ⊎ ((write_failed ≡ true) ⊎ too_long))
