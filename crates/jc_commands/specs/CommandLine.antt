-- The command line: the words that are right, with their tasks, and the errors of the others.
--     option_rule               an option with a number, which is required or not
--     explore                   the command of the subcommand `explore`: one such option, with its range
--     threads                   the command of the subcommand `threads`: three such options, with their ranges
--     word_rule                 an option with a word
--     judging, check            the command of the subcommand `check`: three options with a word, and one with a number
--     player                    the command with its first subcommands, `run` and `shell`: it has a version, and a subcommand
--                               must be named
--     player_of_threads         the same with `explore` and `threads`
--     program                   the command, as `clap` sees it, with its last subcommand, `check`
--     faults_at                 the kinds of error that these words, the first of which is the program's name, may have; none if
--                               they are right
--     subcommand_at             the subcommand that these words name, with its options
--     SpellsOr, SpellsIf        the number that an option's text spells in decimal digits, or if it isn't given a default, or
--                               none
--     choice_of, is_wrong_choice, is_wrong
--                               one of two words, and whether a word is neither, and whether one of a plan is
--     IsCheckPlan               the plan of a check with these options
--     Names                     the subcommand has this name
--     IsAsked                   the task of a subcommand with its options
--     RunIsRight                `run` alone is right, whatever the name of the program, and asks for a script
--     ShellIsRight              `shell` alone is right in the same way, and asks for a shell
--     ExploresUpTo              these words are right, and ask for an exploration of at most a number of states
--     ExploreIsRight            `explore` alone is right, and asks for 200,000 states; with its option it asks for that number of
--                               states
--     AsksToCheck, CheckIsRight these words are right, and ask for a check by this plan; `check` alone does, with the first of each
--                               two words
--     is_too_much               a plan has more increments than one history has room for, and its cache doesn't live on
--     AsksForThreads            these words are right, and ask for threads by this plan
--     ThreadsIsRight            `threads` with both required options is right, in any order of them, and asks for these numbers
--                               of threads and rounds; so it is with the third option
--     OptionMissingIsWrong      `threads` without one of the two required options is wrong
--     NumberIsWrong             `threads` with no thread, with 32, with no round, with 10,001, with a word that is no number, or
--                               with histories of 15 or 65,537 events is wrong, and so is `explore` with no state, with
--                               1,000,001, or with a word that is no number
--     NoWordIsWrong             no word at all is wrong: a subcommand is missing
--     UnknownWordIsWrong        a word that isn't the program's is wrong, for example `play`
--     WordTooManyIsWrong        a word after `run` is wrong, and one after `shell` or `explore`
--     FlagIsWrong               a flag that isn't the program's is wrong, for example `--fast`, before `run`, after it, and after
--                               `shell` and `explore`
--     HelpIsShown               `--help` and `-h` ask for help, before a subcommand and after it
--     HelpWordIsShownOrWrong    `help` asks for help, or is wrong: `clap`'s contract leaves it open
--     VersionIsShown            `--version` and `-V` ask for the version
use Rattle.std.specs.Prelude.{◌≡◌, ◌≢◌, ◌<◌, ◌^◌, ℕ, List, [], ◌∷◌, Bool, true, false, codes, pos, Option, None, Some, option_map}
use Rattle.std.specs.Prelude.{◌*◌, ◌&&◌, ◌||◌, is_none, nat_lt, if◌then◌else◌}
use Rattle.std.specs.Str.{bytes_eq}
use Rattle.std.specs.Str.Parse.{IsNumeral, digits_value, without_leading_plus}
use Rattle.clap.specs.Walk.{Row, Rule, Text, one_of}
use Rattle.clap.specs.Words.{App, Kinds, fault_of, first_of, new_app, new_rule, subcommand_of, with_rule, with_subcommand}
use Rattle.clap.specs.declared.builder.value_parser.ValueParser.{ValueParser}
use Rattle.clap.specs.declared.builder.value_parser.ValueParser.TheVariants.{Signed, String}
use Rattle.clap.specs.declared.error.kind.ErrorKind.TheVariants as kind
use Rattle.jc_commands.specs.declared.budget.TheConstants.{STATES_DEFAULT, STATES_MAX}
use Rattle.jc_commands.specs.declared.checking.TheConstants.{KEY_STATES_DEFAULT, KEY_STATES_MAX}
use Rattle.jc_commands.specs.declared.checking.CheckPlan.{CheckPlan}
use Rattle.jc_commands.specs.declared.checking.Choice.{Choice}
use Rattle.jc_commands.specs.declared.checking.Choice.TheVariants.{First, Second, Wrong}
use Rattle.jc_commands.specs.declared.commands.Task.{Task}
use Rattle.jc_commands.specs.declared.commands.Task.TheVariants as task
use Rattle.jc_commands.specs.declared.plan.Plan.{Plan}
use Rattle.jc_commands.specs.declared.plan.TheConstants.{WORKERS_MAX, ROUNDS_MAX, EVENTS_MIN, EVENTS_MAX, INCREMENTS_MAX}

-- 1. The command.

abbrev pub option_rule : Text → ValueParser → Bool → Rule
option_rule name parser required =
    record (new_rule name) { long = Some name; value_names = 1; required = required; parser = Some parser }

abbrev pub explore : App
explore = with_rule (new_app (codes "explore")) (option_rule (codes "states") (Signed (pos 1) (pos STATES_MAX)) false)

abbrev pub threads : App
threads =
    with_rule
    (with_rule (with_rule (new_app (codes "threads")) (option_rule (codes "workers") (Signed (pos 1) (pos WORKERS_MAX)) true))
    (option_rule (codes "rounds") (Signed (pos 1) (pos ROUNDS_MAX)) true))
    (option_rule (codes "history") (Signed (pos EVENTS_MIN) (pos EVENTS_MAX)) false)

-- an option with a word
abbrev pub word_rule : Text → Rule
word_rule name = option_rule name String false

abbrev pub judging : App
judging =
    with_rule (with_rule (with_rule (new_app (codes "check")) (word_rule (codes "rules"))) (word_rule (codes "order")))
    (word_rule (codes "evict"))

abbrev pub check : App
check =
    with_rule (with_rule judging (word_rule (codes "witness")))
    (option_rule (codes "states") (Signed (pos 1) (pos KEY_STATES_MAX)) false)

abbrev pub player : App
player =
    let app = new_app (codes "jcache") in
    with_subcommand
    (with_subcommand (record app { top = record app.top { has_version = true; subcommand_required = true } })
    (new_app (codes "run")).top)
    (new_app (codes "shell")).top

abbrev pub player_of_threads : App
player_of_threads = with_subcommand (with_subcommand player explore.top) threads.top

abbrev pub program : App
program = with_subcommand player_of_threads check.top

abbrev pub faults_at : List (List ℕ) → Kinds
faults_at words = fault_of program words

abbrev pub subcommand_at : List (List ℕ) → Option (Text × List Row)
subcommand_at words = subcommand_of program words

-- 2. The tasks.

abbrev pub SpellsOr : (default : ℕ) → Option Text → ℕ → Type 0
SpellsOr default None number = number ≡ default
SpellsOr default (Some text) number =
    IsNumeral 10 (without_leading_plus text) → digits_value 10 (without_leading_plus text) < 2 ^ 32
    → number ≡ digits_value 10 (without_leading_plus text)

abbrev pub SpellsIf : Option Text → Option ℕ → Type 0
SpellsIf None number = number ≡ None
SpellsIf (Some text) number =
    IsNumeral 10 (without_leading_plus text) → digits_value 10 (without_leading_plus text) < 2 ^ 32
    → number ≡ Some (digits_value 10 (without_leading_plus text))

abbrev pub choice_of : Text → Text → Option Text → Choice
choice_of first second None = First
choice_of first second (Some word) =
    if bytes_eq word first then First else
    if bytes_eq word second then Second else
    Wrong

abbrev pub is_wrong_choice : Choice → Bool
is_wrong_choice First = false
is_wrong_choice Second = false
is_wrong_choice Wrong = true

abbrev pub is_wrong : CheckPlan → Bool
is_wrong plan =
    is_wrong_choice plan.rules || is_wrong_choice plan.order || is_wrong_choice plan.evict || is_wrong_choice plan.witness

pub record IsCheckPlan (options : List Row) (plan : CheckPlan) : Type 0 where
  pub rules : plan.rules ≡ choice_of (codes "store") (codes "table") (first_of (codes "rules") options)
  pub order : plan.order ≡ choice_of (codes "real") (codes "program") (first_of (codes "order") options)
  pub evict : plan.evict ≡ choice_of (codes "free") (codes "never") (first_of (codes "evict") options)
  pub witness : plan.witness ≡ choice_of (codes "no") (codes "yes") (first_of (codes "witness") options)
  pub states : SpellsOr KEY_STATES_DEFAULT (one_of (codes "states") options) plan.states

abbrev pub Names : Option (Text × List Row) → Text → Type 0
Names found name = option_map (λ named. named.0) found ≡ Some name

abbrev pub IsAsked : Option (Text × List Row) → Task → Type 0
IsAsked found task.Run =
    (option_map (λ named. named.0) found ≢ Some (codes "threads"))
    × (option_map (λ named. named.0) found ≢ Some (codes "explore"))
    × (option_map (λ named. named.0) found ≢ Some (codes "check"))
    × (option_map (λ named. named.0) found ≢ Some (codes "shell"))
IsAsked found task.Shell = Names found (codes "shell")
IsAsked found (task.Explore states) =
    (options : List Row) × (found ≡ Some (codes "explore", options))
    × SpellsOr STATES_DEFAULT (one_of (codes "states") options) states
IsAsked found (task.Threads plan) =
    (options : List Row) × (found ≡ Some (codes "threads", options))
    × SpellsOr 0 (one_of (codes "workers") options) plan.workers
    × SpellsOr 0 (one_of (codes "rounds") options) plan.rounds
    × SpellsIf (one_of (codes "history") options) plan.history
IsAsked found (task.Check plan) =
    (options : List Row) × (found ≡ Some (codes "check", options)) × IsCheckPlan options plan

-- 3. Words that are written out.

abbrev pub RunIsRight : Type 0
RunIsRight =
    (name : List ℕ)
    → (faults_at (name ∷ codes "run" ∷ []) ≡ []) × ((t : Task) → IsAsked (subcommand_at (name ∷ codes "run" ∷ [])) t → t ≡ task.Run)

abbrev pub ShellIsRight : Type 0
ShellIsRight =
    (name : List ℕ)
    → (faults_at (name ∷ codes "shell" ∷ []) ≡ [])
    × ((t : Task) → IsAsked (subcommand_at (name ∷ codes "shell" ∷ [])) t → t ≡ task.Shell)

abbrev pub ExploresUpTo : List (List ℕ) → ℕ → Type 0
ExploresUpTo words states = (faults_at words ≡ []) × ((t : Task) → IsAsked (subcommand_at words) t → t ≡ task.Explore states)

abbrev pub ExploreIsRight : Type 0
ExploreIsRight = (name : List ℕ)
    → ExploresUpTo (name ∷ codes "explore" ∷ []) 200000
    × ExploresUpTo (name ∷ codes "explore" ∷ codes "--states" ∷ codes "1" ∷ []) 1
    × ExploresUpTo (name ∷ codes "explore" ∷ codes "--states=1000000" ∷ []) 1000000

abbrev pub AsksToCheck : List (List ℕ) → CheckPlan → Type 0
AsksToCheck words plan = (faults_at words ≡ []) × ((t : Task) → IsAsked (subcommand_at words) t → t ≡ task.Check plan)

abbrev pub CheckIsRight : Type 0
CheckIsRight =
    (name : List ℕ)
    → AsksToCheck (name ∷ codes "check" ∷ [])
    (record { rules = First; order = First; evict = First; witness = First; states = 500000 })

abbrev pub is_too_much : Plan → Bool
is_too_much plan = is_none plan.history && nat_lt INCREMENTS_MAX (plan.workers * plan.rounds)

abbrev pub AsksForThreads : List (List ℕ) → Plan → Type 0
AsksForThreads words plan = (faults_at words ≡ []) × ((t : Task) → IsAsked (subcommand_at words) t → t ≡ task.Threads plan)

abbrev pub ThreadsIsRight : Type 0
ThreadsIsRight = (name : List ℕ)
    → AsksForThreads (name ∷ codes "threads" ∷ codes "--workers" ∷ codes "4" ∷ codes "--rounds" ∷ codes "100" ∷ [])
    (record { workers = 4; rounds = 100; history = None })
    × AsksForThreads (name ∷ codes "threads" ∷ codes "--rounds=10000" ∷ codes "--workers=31" ∷ [])
    (record { workers = 31; rounds = 10000; history = None })
    × AsksForThreads (name ∷ codes "threads" ∷ codes "--rounds=10000" ∷ codes "--workers=31" ∷ codes "--history=16" ∷ [])
    (record { workers = 31; rounds = 10000; history = Some 16 })

abbrev pub OptionMissingIsWrong : Type 0
OptionMissingIsWrong = (name : List ℕ)
    → (faults_at (name ∷ codes "threads" ∷ codes "--workers" ∷ codes "4" ∷ []) ≡ kind.MissingRequiredArgument ∷ [])
    × (faults_at (name ∷ codes "threads" ∷ codes "--rounds" ∷ codes "100" ∷ []) ≡ kind.MissingRequiredArgument ∷ [])

abbrev pub NumberIsWrong : Type 0
NumberIsWrong = (name : List ℕ)
    → (faults_at (name ∷ codes "threads" ∷ codes "--workers=0" ∷ codes "--rounds=1" ∷ []) ≡ kind.ValueValidation ∷ [])
    × (faults_at (name ∷ codes "threads" ∷ codes "--workers=32" ∷ codes "--rounds=1" ∷ []) ≡ kind.ValueValidation ∷ [])
    × (faults_at (name ∷ codes "threads" ∷ codes "--workers=1" ∷ codes "--rounds=0" ∷ []) ≡ kind.ValueValidation ∷ [])
    × (faults_at (name ∷ codes "threads" ∷ codes "--workers=1" ∷ codes "--rounds=10001" ∷ []) ≡ kind.ValueValidation ∷ [])
    × (faults_at (name ∷ codes "threads" ∷ codes "--workers=all" ∷ codes "--rounds=1" ∷ []) ≡ kind.ValueValidation ∷ [])
    × (faults_at (name ∷ codes "threads" ∷ codes "--workers=1" ∷ codes "--rounds=1" ∷ codes "--history=15" ∷ [])
    ≡ kind.ValueValidation ∷ [])
    × (faults_at (name ∷ codes "threads" ∷ codes "--workers=1" ∷ codes "--rounds=1" ∷ codes "--history=65537" ∷ [])
    ≡ kind.ValueValidation ∷ [])
    × (faults_at (name ∷ codes "explore" ∷ codes "--states=0" ∷ []) ≡ kind.ValueValidation ∷ [])
    × (faults_at (name ∷ codes "explore" ∷ codes "--states=1000001" ∷ []) ≡ kind.ValueValidation ∷ [])
    × (faults_at (name ∷ codes "explore" ∷ codes "--states=all" ∷ []) ≡ kind.ValueValidation ∷ [])

abbrev pub NoWordIsWrong : Type 0
NoWordIsWrong = (name : List ℕ) → faults_at (name ∷ []) ≡ kind.MissingSubcommand ∷ []

abbrev pub UnknownWordIsWrong : Type 0
UnknownWordIsWrong = (name : List ℕ) → faults_at (name ∷ codes "play" ∷ []) ≡ kind.UnknownArgument ∷ kind.InvalidSubcommand ∷ []

abbrev pub WordTooManyIsWrong : Type 0
WordTooManyIsWrong = (name : List ℕ)
    → (faults_at (name ∷ codes "run" ∷ codes "twice" ∷ []) ≡ kind.UnknownArgument ∷ [])
    × (faults_at (name ∷ codes "shell" ∷ codes "twice" ∷ []) ≡ kind.UnknownArgument ∷ [])
    × (faults_at (name ∷ codes "explore" ∷ codes "twice" ∷ []) ≡ kind.UnknownArgument ∷ [])

abbrev pub FlagIsWrong : Type 0
FlagIsWrong = (name : List ℕ)
    → (faults_at (name ∷ codes "--fast" ∷ []) ≡ kind.UnknownArgument ∷ [])
    × (faults_at (name ∷ codes "run" ∷ codes "--fast" ∷ []) ≡ kind.UnknownArgument ∷ [])
    × (faults_at (name ∷ codes "shell" ∷ codes "--fast" ∷ []) ≡ kind.UnknownArgument ∷ [])
    × (faults_at (name ∷ codes "explore" ∷ codes "--fast" ∷ []) ≡ kind.UnknownArgument ∷ [])

abbrev pub HelpIsShown : Type 0
HelpIsShown = (name : List ℕ)
    → (faults_at (name ∷ codes "--help" ∷ []) ≡ kind.DisplayHelp ∷ [])
    × (faults_at (name ∷ codes "-h" ∷ []) ≡ kind.DisplayHelp ∷ [])
    × (faults_at (name ∷ codes "run" ∷ codes "--help" ∷ []) ≡ kind.DisplayHelp ∷ [])
    × (faults_at (name ∷ codes "shell" ∷ codes "--help" ∷ []) ≡ kind.DisplayHelp ∷ [])
    × (faults_at (name ∷ codes "explore" ∷ codes "--help" ∷ []) ≡ kind.DisplayHelp ∷ [])
    × (faults_at (name ∷ codes "threads" ∷ codes "--help" ∷ []) ≡ kind.DisplayHelp ∷ [])

abbrev pub HelpWordIsShownOrWrong : Type 0
HelpWordIsShownOrWrong = (name : List ℕ) → faults_at (name ∷ codes "help" ∷ []) ≡ kind.DisplayHelp ∷ kind.InvalidSubcommand ∷ []

abbrev pub VersionIsShown : Type 0
VersionIsShown = (name : List ℕ)
    → (faults_at (name ∷ codes "--version" ∷ []) ≡ kind.DisplayVersion ∷ [])
    × (faults_at (name ∷ codes "-V" ∷ []) ≡ kind.DisplayVersion ∷ [])
