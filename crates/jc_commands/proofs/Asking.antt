-- Which task a subcommand with its options asks for.
use Rattle.std.proofs.Common.{◌≡◌, ◌≢◌, ◌<◌, ◌^◌, ◌∙◌, ℕ, List, Option, None, Some, Ok, Err, Result, option_map, codes, refl, sym, ap, subst, unwrap_or, rules}
use Rattle.std.specs.Str.Parse.{IsNumeral, ParsesUnsigned, digits_value, without_leading_plus}
use Rattle.clap.specs.Walk.{Row, Text, one_of}
use Rattle.clap.specs.Matches.{ReadsOne}
use Rattle.clap.specs.Words.{first_of}
use Rattle.jc_commands.specs.CommandLine.{IsAsked, SpellsOr, SpellsIf, choice_of}
use Rattle.jc_commands.specs.declared.checking.TheConstants.{KEY_STATES_DEFAULT}
use Rattle.jc_commands.specs.declared.checking.Choice.TheVariants.{First}
use Rattle.jc_commands.specs.declared.budget.TheConstants.{STATES_DEFAULT}
use Rattle.jc_commands.specs.declared.commands.Task.{Task}
use Rattle.jc_commands.specs.declared.commands.Task.TheVariants as task

abbrev pub option_in : Text → Option (Text × List Row) → Option (Option Text)
option_in name = option_map (λ named. one_of name named.1)

some_injective : {X : Type 0} {x y : X} → Some x ≡ Some y → x ≡ y
some_injective {X} {x} {y} e = cc

-- a text that spells a number, in an option
pub spelled : (found : Option (Text × List Row)) (name text : Text) (options : List Row) (n : ℕ)
    → found ≡ Some (codes "threads", options) → option_in name found ≡ Some (Some text)
    → IsNumeral 10 (without_leading_plus text) → digits_value 10 (without_leading_plus text) < 2 ^ 32
    → SpellsOr 0 (one_of name options) n → n ≡ digits_value 10 (without_leading_plus text)
spelled found name text options n is has numeral small spells =
    let at : one_of name options ≡ Some text = some_injective (sym (ap (option_in name) is) ∙ has) in
    let read : SpellsOr 0 (Some text) n = subst (λ o. SpellsOr 0 o n) at spells in
    read numeral small

-- the number of an option that isn't there, or of one that spells it
pub absent : (n : Option ℕ) → SpellsIf None n → n ≡ None
absent n spells = spells

pub present : (text : Text) → IsNumeral 10 (without_leading_plus text) → digits_value 10 (without_leading_plus text) < 2 ^ 32
    → (n : Option ℕ) → SpellsIf (Some text) n → n ≡ Some (digits_value 10 (without_leading_plus text))
present text numeral small n spells = spells numeral small

explore_is_other : codes "explore" ≢ codes "threads"
explore_is_other e = search rules

explore_is_no_shell : codes "explore" ≢ codes "shell"
explore_is_no_shell e = search rules

threads_is_no_shell : codes "threads" ≢ codes "shell"
threads_is_no_shell e = search rules

explore_is_no_check : codes "explore" ≢ codes "check"
explore_is_no_check e = search rules

threads_is_no_check : codes "threads" ≢ codes "check"
threads_is_no_check e = search rules

check_is_no_shell : codes "check" ≢ codes "shell"
check_is_no_shell e = search rules

-- the states of an option that isn't there, or of one that spells their number
pub by_default : (n : ℕ) → SpellsOr STATES_DEFAULT None n → n ≡ STATES_DEFAULT
by_default n spells = spells

pub by_option : (text : Text) → IsNumeral 10 (without_leading_plus text) → digits_value 10 (without_leading_plus text) < 2 ^ 32
    → (n : ℕ) → SpellsOr STATES_DEFAULT (Some text) n → n ≡ digits_value 10 (without_leading_plus text)
by_option text numeral small n spells = spells numeral small

-- the task of such a subcommand, if it is `explore` and has this option or none
pub asks_to_explore : (found : Option (Text × List Row)) (one : Option Text) (wanted : ℕ)
    → option_map (λ named. named.0) found ≡ Some (codes "explore")
    → option_in (codes "states") found ≡ Some one
    → ((n : ℕ) → SpellsOr STATES_DEFAULT one n → n ≡ wanted)
    → (t : Task) → IsAsked found t → t ≡ task.Explore wanted
asks_to_explore found one wanted named has reads task.Run not_named = absurd (not_named.1 named)
asks_to_explore found one wanted named has reads task.Shell is = absurd (explore_is_no_shell (some_injective (sym named ∙ is)))
asks_to_explore found one wanted named has reads (task.Check plan) (options, is, p) =
    absurd (explore_is_no_check (some_injective (sym named ∙ ap (option_map (λ named. named.0)) is)))
asks_to_explore found one wanted named has reads (task.Threads plan) (options, is, s, s', s'') =
    absurd (explore_is_other (some_injective (sym named ∙ ap (option_map (λ named. named.0)) is)))
asks_to_explore found one wanted named has reads (task.Explore states) (options, is, s) =
    let at : one_of (codes "states") options ≡ one = some_injective (sym (ap (option_in (codes "states")) is) ∙ has) in
    ap (λ (n : ℕ). task.Explore n) (reads states (subst (λ o. SpellsOr STATES_DEFAULT o states) at s))

-- the task of such a subcommand, if it is `threads` and has both options that must be given, and this third one or none
pub asks : (found : Option (Text × List Row)) (workers rounds : Text) (history : Option Text) (events : Option ℕ)
    → option_map (λ named. named.0) found ≡ Some (codes "threads")
    → option_in (codes "workers") found ≡ Some (Some workers)
    → option_in (codes "rounds") found ≡ Some (Some rounds)
    → option_in (codes "history") found ≡ Some history
    → IsNumeral 10 (without_leading_plus workers) → digits_value 10 (without_leading_plus workers) < 2 ^ 32
    → IsNumeral 10 (without_leading_plus rounds) → digits_value 10 (without_leading_plus rounds) < 2 ^ 32
    → ((n : Option ℕ) → SpellsIf history n → n ≡ events)
    → (t : Task) → IsAsked found t
    → t ≡ task.Threads (record { workers = digits_value 10 (without_leading_plus workers); rounds = digits_value 10 (without_leading_plus rounds); history = events })
asks found workers rounds history events named has_workers has_rounds has_history w w' r r' reads task.Run not_named = absurd (not_named.0 named)
asks found workers rounds history events named has_workers has_rounds has_history w w' r r' reads task.Shell is =
    absurd (threads_is_no_shell (some_injective (sym named ∙ is)))
asks found workers rounds history events named has_workers has_rounds has_history w w' r r' reads (task.Explore states) (options, is, s) =
    absurd (explore_is_other (some_injective (sym (ap (option_map (λ named. named.0)) is) ∙ named)))
asks found workers rounds history events named has_workers has_rounds has_history w w' r r' reads (task.Check plan) (options, is, p) =
    absurd (threads_is_no_check (some_injective (sym named ∙ ap (option_map (λ named. named.0)) is)))
asks found workers rounds history events named has_workers has_rounds has_history w w' r r' reads (task.Threads plan) (options, is, s, s', s'') =
    let a = spelled found (codes "workers") workers options plan.workers is has_workers w w' s in
    let b = spelled found (codes "rounds") rounds options plan.rounds is has_rounds r r' s' in
    let at : one_of (codes "history") options ≡ history = some_injective (sym (ap (option_in (codes "history")) is) ∙ has_history) in
    let c : plan.history ≡ events = reads plan.history (subst (λ o. SpellsIf o plan.history) at s'') in
    λ i. task.Threads (record { workers = a i; rounds = b i; history = c i })

-- what a parser of numbers read of an option; gives: what it says of a text
pub reads : {E : Type 0} (gives : Text → Result ℕ E → Type 0) (default : ℕ) (one : Option Text) (found : Option ℕ)
    → ((t : Text) (r : Result ℕ E) → gives t r → ParsesUnsigned 32 10 t r)
    → (one ≡ None → found ≡ None) → ((t : Text) → one ≡ Some t → ReadsOne gives t found)
    → SpellsOr default one (unwrap_or found default)
reads gives default None found unsigned none value = ap (λ o. unwrap_or o default) (none refl)
reads gives default (Some text) (Some n) unsigned none value = λ numeral small. let u = unsigned text (Ok n) (value text refl) in u.1
reads gives default (Some text) None unsigned none value = λ numeral small.
    let failed = value text refl in
    absurd (unsigned text (Err failed.0) failed.1 (numeral, small))

-- and of one that needn't be given
pub reads_if : {E : Type 0} (gives : Text → Result ℕ E → Type 0) (one : Option Text) (found : Option ℕ)
    → ((t : Text) (r : Result ℕ E) → gives t r → ParsesUnsigned 32 10 t r)
    → (one ≡ None → found ≡ None) → ((t : Text) → one ≡ Some t → ReadsOne gives t found)
    → SpellsIf one found
reads_if gives None found unsigned none value = none refl
reads_if gives (Some text) (Some n) unsigned none value = λ numeral small. let u = unsigned text (Ok n) (value text refl) in ap (λ (m : ℕ). Some m) u.1
reads_if gives (Some text) None unsigned none value = λ numeral small.
    let failed = value text refl in
    absurd (unsigned text (Err failed.0) failed.1 (numeral, small))

pub states_by_default : (n : ℕ) → SpellsOr KEY_STATES_DEFAULT None n → n ≡ KEY_STATES_DEFAULT
states_by_default n spells = spells

abbrev pub word_in : Text → Option (Text × List Row) → Option (Option Text)
word_in name = option_map (λ named. first_of name named.1)

-- the task of such a subcommand, if it is `check` and has no option
pub asks_to_check : (found : Option (Text × List Row))
    → option_map (λ named. named.0) found ≡ Some (codes "check")
    → word_in (codes "rules") found ≡ Some None → word_in (codes "order") found ≡ Some None → word_in (codes "evict") found ≡ Some None
    → word_in (codes "witness") found ≡ Some None
    → option_in (codes "states") found ≡ Some None
    → (t : Task) → IsAsked found t → t ≡ task.Check (record { rules = First; order = First; evict = First; witness = First; states = KEY_STATES_DEFAULT })
asks_to_check found named r o e w s task.Run not_named = absurd (not_named.2 named)
asks_to_check found named r o e w s task.Shell is = absurd (check_is_no_shell (some_injective (sym named ∙ is)))
asks_to_check found named r o e w s (task.Explore states) (options, is, p) =
    absurd (explore_is_no_check (some_injective (sym (ap (option_map (λ named. named.0)) is) ∙ named)))
asks_to_check found named r o e w s (task.Threads plan) (options, is, x, x', x'') =
    absurd (threads_is_no_check (some_injective (sym (ap (option_map (λ named. named.0)) is) ∙ named)))
asks_to_check found named r o e w s (task.Check plan) (options, is, p) =
    let rules = p.rules ∙ ap (choice_of (codes "store") (codes "table")) (some_injective (sym (ap (word_in (codes "rules")) is) ∙ r)) in
    let order = p.order ∙ ap (choice_of (codes "real") (codes "program")) (some_injective (sym (ap (word_in (codes "order")) is) ∙ o)) in
    let evict = p.evict ∙ ap (choice_of (codes "free") (codes "never")) (some_injective (sym (ap (word_in (codes "evict")) is) ∙ e)) in
    let witness = p.witness ∙ ap (choice_of (codes "no") (codes "yes")) (some_injective (sym (ap (word_in (codes "witness")) is) ∙ w)) in
    let at : one_of (codes "states") options ≡ None = some_injective (sym (ap (option_in (codes "states")) is) ∙ s) in
    let states = states_by_default plan.states (subst (λ o. SpellsOr KEY_STATES_DEFAULT o plan.states) at p.states) in
    λ i. task.Check (record { rules = rules i; order = order i; evict = evict i; witness = witness i; states = states i })
