use Rattle.std.proofs.Common.{rules, ◌≡◌, List, [], ◌∷◌, Option, None, Some, codes, refl, arith, option_map}
use Rattle.clap.specs.Walk.{Text}
use Rattle.clap.proofs.OnLiterals.{clap_on_literals}
use Rattle.jc_commands.specs.CommandLine.{faults_at, subcommand_at}
use Rattle.jc_commands.proofs.Asking.{absent, asks, asks_to_check, asks_to_explore, by_default, by_option, option_in, present, word_in}
use Rattle.jc_commands.proofs.commands.right_words.Goals as goal

-- words that ask for threads, with the texts of their options
record AskThreads (words : List Text) (workers rounds : Text) (history : Option Text) : Type 0 where
  right : faults_at words ≡ []
  named : option_map (λ named. named.0) (subcommand_at words) ≡ Some (codes "threads")
  workers_are : option_in (codes "workers") (subcommand_at words) ≡ Some (Some workers)
  rounds_are : option_in (codes "rounds") (subcommand_at words) ≡ Some (Some rounds)
  history_is : option_in (codes "history") (subcommand_at words) ≡ Some history

abbrev apart : Text → List Text
apart name = name ∷ codes "threads" ∷ codes "--workers" ∷ codes "4" ∷ codes "--rounds" ∷ codes "100" ∷ []

abbrev joined : Text → List Text
joined name = name ∷ codes "threads" ∷ codes "--rounds=10000" ∷ codes "--workers=31" ∷ []

abbrev living : Text → List Text
living name = name ∷ codes "threads" ∷ codes "--rounds=10000" ∷ codes "--workers=31" ∷ codes "--history=16" ∷ []

apart_asks : (name : Text) → AskThreads (apart name) (codes "4") (codes "100") None
unfolding clap_on_literals
apart_asks name = record { right = refl; named = refl; workers_are = refl; rounds_are = refl; history_is = refl }

joined_asks : (name : Text) → AskThreads (joined name) (codes "31") (codes "10000") None
unfolding clap_on_literals
joined_asks name = record { right = refl; named = refl; workers_are = refl; rounds_are = refl; history_is = refl }

living_asks : (name : Text) → AskThreads (living name) (codes "31") (codes "10000") (Some (codes "16"))
unfolding clap_on_literals
living_asks name = record { right = refl; named = refl; workers_are = refl; rounds_are = refl; history_is = refl }

-- words that ask for an exploration, with the text of its option
record AskToExplore (words : List Text) (states : Option Text) : Type 0 where
  right : faults_at words ≡ []
  named : option_map (λ named. named.0) (subcommand_at words) ≡ Some (codes "explore")
  states_are : option_in (codes "states") (subcommand_at words) ≡ Some states

plain_asks : (name : Text) → AskToExplore (name ∷ codes "explore" ∷ []) None
unfolding clap_on_literals
plain_asks name = record { right = refl; named = refl; states_are = refl }

least_asks : (name : Text) → AskToExplore (name ∷ codes "explore" ∷ codes "--states" ∷ codes "1" ∷ []) (Some (codes "1"))
unfolding clap_on_literals
least_asks name = record { right = refl; named = refl; states_are = refl }

most_asks : (name : Text) → AskToExplore (name ∷ codes "explore" ∷ codes "--states=1000000" ∷ []) (Some (codes "1000000"))
unfolding clap_on_literals
most_asks name = record { right = refl; named = refl; states_are = refl }

-- words that ask for a check, with no option
record AskToCheck (words : List Text) : Type 0 where
  right : faults_at words ≡ []
  named : option_map (λ named. named.0) (subcommand_at words) ≡ Some (codes "check")
  rules_are : word_in (codes "rules") (subcommand_at words) ≡ Some None
  order_is : word_in (codes "order") (subcommand_at words) ≡ Some None
  evict_is : word_in (codes "evict") (subcommand_at words) ≡ Some None
  witness_is : word_in (codes "witness") (subcommand_at words) ≡ Some None
  states_are : option_in (codes "states") (subcommand_at words) ≡ Some None

check_asks : (name : Text) → AskToCheck (name ∷ codes "check" ∷ [])
unfolding clap_on_literals
check_asks name = record { right = refl; named = refl; rules_are = refl; order_is = refl; evict_is = refl; witness_is = refl; states_are = refl }

pub returns-clause-check : goal.returns-clause-check
returns-clause-check c name =
    let plain = check_asks name in
    (plain.right, asks_to_check _ plain.named plain.rules_are plain.order_is plain.evict_is plain.witness_is plain.states_are)

pub returns-clause-explore : goal.returns-clause-explore
returns-clause-explore c name =
    let plain = plain_asks name in
    let least = least_asks name in
    let most = most_asks name in (
      (plain.right, asks_to_explore _ None 200000 plain.named plain.states_are by_default),
      (least.right, asks_to_explore _ (Some (codes "1")) 1 least.named least.states_are (by_option (codes "1") (search rules) (omega arith))),
      (most.right, asks_to_explore _ (Some (codes "1000000")) 1000000 most.named most.states_are (by_option (codes "1000000") (search rules) (omega arith))),
    )

pub returns-clause-threads : goal.returns-clause-threads
returns-clause-threads c name =
    let apart = apart_asks name in
    let joined = joined_asks name in
    let living = living_asks name in (
      (
        apart.right,
        asks _ (codes "4") (codes "100") None None apart.named apart.workers_are apart.rounds_are apart.history_is
            (search rules) (omega arith) (search rules) (omega arith) absent,
      ),
      (
        joined.right,
        asks _ (codes "31") (codes "10000") None None joined.named joined.workers_are joined.rounds_are joined.history_is
            (search rules) (omega arith) (search rules) (omega arith) absent,
      ),
      (
        living.right,
        asks _ (codes "31") (codes "10000") (Some (codes "16")) (Some 16) living.named living.workers_are living.rounds_are living.history_is
            (search rules) (omega arith) (search rules) (omega arith) (present (codes "16") (search rules) (omega arith)),
      ),
    )
