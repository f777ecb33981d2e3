-- The report of a count on threads.
--     AreCounts      there is a number of steps for each thread, at most its rounds
--     IsReportOf     a report is on this plan: there is a number of steps for each thread's session, at most its rounds
--     is_count       a value spells this number in decimal digits
--     is_right       counter and store have as many increments as all threads were to make, each thread's session has as many
--                    steps as its rounds, and the history is legal
--     plan_text      the line of the plan
--     count_text     a counter's value as it is, with a dash for none
--     counts_text    the lines of the counter and of the store
--     own_text       the number of a session's steps, after a space
--     steps_text     the lines of the sessions' steps and of the history
--     report_text    the five lines of a report
use Rattle.std.specs.Prelude.{◌≡◌, ◌==◌, ◌&&◌, ◌*◌, ◌++◌, ℕ, List, Bool, false, Option, None, Some, codes, decimal, length, ◌≤◌}
use Rattle.std.specs.Prelude.{All}
use Rattle.std.specs.List.{flat_map, list_all}
use Rattle.std.specs.Str.{bytes_eq}
use Rattle.jc_text.specs.Printing.{flag_text}
use Rattle.jc_commands.specs.declared.plan.Plan.{Plan}
use Rattle.jcache.specs.declared.report.Report.{Report}

abbrev pub AreCounts : (workers rounds : ℕ) → List ℕ → Type 0
AreCounts workers rounds own = (length own ≡ workers) × All (λ n. n ≤ rounds) own

pub record IsReportOf (plan : Plan) (report : Report) : Type 0 where
  pub plan_is : report.plan ≡ plan
  pub each : length report.own.items ≡ plan.workers
  pub few : All (λ own. own ≤ plan.rounds) report.own.items

abbrev pub is_count : Option (List ℕ) → ℕ → Bool
is_count None number = false
is_count (Some value) number = bytes_eq value (decimal number)

abbrev pub is_right : Report → Bool
is_right report =
    is_count report.counter (report.plan.workers * report.plan.rounds)
    && (is_count report.store (report.plan.workers * report.plan.rounds)
    && (list_all (λ own. own == report.plan.rounds) report.own.items && report.legal))

unfoldable pub plan_text : Plan → List ℕ
plan_text plan = codes "workers " ++ decimal plan.workers ++ codes " rounds " ++ decimal plan.rounds ++ codes "\n"

abbrev pub count_text : Option (List ℕ) → List ℕ
count_text None = codes "-"
count_text (Some value) = value

unfoldable pub counts_text : (counter store : Option (List ℕ)) → List ℕ
counts_text counter store = codes "counter " ++ count_text counter ++ codes "\nstore " ++ count_text store ++ codes "\n"

unfoldable pub own_text : ℕ → List ℕ
own_text own = codes " " ++ decimal own

unfoldable pub steps_text : List ℕ → Bool → List ℕ
steps_text own legal = codes "own" ++ flat_map own_text own ++ codes "\nlegal " ++ flag_text legal ++ codes "\n"

abbrev pub report_text : Report → List ℕ
report_text report = plan_text report.plan ++ counts_text report.counter report.store ++ steps_text report.own.items report.legal
