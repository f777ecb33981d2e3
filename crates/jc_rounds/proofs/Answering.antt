-- The first of the answers of a round.
--     loads_next, writes_next    the first answer of the loader, or of the writer
--     NextRun, processes_next    the first run of a processor
--     report_due                 the writer's report on it
--     run_over                   what is left, and what was answered
--     processes_over    no answer is left
use Rattle.jc_rounds.proofs.Common.{◌≡◌, ◌++◌, List, [], ◌∷◌, length, map, reverse, Bool, true, false, Option, vec_len, refl, sym, ap, subst, ◌∙◌, reverse-reverse, Vec, AllByRecursion, IsAmong, Config, load_only, write_only, loads_done, writes_done, Claim, asks_loader, asks_processor, asks_writer, claim_of, entry_seen, is_loadable, Reservation, AreAnswers, IsReportedOn, IsToBeAnswered, RunState, TakesReport, asked_key, done_of, key_run, reports, reservations_of, IsAnswer, LoadAll, ProcessAll, ProcessRound, Round, WriteAll}
use Rattle.jc_outside.specs.Done.{LoadResult, WriteResult}
use Rattle.jc_outside.specs.declared.done.Origin.TheVariants.{Live}
use Rattle.jc_mutentry.specs.Done.{ProcessResult}
use Rattle.jc_stripe.specs.Effects.{HasReport, change_due, process_out}
use Rattle.jc_rounds.specs.declared.answers.RoundAnswers.TheVariants as answers
use Rattle.jc_rounds.proofs.Underway.{last_first}

-- 1. The loader, and the writer.

pub loads_next : (config : Config) (round : Round) (before after : Vec (LoadResult Claim)) (d : LoadResult Claim) (r : Reservation) (rest : List Reservation) → before.items ≡ after.items ++ d ∷ [] → AreAnswers config round (answers.Loads before) (r ∷ rest)
    → ((asks_loader r.first ≡ true) × (d.ask ≡ claim_of r) × (d.origin ≡ Live)) × AreAnswers config round (answers.Loads after) rest × IsAnswer config round r.key r.first (load_only d.answer)
loads_next config (LoadAll q) before after d r rest is are =
    let all : d ∷ reverse after.items ≡ record { ask = claim_of r; origin = Live; answer = q.said r.key } ∷ loads_done asked_key q.said (map claim_of rest) = sym (last_first before.items after.items d is) ∙ are.0 in
    let here : d ≡ record { ask = claim_of r; origin = Live; answer = q.said r.key } = cc in
    let later : reverse after.items ≡ loads_done asked_key q.said (map claim_of rest) = cc in (
      (are.1.0.0, ap (λ (x : LoadResult Claim). x.ask) here, ap (λ (x : LoadResult Claim). x.origin) here),
      (later, are.1.1),
      (are.1.0.0, ap (λ (x : LoadResult Claim). load_only x.answer) here),
    )
loads_next config (WriteAll q) before after d r rest is are = absurd are
loads_next config (ProcessAll q) before after d r rest is are = absurd are

pub writes_next : (config : Config) (round : Round) (before after : Vec (WriteResult Claim)) (d : WriteResult Claim) (r : Reservation) (rest : List Reservation) → before.items ≡ after.items ++ d ∷ [] → AreAnswers config round (answers.Writes before) (r ∷ rest)
    → ((asks_writer r.first ≡ true) × (d.ask ≡ claim_of r) × (d.origin ≡ Live)) × AreAnswers config round (answers.Writes after) rest × IsAnswer config round r.key r.first (write_only d.answer)
writes_next config (WriteAll q) before after d r rest is are =
    let all : d ∷ reverse after.items ≡ record { ask = claim_of r; origin = Live; answer = q.said r.key } ∷ writes_done asked_key q.said (map claim_of rest) = sym (last_first before.items after.items d is) ∙ are.0 in
    let here : d ≡ record { ask = claim_of r; origin = Live; answer = q.said r.key } = cc in
    let later : reverse after.items ≡ writes_done asked_key q.said (map claim_of rest) = cc in (
      (are.1.0.0, ap (λ (x : WriteResult Claim). x.ask) here, ap (λ (x : WriteResult Claim). x.origin) here),
      (later, are.1.1),
      (are.1.0.0, ap (λ (x : WriteResult Claim). write_only x.answer) here),
    )
writes_next config (LoadAll q) before after d r rest is are = absurd are
writes_next config (ProcessAll q) before after d r rest is are = absurd are

-- 2. A processor.

pub record NextRun (through : Bool) (round : Round) (after : Vec (ProcessResult Claim)) (written deleted : Vec (WriteResult Claim)) (d : ProcessResult Claim) (r : Reservation) (rest : List Reservation) : Type 0 where
  pub told : ProcessRound
  pub run : RunState
  pub runs : List RunState
  pub round_is : ProcessAll told ≡ round
  pub reservation : run.reservation ≡ r
  pub reported : IsReportedOn through told run runs d written.items deleted.items
  pub among : IsAmong told.runs (key_run run)
  pub others : AllByRecursion (λ (x : RunState). IsAmong told.runs (key_run x)) runs
  pub rest_is : rest ≡ reservations_of runs
  pub left : reverse after.items ≡ map done_of runs
  pub asked : IsToBeAnswered asks_processor (ProcessAll told) r
  pub asked_later : AllByRecursion (IsToBeAnswered asks_processor (ProcessAll told)) rest

next_of : (through : Bool) (q : ProcessRound) (before after : Vec (ProcessResult Claim)) (written deleted : Vec (WriteResult Claim)) (d : ProcessResult Claim) (r : Reservation) (rest : List Reservation) → before.items ≡ after.items ++ d ∷ []
    → (runs : List RunState) → r ∷ rest ≡ reservations_of runs → reverse before.items ≡ map done_of runs → reverse written.items ≡ reports through false q.written runs → reverse deleted.items ≡ reports through true q.deleted runs
    → AllByRecursion (λ (x : RunState). IsAmong q.runs (key_run x)) runs → IsToBeAnswered asks_processor (ProcessAll q) r → AllByRecursion (IsToBeAnswered asks_processor (ProcessAll q)) rest → NextRun through (ProcessAll q) after written deleted d r rest
next_of through q before after written deleted d r rest is [] calls done w x each one later = let bad : r ∷ rest ≡ [] = calls in cc
next_of through q before after written deleted d r rest is (run ∷ runs) calls done w x each one later =
    let all : d ∷ reverse after.items ≡ done_of run ∷ map done_of runs = sym (last_first before.items after.items d is) ∙ done in
    record {
      told = q;
      run = run;
      runs = runs;
      round_is = refl;
      reservation = (let here : r ≡ run.reservation = cc in sym here);
      reported = record { done_is = (let here : d ≡ done_of run = cc in here); written_are = w; deleted_are = x };
      among = each.0;
      others = each.1;
      rest_is = (let here : rest ≡ reservations_of runs = cc in here);
      left = (let here : reverse after.items ≡ map done_of runs = cc in here);
      asked = one;
      asked_later = later;
    }

pub processes_next : (config : Config) (round : Round) (before after : Vec (ProcessResult Claim)) (written deleted : Vec (WriteResult Claim)) (d : ProcessResult Claim) (r : Reservation) (rest : List Reservation) → before.items ≡ after.items ++ d ∷ []
    → AreAnswers config round (answers.Processes before written deleted) (r ∷ rest) → NextRun config.write_through round after written deleted d r rest
processes_next config (ProcessAll q) before after written deleted d r rest is are =
    next_of config.write_through q before after written deleted d r rest is are.0.runs are.0.calls_are are.0.done_are are.0.written_are are.0.deleted_are are.0.each are.1.0 are.1.1
processes_next config (LoadAll q) before after written deleted d r rest is are = absurd are
processes_next config (WriteAll q) before after written deleted d r rest is are = absurd are

module _ (config : Config) (round : Round) (after : Vec (ProcessResult Claim)) (written deleted : Vec (WriteResult Claim)) (d : ProcessResult Claim) (r : Reservation) (rest : List Reservation) (next : NextRun config.write_through round after written deleted d r rest) where
  pub run_done : (asks_processor r.first ≡ true) × (d.ask ≡ claim_of r) × (d.origin ≡ Live)
  run_done = (next.asked.0, ap (λ (x : ProcessResult Claim). x.ask) next.reported.done_is ∙ ap claim_of next.reservation, ap (λ (x : ProcessResult Claim). x.origin) next.reported.done_is)

  pub report_due : (report : Option (WriteResult Claim)) (written' deleted' : Vec (WriteResult Claim)) → TakesReport config.write_through next.told next.run next.runs report written'.items deleted'.items → HasReport Live r (change_due config d) report
  report_due report written' deleted' takes =
      subst (λ x. HasReport Live r (change_due config x) report) (sym next.reported.done_is) (subst (λ q. HasReport Live q (change_due config (done_of next.run)) report) next.reservation takes.due)

  pub run_over : (report : Option (WriteResult Claim)) (written' deleted' : Vec (WriteResult Claim)) → TakesReport config.write_through next.told next.run next.runs report written'.items deleted'.items
      → AreAnswers config round (answers.Processes after written' deleted') rest × IsAnswer config round r.key r.first (process_out d report)
  run_over report written' deleted' takes = (
    subst (λ q. AreAnswers config q (answers.Processes after written' deleted') rest) next.round_is
        (record { runs = next.runs; calls_are = next.rest_is; done_are = next.left; written_are = takes.written_are; deleted_are = takes.deleted_are; each = next.others }, next.asked_later),
    subst (λ q. IsAnswer config q r.key r.first (process_out d report)) next.round_is (
      next.asked.0,
      (
        key_run next.run,
        next.among,
        ap (λ (x : Reservation). x.key) next.reservation,
        (ap (λ (x : Reservation). entry_seen x.first) next.reservation, ap (λ (x : Reservation). is_loadable x.first) next.reservation),
        ap (λ (x : ProcessResult Claim). process_out x report) next.reported.done_is ∙ (λ i. record { load = next.run.load; write = takes.answer i; process = next.run.process }),
      ),
    ),
  )

-- 3. No answer is left.

none_back : {X : Type 0} (xs : List X) → reverse xs ≡ [] → length xs ≡ 0
none_back xs is = ap length (sym (reverse-reverse xs) ∙ ap reverse is)

none_run : (through : Bool) (q : ProcessRound) (done : Vec (ProcessResult Claim)) (written deleted : Vec (WriteResult Claim)) (runs : List RunState) → [] ≡ reservations_of runs → reverse done.items ≡ map done_of runs
    → reverse written.items ≡ reports through false q.written runs → reverse deleted.items ≡ reports through true q.deleted runs → (vec_len done ≡ 0) × (vec_len written ≡ 0) × (vec_len deleted ≡ 0)
none_run through q done written deleted [] calls is w x = (done.ok.0 ∙ none_back done.items is, written.ok.0 ∙ none_back written.items w, deleted.ok.0 ∙ none_back deleted.items x)
none_run through q done written deleted (run ∷ runs) calls is w x = let bad : [] ≡ run.reservation ∷ reservations_of runs = calls in cc

pub processes_over : (config : Config) (round : Round) (done : Vec (ProcessResult Claim)) (written deleted : Vec (WriteResult Claim)) → AreAnswers config round (answers.Processes done written deleted) [] → (vec_len done ≡ 0) × (vec_len written ≡ 0) × (vec_len deleted ≡ 0)
processes_over config (ProcessAll q) done written deleted are = none_run config.write_through q done written deleted are.0.runs are.0.calls_are are.0.done_are are.0.written_are are.0.deleted_are
processes_over config (LoadAll q) done written deleted are = absurd are
processes_over config (WriteAll q) done written deleted are = absurd are
