-- After a processor the writer is asked exactly if it has to be: each event keeps that.
--     dues_insert, dues_remove   a part is put in place, or taken away
--     due_run                    the progress of a key once its processor has run
--     dues_reported              the writer has returned for a key
--     dues_happens               any event that fits
use Rattle.jc_world.proofs.Common.{Change, and_parts, fits, asks_loader, is_unanswered, has_progress, waits_for_load, is_load_given, LoadAnswer, First, Loader, Processor, is_misled, has_changed, is_true_load, is_true_report, read_answer, with_loaded, with_report, IsDue, IsDueIn, ◌≡◌, ℕ, true, Some, None, option_map, sym, refl, ap, ◌∙◌, subst, get, get-empty, insert, remove, Config, WriterFailed, Bytes, key_cmp, entry_at, WriteAnswer, ProcessResult, Claim, change_due, Part, PartProgress, Shown, WorldEvent, with_met_by, new_part, with_change, after_answer, after_report, keys_reported, run_result, progress_after, Happens, load_from, report_for, AllDue, Parts, WorldState, part_of, reported_now}
use Rattle.jc_world.proofs.Committing.{due_told, due_heard}
use Rattle.jc_world.proofs.Holding.{is_part}
use Rattle.jc_world.proofs.Maps.{keys_ordered, each_put, each_left}
use Rattle.jc_world.proofs.Lemmas.{KeyChange, by_nothing, by_refusal, by_step, by_reservation, by_join, by_commit, by_withdrawal, by_mark, by_answer, by_retry, key_change, ends_as, each_report}

-- 1. One part more, and one less.

dues_insert : (config : Config) (parts : Parts) (key : Bytes) (new : Part) → AllDue config parts → IsDue config new → AllDue config (insert parts key new)
dues_insert config parts key new all one = each_put keys_ordered (λ q part. IsDue config part) parts key new one all

dues_remove : (config : Config) (parts : Parts) (key : Bytes) → AllDue config parts → AllDue config (remove parts key)
dues_remove config parts key all = each_left keys_ordered (λ q part. IsDue config part) parts key (λ q part apart is. all q part is)

-- 2. A part stays.

due_answer : (config : Config) (first : First) (p : PartProgress) (answer : LoadAnswer) → asks_loader first ≡ true → IsDueIn config first (with_loaded p answer)
due_answer config Loader p answer due = tt
due_answer config first p answer due = cc

due_change : (config : Config) (first : First) (p : PartProgress) → IsDueIn config first p → IsDueIn config first (with_change p)
due_change config (Processor entry may_load) p h = h
due_change config first p h = tt

due_run : (config : Config) (first : First) (done : ProcessResult Claim) → IsDueIn config first (progress_after (change_due config done) done)
due_run config (Processor entry may_load) done = refl
due_run config first done = tt

-- 3. Each event.

loader_asked : (part : Part) → waits_for_load part ≡ true → asks_loader part.reservation.first ≡ true
loader_asked part waits = (and_parts (asks_loader part.reservation.first) (is_unanswered part.progress.out) waits).0

abbrev pub AllDueAt : WorldState → Type 0
AllDueAt w = AllDue w.config w.parts

due_of : (w : WorldState) (call : ℕ) (key : Bytes) (part : Part) → part_of w call key ≡ Some part → AllDueAt w → IsDue w.config part
due_of w call key part is old = old key part (is_part (get w.parts key) call part is)

-- by the kind of the change at a key
pub dues_key : (w new : WorldState) (e : WorldEvent) (key : Bytes) (seen : Shown) → KeyChange w new e key seen → AllDueAt w → AllDueAt new
dues_key w new e key seen (by_nothing is none ends) old = subst AllDueAt (sym is) old
dues_key w new e key seen (by_refusal u op refusal may is none ends) old = subst AllDueAt (sym is) old
dues_key w new e key seen (by_step u op from to x may there h home_is is shows ends) old = subst AllDueAt (sym is) old
dues_key w new e key seen (by_reservation u op from to p r may there h is none ends) old = subst AllDueAt (sym is) (dues_insert w.config w.parts key (new_part p r) old (h.due w.config))
dues_key w new e key seen (by_join u op from to join may there h is none ends) old = subst AllDueAt (sym is) old
dues_key w new e key seen (by_commit call part from to x e_is part_is there h home_is is shows) old = subst AllDueAt (sym is) (dues_remove w.config w.parts key old)
dues_key w new e key seen (by_withdrawal call part from to e_is part_is there h is shows) old = subst AllDueAt (sym is) (dues_remove w.config w.parts key old)
dues_key w new e key seen (by_mark from to there out h reached is none ends) old = subst AllDueAt (sym is) old
dues_key w new e key seen (by_answer call join from to x e_is join_is there h home_is is shows ends) old = subst AllDueAt (sym is) old
dues_key w new e key seen (by_retry call join from to e_is join_is there h is shows ends) old = subst AllDueAt (sym is) old

-- the writer has returned for a key
pub dues_reported : (w : WorldState) (call : ℕ) (key : Bytes) (part : Part) (report : WriteAnswer) → part_of w call key ≡ Some part → AllDueAt w → AllDueAt (after_report w key part report)
dues_reported w call key part report at old =
    dues_insert w.config w.parts key _ old
    (due_heard w.config part.reservation.first (with_report part.progress report) (is_misled part) (is_true_report report (has_changed part))
    (due_told w.config part.reservation.first part.progress report (due_of w call key part at old)))

-- the loader has answered
dues_answered : (w : WorldState) (key : Bytes) (part : Part) (answer : LoadAnswer) → asks_loader part.reservation.first ≡ true → AllDueAt w → AllDueAt (after_answer w key part answer)
dues_answered w key part answer asks old =
    dues_insert w.config w.parts key _ old
    (due_heard w.config part.reservation.first (with_loaded part.progress answer) (is_misled part) (is_true_load answer (entry_at w.store key)) (due_answer w.config part.reservation.first part.progress answer asks))

pub dues_happens : (w new : WorldState) (e : WorldEvent) (seen : Shown) → fits w e ≡ true → Happens w e seen new → AllDueAt w → AllDueAt new
dues_happens w new (WorldEvent.Look call stripe) seen fit h old = subst AllDueAt (sym h.9) old
dues_happens w new (WorldEvent.Read call key) seen fit h old =
    subst AllDueAt (sym h.3) (dues_answered w key h.0 (read_answer (entry_at w.store key)) (loader_asked h.0 (sym (ap (has_progress waits_for_load) h.1) ∙ fit)) old)
dues_happens w new (WorldEvent.Say call key answer) seen fit h old =
    subst AllDueAt (sym h.3) (dues_answered w key h.0 answer (loader_asked h.0 (sym (ap (has_progress waits_for_load) h.1) ∙ (and_parts (is_load_given answer) _ fit).1)) old)
dues_happens w new (WorldEvent.Process call key source calls fail) seen fit h old =
    let r = h.0.reservation in
    let done = run_result r (load_from source (entry_at w.store key)) calls fail in
    subst AllDueAt (sym h.3)
    (dues_insert w.config w.parts key _ old
    (due_heard w.config r.first (progress_after (change_due w.config done) done) (is_misled h.0) (is_true_load done.load (entry_at w.store key)) (due_run w.config r.first done)))
dues_happens w new (WorldEvent.Change call key) seen fit h old =
    subst AllDueAt (sym h.5) (dues_insert w.config w.parts key _ old (due_change w.config h.0.reservation.first h.0.progress (due_of w call key h.0 h.2 old)))
dues_happens w new (WorldEvent.Report call left fault) seen fit h old =
    let answer = report_for h.0.kind left fault in
    subst AllDueAt (sym h.3) (each_report AllDueAt call answer (λ v key part at waits o. dues_reported v call key part (answer key) at o) (with_met_by w call (option_map WriterFailed fault)) (keys_reported (reported_now w call h.0)) old)
dues_happens w new (WorldEvent.Commit call key) seen fit h old = subst AllDueAt (sym (ends_as w new call key h.0 h.2 h.4 seen.outcome h.5).4) (dues_remove w.config w.parts key old)
dues_happens w new (WorldEvent.Withdraw call key) seen fit h old = subst AllDueAt (sym h.7) (dues_remove w.config w.parts key old)
dues_happens w new (WorldEvent.Invalidate key) seen fit h old = subst AllDueAt (sym h.5) old
dues_happens w new (WorldEvent.Call call session command) seen fit h old = subst AllDueAt (sym h.1) old
dues_happens w new (WorldEvent.Leave call) seen fit h old = subst AllDueAt (sym h.1) old
dues_happens w new (WorldEvent.Foreign key value) seen fit h old = subst AllDueAt (sym h.1) old
dues_happens w new (WorldEvent.Reopen config) seen fit h old = subst AllDueAt (sym h.1) (λ key part is. let t : None ≡ Some part = sym (get-empty key_cmp key) ∙ is in cc)
dues_happens w new e seen fit h old = let k = key_change w new e seen refl h in dues_key w new e k.0 seen k.1 old
