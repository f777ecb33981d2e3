-- Each answer of a loader is in one step, or is kept for its commit.
--     total          how many steps of a key have an answer of their own, and one more if one is kept
--     total_step     each event raises that by one if it is an answer for the key, and else leaves it
--     total_run      so a run raises it by its answers
use Rattle.jc_world.proofs.Asked.{unanswered_load}
use Rattle.jc_world.proofs.Common.{asks_loader, asks_processor, is_unanswered, with_loaded, with_heard, is_misled, is_true_load, is_true_report, has_changed, ◌≡◌, ℕ, ◌+◌, Bool, true, false, cond, ◌&&◌, List, [], ◌∷◌, ◌++◌, map, length, drop, ◌==◌, Some, None, count_by, Option, option_map, zip, sym, refl, ap, ◌∙◌, inl, inr, arith, drop-append_seam, and_parts, or_parts, and_right, nat_list_cmp_total, sum_by-cons, sum_by-append, pointwise, texts_ties, get, insert, remove, get-insert, get-remove, eq_by_cmp, Caller, WriterFailed, Bytes, entry_at, key_cmp, Group, nothing_said, victim_events, evicted_events, step_event, shared_event, step_place, events_of, is_load_given, Cause, Event, LoadAnswer, Op, Out, callers_of, ProcessResult, Claim, change_due, new_group, Steps, after_commit, State, StepDone, Outcome, Part, Shown, WorldEvent, step_of, with_met_by, new_part, with_change, with_report, keys_reported, run_result, progress_after, after_process, Happens, Step, Run, fits, is_answer, is_load, is_loaded, read_answer, load_from, report_for, IsSoundWorld, Parts, WorldState, part_of, has_progress, waits_for_load, waits_for_process, is_untouched, out_of_part, IsOpeningWorld, is_reopening, reopens, reported_now}
use Rattle.jc_world.proofs.Lemmas.{added, part_key, split, KeyChange, by_nothing, by_refusal, by_step, by_reservation, by_join, by_commit, by_withdrawal, by_mark, by_answer, by_retry, key_change, KeyEvent, plain, dropping, end_event, invalid_event, Drop, each_report}
use Rattle.jc_stripe.specs.Invalidating.{dropped_event, without_entry}
use Rattle.jc_world.proofs.Kept.{unheld}
use Rattle.jc_world.proofs.Opened.{no_part}
use Rattle.jc_world.proofs.Sounding.{Laws, sound_step}
use Rattle.jc_world.proofs.Holding.{is_part}

-- 1. What is counted.

-- one, or none
abbrev pub one_if : Bool → ℕ
one_if b = cond b 1 0

abbrev pub total : WorldState → Bytes → ℕ
total w key = count_by (is_load key) w.order + one_if (is_loaded (get w.parts key))

-- the steps of two lists
none_append : (key : Bytes) (xs ys : List Event) → count_by (is_load key) (xs ++ ys) ≡ count_by (is_load key) xs + count_by (is_load key) ys
none_append key xs ys = sum_by-append (λ e. cond (is_load key e) 1 0) xs ys

-- an eviction loads nothing
none_victim : (key : Bytes) (victim : Option Bytes) → count_by (is_load key) (victim_events victim) ≡ 0
none_victim key None = refl
none_victim key (Some k) = refl

-- nor one after the step
none_evicted : (key k : Bytes) (cause : Option Cause) → count_by (is_load key) (evicted_events k cause) ≡ 0
none_evicted key k None = refl
none_evicted key k (Some cause) = refl

-- nor does a step that shares a load
none_shared : (key : Bytes) (place : ℕ) (k : Bytes) (answer : LoadAnswer) (callers : List Caller) → count_by (is_load key) (map (shared_event place k answer) callers) ≡ 0
none_shared key place k answer [] = refl
none_shared key place k answer (c ∷ cs) =
    sum_by-cons (λ e. cond (is_load key e) 1 0) (shared_event place k answer c) (map (shared_event place k answer) cs) ∙ ap (λ n. 0 + n) (none_shared key place k answer cs)

-- a group loads once, if its step has an answer
group_loads : (key : Bytes) (place : ℕ) (group : Group) → count_by (is_load key) (events_of place group) ≡ one_if (pointwise ◌==◌ key group.step.key && is_load_given group.step.out.load)
group_loads key place group =
    let front = victim_events group.victim in
    let shared = map (shared_event (step_place place group) group.step.key group.step.out.load) group.joined in
    let own = evicted_events group.step.key group.evicted in
    let a = none_append key (front ++ (step_event group ∷ shared)) own in
    let b = none_append key front (step_event group ∷ shared) in
    let c : count_by (is_load key) (step_event group ∷ shared) ≡ one_if (is_load key (step_event group)) + count_by (is_load key) shared = sum_by-cons (λ e. cond (is_load key e) 1 0) (step_event group) shared in
    let v = none_victim key group.victim in
    let s : count_by (is_load key) shared ≡ 0 = none_shared key (step_place place group) group.step.key group.step.out.load group.joined in
    let o = none_evicted key group.step.key group.evicted in
    omega arith

-- so does a step of a stripe
step_loads : (old new : State) (caller : Caller) (key : Bytes) (op : Op) (out : Out) (callers : List Caller) (done : StepDone) (q : Bytes) → Steps old caller key op out callers done new
    → count_by (is_load q) (added old new) ≡ one_if (pointwise ◌==◌ q key && is_load_given out.load)
step_loads old new caller key op out callers done q steps =
    let group = new_group old caller key op out callers steps.short in
    let events = events_of (length old.history) group in
    let history : new.history ≡ old.history ++ events = ap (λ (s : State). s.history) steps.after in
    ap (λ h. count_by (is_load q) (drop (length old.history) h)) history
    ∙ ap (count_by (is_load q)) (drop-append_seam old.history events)
    ∙ group_loads q (length old.history) group

-- 2. What is kept.

-- an event that is no answer, and changes neither the order nor what is kept
unanswered : (b : Bool) (n m : ℕ) → b ≡ false → n ≡ m → n ≡ one_if b + m
unanswered b n m none same = let e : one_if b ≡ 0 = ap one_if none in omega arith

-- two tests, of which the second fails
-- what is kept of a key whose part is put in place
loaded_inserted : (parts : Parts) (key q : Bytes) (part : Part) → (q ≡ key → is_load_given (out_of_part part).load ≡ is_loaded (get parts q)) → is_loaded (get (insert parts key part) q) ≡ is_loaded (get parts q)
loaded_inserted parts key q part same =
    ap is_loaded (get-insert nat_list_cmp_total parts key part q)
    ∙ split q key (λ b. is_loaded (cond b (Some part) (get parts q)) ≡ is_loaded (get parts q)) same (λ apart. refl)

-- and if one is removed for which nothing is kept
loaded_removed : (parts : Parts) (key q : Bytes) → (q ≡ key → is_loaded (get parts q) ≡ false) → is_loaded (get (remove parts key) q) ≡ is_loaded (get parts q)
loaded_removed parts key q none =
    ap is_loaded (get-remove nat_list_cmp_total parts key q)
    ∙ split q key (λ b. is_loaded (cond b None (get parts q)) ≡ is_loaded (get parts q)) (λ same. sym (none same)) (λ apart. refl)

-- the part of a key has this answer, or none
loaded_at : (w : WorldState) (key q : Bytes) (part : Part) → get w.parts key ≡ Some part → q ≡ key → is_loaded (get w.parts q) ≡ is_load_given (out_of_part part).load
loaded_at w key q part there same = ap is_loaded (ap (get w.parts) same ∙ there)

-- a loader that is waited for has given no answer
no_answer : (o : Option Part) (part : Part) → o ≡ Some part → has_progress waits_for_load o ≡ true → is_load_given (out_of_part part).load ≡ false
no_answer o part is waits = unanswered_load part.progress.out (and_parts (asks_loader part.reservation.first) _ (sym (ap (has_progress waits_for_load) is) ∙ waits)).1

-- a processor that is waited for has had none
no_run : (o : Option Part) (part : Part) → o ≡ Some part → has_progress waits_for_process o ≡ true → is_load_given (out_of_part part).load ≡ false
no_run o part is waits = unanswered_load part.progress.out (and_parts (asks_processor part.reservation.first) _ (sym (ap (has_progress waits_for_process) is) ∙ waits)).1

-- what is untouched has none
no_touch : (o : Option Part) (part : Part) → o ≡ Some part → has_progress is_untouched o ≡ true → is_load_given (out_of_part part).load ≡ false
no_touch o part is untouched = unanswered_load part.progress.out (and_parts (is_unanswered part.progress.out) _ (sym (ap (has_progress is_untouched) is) ∙ untouched)).0

-- a loader that reads the store has answered
read_given : (stored : Option Bytes) → is_load_given (read_answer stored) ≡ true
read_given None = refl
read_given (Some value) = refl

-- 3. Each event.

-- an answer is kept
total_answered : (w : WorldState) (call : ℕ) (key q : Bytes) (part : Part) (answer : LoadAnswer) → part_of w call key ≡ Some part → has_progress waits_for_load (part_of w call key) ≡ true → is_load_given answer ≡ true
    → count_by (is_load q) w.order + one_if (is_loaded (get (insert w.parts key (record part { progress = with_heard (with_loaded part.progress answer) (is_misled part) (is_true_load answer (entry_at w.store key)) })) q)) ≡ one_if (pointwise ◌==◌ q key) + total w q
total_answered w call key q part answer is waits given =
    let there = is_part (get w.parts key) call part is in
    let n = count_by (is_load q) w.order in
    let P : Bool → Type 0 = λ b. n + one_if (is_loaded (cond b (Some (record part { progress = with_heard (with_loaded part.progress answer) (is_misled part) (is_true_load answer (entry_at w.store key)) })) (get w.parts q))) ≡ one_if b + (n + one_if (is_loaded (get w.parts q))) in
    ap (λ o. n + one_if (is_loaded o)) (get-insert nat_list_cmp_total w.parts key (record part { progress = with_heard (with_loaded part.progress answer) (is_misled part) (is_true_load answer (entry_at w.store key)) }) q)
    ∙ split q key P
    (λ same. let was : one_if (is_loaded (get w.parts q)) ≡ 0 = ap one_if (loaded_at w key q part there same ∙ no_answer (part_of w call key) part is waits) in let now : one_if (is_load_given answer) ≡ 1 = ap one_if given in omega arith)
    (λ apart. omega arith)
    ∙ ap (λ b. one_if b + total w q) (sym (texts_ties q key))

-- a processor has run
total_processed : (w : WorldState) (call : ℕ) (key q : Bytes) (part : Part) (done : ProcessResult Claim) → part_of w call key ≡ Some part → has_progress waits_for_process (part_of w call key) ≡ true
    → total (after_process w key part done) q ≡ one_if (pointwise ◌==◌ q key && is_load_given done.load) + total w q
total_processed w call key q part done is waits =
    let there = is_part (get w.parts key) call part is in
    let n = count_by (is_load q) w.order in
    let progress = with_heard (progress_after (change_due w.config done) done) (is_misled part) (is_true_load done.load (entry_at w.store key)) in
    let new : Part = record part { progress = progress } in
    let given = is_load_given done.load in
    let P : Bool → Type 0 = λ b. n + one_if (is_loaded (cond b (Some new) (get w.parts q))) ≡ one_if (b && given) + (n + one_if (is_loaded (get w.parts q))) in
    ap (λ o. n + one_if (is_loaded o)) (get-insert nat_list_cmp_total w.parts key new q)
    ∙ split q key P
    (λ same.
    let was : one_if (is_loaded (get w.parts q)) ≡ 0 = ap one_if (loaded_at w key q part there same ∙ no_run (part_of w call key) part is waits) in
    omega arith)
    (λ apart. omega arith)
    ∙ ap (λ b. one_if (b && given) + total w q) (sym (texts_ties q key))

-- by the kind of the change at a key: what was kept of a load is in the step of its commit
total_key : (w new : WorldState) (e : WorldEvent) (key : Bytes) (seen : Shown) (q : Bytes) → KeyChange w new e key seen → fits w e ≡ true → IsSoundWorld w → total new q ≡ total w q
total_key w new e key seen q (by_nothing is none ends) fit old = ap (λ (x : WorldState). total x q) is
total_key w new e key seen q (by_refusal u op refusal may is none ends) fit old = ap (λ (x : WorldState). total x q) is
total_key w new e key seen q (by_step u op from to x may there h home_is is shows ends) fit old =
    let steps = h.2 in
    let added_is = step_loads from to u.caller key op nothing_said [] (step_of x) q steps in
    let none : one_if (pointwise ◌==◌ q key && false) ≡ 0 = ap one_if (and_right (pointwise ◌==◌ q key) false refl) in
    let more = none_append q w.order (added from to) in
    let kept = one_if (is_loaded (get w.parts q)) in
    let grows : count_by (is_load q) (w.order ++ added from to) + kept ≡ count_by (is_load q) w.order + kept = ap (λ n. n + kept) (let e : count_by (is_load q) (w.order ++ added from to) ≡ count_by (is_load q) w.order = omega arith in e) in
    ap (λ (x : WorldState). total x q) is ∙ grows
total_key w new e key seen q (by_reservation u op from to p r may there h is silent ends) fit old =
    let none = unheld w key from there h.free old in
    ap (λ (x : WorldState). total x q) is
    ∙ ap (λ b. count_by (is_load q) w.order + one_if b) (loaded_inserted w.parts key q (new_part p r) (λ same. h.unloaded ∙ sym (ap is_loaded (ap (get w.parts) same ∙ none))))
total_key w new e key seen q (by_join u op from to join may there h is none ends) fit old = ap (λ (x : WorldState). total x q) is
total_key w new e key seen q (by_commit call part from to x e_is part_is at h home_is is shows) fit old =
    let r = part.reservation in
    let there = is_part (get w.parts key) call part part_is in
    let mid = after_commit from r x.place in
    let added_is : count_by (is_load q) (added from to) ≡ one_if (pointwise ◌==◌ q key && is_load_given (out_of_part part).load) =
    step_loads mid to r.caller r.key r.op (out_of_part part) (callers_of r.number from.joiners) (step_of x) q h.1 ∙ ap (λ k. one_if (pointwise ◌==◌ q k && is_load_given (out_of_part part).load)) (part_key w call key part part_is old) in
    let tied = ap (λ b. one_if (b && is_load_given (out_of_part part).load)) (texts_ties q key) in
    let more = none_append q w.order (added from to) in
    let n = count_by (is_load q) w.order in
    let grows : count_by (is_load q) (w.order ++ added from to) ≡ n + one_if (eq_by_cmp key_cmp q key && is_load_given (out_of_part part).load) = omega arith in
    let P : Bool → Type 0 = λ b. (n + one_if (b && is_load_given (out_of_part part).load)) + one_if (is_loaded (cond b None (get w.parts q))) ≡ n + one_if (is_loaded (get w.parts q)) in
    ap (λ (v : WorldState). total v q) is
    ∙ ap (λ m. m + one_if (is_loaded (get (remove w.parts key) q))) grows
    ∙ ap (λ o. (n + one_if (eq_by_cmp key_cmp q key && is_load_given (out_of_part part).load)) + one_if (is_loaded o)) (get-remove nat_list_cmp_total w.parts key q)
    ∙ split q key P
    (λ same. let was : one_if (is_loaded (get w.parts q)) ≡ one_if (is_load_given (out_of_part part).load) = ap one_if (loaded_at w key q part there same) in omega arith)
    (λ apart. omega arith)
total_key w new e key seen q (by_withdrawal call part from to e_is part_is at h is shows) fit old =
    let there = is_part (get w.parts key) call part part_is in
    ap (λ (x : WorldState). total x q) is
    ∙ ap (λ b. count_by (is_load q) w.order + one_if b) (loaded_removed w.parts key q (λ same. loaded_at w key q part there same ∙ no_touch (part_of w call key) part part_is (ap (fits w) (sym e_is) ∙ fit)))
total_key w new e key seen q (by_mark from to there out h reached is none ends) fit old = ap (λ (v : WorldState). total v q) is
total_key w new e key seen q (by_answer call join from to x e_is join_is there h home_is is shows ends) fit old = ap (λ (v : WorldState). total v q) is
total_key w new e key seen q (by_retry call join from to e_is join_is there h is shows ends) fit old = ap (λ (v : WorldState). total v q) is

-- an eviction loads nothing
total_dropped : (w mid new : WorldState) (key q : Bytes) → Drop w mid new key → total new q ≡ total mid q
total_dropped w mid new key q d =
    let to = without_entry d.from key in
    let one : added d.from to ≡ dropped_event key ∷ [] = drop-append_seam d.from.history (dropped_event key ∷ []) in
    let none : count_by (is_load q) (added d.from to) ≡ 0 = ap (count_by (is_load q)) one in
    let more = none_append q mid.order (added d.from to) in
    let same : count_by (is_load q) (mid.order ++ added d.from to) ≡ count_by (is_load q) mid.order = omega arith in
    ap (λ (v : WorldState). total v q) d.is ∙ ap (λ n. n + one_if (is_loaded (get mid.parts q))) same

total_event : (w new : WorldState) (e : WorldEvent) (key : Bytes) (seen : Shown) (q : Bytes) → KeyEvent w new e key seen → fits w e ≡ true → IsSoundWorld w → total new q ≡ total w q
total_event w new e key seen q (plain k) fit old = total_key w new e key seen q k fit old
total_event w new e key seen q (dropping mid shown k tells d end) fit old = total_dropped w mid new key q d ∙ total_key w mid e key shown q k fit old

-- by the kind of the event
total_happens : (w new : WorldState) (e : WorldEvent) (seen : Shown) (q : Bytes) → fits w e ≡ true → Happens w e seen new → is_reopening seen.outcome ≡ false → IsSoundWorld w → total new q ≡ one_if (is_answer q e seen.outcome) + total w q
total_happens w new (WorldEvent.Look call stripe) seen q fit h none old = unanswered false (total new q) (total w q) refl (ap (λ (x : WorldState). total x q) h.9)
total_happens w new (WorldEvent.Read call key) seen q fit h none old =
    ap (λ (x : WorldState). total x q) h.3 ∙ total_answered w call key q h.0 (read_answer (entry_at w.store key)) h.1 fit (read_given (entry_at w.store key))
    ∙ ap (λ (s : Shown). one_if (is_answer q (WorldEvent.Read call key) s.outcome) + total w q) (sym h.2)
total_happens w new (WorldEvent.Say call key answer) seen q fit h none old =
    let ok = and_parts (is_load_given answer) (has_progress waits_for_load (part_of w call key)) fit in
    ap (λ (x : WorldState). total x q) h.3 ∙ total_answered w call key q h.0 answer h.1 ok.1 ok.0
    ∙ ap (λ (s : Shown). one_if (is_answer q (WorldEvent.Say call key answer) s.outcome) + total w q) (sym h.2)
total_happens w new (WorldEvent.Process call key source calls fail) seen q fit h none old =
    let answer = load_from source (entry_at w.store key) in
    let done = run_result h.0.reservation answer calls fail in
    ap (λ (x : WorldState). total x q) h.3 ∙ total_processed w call key q h.0 done h.1 fit
    ∙ ap (λ (s : Shown). one_if (is_answer q (WorldEvent.Process call key source calls fail) s.outcome) + total w q) (sym h.2)
total_happens w new (WorldEvent.Change call key) seen q fit h none old =
    let there = is_part (get w.parts key) call h.0 h.2 in
    unanswered false (total new q) (total w q) refl
    (ap (λ (x : WorldState). total x q) h.5 ∙ ap (λ b. count_by (is_load q) w.order + one_if b) (loaded_inserted w.parts key q (record h.0 { progress = with_change h.0.progress }) (λ same. sym (loaded_at w key q h.0 there same))))
total_happens w new (WorldEvent.Report call left fault) seen q fit h none old =
    unanswered false (total new q) (total w q) refl
    (ap (λ (x : WorldState). total x q) h.3
    ∙ each_report (λ v. total v q ≡ total w q) call (report_for h.0.kind left fault)
    (λ v key part at waits o.
    let there = is_part (get v.parts key) call part at in
    let report = report_for h.0.kind left fault key in
    ap (λ b. count_by (is_load q) v.order + one_if b) (loaded_inserted v.parts key q (record part { progress = with_heard (with_report part.progress report) (is_misled part) (is_true_report report (has_changed part)) }) (λ same. sym (loaded_at v key q part there same))) ∙ o)
    (with_met_by w call (option_map WriterFailed fault)) (keys_reported (reported_now w call h.0)) refl)
total_happens w new (WorldEvent.Call call session command) seen q fit h none old = unanswered false (total new q) (total w q) refl (ap (λ (x : WorldState). total x q) h.1)
total_happens w new (WorldEvent.Leave call) seen q fit h none old = unanswered false (total new q) (total w q) refl (ap (λ (x : WorldState). total x q) h.1)
total_happens w new (WorldEvent.Foreign key value) seen q fit h none old = unanswered false (total new q) (total w q) refl (ap (λ (x : WorldState). total x q) h.1)
total_happens w new (WorldEvent.Reopen config) seen q fit h none old = let t : true ≡ false = ap (λ (s : Shown). is_reopening s.outcome) (sym h.0) ∙ none in cc
total_happens w new (WorldEvent.Start call key) seen q fit h none old =
    let k = key_change w new (WorldEvent.Start call key) seen refl h in unanswered false (total new q) (total w q) refl (total_key w new (WorldEvent.Start call key) k.0 seen q k.1 fit old)
total_happens w new (WorldEvent.PickUp call key) seen q fit h none old =
    let k = key_change w new (WorldEvent.PickUp call key) seen refl h in unanswered false (total new q) (total w q) refl (total_key w new (WorldEvent.PickUp call key) k.0 seen q k.1 fit old)
total_happens w new (WorldEvent.Invalidate key) seen q fit h none old =
    let k = invalid_event w new key seen fit h in
    unanswered false (total new q) (total w q) refl (ap (λ (v : WorldState). total v q) k.2 ∙ total_event w k.0 (WorldEvent.Invalidate key) key seen q k.1 fit old)
total_happens w new e seen q fit h none old = let k = end_event w new e seen refl fit h old in unanswered false (total new q) (total w q) refl (total_event w new e k.0 seen q k.1 fit old)

-- what doesn't fit is no answer
unfit_answer : (q : Bytes) (e : WorldEvent) → is_answer q e Outcome.Unfit ≡ false
unfit_answer q (WorldEvent.Read call key) = refl
unfit_answer q e = refl

-- any event, also one that doesn't fit
total_step : (w new : WorldState) (e : WorldEvent) (seen : Shown) (q : Bytes) → Step w e seen new → is_reopening seen.outcome ≡ false → IsSoundWorld w → total new q ≡ one_if (is_answer q e seen.outcome) + total w q
total_step w new e seen q (inl (fit, happens)) none old = total_happens w new e seen q fit happens none old
total_step w new e seen q (inr (unfit, shows, is)) none old = unanswered (is_answer q e seen.outcome) (total new q) (total w q) (ap (λ (s : Shown). is_answer q e s.outcome) shows ∙ unfit_answer q e) (ap (λ (x : WorldState). total x q) is)

-- 4. A run.

-- the answers of a run
abbrev answers : Bytes → List WorldEvent → List Shown → ℕ
answers q es ss = count_by (λ (e : WorldEvent × Shown). is_answer q e.0 e.1.outcome) (zip es ss)

-- and so a run
pub total_run : Laws → (w new : WorldState) (es : List WorldEvent) (ss : List Shown) (q : Bytes) → Run w es ss new → reopens ss ≡ false → IsSoundWorld w → total new q ≡ answers q es ss + total w q
total_run laws w new [] [] q run none old = let e : total new q ≡ total w q = ap (λ (x : WorldState). total x q) run in omega arith
total_run laws w new (e ∷ es) (s ∷ ss) q (mid, step, rest) none old =
    let parts = or_parts (is_reopening s.outcome) (reopens ss) none in
    let one = total_step w mid e s q step parts.0 old in
    let more = total_run laws mid new es ss q rest parts.1 (sound_step laws w e s mid step old) in
    let split_off : answers q (e ∷ es) (s ∷ ss) ≡ one_if (is_answer q e s.outcome) + answers q es ss = sum_by-cons (λ (x : WorldEvent × Shown). cond (is_answer q x.0 x.1.outcome) 1 0) (e, s) (zip es ss) in
    omega arith
total_run laws w new es ss q run none old = absurd run

-- nothing was counted in an opening
pub total_opened : (w : WorldState) (q : Bytes) → IsOpeningWorld w → total w q ≡ 0
total_opened w q h = λ i. count_by (is_load q) (h.order i) + one_if (is_loaded (no_part w h q i))
