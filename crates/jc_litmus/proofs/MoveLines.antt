-- The line of an act of a call plays it.
--     is_fit_going, all_fit_going    an outcome after which a call goes on is that of an event that fits; so is each of these
--     step_fits                      the event of such a step fits
--     plays_call                     a line about a call whose events are these plays them
--     HasLine                        there is a line, and it plays what was shown
--     act_plays                      so it is of each act of a call of one key
use Rattle.jc_litmus.proofs.Common.{[], and_from, and_parts, ap, Bool, Bytes, cond, false, inl, inr, is_some, List, list_any, None, not, Option, refl, Some, subst, sym, true, ℕ, ◌&&◌, ◌++◌, ◌==◌, ◌∙◌, ◌∷◌, ◌≡◌}
use Rattle.std.specs.Prelude.{find, if◌then◌else◌, map, option_map, option_to_list, ◌||◌}
use Rattle.std.proofs.Common.{eqb-true, true≢false}
use Rattle.std.specs.FinMap.{get}
use Rattle.jc_model.specs.declared.event.LoadAnswer.TheVariants.{Failed}
use Rattle.jc_model.specs.declared.event.Op.{Op}
use Rattle.jc_model.specs.declared.processor.EntryCall.{EntryCall}
use Rattle.jc_types.specs.declared.refusal.Refusal.TheVariants.{WriterFailed}
use Rattle.jc_world.specs.Calls.{CallState, open_in, open_keys}
use Rattle.jc_world.specs.Events.{after_reports, Happens, keys_reported, reported_now, with_met_by}
use Rattle.jc_world.specs.Fits.{fits, is_asked_in, is_being_written, may_change, may_report, passes_in}
use Rattle.jc_world.specs.Premises.{report_for}
use Rattle.jc_world.specs.Runs.{all_fit, is_fit, Run, Step}
use Rattle.jc_world.specs.World.{has_progress, is_all_answered, is_joined, of_call, open_call, part_of, waits_for_process, WorldState}
use Rattle.jc_world.specs.declared.command.CallKind.TheVariants.{Single}
use Rattle.jc_world.specs.declared.event.Outcome.{Outcome}
use Rattle.jc_world.specs.declared.event.Outcome.TheVariants as outcome
use Rattle.jc_world.specs.declared.event.Part.{Part}
use Rattle.jc_world.specs.declared.event.Shown.{Shown}
use Rattle.jc_world.specs.declared.event.WorldEvent.{WorldEvent}
use Rattle.jc_world.specs.declared.event.WorldEvent.TheVariants as event
use Rattle.jc_world.specs.declared.process.LoadSource.{LoadSource}
use Rattle.jc_world.specs.declared.process.LoadSource.TheVariants as source
use Rattle.jc_explore.specs.declared.moves.Act.{Act}
use Rattle.jc_explore.specs.declared.moves.Act.TheVariants as act
use Rattle.jc_explore.specs.declared.program.Faults.{Faults}
use Rattle.jc_explore.specs.Schedule.{act_events, are_going_on, if_failing, is_going_on, is_proper}
use Rattle.jc_explore.specs.Moves.{is_begin}
use Rattle.jc_text.specs.Printing.{fails_text, texts}
use Rattle.jc_text.specs.declared.fault.Fault.TheVariants.{NotNow}
use Rattle.jc_text.specs.declared.read.line.Line.{Line}
use Rattle.jc_text.specs.declared.read.line.Line.TheVariants.{OfCall}
use Rattle.jc_text.specs.declared.read.line.ScriptAct.{ScriptAct}
use Rattle.jc_text.specs.declared.read.line.ScriptAct.TheVariants as line
use Rattle.jc_script.specs.Determinism.{shown_by_act}
use Rattle.jc_script.specs.Faults.{act_fault}
use Rattle.jc_script.specs.LineEvents.{allows_but, end_of_act, event_at, events_of_act, has_but, is_meant, is_started, is_time, is_time_for, key_events, keys_of_act, left_keys, load_code}
use Rattle.jc_script.specs.Transcript.{PlaysAct, PlaysCall}
use Rattle.jc_litmus.specs.Playing.{IsPlayedAs}
use Rattle.jc_litmus.specs.Witness.{act_line, if_coded, run_line}
use Rattle.jc_litmus.proofs.Mirroring.{IsFree}

-- 1. What goes on fits.

pub is_fit_going : (o : Outcome) → is_going_on o ≡ true → is_fit o ≡ true
is_fit_going outcome.Unfit going = absurd (true≢false (sym going))
is_fit_going o going = refl

pub all_fit_going : (seen : List Shown) → are_going_on seen ≡ true → all_fit seen ≡ true
all_fit_going [] going = refl
all_fit_going (s ∷ seen) going =
    let parts = and_parts (is_going_on s.outcome) (are_going_on seen) going in
    and_from _ _ (is_fit_going s.outcome parts.0) (all_fit_going seen parts.1)

pub step_fits : (w new : WorldState) (e : WorldEvent) (s : Shown) → is_going_on s.outcome ≡ true → Step w e s new → (fits w e ≡ true) × Happens w e s new
step_fits w new e s going (inl h) = h
step_fits w new e s going (inr (unfit, shows, is)) = absurd (true≢false (sym (ap (λ (x : Shown). is_going_on x.outcome) (sym shows) ∙ going)))

-- 2. A line about a call.

pub plays_call : (w after : WorldState) (c : ℕ) (a : ScriptAct) (u : CallState) (events : List WorldEvent) (seen : List Shown) → open_call w c ≡ Some u → events_of_act w c a (keys_of_act w c a u) ≡ events
    → act_fault w c a (Some u) ≡ None → Run w events seen after → all_fit seen ≡ true → IsPlayedAs w (OfCall c a) seen after
plays_call w after c a u events seen here are right run fit =
    let own : List WorldEvent = events_of_act w c a (keys_of_act w c a u) in
    let text : List ℕ = texts own seen ++ fails_text c (load_code a) in
    let call : PlaysCall w c own (load_code a) text (Some after) = record {
      shown = texts own seen;
      after = after;
      plays = record { seen = seen; runs = subst (λ (es : List WorldEvent). Run w es seen after) (sym are) run; fit = fit; text_is = refl };
      text_is = refl;
      new_is = refl;
    } in
    let P : Option CallState → Type 0 = λ o. (x : PlaysAct w c a o text (Some after)) × (shown_by_act w c a o text (Some after) x ≡ seen) in
    let found : P (open_call w c) = subst P (sym here) (call, refl) in
    record { right = ap (act_fault w c a) here ∙ right; text = text; plays = found.0; shows = found.1 }

-- an act that is about the one key of its call
alone : (w : WorldState) (c : ℕ) (a : ScriptAct) (key : Bytes) → is_meant w c a key ≡ true → key_events w c a (key ∷ []) ≡ event_at c a key ∷ []
alone w c a key meant = ap (λ b. map (event_at c a) (cond b (key ∷ []) [])) meant

-- it is the time for an act
in_time : (w : WorldState) (c : ℕ) (a : ScriptAct) (u : CallState) (key : Bytes) (es : List WorldEvent) → keys_of_act w c a u ≡ key ∷ [] → key_events w c a (key ∷ []) ≡ es → (has_but a && not (allows_but u)) ≡ false
    → is_time w c a (key ∷ []) es ≡ true → act_fault w c a (Some u) ≡ None
in_time w c a u key es keys are but time =
    let now : is_time_for w c a u ≡ true = ap (λ ks. is_time w c a ks (key_events w c a ks)) keys ∙ ap (is_time w c a (key ∷ [])) are ∙ time in
    (λ i. if but i then Some NotNow else if now i then None else Some NotNow)

quiet_plays : (w after : WorldState) (c : ℕ) (a : ScriptAct) (u : CallState) (key : Bytes) (seen : List Shown) → open_call w c ≡ Some u → keys_of_act w c a u ≡ key ∷ [] → is_meant w c a key ≡ true
    → end_of_act w c a (key ∷ []) ≡ [] → (has_but a && not (allows_but u)) ≡ false → is_time w c a (key ∷ []) (event_at c a key ∷ []) ≡ true
    → Run w (event_at c a key ∷ []) seen after → all_fit seen ≡ true → IsPlayedAs w (OfCall c a) seen after
quiet_plays w after c a u key seen here keys meant quiet but time run fit =
    plays_call w after c a u (event_at c a key ∷ []) seen here
    (ap (events_of_act w c a) keys ∙ (λ i. alone w c a key meant i ++ quiet i))
    (in_time w c a u key (event_at c a key ∷ []) keys (alone w c a key meant) but time) run fit

-- 3. The writer's return.

-- of a call of one key it doesn't matter which keys the writer says that it has left
report_as : (w new : WorldState) (c : ℕ) (u : CallState) (left more : List Bytes) (fault : Option ℕ) (s : Shown) → open_call w c ≡ Some u → u.kind ≡ Single → Step w (event.Report c left fault) s new → Step w (event.Report c more fault) s new
report_as w new c u left more fault s here one (inr h) = inr h
report_as w new c u left more fault s here one (inl (fit, (v, there, shows, is))) =
    let same : v ≡ u = let t : Some v ≡ Some u = sym there ∙ here in cc in
    let kind : v.kind ≡ Single = ap (λ (x : CallState). x.kind) same ∙ one in
    let told : report_for v.kind left fault ≡ report_for v.kind more fault = ap (λ k. report_for k left fault) kind ∙ sym (ap (λ k. report_for k more fault) kind) in
    inl (fit, (v, there, shows, is ∙ ap (λ r. after_reports (with_met_by w c (option_map WriterFailed fault)) c r (keys_reported (reported_now w c v))) told))

-- 4. Each act.

pub record HasLine (w after : WorldState) (l : Option Line) (seen : List Shown) : Type 0 where
  pub line : Line
  pub line_is : l ≡ Some line
  pub played : IsPlayedAs w line seen after

module _ (w after : WorldState) (f : Faults) (c : ℕ) (u : CallState) (op : Op) (key : Bytes) (calls : List EntryCall) (here : open_call w c ≡ Some u) (one : u.kind ≡ Single) (tasks : u.tasks ≡ (key, Some op) ∷ []) where
  keys_are : open_keys u ≡ key ∷ []
  keys_are = ap open_in tasks

  read_plays : (seen : List Shown) → Run w (event.Read c key ∷ []) seen after → is_proper seen ≡ true → HasLine w after (Some (OfCall c line.Read)) seen
  read_plays [] run proper = absurd run
  read_plays (s ∷ []) (mid, step, rest) proper =
      let going = (and_parts (is_going_on s.outcome) true proper).0 in
      let fit = (step_fits w mid (event.Read c key) s going step).0 in
      record { line = OfCall c line.Read; line_is = refl; played = quiet_plays w after c line.Read u key (s ∷ []) here keys_are fit refl refl refl (mid, step, rest) (all_fit_going (s ∷ []) proper) }
  read_plays (s ∷ t ∷ more) (mid, step, rest) proper = absurd rest

  fails_plays : (o : Option ℕ) (seen : List Shown) → Run w (if_failing o (λ code. event.Say c key (Failed code) ∷ [])) seen after → is_proper seen ≡ true → HasLine w after (if_coded o (λ code. OfCall c (line.ReadFail code))) seen
  fails_plays None [] run proper = absurd (true≢false (sym proper))
  fails_plays None (s ∷ seen) run proper = absurd run
  fails_plays (Some code) [] run proper = absurd run
  fails_plays (Some code) (s ∷ []) (mid, step, rest) proper =
      let going = (and_parts (is_going_on s.outcome) true proper).0 in
      let fit = (step_fits w mid (event.Say c key (Failed code)) s going step).0 in
      record { line = OfCall c (line.ReadFail code); line_is = refl; played = quiet_plays w after c (line.ReadFail code) u key (s ∷ []) here keys_are fit refl refl refl (mid, step, rest) (all_fit_going (s ∷ []) proper) }
  fails_plays (Some code) (s ∷ t ∷ more) (mid, step, rest) proper = absurd rest

  process_plays : (load : LoadSource) (fail : Option ℕ) (seen : List Shown) → Run w (event.Process c key load calls fail ∷ []) seen after → is_proper seen ≡ true → HasLine w after (Some (run_line c load calls fail)) seen
  process_plays load fail [] run proper = absurd run
  process_plays load fail (s ∷ []) (mid, step, rest) proper =
      let going = (and_parts (is_going_on s.outcome) true proper).0 in
      let fit : has_progress waits_for_process (part_of w c key) ≡ true = (step_fits w mid (event.Process c key load calls fail) s going step).0 in
      let keys : keys_of_act w c (line.Process load calls fail) u ≡ key ∷ [] =
      ap (λ ks. option_to_list (find (passes_in waits_for_process w.parts c) ks)) keys_are ∙ ap (λ b. option_to_list (cond b (Some key) None)) fit in
      record { line = run_line c load calls fail; line_is = refl; played = quiet_plays w after c (line.Process load calls fail) u key (s ∷ []) here keys fit refl refl refl (mid, step, rest) (all_fit_going (s ∷ []) proper) }
  process_plays load fail (s ∷ t ∷ more) (mid, step, rest) proper = absurd rest

  commit_plays : (seen : List Shown) → Run w (event.Commit c key ∷ []) seen after → is_proper seen ≡ true → HasLine w after (Some (OfCall c line.End)) seen
  commit_plays [] run proper = absurd run
  commit_plays (s ∷ []) (mid, step, rest) proper =
      let going = (and_parts (is_going_on s.outcome) true proper).0 in
      let fit : has_progress is_all_answered (part_of w c key) ≡ true = (step_fits w mid (event.Commit c key) s going step).0 in
      record { line = OfCall c line.End; line_is = refl; played = quiet_plays w after c line.End u key (s ∷ []) here keys_are (started (part_of w c key) fit) refl refl (ap (λ b. b && true) fit) (mid, step, rest) (all_fit_going (s ∷ []) proper) }
    where
      started : (o : Option Part) → has_progress is_all_answered o ≡ true → is_some o ≡ true
      started None h = h
      started (Some part) h = refl
  commit_plays (s ∷ t ∷ more) (mid, step, rest) proper = absurd rest

  pick_up_plays : IsFree w → (seen : List Shown) → Run w (event.PickUp c key ∷ []) seen after → is_proper seen ≡ true → HasLine w after (Some (OfCall c line.Take)) seen
  pick_up_plays free [] run proper = absurd run
  pick_up_plays free (s ∷ []) (mid, step, rest) proper =
      let going = (and_parts (is_going_on s.outcome) true proper).0 in
      let fit : is_joined w c key ≡ true = (step_fits w mid (event.PickUp c key) s going step).0 in
      let alone : is_started w c key ≡ false = unstarted fit (get w.parts key) (free key) in
      record { line = OfCall c line.Take; line_is = refl; played = quiet_plays w after c line.Take u key (s ∷ []) here keys_are fit refl refl (ap (λ b. not (b || false)) alone) (mid, step, rest) (all_fit_going (s ∷ []) proper) }
    where
      unstarted : is_joined w c key ≡ true → (o : Option Part) → ((part : Part) → o ≡ Some part → is_joined w part.reservation.caller.call key ≡ false) → is_some (of_call c o) ≡ false
      unstarted fit None h = refl
      unstarted fit (Some part) h =
          elim (part.reservation.caller.call == c) as (λ b. (part.reservation.caller.call == c) ≡ b → is_some (cond b (Some part) None) ≡ false) [
            | true ↦ λ e. let t : true ≡ false = sym fit ∙ ap (λ n. is_joined w n key) (sym (eqb-true part.reservation.caller.call c e)) ∙ h part refl in cc
            | false ↦ λ e. refl
          ] refl
  pick_up_plays free (s ∷ t ∷ more) (mid, step, rest) proper = absurd rest

  -- the writer is asked for the key now
  asked : fits w (event.Report c [] None) ≡ true → is_being_written w c key ≡ true
  asked fit =
      let at : list_any (is_asked_in w.parts c u) (open_keys u) ≡ true = sym (ap (may_report w c) here) ∙ fit in
      let mine : (is_asked_in w.parts c u key || false) ≡ true = sym (ap (list_any (is_asked_in w.parts c u)) keys_are) ∙ at in
      ap (may_change w c key) here ∙ unset (is_asked_in w.parts c u key) mine
    where
      unset : (b : Bool) → (b || false) ≡ true → b ≡ true
      unset true h = refl
      unset false h = h

  written : is_being_written w c key ≡ true → list_any (is_being_written w c) (key ∷ []) ≡ true
  written fit = ap (λ b. b || false) fit

  -- it changes the store, and returns
  changes_plays : (a : ScriptAct) (left : List Bytes) (fault : Option ℕ) (seen : List Shown) → ((ks : List Bytes) → end_of_act w c a ks ≡ event.Report c (left_keys w c a ks) fault ∷ [])
      → event_at c a key ≡ event.Change c key → (has_but a && not (allows_but u)) ≡ false
      → (is_being_written w c key ≡ true → is_meant w c a key ≡ true)
      → ((ks : List Bytes) (es : List WorldEvent) → list_any (is_being_written w c) ks ≡ true → is_time w c a ks es ≡ true)
      → (keys_of_act w c a u ≡ key ∷ [])
      → Run w (event.Change c key ∷ event.Report c left fault ∷ []) seen after → is_proper seen ≡ true → IsPlayedAs w (OfCall c a) seen after
  changes_plays a left fault [] ends at but meant time keys run proper = absurd run
  changes_plays a left fault (s ∷ []) ends at but meant time keys (mid, step, rest) proper = absurd rest
  changes_plays a left fault (s ∷ t ∷ []) ends at but meant time keys (mid, step, (last, other, rest)) proper =
      let parts = and_parts (is_going_on s.outcome) (is_going_on t.outcome && true) proper in
      let first = step_fits w mid (event.Change c key) s parts.0 step in
      let fit : is_being_written w c key ≡ true = first.0 in
      let same : open_call mid c ≡ Some u = ap (λ (x : WorldState). open_call x c) first.1.5 ∙ here in
      let more : List Bytes = left_keys w c a (key ∷ []) in
      let events : events_of_act w c a (keys_of_act w c a u) ≡ event.Change c key ∷ event.Report c more fault ∷ [] =
      ap (events_of_act w c a) keys ∙ (λ i. (alone w c a key (meant fit) ∙ ap (λ e. e ∷ []) at) i ++ ends (key ∷ []) i)
      in
      let now = in_time w c a u key (key_events w c a (key ∷ [])) keys refl but (time (key ∷ []) (key_events w c a (key ∷ [])) (written fit)) in
      plays_call w after c a u (event.Change c key ∷ event.Report c more fault ∷ []) (s ∷ t ∷ []) here events now
      (mid, step, (last, report_as mid last c u left more fault t same one other, rest)) (all_fit_going (s ∷ t ∷ []) proper)
  changes_plays a left fault (s ∷ t ∷ r ∷ seen) ends at but meant time keys (mid, step, (last, other, rest)) proper = absurd rest

  write_plays : (seen : List Shown) → Run w (event.Change c key ∷ event.Report c [] None ∷ []) seen after → is_proper seen ≡ true → HasLine w after (Some (OfCall c (line.Apply None))) seen
  write_plays seen run proper = record {
    line = OfCall c (line.Apply None);
    line_is = refl;
    played = changes_plays (line.Apply None) [] None seen (λ ks. refl) refl refl (λ fit. ap (λ b. b && true) fit) (λ ks es asked. asked) keys_are run proper;
  }

  lies_plays : (o : Option ℕ) (seen : List Shown) → Run w (if_failing o (λ code. event.Change c key ∷ event.Report c [] (Some code) ∷ [])) seen after → is_proper seen ≡ true
      → HasLine w after (if_coded o (λ code. OfCall c (line.ApplyLie code))) seen
  lies_plays None [] run proper = absurd (true≢false (sym proper))
  lies_plays None (s ∷ seen) run proper = absurd run
  lies_plays (Some code) seen run proper = record {
    line = OfCall c (line.ApplyLie code);
    line_is = refl;
    played = changes_plays (line.ApplyLie code) [] (Some code) seen (λ ks. refl) refl refl (λ fit. fit) (λ ks es asked. asked) keys_are run proper;
  }

  -- it changes nothing, and fails
  write_fails_plays : (o : Option ℕ) (seen : List Shown) → Run w (if_failing o (λ code. event.Report c [] (Some code) ∷ [])) seen after → is_proper seen ≡ true
      → HasLine w after (if_coded o (λ code. OfCall c (line.ApplyFail code None))) seen
  write_fails_plays None [] run proper = absurd (true≢false (sym proper))
  write_fails_plays None (s ∷ seen) run proper = absurd run
  write_fails_plays (Some code) [] run proper = absurd run
  write_fails_plays (Some code) (s ∷ []) (mid, step, rest) proper =
      let a : ScriptAct = line.ApplyFail code None in
      let fit = asked (step_fits w mid (event.Report c [] (Some code)) s (and_parts (is_going_on s.outcome) true proper).0 step).0 in
      let none : key_events w c a (key ∷ []) ≡ [] = ap (λ b. map (event_at c a) (cond b (key ∷ []) [])) (ap (λ b. b && false) fit) in
      let more : List Bytes = left_keys w c a (key ∷ []) in
      let events : events_of_act w c a (keys_of_act w c a u) ≡ event.Report c more (Some code) ∷ [] = ap (events_of_act w c a) keys_are ∙ ap (λ es. es ++ event.Report c more (Some code) ∷ []) none in
      let now = in_time w c a u key [] keys_are none refl (written fit) in
      record {
        line = OfCall c a;
        line_is = refl;
        played = plays_call w after c a u (event.Report c more (Some code) ∷ []) (s ∷ []) here events now (mid, report_as w mid c u [] more (Some code) s here one step, rest) (all_fit_going (s ∷ []) proper);
      }
  write_fails_plays (Some code) (s ∷ t ∷ seen) (mid, step, rest) proper = absurd rest

  process_fails : (o : Option ℕ) (load : ℕ → LoadSource) (fail : ℕ → Option ℕ) (seen : List Shown) → Run w (if_failing o (λ code. event.Process c key (load code) calls (fail code) ∷ [])) seen after → is_proper seen ≡ true
      → HasLine w after (if_coded o (λ code. run_line c (load code) calls (fail code))) seen
  process_fails None load fail [] run proper = absurd (true≢false (sym proper))
  process_fails None load fail (s ∷ seen) run proper = absurd run
  process_fails (Some code) load fail seen run proper = process_plays (load code) (fail code) seen run proper

  pub act_plays : IsFree w → (a : Act) → is_begin a ≡ false → (seen : List Shown) → Run w (act_events f c key calls a) seen after → is_proper seen ≡ true → HasLine w after (act_line f c calls a) seen
  act_plays free act.Begin begins seen run proper = absurd (true≢false begins)
  act_plays free act.Read begins seen run proper = read_plays seen run proper
  act_plays free act.LoadFails begins seen run proper = fails_plays f.load seen run proper
  act_plays free act.Process begins seen run proper = process_plays source.Store None seen run proper
  act_plays free act.ProcessLoadFails begins seen run proper = process_fails f.load (λ code. source.Failing code) (λ code. None) seen run proper
  act_plays free act.ProcessFails begins seen run proper = process_fails f.process (λ code. source.Store) (λ code. Some code) seen run proper
  act_plays free act.Write begins seen run proper = write_plays seen run proper
  act_plays free act.WriteFails begins seen run proper = write_fails_plays f.write seen run proper
  act_plays free act.WriteLies begins seen run proper = lies_plays f.lie seen run proper
  act_plays free act.Commit begins seen run proper = commit_plays seen run proper
  act_plays free act.PickUp begins seen run proper = pick_up_plays free seen run proper
