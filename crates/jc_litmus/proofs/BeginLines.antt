-- The line by which an item begins plays its events.
--     BeginsCall, begins_call    a call and its first phase
--     foreign_plays              the write of another program
--     invalidate_plays           an invalidation
use Rattle.jc_litmus.proofs.Common.{[], and_from, and_parts, ap, Bool, Bytes, cond, false, List, None, not, Option, refl, Some, subst, sym, true, ℕ, ◌&&◌, ◌++◌, ◌∙◌, ◌∷◌, ◌≡◌}
use Rattle.std.specs.Prelude.{find, if◌then◌else◌, length, nat_lt}
use Rattle.std.specs.Option.{option_or}
use Rattle.std.proofs.Common.{eq-eqb}
use Rattle.std.proofs.lemmas.List.Folds.{find-append}
use Rattle.jc_types.specs.Limits.{is_session}
use Rattle.jc_model.specs.declared.event.Op.{Op}
use Rattle.jc_world.specs.Calls.{CallState, has_number, new_call}
use Rattle.jc_world.specs.Events.{Happens, with_call}
use Rattle.jc_world.specs.Fits.{fits, is_new, is_playable}
use Rattle.jc_world.specs.Runs.{Run}
use Rattle.jc_world.specs.World.{is_busy, open_call, WorldState}
use Rattle.jc_world.specs.declared.command.Command.TheVariants as command
use Rattle.jc_world.specs.declared.event.Shown.{Shown}
use Rattle.jc_world.specs.declared.event.WorldEvent.{WorldEvent}
use Rattle.jc_world.specs.declared.event.WorldEvent.TheVariants as event
use Rattle.jc_explore.specs.Schedule.{are_going_on, is_going_on, is_proper}
use Rattle.jc_text.specs.Printing.{texts}
use Rattle.jc_text.specs.declared.fault.Fault.TheVariants.{CallerBusy, NotNow, NotRising}
use Rattle.jc_text.specs.declared.read.line.Line.TheVariants.{Begin, Foreign, Invalidate}
use Rattle.jc_script.specs.LineEvents.{start_events}
use Rattle.jc_script.specs.Transcript.{PlaysBegin, PlaysEvents}
use Rattle.jc_litmus.specs.Playing.{IsPlayedAs}
use Rattle.jc_litmus.proofs.MoveLines.{all_fit_going, step_fits}

pub record BeginsCall (w after : WorldState) (n session : ℕ) (op : Op) (key : Bytes) (seen : List Shown) : Type 0 where
  pub played : IsPlayedAs w (Begin n session (record { op = op; key = key })) seen after
  pub mid : WorldState
  pub mid_is : mid ≡ with_call w (new_call n session (command.Single op key))
  pub second : Shown
  pub fit : fits mid (event.Start n key) ≡ true
  pub happens : Happens mid (event.Start n key) second after

-- the call is the first with its number
call_found : (w : WorldState) (n session : ℕ) (op : Op) (key : Bytes) → find (has_number n) w.calls ≡ None → open_call (with_call w (new_call n session (command.Single op key))) n ≡ Some (new_call n session (command.Single op key))
call_found w n session op key none =
    let u : CallState = new_call n session (command.Single op key) in
    find-append (has_number n) w.calls (u ∷ []) ∙ (λ i. option_or (none i) (cond (eq-eqb n n refl i) (Some u) None))

pub begins_call : (w after : WorldState) (n session : ℕ) (op : Op) (key : Bytes) (seen : List Shown) → find (has_number n) w.calls ≡ None
    → Run w (event.Call n session (command.Single op key) ∷ event.Start n key ∷ []) seen after → is_proper seen ≡ true → BeginsCall w after n session op key seen
begins_call w after n session op key [] none run proper = absurd run
begins_call w after n session op key (s ∷ []) none (mid, step, rest) proper = absurd rest
begins_call w after n session op key (s ∷ t ∷ []) none (mid, step, (last, other, rest)) proper =
    let parts = and_parts (is_going_on s.outcome) (is_going_on t.outcome && true) proper in
    let first = step_fits w mid (event.Call n session (command.Single op key)) s parts.0 step in
    let more = and_parts (is_going_on t.outcome) true parts.1 in
    let second = step_fits mid last (event.Start n key) t more.0 other in
    let here : open_call mid n ≡ Some _ = ap (λ (x : WorldState). open_call x n) first.1.1 ∙ call_found w n session op key none in
    let starts : start_events mid n (open_call mid n) ≡ event.Start n key ∷ [] = ap (start_events mid n) here in
    let own : List WorldEvent = start_events mid n (open_call mid n) in
    let free = and_parts (is_playable (command.Single op key) && is_session session && is_new w.last n) (not (is_busy w session)) first.0 in
    let rises = (and_parts (is_playable (command.Single op key) && is_session session) (is_new w.last n) free.0).1 in
    let opening : List ℕ = texts (event.Call n session (command.Single op key) ∷ []) (s ∷ []) in
    let started : List ℕ = texts own (t ∷ []) in
    let begins : PlaysBegin w n session (command.Single op key) (opening ++ started) (Some after) = record {
      opening = opening;
      begun = mid;
      started = started;
      after = after;
      opens = record { seen = s ∷ []; runs = (mid, step, refl); fit = all_fit_going (s ∷ []) (and_from _ _ parts.0 refl); text_is = refl };
      starts = record { seen = t ∷ []; runs = subst (λ (es : List WorldEvent). Run mid es (t ∷ []) after) (sym starts) (last, other, rest); fit = all_fit_going (t ∷ []) parts.1; text_is = refl };
      text_is = refl;
      new_is = refl;
    } in
    let P : WorldState → Type 0 = λ x. Happens mid (event.Start n key) t x in
    record {
      played = record {
        right = (λ i. if rises i then (if is_idle (is_busy w session) free.1 i then Some CallerBusy else None) else Some NotRising);
        text = opening ++ started;
        plays = begins;
        shows = refl;
      };
      mid = mid;
      mid_is = first.1.1;
      second = t;
      fit = second.0;
      happens = subst P (sym rest) second.1;
    }
  where
    is_idle : (b : Bool) → not b ≡ true → b ≡ false
    is_idle true h = cc
    is_idle false h = refl
begins_call w after n session op key (s ∷ t ∷ r ∷ seen) none (mid, step, (last, other, rest)) proper = absurd rest

pub foreign_plays : (w after : WorldState) (key : Bytes) (value : Option Bytes) (seen : List Shown) → Run w (event.Foreign key value ∷ []) seen after → is_proper seen ≡ true → IsPlayedAs w (Foreign key value) seen after
foreign_plays w after key value [] run proper = absurd run
foreign_plays w after key value (s ∷ seen) run proper =
    let events : PlaysEvents w (event.Foreign key value ∷ []) (texts (event.Foreign key value ∷ []) (s ∷ seen)) after = record { seen = s ∷ seen; runs = run; fit = all_fit_going (s ∷ seen) (and_parts (nat_lt 0 (length (s ∷ seen))) (are_going_on (s ∷ seen)) proper).1; text_is = refl } in
    record { right = refl; text = texts (event.Foreign key value ∷ []) (s ∷ seen); plays = events; shows = refl }

pub invalidate_plays : (w after : WorldState) (key : Bytes) (seen : List Shown) → Run w (event.Invalidate key ∷ []) seen after → is_proper seen ≡ true → IsPlayedAs w (Invalidate key) seen after
invalidate_plays w after key [] run proper = absurd run
invalidate_plays w after key (s ∷ seen) (mid, step, rest) proper =
    let going = (and_parts (nat_lt 0 (length (s ∷ seen))) (are_going_on (s ∷ seen)) proper).1 in
    let fit = (step_fits w mid (event.Invalidate key) s (and_parts (is_going_on s.outcome) (are_going_on seen) going).0 step).0 in
    let events : PlaysEvents w (event.Invalidate key ∷ []) (texts (event.Invalidate key ∷ []) (s ∷ seen)) after = record { seen = s ∷ seen; runs = (mid, step, rest); fit = all_fit_going (s ∷ seen) going; text_is = refl } in
    record { right = ap (λ b. if b then None else Some NotNow) fit; text = texts (event.Invalidate key ∷ []) (s ∷ seen); plays = events; shows = refl }
