-- Each event leads from a sound world to a sound one, and so does each run.
use Rattle.jc_world.proofs.Common.{◌≡◌, ℕ, true, false, List, [], ◌∷◌, OnOk, OnErr, Some, Ok, Err, Option, Result, option_map, sym, refl, ap, ◌∙◌, subst, inl, inr, and_parts, Refusal, WriterFailed, Bytes, entry_at, is_load_given, WriteAnswer, StaysReached, KeepsReserved, Part, Shown, WorldEvent, CallState, with_met_by, after_report, keys_reported, after_reopening, Happens, Step, Run, fits, read_answer, load_from, report_for, AllDue, Each, Sweeps, IsSoundWorld, WorldState, open_call, part_of, has_progress, waits_for_load, waits_for_report, with_stored, reported_now}
use Rattle.jc_world.proofs.Lemmas.{HasParts, sound, order_met, order_part, order_happens, order_opened, key_change, each_report, IsWhole, KeyChange, KeyEvent, plain, dropping, end_event, worn_out, invalid_event, order_stored, Drop}
use Rattle.jc_world.proofs.Callers.{order_key, order_dropped}
use Rattle.jc_world.proofs.Joins.{joins_met, joins_parted, joins_happens, joins_stored, joins_key, joins_dropped}
use Rattle.jc_world.proofs.Dues.{dues_reported, dues_happens, dues_key}
use Rattle.jc_world.proofs.Sweeps.{sweeps_met, sweeps_happens, sweeps_key}
use Rattle.jc_world.proofs.Kept.{parts_half, parts_processed, parts_called, parts_answered, parts_changed, parts_reported, parts_disturbed, parts_stored, parts_left, parts_over, parts_key, parts_dropped, parts_worn}
use Rattle.jc_world.proofs.WriterBatches.{asked_waits}
use Rattle.jc_world.proofs.Opened.{sound_opening}
use Rattle.jc_world.proofs.Reopening.{reopened_opens}

-- the writer has returned for a key
sound_reported : (w : WorldState) (call : ℕ) (key : Bytes) (part : Part) (report : WriteAnswer) → part_of w call key ≡ Some part → waits_for_report part ≡ true → IsSoundWorld w → IsSoundWorld (after_report w key part report)
sound_reported w call key part report at waits h =
    sound (after_report w key part report) (order_part w call key part _ _ w.store w.foreign at refl h) (parts_reported w call key part report at (ap (has_progress waits_for_report) at ∙ waits) h) (dues_reported w call key part report at h.due)
    (joins_parted w call key part _ _ w.store w.foreign at refl h) h.sweeps

-- a call has met something
sound_met : (w : WorldState) (call : ℕ) (met : Option Refusal) (u : CallState) → open_call w call ≡ Some u → IsSoundWorld w → IsSoundWorld (with_met_by w call met)
sound_met w call met u here h = sound (with_met_by w call met) (order_met w call met u here h) (parts_over w call u (with_met_by w call met).calls here h) h.due (joins_met w call met u here h) (sweeps_met w call met u here h.sweeps)

-- a change at a key
pub sound_change : StaysReached → (w new : WorldState) (e : WorldEvent) (key : Bytes) (seen : Shown) → KeyChange w new e key seen → fits w e ≡ true → IsSoundWorld w → IsSoundWorld new
sound_change stays w new e key seen k fit h =
    sound new (order_key stays w new e key seen k fit h) (parts_key w new e key seen k fit h) (dues_key w new e key seen k h.due) (joins_key w new e key seen k fit h) (sweeps_key w new e key seen k h.sweeps)

-- the entry of an invalidated key is evicted
pub sound_dropped : StaysReached → (w mid new : WorldState) (key : Bytes) → Drop w mid new key → IsSoundWorld w → IsSoundWorld mid → IsSoundWorld new
sound_dropped stays w mid new key d was h =
    sound new (order_dropped stays w mid new key d was h) (parts_dropped w mid new key d h) (subst (λ v. AllDue v.config v.parts) (sym d.is) h.due) (joins_dropped w mid new key d h)
    (subst (λ v. Each (Sweeps v.config) v.calls) (sym d.is) h.sweeps)

pub sound_event : StaysReached → (w new : WorldState) (e : WorldEvent) (key : Bytes) (seen : Shown) → KeyEvent w new e key seen → fits w e ≡ true → IsSoundWorld w → IsSoundWorld new
sound_event stays w new e key seen (plain k) fit h = sound_change stays w new e key seen k fit h
sound_event stays w new e key seen (dropping mid shown k tells d end) fit h = sound_dropped stays w mid new key d h (sound_change stays w mid e key shown k fit h)

-- no world is fresh after an invalidation
pub sound_worn : (w : WorldState) → IsSoundWorld w → IsSoundWorld (worn_out w)
sound_worn w h = sound (worn_out w) (order_stored w w.store w.foreign w.premises false h) (parts_worn w h) h.due (joins_stored w w.store w.foreign w.premises false h) h.sweeps

-- for all keys that it returns for; an end, and an invalidation; and the cache was opened again
sound_whole : StaysReached → (w new : WorldState) (e : WorldEvent) (seen : Shown) → fits w e ≡ true → Happens w e seen new → IsSoundWorld w → IsWhole e → IsSoundWorld new
sound_whole stays w new (WorldEvent.Report call left fault) seen fit h old back =
    let answer = report_for h.0.kind left fault in
    let met = option_map WriterFailed fault in
    subst IsSoundWorld (sym h.3)
    (each_report IsSoundWorld call answer (λ v key part at waits o. sound_reported v call key part (answer key) at waits o) (with_met_by w call met) (keys_reported (reported_now w call h.0)) (sound_met w call met h.0 h.1 old))
sound_whole stays w new (WorldEvent.Commit call key) seen fit h old back = let k = end_event w new (WorldEvent.Commit call key) seen refl fit h old in sound_event stays w new (WorldEvent.Commit call key) k.0 seen k.1 fit old
sound_whole stays w new (WorldEvent.Withdraw call key) seen fit h old back = let k = end_event w new (WorldEvent.Withdraw call key) seen refl fit h old in sound_event stays w new (WorldEvent.Withdraw call key) k.0 seen k.1 fit old
sound_whole stays w new (WorldEvent.Invalidate key) seen fit h old back =
    let k = invalid_event w new key seen fit h in
    subst IsSoundWorld (sym k.2) (sound_worn k.0 (sound_event stays w k.0 (WorldEvent.Invalidate key) key seen k.1 fit old))
sound_whole stays w new (WorldEvent.Reopen config) seen fit h old back = subst IsSoundWorld (sym h.1) (sound_opening (after_reopening config w) (reopened_opens w config old fit))
sound_whole stays w new e seen fit h old back = absurd back

parts_happens : (w new : WorldState) (e : WorldEvent) (seen : Shown) → fits w e ≡ true → Happens w e seen new → (IsWhole e → IsSoundWorld new) → IsSoundWorld w → HasParts new
parts_happens w new (WorldEvent.Call call session command) seen fit (shows, is) back h = subst HasParts (sym is) (parts_called w call session command fit h)
parts_happens w new (WorldEvent.Look call stripe) seen fit (u, sweep, there, sweeps, from, at, keys, are, shows, is) back h = subst HasParts (sym is) (parts_over w call u _ there h)
parts_happens w new (WorldEvent.Read call key) seen fit (part, there, shows, is) back h = subst HasParts (sym is) (parts_answered w call key part (read_answer (entry_at w.store key)) there fit h)
parts_happens w new (WorldEvent.Say call key answer) seen fit (part, there, shows, is) back h =
    subst HasParts (sym is) (parts_answered w call key part answer there ((and_parts (is_load_given answer) (has_progress waits_for_load (part_of w call key)) fit).1) h)
parts_happens w new (WorldEvent.Process call key source calls fail) seen fit (part, there, shows, is) back h =
    subst HasParts (sym is) (parts_processed w key call part (load_from source (entry_at w.store key)) calls fail there fit h)
parts_happens w new (WorldEvent.Change call key) seen fit (part, change, there, asked, shows, is) back h = subst HasParts (sym is) (parts_changed w call key part change there asked (asked_waits w call key fit) h)
parts_happens w new (WorldEvent.Report call left fault) seen fit happens back h = parts_half new (back tt)
parts_happens w new (WorldEvent.Leave call) seen fit (shows, is) back h = subst HasParts (sym is) (parts_left w call fit h)
parts_happens w new (WorldEvent.Foreign key value) seen fit (shows, is) back h = subst HasParts (sym is) (parts_disturbed w key value h)
parts_happens w new (WorldEvent.Commit call key) seen fit h back old = parts_half new (back tt)
parts_happens w new (WorldEvent.Withdraw call key) seen fit h back old = parts_half new (back tt)
parts_happens w new (WorldEvent.Invalidate key) seen fit h back old = parts_half new (back tt)
parts_happens w new (WorldEvent.Reopen config) seen fit h back old = parts_half new (back tt)
parts_happens w new e seen fit h back old = let k = key_change w new e seen refl h in parts_key w new e k.0 seen k.1 fit old

-- what the stripes below keep
pub record Laws : Type 0 where
  pub stays : StaysReached
  pub kept : KeepsReserved

pub sound_step : Laws → (old : WorldState) (e : WorldEvent) (seen : Shown) (new : WorldState) → Step old e seen new → IsSoundWorld old → IsSoundWorld new
sound_step laws old e seen new (inl (fit, happens)) h =
    let back = sound_whole laws.stays old new e seen fit happens h in
    sound new (order_happens laws.stays old new e seen fit happens back h) (parts_happens old new e seen fit happens back h) (dues_happens old new e seen fit happens h.due) (joins_happens old new e seen fit happens back h) (sweeps_happens old new e seen fit happens back h)
sound_step laws old e seen new (inr (unfit, shows, is)) h = subst IsSoundWorld (sym is) h

pub sound_run : Laws → (old new : WorldState) (es : List WorldEvent) (ss : List Shown) → Run old es ss new → IsSoundWorld old → IsSoundWorld new
sound_run laws old new [] [] run h = subst IsSoundWorld (sym run) h
sound_run laws old new (e ∷ es) (s ∷ ss) (mid, step, rest) h = sound_run laws mid new es ss rest (sound_step laws old e s mid step h)
sound_run laws old new es ss run h = absurd run

pub sound_stored : (w : WorldState) (key value : Bytes) → w.is_fresh ≡ true → IsSoundWorld w → IsSoundWorld (with_stored w key value)
sound_stored w key value none h = sound (with_stored w key value) (order_opened w key value h) (parts_stored w key value none h) h.due (joins_stored w (with_stored w key value).store w.foreign w.premises w.is_fresh h) h.sweeps

pub sound_set : {A E : Type 0} (r : Result A E) (old new : WorldState) (key value : Bytes) → OnOk r (new ≡ with_stored old key value) → OnErr r (new ≡ old) → old.is_fresh ≡ true → IsSoundWorld old → IsSoundWorld new
sound_set (Ok x) old new key value ok err fresh h = subst IsSoundWorld (sym ok) (sound_stored old key value fresh h)
sound_set (Err e) old new key value ok err fresh h = subst IsSoundWorld (sym err) h
