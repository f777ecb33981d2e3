use Rattle.jc_world.proofs.Common.{◌≡◌, inl, inr, sym, subst, cached_entry, Reservation}
use Rattle.jc_world.proofs.Opened.{sound_opening}
use Rattle.jc_world.proofs.OverCalls.{IsOver, past_part, over_part}
use Rattle.jc_world.proofs.ReservedEntries.{stay_run, stays_held}
use Rattle.jc_world.proofs.Sounding.{Laws, sound_run}
use Rattle.jc_world.proofs.reserved.entry_stays.Goals as goal

pub returns : goal.returns
returns c = λ opening before after seen_before seen_after old new key was is (opens, run_before) run_after there_before there_after same.
    let laws : Laws = record { stays = c.stays_reached.ensures; kept = c.keeps_reserved.ensures } in
    let sound_old = sound_run laws opening old before seen_before run_before (sound_opening opening opens) in
    let sound_new = sound_run laws old new after seen_after run_after sound_old in
    let call = was.reservation.caller.call in
    elim (stay_run laws call old new after seen_after run_after sound_old (past_part old key was there_before sound_old)) as (λ s. cached_entry new key ≡ cached_entry old key) [
      | (inl stay) ↦ stays_held old new key was is there_before there_after same sound_old sound_new stay
      | (inr over) ↦ absurd (over_part new key is there_after sound_new (subst (λ (r : Reservation). IsOver r.caller.call new) (sym same) over))
    ]
