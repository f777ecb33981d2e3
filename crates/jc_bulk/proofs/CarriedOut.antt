-- A whole bulk call, from its rounds.
--     own_room        the memory for a call of this kind is that for its keys
--     begun           what a call has behind it before its first round
--     first_run       before its first round
--     none_failed     without a cause no key failed
--     ends_so         after the last round the call is carried out
--     got_of          a call that gets, by the keys that it was given
--     few_of          a call with no more keys than may be, by the keys that it was given
use Rattle.jc_bulk.proofs.Common.{IndexMap, DoesAll, GetsAll, IsBulkCall, OrNoMemory, OrRefused, TellsFound, causes_of, IsRoomOf, IsRoomOfCall, BulkBehavior, KeysAskAs, RunsOn, BulkFault, OutsideKind, CacheState, MayCall, Session, Bytes, Op, carried_out, failures_are, none_run, opens_call, KeyEnd, failed_entries, found_entries, key_ends, IsCauseIn, Round, faults_in, HasRun, ops_of, IsNew, IsOver, CallPast, BulkCall, KeyProgress, Refusal, ◌≡◌, ◌==◌, inl, ◌≤◌, ◌++◌, ℕ, List, [], ◌∷◌, length, map, Option, None, Some, IfNone, Result, refl, sym, ap, subst, ◌∙◌, pointwise, Vec, IsDistinct, keys_of}
use Rattle.jc_types.specs.declared.limits.TheConstants.{BULK_KEYS_MAX}
use Rattle.jc_session.specs.Sessions.{next_call}
use Rattle.jc_rounds.specs.declared.targets.Targets.{Targets}
use Rattle.jc_bulk.specs.declared.carrying.BulkRoom.{BulkRoom}

pub own_room : (kind : OutsideKind) (n stripes own : ℕ) (room : BulkRoom) (ops : List (Bytes × Op)) → IsRoomOf kind n stripes room → n ≡ length ops → stripes ≡ own → IsDistinct (pointwise ◌==◌) (keys_of ops) × KeysAskAs kind ops → IsRoomOfCall ops own room
own_room kind n stripes own room ops is keys same each =
    let kind_is : kind ≡ room.outside.kind = sym (ap (λ s. s.kind) is.outside) in
    record {
      distinct = each.0;
      room_is = subst (λ k. IsRoomOf k (length ops) own room) kind_is (subst (λ m. IsRoomOf kind (length ops) m room) same (subst (λ m. IsRoomOf kind m stripes room) keys is));
      asks = subst (λ k. KeysAskAs k ops) kind_is each.1;
    }

none_first : (failed : List (Bytes × Refusal)) (faults : List Refusal) → map (λ (e : Bytes × Refusal). e.1) failed ++ faults ≡ [] → failed ≡ []
none_first [] faults is = refl
none_first (e ∷ failed) faults is = cc

pub none_failed : (cause : Option Refusal) (ends : List KeyEnd) (rounds : List Round) (failed : List (Bytes × Refusal)) → failed ≡ failed_entries ends → IsCauseIn cause (causes_of ends rounds) → IfNone cause (failed ≡ [])
none_failed None ends rounds failed are met = are ∙ none_first (failed_entries ends) (faults_in rounds) met
none_failed (Some cause) ends rounds failed are met = tt

module _ {I J : Type 0} {D : I → Type 0} {E : J → Type 0} where
  abbrev pub begun : Session I J D E → CallPast
  begun old = record { caller = (next_call old).agent.caller; first = old.seats.items; rounds = [] }

  pub first_run : (cache : CacheState) (old next : Session I J D E) (targets : Targets) (call : BulkCall) → MayCall cache old → IsDistinct (pointwise ◌==◌) (keys_of (ops_of targets)) → IsNew targets cache.config.stripes call → next ≡ next_call old → HasRun cache (begun old) next call
  first_run cache old next targets call may distinct new is = subst (λ s. HasRun cache (begun old) s call) (sym is) (none_run cache (begun old) (next_call old) call refl refl (opens_call cache old targets call may distinct new))

module _ {I J : Type 0} {D : I → Type 0} {E : J → Type 0} (behavior : BulkBehavior ((i : I) × D i) ((j : J) × E j)) where
  ends_so : (cache : CacheState) (old new : Session I J D E) (call later : BulkCall)
      → IsOver later → RunsOn behavior cache (begun old) (next_call old) call new later
      → IsBulkCall behavior cache old (ops_of later.targets.now) (key_ends (ops_of later.targets.now) later.progress.items) later.cause new
  ends_so cache old new call later over runs =
      let carried = carried_out cache (record { caller = (next_call old).agent.caller; first = old.seats.items; rounds = runs.rounds }) old new later refl refl over runs.agent runs.run in
      record {
        rounds = runs.rounds;
        carried = carried.0;
        asked = record { calls = runs.asked.calls; types = runs.asked.types };
        met = subst (λ rs. IsCauseIn later.cause (rs ++ faults_in runs.rounds)) (sym (failures_are (ops_of later.targets.now) later.progress.items runs.run.between.on.under.so_far.many)) runs.run.between.cause;
        first = carried.1;
      }

  pub ends_for : (cache : CacheState) (old next new : Session I J D E) (targets : Targets) (call later : BulkCall) (progress : Vec KeyProgress) (cause : Option Refusal) → next ≡ next_call old → call.targets.now ≡ targets → progress ≡ later.progress → cause ≡ later.cause
      → IsOver later → RunsOn behavior cache (begun old) next call new later
      → IsBulkCall behavior cache old (ops_of targets) (key_ends (ops_of targets) progress.items) cause new
  ends_for cache old next new targets call later progress cause next_is targets_are progress_is cause_is over runs =
      let e = ends_so cache old new call later over (subst (λ s. RunsOn behavior cache (begun old) s call new later) next_is runs) in
      subst (λ t. IsBulkCall behavior cache old (ops_of t) (key_ends (ops_of t) progress.items) cause new) (ap (λ t. t.now) runs.targets ∙ targets_are)
      (subst (λ (p : Vec KeyProgress). IsBulkCall behavior cache old (ops_of later.targets.now) (key_ends (ops_of later.targets.now) p.items) cause new) (sym progress_is)
      (subst (λ o. IsBulkCall behavior cache old (ops_of later.targets.now) (key_ends (ops_of later.targets.now) later.progress.items) o new) (sym cause_is) e))

  pub few_of : (cache : CacheState) (old new : Session I J D E) (targets same : List (Bytes × Op)) (keys : ℕ) (result : Result (Unit {0}) BulkFault) → targets ≡ same → keys ≤ BULK_KEYS_MAX
      → OrNoMemory (DoesAll behavior cache old targets) old result new → OrRefused (DoesAll behavior cache old same) keys old result new
  few_of cache old new targets same keys result is few h = inl (few, subst (λ ts. OrNoMemory (DoesAll behavior cache old ts) old result new) is h)

  pub got_of : {S : Type 0} (cache : CacheState) (old new : Session I J D E) (targets same : List (Bytes × Op)) (result : Result (IndexMap Bytes Bytes S) BulkFault) (ends : List KeyEnd) (cause : Option Refusal) → targets ≡ same
      → IsBulkCall behavior cache old targets ends cause new → TellsFound result cause (failed_entries ends) (found_entries ends)
      → GetsAll behavior cache old same result new
  got_of cache old new targets same result ends cause is call told = (ends, cause, subst (λ ts. IsBulkCall behavior cache old ts ends cause new) is call, told)
