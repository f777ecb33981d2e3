-- The cause that a call tells is one of the first that it met.
--     first_kept    so it stays when the call goes on
--     first_more    and by one round more
use Rattle.jc_rounds.proofs.Common.{◌≡◌, ◌⊎◌, ⊎_elim, inl, inr, ◌++◌, ℕ, zero, suc, List, [], ◌∷◌, length, append-nil, append_assoc, Option, None, Some, Result, Ok, Err, slice_get, refl, sym, ap, ◌∙◌, subst, arith, same_Some, IsAmong, Caller, Config, Refusal, Bytes, Step, Op, Out, Reply, KeyProgress, Waiting, Reserved, Joined, Ended, HasFailed, HasMet, HasRefused, IsFirst, IsCauseIn, KeepsCause, failures, refusal_in, EndsKey, IsAt, Round, faults_in, view_of, IsSoFar, RoundEnd, rounds_asked}
use Rattle.jc_model.specs.declared.event.Reply.TheVariants as reply
use Rattle.jc_rounds.proofs.Asked.{among_there, place_among, some_there}
use Rattle.jc_rounds.proofs.Failures.{among_after, among_either, ended_there, failed_there}
use Rattle.jc_rounds.proofs.SeatPhases.{Seated}
use Rattle.jc_rounds.proofs.SoFar.{among_more}

same_reply : (caller : Caller) (op op' : Op) (key : Bytes) (out out' : Out) (shared shared' : Option ℕ) (r r' : Reply) → Step caller op key out shared r ∷ [] ≡ Step caller op' key out' shared' r' ∷ [] → r ≡ r'
same_reply caller op op' key out out' shared shared' r r' is = cc

target_there : (ps : List KeyProgress) (targets : List (Bytes × Op)) (place : ℕ) (p : KeyProgress) → length targets ≡ length ps → slice_get ps place ≡ Some p → (t : Bytes × Op) × (slice_get targets place ≡ Some t)
target_there [] targets place p many there = cc
target_there (q ∷ ps) [] place p many there = cc
target_there (q ∷ ps) (t ∷ targets) zero p many there = (t, refl)
target_there (q ∷ ps) (t ∷ targets) (suc place) p many there = target_there ps targets place p (omega (arith, many)) there

module _ (config : Config) (caller : Caller) (targets : List (Bytes × Op)) where
  -- a key's fault that the session has seen is a failure
  failed_so : (rounds : List Round) (first now : List Seated) (ps : List KeyProgress) (fault : Refusal) → IsSoFar config caller config.stripes targets rounds first now ps → HasFailed config caller targets now fault → IsAmong (failures ps) fault
  failed_so rounds first now ps fault so (key, op, out, shared, among, one) =
      let at = place_among targets (key, op) among in
      let p = some_there targets ps at.0 (key, op) so.many at.2 in
      by at.0 p.0 p.1 (so.each at.0 key op p.0 at.2 p.1)
    where
      by : (place : ℕ) (p : KeyProgress) → slice_get ps place ≡ Some p → IsAt config caller rounds (view_of config.stripes first key) (view_of config.stripes now key) key op p → IsAmong (failures ps) fault
      by place Waiting there none = (let bad = sym one ∙ none in cc)
      by place Reserved there none = (let bad = sym one ∙ none in cc)
      by place Joined there none = (let bad = sym one ∙ none in cc)
      by place (Ended (Err refusal)) there ended = (let bad = sym one ∙ ended.0 in cc)
      by place (Ended (Ok r)) there ended =
          let same : r ≡ reply.Fault fault = same_reply caller op op key ended.out out ended.shared_with shared r (reply.Fault fault) (sym ended.one ∙ one) in
          failed_there ps place (Ok r) fault there (ap (λ (x : Reply). refusal_in (Ok x)) same)

  -- a failure is a key's fault that the session has seen, or a refusal in which the key has ended
  so_failed : (rounds : List Round) (first now : List Seated) (ps : List KeyProgress) (fault : Refusal) → IsSoFar config caller config.stripes targets rounds first now ps → IsAmong (failures ps) fault → HasRefused config caller targets first rounds now fault ⊎ HasFailed config caller targets now fault
  so_failed rounds first now ps fault so among =
      let e = ended_there ps fault among in
      let t = target_at e.0 e.1 e.2 in
      by t.0 t.1 e.1 (among_there targets e.0 (t.0, t.1) t.2) e.3 (so.each e.0 t.0 t.1 (Ended e.1) t.2 e.2)
    where
      target_at : (place : ℕ) (e : Result Reply Refusal) → slice_get ps place ≡ Some (Ended e) → (key : Bytes) × (op : Op) × (slice_get targets place ≡ Some (key, op))
      target_at place e there = let t = target_there ps targets place (Ended e) (sym so.many) there in (t.0.0, t.0.1, t.1)

      by : (key : Bytes) (op : Op) (e : Result Reply Refusal) → IsAmong targets (key, op) → refusal_in e ≡ Some fault → EndsKey config caller rounds (view_of config.stripes first key) (view_of config.stripes now key) key op e
          → HasRefused config caller targets first rounds now fault ⊎ HasFailed config caller targets now fault
      by key op (Err refusal) there is ended =
          let same : refusal ≡ fault = same_Some refusal fault is in
          inl (key, op, there, subst (λ r. EndsKey config caller rounds (view_of config.stripes first key) (view_of config.stripes now key) key op (Err r)) same ended)
      by key op (Ok (reply.Fault f)) there is ended =
          let same : f ≡ fault = same_Some f fault is in
          inr (key, op, ended.out, ended.shared_with, there, ended.one ∙ ap (λ x. Step caller op key ended.out ended.shared_with (reply.Fault x) ∷ []) same)
      by key op (Ok (reply.Value value)) there is ended = cc
      by key op (Ok (reply.Flag flag)) there is ended = cc
      by key op (Ok reply.Unit) there is ended = cc

  -- between two rounds
  told_now : (rounds : List Round) (first now : List Seated) (ps : List KeyProgress) (cause : Option Refusal) → IsSoFar config caller config.stripes targets rounds first now ps → IsCauseIn cause (failures ps ++ faults_in rounds)
      → (fault : Refusal) → HasMet config caller targets rounds now fault → (f : Refusal) × (cause ≡ Some f) × (HasRefused config caller targets first rounds now f ⊎ HasMet config caller targets rounds now f)
  told_now rounds first now ps cause so noted fault met = by cause noted (among met)
    where
      among : HasMet config caller targets rounds now fault → IsAmong (failures ps ++ faults_in rounds) fault
      among (inl writer) = among_after (failures ps) (faults_in rounds) fault writer
      among (inr key) = among_more (failures ps) (faults_in rounds) fault (failed_so rounds first now ps fault so key)

      by : (c : Option Refusal) → IsCauseIn c (failures ps ++ faults_in rounds) → IsAmong (failures ps ++ faults_in rounds) fault → (f : Refusal) × (c ≡ Some f) × (HasRefused config caller targets first rounds now f ⊎ HasMet config caller targets rounds now f)
      by None none is = absurd (let bad = subst (λ rs. IsAmong rs fault) none is in let near = bad.1.0 in omega arith)
      by (Some f) noted is =
          (f, refl, ⊎_elim (λ key. ⊎_elim (λ refused. inl refused) (λ failed. inr (inr failed)) (so_failed rounds first now ps f so key)) (λ writer. inr (inl writer)) (among_either (failures ps) (faults_in rounds) f noted))

pub first_kept : (config : Config) (caller : Caller) (targets : List (Bytes × Op)) (first : List Seated) (before : List Round) (es : List RoundEnd) (cause later : Option Refusal) → KeepsCause cause later → IsFirst config caller targets first before es cause → IsFirst config caller targets first before es later
first_kept config caller targets first before [] cause later keeps is = tt
first_kept config caller targets first before (e ∷ es) cause later keeps is = (
  λ fault met. let f = is.0 fault met in (f.0, kept cause keeps f.0 f.1, f.2),
  first_kept config caller targets first (before ++ e.calls) es cause later keeps is.1,
)
  where
    kept : (c : Option Refusal) → KeepsCause c later → (f : Refusal) → c ≡ Some f → later ≡ Some f
    kept None keeps f is = cc
    kept (Some c) keeps f is = keeps ∙ is

module _ (config : Config) (caller : Caller) (targets : List (Bytes × Op)) where
  pub first_more : (before : List Round) (es : List RoundEnd) (e : RoundEnd) (rounds : List Round) (first : List Seated) (ps : List KeyProgress) (cause later : Option Refusal) → (before ++ rounds_asked es) ++ e.calls ≡ rounds → KeepsCause cause later
      → IsSoFar config caller config.stripes targets rounds first e.seats ps → IsCauseIn later (failures ps ++ faults_in rounds) → IsFirst config caller targets first before es cause → IsFirst config caller targets first before (es ++ e ∷ []) later
  first_more before [] e rounds first ps cause later is keeps so noted was = (
    λ fault met.
        let here : before ++ e.calls ≡ rounds = ap (λ rs. rs ++ e.calls) (sym (append-nil before)) ∙ is in
        let f = told_now config caller targets rounds first e.seats ps later so noted fault (subst (λ rs. HasMet config caller targets rs e.seats fault) here met) in
        (f.0, f.1, subst (λ rs. HasRefused config caller targets first rs e.seats f.0 ⊎ HasMet config caller targets rs e.seats f.0) (sym here) f.2),
    tt,
  )
  first_more before (x ∷ es) e rounds first ps cause later is keeps so noted was = (
    (first_kept config caller targets first before (x ∷ es) cause later keeps was).0,
    first_more (before ++ x.calls) es e rounds first ps cause later (ap (λ rs. rs ++ e.calls) (append_assoc before x.calls (rounds_asked es)) ∙ is) keeps so noted was.1,
  )
