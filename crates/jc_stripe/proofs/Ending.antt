-- What follows the end of a reservation whose key was invalidated.
--     HasEnded        a last phase is a commit, and then nothing that a session sees; what it tells is that of the commit, but for
--                     the eviction
--     ended           so is each
--     given_back      a withdrawal is one, and then nothing that a session sees
--     ends_from, gives_back_from    how the code makes them
--     end_others      the entries of other keys stay
--     ends_unmarked   without a mark nothing follows
use Rattle.std.proofs.Common.{◌≡◌, ◌==◌, ℕ, List, length, Bool, true, false, cond, Option, None, Some, is_some, refl, sym, ap, ◌∙◌, subst, arith, if◌then◌else◌}
use Rattle.std.specs.Cmp.{eq_by_cmp_equiv}
use Rattle.std.specs.Cmp.Lexicographic.{pointwise}
use Rattle.std.specs.FinMap.{remove, get-remove}
use Rattle.std.proofs.lemmas.List.{length-append}
use Rattle.std.proofs.lemmas.Bool.{le-leb}
use Rattle.std.proofs.lemmas.Cmp.{nat_list_cmp_total, nat_list_eq_equiv}
use Rattle.jc_types.specs.declared.caller.Caller.{Caller}
use Rattle.jc_model.specs.declared.event.Cause.{Cause}
use Rattle.jc_model.specs.declared.event.Cause.TheVariants.{Invalidated}
use Rattle.jc_model.specs.declared.event.Event.{Event}
use Rattle.jc_model.specs.declared.event.Out.{Out}
use Rattle.jc_model.specs.declared.event.Reply.{Reply}
use Rattle.jc_model.specs.Cache.{Bytes, Cache, entry_at}
use Rattle.jc_model.specs.Group.{Group, events_of, without_own, cache_after_step}
use Rattle.jc_model.proofs.CallerLemmas.{get-without}
use Rattle.jc_inflight.specs.Joining.{callers_of}
use Rattle.jc_stripe.specs.declared.ticket.Reservation.{Reservation}
use Rattle.jc_stripe.specs.Outcomes.{StepDone}
use Rattle.jc_stripe.specs.declared.begun.Appended.{Appended}
use Rattle.jc_stripe.specs.State.{State, is_reserved, is_marked}
use Rattle.jc_stripe.specs.Phases.{new_group, after_commit, Commits, Withdraws, after_withdrawal, with_reply}
use Rattle.jc_stripe.specs.Reached.{IsReached}
use Rattle.jc_stripe.specs.Invalidating.{has_place, without_entry, is_dropped, end_with, told_drop, Ends, GivesBack}
use Rattle.jc_stripe.proofs.Beside.{none_left}
use Rattle.jc_stripe.proofs.Reaching.{reached_commits}
use Rattle.jc_stripe.proofs.Settled.{one_less_claimed, count_left}
use Rattle.jc_stripe.proofs.Settling.{IsQuiet, quiet_end}
use Rattle.jc_stripe.proofs.Stepped.{two_events}
use Rattle.jc_stripe.proofs.Tables.{reached_withdrawn, count-dissolved}

-- 1. A place is left for the entry's eviction.

-- an entry that is there was not evicted
not_gone : (cache : Cache) (key : Bytes) (evicted : Option Cause) → is_some (entry_at (without_own cache key evicted) key) ≡ true → evicted ≡ None
not_gone cache key None h = refl
not_gone cache key (Some cause) h =
    let gone : entry_at (remove cache key) key ≡ None = get-remove nat_list_cmp_total cache key key ∙ ap (λ b. cond b None (entry_at cache key)) ((eq_by_cmp_equiv nat_list_cmp_total).refl key) in
    let bad : is_some {T = Bytes} None ≡ true = ap is_some (sym gone) ∙ h in
    cc

pub commit_place : (old mid : State) (r : Reservation) (out : Out) (done : StepDone) → IsReached old → Commits old r out done mid → is_some (entry_at mid.cache r.key) ≡ true → has_place mid ≡ true
commit_place old mid r out done reached h there =
    let m : State = after_commit old r done.place in
    let callers : List Caller = callers_of r.number old.joiners in
    let g : Group = new_group m r.caller r.key r.op out callers h.1.short in
    let more : List Event = events_of (length old.history) g in
    let kept = not_gone (cache_after_step m.cache g) r.key g.evicted (ap (λ (s : State). is_some (entry_at s.cache r.key)) (sym h.1.after) ∙ there) in
    let few = two_events (length old.history) g kept in
    let less = one_less_claimed old r h.0 in
    let count = count_left r.number done.place old.joiners in
    let room = reached.places in
    let n = length-append old.history more in
    ap has_place h.1.after ∙ le-leb _ _ (omega arith)

-- the reservation is over
pub commit_free : (old mid : State) (r : Reservation) (out : Out) (done : StepDone) → Commits old r out done mid → is_reserved mid r.key ≡ false
commit_free old mid r out done h = ap (λ (s : State). is_reserved s r.key) h.1.after ∙ none_left r.key old.reservations

withdrawn_place : (old : State) (r : Reservation) → IsReached old → Withdraws old r (after_withdrawal old r) → has_place (after_withdrawal old r) ≡ true
withdrawn_place old r reached h =
    let less = one_less_claimed old r h.0 in
    let fewer = count-dissolved r.number old.joiners in
    let room = reached.places in
    le-leb _ _ (omega arith)

pub given_place : (old mid : State) (r : Reservation) → IsReached old → Withdraws old r mid → has_place mid ≡ true
given_place old mid r reached h = ap has_place h.1 ∙ withdrawn_place old r reached (h.0, refl)

pub given_free : (old mid : State) (r : Reservation) → Withdraws old r mid → is_reserved mid r.key ≡ false
given_free old mid r h = ap (λ (s : State). is_reserved s r.key) h.1 ∙ none_left r.key old.reservations

-- 2. The end of a reservation.

pub record HasEnded (old : State) (r : Reservation) (out : Out) (done : StepDone) (new : State) : Type 0 where
  pub mid : State
  pub step : StepDone
  pub commits : Commits old r out step mid
  pub quiet : IsQuiet mid new
  pub reply : done.reply ≡ step.reply
  pub place : done.place ≡ step.place
  pub victim_is : done.victim ≡ step.victim

abbrev told : Bool → ℕ → StepDone → StepDone
told b place step = if b then record step { evicted = Some (record { cause = Invalidated; place = place }) } else step

told_reply : (b : Bool) (place : ℕ) (step : StepDone) → (told b place step).reply ≡ step.reply
told_reply true place step = refl
told_reply false place step = refl

told_place : (b : Bool) (place : ℕ) (step : StepDone) → (told b place step).place ≡ step.place
told_place true place step = refl
told_place false place step = refl

told_victim : (b : Bool) (place : ℕ) (step : StepDone) → (told b place step).victim ≡ step.victim
told_victim true place step = refl
told_victim false place step = refl

-- the victim is that of the commit
pub ended_victim : (old new : State) (r : Reservation) (out : Out) (done : StepDone) (h : Ends old r out done new) → done.victim ≡ h.1.victim
ended_victim old new r out done h = ap (λ (d : StepDone). d.victim) h.3 ∙ told_victim (is_dropped (is_marked old r.key) h.0 r.key) (length h.0.history) h.1

pub ended : (old new : State) (r : Reservation) (out : Out) (done : StepDone) → IsReached old → Ends old r out done new → HasEnded old r out done new
ended old new r out done reached h =
    let mid = h.0 in
    let step = h.1 in
    let b = is_dropped (is_marked old r.key) mid r.key in
    record {
      mid = mid;
      step = step;
      commits = h.2;
      quiet = subst (IsQuiet mid) (sym h.4)
          (quiet_end (is_marked old r.key) mid r.key (reached_commits old mid r out step reached h.2) (commit_free old mid r out step h.2) (commit_place old mid r out step reached h.2));
      reply = ap (λ (d : StepDone). d.reply) h.3 ∙ told_reply b (length mid.history) step;
      place = ap (λ (d : StepDone). d.place) h.3 ∙ told_place b (length mid.history) step;
      victim_is = ap (λ (d : StepDone). d.victim) h.3 ∙ told_victim b (length mid.history) step;
    }

pub given_back : (old new : State) (r : Reservation) → IsReached old → GivesBack old r new → (mid : State) × Withdraws old r mid × IsQuiet mid new
given_back old new r reached h = (
  h.0,
  h.1,
  subst (IsQuiet h.0) (sym h.2)
      (quiet_end (is_marked old r.key) h.0 r.key (reached_withdrawn old h.0 r reached h.1) (given_free old h.0 r h.1) (λ there. given_place old h.0 r reached h.1)),
)

-- 3. How the code makes them.

with_told : (b : Bool) (place : ℕ) (step : Appended) (reply : Reply)
    → with_reply (if b then record step { evicted = Some (record { cause = Invalidated; place = place }) } else step) reply
    ≡ (if b then record (with_reply step reply) { evicted = Some (record { cause = Invalidated; place = place }) } else with_reply step reply)
with_told true place step reply = refl
with_told false place step reply = refl

pub ends_from : (old mid new : State) (r : Reservation) (key : Bytes) (out : Out) (step done : Appended) (reply : Reply) (marked : Bool) → key ≡ r.key → marked ≡ is_marked old key → Commits old r out (with_reply step reply) mid
    → done ≡ (if is_dropped marked mid key then record step { evicted = Some (record { cause = Invalidated; place = length mid.history }) } else step) → new ≡ end_with marked mid key → Ends old r out (with_reply done reply) new
ends_from old mid new r key out step done reply marked at m commits t is =
    let mark : marked ≡ is_marked old r.key = m ∙ ap (is_marked old) at in (
      mid,
      with_reply step reply,
      commits,
      ap (λ (a : Appended). with_reply a reply) t ∙ with_told (is_dropped marked mid key) (length mid.history) step reply ∙ (λ i. told_drop (mark i) mid (at i) (with_reply step reply)),
      is ∙ (λ i. end_with (mark i) mid (at i)),
    )

-- a box has the reservation that is given back
pub gives_back_from : (old mid new : State) (r boxed : Reservation) (key : Bytes) (marked : Bool) → boxed ≡ r → key ≡ boxed.key → marked ≡ is_marked old key → Withdraws old boxed mid → new ≡ end_with marked mid key → GivesBack old r new
gives_back_from old mid new r boxed key marked box at m w is =
    let P : Reservation → Type 0 = λ x. Withdraws old x mid in
    let same : key ≡ r.key = at ∙ ap (λ (x : Reservation). x.key) box in
    let mark : marked ≡ is_marked old r.key = m ∙ ap (is_marked old) same in
    (mid, subst P box w, is ∙ (λ i. end_with (mark i) mid (same i)))

-- 4. Other keys.

pub end_others : (marked : Bool) (state : State) (key other : Bytes) → pointwise ◌==◌ key other ≡ false → entry_at (end_with marked state key).cache other ≡ entry_at state.cache other
end_others marked state key other differs = go (is_dropped marked state key)
  where
    go : (b : Bool) → entry_at (if b then without_entry state key else state).cache other ≡ entry_at state.cache other
    go false = refl
    go true = get-without state.cache key other false (nat_list_eq_equiv.symm other key ∙ differs)

-- 5. Without a mark nothing follows.

pub ends_unmarked : (old new : State) (r : Reservation) (out : Out) (done : StepDone) → is_marked old r.key ≡ false → Ends old r out done new → Commits old r out done new
ends_unmarked old new r out done unmarked h =
    let P : StepDone × State → Type 0 = λ x. Commits old r out x.0 x.1 in
    subst P (λ i. (sym (h.3 ∙ (λ j. told_drop (unmarked j) h.0 r.key h.1)) i, sym (h.4 ∙ (λ j. end_with (unmarked j) h.0 r.key)) i)) h.2
