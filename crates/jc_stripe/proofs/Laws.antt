-- The laws of the phases.
use Rattle.std.proofs.Common.{◌≡◌, List, [], length, true, append-nil, refl, sym, ap, subst, ◌∙◌}
use Rattle.std.specs.List.{list_any}
use Rattle.jc_model.specs.declared.event.Op.{Op}
use Rattle.jc_model.specs.declared.event.Out.{Out}
use Rattle.jc_stripe.specs.Outcomes.{StepDone, Begun}
use Rattle.jc_stripe.specs.Polled.{Polled}
use Rattle.jc_model.specs.Cache.{Bytes, entry_at}
use Rattle.jc_model.specs.Group.{events_of, nothing_said}
use Rattle.jc_inflight.specs.Joining.{callers_of}
use Rattle.jc_stripe.specs.Outcomes as begun
use Rattle.jc_stripe.specs.Polled as polled
use Rattle.jc_stripe.specs.Tickets.{JoinClaim}
use Rattle.jc_stripe.specs.State.{State, is_key, is_reserved, without_reservation, without_key}
use Rattle.jc_stripe.specs.Phases.{new_group, after_commit, Steps, Begins, Commits, Withdraws, PicksUp}
use Rattle.jc_stripe.specs.Reached.{IsReached, IsUsed}
use Rattle.jc_stripe.specs.Laws.{IsSameStripe, Extends}
use Rattle.jc_stripe.proofs.Refusing.{not_refused, alone_passes, answering_keeps, clash}
use Rattle.jc_stripe.proofs.Beside.{none_left}
use Rattle.jc_stripe.proofs.Stepped.{kept_on}
use Rattle.jc_types.specs.declared.caller.Caller.{Caller}
use Rattle.jc_stripe.specs.declared.ticket.Reservation.{Reservation}

-- 1. The history grows.

-- the state is what a record update of the earlier one gives
same_stripe : (old new mid : State) → new ≡ mid → IsSameStripe old mid → IsSameStripe old new
same_stripe old new mid is same = subst (IsSameStripe old) (sym is) same

pub same_on : (old new mid : State) → new ≡ mid → IsSameStripe old mid → mid.history ≡ old.history → Extends old new
same_on old new mid is same history =
    record { same = same_stripe old new mid is same; more = []; history = ap (λ (s : State). s.history) is ∙ history ∙ sym (append-nil old.history) }

steps_on : (old new : State) (caller : Caller) (key : Bytes) (op : Op) (out : Out) (callers : List Caller) (done : StepDone) → Steps old caller key op out callers done new → Extends old new
steps_on old new caller key op out callers done steps = record {
  same = same_stripe old new _ steps.after (record { config = refl; stripe = refl; origin = refl; lives = refl; ended = refl; opening = refl });
  more = events_of (length old.history) (new_group old caller key op out callers steps.short);
  history = ap (λ (s : State). s.history) steps.after;
}

pub begins_on : (old new : State) (caller : Caller) (key : Bytes) (op : Op) (b : Begun) → Begins old caller key op b new → Extends old new
begins_on old new caller key op (begun.Refused refusal) h = same_on old new _ h.1 (record { config = refl; stripe = refl; origin = refl; lives = refl; ended = refl; opening = refl }) refl
begins_on old new caller key op (begun.Done done) h = steps_on old new caller key op nothing_said [] done h.2
begins_on old new caller key op (begun.Asks ticket) h = same_on old new _ h.5 (record { config = refl; stripe = refl; origin = refl; lives = refl; ended = refl; opening = refl }) refl
begins_on old new caller key op (begun.Joined join) h = same_on old new _ h.3 (record { config = refl; stripe = refl; origin = refl; lives = refl; ended = refl; opening = refl }) refl

pub commits_on : (old new : State) (r : Reservation) (out : Out) (done : StepDone) → Commits old r out done new → Extends old new
commits_on old new r out done h =
    let on = steps_on (after_commit old r done.place) new r.caller r.key r.op out (callers_of r.number old.joiners) done h.1 in
    record { same = record { config = on.same.config; stripe = on.same.stripe; origin = on.same.origin; lives = on.same.lives; ended = on.same.ended; opening = on.same.opening }; more = on.more; history = on.history }

pub withdraws_on : (old new : State) (r : Reservation) → Withdraws old r new → Extends old new
withdraws_on old new r h = same_on old new _ h.1 (record { config = refl; stripe = refl; origin = refl; lives = refl; ended = refl; opening = refl }) refl

pub picks_up_on : (old new : State) (join : JoinClaim) (p : Polled) → PicksUp old join p new → Extends old new
picks_up_on old new join (polled.Answer reply place shared) h = same_on old new _ h.3 (record { config = refl; stripe = refl; origin = refl; lives = refl; ended = refl; opening = refl }) refl
picks_up_on old new join polled.Again h = same_on old new _ h.2 (record { config = refl; stripe = refl; origin = refl; lives = refl; ended = refl; opening = refl }) refl
picks_up_on old new join (polled.NotYet back) h = same_on old new _ h.3 (record { config = refl; stripe = refl; origin = refl; lives = refl; ended = refl; opening = refl }) refl

-- 2. The entry of a reserved key stays.

pub begins_keeps : (old new : State) (caller : Caller) (key : Bytes) (op : Op) (b : Begun) (q : Bytes) → IsReached old → Begins old caller key op b new → is_reserved old q ≡ true → entry_at new.cache q ≡ entry_at old.cache q
begins_keeps old new caller key op (begun.Refused refusal) q reached h there = ap (λ (s : State). entry_at s.cache q) h.1
begins_keeps old new caller key op (begun.Done done) q reached h there =
    ap (λ (s : State). entry_at s.cache q) h.2.after
    ∙ kept_on old caller key op nothing_said [] h.2.short q reached.used there
    (λ is. answering_keeps old.config op (entry_at old.cache key) (alone_passes old key op h.1 ((not_refused old caller key op h.0).free (ap (is_reserved old) (sym is) ∙ there))))
begins_keeps old new caller key op (begun.Asks ticket) q reached h there = ap (λ (s : State). entry_at s.cache q) h.5
begins_keeps old new caller key op (begun.Joined join) q reached h there = ap (λ (s : State). entry_at s.cache q) h.3

pub commits_keeps : (old new : State) (r : Reservation) (out : Out) (done : StepDone) (q : Bytes) → IsReached old → Commits old r out done new → is_reserved (without_reservation old r.key) q ≡ true
    → entry_at new.cache q ≡ entry_at old.cache q
commits_keeps old new r out done q reached h there =
    let m : State = after_commit old r done.place in
    let used : IsUsed m = record { once = reached.used.once; own = reached.used.own; cache = reached.used.cache } in
    ap (λ (s : State). entry_at s.cache q) h.1.after
    ∙ kept_on m r.caller r.key r.op out (callers_of r.number old.joiners) h.1.short q used there
    (λ is. absurd (clash (list_any (is_key r.key) (without_key r.key old.reservations)) (ap (λ k. list_any (is_key k) (without_key r.key old.reservations)) (sym is) ∙ there) (none_left r.key old.reservations)))

-- 3. Withdrawals and pick-ups leave the whole cache.

pub withdraws_keeps : (old new : State) (r : Reservation) → Withdraws old r new → new.cache ≡ old.cache
withdraws_keeps old new r h = ap (λ (s : State). s.cache) h.1

pub picks_up_keeps : (old new : State) (join : JoinClaim) (p : Polled) → PicksUp old join p new → new.cache ≡ old.cache
picks_up_keeps old new join (polled.Answer reply place shared) h = ap (λ (s : State). s.cache) h.3
picks_up_keeps old new join polled.Again h = ap (λ (s : State). s.cache) h.2
picks_up_keeps old new join (polled.NotYet back) h = ap (λ (s : State). s.cache) h.3
