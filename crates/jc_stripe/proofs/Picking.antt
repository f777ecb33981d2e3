-- What a joiner is told, and what that leaves.
use Rattle.std.proofs.Common.{◌≡◌, ◌||◌, ◌+◌, ◌*◌, zero-add, ℕ, List, [], ◌∷◌, length, count_by, Bool, true, false, cond, not, Option, None, Some, find, option_map, refl, sym, ap, ◌∙◌, subst, IsSomeAnd}
use Rattle.std.specs.List.{list_any, list_all}
use Rattle.std.proofs.lemmas.Bool.{and_parts}
use Rattle.jc_types.specs.declared.caller.Caller.{Caller}
use Rattle.jc_types.specs.declared.limits.TheConstants.{STEP_PLACES, HIT_PLACES}
use Rattle.jc_model.specs.declared.event.Op.TheVariants.{Get}
use Rattle.jc_model.specs.declared.event.Reply.{Reply}
use Rattle.jc_model.specs.declared.event.Event.TheVariants.{Step}
use Rattle.jc_model.specs.Cache.{Bytes}
use Rattle.jc_inflight.specs.declared.joiner.Joiner.{Joiner}
use Rattle.jc_inflight.specs.declared.joiner.JoinState.{JoinState}
use Rattle.jc_inflight.specs.declared.joiner.JoinState.TheVariants.{Waiting, Answered, Again}
use Rattle.jc_inflight.specs.Joining.{belongs_to, is_waiting, waits}
use Rattle.jc_inflight.specs.Taking.{joiners_after_take}
use Rattle.jc_inflight.specs.Taking as taking
use Rattle.jc_inflight.proofs.CallerLemmas.{belongs_to_same, after_take_over, after_take_waiting, count-cons}
use Rattle.jc_stripe.specs.Tickets.{JoinClaim}
use Rattle.jc_stripe.specs.State.{State, IsJoined}
use Rattle.jc_stripe.specs.declared.stripe.Stripe.TheInside.{Inside}
use Rattle.jc_stripe.specs.Inside.{IsStripe, state_of}
use Rattle.jc_stripe.specs.Phases.{is_other_join, told_to, IsSharedStep}
use Rattle.jc_stripe.specs.Reached.{IsReached, AllJoin, JoinFits, are_apart}
use Rattle.jc_stripe.specs.Appending.{HasToldStep, after_pick_up}
use Rattle.jc_types.proofs.CallerLemmas.{found_test}
use Rattle.jc_stripe.proofs.Tables.{reached_left}
use Rattle.jc_stripe.proofs.Making.{not_joined}

-- 1. A joiner that is told something.

told_some : (o : Option Joiner) (t : JoinState) → option_map (λ j. j.state) o ≡ Some t → (j : Joiner) × (o ≡ Some j) × (j.state ≡ t)
told_some None t h = cc
told_some (Some j) t h = (j, refl, cc)

joined_fits : (state : State) (p : Joiner → Bool) (js : List Joiner) (j : Joiner) → AllJoin state js → find p js ≡ Some j → JoinFits state j j.state
joined_fits state p [] j all h = cc
joined_fits state p (x ∷ xs) j all h =
    elim (p x) as (λ b. cond b (Some x) (find p xs) ≡ Some j → JoinFits state j j.state) [
      | true ↦ λ h. let is : x ≡ j = cc in let P : Joiner → Type 0 = λ y. JoinFits state y y.state in subst P is all.0
      | false ↦ λ h. joined_fits state p xs j all.1 h
    ] h

-- its own step is at the place that it is told
step_told : (state : State) (join : JoinClaim) (place shared : ℕ) → AllJoin state state.joiners → told_to state join ≡ Some (Answered place shared) → (reply : Reply) × IsSharedStep state join reply place shared
step_told state join place shared all h =
    let known = told_some (find (belongs_to join.caller join.key) state.joiners) (Answered place shared) h in
    let j : Joiner = known.0 in
    let fits = joined_fits state (belongs_to join.caller join.key) state.joiners j all known.1 in
    let at : JoinFits state j (Answered place shared) = subst (JoinFits state j) known.2 fits in
    let same = belongs_to_same join.caller join.key j (found_test (belongs_to join.caller join.key) state.joiners j known.1) in
    (at.1, (at.0, at.2 ∙ (λ i. Some (Step (same.0 i) Get (same.1 i) at.0 (Some shared) at.1))))

pub told_step : (state : State) (join : JoinClaim) (t : JoinState) → AllJoin state state.joiners → told_to state join ≡ Some t → HasToldStep state join t
told_step state join (Answered place shared) all h = step_told state join place shared all h
told_step state join Again all h = tt
told_step state join Waiting all h = tt

-- a call that has joined is told something
pub joined_told : (state : State) (join : JoinClaim) → IsJoined state join → told_to state join ≡ None → ⊥
joined_told state join there none = go (find (belongs_to join.caller join.key) state.joiners) there none
  where
    go : (o : Option Joiner) → IsSomeAnd o (λ j. j.load ≡ join.load) → option_map (λ j. j.state) o ≡ None → ⊥
    go None there none = absurd there
    go (Some j) there none = cc

-- 2. What is left.

pub after_is : (state : State) (join : JoinClaim) (t : JoinState) → told_to state join ≡ Some t → record state { joiners = joiners_after_take join.caller join.key state.joiners } ≡ after_pick_up state join t
after_is state join (Answered place shared) h = ap (λ js. record state { joiners = js }) (after_take_over join.caller join.key state.joiners (Answered place shared) h refl)
after_is state join Again h = ap (λ js. record state { joiners = js }) (after_take_over join.caller join.key state.joiners Again h refl)
after_is state join Waiting h = ap (λ js. record state { joiners = js }) (after_take_waiting join.caller join.key state.joiners Waiting h refl)

not_one : (caller : Caller) (key : Bytes) (js : List Joiner) → list_any (belongs_to caller key) js ≡ false → taking.joiners_without caller key js ≡ js
not_one caller key [] h = refl
not_one caller key (j ∷ js) h =
    elim (belongs_to caller key j) as (λ b. (b || list_any (belongs_to caller key) js) ≡ false → cond (not b) (j ∷ taking.joiners_without caller key js) (taking.joiners_without caller key js) ≡ j ∷ js) [
      | true ↦ λ h. cc
      | false ↦ λ h. ap (λ xs. j ∷ xs) (not_one caller key js h)
    ] h

-- a joiner that waits no more goes: as many wait as before
pub count-without : (caller : Caller) (key : Bytes) (js : List Joiner) (j : Joiner) → are_apart js ≡ true → find (belongs_to caller key) js ≡ Some j → waits j ≡ false → count_by waits (taking.joiners_without caller key js) ≡ count_by waits js
count-without caller key [] j apart h w = cc
count-without caller key (x ∷ xs) j apart h w =
    let parts = and_parts (list_all (is_other_join x.caller x.key) xs) (are_apart xs) apart in
    elim (belongs_to caller key x) as (λ b. belongs_to caller key x ≡ b → cond b (Some x) (find (belongs_to caller key) xs) ≡ Some j → count_by waits (cond (not b) (x ∷ taking.joiners_without caller key xs) (taking.joiners_without caller key xs)) ≡ count_by waits (x ∷ xs)) [
      | true ↦ λ e h.
          let is : x ≡ j = cc in
          let same = belongs_to_same caller key x e in
          let none : list_any (belongs_to caller key) xs ≡ false = (λ i. list_any (belongs_to (sym same.0 i) (sym same.1 i)) xs) ∙ not_joined x.caller x.key xs parts.0 in
          ap (count_by waits) (not_one caller key xs none) ∙ sym (count-cons waits x xs ∙ ap (λ b. cond b 1 0 + count_by waits xs) (ap waits is ∙ w) ∙ zero-add (count_by waits xs))
      | false ↦ λ e h. count-cons waits x (taking.joiners_without caller key xs) ∙ ap (λ m. cond (waits x) 1 0 + m) (count-without caller key xs j parts.1 h w) ∙ sym (count-cons waits x xs)
    ] refl h

-- a stripe after a pick-up is as every stripe is
pub pick_sound : (i : Inside) (join : JoinClaim) (js : List Joiner) (t : JoinState) → IsStripe i → told_to (state_of i) join ≡ Some t → js ≡ joiners_after_take join.caller join.key i.joiners → IsStripe (record i { joiners = js })
pick_sound i join js t sound h e = record {
  capacity = sound.capacity;
  limit = sound.limit;
  by_use = sound.by_use;
  promised = sound.promised ∙ ap (λ n. STEP_PLACES * length (state_of i).reservations + HIT_PLACES * n) (sym (ap (count_by waits) e ∙ took_count t h));
  counted = sound.counted;
  boxes = sound.boxes;
  state = subst IsReached (sym (ap (λ xs. state_of (record i { joiners = xs })) e ∙ after_is (state_of i) join t h)) (took_reached t);
}
  where
    gone : (t : JoinState) → told_to (state_of i) join ≡ Some t → is_waiting t ≡ false → count_by waits (joiners_after_take join.caller join.key i.joiners) ≡ count_by waits i.joiners
    gone t h over =
        let known = told_some (find (belongs_to join.caller join.key) i.joiners) t h in
        ap (count_by waits) (after_take_over join.caller join.key i.joiners t h over) ∙ count-without join.caller join.key i.joiners known.0 sound.state.apart known.1 (ap is_waiting known.2 ∙ over)

    took_count : (t : JoinState) → told_to (state_of i) join ≡ Some t → count_by waits (joiners_after_take join.caller join.key i.joiners) ≡ count_by waits i.joiners
    took_count (Answered place shared) h = gone (Answered place shared) h refl
    took_count Again h = gone Again h refl
    took_count Waiting h = ap (count_by waits) (after_take_waiting join.caller join.key i.joiners Waiting h refl)

    took_reached : (t : JoinState) → IsReached (after_pick_up (state_of i) join t)
    took_reached (Answered place shared) = reached_left (state_of i) join sound.state
    took_reached Again = reached_left (state_of i) join sound.state
    took_reached Waiting = sound.state

-- 3. What a pick-up tells.
