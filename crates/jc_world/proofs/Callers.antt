-- Each event keeps the callers' order.
--     order_key                       after each kind of change at a key
--     order_happens, order_opened     after any event that fits, and after an entry of the store's opening
--     order_is, has_shares            the order is one legal history over all stripes, and each stripe's history is its part of it
use Rattle.jc_world.proofs.Common.{◌≡◌, ℕ, zero, suc, ◌+◌, ◌%◌, ◌<◌, Bool, true, false, cond, not, ◌&&◌, ◌||◌, ◌⊎◌, List, [], ◌∷◌, ◌++◌, length, is_none, IsSomeAnd, nat_lt, ◌==◌, slice_get, slice_set, Some, None, sum, Option, option_map, find, sym, refl, ap, ◌∙◌, subst, inl, inr, arith, not-true, eqb-true, and_parts, false_from_ne_true, nat_list_cmp_total, nat_list_eq_equiv, eq_by_cmp_equiv, pointwise, texts_ties, get, insert, remove, get-insert, get-remove, list_all, eq_by_cmp, all_imply, Caller, Config, Refusal, Bytes, Cache, key_cmp, nothing_said, events_of, of_stripe, IsHistory, IsOpening, Op, Get, Out, belongs_to, is_waiting, waits_for, callers_of, after_resolve, JoinState, Again, Answered, Waiting, Joiner, StaysReached, IsSameStripe, Extends, may_come_all, new_group, Steps, with_joiner, Begins, after_commit, Commits, Withdraws, without_joiner, PicksUp, JoinFits, IsReached, State, is_of, is_key, is_reserved, with_reservation, without_key, IsOut, JoinClaim, Begun, Polled, StepDone, Reservation, Part, Premises, PartProgress, Shown, WorldEvent, cache_at, opening_at, IsOrder, HasShares, SweepState, CallState, has_number, op_at, op_for, open_keys, going_on, with_met, replaced, settle, drop_call, with_swept_keys, with_stripe, with_phase, step_of, fault_in, with_settled, with_met_by, without_call, with_look, new_part, without_part, foreign_committed, with_join, without_join, Happens, is_free, may_leave, fits, IsWorldStripe, is_up_to, is_answered, has_parked_answer, is_served_in, is_served, FitsCall, CallsFit, Each, IsHeld, IsCallOf, IsOwned, AllOwned, IsCalled, IsSoundWorld, Parts, Joins, WorldState, home, stripe_for, open_call, part_of, out_of_part, join_of, is_joined, with_stored, with_new_part}
use Rattle.jc_world.proofs.Numbered.{some_of}
use Rattle.jc_inflight.specs.Taking.{joiners_without as without}
use Rattle.jc_world.proofs.Halves.{HasOrder, order_half}
use Rattle.jc_world.proofs.Returns.{IsWhole}
use Rattle.jc_world.proofs.Places.{at_stripe, stripe_put}
use Rattle.jc_world.proofs.Reservations.{out_reserved}
use Rattle.jc_world.proofs.Shares.{is_some_and, set_cases, added, share_grows, share_stays, shape_set, AllBy, by_map, by_group, added_order, numbers_added, comes_behind, comes_added, fact_found, each_kept, each_map, each_pushed}
use Rattle.jc_world.proofs.Underway.{found_number, find_over, fits_found, calls_filter, calls_on, each_found, elsewhere_found, all_owned, others_left, same_bytes, of_call-at}
use Rattle.jc_world.proofs.Looked.{Taken, taken_of, taken_met, taken_on, calls_taken, still_taken}
use Rattle.jc_world.proofs.Settling.{open_now, Left, done_for, still_called, calls_settled}
use Rattle.jc_world.proofs.LoadKeys.{key_of_load, each_fits}
use Rattle.jc_world.proofs.Joiners.{joiner_of, unanswered, told_resolved, told_waiting, told_dissolved, told_pushed, find_kept, each_own, each_caller, each_both, join_at, joined_no_part}
use Rattle.jc_world.proofs.Beginning.{unless, fits_left, fits_same, fits_taken, calls_same, order_stored, owned_part, order_foreign, order_parted, order_called, MayStart, not_own, apart_or, unserved, begins_with, order_beside}
use Rattle.jc_world.proofs.Facts.{same_found, some_back}
use Rattle.jc_world.proofs.Entries.{tied}
use Rattle.jc_world.proofs.KeyChanges.{KeyChange, by_answer, by_commit, by_join, by_nothing, by_refusal, by_reservation, by_retry, by_step, by_withdrawal, by_mark, key_change, may_of}
use Rattle.jc_world.proofs.Dropping.{Drop, with_dropped}
use Rattle.jc_stripe.specs.Invalidating.{dropped_event, without_entry}

-- 1. A key that is settled.

-- the test that keeps the other calls
abbrev is_other : ℕ → CallState → Bool
is_other call u = not (has_number call u)

-- a call is found by its number
abbrev IsFound : WorldState → CallState → Type 0
IsFound w u = find (has_number u.caller.call) w.calls ≡ Some u

-- a reservation of another call, or at another key, keeps its call
call_kept : (w : WorldState) (call : ℕ) (key : Bytes) (met : Option Refusal) (r : Reservation) → (r.caller.call ≡ call → r.key ≡ key → ⊥) → IsOwned w r → IsSomeAnd (find (has_number r.caller.call) (settle call key met w.calls)) (IsCallOf r.caller.session r.key r.op)
call_kept w call key met r other h = still_called call key met r.caller.call r.caller.session r.key r.op w.calls other h.call

-- a first phase was refused, and the key has its last refusal
order_refused : (w : WorldState) (u : CallState) (key : Bytes) (op : Op) (met : Option Refusal) → MayStart w u key op → IsSoundWorld w → HasOrder (with_settled w u.caller.call key met)
order_refused w u key op met may old =
    let call = u.caller.call in
    let new : WorldState = with_settled w call key met in
    order_beside w (settle call key met w.calls) w.parts w.store w.foreign w.premises w.is_fresh
    (calls_settled w new call key met (IsFound w) w.calls (λ x v left found h. fits_left w new call key x v left refl refl (λ q o is k. k) h) (each_found w w.calls old.calls) old.calls)
    (λ r h. record { part = h.part; call = call_kept w call key met r (not_own w call key r may.none h) h }) old

-- a call leaves: no reservation is of it
order_over : (w : WorldState) (call : ℕ) (u : CallState) → list_all (is_free w call) (open_keys u) ≡ true → open_call w call ≡ Some u → IsSoundWorld w → HasOrder (without_call w call)
order_over w call u free is old =
    let new : WorldState = without_call w call in
    order_beside w (drop_call call w.calls) w.parts w.store w.foreign w.premises w.is_fresh
    (calls_filter w new (is_other call) (IsFound w) w.calls (λ v other found h. fits_same w new v refl refl (λ q o is k. k) h) (each_found w w.calls old.calls) old.calls)
    (λ r h.
    let v = some_of (open_call w r.caller.call) (IsCallOf r.caller.session r.key r.op) h.call in
    let apart = false_from_ne_true (call == r.caller.call) (λ e.
    let mine : r.caller.call ≡ call = sym (eqb-true call r.caller.call e) in
    let same : v.0 ≡ u = same_found (open_call w call) v.0 u (ap (open_call w) (sym mine) ∙ v.1) is in
    let one = open_now (is_free w call) u r.key r.op (ap (λ (x : CallState). op_at x r.key) (sym same) ∙ v.2.1) free in
    not_own w call r.key r (and_parts (is_none (part_of w call r.key)) (not (is_joined w call r.key)) one).0 h mine refl)
    in
    record { part = h.part; call = rw (find_over call r.caller.call w.calls apart) h.call }) old

-- 2. A step.

-- of a stripe that went on by the group of a step
goes : (from mid to : State) (caller : Caller) (key : Bytes) (op : Op) (out : Out) (callers : List Caller) (done : StepDone) → IsSameStripe from mid → mid.history ≡ from.history → Steps mid caller key op out callers done to → Extends from to
goes from mid to caller key op out callers done same history steps = record {
  same = record {
    config = ap (λ (s : State). s.config) steps.after ∙ same.config;
    stripe = ap (λ (s : State). s.stripe) steps.after ∙ same.stripe;
    origin = ap (λ (s : State). s.origin) steps.after ∙ same.origin;
    lives = ap (λ (s : State). s.lives) steps.after ∙ same.lives;
    ended = ap (λ (s : State). s.ended) steps.after ∙ same.ended;
    opening = ap (λ (s : State). s.opening) steps.after ∙ same.opening;
  };
  more = events_of (length mid.history) (new_group mid caller key op out callers steps.short);
  history = ap (λ (s : State). s.history) steps.after ∙ ap (λ h. h ++ events_of (length mid.history) (new_group mid caller key op out callers steps.short)) history;
}

-- a step is appended for a call under way, at a key at which it isn't served yet: the one that is settled then, or one at which
-- it is served then
pub record IsPut (w n : WorldState) (call : ℕ) (key : Bytes) (who : Caller) (k : Bytes) : Type 0 where
  pub v : CallState
  pub here : open_call w who.call ≡ Some v
  pub session_is : v.caller.session ≡ who.session
  pub op : Op
  pub op_is : op_at v k ≡ Some op
  pub unserved : is_served w who k ≡ false
  pub over : ((who.call ≡ call) × (k ≡ key)) ⊎ (is_served n who k ≡ true)

-- its caller is the call's
put_caller : (w n : WorldState) (call : ℕ) (key : Bytes) (who : Caller) (k : Bytes) → (p : IsPut w n call key who k) → p.v.caller ≡ who
put_caller w n call key who k p = λ i. record { session = p.session_is i; call = found_number who.call w.calls p.v p.here i }

-- the stripe of a key keeps what is parked
abbrev KeepsParked : State → State → Type 0
KeepsParked from to = (caller : Caller) (key : Bytes) → has_parked_answer (joiner_of caller key from.joiners) ≡ true → has_parked_answer (joiner_of caller key to.joiners) ≡ true

-- so a caller that is served is served in a world with another stripe
served_set : (w : WorldState) (key : Bytes) (from to : State) → stripe_for w key ≡ Some from → KeepsParked from to → (caller : Caller) (q : Bytes) → is_served w caller q ≡ true → is_served_in (slice_get (slice_set w.stripes (home w key) to) (home w q)) caller q ≡ true
served_set w key from to there keeps caller q =
    at_stripe w.stripes (home w key) (home w q) from to (λ o x. is_served_in o caller q ≡ true → is_served_in x caller q ≡ true) there (keeps caller q) (λ h. h)

-- a step may still come at a key that stays open and isn't served then
put_behind : (w n : WorldState) (call : ℕ) (key : Bytes) (u v : CallState) (q : Bytes) (op : Op) (who : Caller) (k : Bytes) → CallsFit w w.calls → IsFound w u → Left call key u v → op_for v q ≡ Some op → is_served n u.caller q ≡ false → IsPut w n call key who k
    → comes_behind who k u.caller q ≡ true
put_behind w n call key u v q op who k fit found left is free p =
    elim (u.caller.call == who.call) as (λ b. (u.caller.call == who.call) ≡ b → comes_behind who k u.caller q ≡ true) [
      | true ↦ λ e.
          let mine : who.call ≡ u.caller.call = sym (eqb-true u.caller.call who.call e) in
          let same : p.v ≡ u = same_found (open_call w who.call) p.v u p.here (ap (open_call w) mine ∙ found) in
          let caller_is : who ≡ u.caller = sym (put_caller w n call key who k p) ∙ ap (λ (x : CallState). x.caller) same in
          or_third (not (who.session == u.caller.session)) (nat_lt who.call u.caller.call) _
          (apart_or false who.call u.caller.call k q mine (λ at. clash mine caller_is at ((λ i. op_at (sym same i) (sym at i)) ∙ p.op_is) p.over))
      | false ↦ λ e. or_first (not (who.session == u.caller.session)) (nat_lt who.call u.caller.call) _ (ap (λ s. not (s == u.caller.session)) (sym p.session_is) ∙ elsewhere_found w u.caller.call who.call w.calls u p.v fit found p.here e)
    ] refl
  where
    or_third : (a b c : Bool) → c ≡ true → (a || b || c) ≡ true
    or_third true b c h = refl
    or_third false true c h = refl
    or_third false false c h = h

    or_first : (a b c : Bool) → a ≡ true → (a || b || c) ≡ true
    or_first true b c h = refl
    or_first false b c h = cc

    clash : who.call ≡ u.caller.call → who ≡ u.caller → k ≡ q → op_at u q ≡ Some p.op → ((who.call ≡ call) × (k ≡ key)) ⊎ (is_served n who k ≡ true) → ⊥
    clash mine caller_is at does (inl over) = left.other q op p.op is does (sym mine ∙ over.0) (sym at ∙ over.1)
    clash mine caller_is at does (inr served) = let t : true ≡ false = sym served ∙ (λ i. is_served n (caller_is i) (at i)) ∙ free in cc

-- the world with a stripe that has put a step down
abbrev stepped_world : WorldState → Bytes → State → State → ℕ → Option Refusal → Parts → WorldState
stepped_world w key from to call met parts = record w { stripes = slice_set w.stripes (home w key) to; order = w.order ++ added from to; calls = settle call key met w.calls; parts = parts }

-- the world's order with a step at a key that is settled then
pub order_stepped : (w : WorldState) (key : Bytes) (from to : State) (call : ℕ) (met : Option Refusal) (parts : Parts) → IsSoundWorld w → stripe_for w key ≡ Some from → (g : Extends from to) → IsReached to
    → AllBy (IsPut w (stepped_world w key from to call met parts) call key) g.more
    → KeepsParked from to
    → ((n : ℕ) (s : State) → slice_get (slice_set w.stripes (home w key) to) n ≡ Some s → AllOwned (stepped_world w key from to call met parts) s.reservations)
    → HasOrder (stepped_world w key from to call met parts)
order_stepped w key from to call met parts old there g reached put keeps owned =
    let new : WorldState = stepped_world w key from to call met parts in
    let at = old.shape.each (home w key) from there in
    let put_of = IsPut w new call key in
    let fit : (who : Caller) (k : Bytes) → (p : put_of who k) → FitsCall w p.v = λ who k p. fits_found w (has_number who.call) w.calls p.v p.here old.calls in
    record {
      shape = shape_set w new key from to refl refl old.shape there g.same.config g.same.stripe g.same.origin g.same.ended reached
          (share_grows w (home w key) from to g at reached)
          (λ m apart. share_stays w (home w key) m from to g at reached apart);
      order = added_order w.order from to g reached old.order
          (by_map put_of (λ who k. may_come_all w.order who k ≡ true) g.more
          (λ who k p.
          (rw (put_caller w new call key who k p) at ((fit who k p).keys k p.op (done_for p.v k p.op p.op_is))).comes p.unserved) put);
      numbers = numbers_added w.last w.order from to g old.numbers
          (by_map put_of (λ who k. is_up_to w.last who.call ≡ true) g.more (λ who k p. ap (is_up_to w.last) (sym (found_number who.call w.calls p.v p.here)) ∙ (fit who k p).number) put);
      calls = calls_settled w new call key met (IsFound w) w.calls
          (λ u v left found h.
          record {
            number = ap (λ (c : Caller). is_up_to w.last c.call) left.caller_is ∙ h.number;
            keys = λ q op is.
                let k = h.keys q op (left.was q op is) in
                rw left.caller_is
                (record {
                  comes = λ e. comes_added w.order from to u.caller q g (k.comes (unless (is_served w u.caller q) (is_served new u.caller q) (served_set w key from to there keeps u.caller q) e))
                      (by_map put_of (λ who x. comes_behind who x u.caller q ≡ true) g.more (λ who x p. put_behind w new call key u v q op who x old.calls found left is e p) put);
                });
          })
          (each_found w w.calls old.calls) old.calls;
      owned = owned;
    }

-- 3. A first phase that puts a step down.

-- joiners that stay keep what is parked
same_told : (from to : State) → to.joiners ≡ from.joiners → KeepsParked from to
same_told from to same caller key h = ap (λ js. has_parked_answer (joiner_of caller key js)) same ∙ h

-- the key is settled, with its step
order_done : StaysReached → (w : WorldState) (u : CallState) (key : Bytes) (op : Op) (met : Option Refusal) (from to : State) (done : StepDone) → stripe_for w key ≡ Some from → Begins from u.caller key op (Begun.Done done) to
    → MayStart w u key op → IsSoundWorld w → HasOrder (with_settled (with_phase w key from to) u.caller.call key met)
unfolding goes
order_done stays w u key op met from to done there begins may old =
    let call = u.caller.call in
    let new : WorldState = with_settled (with_phase w key from to) call key met in
    let at = old.shape.each (home w key) from there in
    let reached = stays.begins from to u.caller key op (Begun.Done done) at.reached (begins_with w u key op from old there may) begins in
    let g = goes from from to u.caller key op nothing_said [] done (record { config = refl; stripe = refl; origin = refl; lives = refl; ended = refl; opening = refl }) refl begins.2 in
    let one : IsPut w new call key u.caller key = record { v = u; here = may.here; session_is = refl; op = op; op_is = may.op_is; unserved = unserved w u.caller key may.alone old; over = inl (refl, refl) } in
    let kept : (rs : List Reservation) → AllOwned w rs → AllOwned new rs = λ rs. each_map (IsOwned w) (IsOwned new) rs (λ r h. record { part = h.part; call = call_kept w call key met r (not_own w call key r may.none h) h }) in
    order_stepped w key from to call met w.parts old there g reached
    (by_group (IsPut w new call key) (length from.history) (new_group from u.caller key op nothing_said [] begins.2.short) one tt)
    (same_told from to (ap (λ (s : State). s.joiners) begins.2.after))
    (λ n s. set_cases w.stripes (home w key) n to s
    (λ same is.
    let stays_so : from.reservations ≡ s.reservations = sym (ap (λ (s : State). s.reservations) begins.2.after) ∙ ap (λ (s : State). s.reservations) is in
    subst (AllOwned new) stays_so (kept from.reservations (old.owned (home w key) from there)))
    (λ apart here. kept s.reservations (old.owned n s here)))

-- 4. A first phase that reserves the key, or joins a load.

-- a key that no reservation has, has no part
free_part : (w : WorldState) (key : Bytes) (from : State) (part : Part) → IsSoundWorld w → stripe_for w key ≡ Some from → is_reserved from key ≡ false → get w.parts key ≡ Some part → ⊥
free_part w key from part old there free is =
    let held = some_of (stripe_for w key) (λ s. IsHeld s key part) (old.held key part is) in
    let same : held.0 ≡ from = let t : Some held.0 ≡ Some from = sym held.1 ∙ there in cc in
    let busy : is_reserved held.0 key ≡ true = ap (is_reserved held.0) (sym held.2.key_is) ∙ out_reserved part.reservation.key part.reservation held.0.reservations held.2.out in
    let t : true ≡ false = sym busy ∙ ap (λ s. is_reserved s key) same ∙ free in cc

-- the key is reserved, and has a part
order_reserved : (w : WorldState) (u : CallState) (key : Bytes) (op : Op) (from to : State) (p : PartProgress) (r : Reservation) → stripe_for w key ≡ Some from → is_reserved from key ≡ false
    → r.caller ≡ u.caller → r.key ≡ key → r.op ≡ op → to ≡ with_reservation from r → IsReached to
    → MayStart w u key op → IsSoundWorld w → HasOrder (with_new_part w key to p r)
order_reserved w u key op from to p r there free caller_is key_is op_is is reached may old =
    let new : WorldState = with_new_part w key to p r in
    let at = old.shape.each (home w key) from there in
    let kept : (rs : List Reservation) → AllOwned w rs → AllOwned new rs = λ rs. each_map (IsOwned w) (IsOwned new) rs (λ x h. record {
      part = owned_part w.parts key x.key (new_part p r) x.caller.call h.part (λ e.
          let found = some_of (get w.parts x.key) (λ p. p.reservation.caller.call ≡ x.caller.call) h.part in
          absurd (free_part w key from found.0 old there free (ap (get w.parts) (sym e) ∙ found.1)));
      call = h.call;
    }) in
    let one : IsOwned new r = record {
      part = is_some_and (get new.parts r.key) (λ p. p.reservation.caller.call ≡ r.caller.call) (new_part p r) (ap (get new.parts) key_is ∙ get-insert nat_list_cmp_total w.parts key (new_part p r) key ∙ ap (λ b. cond b (Some (new_part p r)) (get w.parts key)) (tied key)) refl;
      call = is_some_and (open_call new r.caller.call) (IsCallOf r.caller.session r.key r.op) u (ap (λ (c : Caller). open_call w c.call) caller_is ∙ may.here) (ap (λ (c : Caller). c.session) (sym caller_is), ap (op_at u) key_is ∙ may.op_is ∙ ap Some (sym op_is));
    } in
    record {
      shape = shape_set w new key from to refl refl old.shape there (ap (λ (s : State). s.config) is) (ap (λ (s : State). s.stripe) is) (ap (λ (s : State). s.origin) is) (ap (λ (s : State). s.ended) is) reached
          (at.share ∙ sym (ap (λ (s : State). s.history) is)) (λ n apart. refl);
      order = old.order;
      numbers = old.numbers;
      calls = calls_same w new w.calls refl refl (served_set w key from to there (same_told from to (ap (λ (s : State). s.joiners) is))) old.calls;
      owned = λ n s. set_cases w.stripes (home w key) n to s
          (λ same here.
          let more : from.reservations ++ r ∷ [] ≡ s.reservations = sym (ap (λ (s : State). s.reservations) is) ∙ ap (λ (s : State). s.reservations) here in
          subst (AllOwned new) more (each_pushed (IsOwned new) from.reservations r (kept from.reservations (old.owned (home w key) from there)) one))
          (λ apart here. kept s.reservations (old.owned n s here));
    }

-- the stripe is another, whose history and reservations are the same
order_aside : (w : WorldState) (key : Bytes) (from to : State) (joins : Joins) → stripe_for w key ≡ Some from → to.config ≡ from.config → to.stripe ≡ from.stripe → to.origin ≡ from.origin → to.ended ≡ from.ended
    → to.history ≡ from.history → to.reservations ≡ from.reservations → IsReached to
    → CallsFit (record w { stripes = slice_set w.stripes (home w key) to; joins = joins }) w.calls
    → IsSoundWorld w → HasOrder (record w { stripes = slice_set w.stripes (home w key) to; joins = joins })
order_aside w key from to joins there config number origin ended history reservations reached calls old =
    let new : WorldState = record w { stripes = slice_set w.stripes (home w key) to; joins = joins } in
    let at = old.shape.each (home w key) from there in
    let kept : (rs : List Reservation) → AllOwned w rs → AllOwned new rs = λ rs. each_map (IsOwned w) (IsOwned new) rs (λ r h. record { part = h.part; call = h.call }) in
    record {
      shape = shape_set w new key from to refl refl old.shape there config number origin ended reached (at.share ∙ sym history) (λ n apart. refl);
      order = old.order;
      numbers = old.numbers;
      calls = calls;
      owned = λ n s. set_cases w.stripes (home w key) n to s
          (λ same here. subst (AllOwned new) (sym reservations ∙ ap (λ (s : State). s.reservations) here) (kept from.reservations (old.owned (home w key) from there)))
          (λ apart here. kept s.reservations (old.owned n s here));
    }

-- the call has joined a load
order_joins : (w : WorldState) (key : Bytes) (from to : State) (join : JoinClaim) → stripe_for w key ≡ Some from → to ≡ with_joiner from join → IsReached to → IsSoundWorld w
    → HasOrder (with_join (with_stripe w key to) join)
order_joins w key from to join there is reached old =
    let new : WorldState = with_join (with_stripe w key to) join in
    let keeps : KeepsParked from to = λ caller q h.
    ap (λ (s : State). has_parked_answer (joiner_of caller q s.joiners)) is
    ∙ told_pushed caller q from.joiners (record { caller = join.caller; key = join.key; load = join.load; state = Waiting } ∷ []) h
    in
    order_aside w key from to new.joins there (ap (λ (s : State). s.config) is) (ap (λ (s : State). s.stripe) is) (ap (λ (s : State). s.origin) is) (ap (λ (s : State). s.ended) is) (ap (λ (s : State). s.history) is) (ap (λ (s : State). s.reservations) is) reached
    (calls_same w new w.calls refl refl (served_set w key from to there keeps) old.calls) old

-- 5. The last phase.

-- another key's reservation keeps its part
part_kept : (w : WorldState) (key : Bytes) (r : Reservation) → is_key key r ≡ false → IsOwned w r → IsSomeAnd (get (remove w.parts key) r.key) (λ p. p.reservation.caller.call ≡ r.caller.call)
part_kept w key r apart h =
    let other : eq_by_cmp key_cmp r.key key ≡ false = (eq_by_cmp_equiv nat_list_cmp_total).symm r.key key ∙ sym (texts_ties key r.key) ∙ apart in
    rw (get-remove nat_list_cmp_total w.parts key r.key ∙ ap (λ b. cond b None (get w.parts r.key)) other) h.part

-- the reservations of another stripe are of other keys
other_stripe : (w : WorldState) (key : Bytes) (n : ℕ) (s : State) (rs : List Reservation) → IsWorldStripe w n s → (home w key ≡ n → ⊥) → list_all (λ r. is_of s r.key) rs ≡ true → list_all (λ r. not (is_key key r)) rs ≡ true
other_stripe w key n s rs at apart = all_imply (λ (r : Reservation). is_of s r.key) (λ r. not (is_key key r)) rs (λ r mine. ap not (false_from_ne_true (is_key key r) (λ same.
    let keys = same_bytes key r.key same in
    let number : sum r.key % s.config.stripes ≡ s.stripe = eqb-true (sum r.key % s.config.stripes) s.stripe mine in
    apart (ap (λ k. sum k % w.config.stripes) keys ∙ ap (λ (c : Config). sum r.key % c.stripes) (sym at.config_is) ∙ number ∙ at.number_is))))

-- the reservations that are left are owned, if each of another key is
owned_left_over : (w n : WorldState) (key : Bytes) (from to : State) → stripe_for w key ≡ Some from → to.reservations ≡ without_key key from.reservations → ((r : Reservation) → is_key key r ≡ false → IsOwned w r → IsOwned n r) → IsSoundWorld w
    → (m : ℕ) (s : State) → slice_get (slice_set w.stripes (home w key) to) m ≡ Some s → AllOwned n s.reservations
owned_left_over w n key from to there left on old m s =
    let on_all : (rs : List Reservation) → list_all (λ r. not (is_key key r)) rs ≡ true → AllOwned w rs → AllOwned n rs = λ rs. all_owned w n (λ r. not (is_key key r)) rs (λ r t h. on r (not-true (is_key key r) t) h) in
    set_cases w.stripes (home w key) m to s
    (λ same at.
    let stays : without_key key from.reservations ≡ s.reservations = sym left ∙ ap (λ (s : State). s.reservations) at in
    subst (AllOwned n) stays (on_all (without_key key from.reservations) (others_left key from.reservations) (each_kept (IsOwned w) (IsOwned w) (λ r. not (is_key key r)) from.reservations (λ r t h. h) (old.owned (home w key) from there))))
    (λ apart at. on_all s.reservations (other_stripe w key m s s.reservations (old.shape.each m s at) apart (old.shape.each m s at).reached.keys) (old.owned m s at))

-- the world after a commit
abbrev ended_world : WorldState → Bytes → State → State → ℕ → Option Refusal → WorldState
ended_world w key from to call met = without_part (with_settled (with_phase w key from to) call key met) key

-- how the stripe of a commit continues
pub record Ending (w : WorldState) (call : ℕ) (key : Bytes) (met : Option Refusal) (from to : State) : Type 0 where
  pub extends : Extends from to
  pub put : AllBy (IsPut w (ended_world w key from to call met) call key) extends.more
  pub keeps : KeepsParked from to
  pub left : to.reservations ≡ without_key key from.reservations

-- each joiner that waits for the load gets its answer
caller_put : (w : WorldState) (key : Bytes) (from to : State) (met : Option Refusal) (call load place : ℕ) (j : Joiner) (k : Bytes) → stripe_for w key ≡ Some from → to.joiners ≡ after_resolve load place from.joiners
    → joiner_of j.caller j.key from.joiners ≡ Some j → IsCalled w (home w key) j → j.key ≡ k → waits_for load j ≡ true → IsPut w (ended_world w key from to call met) call key j.caller k
caller_put w key from to met call load place j k there joiners own h key_is waits =
    let n = ended_world w key from to call met in
    let v = some_of (open_call w j.caller.call) (IsCallOf j.caller.session j.key Get) h.call in
    let before : is_served w j.caller j.key ≡ has_parked_answer (Some j) = ap (λ o. is_served_in o j.caller j.key) (ap (slice_get w.stripes) h.home_is ∙ there) ∙ ap has_parked_answer own in
    let after : is_served n j.caller j.key ≡ has_parked_answer (joiner_of j.caller j.key (after_resolve load place from.joiners)) =
    ap (λ o. is_served_in o j.caller j.key) (ap (slice_get n.stripes) h.home_is ∙ stripe_put w.stripes (home w key) from to there) ∙ ap (λ js. has_parked_answer (joiner_of j.caller j.key js)) joiners
    in
    record {
      v = v.0;
      here = v.1;
      session_is = v.2.0;
      op = Get;
      op_is = ap (op_at v.0) (sym key_is) ∙ v.2.1;
      unserved = ap (is_served w j.caller) (sym key_is) ∙ before ∙ false_from_ne_true (has_parked_answer (Some j)) (unanswered j.state (and_parts (j.load == load) (is_waiting j.state) waits).1);
      over = inr (ap (is_served n j.caller) (sym key_is) ∙ after ∙ told_waiting load place (place + 1) j.caller j.key from.joiners j own waits);
    }

-- by the reservation that is over
ending : (w : WorldState) (call : ℕ) (key : Bytes) (met : Option Refusal) (part : Part) (from to : State) (done : StepDone) → part_of w call key ≡ Some part → part.reservation.caller.call ≡ call → part.reservation.key ≡ key
    → stripe_for w key ≡ Some from → IsOut from part.reservation → Steps (after_commit from part.reservation done.place) part.reservation.caller part.reservation.key part.reservation.op (out_of_part part) (callers_of part.reservation.number from.joiners) done to
    → IsOwned w part.reservation → IsSoundWorld w → Ending w call key met from to
unfolding goes
ending w call key met part from to done is part_call r_key there out steps owned old =
    let r = part.reservation in
    let u = some_of (open_call w r.caller.call) (IsCallOf r.caller.session r.key r.op) owned.call in
    let mid = after_commit from r done.place in
    let g = goes from mid to r.caller r.key r.op (out_of_part part) (callers_of r.number from.joiners) done (record { config = refl; stripe = refl; origin = refl; lives = refl; ended = refl; opening = refl }) refl steps in
    let n = ended_world w key from to call met in
    let alone : is_joined w r.caller.call r.key ≡ false = (λ i. is_joined w (part_call i) (r_key i)) ∙ false_from_ne_true (is_joined w call key) (λ t. let e : Some part ≡ None = sym is ∙ joined_no_part w call key t old.joins in cc) in
    let one : IsPut w n call key r.caller r.key = record { v = u.0; here = u.1; session_is = u.2.0; op = r.op; op_is = u.2.1; unserved = unserved w r.caller r.key alone old; over = inl (part_call, r_key) } in
    let joiners : to.joiners ≡ after_resolve r.number done.place from.joiners = ap (λ (s : State). s.joiners) steps.after in
    let at = old.shape.each (home w key) from there in
    let P : Caller → Type 0 = λ c. IsPut w n call key c r.key in
    let J : Joiner → Type 0 = λ j. JoinFits from j j.state × IsCalled w (home w key) j in
    let both = each_both (λ (j : Joiner). JoinFits from j j.state) (IsCalled w (home w key)) J from.joiners (λ j f h. (f, h)) (each_fits from from.joiners at.reached.joins) (old.called (home w key) from there) in
    let callers : Each (λ (c : Caller). P c) (callers_of part.reservation.number from.joiners) = each_caller P part.reservation.number from.joiners
    (each_both (λ (j : Joiner). joiner_of j.caller j.key from.joiners ≡ Some j) J (λ (j : Joiner). waits_for part.reservation.number j ≡ true → P j.caller) from.joiners
    (λ j own h waits. caller_put w key from to met call r.number done.place j r.key there joiners own h.1 (key_of_load from r j at.reached out h.0 waits) waits)
    (each_own from.joiners at.reached.apart) both)
    in
    record {
      extends = g;
      put = by_group (IsPut w n call key) (length mid.history) (new_group mid r.caller r.key r.op (out_of_part part) (callers_of part.reservation.number from.joiners) steps.short) one callers;
      keeps = λ caller q h. ap (λ js. has_parked_answer (joiner_of caller q js)) joiners ∙ told_resolved r.number done.place (done.place + 1) caller q from.joiners h;
      left = ap (λ (s : State). s.reservations) steps.after ∙ ap (λ k. without_key k from.reservations) r_key;
    }

-- by the part of the call
pub ending_at : (w : WorldState) (call : ℕ) (key : Bytes) (met : Option Refusal) (part : Part) (from to : State) (done : StepDone) → part_of w call key ≡ Some part → stripe_for w key ≡ Some from
    → Commits from part.reservation (out_of_part part) done to → IsSoundWorld w → Ending w call key met from to
ending_at w call key met part from to done is there commits old =
    let at = of_call-at call (get w.parts key) part is in
    let held = some_of (stripe_for w key) (λ s. IsHeld s key part) (old.held key part at.0) in
    ending w call key met part from to done is at.1 held.2.key_is there commits.0 commits.1
    (fact_found (IsOwned w) (is_key part.reservation.key) from.reservations part.reservation commits.0 (old.owned (home w key) from there)) old

-- the key of the commit is settled
order_commit : (w : WorldState) (call : ℕ) (key : Bytes) (met : Option Refusal) (from to : State) → IsSoundWorld w → stripe_for w key ≡ Some from → (e : Ending w call key met from to) → IsReached to → HasOrder (ended_world w key from to call met)
order_commit w call key met from to old there e reached =
    let new : WorldState = ended_world w key from to call met in
    order_stepped w key from to call met (remove w.parts key) old there e.extends reached e.put e.keeps
    (owned_left_over w new key from to there e.left
    (λ r apart h. record {
      part = part_kept w key r apart h;
      call = call_kept w call key met r (λ mine at. let t : true ≡ false = sym (ap (pointwise ◌==◌ key) at ∙ nat_list_eq_equiv.refl key) ∙ apart in cc) h;
    }) old)

-- 6. A reservation is given back, and an answer picked up.

-- a reservation is given back
pub order_withdrawn : StaysReached → (w : WorldState) (key : Bytes) (claim : Reservation) (from to : State) → claim.key ≡ key → stripe_for w key ≡ Some from → Withdraws from claim to → IsSoundWorld w → HasOrder (without_part (with_stripe w key to) key)
order_withdrawn stays w key claim from to key_is there h old =
    let new : WorldState = without_part (with_stripe w key to) key in
    let at = old.shape.each (home w key) from there in
    let keeps : KeepsParked from to = λ caller q k.
    ap (λ (s : State). has_parked_answer (joiner_of caller q s.joiners)) h.1 ∙ told_dissolved claim.number caller q from.joiners k
    in
    record {
      shape = shape_set w new key from to refl refl old.shape there (ap (λ (s : State). s.config) h.1) (ap (λ (s : State). s.stripe) h.1) (ap (λ (s : State). s.origin) h.1) (ap (λ (s : State). s.ended) h.1) (stays.withdraws from to claim at.reached h)
          (at.share ∙ sym (ap (λ (s : State). s.history) h.1)) (λ n apart. refl);
      order = old.order;
      numbers = old.numbers;
      calls = calls_same w new w.calls refl refl (served_set w key from to there keeps) old.calls;
      owned = owned_left_over w new key from to there (ap (λ (s : State). s.reservations) h.1 ∙ ap (λ k. without_key k from.reservations) key_is)
          (λ r apart k. record { part = part_kept w key r apart k; call = k.call }) old;
    }

-- what is parked for another call, or at another key, stays if one has its answer
told_without : (one other : Caller) (key k : Bytes) (js : List Joiner) → (other.call ≡ one.call → k ≡ key → ⊥) → has_parked_answer (joiner_of other k js) ≡ true → has_parked_answer (joiner_of other k (without one key js)) ≡ true
told_without one other key k js apart h =
    ap has_parked_answer (find_kept (belongs_to other k) (λ j. not (belongs_to one key j)) js (λ x t.
    ap not (false_from_ne_true (belongs_to one key x) (λ e.
    let mine = and_parts ((x.caller.session == other.session) && (x.caller.call == other.call)) (pointwise ◌==◌ k x.key) t in
    let its = and_parts ((x.caller.session == one.session) && (x.caller.call == one.call)) (pointwise ◌==◌ key x.key) e in
    let my_call : x.caller.call ≡ other.call = eqb-true x.caller.call other.call (and_parts (x.caller.session == other.session) (x.caller.call == other.call) mine.0).1 in
    let its_call : x.caller.call ≡ one.call = eqb-true x.caller.call one.call (and_parts (x.caller.session == one.session) (x.caller.call == one.call) its.0).1 in
    apart (sym my_call ∙ its_call) (same_bytes k x.key mine.1 ∙ sym (same_bytes key x.key its.1))))))
    ∙ h

-- what a pick-up rests on: the join and its call
pub record Picking (w : WorldState) (call : ℕ) (key : Bytes) (join : JoinClaim) : Type 0 where
  pub u : CallState
  pub here : open_call w call ≡ Some u
  pub session_is : u.caller.session ≡ join.caller.session
  pub op_is : op_at u key ≡ Some Get
  pub call_is : join.caller.call ≡ call
  pub join_key : join.key ≡ key
  pub none : part_of w call key ≡ None

pub picking : (w : WorldState) (call : ℕ) (key : Bytes) (join : JoinClaim) → join_of w call key ≡ Some join → IsSoundWorld w → Picking w call key join
picking w call key join there old =
    let is = join_at w call key join there old.joins in
    let u = some_of (open_call w join.caller.call) (IsCallOf join.caller.session join.key Get) is.2.call in
    record {
      u = u.0;
      here = ap (open_call w) (sym is.0) ∙ u.1;
      session_is = u.2.0;
      op_is = ap (op_at u.0) (sym is.1) ∙ u.2.1;
      call_is = is.0;
      join_key = is.1;
      none = (λ i. part_of w (sym is.0 i) (sym is.1 i)) ∙ is.2.no_part;
    }

-- at that key it does a `Get`
picked_at : (w : WorldState) (call : ℕ) (key : Bytes) (join : JoinClaim) (one : Picking w call key join) (u : CallState) → IsFound w u → (q : Bytes) → u.caller.call ≡ call → q ≡ key → op_at u q ≡ Some Get
picked_at w call key join one u found q mine same =
    let is : u ≡ one.u = same_found (open_call w call) u one.u (ap (open_call w) (sym mine) ∙ found) one.here in
    (λ i. op_at (is i) (same i)) ∙ one.op_is

-- the stripe once a call has picked its answer up
left_keeps : (w : WorldState) (call : ℕ) (key : Bytes) (from to : State) (join : JoinClaim) (caller : Caller) (q : Bytes) → stripe_for w key ≡ Some from → to ≡ without_joiner from join → join.caller.call ≡ call → join.key ≡ key
    → (caller.call ≡ call → q ≡ key → ⊥) → is_served w caller q ≡ true → is_served_in (slice_get (slice_set w.stripes (home w key) to) (home w q)) caller q ≡ true
left_keeps w call key from to join caller q there is call_is key_is apart =
    at_stripe w.stripes (home w key) (home w q) from to (λ o x. is_served_in o caller q ≡ true → is_served_in x caller q ≡ true) there
    (λ h. ap (λ (s : State). has_parked_answer (joiner_of caller q s.joiners)) is ∙ told_without join.caller caller join.key q from.joiners (λ mine at. apart (mine ∙ call_is) (at ∙ key_is)) h)
    (λ h. h)

-- a call has its answer at a key
order_picked : StaysReached → (w : WorldState) (call : ℕ) (key : Bytes) (met : Option Refusal) (join : JoinClaim) (from to : State) (p : Polled) → join_of w call key ≡ Some join → stripe_for w key ≡ Some from → PicksUp from join p to → to ≡ without_joiner from join → IsSoundWorld w
    → HasOrder (with_settled (without_join (with_stripe w key to) call key) call key met)
order_picked stays w call key met join from to p joined there picks is old =
    let new : WorldState = with_settled (without_join (with_stripe w key to) call key) call key met in
    let one = picking w call key join joined old in
    let at = old.shape.each (home w key) from there in
    let kept : (rs : List Reservation) → AllOwned w rs → AllOwned new rs = λ rs. each_map (IsOwned w) (IsOwned new) rs (λ r h. record { part = h.part; call = call_kept w call key met r (not_own w call key r (ap is_none one.none) h) h }) in
    record {
      shape = shape_set w new key from to refl refl old.shape there (ap (λ (s : State). s.config) is) (ap (λ (s : State). s.stripe) is) (ap (λ (s : State). s.origin) is) (ap (λ (s : State). s.ended) is) (stays.picks_up from to join p at.reached picks)
          (at.share ∙ sym (ap (λ (s : State). s.history) is)) (λ n apart. refl);
      order = old.order;
      numbers = old.numbers;
      calls = calls_settled w new call key met (IsFound w) w.calls (λ u v left found h. fits_left w new call key u v left refl refl (λ q op at. left_keeps w call key from to join u.caller q there is one.call_is one.join_key (λ mine same. left.other q op Get at (picked_at w call key join one u found q mine same) mine same)) h) (each_found w w.calls old.calls) old.calls;
      owned = λ n s. set_cases w.stripes (home w key) n to s
          (λ same here. subst (AllOwned new) (sym (ap (λ (s : State). s.reservations) is) ∙ ap (λ (s : State). s.reservations) here) (kept from.reservations (old.owned (home w key) from there)))
          (λ apart here. kept s.reservations (old.owned n s here));
    }

-- a call that is told to retry has no answer
again_untold : (o : Option Joiner) → option_map (λ (j : Joiner). j.state) o ≡ Some Again → has_parked_answer o ≡ false
again_untold None h = refl
again_untold (Some j) h = go j.state (some_back j.state Again h)
  where
    go : (s : JoinState) → s ≡ Again → is_answered s ≡ false
    go (Answered place shared) h = cc
    go s h = refl

-- a call is told to retry
order_again : StaysReached → (w : WorldState) (call : ℕ) (key : Bytes) (join : JoinClaim) (from to : State) → join_of w call key ≡ Some join → stripe_for w key ≡ Some from → PicksUp from join Polled.Again to → IsSoundWorld w
    → HasOrder (without_join (with_stripe w key to) call key)
order_again stays w call key join from to joined there picks old =
    let new : WorldState = without_join (with_stripe w key to) call key in
    let one = picking w call key join joined old in
    let at = old.shape.each (home w key) from there in
    let is = picks.2 in
    let number : one.u.caller.call ≡ call = found_number call w.calls one.u one.here in
    let caller_is : one.u.caller ≡ join.caller = λ i. record { session = one.session_is i; call = (number ∙ sym one.call_is) i } in
    let untold : is_served w one.u.caller key ≡ false =
    ap (λ o. is_served_in o one.u.caller key) there
    ∙ (λ i. has_parked_answer (joiner_of (caller_is i) (sym one.join_key i) from.joiners))
    ∙ again_untold (joiner_of join.caller join.key from.joiners) picks.1
    in
    let served : (v : CallState) → IsFound w v → (q : Bytes) (op : Op) → op_for v q ≡ Some op → is_served w v.caller q ≡ true → is_served new v.caller q ≡ true = λ v found q op op_is h.
    left_keeps w call key from to join v.caller q there is one.call_is one.join_key
    (λ mine at.
    let same : v ≡ one.u = same_found (open_call w call) v one.u (ap (open_call w) (sym mine) ∙ found) one.here in
    let t : true ≡ false = sym h ∙ (λ i. is_served w (same i).caller (at i)) ∙ untold in cc) h
    in
    order_aside w key from to new.joins there (ap (λ (s : State). s.config) is) (ap (λ (s : State). s.stripe) is) (ap (λ (s : State). s.origin) is) (ap (λ (s : State). s.ended) is) (ap (λ (s : State). s.history) is) (ap (λ (s : State). s.reservations) is)
    (stays.picks_up from to join Polled.Again at.reached picks)
    (calls_on w new (IsFound w) w.calls (λ v found h. fits_same w new v refl refl (served v found) h) (each_found w w.calls old.calls) old.calls) old

-- a call leaves
pub order_left : (w : WorldState) (call : ℕ) → may_leave w call (open_call w call) ≡ true → IsSoundWorld w → HasOrder (without_call w call)
order_left w call fit old = go (open_call w call) refl fit
  where
    go : (o : Option CallState) → open_call w call ≡ o → may_leave w call o ≡ true → HasOrder (without_call w call)
    go None e h = cc
    go (Some u) e h = order_over w call u h e old

-- a call takes the keys of a stripe
pub looked_called : (w : WorldState) (call stripe : ℕ) (keys : List Bytes) (s : SweepState) (u : CallState) → open_call w call ≡ Some u → u.sweep ≡ Some s → (number session : ℕ) (q : Bytes) (op : Op) → IsSomeAnd (open_call w number) (IsCallOf session q op)
    → IsSomeAnd (open_call (with_look w call stripe keys s) number) (IsCallOf session q op)
looked_called w call stripe keys s u here sweeps number session q op h =
    still_taken call (λ x. going_on (with_swept_keys w.config.stripes stripe keys s x)) u number session q op w.calls here (λ v goes. taken_of w.config.stripes stripe keys s u v sweeps goes) (λ is over. taken_on w.config.stripes stripe keys s u q op is over) h

-- a call has taken keys, or has met something
order_taken : (w : WorldState) (call : ℕ) (left : CallState → Option CallState) (u : CallState) → open_call w call ≡ Some u → ((v : CallState) → left u ≡ Some v → Taken u v)
    → ((number session : ℕ) (q : Bytes) (op : Op) → IsSomeAnd (open_call w number) (IsCallOf session q op) → IsSomeAnd (find (has_number number) (replaced call left w.calls)) (IsCallOf session q op))
    → IsSoundWorld w → HasOrder (record w { calls = replaced call left w.calls })
order_taken w call left u here taken called old =
    let new : WorldState = record w { calls = replaced call left w.calls } in
    order_beside w (replaced call left w.calls) w.parts w.store w.foreign w.premises w.is_fresh
    (calls_taken w new call left u here taken
    (λ x h. fits_same w new x refl refl (λ q op is k. k) h)
    (λ v goes h. fits_taken w new u v (taken v goes) refl refl (λ q op is k. k) h) old.calls)
    (λ r h. record { part = h.part; call = called r.caller.call r.caller.session r.key r.op h.call }) old

order_looked : (w : WorldState) (call stripe : ℕ) (keys : List Bytes) (s : SweepState) (u : CallState) → open_call w call ≡ Some u → u.sweep ≡ Some s → IsSoundWorld w → HasOrder (with_look w call stripe keys s)
order_looked w call stripe keys s u here sweeps old =
    order_taken w call (λ x. going_on (with_swept_keys w.config.stripes stripe keys s x)) u here (λ v goes. taken_of w.config.stripes stripe keys s u v sweeps goes)
    (looked_called w call stripe keys s u here sweeps) old

-- a call that has met something continues at each of its keys
pub met_called : (w : WorldState) (call : ℕ) (met : Option Refusal) (u : CallState) → open_call w call ≡ Some u → (number session : ℕ) (q : Bytes) (op : Op) → IsSomeAnd (open_call w number) (IsCallOf session q op)
    → IsSomeAnd (open_call (with_met_by w call met) number) (IsCallOf session q op)
met_called w call met u here number session q op h = still_taken call (λ x. Some (with_met met x)) u number session q op w.calls here (λ v goes. taken_met met u v goes) (λ is over. cc) h

pub order_met : (w : WorldState) (call : ℕ) (met : Option Refusal) (u : CallState) → open_call w call ≡ Some u → IsSoundWorld w → HasOrder (with_met_by w call met)
order_met w call met u here old = order_taken w call (λ x. Some (with_met met x)) u here (λ v goes. taken_met met u v goes) (met_called w call met u here) old

-- 7. An event that fits.

-- a call's part stays
pub order_part : (w : WorldState) (call : ℕ) (key : Bytes) (old part : Part) (premises : Premises) (store foreign : Cache) → part_of w call key ≡ Some old → part.reservation.caller.call ≡ old.reservation.caller.call → IsSoundWorld w
    → HasOrder (record w { parts = insert w.parts key part; premises = premises; store = store; foreign = foreign })
order_part w call key old part premises store foreign is same was = order_parted w key old part premises store foreign (of_call-at call (get w.parts key) old is).0 same was

-- the reservation of a part is of its key
pub part_key : (w : WorldState) (call : ℕ) (key : Bytes) (part : Part) → part_of w call key ≡ Some part → IsSoundWorld w → part.reservation.key ≡ key
part_key w call key part is old = (some_of (stripe_for w key) (λ s. IsHeld s key part) (old.held key part (of_call-at call (get w.parts key) part is).0)).2.key_is

-- by the kind of the change at a key
pub order_key : StaysReached → (w new : WorldState) (e : WorldEvent) (key : Bytes) (seen : Shown) → KeyChange w new e key seen → fits w e ≡ true → IsSoundWorld w → HasOrder new
order_key stays w new e key seen (by_nothing is none ends) fit old = subst HasOrder (sym is) (order_half w old)
order_key stays w new e key seen (by_refusal u op refusal start is none ends) fit old = subst HasOrder (sym is) (order_refused w u key op (Some refusal) (may_of w e key u op start fit old) old)
order_key stays w new e key seen (by_step u op from to x start there h home_is is shows ends) fit old =
    subst HasOrder (sym is) (order_done stays w u key op (fault_in x.reply) from to (step_of x) there h (may_of w e key u op start fit old) old)
order_key stays w new e key seen (by_reservation u op from to p r start there h is none ends) fit old =
    let may = may_of w e key u op start fit old in
    let reached = stays.begins from to u.caller key op h.b (old.shape.each (home w key) from there).reached (begins_with w u key op from old there may) h.begins in
    subst HasOrder (sym is)
    (order_reserved w u key op from to p r there h.free (ap (λ (x : Reservation). x.caller) h.is) (ap (λ (x : Reservation). x.key) h.is) (ap (λ (x : Reservation). x.op) h.is) h.after reached may old)
order_key stays w new e key seen (by_join u op from to join start there h is none ends) fit old =
    let may = may_of w e key u op start fit old in
    let reached = stays.begins from to u.caller key op (Begun.Joined join) (old.shape.each (home w key) from there).reached (begins_with w u key op from old there may) h in
    subst HasOrder (sym is) (order_joins w key from to join there h.3 reached old)
order_key stays w new e key seen (by_commit call part from to x e_is part_is there h home_is is shows) fit old =
    let end = ending_at w call key (fault_in x.reply) part from to (step_of x) part_is there h old in
    let reached = stays.commits from to part.reservation (out_of_part part) (step_of x) (old.shape.each (home w key) from there).reached h in
    subst HasOrder (sym is) (order_foreign (ended_world w key from to call (fault_in x.reply)) (foreign_committed w key part to) (order_commit w call key (fault_in x.reply) from to old there end reached))
order_key stays w new e key seen (by_withdrawal call part from to e_is part_is there h is shows) fit old = subst HasOrder (sym is) (order_withdrawn stays w key part.reservation from to (part_key w call key part part_is old) there h old)
order_key stays w new e key seen (by_mark from to there out h reached is none ends) fit old =
    subst HasOrder (sym is)
    (order_aside w key from to w.joins there (ap (λ (s : State). s.config) h) (ap (λ (s : State). s.stripe) h) (ap (λ (s : State). s.origin) h) (ap (λ (s : State). s.ended) h) (ap (λ (s : State). s.history) h) (ap (λ (s : State). s.reservations) h)
    (reached stays (old.shape.each (home w key) from there).reached)
    (calls_same w (with_stripe w key to) w.calls refl refl (served_set w key from to there (same_told from to (ap (λ (s : State). s.joiners) h))) old.calls) old)
order_key stays w new e key seen (by_answer call join from to x e_is join_is there h home_is is shows ends) fit old =
    subst HasOrder (sym is) (order_picked stays w call key (fault_in x.reply) join from to (Polled.Answer x.reply x.place x.shared) join_is there h h.3 old)
order_key stays w new e key seen (by_retry call join from to e_is join_is there h is shows ends) fit old = subst HasOrder (sym is) (order_again stays w call key join from to join_is there h old)

-- a stripe that evicts a key extends what it was
dropped_extends : (from : State) (key : Bytes) → Extends from (without_entry from key)
dropped_extends from key = record {
  same = record { config = refl; stripe = refl; origin = refl; lives = refl; ended = refl; opening = refl };
  more = dropped_event key ∷ [];
  history = refl;
}

-- the entry of an invalidated key is evicted
pub order_dropped : StaysReached → (w mid new : WorldState) (key : Bytes) → Drop w mid new key → IsSoundWorld w → IsSoundWorld mid → HasOrder new
unfolding dropped_extends
order_dropped stays w mid new key d was old =
    let from = d.from in
    let to = without_entry from key in
    let next = with_dropped mid key from d.told in
    let at = old.shape.each (home mid key) from d.there in
    let reached = d.reached stays was in
    let g = dropped_extends from key in
    let kept : (rs : List Reservation) → AllOwned mid rs → AllOwned next rs = λ rs. each_map (IsOwned mid) (IsOwned next) rs (λ r h. record { part = h.part; call = h.call }) in
    subst HasOrder (sym d.is)
    (record {
      shape = shape_set mid next key from to refl refl old.shape d.there refl refl refl refl reached (share_grows mid (home mid key) from to g at reached) (λ m apart. share_stays mid (home mid key) m from to g at reached apart);
      order = added_order mid.order from to g reached old.order tt;
      numbers = numbers_added mid.last mid.order from to g old.numbers tt;
      calls = calls_on mid next (IsFound mid) mid.calls
          (λ u found h. record {
            number = h.number;
            keys = λ q op is. record {
              comes = λ e. comes_added mid.order from to u.caller q g ((h.keys q op is).comes (unless (is_served mid u.caller q) (is_served next u.caller q) (served_set mid key from to d.there (same_told from to refl) u.caller q) e)) tt;
            };
          })
          (each_found mid mid.calls old.calls) old.calls;
      owned = λ n s. set_cases mid.stripes (home mid key) n to s
          (λ same here. subst (AllOwned next) (ap (λ (s : State). s.reservations) here) (kept from.reservations (old.owned (home mid key) from d.there)))
          (λ apart here. kept s.reservations (old.owned n s here));
    })

-- by the kind of the event
pub order_happens : StaysReached → (w new : WorldState) (e : WorldEvent) (seen : Shown) → fits w e ≡ true → Happens w e seen new → (IsWhole e → IsSoundWorld new) → IsSoundWorld w → HasOrder new
order_happens stays w new (WorldEvent.Call call session command) seen fit h back old = subst HasOrder (sym h.1) (order_called w call session command fit old)
order_happens stays w new (WorldEvent.Look call stripe) seen fit h back old = subst HasOrder (sym h.9) (order_looked w call stripe h.6 h.1 h.0 h.2 h.3 old)
order_happens stays w new (WorldEvent.Read call key) seen fit h back old = subst HasOrder (sym h.3) (order_part w call key h.0 _ _ w.store w.foreign h.1 refl old)
order_happens stays w new (WorldEvent.Say call key answer) seen fit h back old = subst HasOrder (sym h.3) (order_part w call key h.0 _ _ w.store w.foreign h.1 refl old)
order_happens stays w new (WorldEvent.Process call key source calls fail) seen fit h back old = subst HasOrder (sym h.3) (order_part w call key h.0 _ _ w.store w.foreign h.1 refl old)
order_happens stays w new (WorldEvent.Change call key) seen fit h back old = subst HasOrder (sym h.5) (order_part w call key h.0 _ w.premises _ _ h.2 refl old)
order_happens stays w new (WorldEvent.Report call left fault) seen fit h back old = order_half new (back tt)
order_happens stays w new (WorldEvent.Leave call) seen fit h back old = subst HasOrder (sym h.1) (order_left w call fit old)
order_happens stays w new (WorldEvent.Foreign key value) seen fit h back old = subst HasOrder (sym h.1) (order_stored w _ _ w.premises false old)
order_happens stays w new (WorldEvent.Commit call key) seen fit h back old = order_half new (back tt)
order_happens stays w new (WorldEvent.Withdraw call key) seen fit h back old = order_half new (back tt)
order_happens stays w new (WorldEvent.Invalidate key) seen fit h back old = order_half new (back tt)
order_happens stays w new (WorldEvent.Reopen config) seen fit h back old = order_half new (back tt)
order_happens stays w new e seen fit h back old = let k = key_change w new e seen refl h in order_key stays w new e k.0 seen k.1 fit old

-- an entry that the store has from the start
pub order_opened : (w : WorldState) (key value : Bytes) → IsSoundWorld w → HasOrder (with_stored w key value)
order_opened w key value old = order_stored w (with_stored w key value).store w.foreign w.premises w.is_fresh old

-- 8. The whole history.

-- there is something at each place
there_is : {A : Type 0} (xs : List A) (n : ℕ) → n < length xs → (x : A) × (slice_get xs n ≡ Some x)
there_is [] n h = absurd (omega arith)
there_is (x ∷ xs) zero h = (x, refl)
there_is (x ∷ xs) (suc n) h = there_is xs n (omega arith)

-- a stripe's part of the order is a legal history, from its opening
history_of_stripe : (w : WorldState) (n : ℕ) (s : State) → slice_get w.stripes n ≡ Some s → IsWorldStripe w n s → IsHistory w.config (opening_at w n) (of_stripe w.config.stripes n w.order) (cache_at w n)
history_of_stripe w n s there at =
    rw there (rw at.share (rw at.config_is at at.reached.legal))

opening_of_stripe : (w : WorldState) (n : ℕ) (s : State) → slice_get w.stripes n ≡ Some s → IsWorldStripe w n s → IsOpening w.config n (opening_at w n)
opening_of_stripe w n s there at =
    rw there (rw at.number_is at (rw at.config_is at at.reached.opens))

-- and so is the whole order
pub order_is : (w : WorldState) → IsSoundWorld w → IsOrder w
order_is w old =
    let at : (n : ℕ) → n < w.config.stripes → (s : State) × (slice_get w.stripes n ≡ Some s) = λ n h. there_is w.stripes n (let e = old.shape.count in omega arith) in record {
      config_fits = old.shape.config_fits;
      openings = λ n h. let s = at n h in opening_of_stripe w n s.0 s.1 (old.shape.each n s.0 s.1);
      parts = λ n h. let s = at n h in history_of_stripe w n s.0 s.1 (old.shape.each n s.0 s.1);
      order = old.order;
    }

-- with each stripe's history as its part
pub has_shares : (w : WorldState) → IsSoundWorld w → HasShares w
has_shares w old = λ number s there. sym (old.shape.each number s there).share
