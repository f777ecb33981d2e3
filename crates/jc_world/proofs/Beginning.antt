-- Callers' order: what changes nothing of it, the start, a call that begins, and the conditions on its first phase.
--     order_stored, order_parted     after a change of the store, and of what was told of a key
--     opened_empty, start_is         the stripes of the start, in which nothing has happened
--     order_called                   once a call has begun
--     may_start_at, begins_at        the conditions on a first phase
use Rattle.jc_world.proofs.Common.{◌≡◌, ℕ, zero, suc, ◌+◌, Bool, true, false, cond, not, ◌&&◌, ◌||◌, List, [], ◌∷◌, ◌++◌, length, is_some, is_none, IsSomeAnd, ◌==◌, slice_get, Some, None, Ok, Option, find, sym, refl, ap, ◌∙◌, subst, append-nil, add-zero, zero-add, arith, not-true, eqb-true, eq-eqb, and_parts, and_from, or_left, or_right, false_from_ne_true, nat_list_cmp_total, pointwise, get, insert, get-insert, all_filter, is_session, check, stripe_of, Caller, Config, Bytes, Cache, key_cmp, may_come, is_of_stripe, Op, Get, belongs_to, Joiner, may_come_all, is_other_call, is_other_join, MayBegin, IsOpened, State, is_of, Reservation, Command, Part, Premises, WorldEvent, CallState, new_call, has_number, op_at, op_for, opened, is_playable, is_new, is_free, may_start, fits, IsWorldStripe, is_up_to, has_parked_answer, is_served_in, is_served, FitsKey, FitsCall, CallsFit, IsCallOf, IsOwned, IsCalled, AllCalled, IsSoundWorld, Parts, WorldState, home, stripe_for, fresh_stripe, fresh_stripes, is_busy, open_call, part_of, is_joined}
use Rattle.jc_world.proofs.Numbered.{some_of}
use Rattle.jc_world.proofs.Halves.{HasOrder}
use Rattle.jc_world.proofs.Shares.{found_test, shape_same, fact_found, each_map, each_test}
use Rattle.jc_world.proofs.Underway.{found_number, fits_found, calls_on, calls_all, elsewhere_found, up_self, up_more, numbers_more, comes_new, calls_pushed, each_found, find_pushed, same_bytes, of_call-none}
use Rattle.jc_world.proofs.Joiners.{joiner_of, other_key}
use Rattle.jc_world.proofs.Looked.{Taken}
use Rattle.jc_world.proofs.Settling.{Left, done_for}
use Rattle.jc_world.proofs.NewCalls.{opened_cases}
use Rattle.jc_world.proofs.Entries.{split}

-- 1. What changes nothing of the callers' order.

-- what is not false is true
pub unless : (a b : Bool) → (a ≡ true → b ≡ true) → b ≡ false → a ≡ false
unless true b f h = let t : true ≡ false = sym (f refl) ∙ h in cc
unless false b f h = refl

-- a key of a call fits a world of the same order, in which it is served if it was
fits_key : (w n : WorldState) (caller : Caller) (key : Bytes) (op : Op) → n.order ≡ w.order → (is_served w caller key ≡ true → is_served n caller key ≡ true) → FitsKey w caller key op → FitsKey n caller key op
fits_key w n caller key op order served h = record {
  comes = λ e. ap (λ o. may_come_all o caller key) order ∙ h.comes (unless (is_served w caller key) (is_served n caller key) served e);
}

-- what is left of a call fits a world of the same order and the same last number, in which it is served if it was
pub fits_left : (w n : WorldState) (call : ℕ) (key : Bytes) (u v : CallState) → Left call key u v → n.last ≡ w.last → n.order ≡ w.order → ((q : Bytes) (op : Op) → op_for v q ≡ Some op → is_served w u.caller q ≡ true → is_served n u.caller q ≡ true) → FitsCall w u → FitsCall n v
fits_left w n call key u v left last order served h = record {
  number = (λ i. is_up_to (last i) (left.caller_is i).call) ∙ h.number;
  keys = λ q op is.
      rw left.caller_is (fits_key w n u.caller q op order (served q op is) (h.keys q op (left.was q op is)));
}

-- and so does what is left of a call that has taken keys
pub fits_taken : (w n : WorldState) (u v : CallState) → Taken u v → n.last ≡ w.last → n.order ≡ w.order → ((q : Bytes) (op : Op) → op_for v q ≡ Some op → is_served w u.caller q ≡ true → is_served n u.caller q ≡ true) → FitsCall w u → FitsCall n v
fits_taken w n u v taken last order served h = record {
  number = (λ i. is_up_to (last i) (taken.caller_is i).call) ∙ h.number;
  keys = λ q op is.
      rw taken.caller_is (fits_key w n u.caller q op order (served q op is) (h.keys q op (taken.was q op is)));
}

-- a call fits a world of the same order and the same last number, in which it is served if it was
pub fits_same : (w n : WorldState) (u : CallState) → n.last ≡ w.last → n.order ≡ w.order → ((key : Bytes) (op : Op) → op_for u key ≡ Some op → is_served w u.caller key ≡ true → is_served n u.caller key ≡ true) → FitsCall w u → FitsCall n u
fits_same w n u last order served h = record {
  number = ap (λ l. is_up_to l u.caller.call) last ∙ h.number;
  keys = λ q op is. fits_key w n u.caller q op order (served q op is) (h.keys q op is);
}

-- the calls fit a world of the same order, the same last number and the same joiners
pub calls_same : (w n : WorldState) (calls : List CallState) → n.last ≡ w.last → n.order ≡ w.order → ((caller : Caller) (key : Bytes) → is_served w caller key ≡ true → is_served n caller key ≡ true) → CallsFit w calls → CallsFit n calls
calls_same w n calls last order served fit =
    calls_all w n calls (λ u h. fits_same w n u last order (λ q op is. served u.caller q) h) fit

-- the stripes, the order and the last number are the same: the calls fit, and each reservation is owned as before
pub order_beside : (w : WorldState) (calls : List CallState) (parts : Parts) (store foreign : Cache) (premises : Premises) (fresh : Bool) → CallsFit (record w { calls = calls; parts = parts; store = store; foreign = foreign; premises = premises; is_fresh = fresh }) calls
    → ((r : Reservation) → IsOwned w r → IsOwned (record w { calls = calls; parts = parts; store = store; foreign = foreign; premises = premises; is_fresh = fresh }) r) → IsSoundWorld w → HasOrder (record w { calls = calls; parts = parts; store = store; foreign = foreign; premises = premises; is_fresh = fresh })
order_beside w calls parts store foreign premises fresh fit owned old =
    let new : WorldState = record w { calls = calls; parts = parts; store = store; foreign = foreign; premises = premises; is_fresh = fresh } in
    record {
      shape = shape_same w new refl refl refl old.shape;
      order = old.order;
      numbers = old.numbers;
      calls = fit;
      owned = λ n s here. each_map (IsOwned w) (IsOwned new) s.reservations owned (old.owned n s here);
    }

-- the store changes
pub order_stored : (w : WorldState) (store foreign : Cache) (premises : Premises) (fresh : Bool) → IsSoundWorld w → HasOrder (record w { store = store; foreign = foreign; premises = premises; is_fresh = fresh })
order_stored w store foreign premises fresh old = order_beside w w.calls w.parts store foreign premises fresh (calls_same w (record w { store = store; foreign = foreign; premises = premises; is_fresh = fresh }) w.calls refl refl (λ c q h. h) old.calls) (λ r h. record { part = h.part; call = h.call }) old

-- a key's part stays, of the same call
pub owned_part : (parts : Parts) (key q : Bytes) (part : Part) (call : ℕ) → IsSomeAnd (get parts q) (λ p. p.reservation.caller.call ≡ call) → (q ≡ key → part.reservation.caller.call ≡ call) → IsSomeAnd (get (insert parts key part) q) (λ p. p.reservation.caller.call ≡ call)
owned_part parts key q part call h here =
    let P : Option Part → Type 0 = λ o. IsSomeAnd o (λ p. p.reservation.caller.call ≡ call) in
    subst P (sym (get-insert nat_list_cmp_total parts key part q))
    (split q key (λ b. P (cond b (Some part) (get parts q))) here (λ apart. h))

-- which keys are in doubt says nothing of it
pub order_foreign : (v : WorldState) (foreign : Cache) → HasOrder v → HasOrder (record v { foreign = foreign })
order_foreign v foreign h =
    let new : WorldState = record v { foreign = foreign } in
    record {
      shape = record {
        config_fits = h.shape.config_fits;
        count = h.shape.count;
        each = λ n s at. let x = h.shape.each n s at in record { config_is = x.config_is; number_is = x.number_is; origin_is = x.origin_is; ended_is = x.ended_is; reached = x.reached; share = x.share };
      };
      order = h.order;
      numbers = h.numbers;
      calls = calls_same v new v.calls refl refl (λ c q h. h) h.calls;
      owned = λ n s at. each_map (IsOwned v) (IsOwned new) s.reservations (λ r o. record { part = o.part; call = o.call }) (h.owned n s at);
    }

-- a key's part stays
pub order_parted : (w : WorldState) (key : Bytes) (old part : Part) (premises : Premises) (store foreign : Cache) → get w.parts key ≡ Some old → part.reservation.caller.call ≡ old.reservation.caller.call → IsSoundWorld w
    → HasOrder (record w { parts = insert w.parts key part; premises = premises; store = store; foreign = foreign })
order_parted w key old part premises store foreign there same was =
    let new : WorldState = record w { parts = insert w.parts key part; premises = premises; store = store; foreign = foreign } in
    order_beside w w.calls (insert w.parts key part) store foreign premises w.is_fresh (calls_same w new w.calls refl refl (λ c q h. h) was.calls)
    (λ r h. record {
      part = owned_part w.parts key r.key part r.caller.call h.part (λ e.
          let found = some_of (get w.parts r.key) (λ p. p.reservation.caller.call ≡ r.caller.call) h.part in
          let is : found.0 ≡ old = let t : Some found.0 ≡ Some old = sym found.1 ∙ ap (get w.parts) e ∙ there in cc in
          same ∙ ap (λ (p : Part). p.reservation.caller.call) (sym is) ∙ found.2);
      call = h.call;
    }) was

-- 2. The start.

-- each stripe at the start is empty
empty_at : (config : Config) (base count n : ℕ) (s : State) → slice_get (fresh_stripes config base count) n ≡ Some s → s ≡ fresh_stripe config (base + n)
empty_at config base zero n s h = cc
empty_at config base (suc count) zero s h = let is : fresh_stripe config base ≡ s = cc in sym is ∙ ap (fresh_stripe config) (sym (add-zero base))
empty_at config base (suc count) (suc n) s h = empty_at config (base + 1) count n s h ∙ ap (fresh_stripe config) (let e : (base + 1) + n ≡ base + suc n = omega arith in e)

-- and there are as many as wanted
pub empty_count : (config : Config) (base count : ℕ) → length (fresh_stripes config base count) ≡ count
empty_count config base zero = refl
empty_count config base (suc count) = ap suc (empty_count config (base + 1) count)

-- nothing has happened in an empty stripe
pub opened_empty : (config : Config) (n : ℕ) → check config ≡ Ok tt → IsOpened (fresh_stripe config n)
opened_empty config n fits = record {
  config_fits = fits;
  ended = refl;
  once = refl;
  own = refl;
  few = omega arith;
  cache = refl;
  reservations = refl;
  joiners = refl;
  history = refl;
  marked = refl;
}

-- and each stripe of the start is an empty one
pub start_is : (config : Config) (n : ℕ) (s : State) → slice_get (fresh_stripes config 0 config.stripes) n ≡ Some s → s ≡ fresh_stripe config n
start_is config n s h = empty_at config 0 config.stripes n s h ∙ ap (fresh_stripe config) (zero-add n)

-- 3. A new call.

-- what a fitting call has of use
called_parts : (a b c d : Bool) → (a && b && c && d) ≡ true → (a ≡ true) × (c ≡ true) × (d ≡ true)
called_parts a b c d h =
    let p = and_parts (a && b && c) d h in
    let q = and_parts (a && b) c p.0 in
    ((and_parts a b q.0).0, q.1, p.1)

-- the world with more calls
abbrev begun_world : WorldState → ℕ → List CallState → WorldState
begun_world w call more = record w { last = Some call; calls = w.calls ++ more; is_fresh = false }

-- a call fits after a new number
fits_more : (w : WorldState) (call : ℕ) (more : List CallState) (x : CallState) → is_new w.last call ≡ true → FitsCall w x → FitsCall (begun_world w call more) x
fits_more w call more x new h = record {
  number = up_more w.last call x.caller.call new h.number;
  keys = λ q op is. let k = h.keys q op is in record { comes = k.comes };
}

-- calls that fit are in order
order_more : (w : WorldState) (call : ℕ) (more : List CallState) → is_new w.last call ≡ true → CallsFit (begun_world w call more) (w.calls ++ more) → IsSoundWorld w → HasOrder (begun_world w call more)
order_more w call more is fit old =
    let new : WorldState = begun_world w call more in
    record {
      shape = shape_same w new refl refl refl old.shape;
      order = old.order;
      numbers = numbers_more w.last call w.order is old.numbers;
      calls = fit;
      owned = λ n s here. each_map (IsOwned w) (IsOwned new) s.reservations
          (λ r h. record { part = h.part; call = find_pushed (has_number r.caller.call) w.calls more (IsCallOf r.caller.session r.key r.op) h.call })
          (old.owned n s here);
    }

-- a session begins a call
pub order_called : (w : WorldState) (call session : ℕ) (command : Command) → fits w (WorldEvent.Call call session command) ≡ true → IsSoundWorld w
    → HasOrder (record w { last = Some call; calls = w.calls ++ opened (new_call call session command); is_fresh = false })
order_called w call session command fit old =
    let u : CallState = new_call call session command in
    let one : WorldState = begun_world w call (u ∷ []) in
    let none : WorldState = begun_world w call [] in
    let ok = called_parts (is_playable command) (is_session session) (is_new w.last call) (not (is_busy w session)) fit in
    opened_cases u (λ more. HasOrder (begun_world w call more))
    (order_more w call (u ∷ []) ok.1
    (calls_pushed w one u w.calls ok.1 ok.2 (λ x h. fits_more w call (u ∷ []) x ok.1 h)
    (record {
      number = up_self call;
      keys = λ q op is. record { comes = λ e. comes_new w.last u.caller q w.order ok.1 old.numbers };
    }) old.calls) old)
    (order_more w call [] ok.1
    (subst (CallsFit none) (sym (append-nil w.calls))
    (calls_on w none (λ (x : CallState). find (has_number x.caller.call) w.calls ≡ Some x) w.calls (λ x found h. fits_more w call [] x ok.1 h) (each_found w w.calls old.calls) old.calls)) old)

-- 4. The first phase of a call.

-- what a first phase rests on
pub record MayStart (w : WorldState) (u : CallState) (key : Bytes) (op : Op) : Type 0 where
  pub here : open_call w u.caller.call ≡ Some u
  pub op_is : op_at u key ≡ Some op
  pub fit : FitsKey w u.caller key op
  pub none : is_none (part_of w u.caller.call key) ≡ true
  pub alone : is_joined w u.caller.call key ≡ false

-- so if a start fits
pub may_start_at : (w : WorldState) (call : ℕ) (key : Bytes) (u : CallState) (op : Op) → fits w (WorldEvent.Start call key) ≡ true → open_call w call ≡ Some u → op_at u key ≡ Some op → IsSoundWorld w → MayStart w u key op
may_start_at w call key u op fit is op_is old =
    let tests = and_parts (is_some (op_at u key)) (is_free w call key) (sym (ap (may_start w call key) is) ∙ fit) in
    let parts = and_parts (is_none (part_of w call key)) (not (is_joined w call key)) tests.1 in
    let number = found_number call w.calls u is in
    record {
      here = ap (open_call w) number ∙ is;
      op_is = op_is;
      fit = (fits_found w (has_number call) w.calls u is old.calls).keys key op (done_for u key op op_is);
      none = ap (λ n. is_none (part_of w n key)) number ∙ parts.0;
      alone = ap (λ n. is_joined w n key) number ∙ not-true (is_joined w call key) parts.1;
    }

-- no reservation is of this call and this key
pub not_own : (w : WorldState) (call : ℕ) (key : Bytes) (r : Reservation) → is_none (part_of w call key) ≡ true → IsOwned w r → r.caller.call ≡ call → r.key ≡ key → ⊥
not_own w call key r none h mine at =
    let part = some_of (get w.parts r.key) (λ p. p.reservation.caller.call ≡ r.caller.call) h.part in
    of_call-none call (get w.parts key) part.0 none (ap (get w.parts) (sym at) ∙ part.1) (eq-eqb part.0.reservation.caller.call call (part.2 ∙ mine))

-- one of another session, or of the same call at another key
pub apart_or : (a : Bool) (number call : ℕ) (k key : Bytes) → number ≡ call → (k ≡ key → ⊥) → (a || ((number == call) && not (pointwise ◌==◌ k key))) ≡ true
apart_or a number call k key mine other = or_right a _ (and_from _ _ (eq-eqb number call mine) (ap not (false_from_ne_true (pointwise ◌==◌ k key) (λ e. other (same_bytes k key e)))))

-- the first test is enough
-- each reservation is another session's, or at another key
beside_own : (w : WorldState) (u : CallState) (key : Bytes) (op : Op) (r : Reservation) → IsSoundWorld w → MayStart w u key op → IsOwned w r → is_other_call u.caller key r ≡ true
beside_own w u key op r old may h =
    let call = some_of (open_call w r.caller.call) (IsCallOf r.caller.session r.key r.op) h.call in
    elim (u.caller.call == r.caller.call) as (λ b. (u.caller.call == r.caller.call) ≡ b → is_other_call u.caller key r ≡ true) [
      | true ↦ λ e.
          let mine : r.caller.call ≡ u.caller.call = sym (eqb-true u.caller.call r.caller.call e) in
          apart_or (not (r.caller.session == u.caller.session)) r.caller.call u.caller.call r.key key mine (not_own w u.caller.call key r may.none h mine)
      | false ↦ λ e. or_left (not (r.caller.session == u.caller.session)) _ (ap (λ s. not (s == u.caller.session)) (sym call.2.0) ∙ elsewhere_found w u.caller.call r.caller.call w.calls u call.0 old.calls may.here call.1 e)
    ] refl

-- and so is each joiner
apart_own : (w : WorldState) (u : CallState) (key : Bytes) (op : Op) (m : ℕ) (j : Joiner) → IsSoundWorld w → MayStart w u key op → IsCalled w m j → is_other_join u.caller key j ≡ true
apart_own w u key op m j old may h =
    let call = some_of (open_call w j.caller.call) (IsCallOf j.caller.session j.key Get) h.call in
    elim (u.caller.call == j.caller.call) as (λ b. (u.caller.call == j.caller.call) ≡ b → is_other_join u.caller key j ≡ true) [
      | true ↦ λ e.
          let mine : j.caller.call ≡ u.caller.call = sym (eqb-true u.caller.call j.caller.call e) in
          apart_or (not (j.caller.session == u.caller.session)) j.caller.call u.caller.call j.key key mine (other_key w u.caller.call key j.caller.call j.key may.alone h.join mine)
      | false ↦ λ e. or_left (not (j.caller.session == u.caller.session)) _ (ap (λ s. not (s == u.caller.session)) (sym call.2.0) ∙ elsewhere_found w u.caller.call j.caller.call w.calls u call.0 old.calls may.here call.1 e)
    ] refl

-- a caller that has no join of a key is not served there
pub unserved : (w : WorldState) (caller : Caller) (key : Bytes) → is_joined w caller.call key ≡ false → IsSoundWorld w → is_served w caller key ≡ false
unserved w caller key free old = go (stripe_for w key) refl
  where
    none_found : (s : State) (o : Option Joiner) → joiner_of caller key s.joiners ≡ o → AllCalled w (home w key) s.joiners → has_parked_answer o ≡ false
    none_found s None e called = refl
    none_found s (Some j) e called =
        let h = fact_found (IsCalled w (home w key)) (belongs_to caller key) s.joiners j e called in
        let test = and_parts ((j.caller.session == caller.session) && (j.caller.call == caller.call)) (pointwise ◌==◌ key j.key) (found_test (belongs_to caller key) s.joiners j e) in
        let same : j.caller.call ≡ caller.call = eqb-true j.caller.call caller.call (and_parts (j.caller.session == caller.session) (j.caller.call == caller.call) test.0).1 in
        absurd (other_key w caller.call key j.caller.call j.key free h.join same (sym (same_bytes key j.key test.1)))

    go : (o : Option State) → stripe_for w key ≡ o → is_served_in o caller key ≡ false
    go None e = refl
    go (Some s) e = none_found s (joiner_of caller key s.joiners) refl (old.called (home w key) s e)

-- a key is of its own stripe
own_key : (w : WorldState) (key : Bytes) (from : State) → IsWorldStripe w (home w key) from → is_of from key ≡ true
own_key w key from h = eq-eqb (stripe_of key from.config.stripes) from.stripe (ap (λ (c : Config). stripe_of key c.stripes) h.config_is ∙ sym h.number_is)

-- so the first phase may begin
pub begins_with : (w : WorldState) (u : CallState) (key : Bytes) (op : Op) (from : State) → IsSoundWorld w → stripe_for w key ≡ Some from → MayStart w u key op → MayBegin from u.caller key
begins_with w u key op from old there may =
    let at = old.shape.each (home w key) from there in
    record {
      of_stripe = own_key w key from at;
      behind =
          ap (λ h. may_come_all h u.caller key) (sym at.share)
          ∙ all_filter (λ e. may_come e u.caller key) (is_of_stripe w.config.stripes (home w key)) w.order (may.fit.comes (unserved w u.caller key may.alone old));
      beside = each_test (IsOwned w) (is_other_call u.caller key) from.reservations (λ r h. beside_own w u key op r old may h) (old.owned (home w key) from there);
      apart = each_test (IsCalled w (home w key)) (is_other_join u.caller key) from.joiners (λ j h. apart_own w u key op (home w key) j old may h) (old.called (home w key) from there);
    }

-- the same, if a start fits
pub begins_at : (w : WorldState) (call : ℕ) (key : Bytes) (u : CallState) (op : Op) (from : State) → fits w (WorldEvent.Start call key) ≡ true → open_call w call ≡ Some u → op_at u key ≡ Some op → stripe_for w key ≡ Some from → IsSoundWorld w
    → MayBegin from u.caller key
begins_at w call key u op from fit is op_is there old = begins_with w u key op from old there (may_start_at w call key u op fit is op_is old)
