-- Numbers of calls rise, also across a reopening: so a call that is over never comes back.
--     Numbers          what holds of the highest number so far, and of the callers of the calls under way
--     numbers_step     an event keeps it, if a call that begins with a higher number does
--     IsPast           a call has begun
--     IsOver           a call has begun, and isn't under way
--     over_run         it is over from then on
--     over_reopened    a call that has begun is over once the cache is opened again
--     past_part        the call of a part has begun
--     over_part        and isn't over
use Rattle.jc_world.proofs.Common.{◌≡◌, ◌==◌, ℕ, true, false, cond, not, List, [], ◌∷◌, ◌++◌, Some, None, Option, option_map, find, sym, refl, ap, ◌∙◌, subst, inl, inr, append-nil, and_parts, arith, nat_tests, get, Caller, Config, Refusal, WriterFailed, Bytes, is_key, Part, Shown, WorldEvent, CallState, new_call, has_number, going_on, with_met, settle, with_swept_keys, with_met_by, keys_reported, after_reopening, is_new, Happens, Step, Run, fits, report_for, is_up_to, Each, IsHeld, IsOwned, IsCallOf, IsSoundWorld, WorldState, stripe_for, home, open_call, reported_now}
use Rattle.jc_world.proofs.Lemmas.{each_pushed, each_filter, fact_found, opened_cases, each_settled, taken_of, taken_met, each_taken, KeyChange, by_nothing, by_refusal, by_step, by_reservation, by_join, by_commit, by_withdrawal, by_mark, by_answer, by_retry, key_change, ends_as, each_report, some_of}
use Rattle.jc_world.proofs.Underway.{found_number, fits_found, up_more}

-- 1. What each event keeps of the numbers.

pub record Numbers (L : Option ℕ → Type 0) (P : Caller → Type 0) (w : WorldState) : Type 0 where
  pub last : L w.last
  pub calls : Each (λ u. P u.caller) w.calls

module _ (L : Option ℕ → Type 0) (P : Caller → Type 0) where
  calls_settled : (w : WorldState) (call : ℕ) (key : Bytes) (met : Option Refusal) → Numbers L P w → Each (λ u. P u.caller) (settle call key met w.calls)
  calls_settled w call key met old = each_settled call key met (λ u. P u.caller) w.calls (λ u v left h. subst P (sym left.caller_is) h) old.calls

  -- by the kind of the change at a key
  numbers_key : (w new : WorldState) (e : WorldEvent) (key : Bytes) (seen : Shown) → KeyChange w new e key seen → Numbers L P w → Numbers L P new
  numbers_key w new e key seen (by_nothing is none ends) old = subst (Numbers L P) (sym is) old
  numbers_key w new e key seen (by_refusal u op refusal may is none ends) old = subst (Numbers L P) (sym is) (record { last = old.last; calls = calls_settled w u.caller.call key _ old })
  numbers_key w new e key seen (by_step u op from to x may there h home_is is shows ends) old = subst (Numbers L P) (sym is) (record { last = old.last; calls = calls_settled w u.caller.call key _ old })
  numbers_key w new e key seen (by_reservation u op from to p r may there h is none ends) old = subst (Numbers L P) (sym is) (record { last = old.last; calls = old.calls })
  numbers_key w new e key seen (by_join u op from to join may there h is none ends) old = subst (Numbers L P) (sym is) (record { last = old.last; calls = old.calls })
  numbers_key w new e key seen (by_commit call part from to x e_is part_is there h home_is is shows) old = subst (Numbers L P) (sym is) (record { last = old.last; calls = calls_settled w call key _ old })
  numbers_key w new e key seen (by_withdrawal call part from to e_is part_is there h is shows) old = subst (Numbers L P) (sym is) (record { last = old.last; calls = old.calls })
  numbers_key w new e key seen (by_mark from to there out h reached is none ends) old = subst (Numbers L P) (sym is) (record { last = old.last; calls = old.calls })
  numbers_key w new e key seen (by_answer call join from to x e_is join_is there h home_is is shows ends) old = subst (Numbers L P) (sym is) (record { last = old.last; calls = calls_settled w call key _ old })
  numbers_key w new e key seen (by_retry call join from to e_is join_is there h is shows ends) old = subst (Numbers L P) (sym is) (record { last = old.last; calls = old.calls })

  -- of any event that fits
  numbers_happens : (w new : WorldState) (e : WorldEvent) (seen : Shown) → ((c : Caller) → is_new w.last c.call ≡ true → L (Some c.call) × P c) → fits w e ≡ true → Happens w e seen new → Numbers L P w → Numbers L P new
  numbers_happens w new (WorldEvent.Call call session command) seen more fit h old =
      let u : CallState = new_call call session command in
      let one = more u.caller (and_parts _ _ (and_parts _ _ fit).0).1 in
      subst (Numbers L P) (sym h.1)
      (record {
        last = one.0;
        calls = opened_cases u (λ us. Each (λ u. P u.caller) (w.calls ++ us)) (each_pushed (λ u. P u.caller) w.calls u old.calls one.1) (subst (Each (λ u. P u.caller)) (sym (append-nil w.calls)) old.calls);
      })
  numbers_happens w new (WorldEvent.Look call stripe) seen more fit h old =
      let stripes = w.config.stripes in
      subst (Numbers L P) (sym h.9)
      (record {
        last = old.last;
        calls = each_taken call (λ u. going_on (with_swept_keys stripes stripe h.6 h.1 u)) (λ u. P u.caller) h.0 w.calls h.2 (λ v goes b. subst P (sym (taken_of stripes stripe h.6 h.1 h.0 v h.3 goes).caller_is) b) old.calls;
      })
  numbers_happens w new (WorldEvent.Read call key) seen more fit h old = subst (Numbers L P) (sym h.3) (record { last = old.last; calls = old.calls })
  numbers_happens w new (WorldEvent.Say call key answer) seen more fit h old = subst (Numbers L P) (sym h.3) (record { last = old.last; calls = old.calls })
  numbers_happens w new (WorldEvent.Process call key source calls fail) seen more fit h old = subst (Numbers L P) (sym h.3) (record { last = old.last; calls = old.calls })
  numbers_happens w new (WorldEvent.Change call key) seen more fit h old = subst (Numbers L P) (sym h.5) (record { last = old.last; calls = old.calls })
  numbers_happens w new (WorldEvent.Report call left fault) seen more fit h old =
      let met = option_map WriterFailed fault in
      subst (Numbers L P) (sym h.3)
      (each_report (Numbers L P) call (report_for h.0.kind left fault) (λ v key part at waits o. record { last = o.last; calls = o.calls })
      (with_met_by w call met) (keys_reported (reported_now w call h.0))
      (record { last = old.last; calls = each_taken call (λ x. Some (with_met met x)) (λ u. P u.caller) h.0 w.calls h.1 (λ v goes b. subst P (sym (taken_met met h.0 v goes).caller_is) b) old.calls }))
  numbers_happens w new (WorldEvent.Commit call key) seen more fit h old =
      subst (Numbers L P) (sym (ends_as w new call key h.0 h.2 h.4 seen.outcome h.5).4) (record { last = old.last; calls = calls_settled w call key _ old })
  numbers_happens w new (WorldEvent.Withdraw call key) seen more fit h old = subst (Numbers L P) (sym h.7) (record { last = old.last; calls = old.calls })
  numbers_happens w new (WorldEvent.Invalidate key) seen more fit h old = subst (Numbers L P) (sym h.5) (record { last = old.last; calls = old.calls })
  numbers_happens w new (WorldEvent.Leave call) seen more fit h old = subst (Numbers L P) (sym h.1) (record { last = old.last; calls = each_filter (λ u. P u.caller) (λ x. not (has_number call x)) w.calls old.calls })
  numbers_happens w new (WorldEvent.Foreign key value) seen more fit h old = subst (Numbers L P) (sym h.1) (record { last = old.last; calls = old.calls })
  numbers_happens w new (WorldEvent.Reopen config) seen more fit h old = subst (Numbers L P) (sym h.1) (record { last = old.last; calls = tt })
  numbers_happens w new e seen more fit h old = let k = key_change w new e seen refl h in numbers_key w new e k.0 seen k.1 old

  -- and of any event
  pub numbers_step : (w new : WorldState) (e : WorldEvent) (seen : Shown) → ((c : Caller) → is_new w.last c.call ≡ true → L (Some c.call) × P c) → Step w e seen new → Numbers L P w → Numbers L P new
  numbers_step w new e seen more (inl (fit, happens)) old = numbers_happens w new e seen more fit happens old
  numbers_step w new e seen more (inr (unfit, shows, is)) old = subst (Numbers L P) (sym is) old

-- 2. A call that has begun.

abbrev pub IsPast : ℕ → WorldState → Type 0
IsPast call w = is_up_to w.last call ≡ true

each_any : (us : List CallState) → Each (λ u. Unit {0}) us
each_any [] = tt
each_any (u ∷ us) = (tt, each_any us)

pub past_step : (call : ℕ) (w new : WorldState) (e : WorldEvent) (seen : Shown) → Step w e seen new → IsPast call w → IsPast call new
past_step call w new e seen step past =
    (numbers_step (λ last. is_up_to last call ≡ true) (λ c. Unit {0}) w new e seen (λ c higher. (up_more w.last c.call call higher past, tt)) step (record { last = past; calls = each_any w.calls })).last

-- 3. A call that is over.

abbrev pub IsOver : ℕ → WorldState → Type 0
IsOver call = Numbers (λ last. is_up_to last call ≡ true) (λ c. (c.call == call) ≡ false)

-- a higher number is another
higher_apart : (last : Option ℕ) (call other : ℕ) → is_up_to last call ≡ true → is_new last other ≡ true → (other == call) ≡ false
higher_apart None call other past higher = cc
higher_apart (Some last) call other past higher = grind (arith, nat_tests)

pub over_step : (call : ℕ) (w new : WorldState) (e : WorldEvent) (seen : Shown) → Step w e seen new → IsOver call w → IsOver call new
over_step call w new e seen step over =
    numbers_step (λ last. is_up_to last call ≡ true) (λ c. (c.call == call) ≡ false) w new e seen (λ c higher. (up_more w.last c.call call higher over.last, higher_apart w.last call c.call over.last higher)) step over

pub over_run : (call : ℕ) (w new : WorldState) (es : List WorldEvent) (ss : List Shown) → Run w es ss new → IsOver call w → IsOver call new
over_run call w new [] [] run over = subst (IsOver call) (sym run) over
over_run call w new (e ∷ es) (s ∷ ss) (mid, step, rest) over = over_run call mid new es ss rest (over_step call w mid e s step over)
over_run call w new es ss run over = absurd run

pub over_reopened : (call : ℕ) (w : WorldState) (config : Config) → IsPast call w → IsOver call (after_reopening config w)
over_reopened call w config past = record { last = past; calls = tt }

-- it isn't under way
none_open : (call : ℕ) (us : List CallState) → Each (λ u. (u.caller.call == call) ≡ false) us → find (has_number call) us ≡ None
none_open call [] each = refl
none_open call (u ∷ us) each = ap (λ b. cond b (Some u) (find (has_number call) us)) each.0 ∙ none_open call us each.1

-- 4. What is reserved is so by a call under way.

-- the call of a part
call_of_part : (w : WorldState) (key : Bytes) (part : Part) → get w.parts key ≡ Some part → IsSoundWorld w → (u : CallState) × (open_call w part.reservation.caller.call ≡ Some u)
call_of_part w key part there old =
    let r = part.reservation in
    let held = some_of (stripe_for w key) (λ s. IsHeld s key part) (old.held key part there) in
    let owned = fact_found (IsOwned w) (is_key r.key) held.0.reservations r held.2.out (old.owned (home w key) held.0 held.1) in
    let u = some_of (open_call w r.caller.call) (IsCallOf r.caller.session r.key r.op) owned.call in
    (u.0, u.1)

-- it has begun
pub past_part : (w : WorldState) (key : Bytes) (part : Part) → get w.parts key ≡ Some part → IsSoundWorld w → IsPast part.reservation.caller.call w
past_part w key part there old =
    let u = call_of_part w key part there old in
    let number = (fits_found w (has_number part.reservation.caller.call) w.calls u.0 u.1 old.calls).number in
    ap (is_up_to w.last) (sym (found_number part.reservation.caller.call w.calls u.0 u.1)) ∙ number

-- and isn't over
pub over_part : (w : WorldState) (key : Bytes) (part : Part) → get w.parts key ≡ Some part → IsSoundWorld w → IsOver part.reservation.caller.call w → ⊥
over_part w key part there old over =
    let u = call_of_part w key part there old in
    let t : None ≡ Some u.0 = sym (none_open part.reservation.caller.call w.calls over.calls) ∙ u.1 in cc
