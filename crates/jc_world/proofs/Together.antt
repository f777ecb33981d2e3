-- Events of one call at keys that differ: what fits at one of them fits as well after what happens at another.
--     Keeps           at a key, a call is as far in one world as in another
--     kept_fit        what fits at such a key fits in either
--     keeps_other     what happens at a key keeps every other key of the call
--     own_call        a call's own number
--     fit_together    what fits at keys that differ fits one after the other
use Rattle.jc_world.proofs.Common.{◌≡◌, ℕ, Bool, true, false, cond, not, ◌&&◌, ◌||◌, List, [], ◌∷◌, ◌++◌, map, is_some, is_none, IsSomeAnd, ◌==◌, Some, None, Option, find, sym, refl, ap, ◌∙◌, subst, inl, append-nil, and_parts, and_from, or_right, eqb-true, nat_eq_equiv, nat_list_eq_equiv, IsDistinct-head, IsDistinct-tail, pointwise, get, insert, remove, list_all, AllByRecursion, IsDistinct, Refusal, is_among, Bytes, Cache, is_load_given, Op, JoinClaim, Part, Premises, Shown, WorldEvent, CallState, has_number, op_at, open_keys, settle, Happens, AllFit, is_free, may_start, may_leave, fits, IsCallOf, IsSoundWorld, at_call, key_at, FitTogether, JoinKey, join_key, Parts, WorldState, open_call, of_call, part_of, has_progress, waits_for_load, has_join, is_joined}
use Rattle.jc_world.proofs.Lemmas.{is_some_and, same_bytes, still_called, KeyChange, by_nothing, by_refusal, by_step, by_reservation, by_join, by_commit, by_withdrawal, by_mark, by_answer, by_retry, start_change, pick_change, ends_as, some_of}
use Rattle.jc_world.proofs.Fitting.{none_fit, fits_then, one_fits, unjoined_held}
use Rattle.jc_world.proofs.Maps.{keys_ordered, joins_ordered, get-beside, get-left, get-gone}
use Rattle.jc_world.proofs.Sounding.{Laws, sound_step}
use Rattle.jc_world.proofs.WriterBatches.{change_kept, report_kept}

-- 1. What fits at a key of a call.

record Keeps (w mid : WorldState) (call : ℕ) (key : Bytes) : Type 0 where
  called : (session : ℕ) (op : Op) → IsSomeAnd (open_call w call) (IsCallOf session key op) → IsSomeAnd (open_call mid call) (IsCallOf session key op)
  part : part_of mid call key ≡ part_of w call key
  joined : is_joined mid call key ≡ is_joined w call key

-- of a first phase
kept_start : (w mid : WorldState) (call : ℕ) (key : Bytes) → Keeps w mid call key → may_start w call key (open_call w call) ≡ true → may_start mid call key (open_call mid call) ≡ true
kept_start w mid call key keeps fit = go (open_call w call) refl
  where
    free : is_free mid call key ≡ is_free w call key
    free = λ i. is_none (keeps.part i) && not (keeps.joined i)

    at : (u : CallState) → open_call w call ≡ Some u → (o : Option Op) → op_at u key ≡ o → may_start mid call key (open_call mid call) ≡ true
    at u here None is =
        let tests = and_parts (is_some (op_at u key)) (is_free w call key) (sym (ap (may_start w call key) here) ∙ fit) in
        let t : false ≡ true = sym (ap is_some is) ∙ tests.0 in cc
    at u here (Some op) is =
        let tests = and_parts (is_some (op_at u key)) (is_free w call key) (sym (ap (may_start w call key) here) ∙ fit) in
        let v = some_of (open_call mid call) (IsCallOf u.caller.session key op) (keeps.called u.caller.session op (is_some_and (open_call w call) (IsCallOf u.caller.session key op) u here (refl, is))) in
        ap (may_start mid call key) v.1 ∙ and_from _ _ (ap is_some v.2.1) (free ∙ tests.1)

    go : (o : Option CallState) → open_call w call ≡ o → may_start mid call key (open_call mid call) ≡ true
    go None e = let t : false ≡ true = sym (ap (may_start w call key) e) ∙ fit in cc
    go (Some u) e = at u e (op_at u key) refl

-- an event at a key of a call names both
named : (call other : ℕ) (key q : Bytes) → at_call call other key ≡ Some q → (other ≡ call) × (key ≡ q)
named call other key q h =
    elim (other == call) as (λ b. (other == call) ≡ b → cond b (Some key) None ≡ Some q → (other ≡ call) × (key ≡ q)) [
      | true ↦ λ e h. (eqb-true other call e, cc)
      | false ↦ λ e h. cc
    ] refl h

-- a fact of a key of a call, if an event names them
at_named : (call other : ℕ) (key q : Bytes) (P : ℕ → Bytes → Type 0) → (other ≡ call) × (key ≡ q) → P call q → P other key
at_named call other key q P is h = subst (λ n. P n key) (sym is.0) (subst (P call) (sym is.1) h)

kept_part : (w mid : WorldState) (call other : ℕ) (key q : Bytes) → at_call call other key ≡ Some q → Keeps w mid call q → part_of mid other key ≡ part_of w other key
kept_part w mid call other key q at keeps = at_named call other key q (λ n k. part_of mid n k ≡ part_of w n k) (named call other key q at) keeps.part

kept_fit : (w mid : WorldState) (call : ℕ) (e : WorldEvent) (q : Bytes) → key_at call e ≡ Some q → Keeps w mid call q → fits w e ≡ true → fits mid e ≡ true
kept_fit w mid call (WorldEvent.Start other key) q at keeps fit =
    at_named call other key q (λ n k. fits w (WorldEvent.Start n k) ≡ true → fits mid (WorldEvent.Start n k) ≡ true) (named call other key q at) (kept_start w mid call q keeps) fit
kept_fit w mid call (WorldEvent.Read other key) q at keeps fit = ap (has_progress _) (kept_part w mid call other key q at keeps) ∙ fit
kept_fit w mid call (WorldEvent.Say other key answer) q at keeps fit = ap (λ o. is_load_given answer && has_progress waits_for_load o) (kept_part w mid call other key q at keeps) ∙ fit
kept_fit w mid call (WorldEvent.Process other key source calls fail) q at keeps fit = ap (has_progress _) (kept_part w mid call other key q at keeps) ∙ fit
kept_fit w mid call (WorldEvent.Commit other key) q at keeps fit = ap (has_progress _) (kept_part w mid call other key q at keeps) ∙ fit
kept_fit w mid call (WorldEvent.Withdraw other key) q at keeps fit = ap (has_progress _) (kept_part w mid call other key q at keeps) ∙ fit
kept_fit w mid call (WorldEvent.PickUp other key) q at keeps fit =
    at_named call other key q (λ n k. is_joined mid n k ≡ is_joined w n k) (named call other key q at) keeps.joined ∙ fit
kept_fit w mid call e q at keeps fit = cc

-- 2. What happens at another key.

part_beside : (parts : Parts) (q key : Bytes) (part : Part) (call : ℕ) → (q ≡ key → ⊥) → of_call call (get (insert parts key part) q) ≡ of_call call (get parts q)
part_beside parts q key part call apart = ap (of_call call) (get-beside keys_ordered parts key part q apart)

part_without : (parts : Parts) (q key : Bytes) (call : ℕ) → (q ≡ key → ⊥) → of_call call (get (remove parts key) q) ≡ of_call call (get parts q)
part_without parts q key call apart = ap (of_call call) (get-left keys_ordered parts key q apart)

-- a join of another key
join_more : (w : WorldState) (call : ℕ) (q : Bytes) (join : JoinClaim) → (q ≡ join.key → ⊥) → has_join (insert w.joins (join_key join) join) call q ≡ is_joined w call q
join_more w call q join apart = ap is_some (get-beside joins_ordered w.joins (join_key join) join (call, q) (λ same. apart (ap (λ (at : JoinKey). at.1) same)))

join_less : (w : WorldState) (call other : ℕ) (q key : Bytes) → (q ≡ key → ⊥) → has_join (remove w.joins (other, key)) call q ≡ is_joined w call q
join_less w call other q key apart = ap is_some (get-left joins_ordered w.joins (other, key) (call, q) (λ same. apart (ap (λ (at : JoinKey). at.1) same)))

-- a key of a call that was settled leaves its others
called_settled : (w : WorldState) (call other : ℕ) (q key : Bytes) (met : Option Refusal) → (q ≡ key → ⊥) → (session : ℕ) (op : Op) → IsSomeAnd (open_call w call) (IsCallOf session q op)
    → IsSomeAnd (find (has_number call) (settle other key met w.calls)) (IsCallOf session q op)
called_settled w call other q key met apart session op h = still_called other key met call session q op w.calls (λ mine same. apart same) h

-- by the kind of the change at a key
keeps_key : (w mid : WorldState) (call : ℕ) (e : WorldEvent) (key q : Bytes) (seen : Shown) → KeyChange w mid e key seen → (q ≡ key → ⊥) → fits w e ≡ true → IsSoundWorld w → Keeps w mid call q
keeps_key w mid call e key q seen (by_nothing is none ends) apart fit old = subst (λ m. Keeps w m call q) (sym is) (record { called = λ session op h. h; part = refl; joined = refl })
keeps_key w mid call e key q seen (by_refusal u op refusal start is none ends) apart fit old =
    subst (λ m. Keeps w m call q) (sym is) (record { called = called_settled w call u.caller.call q key _ apart; part = refl; joined = refl })
keeps_key w mid call e key q seen (by_step u op from to x start there h home_is is shows ends) apart fit old =
    subst (λ m. Keeps w m call q) (sym is) (record { called = called_settled w call u.caller.call q key _ apart; part = refl; joined = refl })
keeps_key w mid call e key q seen (by_reservation u op from to p r start there h is none ends) apart fit old =
    subst (λ m. Keeps w m call q) (sym is) (record { called = λ session op h. h; part = part_beside w.parts q key _ call apart; joined = refl })
keeps_key w mid call e key q seen (by_join u op from to join start there h is none ends) apart fit old =
    let of_key : join.key ≡ key = ap (λ (j : JoinClaim). j.key) h.2 in
    subst (λ m. Keeps w m call q) (sym is) (record { called = λ session op h. h; part = refl; joined = join_more w call q join (λ same. apart (same ∙ of_key)) })
keeps_key w mid call e key q seen (by_commit other part from to x e_is part_is there h home_is is shows) apart fit old =
    subst (λ m. Keeps w m call q) (sym is) (record { called = called_settled w call other q key _ apart; part = part_without w.parts q key call apart; joined = refl })
keeps_key w mid call e key q seen (by_withdrawal other part from to e_is part_is there h is shows) apart fit old =
    subst (λ m. Keeps w m call q) (sym is) (record { called = λ session op h. h; part = part_without w.parts q key call apart; joined = refl })
keeps_key w mid call e key q seen (by_mark from to there out h reached is none ends) apart fit old = subst (λ m. Keeps w m call q) (sym is) (record { called = λ session op h. h; part = refl; joined = refl })
keeps_key w mid call e key q seen (by_answer other join from to x e_is join_is there h home_is is shows ends) apart fit old =
    subst (λ m. Keeps w m call q) (sym is) (record { called = called_settled w call other q key _ apart; part = refl; joined = join_less w call other q key apart })
keeps_key w mid call e key q seen (by_retry other join from to e_is join_is there h is shows ends) apart fit old =
    subst (λ m. Keeps w m call q) (sym is) (record { called = λ session op h. h; part = refl; joined = join_less w call other q key apart })

-- what is told of a key leaves the others
keeps_told : (w : WorldState) (call : ℕ) (key q : Bytes) (part : Part) (store : Cache) (premises : Premises) → (q ≡ key → ⊥) → Keeps w (record w { parts = insert w.parts key part; store = store; premises = premises }) call q
keeps_told w call key q part store premises apart = record { called = λ session op h. h; part = part_beside w.parts q key part call apart; joined = refl }

-- the call of an event that is at a key
keeps_other : (w mid : WorldState) (call : ℕ) (e : WorldEvent) (seen : Shown) (key q : Bytes) → key_at call e ≡ Some key → (q ≡ key → ⊥) → fits w e ≡ true → Happens w e seen mid → IsSoundWorld w → Keeps w mid call q
keeps_other w mid call (WorldEvent.Start other k) seen key q at apart fit h old =
    keeps_key w mid call (WorldEvent.Start other k) k q seen (start_change w mid (WorldEvent.Start other k) h.0 k h.1 h.4 h.6 seen.outcome seen refl (λ r. refl) (record { call = other; e_is = refl; here = h.2; op_is = h.3 }) h.5 h.7) (λ same. apart (same ∙ (named call other k key at).1)) fit old
keeps_other w mid call (WorldEvent.Read other k) seen key q at apart fit h old = subst (λ m. Keeps w m call q) (sym h.3) (keeps_told w call k q _ _ _ (λ same. apart (same ∙ (named call other k key at).1)))
keeps_other w mid call (WorldEvent.Say other k answer) seen key q at apart fit h old = subst (λ m. Keeps w m call q) (sym h.3) (keeps_told w call k q _ _ _ (λ same. apart (same ∙ (named call other k key at).1)))
keeps_other w mid call (WorldEvent.Process other k source calls fail) seen key q at apart fit h old = subst (λ m. Keeps w m call q) (sym h.3) (keeps_told w call k q _ _ _ (λ same. apart (same ∙ (named call other k key at).1)))
keeps_other w mid call (WorldEvent.Commit other k) seen key q at apart fit h old =
    let beside : q ≡ k → ⊥ = λ same. apart (same ∙ (named call other k key at).1) in
    subst (λ m. Keeps w m call q) (sym (ends_as w mid other k h.0 h.2 h.4 seen.outcome h.5).4) (record { called = called_settled w call other q k _ beside; part = part_without w.parts q k call beside; joined = refl })
keeps_other w mid call (WorldEvent.Withdraw other k) seen key q at apart fit h old =
    subst (λ m. Keeps w m call q) (sym h.7) (record { called = λ session op h. h; part = part_without w.parts q k call (λ same. apart (same ∙ (named call other k key at).1)); joined = refl })
keeps_other w mid call (WorldEvent.PickUp other k) seen key q at apart fit h old =
    keeps_key w mid call (WorldEvent.PickUp other k) k q seen (pick_change w mid other k h.0 h.2 h.4 seen.outcome seen refl h.1 h.3 h.5) (λ same. apart (same ∙ (named call other k key at).1)) fit old
keeps_other w mid call e seen key q at apart fit h old = cc

-- 3. Events at keys that differ.

-- keys that differ from a first one
abbrev Apart : Bytes → List Bytes → Type 0
Apart key keys = AllByRecursion (λ later. pointwise ◌==◌ key later ≡ false) keys

not_same : (key q : Bytes) → pointwise ◌==◌ key q ≡ false → q ≡ key → ⊥
not_same key q apart same = let t : true ≡ false = sym (nat_list_eq_equiv.refl key) ∙ ap (pointwise ◌==◌ key) (sym same) ∙ apart in cc

-- of events of one kind, what happens at a key leaves what fits at another
abbrev StillFits : (Bytes → WorldEvent) → Type 0
StillFits event_of =
    (w mid : WorldState) (seen : Shown) (key q : Bytes) → IsSoundWorld w → (q ≡ key → ⊥) → fits w (event_of key) ≡ true → Happens w (event_of key) seen mid
    → fits w (event_of q) ≡ true → fits mid (event_of q) ≡ true

-- what fits at the other keys still fits
rest_kept : (w mid : WorldState) (event_of : Bytes → WorldEvent) → StillFits event_of → (seen : Shown) (key : Bytes) (keys : List Bytes) → fits w (event_of key) ≡ true → Happens w (event_of key) seen mid → IsSoundWorld w → Apart key keys
    → list_all (fits w) (map event_of keys) ≡ true → list_all (fits mid) (map event_of keys) ≡ true
rest_kept w mid event_of still seen key [] fit h old apart all = refl
rest_kept w mid event_of still seen key (q ∷ keys) fit h old apart all =
    let parts = and_parts (fits w (event_of q)) (list_all (fits w) (map event_of keys)) all in
    and_from _ _ (still w mid seen key q old (not_same key q apart.0) fit h parts.0) (rest_kept w mid event_of still seen key keys fit h old apart.1 parts.1)

-- what is so after each event, of the keys that are left, and what then fits
record Goes (event_of : Bytes → WorldEvent) (Q : List Bytes → WorldState → Type 0) (tail : List WorldEvent) : Type 0 where
  still : StillFits event_of
  step : (w mid : WorldState) (seen : Shown) (key : Bytes) (keys : List Bytes) → IsSoundWorld w → fits w (event_of key) ≡ true → Happens w (event_of key) seen mid → Q (key ∷ keys) w → Q keys mid
  end : (w : WorldState) → Q [] w → AllFit w tail

all_together : Laws → (event_of : Bytes → WorldEvent) (Q : List Bytes → WorldState → Type 0) (tail : List WorldEvent) → Goes event_of Q tail → (w : WorldState) (keys : List Bytes) → IsSoundWorld w → IsDistinct (pointwise ◌==◌) keys
    → list_all (fits w) (map event_of keys) ≡ true → Q keys w → AllFit w (map event_of keys ++ tail)
all_together laws event_of Q tail goes w [] old differ all q = goes.end w q
all_together laws event_of Q tail goes w (key ∷ keys) old differ all q =
    let parts = and_parts (fits w (event_of key)) (list_all (fits w) (map event_of keys)) all in
    fits_then w (event_of key) (map event_of keys ++ tail) parts.0 (λ seen mid happens.
    all_together laws event_of Q tail goes mid keys (sound_step laws w (event_of key) seen mid (inl (parts.0, happens)) old) (IsDistinct-tail (pointwise ◌==◌) key keys differ)
    (rest_kept w mid event_of goes.still seen key keys parts.0 happens old (IsDistinct-head (pointwise ◌==◌) key keys differ) parts.1)
    (goes.step w mid seen key keys old parts.0 happens q))

-- an event that is no change of the store
quiet_fits : (call : ℕ) (event_of : Bytes → WorldEvent) → ((key : Bytes) → key_at call (event_of key) ≡ Some key) → StillFits event_of
quiet_fits call event_of at w mid seen key q old apart fit h other =
    kept_fit w mid call (event_of q) q (at q) (keeps_other w mid call (event_of key) seen key q (at key) apart fit h old) other

events_fit : Laws → (w : WorldState) → IsSoundWorld w → (call : ℕ) (event_of : Bytes → WorldEvent) (keys : List Bytes) → ((key : Bytes) → key_at call (event_of key) ≡ Some key) → IsDistinct (pointwise ◌==◌) keys
    → list_all (fits w) (map event_of keys) ≡ true → AllFit w (map event_of keys)
events_fit laws w old call event_of keys at differ all =
    subst (AllFit w) (append-nil (map event_of keys))
    (all_together laws event_of (λ keys w. Unit {0}) [] (record { still = quiet_fits call event_of at; step = λ w mid seen key keys old fit h q. tt; end = λ w q. none_fit w }) w keys old differ all tt)

-- 4. A call's leaving, after the withdrawals of all that it has reserved.

-- the call is under way, and each of its open keys is still to be given back, or free
record IsLeaving (call : ℕ) (keys : List Bytes) (w : WorldState) : Type 0 where
  u : CallState
  here : open_call w call ≡ Some u
  rest : list_all (λ key. is_among keys key || is_free w call key) (open_keys u) ≡ true

all_more : (p q : Bytes → Bool) (keys : List Bytes) → ((key : Bytes) → p key ≡ true → q key ≡ true) → list_all p keys ≡ true → list_all q keys ≡ true
all_more p q [] f h = refl
all_more p q (key ∷ keys) f h = let parts = and_parts (p key) (list_all p keys) h in and_from _ _ (f key parts.0) (all_more p q keys f parts.1)

-- what was still to be given back is free behind its withdrawal
free_then : (w : WorldState) (call : ℕ) (key : Bytes) (keys : List Bytes) (q : Bytes) → is_joined w call key ≡ false → (is_among (key ∷ keys) q || is_free w call q) ≡ true
    → (is_among keys q || (is_none (of_call call (get (remove w.parts key) q)) && not (is_joined w call q))) ≡ true
free_then w call key keys q alone h =
    elim (pointwise ◌==◌ q key) as (λ b. pointwise ◌==◌ q key ≡ b → ((b || is_among keys q) || is_free w call q) ≡ true → (is_among keys q || (is_none (of_call call (get (remove w.parts key) q)) && not (is_joined w call q))) ≡ true) [
      | true ↦ λ e h.
          let same = same_bytes q key e in
          or_right (is_among keys q) _ (and_from _ _
          (ap (λ o. is_none (of_call call o)) (ap (get (remove w.parts key)) same ∙ get-gone keys_ordered w.parts key))
          (ap not (ap (is_joined w call) same ∙ alone)))
      | false ↦ λ e h.
          let apart : q ≡ key → ⊥ = λ same. (let t : true ≡ false = sym (nat_list_eq_equiv.refl key) ∙ ap (λ k. pointwise ◌==◌ k key) (sym same) ∙ e in cc) in
          ap (λ o. is_among keys q || (is_none o && not (is_joined w call q))) (part_without w.parts q key call apart) ∙ h
    ] refl h

-- a call's own number
pub own_call : (call : ℕ) (key : Bytes) → at_call call call key ≡ Some key
own_call call key = ap (λ b. cond b (Some key) None) (nat_eq_equiv.refl call)

goes_leaving : (call : ℕ) → Goes (WorldEvent.Withdraw call) (IsLeaving call) (WorldEvent.Leave call ∷ [])
goes_leaving call = record {
  still = quiet_fits call (WorldEvent.Withdraw call) (own_call call);
  step = λ w mid seen key keys old fit h q.
      subst (λ m. IsLeaving call keys m) (sym h.7) (record {
        u = q.u;
        here = q.here;
        rest = all_more (λ k. is_among (key ∷ keys) k || is_free w call k) _ (open_keys q.u) (λ k. free_then w call key keys k (unjoined_held w call key fit old)) q.rest;
      });
  end = λ w q. one_fits w (WorldEvent.Leave call) (ap (may_leave w call) q.here ∙ all_more _ _ (open_keys q.u) (λ key t. t) q.rest);
}

leaving_fits : Laws → (w : WorldState) → IsSoundWorld w → (call : ℕ) (u : CallState) (keys : List Bytes) → open_call w call ≡ Some u → IsDistinct (pointwise ◌==◌) keys → list_all (fits w) (map (WorldEvent.Withdraw call) keys) ≡ true
    → list_all (λ key. is_among keys key || is_free w call key) (open_keys u) ≡ true → AllFit w (map (WorldEvent.Withdraw call) keys ++ WorldEvent.Leave call ∷ [])
leaving_fits laws w old call u keys here differ fit rest =
    all_together laws (WorldEvent.Withdraw call) (IsLeaving call) (WorldEvent.Leave call ∷ []) (goes_leaving call) w keys old differ fit (record { u = u; here = here; rest = rest })

-- 5. The writer's return, after its changes of the store.

goes_reporting : (call : ℕ) (left : List Bytes) (fault : Option ℕ) → Goes (WorldEvent.Change call) (λ keys w. fits w (WorldEvent.Report call left fault) ≡ true) (WorldEvent.Report call left fault ∷ [])
goes_reporting call left fault = record {
  still = λ w mid seen key q old apart fit h other. subst (λ m. fits m (WorldEvent.Change call q) ≡ true) (sym h.5) (change_kept w call key q h.0 h.1 h.2 ∙ other);
  step = λ w mid seen key keys old fit h q. subst (λ m. fits m (WorldEvent.Report call left fault) ≡ true) (sym h.5) (report_kept w call key h.0 h.1 h.2 ∙ q);
  end = λ w q. one_fits w (WorldEvent.Report call left fault) q;
}

reporting_fits : Laws → (w : WorldState) → IsSoundWorld w → (call : ℕ) (keys left : List Bytes) (fault : Option ℕ) → IsDistinct (pointwise ◌==◌) keys → list_all (fits w) (map (WorldEvent.Change call) keys) ≡ true
    → fits w (WorldEvent.Report call left fault) ≡ true → AllFit w (map (WorldEvent.Change call) keys ++ WorldEvent.Report call left fault ∷ [])
reporting_fits laws w old call keys left fault differ fit reports =
    all_together laws (WorldEvent.Change call) (λ keys w. fits w (WorldEvent.Report call left fault) ≡ true) (WorldEvent.Report call left fault ∷ []) (goes_reporting call left fault) w keys old differ fit reports

pub fit_together : Laws → (w : WorldState) → IsSoundWorld w → FitTogether w
fit_together laws w old = record {
  events = events_fit laws w old;
  report = reporting_fits laws w old;
  leave = leaving_fits laws w old;
}
