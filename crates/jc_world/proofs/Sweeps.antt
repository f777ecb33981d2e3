-- Each call that looks at the stripes has taken keys of those at which it has looked: each event keeps that.
--     sweeps_left, sweep_found      what is left of a call once a key is settled, and once it has taken keys
--     sweeps_happens                any event that fits
use Rattle.jc_world.proofs.Common.{◌≡◌, ℕ, true, false, cond, not, ◌||◌, List, [], ◌∷◌, ◌++◌, is_some, ◌==◌, Some, None, Option, find, sym, refl, ap, ◌∙◌, subst, append-nil, eqb-true, and_parts, or_right, nat_eq_equiv, list_any-append, is_some-lookup, pointwise, list_any, list_all, lookup, option_or, stripe_of, Config, Refusal, Bytes, Op, Command, Shown, WorldEvent, at_each, SweepState, CallState, new_call, has_number, opened, going_on, with_met, settle, has_looked, has_looked_at_each, next_sweep, with_swept_keys, look, with_met_by, Happens, fits, Each, Sweeps, IsSoundWorld, WorldState, open_call}
use Rattle.jc_world.proofs.Lemmas.{each_pushed, each_filter, same_bytes, Left, going_is, each_settled, opened_cases, each_taken, keys-at_each, lookup-found, KeyChange, by_nothing, by_refusal, by_step, by_reservation, by_join, by_commit, by_withdrawal, by_mark, by_answer, by_retry, key_change, IsWhole}
use Rattle.jc_world.proofs.StripeKeys.{all_here}

-- 1. One call.

pub sweeps_left : (config : Config) (call : ℕ) (key : Bytes) (u v : CallState) → Left call key u v → Sweeps config u → Sweeps config v
sweeps_left config call key u v left old s is q there =
    old s (sym left.sweep_is ∙ is) q
    (is_some-lookup (pointwise ◌==◌ q) u.tasks ∙ ap (list_any (pointwise ◌==◌ q)) (sym left.keys_are) ∙ sym (is_some-lookup (pointwise ◌==◌ q) v.tasks) ∙ there)

-- a call that has just begun has no keys, if it looks at the stripes
sweeps_new : (config : Config) (call session : ℕ) (c : Command) → Sweeps config (new_call call session c)
sweeps_new config call session (Command.Single op key) s is q there = cc
sweeps_new config call session c s is q there = cc

-- behind a look
behind_next : (stripes stripe : ℕ) (s next : SweepState) → next_sweep stripes stripe s ≡ Some next → next.looked ≡ s.looked ++ stripe ∷ []
behind_next stripes stripe s next h =
    let looked = s.looked ++ stripe ∷ [] in
    elim (has_looked_at_each looked stripes) as (λ b. cond b None (Some (record s { looked = looked })) ≡ Some next → next.looked ≡ looked) [
      | true ↦ λ h. cc
      | false ↦ λ h. let is : looked ≡ next.looked = cc in sym is
    ] h

-- one of these keys
among_here : (stripes i : ℕ) (keys : List Bytes) (q : Bytes) → list_all (λ k. stripe_of k stripes == i) keys ≡ true → list_any (pointwise ◌==◌ q) keys ≡ true → stripe_of q stripes ≡ i
among_here stripes i [] q here there = cc
among_here stripes i (key ∷ keys) q here there =
    let parts = and_parts (stripe_of key stripes == i) (list_all (λ k. stripe_of k stripes == i) keys) here in
    elim (pointwise ◌==◌ q key) as (λ b. pointwise ◌==◌ q key ≡ b → (b || list_any (pointwise ◌==◌ q) keys) ≡ true → stripe_of q stripes ≡ i) [
      | true ↦ λ e there. ap (λ k. stripe_of k stripes) (same_bytes q key e) ∙ eqb-true (stripe_of key stripes) i parts.0
      | false ↦ λ e there. among_here stripes i keys q parts.1 there
    ] refl there

pub sweep_found : (config : Config) (stripe : ℕ) (keys : List Bytes) (s : SweepState) (u v : CallState) → u.sweep ≡ Some s → list_all (λ k. stripe_of k config.stripes == stripe) keys ≡ true → going_on (with_swept_keys config.stripes stripe keys s u) ≡ Some v
    → Sweeps config u → Sweeps config v
sweep_found config stripe keys s u v sweeps here goes old =
    subst (Sweeps config) (sym (going_is (with_swept_keys config.stripes stripe keys s u) v goes)) (λ next is q there.
    let test = pointwise ◌==◌ q in
    ap (λ looked. has_looked looked (stripe_of q config.stripes)) (behind_next config.stripes stripe s next is)
    ∙ list_any-append (λ other. other == stripe_of q config.stripes) s.looked (stripe ∷ [])
    ∙ by q (lookup test u.tasks) refl (lookup test (at_each s.op keys)) refl (ap is_some (sym (lookup-found test u.tasks (at_each s.op keys))) ∙ there))
  where
    by : (q : Bytes) (o : Option (Option Op)) → lookup (pointwise ◌==◌ q) u.tasks ≡ o → (p : Option (Option Op)) → lookup (pointwise ◌==◌ q) (at_each s.op keys) ≡ p → is_some (option_or o p) ≡ true
        → (has_looked s.looked (stripe_of q config.stripes) || has_looked (stripe ∷ []) (stripe_of q config.stripes)) ≡ true
    by q (Some x) e p f there = ap (λ b. b || has_looked (stripe ∷ []) (stripe_of q config.stripes)) (old s sweeps q (ap is_some e))
    by q None e None f there = cc
    by q None e (Some x) f there =
        let at = among_here config.stripes stripe keys q here (ap (list_any (pointwise ◌==◌ q)) (sym (keys-at_each s.op keys)) ∙ sym (is_some-lookup (pointwise ◌==◌ q) (at_each s.op keys)) ∙ ap is_some f) in
        or_right (has_looked s.looked (stripe_of q config.stripes)) (has_looked (stripe ∷ []) (stripe_of q config.stripes))
        (ap (λ n. (stripe == n) || false) at ∙ ap (λ b. b || false) (nat_eq_equiv.refl stripe))

-- 2. Each event.

abbrev pub AllSweep : WorldState → Type 0
AllSweep w = Each (Sweeps w.config) w.calls

sweeps_settled : (w : WorldState) (call : ℕ) (key : Bytes) (met : Option Refusal) → AllSweep w → Each (Sweeps w.config) (settle call key met w.calls)
sweeps_settled w call key met old = each_settled call key met (Sweeps w.config) w.calls (sweeps_left w.config call key) old

-- by the kind of the change at a key
pub sweeps_key : (w new : WorldState) (e : WorldEvent) (key : Bytes) (seen : Shown) → KeyChange w new e key seen → AllSweep w → AllSweep new
sweeps_key w new e key seen (by_nothing is none ends) old = subst AllSweep (sym is) old
sweeps_key w new e key seen (by_refusal u op refusal may is none ends) old = subst AllSweep (sym is) (sweeps_settled w u.caller.call key _ old)
sweeps_key w new e key seen (by_step u op from to x may there h home_is is shows ends) old = subst AllSweep (sym is) (sweeps_settled w u.caller.call key _ old)
sweeps_key w new e key seen (by_reservation u op from to p r may there h is none ends) old = subst AllSweep (sym is) old
sweeps_key w new e key seen (by_join u op from to join may there h is none ends) old = subst AllSweep (sym is) old
sweeps_key w new e key seen (by_commit call part from to x e_is part_is there h home_is is shows) old = subst AllSweep (sym is) (sweeps_settled w call key _ old)
sweeps_key w new e key seen (by_withdrawal call part from to e_is part_is there h is shows) old = subst AllSweep (sym is) old
sweeps_key w new e key seen (by_mark from to there out h reached is none ends) old = subst AllSweep (sym is) old
sweeps_key w new e key seen (by_answer call join from to x e_is join_is there h home_is is shows ends) old = subst AllSweep (sym is) (sweeps_settled w call key _ old)
sweeps_key w new e key seen (by_retry call join from to e_is join_is there h is shows ends) old = subst AllSweep (sym is) old

sweeps_called : (w : WorldState) (call session : ℕ) (c : Command) → IsSoundWorld w → Each (Sweeps w.config) (w.calls ++ opened (new_call call session c))
sweeps_called w call session c old =
    let u = new_call call session c in
    opened_cases u (λ more. Each (Sweeps w.config) (w.calls ++ more))
    (each_pushed (Sweeps w.config) w.calls u old.sweeps (sweeps_new w.config call session c))
    (subst (Each (Sweeps w.config)) (sym (append-nil w.calls)) old.sweeps)

sweeps_looked : (w : WorldState) (call stripe : ℕ) (keys : List Bytes) (s : SweepState) (u : CallState) → find (has_number call) w.calls ≡ Some u → u.sweep ≡ Some s → list_all (λ k. stripe_of k w.config.stripes == stripe) keys ≡ true → AllSweep w
    → Each (Sweeps w.config) (look call w.config.stripes stripe keys s w.calls)
sweeps_looked w call stripe keys s u here sweeps own old =
    each_taken call (λ u. going_on (with_swept_keys w.config.stripes stripe keys s u)) (Sweeps w.config) u w.calls here (λ v goes h. sweep_found w.config stripe keys s u v sweeps own goes h) old

pub sweeps_met : (w : WorldState) (call : ℕ) (met : Option Refusal) (u : CallState) → open_call w call ≡ Some u → AllSweep w → AllSweep (with_met_by w call met)
sweeps_met w call met u here old = each_taken call (λ x. Some (with_met met x)) (Sweeps w.config) u w.calls here (λ v goes h. let is : with_met met u ≡ v = cc in subst (Sweeps w.config) is h) old

pub sweeps_happens : (w new : WorldState) (e : WorldEvent) (seen : Shown) → fits w e ≡ true → Happens w e seen new → (IsWhole e → IsSoundWorld new) → IsSoundWorld w → AllSweep new
sweeps_happens w new (WorldEvent.Call call session command) seen fit h back old = subst AllSweep (sym h.1) (sweeps_called w call session command old)
sweeps_happens w new (WorldEvent.Look call stripe) seen fit h back old =
    let own = all_here w stripe h.4 h.6 (old.shape.each stripe h.4 h.5) h.7 in
    subst AllSweep (sym h.9) (sweeps_looked w call stripe h.6 h.1 h.0 h.2 h.3 own old.sweeps)
sweeps_happens w new (WorldEvent.Change call key) seen fit h back old = subst AllSweep (sym h.5) old.sweeps
sweeps_happens w new (WorldEvent.Report call left fault) seen fit h back old = (back tt).sweeps
sweeps_happens w new (WorldEvent.Leave call) seen fit h back old = subst AllSweep (sym h.1) (each_filter (Sweeps w.config) (λ u. not (has_number call u)) w.calls old.sweeps)
sweeps_happens w new (WorldEvent.Foreign key value) seen fit h back old = subst AllSweep (sym h.1) old.sweeps
sweeps_happens w new (WorldEvent.Read call key) seen fit h back old = subst AllSweep (sym h.3) old.sweeps
sweeps_happens w new (WorldEvent.Say call key answer) seen fit h back old = subst AllSweep (sym h.3) old.sweeps
sweeps_happens w new (WorldEvent.Process call key source calls fail) seen fit h back old = subst AllSweep (sym h.3) old.sweeps
sweeps_happens w new (WorldEvent.Commit call key) seen fit h back old = (back tt).sweeps
sweeps_happens w new (WorldEvent.Withdraw call key) seen fit h back old = (back tt).sweeps
sweeps_happens w new (WorldEvent.Invalidate key) seen fit h back old = (back tt).sweeps
sweeps_happens w new (WorldEvent.Reopen config) seen fit h back old = (back tt).sweeps
sweeps_happens w new e seen fit h back old = let k = key_change w new e seen refl h in sweeps_key w new e k.0 seen k.1 old.sweeps
