-- Each event keeps what the joins and the joiners of a world say.
--     joins_called, joins_taken, joins_parted, joins_stored     what changes the calls, a part or the store alone
--     joins_phase, joins_joined, joins_picked, joins_key        by the kind of the change at a key
--     joins_happens                    after any event that fits
use Rattle.jc_world.proofs.Common.{foreign_committed, ◌≡◌, ℕ, ◌+◌, Bool, true, false, not, ◌&&◌, List, [], ◌∷◌, ◌++◌, is_some, is_none, IsSomeAnd, ◌==◌, slice_get, slice_set, Some, None, Option, find, sym, refl, ap, ◌∙◌, subst, eqb-true, eq-eqb, and_parts, and_from, false_from_ne_true, nat_eq_equiv, nat_list_eq_equiv, pointwise, get, insert, remove, list_all, Caller, Refusal, none_is, Bytes, Cache, Event, Op, Get, belongs_to, after_resolve, Waiting, Joiner, with_joiner, without_joiner, State, IsJoined, JoinClaim, Reservation, Command, Part, Premises, Shown, WorldEvent, SweepState, CallState, new_call, has_number, op_at, open_keys, opened, settle, drop_call, with_stripe, with_phase, fault_in, with_settled, with_met_by, without_call, with_look, new_part, with_join, Happens, is_free, may_leave, fits, IsCallOf, IsWaitedFor, AllWaitedFor, IsCalled, AllCalled, IsSoundWorld, Parts, JoinKey, join_key, WorldState, home, stripe_for, start, open_call, of_call, part_of, join_of, is_joined, with_new_part}
use Rattle.jc_world.proofs.Lemmas.{denied, missing, joins_half, is_some_and, set_cases, found_test, each_map, fact_found, each_pushed, each_kept, find_over, find_pushed, same_bytes, of_call-at, open_now, still_called, joiner_of, find_kept, joined_resolved, joined_dissolved, joined_front, joined_last, called_resolved, called_dissolved, joined_no_part, other_key, none_inserted, none_removed, part_other, joins_get, MayStart, Picking, picking, looked_called, met_called, at_stripe, stripe_put, KeyChange, by_nothing, by_refusal, by_step, by_reservation, by_join, by_commit, by_withdrawal, by_mark, by_answer, by_retry, key_change, may_of, some_of, IsWhole, Drop, with_dropped}
use Rattle.jc_stripe.specs.Invalidating.{without_entry}
use Rattle.jc_inflight.specs.Taking.{joiners_without as without}
use Rattle.jc_world.proofs.Halves.{HasJoins}
use Rattle.jc_world.proofs.Maps.{joins_ordered, get-here, get-left, still-there, each_put, each_left}

-- 1. What stays.

-- a joiner is of its session, its call and its key
joiner_is : (caller : Caller) (key : Bytes) (j : Joiner) → belongs_to caller key j ≡ true → (j.caller.session ≡ caller.session) × (j.caller.call ≡ caller.call) × (j.key ≡ key)
joiner_is caller key j h =
    let parts = and_parts ((j.caller.session == caller.session) && (j.caller.call == caller.call)) (pointwise ◌==◌ key j.key) h in
    let pair = and_parts (j.caller.session == caller.session) (j.caller.call == caller.call) parts.0 in
    (eqb-true j.caller.session caller.session pair.0, eqb-true j.caller.call caller.call pair.1, sym (same_bytes key j.key parts.1))

-- each join stays in another world, with the same joins
pub kept_joins : (w n : WorldState) → ((j : JoinClaim) → is_joined w j.caller.call j.key ≡ true → IsWaitedFor w j → IsWaitedFor n j) → IsSoundWorld w → AllWaitedFor n w.joins
kept_joins w n f old = λ at j is. let h = old.joins at j is in (h.0, f j (ap (λ p. is_some (get w.joins p)) h.0 ∙ ap is_some is) h.1)

-- what is there stays there if the stripe of a key is another
out_on : (w : WorldState) (key : Bytes) (from to : State) (j : JoinClaim) → stripe_for w key ≡ Some from → (IsJoined from j → IsJoined to j)
    → IsSomeAnd (stripe_for w j.key) (λ s. IsJoined s j) → IsSomeAnd (slice_get (slice_set w.stripes (home w key) to) (home w j.key)) (λ s. IsJoined s j)
out_on w key from to j there keeps =
    let F : State → Type 0 = λ s. IsJoined s j in
    at_stripe w.stripes (home w key) (home w j.key) from to (λ o x. IsSomeAnd o F → IsSomeAnd x F) there keeps (λ h. h)

-- each joiner stays if the stripe of a key is another
called_set : (w n : WorldState) (key : Bytes) (from to : State) → stripe_for w key ≡ Some from → (AllCalled w (home w key) from.joiners → AllCalled n (home w key) to.joiners)
    → ((m : ℕ) (js : List Joiner) → (home w key ≡ m → ⊥) → AllCalled w m js → AllCalled n m js) → IsSoundWorld w
    → (m : ℕ) (s : State) → slice_get (slice_set w.stripes (home w key) to) m ≡ Some s → AllCalled n m s.joiners
called_set w n key from to there here rest old m s =
    set_cases w.stripes (home w key) m to s (λ same is. rw same at (rw is at (here (old.called (home w key) from there)))) (λ apart at. rest m s.joiners apart (old.called m s at))

-- 2. What leaves the stripes.

-- the stripes and the joins are the same, and the calls that have joined continue without a part
joins_beside : (w : WorldState) (last : Option ℕ) (calls : List CallState) (parts : Parts) (store foreign : Cache) (premises : Premises) (fresh : Bool)
    → ((number session : ℕ) (q : Bytes) → is_joined w number q ≡ true → IsSomeAnd (open_call w number) (IsCallOf session q Get) → IsSomeAnd (find (has_number number) calls) (IsCallOf session q Get))
    → ((number : ℕ) (q : Bytes) → part_of w number q ≡ None → of_call number (get parts q) ≡ None) → IsSoundWorld w
    → HasJoins (record w { last = last; calls = calls; parts = parts; store = store; foreign = foreign; premises = premises; is_fresh = fresh })
joins_beside w last calls parts store foreign premises fresh still none old =
    let new : WorldState = record w { last = last; calls = calls; parts = parts; store = store; foreign = foreign; premises = premises; is_fresh = fresh } in
    record {
      joins = kept_joins w new (λ j t h. record { out = h.out; call = still j.caller.call j.caller.session j.key t h.call; no_part = none j.caller.call j.key h.no_part }) old;
      called = λ m s at. each_map (IsCalled w m) (IsCalled new m) s.joiners (λ j h. record { home_is = h.home_is; join = h.join; call = still j.caller.call j.caller.session j.key h.join h.call }) (old.called m s at);
    }

-- the store changes
pub joins_stored : (w : WorldState) (store foreign : Cache) (premises : Premises) (fresh : Bool) → IsSoundWorld w → HasJoins (record w { store = store; foreign = foreign; premises = premises; is_fresh = fresh })
joins_stored w store foreign premises fresh old = joins_beside w w.last w.calls w.parts store foreign premises fresh (λ number session q t h. h) (λ number q h. h) old

-- a key's part stays
pub joins_parted : (w : WorldState) (call : ℕ) (key : Bytes) (was part : Part) (premises : Premises) (store foreign : Cache) → part_of w call key ≡ Some was → part.reservation.caller.call ≡ was.reservation.caller.call → IsSoundWorld w
    → HasJoins (record w { parts = insert w.parts key part; premises = premises; store = store; foreign = foreign })
joins_parted w call key was part premises store foreign is same old =
    let there = (of_call-at call (get w.parts key) was is).0 in
    joins_beside w w.last w.calls (insert w.parts key part) store foreign premises w.is_fresh (λ number session q t h. h)
    (λ number q none. none_inserted w.parts key q part number none (λ e. ap (λ c. c == number) same ∙ part_other (get w.parts key) was number there (ap (λ k. of_call number (get w.parts k)) (sym e) ∙ none))) old

-- a call begins
joins_called : (w : WorldState) (call session : ℕ) (command : Command) → IsSoundWorld w → HasJoins (record w { last = Some call; calls = w.calls ++ opened (new_call call session command); is_fresh = false })
joins_called w call session command old =
    let more : List CallState = opened (new_call call session command) in
    joins_beside w (Some call) (w.calls ++ more) w.parts w.store w.foreign w.premises false (λ number session q t h. find_pushed (has_number number) w.calls more (IsCallOf session q Get) h) (λ number q h. h) old

-- a call has taken keys, or has met something, and each continues at each of its keys
joins_taken : (w : WorldState) (calls : List CallState)
    → ((number session : ℕ) (q : Bytes) (op : Op) → IsSomeAnd (open_call w number) (IsCallOf session q op) → IsSomeAnd (find (has_number number) calls) (IsCallOf session q op)) → IsSoundWorld w → HasJoins (record w { calls = calls })
joins_taken w calls still old = joins_beside w w.last calls w.parts w.store w.foreign w.premises w.is_fresh (λ number session q t h. still number session q Get h) (λ number q h. h) old

joins_looked : (w : WorldState) (call stripe : ℕ) (keys : List Bytes) (s : SweepState) (u : CallState) → open_call w call ≡ Some u → u.sweep ≡ Some s → IsSoundWorld w → HasJoins (with_look w call stripe keys s)
joins_looked w call stripe keys s u here sweeps old = joins_taken w (with_look w call stripe keys s).calls (looked_called w call stripe keys s u here sweeps) old

pub joins_met : (w : WorldState) (call : ℕ) (met : Option Refusal) (u : CallState) → open_call w call ≡ Some u → IsSoundWorld w → HasJoins (with_met_by w call met)
joins_met w call met u here old = joins_taken w (with_met_by w call met).calls (met_called w call met u here) old

-- a call that has joined continues if a key that isn't joined is settled
still_under : (w : WorldState) (call : ℕ) (key : Bytes) (met : Option Refusal) → is_joined w call key ≡ false → (number session : ℕ) (q : Bytes) → is_joined w number q ≡ true
    → IsSomeAnd (open_call w number) (IsCallOf session q Get) → IsSomeAnd (find (has_number number) (settle call key met w.calls)) (IsCallOf session q Get)
still_under w call key met free number session q joined h = still_called call key met number session q Get w.calls (other_key w call key number q free joined) h

-- a first phase was refused, and the key has its last refusal
joins_refused : (w : WorldState) (call : ℕ) (key : Bytes) (met : Option Refusal) → is_joined w call key ≡ false → IsSoundWorld w → HasJoins (with_settled w call key met)
joins_refused w call key met free old =
    joins_beside w w.last (settle call key met w.calls) w.parts w.store w.foreign w.premises w.is_fresh (λ number session q t h. still_under w call key met free number session q t h) (λ number q h. h) old

-- a call without any join goes
still_beside : (w : WorldState) (call : ℕ) (u : CallState) → open_call w call ≡ Some u → list_all (is_free w call) (open_keys u) ≡ true → (number session : ℕ) (q : Bytes) → is_joined w number q ≡ true
    → IsSomeAnd (open_call w number) (IsCallOf session q Get) → IsSomeAnd (find (has_number number) (drop_call call w.calls)) (IsCallOf session q Get)
still_beside w call u is free number session q joined h =
    let v = some_of (open_call w number) (IsCallOf session q Get) h in
    let apart = false_from_ne_true (call == number) (λ e.
    let mine : number ≡ call = sym (eqb-true call number e) in
    let t : Some v.0 ≡ Some u = sym v.1 ∙ ap (open_call w) mine ∙ is in
    let same : v.0 ≡ u = cc in
    let one = open_now (is_free w call) u q Get (ap (λ (x : CallState). op_at x q) (sym same) ∙ v.2.1) free in
    denied (is_joined w call q) (and_parts (is_none (part_of w call q)) (not (is_joined w call q)) one).1 (ap (λ n. is_joined w n q) (sym mine) ∙ joined)) in
    rw (find_over call number w.calls apart) h

-- 3. A phase that changes no join.

-- the world with a stripe, an order, calls and parts that are others
abbrev phase_world : WorldState → Bytes → State → List Event → List CallState → Parts → Cache → WorldState
phase_world w key to order calls parts foreign = record w { stripes = slice_set w.stripes (home w key) to; order = order; calls = calls; parts = parts; foreign = foreign }

-- the stripe keeps its joiners, and the calls that have joined continue without a part
joins_phase : (w : WorldState) (key : Bytes) (from to : State) (order : List Event) (calls : List CallState) (parts : Parts) (foreign : Cache) → stripe_for w key ≡ Some from
    → ((j : JoinClaim) → IsJoined from j → IsJoined to j)
    → ((n : WorldState) → AllCalled n (home w key) from.joiners → AllCalled n (home w key) to.joiners)
    → ((number session : ℕ) (q : Bytes) → is_joined w number q ≡ true → IsSomeAnd (open_call w number) (IsCallOf session q Get) → IsSomeAnd (find (has_number number) calls) (IsCallOf session q Get))
    → ((number : ℕ) (q : Bytes) → is_joined w number q ≡ true → part_of w number q ≡ None → of_call number (get parts q) ≡ None)
    → IsSoundWorld w → HasJoins (phase_world w key to order calls parts foreign)
joins_phase w key from to order calls parts foreign there keeps here still none old =
    let new = phase_world w key to order calls parts foreign in
    let on : (m : ℕ) (j : Joiner) → IsCalled w m j → IsCalled new m j = λ m j h. record { home_is = h.home_is; join = h.join; call = still j.caller.call j.caller.session j.key h.join h.call } in
    record {
      joins = kept_joins w new
          (λ j t h. record {
            out = out_on w key from to j there (keeps j) h.out;
            call = still j.caller.call j.caller.session j.key t h.call;
            no_part = none j.caller.call j.key t h.no_part;
          }) old;
      called = called_set w new key from to there (λ h. here new (each_map (IsCalled w (home w key)) (IsCalled new (home w key)) from.joiners (on (home w key)) h)) (λ m js apart h. each_map (IsCalled w m) (IsCalled new m) js (on m) h) old;
    }

-- joiners that stay
same_joiners : (from to : State) → to.joiners ≡ from.joiners → (j : JoinClaim) → IsJoined from j → IsJoined to j
same_joiners from to same j h = let P : List Joiner → Type 0 = λ js. IsSomeAnd (joiner_of j.caller j.key js) (λ x. x.load ≡ j.load) in subst P (sym same) h

-- and so stay what they have
same_called : (m : ℕ) (from to : State) → to.joiners ≡ from.joiners → (n : WorldState) → AllCalled n m from.joiners → AllCalled n m to.joiners
same_called m from to same n h = subst (AllCalled n m) (sym same) h

-- the part of a key that isn't joined is no joined one's
none_reserved : (w : WorldState) (call : ℕ) (key : Bytes) (part : Part) → part.reservation.caller.call ≡ call → is_joined w call key ≡ false → (number : ℕ) (q : Bytes) → is_joined w number q ≡ true → part_of w number q ≡ None
    → of_call number (get (insert w.parts key part) q) ≡ None
none_reserved w call key part call_is free number q joined none =
    none_inserted w.parts key q part number none (λ same. ap (λ c. c == number) call_is ∙ false_from_ne_true (call == number) (λ e. other_key w call key number q free joined (sym (eqb-true call number e)) same))

-- 4. The first phase.

-- a call without a join has no joiner
pub no_joiner : (w : WorldState) (key : Bytes) (from : State) (join : JoinClaim) → stripe_for w key ≡ Some from → is_joined w join.caller.call join.key ≡ false → IsSoundWorld w → joiner_of join.caller join.key from.joiners ≡ None
no_joiner w key from join there free old = missing (joiner_of join.caller join.key from.joiners) (λ x e.
    let its = joiner_is join.caller join.key x (found_test (belongs_to join.caller join.key) from.joiners x e) in
    let had = (fact_found (IsCalled w (home w key)) (belongs_to join.caller join.key) from.joiners x e (old.called (home w key) from there)).join in
    let t : true ≡ false = sym had ∙ (λ i. is_joined w (its.1 i) (its.2 i)) ∙ free in cc)

-- the call has joined a load
joins_joined : (w : WorldState) (u : CallState) (key : Bytes) (op : Op) (from to : State) (join : JoinClaim) → stripe_for w key ≡ Some from → join ≡ record { caller = u.caller; key = key; load = join.load } → to ≡ with_joiner from join
    → op ≡ Get → MayStart w u key op → IsSoundWorld w → HasJoins (with_join (with_stripe w key to) join)
joins_joined w u key op from to join there join_is to_is get_is may old =
    let new : WorldState = with_join (with_stripe w key to) join in
    let next : Joiner = record { caller = join.caller; key = join.key; load = join.load; state = Waiting } in
    let joiners : to.joiners ≡ from.joiners ++ next ∷ [] = ap (λ (s : State). s.joiners) to_is in
    let J : JoinClaim → List Joiner → Type 0 = λ j js. IsSomeAnd (joiner_of j.caller j.key js) (λ x. x.load ≡ j.load) in
    let keeps : (j : JoinClaim) → IsJoined from j → IsJoined to j = λ j t. subst (J j) (sym joiners) (joined_front (λ x. x.load ≡ j.load) (belongs_to j.caller j.key) from.joiners (next ∷ []) t) in
    let session_is : join.caller.session ≡ u.caller.session = ap (λ (j : JoinClaim). j.caller.session) join_is in
    let call_is : join.caller.call ≡ u.caller.call = ap (λ (j : JoinClaim). j.caller.call) join_is in
    let key_is : join.key ≡ key = ap (λ (j : JoinClaim). j.key) join_is in
    let on : (m : ℕ) (j : Joiner) → IsCalled w m j → IsCalled new m j = λ m j h. record { home_is = h.home_is; join = still-there joins_ordered w.joins (join_key join) join (j.caller.call, j.key) h.join; call = h.call } in
    let its_call : IsSomeAnd (open_call w join.caller.call) (IsCallOf join.caller.session join.key Get) = is_some_and (open_call w join.caller.call) (IsCallOf join.caller.session join.key Get) u (ap (open_call w) call_is ∙ may.here) (sym session_is, ap (op_at u) key_is ∙ may.op_is ∙ ap Some get_is) in
    let one : IsCalled new (home w key) next = record {
      home_is = ap (home w) key_is;
      join = ap is_some (get-here joins_ordered w.joins (join_key join) join);
      call = its_call;
    } in
    let F : State → Type 0 = λ s. IsJoined s join in
    let alone = no_joiner w key from join there ((λ i. is_joined w (call_is i) (key_is i)) ∙ may.alone) old in
    let waits : IsWaitedFor new join = record {
      out = is_some_and (stripe_for new join.key) F to (ap (λ k. slice_get new.stripes (home w k)) key_is ∙ stripe_put w.stripes (home w key) from to there)
          (subst (J join) (sym joiners)
          (joined_last (λ x. x.load ≡ join.load) (belongs_to join.caller join.key) from.joiners next alone
          (and_from _ _ (and_from _ _ (nat_eq_equiv.refl join.caller.session) (nat_eq_equiv.refl join.caller.call)) (nat_list_eq_equiv.refl join.key)) refl));
      call = its_call;
      no_part = (λ i. part_of w (call_is i) (key_is i)) ∙ none_is (part_of w u.caller.call key) may.none;
    } in
    record {
      joins = each_put joins_ordered (λ at j. (join_key j ≡ at) × IsWaitedFor new j) w.joins (join_key join) join (refl, waits)
          (kept_joins w new (λ j t h. record { out = out_on w key from to j there (keeps j) h.out; call = h.call; no_part = h.no_part }) old);
      called = called_set w new key from to there
          (λ h. subst (AllCalled new (home w key)) (sym joiners) (each_pushed (IsCalled new (home w key)) from.joiners next (each_map (IsCalled w (home w key)) (IsCalled new (home w key)) from.joiners (on (home w key)) h) one))
          (λ m js apart h. each_map (IsCalled w m) (IsCalled new m) js (on m) h) old;
    }

-- 5. The last phase.

-- a call with a part has no join of its key
unjoined_part : (w : WorldState) (call : ℕ) (key : Bytes) (part : Part) → part_of w call key ≡ Some part → IsSoundWorld w → is_joined w call key ≡ false
unjoined_part w call key part is old = false_from_ne_true (is_joined w call key) (λ t. let e : Some part ≡ None = sym is ∙ joined_no_part w call key t old.joins in cc)

-- 6. An answer is picked up.

-- the calls that continue: all of them, or all but the one at the key
record GoOn (w : WorldState) (call : ℕ) (key : Bytes) (calls : List CallState) : Type 0 where
  keeps : (number session : ℕ) (q : Bytes) → (number ≡ call → q ≡ key → ⊥) → IsSomeAnd (open_call w number) (IsCallOf session q Get) → IsSomeAnd (find (has_number number) calls) (IsCallOf session q Get)

-- all do
all_go_on : (w : WorldState) (call : ℕ) (key : Bytes) → GoOn w call key w.calls
all_go_on w call key = record { keeps = λ number session q apart h. h }

-- the others do, if the key is settled
others_go_on : (w : WorldState) (call : ℕ) (key : Bytes) (met : Option Refusal) → GoOn w call key (settle call key met w.calls)
others_go_on w call key met = record { keeps = λ number session q apart h. still_called call key met number session q Get w.calls apart h }

-- a call of the number is of the session of the join
session_at : (w : WorldState) (call : ℕ) (key : Bytes) (join : JoinClaim) → Picking w call key join → (number session : ℕ) (q : Bytes) → number ≡ call → IsSomeAnd (open_call w number) (IsCallOf session q Get) → session ≡ join.caller.session
session_at w call key join p number session q same h =
    let v = some_of (open_call w number) (IsCallOf session q Get) h in
    let t : Some v.0 ≡ Some p.u = sym v.1 ∙ ap (open_call w) same ∙ p.here in
    let is : v.0 ≡ p.u = cc in
    sym v.2.0 ∙ ap (λ (x : CallState). x.caller.session) is ∙ p.session_is

-- the join is gone, and its joiner
joins_picked : (w : WorldState) (call : ℕ) (key : Bytes) (join : JoinClaim) (from to : State) (calls : List CallState) → join_of w call key ≡ Some join → stripe_for w key ≡ Some from → to ≡ without_joiner from join → GoOn w call key calls → IsSoundWorld w
    → HasJoins (record w { stripes = slice_set w.stripes (home w key) to; joins = remove w.joins (call, key); calls = calls })
joins_picked w call key join from to calls joined there is go old =
    let new : WorldState = record w { stripes = slice_set w.stripes (home w key) to; joins = remove w.joins (call, key); calls = calls } in
    let p = picking w call key join joined old in
    let its : Joiner → Bool = belongs_to join.caller join.key in
    let joiners : to.joiners ≡ without join.caller join.key from.joiners = ap (λ (s : State). s.joiners) is in
    let out : (j : JoinClaim) → (j.caller.call ≡ call → j.key ≡ key → ⊥) → IsJoined from j → IsJoined to j = λ j other h.
    let J : Option Joiner → Type 0 = λ o. IsSomeAnd o (λ x. x.load ≡ j.load) in
    subst J (sym (ap (joiner_of j.caller j.key) joiners
    ∙ find_kept (belongs_to j.caller j.key) (λ x. not (its x)) from.joiners (λ x t. ap not (false_from_ne_true (its x) (λ e.
    let mine = joiner_is j.caller j.key x t in
    let same = joiner_is join.caller join.key x e in
    other (sym mine.1 ∙ same.1 ∙ p.call_is) (sym mine.2 ∙ same.2 ∙ p.join_key)))))) h
    in
    let on : (m : ℕ) (j : Joiner) → (j.key ≡ key → j.caller.call ≡ call → j.caller.session ≡ join.caller.session → ⊥) → IsCalled w m j → IsCalled new m j = λ m j other h.
    let apart = λ (mine : j.caller.call ≡ call) (at : j.key ≡ key). other at mine (session_at w call key join p j.caller.call j.caller.session j.key mine h.call) in
    record {
      home_is = h.home_is;
      join = ap is_some (get-left joins_ordered w.joins (call, key) (j.caller.call, j.key) (λ same. apart (ap (λ (p : JoinKey). p.0) same) (ap (λ (p : JoinKey). p.1) same))) ∙ h.join;
      call = go.keeps j.caller.call j.caller.session j.key apart h.call;
    } in
    record {
      joins = each_left joins_ordered (λ at j. (join_key j ≡ at) × IsWaitedFor new j) w.joins (call, key)
          (λ at j other is.
          let h = old.joins at j is in
          let apart = λ (mine : j.caller.call ≡ call) (own : j.key ≡ key). other (sym h.0 ∙ (λ i. (mine i, own i))) in (
            h.0,
            record {
              out = out_on w key from to j there (out j apart) h.1.out;
              call = go.keeps j.caller.call j.caller.session j.key apart h.1.call;
              no_part = h.1.no_part;
            },
          ));
      called = called_set w new key from to there
          (λ h. subst (AllCalled new (home w key)) (sym joiners) (each_kept (IsCalled w (home w key)) (IsCalled new (home w key)) (λ j. not (its j)) from.joiners
          (λ j other k. on (home w key) j (λ e f g. denied (its j) other (and_from _ _ (and_from _ _ (eq-eqb j.caller.session join.caller.session g) (eq-eqb j.caller.call join.caller.call (f ∙ sym p.call_is))) (ap (pointwise ◌==◌ join.key) (e ∙ sym p.join_key) ∙ nat_list_eq_equiv.refl join.key))) k) h))
          (λ m js apart h. each_map (IsCalled w m) (IsCalled new m) js (λ j k. on m j (λ e f g. apart (ap (home w) (sym e) ∙ k.home_is)) k) h) old;
    }

-- 7. By the kind of the change at a key.

pub joins_key : (w new : WorldState) (e : WorldEvent) (key : Bytes) (seen : Shown) → KeyChange w new e key seen → fits w e ≡ true → IsSoundWorld w → HasJoins new
joins_key w new e key seen (by_nothing is none ends) fit old = subst HasJoins (sym is) (joins_half w old)
joins_key w new e key seen (by_refusal u op refusal start is none ends) fit old =
    let may = may_of w e key u op start fit old in
    subst HasJoins (sym is) (joins_refused w u.caller.call key (Some refusal) may.alone old)
joins_key w new e key seen (by_step u op from to x start there h home_is is shows ends) fit old =
    let may = may_of w e key u op start fit old in
    let same : to.joiners ≡ from.joiners = ap (λ (s : State). s.joiners) h.2.after in
    subst HasJoins (sym is)
    (joins_phase w key from to (with_phase w key from to).order (settle u.caller.call key (fault_in x.reply) w.calls) w.parts w.foreign there (same_joiners from to same) (same_called (home w key) from to same)
    (λ number session q t k. still_under w u.caller.call key (fault_in x.reply) may.alone number session q t k) (λ number q t k. k) old)
joins_key w new e key seen (by_reservation u op from to p r start there h is none ends) fit old =
    let same : to.joiners ≡ from.joiners = ap (λ (s : State). s.joiners) h.after in
    subst HasJoins (sym is)
    (joins_phase w key from to w.order w.calls (insert w.parts key (new_part p r)) (with_new_part w key to p r).foreign there (same_joiners from to same) (same_called (home w key) from to same) (λ number session q t k. k)
    (none_reserved w u.caller.call key (new_part p r) (ap (λ (x : Reservation). x.caller.call) h.is) (may_of w e key u op start fit old).alone) old)
joins_key w new e key seen (by_join u op from to join start there h is none ends) fit old =
    subst HasJoins (sym is) (joins_joined w u key op from to join there h.2 h.3 (joins_get from key op join.load h.1) (may_of w e key u op start fit old) old)
joins_key w new e key seen (by_commit call part from to x e_is part_is there h home_is is shows) fit old =
    let joiners : to.joiners ≡ after_resolve part.reservation.number x.place from.joiners = ap (λ (s : State). s.joiners) h.1.after in
    let free = unjoined_part w call key part part_is old in
    let J : JoinClaim → List Joiner → Type 0 = λ j js. IsSomeAnd (joiner_of j.caller j.key js) (λ x. x.load ≡ j.load) in
    subst HasJoins (sym is)
    (joins_phase w key from to (with_phase w key from to).order (settle call key (fault_in x.reply) w.calls) (remove w.parts key) (foreign_committed w key part to) there
    (λ j t. subst (J j) (sym joiners) (joined_resolved (λ x. x.load ≡ j.load) part.reservation.number x.place (x.place + 1) j.caller j.key from.joiners (λ place x k. k) t))
    (λ n t. subst (AllCalled n (home w key)) (sym joiners) (called_resolved n (home w key) part.reservation.number x.place (x.place + 1) from.joiners t))
    (λ number session q t k. still_under w call key (fault_in x.reply) free number session q t k) (λ number q t k. none_removed w.parts key q number k) old)
joins_key w new e key seen (by_withdrawal call part from to e_is part_is there h is shows) fit old =
    let joiners = ap (λ (s : State). s.joiners) h.1 in
    let J : JoinClaim → List Joiner → Type 0 = λ j js. IsSomeAnd (joiner_of j.caller j.key js) (λ x. x.load ≡ j.load) in
    subst HasJoins (sym is)
    (joins_phase w key from to w.order w.calls (remove w.parts key) w.foreign there
    (λ j t. subst (J j) (sym joiners) (joined_dissolved (λ x. x.load ≡ j.load) part.reservation.number j.caller j.key from.joiners (λ x k. k) t))
    (λ n t. subst (AllCalled n (home w key)) (sym joiners) (called_dissolved n (home w key) part.reservation.number from.joiners t))
    (λ number session q t k. k) (λ number q t k. none_removed w.parts key q number k) old)
joins_key w new e key seen (by_mark from to there out h reached is none ends) fit old =
    let same : to.joiners ≡ from.joiners = ap (λ (s : State). s.joiners) h in
    subst HasJoins (sym is)
    (joins_phase w key from to w.order w.calls w.parts w.foreign there (same_joiners from to same) (same_called (home w key) from to same) (λ number session q t k. k) (λ number q t k. k) old)
joins_key w new e key seen (by_answer call join from to x e_is join_is there h home_is is shows ends) fit old =
    subst HasJoins (sym is) (joins_picked w call key join from to (settle call key (fault_in x.reply) w.calls) join_is there h.3 (others_go_on w call key (fault_in x.reply)) old)
joins_key w new e key seen (by_retry call join from to e_is join_is there h is shows ends) fit old =
    subst HasJoins (sym is) (joins_picked w call key join from to w.calls join_is there h.2 (all_go_on w call key) old)

-- the entry of an invalidated key is evicted
pub joins_dropped : (w mid new : WorldState) (key : Bytes) → Drop w mid new key → IsSoundWorld mid → HasJoins new
joins_dropped w mid new key d old =
    let from = d.from in
    let to = without_entry from key in
    let next = with_dropped mid key from d.told in
    subst HasJoins (sym d.is)
    (joins_phase mid key from to next.order mid.calls mid.parts next.foreign d.there (same_joiners from to refl) (same_called (home mid key) from to refl) (λ number session q t k. k) (λ number q t k. k) old)

-- 8. Any event that fits.

-- a call leaves
joins_left : (w : WorldState) (call : ℕ) → may_leave w call (open_call w call) ≡ true → IsSoundWorld w → HasJoins (without_call w call)
joins_left w call fit old = go (open_call w call) refl
  where
    go : (o : Option CallState) → open_call w call ≡ o → HasJoins (without_call w call)
    go None e = let t : false ≡ true = ap (may_leave w call) (sym e) ∙ fit in cc
    go (Some u) e =
        joins_beside w w.last (drop_call call w.calls) w.parts w.store w.foreign w.premises w.is_fresh
        (λ number session q t h. still_beside w call u e (sym (ap (may_leave w call) e) ∙ fit) number session q t h) (λ number q h. h) old

-- by the kind of the event
pub joins_happens : (w new : WorldState) (e : WorldEvent) (seen : Shown) → fits w e ≡ true → Happens w e seen new → (IsWhole e → IsSoundWorld new) → IsSoundWorld w → HasJoins new
joins_happens w new (WorldEvent.Call call session command) seen fit h back old = subst HasJoins (sym h.1) (joins_called w call session command old)
joins_happens w new (WorldEvent.Look call stripe) seen fit h back old = subst HasJoins (sym h.9) (joins_looked w call stripe h.6 h.1 h.0 h.2 h.3 old)
joins_happens w new (WorldEvent.Read call key) seen fit h back old = subst HasJoins (sym h.3) (joins_parted w call key h.0 _ _ w.store w.foreign h.1 refl old)
joins_happens w new (WorldEvent.Say call key answer) seen fit h back old = subst HasJoins (sym h.3) (joins_parted w call key h.0 _ _ w.store w.foreign h.1 refl old)
joins_happens w new (WorldEvent.Process call key source calls fail) seen fit h back old = subst HasJoins (sym h.3) (joins_parted w call key h.0 _ _ w.store w.foreign h.1 refl old)
joins_happens w new (WorldEvent.Change call key) seen fit h back old = subst HasJoins (sym h.5) (joins_parted w call key h.0 _ w.premises _ _ h.2 refl old)
joins_happens w new (WorldEvent.Report call left fault) seen fit h back old = joins_half new (back tt)
joins_happens w new (WorldEvent.Leave call) seen fit h back old = subst HasJoins (sym h.1) (joins_left w call fit old)
joins_happens w new (WorldEvent.Foreign key value) seen fit h back old = subst HasJoins (sym h.1) (joins_stored w _ _ w.premises false old)
joins_happens w new (WorldEvent.Commit call key) seen fit h back old = joins_half new (back tt)
joins_happens w new (WorldEvent.Withdraw call key) seen fit h back old = joins_half new (back tt)
joins_happens w new (WorldEvent.Invalidate key) seen fit h back old = joins_half new (back tt)
joins_happens w new (WorldEvent.Reopen config) seen fit h back old = joins_half new (back tt)
joins_happens w new e seen fit h back old = let k = key_change w new e seen refl h in joins_key w new e k.0 seen k.1 fit old
