-- What an invalidation promises.
--     forgets     the law
use Rattle.std.proofs.Common.{◌≡◌, ◌==◌, ◌||◌, ◌&&◌, ◌++◌, ◌∷◌, ◌⊎◌, ⊎_elim, inl, inr, [], List, map, find, reverse, length, Bool, true, false, cond, not, Option, None, Some, ℕ, is_some, is_none, nat_lt, refl, sym, ap, subst, ◌∙◌, if◌then◌else◌}
use Rattle.std.specs.List.{list_all, list_any}
use Rattle.std.specs.Ordering.{eq_by_cmp}
use Rattle.std.specs.Cmp.Lexicographic.{pointwise, texts_ties}
use Rattle.std.specs.FinMap.{remove, get-remove, get-insert}
use Rattle.std.specs.Cmp.{eq_by_cmp_equiv}
use Rattle.std.proofs.lemmas.Bool.{and_parts, not-true, or_right}
use Rattle.std.proofs.lemmas.Cmp.{nat_list_cmp_total, nat_list_eq_equiv}
use Rattle.jc_types.specs.declared.caller.Caller.{Caller}
use Rattle.jc_types.specs.declared.limits.TheConstants.{RESERVATIONS_MAX}
use Rattle.jc_types.specs.declared.refusal.Refusal.{Refusal}
use Rattle.jc_model.specs.declared.event.Op.{Op}
use Rattle.jc_model.specs.declared.event.Cause.{Cause}
use Rattle.jc_model.specs.Cache.{Bytes, Cache, key_cmp, entry_at, with_entry}
use Rattle.jc_model.specs.Table.{entry_after}
use Rattle.jc_model.specs.Group.{Group, without_own, without_victim, cache_before_step, cache_after_step, cache_after_group, nothing_said}
use Rattle.jc_model.proofs.CallerLemmas.{same_key, found_holds}
use Rattle.jc_entries.specs.ByUse.{is_pinned}
use Rattle.jc_entries.proofs.CallerLemmas.{any_key}
use Rattle.std.specs.Map.{keys_of}
use Rattle.jc_stripe.specs.Outcomes.{StepDone, Begun}
use Rattle.jc_stripe.specs.Outcomes as begun
use Rattle.jc_stripe.specs.Polled.{Polled}
use Rattle.jc_stripe.specs.Polled as polled
use Rattle.jc_inflight.specs.Joining.{callers_of}
use Rattle.jc_stripe.specs.Tickets.{JoinClaim, TicketClaim}
use Rattle.jc_stripe.specs.State.{State, is_key, is_reserved, is_marked, with_mark, with_reservation}
use Rattle.jc_stripe.specs.declared.ticket.Reservation.{Reservation}
use Rattle.jc_stripe.specs.OrderOfUse.{by_use, least_used, pinned}
use Rattle.jc_stripe.specs.Refusals.{first_refusal, load_joined}
use Rattle.jc_stripe.specs.Phases.{Begins, PicksUp, new_group, after_group, after_commit, after_withdrawal}
use Rattle.jc_stripe.specs.Reached.{IsReached, AreReserved}
use Rattle.jc_stripe.specs.OnePhase.{IsPhaseOf, FirstPhase, LastPhase, Withdrawal, PickUp, Forgetting}
use Rattle.jc_stripe.specs.Invalidating.{has_place, without_entry, is_dropped, end_with, after_invalidation, after_invalidation_of_all, Invalidates, InvalidatesAll, sweep, after_sweep, Sweeps, is_forgotten}
use Rattle.jc_stripe.specs.Generations.{after_renewal}
use Rattle.jc_stripe.specs.Forgetting.{BeginsAt, GoesOn, Passes, BeginsAmong, Forgets}
use Rattle.jc_stripe.proofs.Refusing.{clash, not_refused, or_neither, joins_known}
use Rattle.jc_stripe.proofs.MarkedKeys.{held_left, marked_left}
use Rattle.jc_stripe.proofs.Used.{find-entry}
use Rattle.jc_stripe.proofs.Ending.{commit_free, given_free}

-- 1. Once it was invalidated.

any_last : (key : Bytes) (marks : List Bytes) → list_any (pointwise ◌==◌ key) (marks ++ key ∷ []) ≡ true
any_last key [] = ap (λ b. b || false) (nat_list_eq_equiv.refl key)
any_last key (m ∷ ms) = or_right (pointwise ◌==◌ key m) (list_any (pointwise ◌==◌ key) (ms ++ key ∷ [])) (any_last key ms)

by_mark : (b c : Bool) → b ≡ true → (b || c) ≡ true
by_mark true c h = refl
by_mark false c h = cc

-- a key that isn't reserved, and has no entry or is of a shut stripe
by_nothing : (marked reserved shut none : Bool) → reserved ≡ false → (shut || none) ≡ true → (marked || (not reserved && (shut || none))) ≡ true
by_nothing true reserved shut none r h = refl
by_nothing false true shut none r h = cc
by_nothing false false shut none r h = h

-- the keys of reservations
marked_reserved : (key : Bytes) (rs : List Reservation) → list_any (is_key key) rs ≡ true → list_any (pointwise ◌==◌ key) (map (λ r. r.key) rs) ≡ true
marked_reserved key [] h = h
marked_reserved key (r ∷ rs) h =
    elim (pointwise ◌==◌ key r.key) as (λ b. (b || list_any (is_key key) rs) ≡ true → (b || list_any (pointwise ◌==◌ key) (map (λ r. r.key) rs)) ≡ true) [
      | true ↦ λ e. refl
      | false ↦ λ e. marked_reserved key rs e
    ] h

forgotten_mark : (old : State) (key : Bytes) → is_reserved old key ≡ true → is_forgotten (with_mark old key) key ≡ true
forgotten_mark old key there = go (is_marked old key) (nat_lt (length old.marked) RESERVATIONS_MAX) refl
  where
    go : (marked few : Bool) → is_marked old key ≡ marked
        → is_forgotten (if marked then old else (if few then record old { marked = old.marked ++ key ∷ [] } else record old { marked = map (λ r. r.key) old.reservations })) key ≡ true
    go true few e = by_mark (is_marked old key) _ e
    go false true e = by_mark _ _ (any_last key old.marked)
    go false false e = by_mark _ _ (marked_reserved key old.reservations there)

-- a removed key has no entry, and another one has what it had
removed : (cache : Cache) (key : Bytes) → entry_at (remove cache key) key ≡ None
removed cache key = get-remove nat_list_cmp_total cache key key ∙ ap (λ b. if b then None else entry_at cache key) ((eq_by_cmp_equiv nat_list_cmp_total).refl key)

none_removed : (cache : Cache) (k key : Bytes) → is_none (entry_at cache key) ≡ true → is_none (entry_at (remove cache k) key) ≡ true
none_removed cache k key h = ap is_none (get-remove nat_list_cmp_total cache k key) ∙ go (eq_by_cmp key_cmp key k)
  where
    go : (b : Bool) → is_none (cond b None (entry_at cache key)) ≡ true
    go true = refl
    go false = h

no_entry : (o : Option Bytes) → is_some o ≡ false → is_none o ≡ true
no_entry None h = refl
no_entry (Some x) h = cc

forgotten_invalidated : (old : State) (key : Bytes) → is_forgotten (after_invalidation old key) key ≡ true
forgotten_invalidated old key = go (is_reserved old key) (is_some (entry_at old.cache key)) (has_place old) refl refl
  where
    go : (reserved there place : Bool) → is_reserved old key ≡ reserved → is_some (entry_at old.cache key) ≡ there
        → is_forgotten (if reserved then with_mark old key else (if there then (if place then without_entry old key else record old { shut = true }) else old)) key ≡ true
    go true there place r e = forgotten_mark old key r
    go false true true r e = by_nothing (is_marked old key) (is_reserved old key) old.shut _ r (or_right old.shut _ (ap is_none (removed old.cache key)))
    go false true false r e = by_nothing (is_marked old key) (is_reserved old key) true (is_none (entry_at old.cache key)) r refl
    go false false place r e = by_nothing (is_marked old key) (is_reserved old key) old.shut _ r (or_right old.shut _ (no_entry (entry_at old.cache key) e))

-- all at once
forgotten_all : (old : State) (key : Bytes) → is_forgotten (after_invalidation_of_all old) key ≡ true
forgotten_all old key = go (is_reserved old key) refl
  where
    go : (reserved : Bool) → is_reserved old key ≡ reserved → is_forgotten (after_invalidation_of_all old) key ≡ true
    go true r = by_mark _ _ (marked_reserved key old.reservations r)
    go false r = by_nothing (is_marked (after_invalidation_of_all old) key) (is_reserved old key) true (is_none (entry_at old.cache key)) r refl

-- 2. Who begins then.

none_of : (o : Option Bytes) → is_none o ≡ true → o ≡ None
none_of None h = refl
none_of (Some x) h = cc

alone : (old : State) (key : Bytes) (op : Op) → is_reserved old key ≡ false → load_joined old key op ≡ None
alone old key op free = go (load_joined old key op) (λ load h. clash (is_reserved old key) (joins_known old key op load h).reserved free)
  where
    go : (o : Option ℕ) → ((load : ℕ) → o ≡ Some load → ⊥) → o ≡ None
    go None h = refl
    go (Some load) h = absurd (h load refl)

-- what is left of a forgotten key that isn't barred
pub record IsGone (old : State) (key : Bytes) : Type 0 where
  pub free : is_reserved old key ≡ false
  pub missing : is_none (entry_at old.cache key) ≡ true

gone : (old : State) (key : Bytes) → is_forgotten old key ≡ true → old.shut ≡ false → is_marked old key ≡ false → IsGone old key
gone old key forgotten unshut unmarked =
    let rest : (not (is_reserved old key) && is_none (entry_at old.cache key)) ≡ true = (λ i. sym unmarked i || (not (is_reserved old key) && (sym unshut i || is_none (entry_at old.cache key)))) ∙ forgotten in
    let parts = and_parts (not (is_reserved old key)) (is_none (entry_at old.cache key)) rest in
    record { free = not-true (is_reserved old key) parts.0; missing = parts.1 }

begins_blind : (old new : State) (caller : Caller) (key : Bytes) (op : Op) (b : Begun) → is_forgotten old key ≡ true → first_refusal old caller key op ≡ None → Begins old caller key op b new → BeginsAt old key new
begins_blind old new caller key op b forgotten none begins =
    let free = not_refused old caller key op none in
    let barred = or_neither old.shut (is_marked old key) free.unbarred in
    let g = gone old key forgotten barred.0 barred.1 in
    record { caller = caller; op = op; begun = b; begins = begins; unrefused = none; missing = none_of (entry_at old.cache key) g.missing; alone = alone old key op g.free }

-- 3. A key stays forgotten.

-- what a phase may do to a forgotten key
keeps : (old new : State) (key : Bytes) → is_reserved new key ≡ is_reserved old key → (is_marked old key ≡ true → is_marked new key ≡ true)
    → (is_reserved old key ≡ false → (old.shut || is_none (entry_at old.cache key)) ≡ true → (new.shut || is_none (entry_at new.cache key)) ≡ true) → is_forgotten old key ≡ true → is_forgotten new key ≡ true
keeps old new key reserved marks rest h = go (is_marked old key) (is_reserved old key) refl refl h
  where
    go : (m r : Bool) → is_marked old key ≡ m → is_reserved old key ≡ r → (m || (not r && (old.shut || is_none (entry_at old.cache key)))) ≡ true → is_forgotten new key ≡ true
    go true r em er e = by_mark _ _ (marks em)
    go false true em er e = cc
    go false false em er e = by_nothing (is_marked new key) (is_reserved new key) new.shut _ (reserved ∙ er) (rest er e)

-- an entry less
still_none : (shut : Bool) (cache : Cache) (k key : Bytes) → (shut || is_none (entry_at cache key)) ≡ true → (shut || is_none (entry_at (remove cache k) key)) ≡ true
still_none true cache k key h = refl
still_none false cache k key h = none_removed cache k key h

stays_dropped : (old : State) (k key : Bytes) → is_forgotten old key ≡ true → is_forgotten (without_entry old k) key ≡ true
stays_dropped old k key = keeps old (without_entry old k) key refl (λ h. h) (λ r h. still_none old.shut old.cache k key h)

-- a group at another key
none_after : (c : Cache) (k key : Bytes) (value : Option Bytes) → pointwise ◌==◌ k key ≡ false → is_none (entry_at c key) ≡ true → is_none (entry_at (with_entry c k value) key) ≡ true
none_after c k key None differs h = none_removed c k key h
none_after c k key (Some value) differs h =
    ap is_none (get-insert nat_list_cmp_total c k value key) ∙ ap (λ b. is_none (cond b (Some value) (entry_at c key))) (sym (texts_ties key k) ∙ nat_list_eq_equiv.symm key k ∙ differs) ∙ h

none_own : (c : Cache) (k key : Bytes) (cause : Option Cause) → is_none (entry_at c key) ≡ true → is_none (entry_at (without_own c k cause) key) ≡ true
none_own c k key None h = h
none_own c k key (Some cause) h = none_removed c k key h

none_group : (c : Cache) (g : Group) (key : Bytes) → pointwise ◌==◌ g.step.key key ≡ false → is_none (entry_at c key) ≡ true → is_none (entry_at (cache_after_group c g) key) ≡ true
none_group c g key differs h =
    let b : Cache = cache_before_step c g in
    none_own (cache_after_step c g) g.step.key key g.evicted (none_after b g.step.key key (entry_after g.step.op (entry_at b g.step.key) g.step.out) differs (none_victim c key g.victim h))
  where
    none_victim : (c : Cache) (key : Bytes) (victim : Option Bytes) → is_none (entry_at c key) ≡ true → is_none (entry_at (without_victim c victim) key) ≡ true
    none_victim c key None h = h
    none_victim c key (Some v) h = none_removed c v key h

stays_stepped : (shut : Bool) (c : Cache) (g : Group) (key : Bytes) → pointwise ◌==◌ g.step.key key ≡ false → (shut || is_none (entry_at c key)) ≡ true → (shut || is_none (entry_at (cache_after_group c g) key)) ≡ true
stays_stepped true c g key differs h = refl
stays_stepped false c g key differs h = none_group c g key differs h

any_more : (key : Bytes) (rs : List Reservation) (r : Reservation) → is_key key r ≡ false → list_any (is_key key) (rs ++ r ∷ []) ≡ list_any (is_key key) rs
any_more key [] r h = ap (λ b. b || false) h
any_more key (x ∷ xs) r h = ap (λ b. is_key key x || b) (any_more key xs r h)

-- a call that begins at another key
stays_begun : (old new : State) (caller : Caller) (k key : Bytes) (op : Op) (b : Begun) → pointwise ◌==◌ k key ≡ false → is_forgotten old key ≡ true → Begins old caller k op b new → is_forgotten new key ≡ true
stays_begun old new caller k key op (begun.Refused refusal) differs h begins = ap (λ (s : State). is_forgotten s key) begins.1 ∙ h
stays_begun old new caller k key op (begun.Done done) differs h begins =
    ap (λ (s : State). is_forgotten s key) begins.2.after
    ∙ keeps old (after_group old (new_group old caller k op nothing_said [] begins.2.short)) key refl (λ m. m)
    (λ r s. stays_stepped old.shut old.cache (new_group old caller k op nothing_said [] begins.2.short) key differs s) h
stays_begun old new caller k key op (begun.Asks ticket) differs h begins =
    let r = ticket.reservation in
    let made : r.key ≡ k = ap (λ (t : TicketClaim). t.reservation.key) begins.4 in
    ap (λ (s : State). is_forgotten s key) begins.5
    ∙ keeps old (with_reservation old r) key (any_more key old.reservations r (ap (λ q. pointwise ◌==◌ key q) made ∙ nat_list_eq_equiv.symm key k ∙ differs)) (λ m. m) (λ free s. s) h
stays_begun old new caller k key op (begun.Joined join) differs h begins = ap (λ (s : State). is_forgotten s key) begins.3 ∙ h

-- a refusal changes nothing
refused_same : (old new : State) (caller : Caller) (key : Bytes) (op : Op) (b : Begun) (why : Refusal) → first_refusal old caller key op ≡ Some why → Begins old caller key op b new → new ≡ old
refused_same old new caller key op (begun.Refused refusal) why e begins = begins.1
refused_same old new caller key op (begun.Done done) why e begins = let bad : Some why ≡ None = sym e ∙ begins.0 in cc
refused_same old new caller key op (begun.Asks ticket) why e begins = let bad : Some why ≡ None = sym e ∙ begins.0 in cc
refused_same old new caller key op (begun.Joined join) why e begins = let bad : Some why ≡ None = sym e ∙ begins.0 in cc

stays_first : (session : ℕ) (old new : State) (key : Bytes) → is_forgotten old key ≡ true → FirstPhase session old new → (is_forgotten new key ≡ true) ⊎ BeginsAt old key new
stays_first session old new key h phase = by_key (pointwise ◌==◌ phase.key key) refl
  where
    by_refusal : (refusal : Option Refusal) → phase.key ≡ key → first_refusal old phase.caller phase.key phase.op ≡ refusal → (is_forgotten new key ≡ true) ⊎ BeginsAt old key new
    by_refusal None is e =
        let P : Bytes → Type 0 = λ q. Begins old phase.caller q phase.op phase.begun new in
        inr (begins_blind old new phase.caller key phase.op phase.begun h (ap (λ q. first_refusal old phase.caller q phase.op) (sym is) ∙ e) (subst P is phase.begins))
    by_refusal (Some why) is e = inl (ap (λ (s : State). is_forgotten s key) (refused_same old new phase.caller phase.key phase.op phase.begun why e phase.begins) ∙ h)

    by_key : (b : Bool) → pointwise ◌==◌ phase.key key ≡ b → (is_forgotten new key ≡ true) ⊎ BeginsAt old key new
    by_key true e = by_refusal (first_refusal old phase.caller phase.key phase.op) (same_key phase.key key (sym (texts_ties phase.key key) ∙ e)) refl
    by_key false e = inl (stays_begun old new phase.caller phase.key key phase.op phase.begun e h phase.begins)

-- a reserved key that isn't marked isn't forgotten
unmarked_held : (marked reserved rest : Bool) → marked ≡ false → reserved ≡ true → (marked || (not reserved && rest)) ≡ false
unmarked_held true reserved rest m r = cc
unmarked_held false true rest m r = refl
unmarked_held false false rest m r = cc

-- the end of a reservation
stays_ended : (marked : Bool) (old mid : State) (k key : Bytes) → is_reserved old k ≡ true → marked ≡ is_marked old k → is_forgotten old key ≡ true → (pointwise ◌==◌ k key ≡ false → is_forgotten mid key ≡ true) → is_reserved mid k ≡ false
    → is_forgotten (end_with marked mid k) key ≡ true
stays_ended marked old mid k key there is_mark h other free = by_key (pointwise ◌==◌ k key) refl
  where
    by_drop : (b : Bool) → pointwise ◌==◌ k key ≡ false → is_forgotten (if b then without_entry mid k else mid) key ≡ true
    by_drop true e = stays_dropped mid k key (other e)
    by_drop false e = other e

    at_key : k ≡ key → (b there_ : Bool) → marked ≡ b → is_some (entry_at mid.cache k) ≡ there_ → is_forgotten (if b && there_ then without_entry mid k else mid) key ≡ true
    at_key is true true m e =
        by_nothing (is_marked mid key) (is_reserved mid key) mid.shut _ (ap (is_reserved mid) (sym is) ∙ free) (or_right mid.shut _ (ap (λ q. is_none (entry_at (remove mid.cache k) q)) (sym is) ∙ ap is_none (removed mid.cache k)))
    at_key is true false m e =
        by_nothing (is_marked mid key) (is_reserved mid key) mid.shut _ (ap (is_reserved mid) (sym is) ∙ free) (or_right mid.shut _ (no_entry (entry_at mid.cache key) (ap (λ q. is_some (entry_at mid.cache q)) (sym is) ∙ e)))
    at_key is false there_ m e =
        absurd (clash (is_forgotten old key) h (unmarked_held (is_marked old key) (is_reserved old key) _ (ap (is_marked old) (sym is) ∙ sym is_mark ∙ m) (ap (is_reserved old) (sym is) ∙ there)))

    by_key : (b : Bool) → pointwise ◌==◌ k key ≡ b → is_forgotten (end_with marked mid k) key ≡ true
    by_key true e =
        at_key (same_key k key (sym (texts_ties k key) ∙ e)) marked (is_some (entry_at mid.cache k)) refl refl
    by_key false e = by_drop (is_dropped marked mid k) e

found_any_key : (k : Bytes) (rs : List Reservation) (r : Reservation) → find (is_key k) rs ≡ Some r → list_any (is_key k) rs ≡ true
found_any_key k [] r h = cc
found_any_key k (x ∷ xs) r h =
    elim (is_key k x) as (λ b. cond b (Some x) (find (is_key k) xs) ≡ Some r → (b || list_any (is_key k) xs) ≡ true) [
      | true ↦ λ e. refl
      | false ↦ λ e. found_any_key k xs r e
    ] h

stays_last : (session : ℕ) (old new : State) (key : Bytes) → is_forgotten old key ≡ true → LastPhase session old new → is_forgotten new key ≡ true
stays_last session old new key h phase =
    let r = phase.reservation in
    let mid = phase.ends.0 in
    let commits = phase.ends.2 in
    let g : Group = new_group (after_commit old r phase.ends.1.place) r.caller r.key r.op phase.out (callers_of r.number old.joiners) commits.1.short in
    ap (λ (s : State). is_forgotten s key) phase.ends.4
    ∙ stays_ended (is_marked old r.key) old mid r.key key (found_any_key r.key old.reservations r commits.0) refl h
    (λ differs. ap (λ (s : State). is_forgotten s key) commits.1.after
    ∙ keeps old (after_group (after_commit old r phase.ends.1.place) g) key (held_left r.key key old.reservations differs) (λ m. marked_left r.key key old.marked differs ∙ m)
    (λ free s. stays_stepped old.shut old.cache g key differs s) h)
    (commit_free old mid r phase.out phase.ends.1 commits)

stays_given : (session : ℕ) (old new : State) (key : Bytes) → is_forgotten old key ≡ true → Withdrawal session old new → is_forgotten new key ≡ true
stays_given session old new key h phase =
    let r = phase.reservation in
    let mid = phase.gives_back.0 in
    let withdraws = phase.gives_back.1 in
    ap (λ (s : State). is_forgotten s key) phase.gives_back.2
    ∙ stays_ended (is_marked old r.key) old mid r.key key (found_any_key r.key old.reservations r withdraws.0) refl h
    (λ differs. ap (λ (s : State). is_forgotten s key) withdraws.1
    ∙ keeps old (after_withdrawal old r) key (held_left r.key key old.reservations differs) (λ m. marked_left r.key key old.marked differs ∙ m) (λ free s. s) h)
    (given_free old mid r withdraws)

stays_picked : (old new : State) (join : JoinClaim) (p : Polled) (key : Bytes) → is_forgotten old key ≡ true → PicksUp old join p new → is_forgotten new key ≡ true
stays_picked old new join (polled.Answer reply place shared) key h picks = ap (λ (s : State). is_forgotten s key) picks.3 ∙ h
stays_picked old new join polled.Again key h picks = ap (λ (s : State). is_forgotten s key) picks.2 ∙ h
stays_picked old new join (polled.NotYet back) key h picks = ap (λ (s : State). is_forgotten s key) picks.3 ∙ h

-- 4. Further invalidations, and sweeps.

-- a marked key is reserved
held_mark : (key : Bytes) (rs : List Reservation) (marked : List Bytes) → AreReserved rs marked → list_any (pointwise ◌==◌ key) marked ≡ true → list_any (is_key key) rs ≡ true
held_mark key rs [] all h = cc
held_mark key rs (m ∷ ms) all h =
    let parts = and_parts (list_any (is_key m) rs) (list_all (λ (q : Bytes). list_any (is_key q) rs) ms) all in
    elim (pointwise ◌==◌ key m) as (λ b. pointwise ◌==◌ key m ≡ b → (b || list_any (pointwise ◌==◌ key) ms) ≡ true → list_any (is_key key) rs ≡ true) [
      | true ↦ λ e h. ap (λ q. list_any (is_key q) rs) (same_key key m (sym (texts_ties key m) ∙ e)) ∙ parts.0
      | false ↦ λ e h. held_mark key rs ms parts.1 h
    ] refl h

any_front : (key : Bytes) (marks : List Bytes) (m : Bytes) → list_any (pointwise ◌==◌ key) marks ≡ true → list_any (pointwise ◌==◌ key) (marks ++ m ∷ []) ≡ true
any_front key [] m h = cc
any_front key (x ∷ xs) m h =
    elim (pointwise ◌==◌ key x) as (λ b. (b || list_any (pointwise ◌==◌ key) xs) ≡ true → (b || list_any (pointwise ◌==◌ key) (xs ++ m ∷ [])) ≡ true) [
      | true ↦ λ e. refl
      | false ↦ λ e. any_front key xs m e
    ] h

stays_marked : (old : State) (k key : Bytes) → IsReached old → is_forgotten old key ≡ true → is_forgotten (with_mark old k) key ≡ true
stays_marked old k key reached h = go (is_marked old k) (nat_lt (length old.marked) RESERVATIONS_MAX)
  where
    go : (marked few : Bool) → is_forgotten (if marked then old else (if few then record old { marked = old.marked ++ k ∷ [] } else record old { marked = map (λ r. r.key) old.reservations })) key ≡ true
    go true few = h
    go false true = keeps old (record old { marked = old.marked ++ k ∷ [] }) key refl (λ m. any_front key old.marked k m) (λ free s. s) h
    go false false = keeps old (record old { marked = map (λ r. r.key) old.reservations }) key refl (λ m. marked_reserved key old.reservations (held_mark key old.reservations old.marked reached.marks m)) (λ free s. s) h

stays_shut : (old : State) (key : Bytes) → is_forgotten old key ≡ true → is_forgotten (record old { shut = true }) key ≡ true
stays_shut old key h = keeps old (record old { shut = true }) key refl (λ m. m) (λ free s. refl) h

stays_invalidated : (old : State) (k key : Bytes) → IsReached old → is_forgotten old key ≡ true → is_forgotten (after_invalidation old k) key ≡ true
stays_invalidated old k key reached h = go (is_reserved old k) (is_some (entry_at old.cache k)) (has_place old)
  where
    go : (reserved there place : Bool) → is_forgotten (if reserved then with_mark old k else (if there then (if place then without_entry old k else record old { shut = true }) else old)) key ≡ true
    go true there place = stays_marked old k key reached h
    go false true true = stays_dropped old k key h
    go false true false = stays_shut old key h
    go false false place = h

-- the least recently used key that isn't reserved: if there is none, no key that isn't reserved has an entry
none_found : (q : Bytes → Bool) (xs : List Bytes) → find (λ k. not (q k)) xs ≡ None → list_any (λ k. not (q k)) xs ≡ false
none_found q [] h = refl
none_found q (x ∷ xs) h =
    elim (not (q x)) as (λ b. cond b (Some x) (find (λ k. not (q k)) xs) ≡ None → (b || list_any (λ k. not (q k)) xs) ≡ false) [
      | true ↦ λ e. cc
      | false ↦ λ e. none_found q xs e
    ] h

all_kept : (q : Bytes → Bool) (entries : List (Bytes × Bytes)) → list_any (λ k. not (q k)) (keys_of entries) ≡ false → list_all (λ (entry : Bytes × Bytes). q entry.0) entries ≡ true
all_kept q [] h = refl
all_kept q (e ∷ es) h =
    elim (q e.0) as (λ b. (not b || list_any (λ k. not (q k)) (keys_of es)) ≡ false → (b && list_all (λ (entry : Bytes × Bytes). q entry.0) es) ≡ true) [
      | true ↦ λ h. all_kept q es h
      | false ↦ λ h. cc
    ] h

held_key : (key : Bytes) (rs : List Reservation) → is_pinned (pinned rs) key ≡ true → list_any (is_key key) rs ≡ true
held_key key [] h = h
held_key key (r ∷ rs) h =
    elim (pointwise ◌==◌ key r.key) as (λ b. (b || is_pinned (pinned rs) key) ≡ true → (b || list_any (is_key key) rs) ≡ true) [
      | true ↦ λ e. refl
      | false ↦ λ e. held_key key rs e
    ] (ap (λ b. b || is_pinned (pinned rs) key) (nat_list_eq_equiv.symm key r.key) ∙ h)

swept : (old : State) (key : Bytes) → IsReached old → least_used old ≡ None → is_reserved old key ≡ false → is_none (entry_at old.cache key) ≡ true
swept old key reached least free =
    let entries = by_use old.opening old.history in
    let q : Bytes → Bool = is_pinned (pinned old.reservations) in
    let all = all_kept q entries (sym (any_key (λ k. not (q k)) entries) ∙ none_found q (keys_of (reverse entries)) least) in
    go (is_some (entry_at old.cache key))
    (λ there. clash (is_reserved old key) (held_key key old.reservations (found_holds q entries key all (ap is_some (find-entry entries key ∙ ap (λ c. entry_at c key) (sym reached.used.cache)) ∙ there))) free) refl
  where
    go : (b : Bool) → (b ≡ true → ⊥) → is_some (entry_at old.cache key) ≡ b → is_none (entry_at old.cache key) ≡ true
    go true never e = absurd (never refl)
    go false never e = no_entry (entry_at old.cache key) e

stays_swept : (old : State) (key : Bytes) → IsReached old → is_forgotten old key ≡ true → is_forgotten (after_sweep old) key ≡ true
stays_swept old key reached h = go old.shut
  where
    by_place : (k : Bytes) (place : Bool) → is_forgotten (if place then without_entry old k else old) key ≡ true
    by_place k true = stays_dropped old k key h
    by_place k false = h

    by_least : (least : Option Bytes) → least_used old ≡ least → is_forgotten (sweep old least) key ≡ true
    by_least None e = keeps old (record old { shut = false }) key refl (λ m. m) (λ free s. swept old key reached e free) h
    by_least (Some k) e = by_place k (has_place old)

    go : (b : Bool) → is_forgotten (if b then sweep old (least_used old) else old) key ≡ true
    go true = by_least (least_used old) refl
    go false = h

stays_forgetting : (old new : State) (key : Bytes) → IsReached old → is_forgotten old key ≡ true → Forgetting old new → is_forgotten new key ≡ true
stays_forgetting old new key reached h phase =
    let P : State → Type 0 = λ s. is_forgotten s key ≡ true in
    ⊎_elim (λ (i : (k : Bytes) × Invalidates old k new). subst P (sym i.1) (stays_invalidated old i.0 key reached h))
    (λ rest. ⊎_elim (λ (a : InvalidatesAll old new). subst P (sym a) (forgotten_all old key))
    (λ (s : Sweeps old new). subst P (sym s) (stays_swept old key reached h)) rest) phase

stays : (session : ℕ) (old new : State) (key : Bytes) → IsReached old → IsPhaseOf session old new → is_forgotten old key ≡ true → (is_forgotten new key ≡ true) ⊎ BeginsAt old key new
stays session old new key reached phase h =
    ⊎_elim (λ same. inl (ap (λ (s : State). is_forgotten s key) same ∙ h))
    (λ rest. ⊎_elim (λ (b : FirstPhase session old new). stays_first session old new key h b)
    (λ rest. ⊎_elim (λ (b : LastPhase session old new). inl (stays_last session old new key h b))
    (λ rest. ⊎_elim (λ (b : Withdrawal session old new). inl (stays_given session old new key h b))
    (λ rest. ⊎_elim (λ (b : PickUp session old new). inl (stays_picked old new b.join b.picked key h b.picks_up))
    (λ (f : Forgetting old new). inl (stays_forgetting old new key reached h f)) rest) rest) rest) rest) phase

-- in one phase, or at the end of a generation
goes_on : (old next : State) (key : Bytes) → IsReached old → GoesOn old next → is_forgotten old key ≡ true → (is_forgotten next key ≡ true) ⊎ BeginsAt old key next
goes_on old next key reached goes h =
    ⊎_elim (λ (phase : (session : ℕ) × IsPhaseOf session old next). stays phase.0 old next key reached phase.1 h)
    (λ (renewed : next ≡ after_renewal old). inl (ap (λ (s : State). is_forgotten s key) renewed ∙ h))
    goes

along : (old new : State) (states : List State) (key : Bytes) → Passes old states new → is_forgotten old key ≡ true → (is_forgotten new key ≡ true) ⊎ BeginsAmong old key states
along old new [] key same h = inl (ap (λ (s : State). is_forgotten s key) same ∙ h)
along old new (next ∷ states) key passes h =
    ⊎_elim (λ (forgotten : is_forgotten next key ≡ true).
    ⊎_elim (λ (last : is_forgotten new key ≡ true). inl last) (λ (begins : BeginsAmong next key states). inr (inr (forgotten, begins)))
    (along next new states key passes.2 forgotten))
    (λ (begins : BeginsAt old key next). inr (inl begins))
    (goes_on old next key passes.0 passes.1 h)

pub forgets : Forgets
forgets = record {
  invalidated = λ old new key h. ap (λ (s : State). is_forgotten s key) h ∙ forgotten_invalidated old key;
  all = λ old new key h. ap (λ (s : State). is_forgotten s key) h ∙ forgotten_all old key;
  stays = stays;
  along = along;
}
