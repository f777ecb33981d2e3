-- What holds behind a step, from what holds before it.
use Rattle.std.proofs.Common.{◌≡◌, ◌≤◌, ◌+◌, ◌==◌, ◌||◌, ◌&&◌, ℕ, suc, List, [], ◌∷◌, ◌++◌, map, length, Bool, true, false, cond, not, Option, None, Some, is_some, is_none, refl, sym, ap, ◌∙◌, subst, arith, zero-add}
use Rattle.std.specs.List.{list_any, list_all}
use Rattle.std.specs.Cmp.Lexicographic.{pointwise}
use Rattle.std.specs.Ordering.{eq_by_cmp}
use Rattle.std.specs.Cmp.{eq_by_cmp_equiv}
use Rattle.std.specs.FinMap.{from_entries, len, get-remove}
use Rattle.std.proofs.lemmas.List.{length-append}
use Rattle.std.proofs.lemmas.List.Folds.{list_all-append}
use Rattle.std.proofs.lemmas.Cmp.{nat_list_cmp_total, nat_list_eq_equiv}
use Rattle.std.proofs.lemmas.Bool.{and_parts, and_from}
use Rattle.jc_model.specs.declared.event.Event.{Event}
use Rattle.jc_model.specs.declared.event.Event.TheVariants.{Step}
use Rattle.jc_model.specs.declared.event.Op.{Op}
use Rattle.jc_model.specs.declared.event.Out.{Out}
use Rattle.jc_model.specs.declared.event.Cause.{Cause}
use Rattle.jc_model.specs.declared.event.LoadAnswer.{LoadAnswer}
use Rattle.jc_model.specs.Cache.{Bytes, Cache, key_cmp, entry_at, with_entry}
use Rattle.jc_model.specs.Table.{entry_after, reply_after}
use Rattle.jc_model.specs.Group.{Group, Made, victim_events, step_event, step_place, shared_event, evicted_events, events_of, history_of, cache_after_group, without_own}
use Rattle.jc_model.specs.Group as group
use Rattle.jc_model.specs.Lawful.{IsLawful}
use Rattle.jc_model.specs.Legal.{IsHistory, in_order}
use Rattle.jc_model.proofs.CallerLemmas.{same_key, get-with_entry}
use Rattle.jc_entries.specs.ByUse.{is_pinned}
use Rattle.jc_entries.proofs.CallerLemmas.{lru_victim-unpinned}
use Rattle.jc_inflight.specs.declared.joiner.Joiner.{Joiner}
use Rattle.jc_inflight.specs.Joining.{waits}
use Rattle.jc_stripe.specs.State.{State, is_key, is_of}
use Rattle.jc_stripe.specs.OrderOfUse.{by_use, pinned, least_used}
use Rattle.jc_stripe.specs.Phases.{is_other_call, is_other_join, new_group, inserts_here, overflows, own_cause, after_group}
use Rattle.jc_stripe.specs.Reached.{IsUsed, may_end, may_share, is_own}
use Rattle.jc_stripe.specs.Appending.{entries_after}
use Rattle.jc_stripe.specs.OwnSteps.{may_come_all}
use Rattle.jc_stripe.proofs.Used.{by_use-append, by_use-group, apart-left, from-left}
use Rattle.jc_stripe.proofs.Lawfully.{history-push, lawful-push, cache_after-push, victim_known, own_entry}
use Rattle.jc_stripe.proofs.Ordered.{behind-append, behind-group, own_least, own_left, own-group}
use Rattle.jc_stripe.specs.Phases as phases
use Rattle.jc_types.specs.declared.caller.Caller.{Caller}
use Rattle.jc_stripe.specs.declared.ticket.Reservation.{Reservation}
use Rattle.jc_stripe.proofs.Refusing.{clash}

-- 1. The history, and what it leaves.

pub legal_on : (m : State) (start : Cache) (g : Group) → IsHistory m.config start m.history m.cache → IsLawful m.config m.cache g → in_order (m.history ++ events_of (length m.history) g) ≡ true
    → IsHistory m.config start (after_group m g).history (after_group m g).cache
legal_on m start g legal lawful order = record {
  parts = legal.parts ++ Made g ∷ [];
  spelled = ap (λ h. h ++ events_of (length h) g) legal.spelled ∙ sym (history-push 0 legal.parts (Made g) ∙ ap (λ n. history_of 0 legal.parts ++ events_of n g) (zero-add (length (history_of 0 legal.parts))));
  lawful = lawful-push m.config start legal.parts (Made g) legal.lawful (let P : Cache → Type 0 = λ c. IsLawful m.config c g in subst P legal.left lawful);
  left = ap (λ c. cache_after_group c g) legal.left ∙ sym (cache_after-push start legal.parts (Made g));
  order = order;
}

-- the entries by use behind a group
pub by_use_on : (m : State) (g : Group)
    → by_use (after_group m g).opening (after_group m g).history ≡ entries_after (by_use m.opening m.history) g.step.key g.step.op g.step.out g.victim g.evicted
by_use_on m g = by_use-append m.opening m.history (events_of (length m.history) g) ∙ by_use-group (by_use m.opening m.history) (length m.history) g

pub used_on : (m : State) (g : Group) → IsUsed m → is_of m g.step.key ≡ true → IsUsed (after_group m g)
used_on m g used key = record {
  once = rw (by_use_on m g) (apart-left (by_use m.opening m.history) g.step.key g.step.op g.step.out g.victim g.evicted used.once);
  own = rw (by_use_on m g) (own_left m (by_use m.opening m.history) g.step.key g.step.op g.step.out g.victim g.evicted key used.own);
  cache = ap (λ c. cache_after_group c g) used.cache ∙ sym (from-left (by_use m.opening m.history) g) ∙ ap (from_entries {R = key_cmp}) (sym (by_use_on m g));
}

-- the events are of the stripe's keys
pub own_on : (m : State) (caller : Caller) (key : Bytes) (op : Op) (out : Out) (callers : List Caller) (short : Bool) → IsUsed m → list_all (is_own m) m.history ≡ true → is_of m key ≡ true
    → list_all (is_own m) (m.history ++ events_of (length m.history) (new_group m caller key op out callers short)) ≡ true
own_on m caller key op out callers short used own k =
    let g = new_group m caller key op out callers short in
    list_all-append (is_own m) m.history (events_of (length m.history) g)
    ∙ and_from _ _ own (own-group m (length m.history) g k (λ v h. own_least m v used.own (victim_known m key op out v used h).least))

-- 2. The entries of other keys, and of reserved ones.

-- a reserved key isn't the victim
pub pinned_key : (q : Bytes) (rs : List Reservation) → list_any (is_key q) rs ≡ true → is_pinned (pinned rs) q ≡ true
pinned_key q [] h = cc
pinned_key q (r ∷ rs) h =
    elim (is_key q r) as (λ b. is_key q r ≡ b → (b || list_any (is_key q) rs) ≡ true → (pointwise ◌==◌ r.key q || is_pinned (pinned rs) q) ≡ true) [
      | true ↦ λ e h. ap (λ b. b || is_pinned (pinned rs) q) (nat_list_eq_equiv.symm r.key q ∙ e)
      | false ↦ λ e h. or-right (pointwise ◌==◌ r.key q) (is_pinned (pinned rs) q) (pinned_key q rs h)
    ] refl h
  where
    or-right : (a b : Bool) → b ≡ true → (a || b) ≡ true
    or-right true b h = refl
    or-right false b h = h

-- what is reserved stays without the victim
kept_without : (m : State) (key : Bytes) (op : Op) (out : Out) (q : Bytes) (victim : Option Bytes) → IsUsed m → phases.victim m key op out ≡ victim → list_any (is_key q) m.reservations ≡ true
    → entry_at (group.without_victim m.cache victim) q ≡ entry_at m.cache q
kept_without m key op out q None used h there = refl
kept_without m key op out q (Some v) used h there =
    get-remove nat_list_cmp_total m.cache v q ∙ go (eq_by_cmp key_cmp q v) (λ e. same_key q v e)
  where
    go : (b : Bool) → (b ≡ true → q ≡ v) → cond b None (entry_at m.cache q) ≡ entry_at m.cache q
    go true same = absurd (clash (is_pinned (pinned m.reservations) v) (ap (is_pinned (pinned m.reservations)) (sym (same refl)) ∙ pinned_key q m.reservations there)
        (lru_victim-unpinned (by_use m.opening m.history) (pinned m.reservations) v (victim_known m key op out v used h).least))
    go false same = refl

-- a step that leaves its entry inserts nothing
none_inserted : (entry left : Option Bytes) → left ≡ entry → (is_none entry && is_some left) ≡ false
none_inserted None left same = ap is_some same
none_inserted (Some x) left same = refl

pub not_inserted : (m : State) (key : Bytes) (op : Op) (out : Out) → entry_after op (entry_at m.cache key) out ≡ entry_at m.cache key → inserts_here m key op out ≡ false
not_inserted m key op out same = none_inserted (entry_at m.cache key) (entry_after op (entry_at m.cache key) out) same

-- what is left of an entry once the step's own is out
own_out : (cache : Cache) (key q : Bytes) (entry : Option Bytes) (cause : Option Cause) → eq_by_cmp key_cmp q key ≡ false → entry_at (without_own (with_entry cache key entry) key cause) q ≡ entry_at cache q
own_out cache key q entry None apart = get-with_entry cache key entry q ∙ ap (λ b. cond b entry (entry_at cache q)) apart
own_out cache key q entry (Some cause) apart =
    get-remove nat_list_cmp_total (with_entry cache key entry) key q ∙ ap (λ b. cond b None (entry_at (with_entry cache key entry) q)) apart
    ∙ get-with_entry cache key entry q ∙ ap (λ b. cond b entry (entry_at cache q)) apart

-- the entry of a reserved key stays, and that of the step's key where the step leaves it
pub kept_on : (m : State) (caller : Caller) (key : Bytes) (op : Op) (out : Out) (callers : List Caller) (short : Bool) (q : Bytes) → IsUsed m → list_any (is_key q) m.reservations ≡ true
    → (q ≡ key → entry_after op (entry_at m.cache key) out ≡ entry_at m.cache key) → entry_at (cache_after_group m.cache (new_group m caller key op out callers short)) q ≡ entry_at m.cache q
kept_on m caller key op out callers short q used there keeps = go (eq_by_cmp key_cmp q key) refl
  where
    base : Cache
    base = group.without_victim m.cache (phases.victim m key op out)

    left : Option Bytes
    left = entry_after op (entry_at base key) out

    here : (i : Bool) → inserts_here m key op out ≡ i → i ≡ false → entry_after op (entry_at m.cache key) out ≡ entry_at m.cache key → q ≡ key
        → entry_at (without_own (with_entry base key left) key (own_cause i (overflows m key op out) (is_some (phases.victim m key op out)) short)) q ≡ entry_at m.cache q
    here true e f same is = cc
    here false e f same is =
        get-with_entry base key left q ∙ ap (λ b. cond b left (entry_at base q)) (ap (λ k. eq_by_cmp key_cmp k key) is ∙ (eq_by_cmp_equiv nat_list_cmp_total).refl key)
        ∙ ap (λ o. entry_after op o out) (own_entry m key op out _ used refl) ∙ same ∙ ap (entry_at m.cache) (sym is)

    go : (b : Bool) → eq_by_cmp key_cmp q key ≡ b → entry_at (cache_after_group m.cache (new_group m caller key op out callers short)) q ≡ entry_at m.cache q
    go true e = let is = same_key q key e in here (inserts_here m key op out) refl (not_inserted m key op out (keeps is)) (keeps is) is
    go false e = own_out base key q left _ e ∙ kept_without m key op out q (phases.victim m key op out) used refl there

-- 3. What may still come.

-- the order of two tests of each
pub all_swap : {A B : Type 0} (p : A → B → Bool) (xs : List A) (ys : List B) → list_all (λ x. list_all (p x) ys) xs ≡ true → list_all (λ y. list_all (λ x. p x y) xs) ys ≡ true
all_swap p xs [] h = refl
all_swap {A} {B} p xs (y ∷ ys) h = and_from _ _ (firsts xs h) (all_swap p xs ys (rests xs h))
  where
    firsts : (xs : List A) → list_all (λ x. list_all (p x) (y ∷ ys)) xs ≡ true → list_all (λ x. p x y) xs ≡ true
    firsts [] h = refl
    firsts (x ∷ xs) h = let parts = and_parts (p x y && list_all (p x) ys) (list_all (λ x. list_all (p x) (y ∷ ys)) xs) h in and_from _ _ (and_parts (p x y) (list_all (p x) ys) parts.0).0 (firsts xs parts.1)

    rests : (xs : List A) → list_all (λ x. list_all (p x) (y ∷ ys)) xs ≡ true → list_all (λ x. list_all (p x) ys) xs ≡ true
    rests [] h = refl
    rests (x ∷ xs) h = let parts = and_parts (p x y && list_all (p x) ys) (list_all (λ x. list_all (p x) (y ∷ ys)) xs) h in and_from _ _ (and_parts (p x y) (list_all (p x) ys) parts.0).1 (rests xs parts.1)

-- the steps of reservations that are beside those of the group may still come
pub ends_on : (history : List Event) (place : ℕ) (g : Group) (rs : List Reservation) → list_all (may_end history) rs ≡ true → list_all (is_other_call g.caller g.step.key) rs ≡ true
    → list_all (λ r. list_all (λ c. is_other_call c g.step.key r) g.joined) rs ≡ true → list_all (may_end (history ++ events_of place g)) rs ≡ true
ends_on history place g [] ends beside callers = refl
ends_on history place g (r ∷ rs) ends beside callers =
    let e = and_parts (may_end history r) (list_all (may_end history) rs) ends in
    let b = and_parts (is_other_call g.caller g.step.key r) (list_all (is_other_call g.caller g.step.key) rs) beside in
    let c = and_parts (list_all (λ c. is_other_call c g.step.key r) g.joined) (list_all (λ r. list_all (λ c. is_other_call c g.step.key r) g.joined) rs) callers in
    and_from _ _ (behind-append history (events_of place g) r.caller r.key e.0 (behind-group place g r.caller r.key b.0 c.0)) (ends_on history place g rs e.1 b.1 c.1)

-- so may those of joiners that wait
pub shares_on : (history : List Event) (place : ℕ) (g : Group) (js : List Joiner) → list_all (may_share history) js ≡ true → list_all (λ j. not (waits j) || is_other_join g.caller g.step.key j) js ≡ true
    → list_all (λ j. list_all (λ c. not (waits j) || is_other_join c g.step.key j) g.joined) js ≡ true → list_all (may_share (history ++ events_of place g)) js ≡ true
shares_on history place g [] shares apart callers = refl
shares_on history place g (j ∷ js) shares apart callers =
    let s = and_parts (may_share history j) (list_all (may_share history) js) shares in
    let a = and_parts (not (waits j) || is_other_join g.caller g.step.key j) (list_all (λ j. not (waits j) || is_other_join g.caller g.step.key j) js) apart in
    let c = and_parts (list_all (λ c. not (waits j) || is_other_join c g.step.key j) g.joined) (list_all (λ j. list_all (λ c. not (waits j) || is_other_join c g.step.key j) g.joined) js) callers in
    and_from _ _ (one (waits j) g.joined s.0 a.0 c.0) (shares_on history place g js s.1 a.1 c.1)
  where
    each : (callers : List Caller) → list_all (λ c. false || is_other_join c g.step.key j) callers ≡ true → list_all (λ c. is_other_join c g.step.key j) callers ≡ true
    each [] h = refl
    each (c ∷ cs) h = h

    one : (w : Bool) (callers : List Caller) → (not w || may_come_all history j.caller j.key) ≡ true → (not w || is_other_join g.caller g.step.key j) ≡ true
        → list_all (λ c. not w || is_other_join c g.step.key j) g.joined ≡ true → (not w || may_come_all (history ++ events_of place g) j.caller j.key) ≡ true
    one false callers s a c = refl
    one true callers s a c = behind-append history (events_of place g) j.caller j.key s (behind-group place g j.caller j.key a c)

-- 4. How many events a group has.

length-victim : (victim : Option Bytes) (key : Bytes) (cause : Option Cause) → length (victim_events victim) + length (evicted_events key cause) ≤ 2
length-victim victim key cause = at_most victim cause
  where
    at_most : (victim : Option Bytes) (cause : Option Cause) → length (victim_events victim) + length (evicted_events key cause) ≤ 2
    at_most None None = omega arith
    at_most None (Some c) = omega arith
    at_most (Some v) None = omega arith
    at_most (Some v) (Some c) = omega arith

length-shared : (place : ℕ) (key : Bytes) (answer : LoadAnswer) (callers : List Caller) → length (map (shared_event place key answer) callers) ≡ length callers
length-shared place key answer [] = refl
length-shared place key answer (c ∷ cs) = ap suc (length-shared place key answer cs)

-- three, and one for each that shares its load
pub few_events : (place : ℕ) (g : Group) → length (events_of place g) ≤ 3 + length g.joined
few_events place g =
    let shared : List Event = map (shared_event (step_place place g) g.step.key g.step.out.load) g.joined in
    let own : List Event = evicted_events g.step.key g.evicted in
    let all : length (events_of place g) ≡ length (victim_events g.victim) + length (step_event g ∷ shared) + length own =
    length-append (victim_events g.victim ++ step_event g ∷ shared) own ∙ ap (λ n. n + length own) (length-append (victim_events g.victim) (step_event g ∷ shared)) in
    let n = length-shared (step_place place g) g.step.key g.step.out.load g.joined in
    let few = length-victim g.victim g.step.key g.evicted in
    omega arith

-- two, and one for each that shares its load, where its own key isn't evicted
pub two_events : (place : ℕ) (g : Group) → g.evicted ≡ None → length (events_of place g) ≤ 2 + length g.joined
two_events place g none =
    let shared : List Event = map (shared_event (step_place place g) g.step.key g.step.out.load) g.joined in
    let own : List Event = evicted_events g.step.key g.evicted in
    let all : length (events_of place g) ≡ length (victim_events g.victim) + length (step_event g ∷ shared) + length own =
    length-append (victim_events g.victim ++ step_event g ∷ shared) own ∙ ap (λ n. n + length own) (length-append (victim_events g.victim) (step_event g ∷ shared)) in
    let n = length-shared (step_place place g) g.step.key g.step.out.load g.joined in
    let no_own : length own ≡ 0 = ap (λ e. length (evicted_events g.step.key e)) none in
    let one = at_most g.victim in
    omega arith
  where
    at_most : (victim : Option Bytes) → length (victim_events victim) ≤ 1
    at_most None = omega arith
    at_most (Some v) = omega arith

-- one, where the step leaves its entry and nobody shares its load
pub one_event : (m : State) (caller : Caller) (key : Bytes) (op : Op) (out : Out) (short : Bool) (place : ℕ) → entry_after op (entry_at m.cache key) out ≡ entry_at m.cache key
    → length (events_of place (new_group m caller key op out [] short)) ≤ 1
one_event m caller key op out short place same = go (inserts_here m key op out) (not_inserted m key op out same)
  where
    go : (i : Bool) → i ≡ false
        → length (victim_events (cond (i && (len m.cache == m.config.capacity)) (least_used m) None) ++ (Step caller op key out None (reply_after op (entry_at m.cache key) out) ∷ [])
        ++ evicted_events key (own_cause i (i && (len m.cache == m.config.capacity)) (is_some (cond (i && (len m.cache == m.config.capacity)) (least_used m) None)) short)) ≤ 1
    go true h = cc
    go false h = omega arith
