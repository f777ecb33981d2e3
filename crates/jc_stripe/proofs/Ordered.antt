-- The callers' order, and the stripe's keys, behind the group of a step.
use Rattle.std.proofs.Common.{◌≡◌, ◌==◌, ◌&&◌, ◌||◌, ℕ, List, [], ◌∷◌, ◌++◌, map, Bool, true, false, cond, not, Option, None, Some, is_some, nat_lt, refl, sym, ap, ◌∙◌, append_assoc, append-nil}
use Rattle.std.specs.List.{list_all}
use Rattle.std.specs.Cmp.Lexicographic.{pointwise}
use Rattle.std.specs.Ordering.{eq_by_cmp}
use Rattle.std.specs.FinMap as finite
use Rattle.std.proofs.lemmas.List.Folds.{list_all-append}
use Rattle.std.proofs.lemmas.Cmp.{nat_list_eq_equiv, nat_eq_equiv}
use Rattle.std.proofs.lemmas.Bool.{and_parts, and_from}
use Rattle.jc_model.specs.declared.event.Event.{Event}
use Rattle.jc_model.specs.declared.event.Event.TheVariants.{Step, Evict}
use Rattle.jc_model.specs.declared.event.Op.{Op}
use Rattle.jc_model.specs.declared.event.Op.TheVariants.{Get}
use Rattle.jc_model.specs.declared.event.Out.{Out}
use Rattle.jc_model.specs.declared.event.Reply.{Reply}
use Rattle.jc_model.specs.declared.event.Cause.{Cause}
use Rattle.jc_model.specs.declared.event.LoadAnswer.{LoadAnswer}
use Rattle.jc_model.specs.Cache.{Bytes, key_cmp}
use Rattle.jc_model.specs.Listed.{others, with_entry_first}
use Rattle.jc_model.specs.Table.{entry_after, reply_after}
use Rattle.jc_model.specs.Group.{Group, victim_events, step_event, step_place, shared_event, evicted_events, events_of, load_only}
use Rattle.jc_model.specs.Legal.{may_come, may_follow, in_order}
use Rattle.jc_model.proofs.CallerLemmas.{same_key, order-last}
use Rattle.jc_entries.specs.ByUse.{after_eviction}
use Rattle.jc_entries.proofs.CallerLemmas.{lru_victim-found}
use Rattle.jc_stripe.specs.State.{State, is_of}
use Rattle.jc_stripe.specs.OrderOfUse.{is_use, used_at, by_use, least_used, pinned}
use Rattle.jc_stripe.specs.OwnSteps.{may_come_all}
use Rattle.jc_stripe.specs.Reached.{is_own}
use Rattle.jc_stripe.specs.Appending.{without_own_entry, entries_after}
use Rattle.jc_types.specs.declared.caller.Caller.{Caller}

-- 1. What may come behind what.

pub behind-append : (xs ys : List Event) (caller : Caller) (key : Bytes) → may_come_all xs caller key ≡ true → may_come_all ys caller key ≡ true → may_come_all (xs ++ ys) caller key ≡ true
behind-append xs ys caller key g h = list_all-append (λ e. may_come e caller key) xs ys ∙ and_from _ _ g h

comes : (a b l k : Bool) → (not a || (b && not k)) ≡ true → (not a || l || (b && not k)) ≡ true
comes true true true k h = refl
comes true true false k h = h
comes true false l k h = cc
comes false b l k h = refl

-- of another session, or of the same call for another key
pub comes_beside : (who : Caller) (k : Bytes) (op : Op) (out : Out) (shared : Option ℕ) (reply : Reply) (caller : Caller) (key : Bytes) → (not (caller.session == who.session) || ((caller.call == who.call) && not (pointwise ◌==◌ key k))) ≡ true
    → may_come (Step who op k out shared reply) caller key ≡ true
comes_beside who k op out shared reply caller key h =
    comes (who.session == caller.session) (who.call == caller.call) (nat_lt who.call caller.call) (pointwise ◌==◌ k key)
    (ap (λ b. not b || ((who.call == caller.call) && not (pointwise ◌==◌ k key))) (nat_eq_equiv.symm who.session caller.session)
    ∙ ap (λ b. not (caller.session == who.session) || (b && not (pointwise ◌==◌ k key))) (nat_eq_equiv.symm who.call caller.call)
    ∙ ap (λ b. not (caller.session == who.session) || ((caller.call == who.call) && not b)) (nat_list_eq_equiv.symm k key)
    ∙ h)

away : (a l c : Bool) → not a ≡ true → (not a || l || c) ≡ true
away true l c h = cc
away false l c h = refl

-- of another session
pub comes_away : (who : Caller) (k : Bytes) (op : Op) (out : Out) (shared : Option ℕ) (reply : Reply) (caller : Caller) (key : Bytes) → not (caller.session == who.session) ≡ true → may_come (Step who op k out shared reply) caller key ≡ true
comes_away who k op out shared reply caller key h = away (who.session == caller.session) (nat_lt who.call caller.call) _ (ap not (nat_eq_equiv.symm who.session caller.session) ∙ h)

behind-victim : (victim : Option Bytes) (caller : Caller) (key : Bytes) → may_come_all (victim_events victim) caller key ≡ true
behind-victim None caller key = refl
behind-victim (Some v) caller key = refl

behind-evicted : (k : Bytes) (cause : Option Cause) (caller : Caller) (key : Bytes) → may_come_all (evicted_events k cause) caller key ≡ true
behind-evicted k None caller key = refl
behind-evicted k (Some cause) caller key = refl

-- a step is beside those that share a load at a key
abbrev pub beside_callers : Caller → Bytes → Bytes → List Caller → Bool
beside_callers caller key k callers = list_all (λ c. not (caller.session == c.session) || ((caller.call == c.call) && not (pointwise ◌==◌ key k))) callers

behind-shared : (place : ℕ) (k : Bytes) (answer : LoadAnswer) (callers : List Caller) (caller : Caller) (key : Bytes) → beside_callers caller key k callers ≡ true
    → may_come_all (map (shared_event place k answer) callers) caller key ≡ true
behind-shared place k answer [] caller key h = refl
behind-shared place k answer (c ∷ cs) caller key h =
    let parts = and_parts (not (caller.session == c.session) || ((caller.call == c.call) && not (pointwise ◌==◌ key k))) (beside_callers caller key k cs) h in
    and_from _ _ (comes_beside c k Get (load_only answer) (Some place) (reply_after Get None (load_only answer)) caller key parts.0) (behind-shared place k answer cs caller key parts.1)

-- a step that is beside those of a group may come behind it
pub behind-group : (place : ℕ) (g : Group) (caller : Caller) (key : Bytes) → (not (caller.session == g.caller.session) || ((caller.call == g.caller.call) && not (pointwise ◌==◌ key g.step.key))) ≡ true
    → beside_callers caller key g.step.key g.joined ≡ true → may_come_all (events_of place g) caller key ≡ true
behind-group place g caller key beside callers =
    let shared : List Event = map (shared_event (step_place place g) g.step.key g.step.out.load) g.joined in
    behind-append (victim_events g.victim ++ step_event g ∷ shared) (evicted_events g.step.key g.evicted) caller key
    (behind-append (victim_events g.victim) (step_event g ∷ shared) caller key (behind-victim g.victim caller key)
    (and_from _ _ (comes_beside g.caller g.step.key g.step.op g.step.out None g.step.reply caller key beside) (behind-shared (step_place place g) g.step.key g.step.out.load g.joined caller key callers)))
    (behind-evicted g.step.key g.evicted caller key)

-- 2. The order of the events.

follows_come : (xs : List Event) (who : Caller) (op : Op) (k : Bytes) (out : Out) (shared : Option ℕ) (reply : Reply) → list_all (λ e. may_follow e (Step who op k out shared reply)) xs ≡ may_come_all xs who k
follows_come [] who op k out shared reply = refl
follows_come (Step who' op' k' out' shared' reply' ∷ xs) who op k out shared reply = ap (λ b. may_come (Step who' op' k' out' shared' reply') who k && b) (follows_come xs who op k out shared reply)
follows_come (Evict k' cause ∷ xs) who op k out shared reply = follows_come xs who op k out shared reply

-- a step more, behind which it may come
pub order-pushed : (xs : List Event) (who : Caller) (op : Op) (k : Bytes) (out : Out) (shared : Option ℕ) (reply : Reply) → in_order xs ≡ true → may_come_all xs who k ≡ true → in_order (xs ++ Step who op k out shared reply ∷ []) ≡ true
order-pushed xs who op k out shared reply g h = order-last xs (Step who op k out shared reply) ∙ and_from _ _ g (follows_come xs who op k out shared reply ∙ h)

follows_evict : (xs : List Event) (k : Bytes) (cause : Cause) → list_all (λ e. may_follow e (Evict k cause)) xs ≡ true
follows_evict [] k cause = refl
follows_evict (Step who op key out shared reply ∷ xs) k cause = follows_evict xs k cause
follows_evict (Evict key c ∷ xs) k cause = follows_evict xs k cause

order-evicted : (xs : List Event) (k : Bytes) (cause : Cause) → in_order xs ≡ true → in_order (xs ++ Evict k cause ∷ []) ≡ true
order-evicted xs k cause g = order-last xs (Evict k cause) ∙ and_from _ _ g (follows_evict xs k cause)

order-victim : (xs : List Event) (victim : Option Bytes) → in_order xs ≡ true → in_order (xs ++ victim_events victim) ≡ true
order-victim xs None g = ap in_order (append-nil xs) ∙ g
order-victim xs (Some v) g = order-evicted xs v _ g

order-own : (xs : List Event) (k : Bytes) (cause : Option Cause) → in_order xs ≡ true → in_order (xs ++ evicted_events k cause) ≡ true
order-own xs k None g = ap in_order (append-nil xs) ∙ g
order-own xs k (Some cause) g = order-evicted xs k cause g

-- the callers are of different sessions
abbrev pub apart_callers : List Caller → Bool
apart_callers [] = true
apart_callers (c ∷ cs) = list_all (λ d. not (d.session == c.session)) cs && apart_callers cs

-- each of the callers may come behind these at a key
abbrev pub callers_behind : List Event → Bytes → List Caller → Bool
callers_behind events key callers = list_all (λ c. may_come_all events c key) callers

-- also behind one step more, of another session
callers_pushed : (xs : List Event) (who : Caller) (k : Bytes) (op : Op) (out : Out) (shared : Option ℕ) (reply : Reply) (key : Bytes) (callers : List Caller) → list_all (λ d. not (d.session == who.session)) callers ≡ true
    → callers_behind xs key callers ≡ true → callers_behind (xs ++ Step who op k out shared reply ∷ []) key callers ≡ true
callers_pushed xs who k op out shared reply key [] apart h = refl
callers_pushed xs who k op out shared reply key (c ∷ cs) apart h =
    let away = and_parts (not (c.session == who.session)) (list_all (λ d. not (d.session == who.session)) cs) apart in
    let parts = and_parts (may_come_all xs c key) (callers_behind xs key cs) h in
    and_from _ _ (behind-append xs (Step who op k out shared reply ∷ []) c key parts.0 (and_from _ _ (comes_away who k op out shared reply c key away.0) refl))
    (callers_pushed xs who k op out shared reply key cs away.1 parts.1)

order-shared : (xs : List Event) (place : ℕ) (key : Bytes) (answer : LoadAnswer) (callers : List Caller) → in_order xs ≡ true → callers_behind xs key callers ≡ true → apart_callers callers ≡ true
    → in_order (xs ++ map (shared_event place key answer) callers) ≡ true
order-shared xs place key answer [] g h apart = ap in_order (append-nil xs) ∙ g
order-shared xs place key answer (c ∷ cs) g h apart =
    let parts = and_parts (may_come_all xs c key) (callers_behind xs key cs) h in
    let aside = and_parts (list_all (λ d. not (d.session == c.session)) cs) (apart_callers cs) apart in
    ap in_order (sym (append_assoc xs (shared_event place key answer c ∷ []) (map (shared_event place key answer) cs)))
    ∙ order-shared (xs ++ shared_event place key answer c ∷ []) place key answer cs (order-pushed xs c Get key (load_only answer) (Some place) (reply_after Get None (load_only answer)) g parts.0) (callers_pushed xs c key Get (load_only answer) (Some place) (reply_after Get None (load_only answer)) key cs aside.0 parts.1) aside.1

-- what is known of who puts a group down
pub record MayPut (events : List Event) (caller : Caller) (key : Bytes) (callers : List Caller) : Type 0 where
  pub behind : may_come_all events caller key ≡ true
  pub callers_behind : callers_behind events key callers ≡ true
  pub callers_away : list_all (λ d. not (d.session == caller.session)) callers ≡ true
  pub callers_apart : apart_callers callers ≡ true

callers_victim : (xs : List Event) (victim : Option Bytes) (key : Bytes) (callers : List Caller) → callers_behind xs key callers ≡ true → callers_behind (xs ++ victim_events victim) key callers ≡ true
callers_victim xs victim key [] h = refl
callers_victim xs victim key (c ∷ cs) h =
    let parts = and_parts (may_come_all xs c key) (callers_behind xs key cs) h in
    and_from _ _ (behind-append xs (victim_events victim) c key parts.0 (behind-victim victim c key)) (callers_victim xs victim key cs parts.1)

-- a group more
pub order-group : (xs : List Event) (place : ℕ) (g : Group) → in_order xs ≡ true → MayPut xs g.caller g.step.key g.joined → in_order (xs ++ events_of place g) ≡ true
order-group xs place g order may =
    let shared : List Event = map (shared_event (step_place place g) g.step.key g.step.out.load) g.joined in
    let one : List Event = xs ++ victim_events g.victim in
    let two : List Event = one ++ step_event g ∷ [] in
    let order_two : in_order two ≡ true = order-pushed one g.caller g.step.op g.step.key g.step.out None g.step.reply (order-victim xs g.victim order)
    (behind-append xs (victim_events g.victim) g.caller g.step.key may.behind (behind-victim g.victim g.caller g.step.key)) in
    let behind_two : callers_behind two g.step.key g.joined ≡ true = callers_pushed one g.caller g.step.key g.step.op g.step.out None g.step.reply g.step.key g.joined may.callers_away
    (callers_victim xs g.victim g.step.key g.joined may.callers_behind) in
    let spelled : xs ++ events_of place g ≡ (two ++ shared) ++ evicted_events g.step.key g.evicted =
    sym (append_assoc xs (victim_events g.victim ++ step_event g ∷ shared) (evicted_events g.step.key g.evicted))
    ∙ ap (λ es. es ++ evicted_events g.step.key g.evicted) (sym (append_assoc xs (victim_events g.victim) (step_event g ∷ shared)) ∙ sym (append_assoc one (step_event g ∷ []) shared)) in
    ap in_order spelled
    ∙ order-own (two ++ shared) g.step.key g.evicted (order-shared two (step_place place g) g.step.key g.step.out.load g.joined order_two behind_two may.callers_apart)

-- 3. The stripe's keys.

own-shared : (m : State) (place : ℕ) (key : Bytes) (answer : LoadAnswer) (callers : List Caller) → is_of m key ≡ true → list_all (is_own m) (map (shared_event place key answer) callers) ≡ true
own-shared m place key answer [] h = refl
own-shared m place key answer (c ∷ cs) h = and_from _ _ h (own-shared m place key answer cs h)

own-victim : (m : State) (victim : Option Bytes) → ((v : Bytes) → victim ≡ Some v → is_of m v ≡ true) → list_all (is_own m) (victim_events victim) ≡ true
own-victim m None h = refl
own-victim m (Some v) h = and_from _ _ (h v refl) refl

own-evicted : (m : State) (key : Bytes) (cause : Option Cause) → is_of m key ≡ true → list_all (is_own m) (evicted_events key cause) ≡ true
own-evicted m key None h = refl
own-evicted m key (Some cause) h = and_from _ _ h refl

-- the events of a group are of the stripe's keys
pub own-group : (m : State) (place : ℕ) (g : Group) → is_of m g.step.key ≡ true → ((v : Bytes) → g.victim ≡ Some v → is_of m v ≡ true) → list_all (is_own m) (events_of place g) ≡ true
own-group m place g key victim =
    let shared : List Event = map (shared_event (step_place place g) g.step.key g.step.out.load) g.joined in
    list_all-append (is_own m) (victim_events g.victim ++ step_event g ∷ shared) (evicted_events g.step.key g.evicted)
    ∙ and_from _ _
    (list_all-append (is_own m) (victim_events g.victim) (step_event g ∷ shared) ∙ and_from _ _ (own-victim m g.victim victim) (and_from _ _ key (own-shared m (step_place place g) g.step.key g.step.out.load g.joined key)))
    (own-evicted m g.step.key g.evicted key)

-- what is found among entries of the stripe's keys is of the stripe
own_found : (m : State) (v : Bytes) (entries : List (Bytes × Bytes)) → is_some (finite.find key_cmp v entries) ≡ true → list_all (λ entry. is_of m entry.0) entries ≡ true → is_of m v ≡ true
own_found m v [] h all = cc
own_found m v (e ∷ es) h all =
    let parts = and_parts (is_of m e.0) (list_all (λ entry. is_of m entry.0) es) all in
    elim (eq_by_cmp key_cmp v e.0) as (λ b. eq_by_cmp key_cmp v e.0 ≡ b → is_some (cond b (Some e.1) (finite.find key_cmp v es)) ≡ true → is_of m v ≡ true) [
      | true ↦ λ t h. ap (is_of m) (same_key v e.0 t) ∙ parts.0
      | false ↦ λ t h. own_found m v es h parts.1
    ] refl h

-- so is the key that has to go
pub own_least : (m : State) (v : Bytes) → list_all (λ entry. is_of m entry.0) (by_use m.opening m.history) ≡ true → least_used m ≡ Some v → is_of m v ≡ true
own_least m v all h = own_found m v (by_use m.opening m.history) (lru_victim-found (by_use m.opening m.history) (pinned m.reservations) v h) all

own_others : (m : State) (key : Bytes) (entries : List (Bytes × Bytes)) → list_all (λ entry. is_of m entry.0) entries ≡ true → list_all (λ entry. is_of m entry.0) (others key entries) ≡ true
own_others m key [] h = refl
own_others m key (e ∷ es) h =
    let parts = and_parts (is_of m e.0) (list_all (λ entry. is_of m entry.0) es) h in
    elim (not (pointwise ◌==◌ key e.0)) as (λ b. list_all (λ entry. is_of m entry.0) (cond b (e ∷ others key es) (others key es)) ≡ true) [ true ↦ and_from _ _ parts.0 (own_others m key es parts.1) | false ↦ own_others m key es parts.1 ]

own_listed : (m : State) (key : Bytes) (entry : Option Bytes) (entries : List (Bytes × Bytes)) → is_of m key ≡ true → list_all (λ e. is_of m e.0) entries ≡ true → list_all (λ e. is_of m e.0) (with_entry_first key entry entries) ≡ true
own_listed m key None entries k h = own_others m key entries h
own_listed m key (Some value) entries k h = and_from _ _ k (own_others m key entries h)

own_without : (m : State) (victim : Option Bytes) (entries : List (Bytes × Bytes)) → list_all (λ e. is_of m e.0) entries ≡ true → list_all (λ e. is_of m e.0) (after_eviction victim entries) ≡ true
own_without m None entries h = h
own_without m (Some v) entries h = own_others m v entries h

own_used : (m : State) (key : Bytes) (op : Op) (out : Out) (entries : List (Bytes × Bytes)) → is_of m key ≡ true → list_all (λ e. is_of m e.0) entries ≡ true → list_all (λ e. is_of m e.0) (used_at entries key op out) ≡ true
own_used m key op out entries k h = elim (is_use op out) as (λ b. list_all (λ e. is_of m e.0) (cond b (with_entry_first key (entry_after op (finite.find key_cmp key entries) out) entries) entries) ≡ true) [
  | true ↦ own_listed m key (entry_after op (finite.find key_cmp key entries) out) entries k h
  | false ↦ h
]

own_goes : (m : State) (key : Bytes) (cause : Option Cause) (entries : List (Bytes × Bytes)) → list_all (λ e. is_of m e.0) entries ≡ true → list_all (λ e. is_of m e.0) (without_own_entry key cause entries) ≡ true
own_goes m key None entries h = h
own_goes m key (Some cause) entries h = own_others m key entries h

-- the entries that a group leaves are of the stripe's keys
pub own_left : (m : State) (entries : List (Bytes × Bytes)) (key : Bytes) (op : Op) (out : Out) (victim : Option Bytes) (evicted : Option Cause) → is_of m key ≡ true → list_all (λ e. is_of m e.0) entries ≡ true
    → list_all (λ e. is_of m e.0) (entries_after entries key op out victim evicted) ≡ true
own_left m entries key op out victim evicted k h = own_goes m key evicted _ (own_used m key op out (after_eviction victim entries) k (own_without m victim entries h))
