-- The order's parts: what a stripe appends is in its own part, and after what may come before it.
--     shape_set      the shape of a world, if one stripe is another and the order is that stripe's longer one
--     AllBy          each step among events is of such a caller at such a key
--     added_order    steps that may come after an order are at its end
--     comes_added    a step may still come, if it may after each that is added
use Rattle.jc_world.proofs.Common.{◌≡◌, ℕ, zero, suc, Bool, true, false, cond, not, ◌&&◌, ◌||◌, List, [], ◌∷◌, ◌++◌, map, length, drop, IsSomeAnd, nat_lt, ◌==◌, slice_get, slice_set, Some, None, filter, Option, find, sym, refl, ap, ◌∙◌, subst, append-nil, arith, drop-append_seam, eqb-true, ne_eqb, and_parts, and_from, filter-append, list_all-append, pointwise, list_all, check, stripe_of, Caller, Config, Bytes, Group, victim_events, evicted_events, step_event, shared_event, step_place, events_of, may_come, may_follow, in_order, event_key, is_of_stripe, of_stripe, Cause, Event, Evict, LoadAnswer, Op, Out, Reply, Extends, may_come_all, IsReached, State, IsWorldStripe, IsWorldShaped, is_up_to, number_up_to, Each, WorldState, home, stripe_for}
use Rattle.jc_model.specs.declared.event.Event.TheVariants.{Step}

-- 1. Small facts.

-- both tests hold
-- a condition on what is there
pub is_some_and : {A : Type 0} (o : Option A) (P : A → Type 0) (x : A) → o ≡ Some x → P x → IsSomeAnd o P
is_some_and o P x e h = let Q : Option _ → Type 0 = λ o. IsSomeAnd o P in subst Q (sym e) h

-- what is at a place stays there if more follows
pub still_at : {A : Type 0} (xs ys : List A) (i : ℕ) (x : A) → slice_get xs i ≡ Some x → slice_get (xs ++ ys) i ≡ Some x
still_at [] ys i x h = cc
still_at (z ∷ zs) ys zero x h = h
still_at (z ∷ zs) ys (suc i) x h = still_at zs ys i x h

-- a place of a list of which one place is another
pub set_cases : {A P : Type 0} (xs : List A) (i j : ℕ) (x y : A) → (i ≡ j → x ≡ y → P) → ((i ≡ j → ⊥) → slice_get xs j ≡ Some y → P) → slice_get (slice_set xs i x) j ≡ Some y → P
set_cases [] i j x y here there h = cc
set_cases (z ∷ zs) zero zero x y here there h = here refl cc
set_cases (z ∷ zs) (suc i) (suc j) x y here there h = set_cases zs i j x y (λ e. here (ap suc e)) (λ apart. there (λ e. apart (omega arith))) h
set_cases xs i j x y here there h = there (λ e. omega arith) h

-- a list of which one place is another is as long
pub length-slice_set : {A : Type 0} (xs : List A) (i : ℕ) (x : A) → length (slice_set xs i x) ≡ length xs
length-slice_set (z ∷ zs) (suc i) x = ap suc (length-slice_set zs i x)
length-slice_set xs i x = refl

-- one that is found passes the test
pub found_test : {A : Type 0} (p : A → Bool) (xs : List A) (x : A) → find p xs ≡ Some x → p x ≡ true
found_test p [] x h = cc
found_test p (y ∷ ys) x h =
    elim (p y) as (λ b. p y ≡ b → cond b (Some y) (find p ys) ≡ Some x → p x ≡ true) [
      | true ↦ λ e h. let is : y ≡ x = cc in ap p (sym is) ∙ e
      | false ↦ λ e h. found_test p ys x h
    ] refl h

-- what is true of each gives another fact
pub each_map : {A : Type 0} (P Q : A → Type 0) (xs : List A) → ((x : A) → P x → Q x) → Each P xs → Each Q xs
each_map P Q [] f h = tt
each_map P Q (x ∷ xs) f h = (f x h.0, each_map P Q xs f h.1)

-- so it is of one that is found
pub fact_found : {A : Type 0} (P : A → Type 0) (p : A → Bool) (xs : List A) (x : A) → find p xs ≡ Some x → Each P xs → P x
fact_found P p [] x h each = cc
fact_found P p (y ∷ ys) x h each =
    elim (p y) as (λ b. cond b (Some y) (find p ys) ≡ Some x → P x) [
      | true ↦ λ h. let is : y ≡ x = cc in subst P is each.0
      | false ↦ λ h. fact_found P p ys x h each.1
    ] h

-- and with one more at the end
pub each_pushed : {A : Type 0} (P : A → Type 0) (xs : List A) (x : A) → Each P xs → P x → Each P (xs ++ x ∷ [])
each_pushed P [] x each one = (one, tt)
each_pushed P (y ∷ ys) x each one = (each.0, each_pushed P ys x each.1 one)

-- and of those that pass a test
pub each_filter : {A : Type 0} (P : A → Type 0) (p : A → Bool) (xs : List A) → Each P xs → Each P (filter p xs)
each_filter P p [] h = tt
each_filter P p (x ∷ xs) h = elim (p x) as (λ b. Each P (cond b (x ∷ filter p xs) (filter p xs))) [ true ↦ (h.0, each_filter P p xs h.1) | false ↦ each_filter P p xs h.1 ]

-- a test that follows from it
pub each_test : {A : Type 0} (P : A → Type 0) (p : A → Bool) (xs : List A) → ((x : A) → P x → p x ≡ true) → Each P xs → list_all p xs ≡ true
each_test P p [] f each = refl
each_test P p (x ∷ xs) f each = and_from _ _ (f x each.0) (each_test P p xs f each.1)

-- a fact of those that pass a test
pub each_kept : {A : Type 0} (P Q : A → Type 0) (p : A → Bool) (xs : List A) → ((x : A) → p x ≡ true → P x → Q x) → Each P xs → Each Q (filter p xs)
each_kept P Q p [] f each = tt
each_kept P Q p (x ∷ xs) f each =
    elim (p x) as (λ b. p x ≡ b → Each Q (cond b (x ∷ filter p xs) (filter p xs))) [
      | true ↦ λ e. (f x e each.0, each_kept P Q p xs f each.1)
      | false ↦ λ e. each_kept P Q p xs f each.1
    ] refl

-- 2. What a stripe appends.

-- what a stripe appended
abbrev pub added : State → State → List Event
added from to = drop (length from.history) to.history

pub added_is : (from to : State) (g : Extends from to) → added from to ≡ g.more
added_is from to g = ap (drop (length from.history)) g.history ∙ drop-append_seam from.history g.more

-- the second of two lists
all_back : {A : Type 0} (p : A → Bool) (xs ys : List A) → list_all p (xs ++ ys) ≡ true → list_all p ys ≡ true
all_back p xs ys h = (and_parts (list_all p xs) (list_all p ys) (sym (list_all-append p xs ys) ∙ h)).1

-- all that pass are kept
all_kept : {A : Type 0} (p : A → Bool) (xs : List A) → list_all p xs ≡ true → filter p xs ≡ xs
all_kept p [] h = refl
all_kept p (x ∷ xs) h = let parts = and_parts (p x) (list_all p xs) h in ap (λ b. cond b (x ∷ filter p xs) (filter p xs)) parts.0 ∙ ap (λ ys. x ∷ ys) (all_kept p xs parts.1)

-- and none that pass if another test fails then
none_kept : {A : Type 0} (p q : A → Bool) (xs : List A) → ((x : A) → p x ≡ true → q x ≡ false) → list_all p xs ≡ true → filter q xs ≡ []
none_kept p q [] f h = refl
none_kept p q (x ∷ xs) f h = let parts = and_parts (p x) (list_all p xs) h in ap (λ b. cond b (x ∷ filter q xs) (filter q xs)) (f x parts.0) ∙ none_kept p q xs f parts.1

-- what a stripe that is reached appends is of its keys
own_added : (w : WorldState) (n : ℕ) (from to : State) (g : Extends from to) → IsWorldStripe w n from → IsReached to → list_all (is_of_stripe w.config.stripes n) g.more ≡ true
own_added w n from to g at reached =
    let s : to.config.stripes ≡ w.config.stripes = ap (λ (c : Config). c.stripes) (g.same.config ∙ at.config_is) in
    let m : to.stripe ≡ n = g.same.stripe ∙ at.number_is in
    let e : list_all (is_of_stripe to.config.stripes to.stripe) to.history ≡ list_all (is_of_stripe w.config.stripes n) (from.history ++ g.more) = λ i. list_all (is_of_stripe (s i) (m i)) (g.history i) in
    all_back (is_of_stripe w.config.stripes n) from.history g.more (sym e ∙ reached.own)

-- so the stripe's part of the order grows by it
pub share_grows : (w : WorldState) (n : ℕ) (from to : State) → Extends from to → IsWorldStripe w n from → IsReached to → of_stripe w.config.stripes n (w.order ++ added from to) ≡ to.history
share_grows w n from to g at reached =
    ap (λ more. of_stripe w.config.stripes n (w.order ++ more)) (added_is from to g)
    ∙ filter-append (is_of_stripe w.config.stripes n) w.order g.more
    ∙ ap (λ h. h ++ of_stripe w.config.stripes n g.more) at.share
    ∙ ap (λ more. from.history ++ more) (all_kept (is_of_stripe w.config.stripes n) g.more (own_added w n from to g at reached))
    ∙ sym g.history

-- an event is of one stripe
one_stripe : (stripes n m : ℕ) (e : Event) → (n ≡ m → ⊥) → is_of_stripe stripes n e ≡ true → is_of_stripe stripes m e ≡ false
one_stripe stripes n m e apart h = ne_eqb (stripe_of (event_key e) stripes) m (λ is. apart (sym (eqb-true (stripe_of (event_key e) stripes) n h) ∙ is))

-- and the others' parts stay
pub share_stays : (w : WorldState) (n m : ℕ) (from to : State) → Extends from to → IsWorldStripe w n from → IsReached to → (n ≡ m → ⊥) → of_stripe w.config.stripes m (w.order ++ added from to) ≡ of_stripe w.config.stripes m w.order
share_stays w n m from to g at reached apart =
    ap (λ more. of_stripe w.config.stripes m (w.order ++ more)) (added_is from to g)
    ∙ filter-append (is_of_stripe w.config.stripes m) w.order g.more
    ∙ ap (λ more. of_stripe w.config.stripes m w.order ++ more)
    (none_kept (is_of_stripe w.config.stripes n) (is_of_stripe w.config.stripes m) g.more (λ e. one_stripe w.config.stripes n m e apart) (own_added w n from to g at reached))
    ∙ append-nil (of_stripe w.config.stripes m w.order)

-- 3. The shape.

-- the same stripes and the same order
pub shape_same : (w n : WorldState) → n.config ≡ w.config → n.stripes ≡ w.stripes → n.order ≡ w.order → IsWorldShaped w → IsWorldShaped n
shape_same w n config stripes order shape = record {
  config_fits = ap check config ∙ shape.config_fits;
  count = ap length stripes ∙ shape.count ∙ ap (λ (c : Config). c.stripes) (sym config);
  each = λ k s here.
      let h = shape.each k s (ap (λ xs. slice_get xs k) (sym stripes) ∙ here) in
      let share : of_stripe n.config.stripes k n.order ≡ of_stripe w.config.stripes k w.order = λ i. of_stripe (config i).stripes k (order i) in
      record { config_is = h.config_is ∙ sym config; number_is = h.number_is; origin_is = h.origin_is; ended_is = h.ended_is; reached = h.reached; share = share ∙ h.share };
}

-- one stripe is another, and the order has all that it appended
pub shape_set : (w n : WorldState) (key : Bytes) (from to : State) → n.config ≡ w.config → n.stripes ≡ slice_set w.stripes (home w key) to → IsWorldShaped w → stripe_for w key ≡ Some from
    → to.config ≡ from.config → to.stripe ≡ from.stripe → to.origin ≡ from.origin → to.ended ≡ from.ended → IsReached to
    → of_stripe w.config.stripes (home w key) n.order ≡ to.history
    → ((m : ℕ) → (home w key ≡ m → ⊥) → of_stripe w.config.stripes m n.order ≡ of_stripe w.config.stripes m w.order) → IsWorldShaped n
shape_set w n key from to config_is stripes_are shape there config number origin ended reached share rest =
    let old = shape.each (home w key) from there in
    let count_is : n.config.stripes ≡ w.config.stripes = ap (λ (c : Config). c.stripes) config_is in
    let mine : IsWorldStripe n (home w key) to =
    record { config_is = config ∙ old.config_is ∙ sym config_is; number_is = number ∙ old.number_is; origin_is = origin ∙ old.origin_is; ended_is = ended ∙ old.ended_is; reached = reached; share = ap (λ c. of_stripe c (home w key) n.order) count_is ∙ share } in
    record {
      config_fits = ap check config_is ∙ shape.config_fits;
      count = ap length stripes_are ∙ length-slice_set w.stripes (home w key) to ∙ shape.count ∙ sym count_is;
      each = λ m s here. set_cases w.stripes (home w key) m to s
          (λ same is. let P : ℕ → Type 0 = λ m. IsWorldStripe n m s in let Q : State → Type 0 = λ s. IsWorldStripe n (home w key) s in subst P same (subst Q is mine))
          (λ apart here.
          let h = shape.each m s here in
          record { config_is = h.config_is ∙ sym config_is; number_is = h.number_is; origin_is = h.origin_is; ended_is = h.ended_is; reached = h.reached; share = ap (λ c. of_stripe c m n.order) count_is ∙ rest m apart ∙ h.share })
          (ap (λ xs. slice_get xs m) (sym stripes_are) ∙ here);
    }

-- 4. The callers' order.

-- each step among these events is of such a caller at such a key
abbrev pub AllBy : (Caller → Bytes → Type 0) → List Event → Type 0
AllBy P [] = Unit {0}
AllBy P (Step who op key out shared reply ∷ events) = P who key × AllBy P events
AllBy P (Evict key cause ∷ events) = AllBy P events

pub by_map : (P Q : Caller → Bytes → Type 0) (es : List Event) → ((c : Caller) (key : Bytes) → P c key → Q c key) → AllBy P es → AllBy Q es
by_map P Q [] f h = tt
by_map P Q (Step who op key out shared reply ∷ es) f h = (f who key h.0, by_map P Q es f h.1)
by_map P Q (Evict key cause ∷ es) f h = by_map P Q es f h

by_append : (P : Caller → Bytes → Type 0) (xs ys : List Event) → AllBy P xs → AllBy P ys → AllBy P (xs ++ ys)
by_append P [] ys h k = k
by_append P (Step who op key out shared reply ∷ xs) ys h k = (h.0, by_append P xs ys h.1 k)
by_append P (Evict key cause ∷ xs) ys h k = by_append P xs ys h k

-- the evictions of a group are of nobody
by_victim : (P : Caller → Bytes → Type 0) (victim : Option Bytes) → AllBy P (victim_events victim)
by_victim P None = tt
by_victim P (Some key) = tt

by_evicted : (P : Caller → Bytes → Type 0) (key : Bytes) (cause : Option Cause) → AllBy P (evicted_events key cause)
by_evicted P key None = tt
by_evicted P key (Some cause) = tt

-- each caller's shared step is its own
by_shared : (P : Caller → Bytes → Type 0) (place : ℕ) (key : Bytes) (answer : LoadAnswer) (callers : List Caller) → Each (λ (c : Caller). P c key) callers → AllBy P (map (shared_event place key answer) callers)
by_shared P place key answer [] h = tt
by_shared P place key answer (c ∷ cs) h = (h.0, by_shared P place key answer cs h.1)

-- the events of a group are of its call and of the callers that share its load
pub by_group : (P : Caller → Bytes → Type 0) (place : ℕ) (group : Group) → P group.caller group.step.key → Each (λ (c : Caller). P c group.step.key) group.joined → AllBy P (events_of place group)
by_group P place group one callers =
    let front = victim_events group.victim in
    let steps = step_event group ∷ map (shared_event (step_place place group) group.step.key group.step.out.load) group.joined in
    let all_steps : AllBy P steps = (one, by_shared P (step_place place group) group.step.key group.step.out.load group.joined callers) in
    by_append P (front ++ steps) (evicted_events group.step.key group.evicted) (by_append P front steps (by_victim P group.victim) all_steps) (by_evicted P group.step.key group.evicted)

-- a fact of each event, if it holds of each step
pub all_by : (P : Caller → Bytes → Type 0) (p : Event → Bool) (es : List Event) → ((who : Caller) (op : Op) (key : Bytes) (out : Out) (shared : Option ℕ) (reply : Reply) → P who key → p (Step who op key out shared reply) ≡ true)
    → ((key : Bytes) (cause : Cause) → p (Evict key cause) ≡ true) → AllBy P es → list_all p es ≡ true
all_by P p [] f g h = refl
all_by P p (Step who op key out shared reply ∷ es) f g h = and_from _ _ (f who op key out shared reply h.0) (all_by P p es f g h.1)
all_by P p (Evict key cause ∷ es) f g h = and_from _ _ (g key cause) (all_by P p es f g h)

-- everything may come before an eviction
before_evict : (x : Event) (key : Bytes) (cause : Cause) → may_follow x (Evict key cause) ≡ true
before_evict (Step who op key' out shared reply) key cause = refl
before_evict (Evict key' cause') key cause = refl

-- events may come after an order if their steps may
all_follow : (xs ys : List Event) → AllBy (λ who key. may_come_all xs who key ≡ true) ys → list_all (λ x. list_all (may_follow x) ys) xs ≡ true
all_follow [] ys h = refl
all_follow (x ∷ xs) ys h = and_from _ _
    (all_by (λ who key. may_come_all (x ∷ xs) who key ≡ true) (may_follow x) ys
    (λ who op key out shared reply k. (and_parts (may_come x who key) (may_come_all xs who key) k).0) (before_evict x) h)
    (all_follow xs ys (by_map (λ who key. may_come_all (x ∷ xs) who key ≡ true) (λ who key. may_come_all xs who key ≡ true) ys (λ who key k. (and_parts (may_come x who key) (may_come_all xs who key) k).1) h))

-- two parts in order, of which the one may come after the other
order_joined : (xs ys : List Event) → in_order xs ≡ true → in_order ys ≡ true → list_all (λ x. list_all (may_follow x) ys) xs ≡ true → in_order (xs ++ ys) ≡ true
order_joined [] ys h k f = k
order_joined (x ∷ xs) ys h k f =
    let parts = and_parts (list_all (may_follow x) xs) (in_order xs) h in
    let fits = and_parts (list_all (may_follow x) ys) (list_all (λ x. list_all (may_follow x) ys) xs) f in
    and_from _ _ (list_all-append (may_follow x) xs ys ∙ and_from _ _ parts.0 fits.0) (order_joined xs ys parts.1 k fits.1)

-- the second part of what is in order is in order
order_back : (xs ys : List Event) → in_order (xs ++ ys) ≡ true → in_order ys ≡ true
order_back [] ys h = h
order_back (x ∷ xs) ys h = order_back xs ys (and_parts (list_all (may_follow x) (xs ++ ys)) (in_order (xs ++ ys)) h).1

-- the order with steps that may come after it
pub added_order : (order : List Event) (from to : State) (g : Extends from to) → IsReached to → in_order order ≡ true → AllBy (λ who key. may_come_all order who key ≡ true) g.more → in_order (order ++ added from to) ≡ true
added_order order from to g reached h none =
    ap (λ more. in_order (order ++ more)) (added_is from to g)
    ∙ order_joined order g.more h (order_back from.history g.more (sym (ap in_order g.history) ∙ reached.legal.order)) (all_follow order g.more none)

-- a fact of each event of the order, and of what is added
added_all : (p : Event → Bool) (order : List Event) (from to : State) (g : Extends from to) → list_all p order ≡ true → list_all p g.more ≡ true → list_all p (order ++ added from to) ≡ true
added_all p order from to g before here = list_all-append p order (added from to) ∙ and_from _ _ before (ap (list_all p) (added_is from to g) ∙ here)

-- the numbers of the steps are at most the last
pub numbers_added : (last : Option ℕ) (order : List Event) (from to : State) (g : Extends from to) → list_all (number_up_to last) order ≡ true → AllBy (λ who key. is_up_to last who.call ≡ true) g.more → list_all (number_up_to last) (order ++ added from to) ≡ true
numbers_added last order from to g before here =
    added_all (number_up_to last) order from to g before (all_by (λ who key. is_up_to last who.call ≡ true) (number_up_to last) g.more (λ who op key out shared reply h. h) (λ key cause. refl) here)

-- a step of this caller at this key may come after one of the other
abbrev pub comes_behind : Caller → Bytes → Caller → Bytes → Bool
comes_behind who k caller key = not (who.session == caller.session) || nat_lt who.call caller.call || ((who.call == caller.call) && not (pointwise ◌==◌ k key))

-- a step may still come if it may after each that is added
pub comes_added : (order : List Event) (from to : State) (caller : Caller) (key : Bytes) (g : Extends from to) → may_come_all order caller key ≡ true → AllBy (λ who k. comes_behind who k caller key ≡ true) g.more → may_come_all (order ++ added from to) caller key ≡ true
comes_added order from to caller key g before here =
    added_all (λ e. may_come e caller key) order from to g before
    (all_by (λ who k. comes_behind who k caller key ≡ true) (λ e. may_come e caller key) g.more (λ who op k out shared reply h. h) (λ k cause. refl) here)
