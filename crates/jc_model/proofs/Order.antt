-- The callers' order, seen from its end.
use Rattle.std.proofs.Common.{◌≡◌, ◌==◌, ◌&&◌, ◌||◌, ℕ, List, [], ◌∷◌, ◌++◌, Bool, true, false, not, nat_lt, ◌+◌, ◌<◌, length, take, drop, get_or, refl, sym, ap, ◌∙◌, arith}
use Rattle.std.specs.List.{list_all}
use Rattle.std.specs.Cmp.Lexicographic.{pointwise}
use Rattle.std.proofs.lemmas.List.{take_more, take-append-drop}
use Rattle.std.proofs.lemmas.List.Folds.{list_all-append}
use Rattle.std.proofs.lemmas.Bool.Decides.{nat_tests}
use Rattle.std.proofs.lemmas.Bool.{and_parts, and_from}
use Rattle.jc_model.specs.declared.event.Event.{Event}
use Rattle.jc_model.specs.declared.event.Event.TheVariants.{Step, Evict}
use Rattle.jc_model.specs.Legal.{may_follow, in_order}
use Rattle.jc_model.specs.Reader.{comes_before}
use Rattle.jc_model.proofs.CallerLemmas.{follows_all, order-last}

and_true : (b : Bool) → (b && true) ≡ b
and_true true = refl
and_true false = refl

pub order-front : (xs ys : List Event) → in_order (xs ++ ys) ≡ true → in_order xs ≡ true
order-front [] ys h = refl
order-front (x ∷ xs) ys h =
    let parts = and_parts (list_all (may_follow x) (xs ++ ys)) (in_order (xs ++ ys)) h in
    let here = and_parts (list_all (may_follow x) xs) (list_all (may_follow x) ys) (sym (list_all-append (may_follow x) xs ys) ∙ parts.0) in
    and_from _ _ here.0 (order-front xs ys parts.1)

through : (s s' s'' n n' n'' : ℕ) (k k' : Bool) → (not (s == s') || nat_lt n n' || ((n == n') && k)) ≡ true → ((s' == s'') && nat_lt n' n'') ≡ true → (not (s == s'') || nat_lt n n'' || ((n == n'') && k')) ≡ true
through s s' s'' n n' n'' k k' g h = grind (arith, nat_tests)

lower : (s s' n n' : ℕ) (k : Bool) → ((s == s') && nat_lt n n') ≡ true → (not (s == s') || nat_lt n n' || ((n == n') && k)) ≡ true
lower s s' n n' k h = grind (arith, nat_tests)

follow_through : (x last event : Event) → may_follow x last ≡ true → comes_before last event ≡ true → may_follow x event ≡ true
follow_through (Evict key cause) last (Step who'' op'' key'' out'' shared'' reply'') g h = refl
follow_through (Evict key cause) last (Evict key'' cause'') g h = refl
follow_through (Step who op key out shared reply) (Evict key' cause) event g h = cc
follow_through (Step who op key out shared reply) (Step who' op' key' out' shared' reply') (Evict key'' cause) g h = refl
follow_through (Step who op key out shared reply) (Step who' op' key' out' shared' reply') (Step who'' op'' key'' out'' shared'' reply'') g h =
    through who.session who'.session who''.session who.call who'.call who''.call (not (pointwise ◌==◌ key key')) (not (pointwise ◌==◌ key key'')) g h

pub follow_lower : (last event : Event) → comes_before last event ≡ true → may_follow last event ≡ true
follow_lower (Evict key cause) (Step who op key' out shared reply) h = refl
follow_lower (Evict key cause) (Evict key' cause') h = refl
follow_lower (Step who op key out shared reply) (Evict key' cause) h = refl
follow_lower (Step who op key out shared reply) (Step who' op' key' out' shared' reply') h = lower who.session who'.session who.call who'.call (not (pointwise ◌==◌ key key')) h

pub all_through : (xs : List Event) (last event : Event) → follows_all xs last ≡ true → comes_before last event ≡ true → follows_all xs event ≡ true
all_through [] last event g h = refl
all_through (x ∷ xs) last event g h =
    let parts = and_parts (may_follow x last) (follows_all xs last) g in
    and_from _ _ (follow_through x last event parts.0 h) (all_through xs last event parts.1 h)

-- of events in order, the last: a lower number of the same session ends the search, and else it continues before it
last_lower : (before : List Event) (last event : Event) → in_order (before ++ last ∷ []) ≡ true → comes_before last event ≡ true → follows_all (before ++ last ∷ []) event ≡ true
last_lower before last event h lower =
    let parts = and_parts (in_order before) (follows_all before last) (sym (order-last before last) ∙ h) in
    list_all-append (λ earlier. may_follow earlier event) before (last ∷ [])
    ∙ and_from _ _ (all_through before last event parts.1 lower) (and_from _ _ (follow_lower last event lower) refl)

pub ends_lower : (rest before : List Event) (last event : Event) → rest ≡ before ++ last ∷ [] → in_order rest ≡ true → comes_before last event ≡ true → follows_all rest event ≡ true
ends_lower rest before last event is h lower =
    ap (λ x. follows_all x event) is ∙ last_lower before last event (ap in_order (sym is) ∙ h) lower

pub search_continues : (rest before : List Event) (last event : Event) → rest ≡ before ++ last ∷ [] → may_follow last event ≡ true → follows_all before event ≡ follows_all rest event
search_continues rest before last event is h =
    sym (ap (λ x. follows_all x event) is ∙ list_all-append (λ earlier. may_follow earlier event) before (last ∷ [])
    ∙ ap (λ b. follows_all before event && (b && true)) h ∙ and_true (follows_all before event))

pub before_order : (rest before : List Event) (last : Event) → rest ≡ before ++ last ∷ [] → in_order rest ≡ true → in_order before ≡ true
before_order rest before last is h = order-front before (last ∷ []) (ap in_order (sym is) ∙ h)

-- one more event
pub order_next : (events : List Event) (i : ℕ) (event : Event) → i < length events → event ≡ get_or events i event → in_order (take i events) ≡ true → in_order (take (i + 1) events) ≡ follows_all (take i events) event
order_next events i event h is order =
    ap in_order (take_more events i event h ∙ ap (λ x. take i events ++ x ∷ []) (sym is))
    ∙ order-last (take i events) event ∙ ap (λ b. b && follows_all (take i events) event) order

pub order_not : (events : List Event) (k : ℕ) → in_order (take k events) ≡ false → in_order events ≡ false
order_not events k h =
    elim (in_order events) as (λ b. in_order events ≡ b → in_order events ≡ false) [
      | true ↦ λ e.
          let front = order-front (take k events) (drop k events) (ap in_order (take-append-drop k events) ∙ e) in
          let no : true ≡ false = sym front ∙ h in cc
      | false ↦ λ e. e
    ] refl
