-- Reservations and joiners that stand beside one another, and what stays of that with one more or one less.
use Rattle.std.proofs.Common.{◌≡◌, ◌==◌, ◌≤◌, ◌+◌, ◌&&◌, ◌||◌, ℕ, suc, List, [], ◌∷◌, ◌++◌, length, map, Bool, true, false, cond, not, Some, find, filter, refl, sym, ap, ◌∙◌, subst, arith}
use Rattle.std.proofs.lemmas.Cmp.{nat_eq_equiv, nat_list_eq_equiv}
use Rattle.std.proofs.lemmas.List.{length-map}
use Rattle.std.proofs.lemmas.List.Folds.{list_all-append, list_all-map}
use Rattle.std.specs.List.{list_any, list_all}
use Rattle.std.specs.Cmp.Lexicographic.{pointwise}
use Rattle.std.proofs.lemmas.Bool.{and_parts, and_from, or_left, or_right}
use Rattle.jc_types.proofs.CallerLemmas.{all_imply, all_filter}
use Rattle.jc_types.specs.declared.config.Config.{Config}
use Rattle.jc_model.specs.Cache.{Bytes, Cache, entry_at}
use Rattle.jc_inflight.specs.declared.joiner.Joiner.{Joiner}
use Rattle.jc_inflight.specs.Joining.{belongs_to}
use Rattle.jc_inflight.proofs.CallerLemmas.{call_of}
use Rattle.jc_stripe.specs.State.{is_key, without_key}
use Rattle.jc_stripe.specs.Refusals.{first_asked}
use Rattle.jc_stripe.specs.Phases.{is_other_call, is_other_join}
use Rattle.jc_stripe.specs.Reached.{AllAsk, are_beside, are_apart, all_apart}
use Rattle.jc_types.specs.declared.caller.Caller.{Caller}
use Rattle.jc_stripe.specs.declared.ticket.Reservation.{Reservation}

-- 1. What holds of each.

pub all-push : {A : Type 0} (p : A → Bool) (xs : List A) (x : A) → list_all p xs ≡ true → p x ≡ true → list_all p (xs ++ x ∷ []) ≡ true
all-push p xs x all one = list_all-append p xs (x ∷ []) ∙ and_from _ _ all (and_from _ _ one refl)

pub all_both : {A : Type 0} (p q : A → Bool) (xs : List A) → list_all p xs ≡ true → list_all q xs ≡ true → list_all (λ x. p x && q x) xs ≡ true
all_both p q [] g h = refl
all_both p q (x ∷ xs) g h =
    let ps = and_parts (p x) (list_all p xs) g in
    let qs = and_parts (q x) (list_all q xs) h in
    and_from _ _ (and_from _ _ ps.0 qs.0) (all_both p q xs ps.1 qs.1)

-- 2. What holds of each pair, of one and of each later one.

module _ {A : Type 0} (test : A → A → Bool) (pairs : List A → Bool) (first : (x : A) (xs : List A) → pairs (x ∷ xs) ≡ (list_all (test x) xs && pairs xs)) where
  pairs-push : ((x y : A) → test x y ≡ test y x) → pairs [] ≡ true → (xs : List A) (x : A) → pairs xs ≡ true → list_all (test x) xs ≡ true → pairs (xs ++ x ∷ []) ≡ true
  pairs-push turned none [] x all one = first x [] ∙ none
  pairs-push turned none (y ∷ xs) x all one =
      let parts = and_parts (list_all (test y) xs) (pairs xs) (sym (first y xs) ∙ all) in
      let ones = and_parts (test x y) (list_all (test x) xs) one in
      first y (xs ++ x ∷ []) ∙ and_from _ _ (all-push (test y) xs x parts.0 (turned y x ∙ ones.0)) (pairs-push turned none xs x parts.1 ones.1)

  pairs_kept : (q : A → Bool) (xs : List A) → pairs xs ≡ true → pairs (filter q xs) ≡ true
  pairs_kept q [] h = h
  pairs_kept q (x ∷ xs) h =
      let parts = and_parts (list_all (test x) xs) (pairs xs) (sym (first x xs) ∙ h) in
      elim (q x) as (λ b. pairs (cond b (x ∷ filter q xs) (filter q xs)) ≡ true) [
        | true ↦ first x (filter q xs) ∙ and_from _ _ (all_filter (test x) q xs parts.0) (pairs_kept q xs parts.1)
        | false ↦ pairs_kept q xs parts.1
      ]

-- 3. Reservations.

-- the test of two calls goes both ways
turned : (s t c d : ℕ) (k l : Bytes) → (not (s == t) || ((c == d) && not (pointwise ◌==◌ k l))) ≡ (not (t == s) || ((d == c) && not (pointwise ◌==◌ l k)))
turned s t c d k l = λ i. not (nat_eq_equiv.symm s t i) || (nat_eq_equiv.symm c d i && not (nat_list_eq_equiv.symm k l i))

pub beside_turned : (r x : Reservation) → is_other_call r.caller r.key x ≡ is_other_call x.caller x.key r
beside_turned r x = turned x.caller.session r.caller.session x.caller.call r.caller.call x.key r.key

pub beside-push : (rs : List Reservation) (r : Reservation) → are_beside rs ≡ true → list_all (is_other_call r.caller r.key) rs ≡ true → are_beside (rs ++ r ∷ []) ≡ true
beside-push = pairs-push (λ (r : Reservation). is_other_call r.caller r.key) are_beside (λ r rs. refl) beside_turned refl

pub all_left : (p : Reservation → Bool) (key : Bytes) (rs : List Reservation) → list_all p rs ≡ true → list_all p (without_key key rs) ≡ true
all_left p key rs h = all_filter p (λ r. not (is_key key r)) rs h

pub beside_left : (key : Bytes) (rs : List Reservation) → are_beside rs ≡ true → are_beside (without_key key rs) ≡ true
beside_left key = pairs_kept (λ (r : Reservation). is_other_call r.caller r.key) are_beside (λ r rs. refl) (λ r. not (is_key key r))

pub ask-push : (config : Config) (cache : Cache) (rs : List Reservation) (r : Reservation) → AllAsk config cache rs → first_asked config r.op (entry_at cache r.key) ≡ r.first → AllAsk config cache (rs ++ r ∷ [])
ask-push config cache [] r all asks = (asks, tt)
ask-push config cache (x ∷ xs) r all asks = (all.0, ask-push config cache xs r all.1 asks)

pub ask_left : (config : Config) (cache : Cache) (key : Bytes) (rs : List Reservation) → AllAsk config cache rs → AllAsk config cache (without_key key rs)
ask_left config cache key [] all = tt
ask_left config cache key (x ∷ xs) all =
    elim (not (is_key key x)) as (λ b. AllAsk config cache (cond b (x ∷ without_key key xs) (without_key key xs))) [ true ↦ (all.0, ask_left config cache key xs all.1) | false ↦ ask_left config cache key xs all.1 ]

-- one that is found asks what it asked
pub ask_found : (config : Config) (cache : Cache) (p : Reservation → Bool) (rs : List Reservation) (r : Reservation) → find p rs ≡ Some r → AllAsk config cache rs → first_asked config r.op (entry_at cache r.key) ≡ r.first
ask_found config cache p [] r h all = cc
ask_found config cache p (x ∷ xs) r h all =
    elim (p x) as (λ b. cond b (Some x) (find p xs) ≡ Some r → first_asked config r.op (entry_at cache r.key) ≡ r.first) [
      | true ↦ λ h. let is : x ≡ r = cc in let P : Reservation → Type 0 = λ y. first_asked config y.op (entry_at cache y.key) ≡ y.first in subst P is all.0
      | false ↦ λ h. ask_found config cache p xs r h all.1
    ] h

-- where the entries at the reserved keys are the same, the reservations ask the same
pub ask_same : (config : Config) (cache next : Cache) (rs : List Reservation) → ((q : Bytes) → list_any (is_key q) rs ≡ true → entry_at next q ≡ entry_at cache q) → AllAsk config cache rs → AllAsk config next rs
ask_same config cache next [] same all = tt
ask_same config cache next (r ∷ rs) same all = (
  ap (first_asked config r.op) (same r.key (or_left _ _ (nat_list_eq_equiv.refl r.key))) ∙ all.0,
  ask_same config cache next rs (λ q e. same q (or_right (is_key q r) (list_any (is_key q) rs) e)) all.1,
)

pub fewer_left : (key : Bytes) (rs : List Reservation) → length (without_key key rs) ≤ length rs
fewer_left key [] = omega arith
fewer_left key (y ∷ ys) = elim (is_key key y) as (λ b. length (cond (not b) (y ∷ without_key key ys) (without_key key ys)) ≤ suc (length ys)) [ true ↦ omega (arith, fewer_left key ys) | false ↦ omega (arith, fewer_left key ys) ]

-- where one is found, there is one less without it
pub one_less : (key : Bytes) (p : Reservation → Bool) (rs : List Reservation) (r : Reservation) → ((x : Reservation) → p x ≡ true → is_key key x ≡ true) → find p rs ≡ Some r → length (without_key key rs) + 1 ≤ length rs
one_less key p [] r tells h = cc
one_less key p (x ∷ xs) r tells h =
    elim (p x) as (λ b. p x ≡ b → cond b (Some x) (find p xs) ≡ Some r → length (cond (not (is_key key x)) (x ∷ without_key key xs) (without_key key xs)) + 1 ≤ suc (length xs)) [
      | true ↦ λ e h. rw (tells x e) (omega (arith, fewer_left key xs))
      | false ↦ λ e h. elim (is_key key x) as (λ b. length (cond (not b) (x ∷ without_key key xs) (without_key key xs)) + 1 ≤ suc (length xs)) [
        | true ↦ omega (arith, one_less key p xs r tells h)
        | false ↦ omega (arith, one_less key p xs r tells h)
      ]
    ] refl h

pub none_left : (key : Bytes) (rs : List Reservation) → list_any (is_key key) (without_key key rs) ≡ false
none_left key [] = refl
none_left key (x ∷ xs) =
    elim (is_key key x) as (λ b. is_key key x ≡ b → list_any (is_key key) (cond (not b) (x ∷ without_key key xs) (without_key key xs)) ≡ false) [
      | true ↦ λ e. none_left key xs
      | false ↦ λ e. ap (λ t. t || list_any (is_key key) (without_key key xs)) e ∙ none_left key xs
    ] refl

-- 4. Joiners.

pub apart_turned : (i j : Joiner) → is_other_join i.caller i.key j ≡ is_other_join j.caller j.key i
apart_turned i j = turned j.caller.session i.caller.session j.caller.call i.caller.call j.key i.key

pub between_turned : (r : Reservation) (j : Joiner) → is_other_join r.caller r.key j ≡ is_other_call j.caller j.key r
between_turned r j = turned j.caller.session r.caller.session j.caller.call r.caller.call j.key r.key

pub apart-push : (js : List Joiner) (j : Joiner) → are_apart js ≡ true → list_all (is_other_join j.caller j.key) js ≡ true → are_apart (js ++ j ∷ []) ≡ true
apart-push = pairs-push (λ (j : Joiner). is_other_join j.caller j.key) are_apart (λ j js. refl) apart_turned refl

pub apart_kept : (q : Joiner → Bool) (js : List Joiner) → are_apart js ≡ true → are_apart (filter q js) ≡ true
apart_kept = pairs_kept (λ (j : Joiner). is_other_join j.caller j.key) are_apart (λ j js. refl)

-- whoever is another call has not joined
other_call : (a b p : Bool) → (not a || (b && not p)) ≡ true → ((a && b) && p) ≡ false
other_call true true true h = sym h
other_call true true false h = refl
other_call true false p h = refl
other_call false b p h = refl

pub belongs_to_no_other : (caller : Caller) (key : Bytes) (j : Joiner) → is_other_join caller key j ≡ true → belongs_to caller key j ≡ false
belongs_to_no_other caller key j h =
    ap (λ b. ((j.caller.session == caller.session) && (j.caller.call == caller.call)) && b) (nat_list_eq_equiv.symm key j.key)
    ∙ other_call (j.caller.session == caller.session) (j.caller.call == caller.call) (pointwise ◌==◌ j.key key) h

-- a joiner more beside each reservation
pub between-push : (rs : List Reservation) (js : List Joiner) (j : Joiner) → all_apart rs js ≡ true → list_all (is_other_call j.caller j.key) rs ≡ true → all_apart rs (js ++ j ∷ []) ≡ true
between-push [] js j all one = refl
between-push (r ∷ rs) js j all one =
    let parts = and_parts (list_all (is_other_join r.caller r.key) js) (all_apart rs js) all in
    let ones = and_parts (is_other_call j.caller j.key r) (list_all (is_other_call j.caller j.key) rs) one in
    and_from _ _ (all-push (is_other_join r.caller r.key) js j parts.0 (between_turned r j ∙ ones.0)) (between-push rs js j parts.1 ones.1)

pub between_kept : (rs : List Reservation) (q : Joiner → Bool) (js : List Joiner) → all_apart rs js ≡ true → all_apart rs (filter q js) ≡ true
between_kept rs q js h = all_imply (λ r. list_all (is_other_join r.caller r.key) js) (λ r. list_all (is_other_join r.caller r.key) (filter q js)) rs (λ r e. all_filter (is_other_join r.caller r.key) q js e) h

pub between_left : (key : Bytes) (rs : List Reservation) (js : List Joiner) → all_apart rs js ≡ true → all_apart (without_key key rs) js ≡ true
between_left key rs js h = all_left (λ r. list_all (is_other_join r.caller r.key) js) key rs h

-- what stands beside all reservations of the joiners, the first and the others
pub between_first : (rs : List Reservation) (j : Joiner) (js : List Joiner) → all_apart rs (j ∷ js) ≡ true → list_all (is_other_call j.caller j.key) rs ≡ true
between_first rs j js h =
    all_imply (λ r. list_all (is_other_join r.caller r.key) (j ∷ js)) (is_other_call j.caller j.key) rs
    (λ r e. sym (between_turned r j) ∙ (and_parts (is_other_join r.caller r.key j) (list_all (is_other_join r.caller r.key) js) e).0) h

pub between_others : (rs : List Reservation) (j : Joiner) (js : List Joiner) → all_apart rs (j ∷ js) ≡ true → all_apart rs js ≡ true
between_others rs j js h =
    all_imply (λ r. list_all (is_other_join r.caller r.key) (j ∷ js)) (λ r. list_all (is_other_join r.caller r.key) js) rs
    (λ r e. (and_parts (is_other_join r.caller r.key j) (list_all (is_other_join r.caller r.key) js) e).1) h

-- 5. Joiners of the same calls.

abbrev call_apart : Caller → Bytes → Caller × Bytes → Bool
call_apart caller key c = not (c.0.session == caller.session) || ((c.0.call == caller.call) && not (pointwise ◌==◌ c.1 key))

abbrev calls_apart : List (Caller × Bytes) → Bool
calls_apart [] = true
calls_apart (c ∷ cs) = list_all (call_apart c.0 c.1) cs && calls_apart cs

pub one_apart-alike : (caller : Caller) (key : Bytes) (js others : List Joiner) → map call_of js ≡ map call_of others → list_all (is_other_join caller key) js ≡ list_all (is_other_join caller key) others
one_apart-alike caller key js others same =
    let P : Caller × Bytes → Bool = call_apart caller key in
    sym (list_all-map P call_of js) ∙ ap (list_all P) same ∙ list_all-map P call_of others

apart-calls : (js : List Joiner) → are_apart js ≡ calls_apart (map call_of js)
apart-calls [] = refl
apart-calls (j ∷ js) =
    let P : Caller × Bytes → Bool = call_apart j.caller j.key in
    ap (λ b. b && are_apart js) (sym (list_all-map P call_of js)) ∙ ap (λ b. list_all P (map call_of js) && b) (apart-calls js)

pub apart-alike : (js others : List Joiner) → map call_of js ≡ map call_of others → are_apart js ≡ are_apart others
apart-alike js others same = apart-calls js ∙ ap calls_apart same ∙ sym (apart-calls others)

pub between-alike : (rs : List Reservation) (js others : List Joiner) → map call_of js ≡ map call_of others → all_apart rs js ≡ true → all_apart rs others ≡ true
between-alike rs js others same h =
    all_imply (λ r. list_all (is_other_join r.caller r.key) js) (λ r. list_all (is_other_join r.caller r.key) others) rs
    (λ r e. sym (one_apart-alike r.caller r.key js others same) ∙ e) h

pub length-alike : (js others : List Joiner) → map call_of js ≡ map call_of others → length js ≡ length others
length-alike js others same = sym (length-map js call_of) ∙ ap length same ∙ length-map others call_of
