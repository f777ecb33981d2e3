-- Lemmas for the crates above: the first place at which a test passes, and what is found, left out or mapped there; what is known of
-- an element that is found; a test that all elements pass; what stands at a place of a longer list; and that a cache has a stripe.
use Rattle.std.proofs.Common.{◌≡◌, ℕ, ◌-◌, suc, ◌<◌, is_some, Option, List, [], ◌∷◌, ◌++◌, take, drop, Bool, true, false, cond, not, length, Some, None, ap, refl, sym, ◌∙◌, arith, find, filter, map, get_or, ◌||◌, ◌+◌, subst, nat_le, Result, Ok, Err}
use Rattle.std.proofs.lemmas.Grind.{common_steps}
use Rattle.std.proofs.lemmas.List.{map-append, take-map, drop-map, length-append, get_or_append_left}
use Rattle.std.proofs.lemmas.List.Elements.{All-head, All-tail}
use Rattle.std.proofs.lemmas.List.Folds.{find_at, find-append}
use Rattle.std.proofs.lemmas.Option.{slice_get_read, slice_get_within, get_or_from_slice_get, slice_get-get_or}
use Rattle.std.proofs.lemmas.Bool.{and_parts, and_from, leb-true}
use Rattle.std.specs.Option.{option_or}
use Rattle.std.specs.List.{list_all, list_any, slice_get, position, position_or_len, remove, AllPairs, All}
use Rattle.jc_types.specs.Limits.{is_between, check}
use Rattle.jc_types.specs.declared.config.Config.{Config}
use Rattle.jc_types.specs.declared.limits.TheConstants.{STRIPES_MAX}
use Rattle.jc_types.specs.declared.refusal.Refusal.{Refusal}

module _ {X : Type 0} (p : X → Bool) where
  -- whether there is such a place
  pub is_some_position : (xs : List X) → is_some (position p xs) ≡ list_any p xs
  is_some_position [] = refl
  is_some_position (x ∷ xs) = let ih = is_some_position xs in grind (arith, common_steps)

  -- the element at such a place
  pub find_at_place : (xs : List X) (i : ℕ) (x : X) → position p xs ≡ Some i → x ≡ get_or xs i x → find p xs ≡ Some x
  find_at_place xs i x at is =
      let there : (position_or_len p xs ≡ i) × (i < length xs) = (grind (arith, common_steps), grind (arith, common_steps)) in
      find_at p xs ∙ ap (λ n. slice_get xs n) there.0 ∙ slice_get_read xs (length xs) i x refl there.1 is

  -- with no such place, none is found, and none is left out
  pub find_nowhere : (xs : List X) → position p xs ≡ None → find p xs ≡ None
  find_nowhere [] none = refl
  find_nowhere (x ∷ xs) none =
      let rest : position p xs ≡ None = grind (arith, common_steps) in
      let here : p x ≡ false = grind (arith, common_steps) in
      rw here (find_nowhere xs rest)

  -- one that is found passes the test
  pub found_test : (xs : List X) (x : X) → find p xs ≡ Some x → p x ≡ true
  found_test [] x h = cc
  found_test (y ∷ ys) x h =
      elim (p y) as (λ b. p y ≡ b → cond b (Some y) (find p ys) ≡ Some x → p x ≡ true) [
        | true ↦ λ e h. let is : y ≡ x = cc in ap p (sym is) ∙ e
        | false ↦ λ e h. found_test ys x h
      ] refl h

  -- so one passes
  pub found_any : (xs : List X) (x : X) → find p xs ≡ Some x → list_any p xs ≡ true
  found_any [] x h = cc
  found_any (y ∷ ys) x h =
      elim (p y) as (λ b. cond b (Some y) (find p ys) ≡ Some x → (b || list_any p ys) ≡ true) [ true ↦ λ h. refl | false ↦ λ h. found_any ys x h ] h

  -- what holds of each holds of it
  pub found_holds : (P : X → Type 0) (xs : List X) (x : X) → find p xs ≡ Some x → All P xs → P x
  found_holds P [] x h all = cc
  found_holds P (y ∷ ys) x h all =
      elim (p y) as (λ b. cond b (Some y) (find p ys) ≡ Some x → P x) [
        | true ↦ λ h. let is : y ≡ x = cc in subst P is (All-head P y ys all)
        | false ↦ λ h. found_holds P ys x h (All-tail P y ys all)
      ] h

  -- and it is found in a longer list
  pub found_more : (xs ys : List X) (x : X) → find p xs ≡ Some x → find p (xs ++ ys) ≡ Some x
  found_more xs ys x h = find-append p xs ys ∙ ap (λ o. option_or o (find p ys)) h

  pub filter_all : (xs : List X) → All (λ x. p x ≡ true) xs → filter p xs ≡ xs
  filter_all [] all = refl
  filter_all (x ∷ xs) all =
      rw (All-head (λ x. p x ≡ true) x xs all) (ap (λ ys. x ∷ ys) (filter_all xs (All-tail (λ x. p x ≡ true) x xs all)))

  pub filter_nowhere : (xs : List X) → position p xs ≡ None → filter (λ x. not (p x)) xs ≡ xs
  filter_nowhere [] none = refl
  filter_nowhere (x ∷ xs) none =
      let rest : position p xs ≡ None = grind (arith, common_steps) in
      let here : p x ≡ false = grind (arith, common_steps) in
      rw here (ap (λ ys. x ∷ ys) (filter_nowhere xs rest))

-- the places of mapped elements are those of the elements
pub position_map : {X Y : Type 0} (p : Y → Bool) (f : X → Y) (xs : List X) → position p (map f xs) ≡ position (λ x. p (f x)) xs
position_map p f [] = refl
position_map p f (x ∷ xs) = let ih = position_map p f xs in grind (arith, common_steps)

pub map-remove : {X Y : Type 0} (f : X → Y) (xs : List X) (i : ℕ) → map f (remove xs i) ≡ remove (map f xs) i
map-remove f xs i = map-append f (take i xs) (drop (suc i) xs) ∙ (λ k. sym (take-map f i xs) k ++ sym (drop-map f (suc i) xs) k)

-- if nothing after an element that passes also passes, the removal at the first place leaves all that don't pass
pub remove_at_place : {X : Type 0} (p : X → Bool) (xs : List X) (i : ℕ) → position p xs ≡ Some i
    → AllPairs (λ x later. p x ≡ true → p later ≡ false) xs → remove xs i ≡ filter (λ x. not (p x)) xs
remove_at_place p [] i at once = cc
remove_at_place p (x ∷ xs) i at once =
    elim (p x) as (λ b. p x ≡ b → remove (x ∷ xs) i ≡ cond (not b) (x ∷ filter (λ x. not (p x)) xs) (filter (λ x. not (p x)) xs)) [
      | true ↦ λ is.
          let first : i ≡ 0 = grind (arith, common_steps) in
          rw first (sym (filter_all (λ x. not (p x)) xs (λ k d within. ap not (once 0 (suc k) d (omega arith) (omega arith) is))))
      | false ↦ λ is.
          let later : position p xs ≡ Some (i - 1) = grind (arith, common_steps) in
          let more : i ≡ suc (i - 1) = grind (arith, common_steps) in
          rw more (ap (λ ys. x ∷ ys) (remove_at_place p xs (i - 1) later (λ j k d lt within. once (suc j) (suc k) d (omega arith) (omega arith))))
    ] refl

-- what all pass that pass another test
pub all_imply : {X : Type 0} (p q : X → Bool) (xs : List X) → ((x : X) → p x ≡ true → q x ≡ true) → list_all p xs ≡ true → list_all q xs ≡ true
all_imply p q [] f h = refl
all_imply p q (x ∷ xs) f h =
    let parts = and_parts (p x) (list_all p xs) h in
    and_from _ _ (f x parts.0) (all_imply p q xs f parts.1)

-- what all pass, those pass that are left
pub all_filter : {X : Type 0} (p q : X → Bool) (xs : List X) → list_all p xs ≡ true → list_all p (filter q xs) ≡ true
all_filter p q [] h = refl
all_filter p q (x ∷ xs) h =
    let parts = and_parts (p x) (list_all p xs) h in
    elim (q x) as (λ b. list_all p (cond b (x ∷ filter q xs) (filter q xs)) ≡ true) [ true ↦ and_from _ _ parts.0 (all_filter p q xs parts.1) | false ↦ all_filter p q xs parts.1 ]

-- and the one that is found
pub all_found : {X : Type 0} (p q : X → Bool) (xs : List X) (x : X) → find p xs ≡ Some x → list_all q xs ≡ true → q x ≡ true
all_found p q [] r h all = cc
all_found p q (x ∷ xs) r h all =
    let parts = and_parts (q x) (list_all q xs) all in
    elim (p x) as (λ b. cond b (Some x) (find p xs) ≡ Some r → q r ≡ true) [
      | true ↦ λ h. let is : x ≡ r = cc in ap q (sym is) ∙ parts.0
      | false ↦ λ h. all_found p q xs r h parts.1
    ] h

-- what stands at a place stands there in a longer list
pub stands_on : {A : Type 0} (xs ys : List A) (k : ℕ) (x : A) → slice_get xs k ≡ Some x → slice_get (xs ++ ys) k ≡ Some x
stands_on xs ys k x h =
    let within : k < length xs = slice_get_within xs k x h in
    slice_get-get_or (xs ++ ys) k x (omega (arith, length-append xs ys)) ∙ ap Some (get_or_append_left xs ys x k within ∙ get_or_from_slice_get xs k x x h)

-- an option that has nothing is `None`
pub none_from : {X : Type 0} (o : Option X) → is_some o ≡ false → o ≡ None
none_from None h = refl
none_from (Some x) h = cc

-- a number that is not refused is within its limits
pub in_limits : (b : Bool) (more : Result (Unit {0}) Refusal) (refusal : Refusal) → cond b more (Err refusal) ≡ Ok tt → b ≡ true
in_limits true more refusal h = refl
in_limits false more refusal h = cc

-- there is a stripe
pub some_stripe : (config : Config) → check config ≡ Ok tt → 0 < config.stripes
some_stripe config h = leb-true 1 config.stripes ((and_parts (nat_le 1 config.stripes) (nat_le config.stripes STRIPES_MAX) (in_limits (is_between 1 STRIPES_MAX config.stripes) _ _ h)).0)
