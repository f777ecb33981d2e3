-- What is out of a call, in the order of its keys.
--     match_map      the parts of a case are mapped
--     none_are       no key is such: nothing is out
--     none_in        nothing is out: no key is such
--     nothing_out    no key is such, so nothing is out
--     push_in        one more, of a key behind which no key is such
--     keep_in        a key goes on and is as before in this
--     pop_in         the first one, of the first key that is such
use Rattle.jc_rounds.proofs.Common.{◌≡◌, ◌<◌, ◌≤◌, ℕ, zero, suc, List, [], ◌∷◌, ◌++◌, length, set, Bool, true, false, MatchBool, Some, slice_get, refl, sym, ap, subst, ◌∙◌, arith, same_Some, Bytes, Op, KeyProgress, AreIn}

match_map : (b : Bool) (A C B D : Type 0) → (A → C) → (B → D) → MatchBool b A B → MatchBool b C D
match_map true A C B D f g x = f x
match_map false A C B D f g x = g x

match_yes : (b : Bool) (A B : Type 0) → b ≡ true → A → MatchBool b A B
match_yes true A B is a = a
match_yes false A B is a = cc

match_no : (b : Bool) (A B : Type 0) → b ≡ false → B → MatchBool b A B
match_no true A B is y = cc
match_no false A B is y = y

pub is_yes : (b : Bool) (A B : Type 0) → b ≡ true → MatchBool b A B → A
is_yes true A B is x = x
is_yes false A B is x = cc

pub is_no : (b : Bool) (A B : Type 0) → b ≡ false → MatchBool b A B → B
is_no true A B is x = cc
is_no false A B is x = x

module _ {X : Type 0} (has : KeyProgress → Bool) (fits : Bytes → Op → X → Type 0) where
  pub none_are : (targets : List (Bytes × Op)) (ps : List KeyProgress) → ((i : ℕ) (p : KeyProgress) → slice_get ps i ≡ Some p → has p ≡ false) → AreIn has fits targets ps []
  none_are [] ps none = refl
  none_are (t ∷ ts) [] none = refl
  none_are (t ∷ ts) (p ∷ ps) none = (none zero p refl, none_are ts ps (λ i q at. none (suc i) q at))

  pub none_in : (targets : List (Bytes × Op)) (ps : List KeyProgress) → length ps ≡ length targets → AreIn has fits targets ps [] → (i : ℕ) (p : KeyProgress) → slice_get ps i ≡ Some p → has p ≡ false
  none_in [] [] long are i p at = cc
  none_in [] (q ∷ ps) long are i p at = cc
  none_in (t ∷ ts) [] long are i p at = cc
  none_in (t ∷ ts) (q ∷ ps) long are zero p at = ap has (sym (same_Some q p at)) ∙ are.0
  none_in (t ∷ ts) (q ∷ ps) long are (suc i) p at = none_in ts ps (omega arith) are.1 i p at

  pub nothing_out : (targets : List (Bytes × Op)) (ps : List KeyProgress) (xs : List X) → ((i : ℕ) (p : KeyProgress) → slice_get ps i ≡ Some p → has p ≡ false) → AreIn has fits targets ps xs → xs ≡ []
  nothing_out [] ps xs none are = are
  nothing_out (t ∷ ts) [] xs none are = are
  nothing_out (t ∷ ts) (p ∷ ps) [] none are = refl
  nothing_out (t ∷ ts) (p ∷ ps) (x ∷ xs) none are = nothing_out ts ps (x ∷ xs) (λ i q at. none (suc i) q at) (is_no (has p) _ _ (none zero p refl) are)

  pub keep_in : (targets : List (Bytes × Op)) (ps : List KeyProgress) (xs : List X) (i : ℕ) (q p : KeyProgress) → slice_get ps i ≡ Some q → has q ≡ has p → AreIn has fits targets ps xs → AreIn has fits targets (set ps i p) xs
  keep_in [] ps xs i q p at same are = are
  keep_in (t ∷ ts) [] xs i q p at same are = are
  keep_in (t ∷ ts) (r ∷ ps) [] zero q p at same are = (sym same ∙ ap has (sym (same_Some r q at)) ∙ are.0, are.1)
  keep_in (t ∷ ts) (r ∷ ps) [] (suc i) q p at same are = (are.0, keep_in ts ps [] i q p at same are.1)
  keep_in (t ∷ ts) (r ∷ ps) (x ∷ xs) zero q p at same are =
      subst (λ (b : Bool). MatchBool b (fits t.0 t.1 x × AreIn has fits ts ps xs) (AreIn has fits ts ps (x ∷ xs))) (ap has (same_Some r q at) ∙ same) are
  keep_in (t ∷ ts) (r ∷ ps) (x ∷ xs) (suc i) q p at same are =
      match_map (has r) _ _ _ _ (λ y. (y.0, keep_in ts ps xs i q p at same y.1)) (λ y. keep_in ts ps (x ∷ xs) i q p at same y) are

  pub push_in : (targets : List (Bytes × Op)) (ps : List KeyProgress) (xs : List X) (i : ℕ) (key : Bytes) (op : Op) (p : KeyProgress) (x : X) → slice_get targets i ≡ Some (key, op) → i < length ps
      → ((j : ℕ) (q : KeyProgress) → i ≤ j → slice_get ps j ≡ Some q → has q ≡ false) → has p ≡ true → fits key op x → AreIn has fits targets ps xs → AreIn has fits targets (set ps i p) (xs ++ x ∷ [])
  push_in [] ps xs i key op p x at near behind is fit are = cc
  push_in (t ∷ ts) [] xs i key op p x at near behind is fit are = absurd (omega arith)
  push_in (t ∷ ts) (r ∷ ps) [] zero key op p x at near behind is fit are =
      match_yes (has p) _ _ is (subst (λ (u : Bytes × Op). fits u.0 u.1 x) (sym (same_Some t (key, op) at)) fit, are.1)
  push_in (t ∷ ts) (r ∷ ps) (y ∷ ys) zero key op p x at near behind is fit are =
      let none : y ∷ ys ≡ [] = nothing_out ts ps (y ∷ ys) (λ j q there. behind (suc j) q (omega arith) there) (is_no (has r) _ _ (behind zero r (omega arith) refl) are) in cc
  push_in (t ∷ ts) (r ∷ ps) [] (suc i) key op p x at near behind is fit are =
      match_no (has r) _ _ are.0 (push_in ts ps [] i key op p x at (omega arith) (λ j q le there. behind (suc j) q (omega arith) there) is fit are.1)
  push_in (t ∷ ts) (r ∷ ps) (y ∷ ys) (suc i) key op p x at near behind is fit are =
      match_map (has r) _ _ _ _
      (λ z. (z.0, push_in ts ps ys i key op p x at (omega arith) (λ j q le there. behind (suc j) q (omega arith) there) is fit z.1))
      (λ z. push_in ts ps (y ∷ ys) i key op p x at (omega arith) (λ j q le there. behind (suc j) q (omega arith) there) is fit z) are

  pub pop_in : (targets : List (Bytes × Op)) (ps : List KeyProgress) (xs : List X) (i : ℕ) (q p : KeyProgress) → length ps ≡ length targets → slice_get ps i ≡ Some q → has q ≡ true
      → ((j : ℕ) (r : KeyProgress) → j < i → slice_get ps j ≡ Some r → has r ≡ false) → has p ≡ false → AreIn has fits targets ps xs
      → (key : Bytes) × (op : Op) × (x : X) × (rest : List X) × (slice_get targets i ≡ Some (key, op)) × (xs ≡ x ∷ rest) × fits key op x × AreIn has fits targets (set ps i p) rest
  pop_in [] [] xs i q p long at is before isnt are = cc
  pop_in [] (r ∷ ps) xs i q p long at is before isnt are = cc
  pop_in (t ∷ ts) [] xs i q p long at is before isnt are = cc
  pop_in (t ∷ ts) (r ∷ ps) [] zero q p long at is before isnt are = let bad : true ≡ false = sym is ∙ ap has (sym (same_Some r q at)) ∙ are.0 in cc
  pop_in (t ∷ ts) (r ∷ ps) (x ∷ xs) zero q p long at is before isnt are =
      let here = is_yes (has r) _ _ (ap has (same_Some r q at) ∙ is) are in
      (t.0, t.1, x, xs, refl, refl, here.0, put ts ps xs p isnt here.1)
    where
      put : (ts : List (Bytes × Op)) (ps : List KeyProgress) (xs : List X) (p : KeyProgress) → has p ≡ false → AreIn has fits ts ps xs → AreIn has fits (t ∷ ts) (p ∷ ps) xs
      put ts ps [] p isnt are = (isnt, are)
      put ts ps (y ∷ ys) p isnt are = match_no (has p) _ _ isnt are
  pop_in (t ∷ ts) (r ∷ ps) [] (suc i) q p long at is before isnt are =
      let rest = pop_in ts ps [] i q p (omega arith) at is (λ j u less there. before (suc j) u (omega arith) there) isnt are.1 in
      let bad = rest.5 in cc
  pop_in (t ∷ ts) (r ∷ ps) (x ∷ xs) (suc i) q p long at is before isnt are =
      let none : has r ≡ false = before zero r (omega arith) refl in
      let rest = pop_in ts ps (x ∷ xs) i q p (omega arith) at is (λ j u less there. before (suc j) u (omega arith) there) isnt (is_no (has r) _ _ none are) in
      (rest.0, rest.1, rest.2, rest.3, rest.4, rest.5, rest.6, put ts (set ps i p) rest.3 r none rest.7)
    where
      put : (ts : List (Bytes × Op)) (ps : List KeyProgress) (xs : List X) (p : KeyProgress) → has p ≡ false → AreIn has fits ts ps xs → AreIn has fits (t ∷ ts) (p ∷ ps) xs
      put ts ps [] p isnt are = (isnt, are)
      put ts ps (y ∷ ys) p isnt are = match_no (has p) _ _ isnt are
