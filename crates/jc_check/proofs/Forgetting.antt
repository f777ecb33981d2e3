-- Forgotten calls, one after the other.
use Rattle.std.proofs.Common.{◌≡◌, ◌<◌, ◌≤◌, ◌+◌, ℕ, suc, List, [], ◌∷◌, ◌++◌, Bool, true, false, length, map, take, get_or, set, ap, sym, subst, refl, ◌∙◌, arith}
use Rattle.std.proofs.lemmas.List.{length-append, length-take-le, take_more}
use Rattle.jc_check.specs.declared.record.Recorded.{Recorded}
use Rattle.jc_check.specs.declared.record.Role.{Role}
use Rattle.jc_check.specs.declared.record.Rules.{Rules}
use Rattle.jc_check.specs.declared.record.Spot.{Spot}
use Rattle.jc_check.specs.declared.smallest.Need.{Need}
use Rattle.jc_check.specs.declared.smallest.Shrinking.{Shrinking}
use Rattle.jc_check.specs.Parts.{AreNeeds, HasRoles, IsLeft, IsNeed, IsSame, forget, if_kept, whole, with_role, with_roles}

pub length-forget : (kept : List Bool) (calls : List Recorded) → length (forget kept calls) ≡ length calls
length-forget [] calls = refl
length-forget (k ∷ kept) [] = refl
length-forget (k ∷ kept) (c ∷ calls) = ap suc (length-forget kept calls)

pub length-with_roles : (roles : List Role) (calls : List Recorded) → length (with_roles roles calls) ≡ length calls
length-with_roles [] calls = refl
length-with_roles (r ∷ roles) [] = refl
length-with_roles (r ∷ roles) (c ∷ calls) = ap suc (length-with_roles roles calls)

pub forget-more : (kept : List Bool) (k : Bool) (calls : List Recorded) (d : Recorded) → length kept < length calls
    → forget (kept ++ k ∷ []) calls ≡ set (forget kept calls) (length kept) (if_kept k (get_or (forget kept calls) (length kept) d))
forget-more [] k [] d h = absurd (omega (arith, h))
forget-more [] k (c ∷ calls) d h = refl
forget-more (x ∷ kept) k [] d h = absurd (omega (arith, h))
forget-more (x ∷ kept) k (c ∷ calls) d h = ap (λ (cs : List Recorded). if_kept x c ∷ cs) (forget-more kept k calls d (omega (arith, h)))

pub forget-past : (kept : List Bool) (k : Bool) (calls : List Recorded) → length calls ≤ length kept
    → forget (kept ++ k ∷ []) calls ≡ forget kept calls
forget-past [] k [] h = refl
forget-past [] k (c ∷ calls) h = absurd (omega (arith, h))
forget-past (x ∷ kept) k [] h = refl
forget-past (x ∷ kept) k (c ∷ calls) h = ap (λ (cs : List Recorded). if_kept x c ∷ cs) (forget-past kept k calls (omega (arith, h)))

pub roles-more : (roles : List Role) (r : Role) (calls : List Recorded) (d : Recorded) → length roles < length calls
    → with_roles (roles ++ r ∷ []) calls ≡ set (with_roles roles calls) (length roles) (with_role (get_or (with_roles roles calls) (length roles) d) r)
roles-more [] r [] d h = absurd (omega (arith, h))
roles-more [] r (c ∷ calls) d h = refl
roles-more (x ∷ roles) r [] d h = absurd (omega (arith, h))
roles-more (x ∷ roles) r (c ∷ calls) d h = ap (λ (cs : List Recorded). with_role c x ∷ cs) (roles-more roles r calls d (omega (arith, h)))

pub roles-past : (roles : List Role) (r : Role) (calls : List Recorded) → length calls ≤ length roles
    → with_roles (roles ++ r ∷ []) calls ≡ with_roles roles calls
roles-past [] r [] h = refl
roles-past [] r (c ∷ calls) h = absurd (omega (arith, h))
roles-past (x ∷ roles) r [] h = refl
roles-past (x ∷ roles) r (c ∷ calls) h = ap (λ (cs : List Recorded). with_role c x ∷ cs) (roles-past roles r calls (omega (arith, h)))

-- calls that have their own roles again
pub roles-again : (roles : List Role) (kept : List Bool) (calls : List Recorded) → length roles ≡ length calls
    → with_roles roles (forget kept (with_roles roles calls)) ≡ with_roles roles calls
roles-again [] [] [] h = refl
roles-again [] (k ∷ kept) [] h = refl
roles-again [] kept (c ∷ calls) h = absurd (omega (arith, h))
roles-again (r ∷ roles) kept [] h = absurd (omega (arith, h))
roles-again (r ∷ roles) [] (c ∷ calls) h = ap (λ (cs : List Recorded). with_role c r ∷ cs) (roles-again roles [] calls (omega (arith, h)))
roles-again (r ∷ roles) (true ∷ kept) (c ∷ calls) h = ap (λ (cs : List Recorded). with_role c r ∷ cs) (roles-again roles kept calls (omega (arith, h)))
roles-again (r ∷ roles) (false ∷ kept) (c ∷ calls) h = ap (λ (cs : List Recorded). with_role c r ∷ cs) (roles-again roles kept calls (omega (arith, h)))

pub own-roles : (calls : List Recorded) → with_roles (map (λ (c : Recorded). c.role) calls) calls ≡ calls
own-roles [] = refl
own-roles (c ∷ calls) = ap (λ (cs : List Recorded). c ∷ cs) (own-roles calls)

pub needs-more : (rules : Rules) (calls : List Recorded) (opening : Spot) (limit : ℕ) (kept : List Bool) (from : ℕ) (needs : List Need) (n : Need)
    → AreNeeds rules calls opening limit kept from needs → IsNeed rules calls opening limit kept (from + length needs) n
    → AreNeeds rules calls opening limit kept from (needs ++ n ∷ [])
needs-more rules calls opening limit kept from [] n all one = (subst (λ (k : ℕ). IsNeed rules calls opening limit kept k n) (omega arith) one, tt)
needs-more rules calls opening limit kept from (m ∷ needs) n all one =
    (all.0, needs-more rules calls opening limit kept (from + 1) needs n all.1 (subst (λ (k : ℕ). IsNeed rules calls opening limit kept k n) (omega arith) one))

-- steps of loops: `now` are the calls so far

pub forget-true : (kept : List Bool) (calls : List Recorded) → forget (kept ++ true ∷ []) calls ≡ forget kept calls
forget-true [] [] = refl
forget-true [] (c ∷ calls) = refl
forget-true (x ∷ kept) [] = refl
forget-true (x ∷ kept) (c ∷ calls) = ap (λ (cs : List Recorded). if_kept x c ∷ cs) (forget-true kept calls)

pub take-next : (kept : List Bool) (at : ℕ) (k : Bool) → at < length kept → get_or kept at false ≡ k → take (at + 1) kept ≡ take at kept ++ k ∷ []
take-next kept at k h is = take_more kept at false h ∙ ap (λ (b : Bool). take at kept ++ b ∷ []) is

pub forget-step : (kept : List Bool) (at : ℕ) (k : Bool) (calls now : List Recorded) (x : Recorded) → at < length kept → get_or kept at false ≡ k
    → at < length now → now ≡ forget (take at kept) calls → x ≡ get_or now at x → set now at (if_kept k x) ≡ forget (take (at + 1) kept) calls
forget-step kept at k calls now x h is within same read =
    let next : List Recorded = forget (take at kept ++ k ∷ []) calls in
    let n : length (take at kept) ≡ at = length-take-le at kept (omega (arith, h)) in
    let m : length now ≡ length calls = ap length same ∙ length-forget (take at kept) calls in
    let a = forget-more (take at kept) k calls x (omega (arith, n, m, within)) in
    let b = subst (λ (i : ℕ). next ≡ set (forget (take at kept) calls) i (if_kept k (get_or (forget (take at kept) calls) i x))) n a in
    let e = subst (λ (l : List Recorded). next ≡ set l at (if_kept k (get_or l at x))) (sym same) b in
    let f = subst (λ (y : Recorded). next ≡ set now at (if_kept k y)) (sym read) e in
    sym (ap (λ (ks : List Bool). forget ks calls) (take-next kept at k h is) ∙ f)

pub forget-true-step : (kept : List Bool) (at : ℕ) (calls now : List Recorded) → at < length kept → get_or kept at false ≡ true
    → now ≡ forget (take at kept) calls → now ≡ forget (take (at + 1) kept) calls
forget-true-step kept at calls now h is same =
    same ∙ sym (ap (λ (ks : List Bool). forget ks calls) (take-next kept at true h is) ∙ forget-true (take at kept) calls)

pub forget-past-step : (kept : List Bool) (at : ℕ) (calls now : List Recorded) → at < length kept → length now ≤ at
    → now ≡ forget (take at kept) calls → now ≡ forget (take (at + 1) kept) calls
forget-past-step kept at calls now h past same =
    let n : length (take at kept) ≡ at = length-take-le at kept (omega (arith, h)) in
    let m : length now ≡ length calls = ap length same ∙ length-forget (take at kept) calls in
    same ∙ sym (ap (λ (ks : List Bool). forget ks calls) (take_more kept at false h) ∙ forget-past (take at kept) (get_or kept at false) calls (omega (arith, n, m, past)))

pub roles-step : (roles : List Role) (at : ℕ) (r : Role) (calls now : List Recorded) (x : Recorded) → at < length roles → r ≡ get_or roles at r
    → at < length now → now ≡ with_roles (take at roles) calls → x ≡ get_or now at x → set now at (with_role x r) ≡ with_roles (take (at + 1) roles) calls
roles-step roles at r calls now x h is within same read =
    let next : List Recorded = with_roles (take at roles ++ r ∷ []) calls in
    let n : length (take at roles) ≡ at = length-take-le at roles (omega (arith, h)) in
    let m : length now ≡ length calls = ap length same ∙ length-with_roles (take at roles) calls in
    let a = roles-more (take at roles) r calls x (omega (arith, n, m, within)) in
    let b = subst (λ (i : ℕ). next ≡ set (with_roles (take at roles) calls) i (with_role (get_or (with_roles (take at roles) calls) i x) r)) n a in
    let e = subst (λ (l : List Recorded). next ≡ set l at (with_role (get_or l at x) r)) (sym same) b in
    let f = subst (λ (y : Recorded). next ≡ set now at (with_role y r)) (sym read) e in
    let more : take (at + 1) roles ≡ take at roles ++ r ∷ [] = take_more roles at r h ∙ ap (λ (y : Role). take at roles ++ y ∷ []) (sym is) in
    sym (ap (λ (rs : List Role). with_roles rs calls) more ∙ f)

pub roles-past-step : (roles : List Role) (at : ℕ) (r : Role) (calls now : List Recorded) → at < length roles → length now ≤ at
    → now ≡ with_roles (take at roles) calls → now ≡ with_roles (take (at + 1) roles) calls
roles-past-step roles at r calls now h past same =
    let n : length (take at roles) ≡ at = length-take-le at roles (omega (arith, h)) in
    let m : length now ≡ length calls = ap length same ∙ length-with_roles (take at roles) calls in
    same ∙ sym (ap (λ (rs : List Role). with_roles rs calls) (take_more roles at r h) ∙ roles-past (take at roles) (get_or roles at r) calls (omega (arith, n, m, past)))

pub same-refl : (s : Shrinking) → HasRoles s → IsSame s s
same-refl s has = record { calls = refl; each = refl; roles = has }

pub same-trans : (a b c : Shrinking) → IsSame a b → IsSame b c → IsSame a c
same-trans a b c ab bc = record { calls = bc.calls ∙ ab.calls; each = bc.each ∙ ab.each; roles = bc.roles }

pub pushed-length : {X : Type 0} → (xs : List X) (x : X) (new : List X) (k : ℕ) → new ≡ xs ++ x ∷ [] → length xs ≡ k → length new ≡ k + 1
pushed-length xs x new k items long = ap length items ∙ length-append xs (x ∷ []) ∙ ap (λ (n : ℕ). n + 1) long

pub needs-next : (rules : Rules) (calls : List Recorded) (opening : Spot) (limit : ℕ) (kept : List Bool) (call : ℕ) (needs new : List Need) (n : Need)
    → new ≡ needs ++ n ∷ [] → length needs ≡ call → AreNeeds rules calls opening limit kept 0 needs → IsNeed rules calls opening limit kept call n
    → AreNeeds rules calls opening limit kept 0 new
needs-next rules calls opening limit kept call needs new n items long all one =
    let at : call ≡ 0 + length needs = omega (arith, long) in
    subst (λ (ns : List Need). AreNeeds rules calls opening limit kept 0 ns) (sym items)
    (needs-more rules calls opening limit kept 0 needs n all (subst (λ (k : ℕ). IsNeed rules calls opening limit kept k n) at one))

-- the same calls, and the same room for each try
pub need-of-same : (rules : Rules) (a b : Shrinking) (opening : Spot) (kept : List Bool) (call : ℕ) (n : Need) → IsSame a b
    → IsNeed rules (whole b) opening b.each kept call n → IsNeed rules (whole a) opening a.each kept call n
need-of-same rules a b opening kept call n same need =
    subst (λ (limit : ℕ). IsNeed rules (whole a) opening limit kept call n) same.each
    (subst (λ (cs : List Recorded). IsNeed rules cs opening b.each kept call n) same.calls need)

pub left-of-same : (rules : Rules) (a b : Shrinking) (opening : Spot) (kept : List Bool) → IsSame a b
    → IsLeft rules (whole b) opening kept → IsLeft rules (whole a) opening kept
left-of-same rules a b opening kept same left = subst (λ (cs : List Recorded). IsLeft rules cs opening kept) same.calls left

pub left-in-same : (rules : Rules) (a b : Shrinking) (opening : Spot) (kept : List Bool) → IsSame a b
    → IsLeft rules (whole a) opening kept → IsLeft rules (whole b) opening kept
left-in-same rules a b opening kept same left = subst (λ (cs : List Recorded). IsLeft rules cs opening kept) (sym same.calls) left
