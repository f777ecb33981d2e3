-- The calls that have joined a load, and the joiners that they have.
--     told_resolved, told_dissolved, told_pushed      what is parked for a call stays parked
--     told_waiting      a commit parks an answer for each that waits for its load
--     join_at, join_there       a join that is found, and one that is there, with what is true of it
--     other_key         a call that has not joined the load of a key is at another key, if it has joined there
use Rattle.jc_world.proofs.Common.{◌≡◌, ℕ, ◌+◌, Bool, true, false, cond, not, ◌&&◌, ◌||◌, List, [], ◌∷◌, ◌++◌, map, is_some, IsSomeAnd, ◌==◌, Some, None, filter, Option, find, sym, refl, ap, ◌∙◌, subst, and_parts, and_from, false_from_ne_true, nat_eq_equiv, nat_list_cmp_total, nat_list_eq_equiv, pointwise, get, insert, remove, get-insert, get-remove, list_all, eq_by_cmp, Caller, same_key, Bytes, key_cmp, after_dissolve, belongs_to, is_waiting, waits_for, callers_of, with_answer, answered_from, JoinState, Again, Waiting, Joiner, is_other_join, are_apart, JoinClaim, Part, is_answered, has_parked_answer, Each, IsWaitedFor, AllWaitedFor, AllCalled, Parts, JoinKey, WorldState, of_call, part_of, join_of, is_joined}

-- the joiner of a caller at a key
abbrev pub joiner_of : Caller → Bytes → List Joiner → Option Joiner
joiner_of caller key joiners = find (belongs_to caller key) joiners

-- 1. What is parked.

-- what waits has no answer
pub unanswered : (s : JoinState) → is_waiting s ≡ true → is_answered s ≡ true → ⊥
unanswered Waiting h k = cc
unanswered s h k = cc

-- an answer that is parked stays if others are parked
pub told_resolved : (load step place : ℕ) (caller : Caller) (key : Bytes) (js : List Joiner) → has_parked_answer (joiner_of caller key js) ≡ true → has_parked_answer (joiner_of caller key (answered_from load step place js)) ≡ true
told_resolved load step place caller key [] h = h
told_resolved load step place caller key (x ∷ xs) h =
    let p = belongs_to caller key in
    elim (waits_for load x) as (λ b. has_parked_answer (find p (cond b (with_answer place step x ∷ answered_from load step (place + 1) xs) (x ∷ answered_from load step place xs))) ≡ true) [
      | true ↦ elim (p x) as (λ b. has_parked_answer (cond b (Some x) (find p xs)) ≡ true → has_parked_answer (cond b (Some (with_answer place step x)) (find p (answered_from load step (place + 1) xs))) ≡ true) [
        | true ↦ λ h. refl
        | false ↦ λ h. told_resolved load step (place + 1) caller key xs h
      ] h
      | false ↦ elim (p x) as (λ b. has_parked_answer (cond b (Some x) (find p xs)) ≡ true → has_parked_answer (cond b (Some x) (find p (answered_from load step place xs))) ≡ true) [
        | true ↦ λ h. h
        | false ↦ λ h. told_resolved load step place caller key xs h
      ] h
    ]

-- one that is found and waits for the load gets its answer
pub told_waiting : (load step place : ℕ) (caller : Caller) (key : Bytes) (js : List Joiner) (j : Joiner) → joiner_of caller key js ≡ Some j → waits_for load j ≡ true → has_parked_answer (joiner_of caller key (answered_from load step place js)) ≡ true
told_waiting load step place caller key [] j h waits = cc
told_waiting load step place caller key (x ∷ xs) j h waits =
    let p = belongs_to caller key in
    elim (waits_for load x) as (λ b. waits_for load x ≡ b → has_parked_answer (find p (cond b (with_answer place step x ∷ answered_from load step (place + 1) xs) (x ∷ answered_from load step place xs))) ≡ true) [
      | true ↦ λ e. elim (p x) as (λ b. cond b (Some x) (find p xs) ≡ Some j → has_parked_answer (cond b (Some (with_answer place step x)) (find p (answered_from load step (place + 1) xs))) ≡ true) [
        | true ↦ λ h. refl
        | false ↦ λ h. told_waiting load step (place + 1) caller key xs j h waits
      ] h
      | false ↦ λ e. elim (p x) as (λ b. cond b (Some x) (find p xs) ≡ Some j → has_parked_answer (cond b (Some x) (find p (answered_from load step place xs))) ≡ true) [
        | true ↦ λ h. let is : x ≡ j = cc in let t : true ≡ false = sym waits ∙ ap (waits_for load) (sym is) ∙ e in cc
        | false ↦ λ h. told_waiting load step place caller key xs j h waits
      ] h
    ] refl

-- an answer that is parked stays if a load is withdrawn
pub told_dissolved : (load : ℕ) (caller : Caller) (key : Bytes) (js : List Joiner) → has_parked_answer (joiner_of caller key js) ≡ true → has_parked_answer (joiner_of caller key (after_dissolve load js)) ≡ true
told_dissolved load caller key [] h = h
told_dissolved load caller key (x ∷ xs) h =
    let p = belongs_to caller key in
    elim (waits_for load x) as (λ b. waits_for load x ≡ b → has_parked_answer (find p (cond b (record x { state = Again }) x ∷ after_dissolve load xs)) ≡ true) [
      | true ↦ λ e. elim (p x) as (λ b. has_parked_answer (cond b (Some x) (find p xs)) ≡ true → has_parked_answer (cond b (Some (record x { state = Again })) (find p (after_dissolve load xs))) ≡ true) [
        | true ↦ λ h. absurd (unanswered x.state (and_parts (x.load == load) (is_waiting x.state) e).1 h)
        | false ↦ λ h. told_dissolved load caller key xs h
      ] h
      | false ↦ λ e. elim (p x) as (λ b. has_parked_answer (cond b (Some x) (find p xs)) ≡ true → has_parked_answer (cond b (Some x) (find p (after_dissolve load xs))) ≡ true) [
        | true ↦ λ h. h
        | false ↦ λ h. told_dissolved load caller key xs h
      ] h
    ] refl

-- and if one more joins
pub told_pushed : (caller : Caller) (key : Bytes) (js more : List Joiner) → has_parked_answer (joiner_of caller key js) ≡ true → has_parked_answer (joiner_of caller key (js ++ more)) ≡ true
told_pushed caller key [] more h = cc
told_pushed caller key (x ∷ xs) more h =
    let p = belongs_to caller key in
    elim (p x) as (λ b. has_parked_answer (cond b (Some x) (find p xs)) ≡ true → has_parked_answer (cond b (Some x) (find p (xs ++ more))) ≡ true) [
      | true ↦ λ h. h
      | false ↦ λ h. told_pushed caller key xs more h
    ] h

-- what passes one test is found among what passes another that follows
pub find_kept : {A : Type 0} (p q : A → Bool) (xs : List A) → ((x : A) → p x ≡ true → q x ≡ true) → find p (filter q xs) ≡ find p xs
find_kept p q [] f = refl
find_kept p q (x ∷ xs) f =
    elim (q x) as (λ b. q x ≡ b → find p (cond b (x ∷ filter q xs) (filter q xs)) ≡ cond (p x) (Some x) (find p xs)) [
      | true ↦ λ e. ap (cond (p x) (Some x)) (find_kept p q xs f)
      | false ↦ λ e. find_kept p q xs f ∙ sym (ap (λ b. cond b (Some x) (find p xs)) (false_from_ne_true (p x) (λ t. let u : true ≡ false = sym (f x t) ∙ e in cc)))
    ] refl

-- 2. A joiner is found.

-- two joiners that are apart are not one
not_of : (x j : Joiner) → is_other_join x.caller x.key j ≡ true → belongs_to j.caller j.key x ≡ false
not_of x j h =
    (λ i. (nat_eq_equiv.symm x.caller.session j.caller.session i && nat_eq_equiv.symm x.caller.call j.caller.call i) && pointwise ◌==◌ j.key x.key)
    ∙ go (j.caller.session == x.caller.session) (j.caller.call == x.caller.call) (pointwise ◌==◌ j.key x.key) h
  where
    go : (s n k : Bool) → (not s || (n && not k)) ≡ true → ((s && n) && k) ≡ false
    go false n k h = refl
    go true false k h = refl
    go true true false h = refl
    go true true true h = cc

-- each joiner is found by its session, number and key
pub each_own : (js : List Joiner) → are_apart js ≡ true → Each (λ (j : Joiner). joiner_of j.caller j.key js ≡ Some j) js
each_own [] h = tt
each_own (x ∷ xs) h =
    let parts = and_parts (list_all (is_other_join x.caller x.key) xs) (are_apart xs) h in (
      ap (λ b. cond b (Some x) (find (belongs_to x.caller x.key) xs)) (and_from _ _ (and_from _ _ (nat_eq_equiv.refl x.caller.session) (nat_eq_equiv.refl x.caller.call)) (nat_list_eq_equiv.refl x.key)),
      behind xs (each_own xs parts.1) parts.0,
    )
  where
    behind : (ys : List Joiner) → Each (λ (j : Joiner). joiner_of j.caller j.key xs ≡ Some j) ys → list_all (is_other_join x.caller x.key) ys ≡ true → Each (λ (j : Joiner). joiner_of j.caller j.key (x ∷ xs) ≡ Some j) ys
    behind [] h apart = tt
    behind (y ∷ ys) h apart =
        let parts = and_parts (is_other_join x.caller x.key y) (list_all (is_other_join x.caller x.key) ys) apart in
        (ap (λ b. cond b (Some x) (find (belongs_to y.caller y.key) xs)) (not_of x y parts.0) ∙ h.0, behind ys h.1 parts.1)

-- the callers of a load, from the joiners that wait for it
pub each_caller : (P : Caller → Type 0) (load : ℕ) (js : List Joiner) → Each (λ (j : Joiner). waits_for load j ≡ true → P j.caller) js → Each (λ (c : Caller). P c) (callers_of load js)
each_caller P load [] h = tt
each_caller P load (x ∷ xs) h =
    elim (waits_for load x) as (λ b. waits_for load x ≡ b → Each (λ (c : Caller). P c) (map (λ (j : Joiner). j.caller) (cond b (x ∷ filter (waits_for load) xs) (filter (waits_for load) xs)))) [
      | true ↦ λ e. (h.0 e, each_caller P load xs h.1)
      | false ↦ λ e. each_caller P load xs h.1
    ] refl

-- 3. A joiner is there.

-- a call that has joined a load still has if some are answered
pub joined_resolved : (P : Joiner → Type 0) (load step place : ℕ) (caller : Caller) (key : Bytes) (js : List Joiner) → ((place : ℕ) (x : Joiner) → P x → P (with_answer place step x)) → IsSomeAnd (joiner_of caller key js) P → IsSomeAnd (joiner_of caller key (answered_from load step place js)) P
joined_resolved P load step place caller key [] f h = h
joined_resolved P load step place caller key (x ∷ xs) f h =
    let p = belongs_to caller key in
    elim (waits_for load x) as (λ b. IsSomeAnd (find p (cond b (with_answer place step x ∷ answered_from load step (place + 1) xs) (x ∷ answered_from load step place xs))) P) [
      | true ↦ elim (p x) as (λ b. IsSomeAnd (cond b (Some x) (find p xs)) P → IsSomeAnd (cond b (Some (with_answer place step x)) (find p (answered_from load step (place + 1) xs))) P) [
        | true ↦ λ h. f place x h
        | false ↦ λ h. joined_resolved P load step (place + 1) caller key xs f h
      ] h
      | false ↦ elim (p x) as (λ b. IsSomeAnd (cond b (Some x) (find p xs)) P → IsSomeAnd (cond b (Some x) (find p (answered_from load step place xs))) P) [
        | true ↦ λ h. h
        | false ↦ λ h. joined_resolved P load step place caller key xs f h
      ] h
    ]

-- or are to retry
pub joined_dissolved : (P : Joiner → Type 0) (load : ℕ) (caller : Caller) (key : Bytes) (js : List Joiner) → ((x : Joiner) → P x → P (record x { state = Again })) → IsSomeAnd (joiner_of caller key js) P → IsSomeAnd (joiner_of caller key (after_dissolve load js)) P
joined_dissolved P load caller key [] f h = h
joined_dissolved P load caller key (x ∷ xs) f h =
    let p = belongs_to caller key in
    elim (waits_for load x) as (λ b. IsSomeAnd (find p (cond b (record x { state = Again }) x ∷ after_dissolve load xs)) P) [
      | true ↦ elim (p x) as (λ b. IsSomeAnd (cond b (Some x) (find p xs)) P → IsSomeAnd (cond b (Some (record x { state = Again })) (find p (after_dissolve load xs))) P) [
        | true ↦ λ h. f x h
        | false ↦ λ h. joined_dissolved P load caller key xs f h
      ] h
      | false ↦ elim (p x) as (λ b. IsSomeAnd (cond b (Some x) (find p xs)) P → IsSomeAnd (cond b (Some x) (find p (after_dissolve load xs))) P) [
        | true ↦ λ h. h
        | false ↦ λ h. joined_dissolved P load caller key xs f h
      ] h
    ]

-- or if one more joins
pub joined_front : (P : Joiner → Type 0) (p : Joiner → Bool) (xs ys : List Joiner) → IsSomeAnd (find p xs) P → IsSomeAnd (find p (xs ++ ys)) P
joined_front P p [] ys h = absurd h
joined_front P p (x ∷ xs) ys h = elim (p x) as (λ b. IsSomeAnd (cond b (Some x) (find p xs)) P → IsSomeAnd (cond b (Some x) (find p (xs ++ ys))) P) [ true ↦ λ h. h | false ↦ λ h. joined_front P p xs ys h ] h

-- and the last has, if none before it is of its call and key
pub joined_last : (P : Joiner → Type 0) (p : Joiner → Bool) (xs : List Joiner) (y : Joiner) → find p xs ≡ None → p y ≡ true → P y → IsSomeAnd (find p (xs ++ y ∷ [])) P
joined_last P p [] y none e h = let Q : Bool → Type 0 = λ b. IsSomeAnd (cond b (Some y) None) P in subst Q (sym e) h
joined_last P p (x ∷ xs) y none e h =
    elim (p x) as (λ b. cond b (Some x) (find p xs) ≡ None → IsSomeAnd (cond b (Some x) (find p (xs ++ y ∷ []))) P) [ true ↦ λ t. cc | false ↦ λ t. joined_last P p xs y t e h ] none

-- 4. Each joiner has its join and its call.

-- those that were answered
pub called_resolved : (w : WorldState) (m load step place : ℕ) (js : List Joiner) → AllCalled w m js → AllCalled w m (answered_from load step place js)
called_resolved w m load step place [] h = tt
called_resolved w m load step place (x ∷ xs) h =
    elim (waits_for load x) as (λ b. AllCalled w m (cond b (with_answer place step x ∷ answered_from load step (place + 1) xs) (x ∷ answered_from load step place xs))) [
      | true ↦ (record { home_is = h.0.home_is; join = h.0.join; call = h.0.call }, called_resolved w m load step (place + 1) xs h.1)
      | false ↦ (h.0, called_resolved w m load step place xs h.1)
    ]

-- and those that are told to retry
pub called_dissolved : (w : WorldState) (m load : ℕ) (js : List Joiner) → AllCalled w m js → AllCalled w m (after_dissolve load js)
called_dissolved w m load [] h = tt
called_dissolved w m load (x ∷ xs) h =
    elim (waits_for load x) as (λ b. AllCalled w m (cond b (record x { state = Again }) x ∷ after_dissolve load xs)) [
      | true ↦ (record { home_is = h.0.home_is; join = h.0.join; call = h.0.call }, called_dissolved w m load xs h.1)
      | false ↦ (h.0, called_dissolved w m load xs h.1)
    ]

-- two facts of each
pub each_both : {A : Type 0} (P Q R : A → Type 0) (xs : List A) → ((x : A) → P x → Q x → R x) → Each P xs → Each Q xs → Each R xs
each_both P Q R [] f h k = tt
each_both P Q R (x ∷ xs) f h k = (f x h.0 k.0, each_both P Q R xs f h.1 k.1)

-- 5. Each join has its joiner and its call.

-- what is found is of its call and its key
pub join_at : (w : WorldState) (call : ℕ) (key : Bytes) (join : JoinClaim) → join_of w call key ≡ Some join → AllWaitedFor w w.joins → (join.caller.call ≡ call) × (join.key ≡ key) × IsWaitedFor w join
join_at w call key join is waited = let h = waited (call, key) join is in (ap (λ (at : JoinKey). at.0) h.0, ap (λ (at : JoinKey). at.1) h.0, h.1)

-- and so is what is there
pub join_there : (w : WorldState) (call : ℕ) (key : Bytes) → is_joined w call key ≡ true → AllWaitedFor w w.joins → (join : JoinClaim) × (join_of w call key ≡ Some join) × (join.caller.call ≡ call) × (join.key ≡ key) × IsWaitedFor w join
join_there w call key there waited = go (join_of w call key) refl there
  where
    go : (o : Option JoinClaim) → join_of w call key ≡ o → is_some o ≡ true → (join : JoinClaim) × (join_of w call key ≡ Some join) × (join.caller.call ≡ call) × (join.key ≡ key) × IsWaitedFor w join
    go None is h = cc
    go (Some join) is h = let j = join_at w call key join is waited in (join, is, j.0, j.1, j.2)

-- if a call has joined, it has no part
pub joined_no_part : (w : WorldState) (call : ℕ) (key : Bytes) → is_joined w call key ≡ true → AllWaitedFor w w.joins → part_of w call key ≡ None
joined_no_part w call key h waited =
    let j = join_there w call key h waited in
    (λ i. part_of w (sym j.2 i) (sym j.3 i)) ∙ j.4.no_part

-- a call that has not joined the load of a key is at another key, if it has joined there
pub other_key : (w : WorldState) (call : ℕ) (key : Bytes) (number : ℕ) (q : Bytes) → is_joined w call key ≡ false → is_joined w number q ≡ true → number ≡ call → q ≡ key → ⊥
other_key w call key number q free joined one same = let t : true ≡ false = sym joined ∙ (λ i. is_joined w (one i) (same i)) ∙ free in cc

-- 6. The parts of calls that have joined.

-- a call has no part if another's is put
pub none_inserted : (parts : Parts) (key q : Bytes) (part : Part) (call : ℕ) → of_call call (get parts q) ≡ None → (q ≡ key → (part.reservation.caller.call == call) ≡ false) → of_call call (get (insert parts key part) q) ≡ None
none_inserted parts key q part call none other =
    ap (of_call call) (get-insert nat_list_cmp_total parts key part q)
    ∙ (elim (eq_by_cmp key_cmp q key) as (λ b. eq_by_cmp key_cmp q key ≡ b → of_call call (cond b (Some part) (get parts q)) ≡ None) [
      | true ↦ λ e. ap (λ b. cond b (Some part) None) (other (same_key q key e))
      | false ↦ λ e. none
    ] refl)

-- nor if one is removed
pub none_removed : (parts : Parts) (key q : Bytes) (call : ℕ) → of_call call (get parts q) ≡ None → of_call call (get (remove parts key) q) ≡ None
none_removed parts key q call none =
    ap (of_call call) (get-remove nat_list_cmp_total parts key q) ∙ (elim (eq_by_cmp key_cmp q key) as (λ b. of_call call (cond b None (get parts q)) ≡ None) [ true ↦ refl | false ↦ none ])

-- a part whose call has none at this key is another's
pub part_other : (o : Option Part) (old : Part) (call : ℕ) → o ≡ Some old → of_call call o ≡ None → (old.reservation.caller.call == call) ≡ false
part_other None old call is none = cc
part_other (Some p) old call is none =
    let same : p ≡ old = cc in
    rw same at (elim (p.reservation.caller.call == call) as (λ b. cond b (Some p) None ≡ None → b ≡ false) [ true ↦ λ h. cc | false ↦ λ h. refl ] none)
