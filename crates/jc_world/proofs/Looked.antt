-- The calls under way, once a call has taken the keys of a stripe.
--     Taken            what is left of the call: what it does or may still do at a key it did before, and what it did it does
--     taken_of         so it is
--     taken_met        and so is what is left of a call that has met something
--     calls_replaced   the calls fit another world
--     still_replaced   a call continues at each of its keys
--     each_replaced    a fact of each call
--     found_replaced   and the call is found by its number
--     place_at         where the call is
--     remove_set       what is put at a place and taken out is taken out
--     changed_at, ended_at
--                      a call that has changed is put in its place, or taken out if it is over, and what is said of its end
--     put_at           one that stays under way is put in its place
--     none_replaced    where no call has the number, nothing changes
use Rattle.jc_world.proofs.Common.{◌≡◌, ℕ, zero, suc, ◌+◌, Bool, true, false, cond, List, [], ◌∷◌, ◌++◌, IsSomeAnd, ◌==◌, slice_get, slice_set, Some, None, Option, position, find, sym, refl, ap, ◌∙◌, subst, arith, position_from-zero, pointwise, cons_option, position_from, lookup, option_or, Caller, Refusal, Bytes, Op, Over, at_each, SweepState, CallState, has_number, op_at, op_found, op_or_found, op_for, is_going, going_on, over_of, with_met, replaced, has_looked_at_each, next_sweep, with_swept_keys, FitsCall, CallsFit, Each, IsCallOf, WorldState}
use Rattle.std.specs.List.{remove}
use Rattle.jc_world.proofs.Facts.{same_found}
use Rattle.jc_world.proofs.Found.{lookup-found, op_of_found, still_done}
use Rattle.jc_world.proofs.Settling.{going_is, none_left, calls_replaced, each_replaced, still_replaced}
use Rattle.jc_world.proofs.Underway.{each_found}

-- 1. A call that has taken keys.

pub record Taken (u v : CallState) : Type 0 where
  pub caller_is : v.caller ≡ u.caller
  pub was : (q : Bytes) (op : Op) → op_for v q ≡ Some op → op_for u q ≡ Some op
  pub goes : (q : Bytes) (op : Op) → op_at u q ≡ Some op → op_at v q ≡ Some op

-- the sweep behind a look does the same at what it finds
op_of_next : (stripes stripe : ℕ) (s : SweepState) (op : Op) → op_found (next_sweep stripes stripe s) ≡ Some op → s.op ≡ op
op_of_next stripes stripe s op h =
    let looked = s.looked ++ stripe ∷ [] in
    elim (has_looked_at_each looked stripes) as (λ b. op_found (cond b None (Some (record s { looked = looked }))) ≡ Some op → s.op ≡ op) [
      | true ↦ λ h. cc
      | false ↦ λ h. let is : s.op ≡ op = cc in is
    ] h

found_was : (stripes stripe : ℕ) (keys : List Bytes) (s : SweepState) (u : CallState) (q : Bytes) (op : Op) → u.sweep ≡ Some s → op_for (with_swept_keys stripes stripe keys s u) q ≡ Some op → op_for u q ≡ Some op
found_was stripes stripe keys s u q op sweeps h =
    go (lookup test u.tasks) (lookup test (at_each s.op keys)) (λ o. op_of_found test s.op keys o)
    (ap (op_or_found (next_sweep stripes stripe s)) (sym (lookup-found test u.tasks (at_each s.op keys))) ∙ h)
  where
    test : Bytes → Bool
    test = pointwise ◌==◌ q

    go : (o p : Option (Option Op)) → ((x : Option Op) → p ≡ Some x → x ≡ Some s.op) → op_or_found (next_sweep stripes stripe s) (option_or o p) ≡ Some op → op_or_found u.sweep o ≡ Some op
    go (Some x) p is h = h
    go None (Some x) is h = ap op_found sweeps ∙ sym (is x refl) ∙ h
    go None None is h = ap op_found sweeps ∙ ap Some (op_of_next stripes stripe s op h)

pub taken_of : (stripes stripe : ℕ) (keys : List Bytes) (s : SweepState) (u v : CallState) → u.sweep ≡ Some s → going_on (with_swept_keys stripes stripe keys s u) ≡ Some v → Taken u v
taken_of stripes stripe keys s u v sweeps h =
    subst (Taken u) (sym (going_is (with_swept_keys stripes stripe keys s u) v h))
    (record {
      caller_is = refl;
      was = λ q op is. found_was stripes stripe keys s u q op sweeps is;
      goes = λ q op is. still_done u.tasks (at_each s.op keys) q op is;
    })

-- and so is a call that has met something
pub taken_met : (met : Option Refusal) (u v : CallState) → Some (with_met met u) ≡ Some v → Taken u v
taken_met met u v h =
    let is : with_met met u ≡ v = cc in
    subst (Taken u) is (record { caller_is = refl; was = λ q op h. h; goes = λ q op h. h })

-- a call with an open key isn't over by a look
pub taken_on : (stripes stripe : ℕ) (keys : List Bytes) (s : SweepState) (u : CallState) (q : Bytes) (op : Op) → op_at u q ≡ Some op → going_on (with_swept_keys stripes stripe keys s u) ≡ None → ⊥
taken_on stripes stripe keys s u q op is over = none_left (with_swept_keys stripes stripe keys s u) q op over (still_done u.tasks (at_each s.op keys) q op is)

-- 2. The calls under way.

-- of the call that is replaced
pub calls_taken : (w n : WorldState) (call : ℕ) (left : CallState → Option CallState) (u : CallState) → find (has_number call) w.calls ≡ Some u → ((v : CallState) → left u ≡ Some v → Taken u v)
    → ((x : CallState) → FitsCall w x → FitsCall n x) → ((v : CallState) → left u ≡ Some v → FitsCall w u → FitsCall n v) → CallsFit w w.calls → CallsFit n (replaced call left w.calls)
calls_taken w n call left u here taken on now fit =
    calls_replaced w n call left (λ x. find (has_number x.caller.call) w.calls ≡ Some x) w.calls
    (λ x v at goes. let is = same_found (find (has_number call) w.calls) x u at here in (taken v (ap left (sym is) ∙ goes)).caller_is ∙ ap (λ (c : CallState). c.caller) (sym is))
    (λ x apart found h. on x h)
    (λ x v at goes found h. let is = same_found (find (has_number call) w.calls) x u at here in now v (ap left (sym is) ∙ goes) (subst (FitsCall w) is h))
    (each_found w w.calls fit) fit

pub still_taken : (call : ℕ) (left : CallState → Option CallState) (u : CallState) (number session : ℕ) (q : Bytes) (op : Op) (calls : List CallState) → find (has_number call) calls ≡ Some u → ((v : CallState) → left u ≡ Some v → Taken u v)
    → (op_at u q ≡ Some op → left u ≡ None → ⊥) → IsSomeAnd (find (has_number number) calls) (IsCallOf session q op) → IsSomeAnd (find (has_number number) (replaced call left calls)) (IsCallOf session q op)
still_taken call left u number session q op calls here taken over h =
    still_replaced call left number session q op calls (λ x v at goes. (at_found x v at goes).caller_is)
    (λ x v at goes mine of. let t = at_found x v at goes in (ap (λ (c : Caller). c.session) t.caller_is ∙ of.0, t.goes q op of.1))
    (λ x at gone mine of. let is = same_found (find (has_number call) calls) x u at here in over (ap (λ (c : CallState). op_at c q) (sym is) ∙ of.1) (ap left (sym is) ∙ gone)) h
  where
    at_found : (x v : CallState) → find (has_number call) calls ≡ Some x → left x ≡ Some v → Taken x v
    at_found x v at goes = let is = same_found (find (has_number call) calls) x u at here in subst (λ y. Taken y v) (sym is) (taken v (ap left (sym is) ∙ goes))

pub each_taken : (call : ℕ) (left : CallState → Option CallState) (P : CallState → Type 0) (u : CallState) (calls : List CallState) → find (has_number call) calls ≡ Some u → ((v : CallState) → left u ≡ Some v → P u → P v) → Each P calls → Each P (replaced call left calls)
each_taken call left P u calls here f each =
    each_replaced call left P calls (λ x v at goes p. let is = same_found (find (has_number call) calls) x u at here in f v (ap left (sym is) ∙ goes) (subst P is p)) each

-- and the call is found by its number
pub found_replaced : (call : ℕ) (left : CallState → Option CallState) (u v : CallState) (calls : List CallState) → find (has_number call) calls ≡ Some u → left u ≡ Some v → v.caller ≡ u.caller → find (has_number call) (replaced call left calls) ≡ Some v
found_replaced call left u v [] here goes same = cc
found_replaced call left u v (x ∷ xs) here goes same =
    elim (has_number call x) as (λ b. has_number call x ≡ b → cond b (Some x) (find (has_number call) xs) ≡ Some u → find (has_number call) (cond b (cons_option (left x) xs) (x ∷ replaced call left xs)) ≡ Some v) [
      | true ↦ λ e here.
          let is : x ≡ u = cc in
          let mine : has_number call v ≡ true = ap (λ (c : Caller). c.call == call) (same ∙ ap (λ (c : CallState). c.caller) (sym is)) ∙ e in
          ap (λ o. find (has_number call) (cons_option o xs)) (ap left is ∙ goes) ∙ ap (λ b. cond b (Some v) (find (has_number call) xs)) mine
      | false ↦ λ e here. ap (λ b. cond b (Some x) (find (has_number call) (replaced call left xs))) e ∙ found_replaced call left u v xs here goes same
    ] refl here

-- 3. Where the call is.

pub record IsPlaceOf (call : ℕ) (left : CallState → Option CallState) (calls : List CallState) (place : ℕ) : Type 0 where
  pub u : CallState
  pub here : slice_get calls place ≡ Some u
  pub first : find (has_number call) calls ≡ Some u
  pub put : (v : CallState) → left u ≡ Some v → replaced call left calls ≡ slice_set calls place v
  pub taken_out : left u ≡ None → replaced call left calls ≡ remove calls place

place_from : (call : ℕ) (left : CallState → Option CallState) (calls : List CallState) (k i : ℕ) → position_from (has_number call) k calls ≡ Some i → (j : ℕ) × (i ≡ k + j) × IsPlaceOf call left calls j
place_from call left [] k i h = cc
place_from call left (x ∷ xs) k i h =
    elim (has_number call x) as (λ b. has_number call x ≡ b → cond b (Some k) (position_from (has_number call) (k + 1) xs) ≡ Some i → (j : ℕ) × (i ≡ k + j) × IsPlaceOf call left (x ∷ xs) j) [
      | true ↦ λ e h.
          let is : k ≡ i = cc in (
            0,
            omega arith,
            record {
              u = x;
              here = refl;
              first = ap (λ b. cond b (Some x) (find (has_number call) xs)) e;
              put = λ v goes. ap (λ b. cond b (cons_option (left x) xs) (x ∷ replaced call left xs)) e ∙ ap (λ o. cons_option o xs) goes;
              taken_out = λ over. ap (λ b. cond b (cons_option (left x) xs) (x ∷ replaced call left xs)) e ∙ ap (λ o. cons_option o xs) over;
            },
          )
      | false ↦ λ e h.
          let rest = place_from call left xs (k + 1) i h in
          let at : i ≡ (k + 1) + rest.0 = rest.1 in (
            suc rest.0,
            omega (arith, at),
            record {
              u = rest.2.u;
              here = rest.2.here;
              first = ap (λ b. cond b (Some x) (find (has_number call) xs)) e ∙ rest.2.first;
              put = λ v goes. ap (λ b. cond b (cons_option (left x) xs) (x ∷ replaced call left xs)) e ∙ ap (λ cs. x ∷ cs) (rest.2.put v goes);
              taken_out = λ over. ap (λ b. cond b (cons_option (left x) xs) (x ∷ replaced call left xs)) e ∙ ap (λ cs. x ∷ cs) (rest.2.taken_out over);
            },
          )
    ] refl h

pub place_at : (call : ℕ) (left : CallState → Option CallState) (calls : List CallState) (i : ℕ) → position (has_number call) calls ≡ Some i → IsPlaceOf call left calls i
place_at call left calls i h =
    let found = place_from call left calls 0 i (sym (position_from-zero (has_number call) calls) ∙ h) in
    let at : i ≡ 0 + found.0 = found.1 in
    let is : found.0 ≡ i = omega (arith, at) in
    subst (IsPlaceOf call left calls) is found.2

pub remove_set : (calls : List CallState) (i : ℕ) (v : CallState) → remove (slice_set calls i v) i ≡ remove calls i
remove_set (x ∷ xs) (suc i) v = ap (λ cs. x ∷ cs) (remove_set xs i v)
remove_set calls i v = refl

-- a call that has changed is put in its place, or taken out if it is over
left_is : (f : CallState → CallState) (u x v : CallState) → u ≡ x → v ≡ f x → (b : Bool) → is_going v ≡ b → going_on (f u) ≡ cond b (Some v) None
left_is f u x v same is b goes = ap (λ (y : CallState). going_on (f y)) same ∙ ap going_on (sym is) ∙ ap (λ c. cond c (Some v) None) goes

changed_at : (call place : ℕ) (f : CallState → CallState) (x v : CallState) (calls : List CallState) → position (has_number call) calls ≡ Some place → find (has_number call) calls ≡ Some x → v ≡ f x
    → cond (is_going v) (slice_set calls place v) (remove (slice_set calls place v) place) ≡ replaced call (λ u. going_on (f u)) calls
changed_at call place f x v calls at found is =
    let p = place_at call (λ u. going_on (f u)) calls place at in
    let same : p.u ≡ x = same_found (find (has_number call) calls) p.u x p.first found in
    elim (is_going v) as (λ b. is_going v ≡ b → cond b (slice_set calls place v) (remove (slice_set calls place v) place) ≡ replaced call (λ u. going_on (f u)) calls) [
      | true ↦ λ goes. sym (p.put v (left_is f p.u x v same is true goes))
      | false ↦ λ goes. remove_set calls place v ∙ sym (p.taken_out (left_is f p.u x v same is false goes))
    ] refl

set_at : (calls : List CallState) (place : ℕ) (x v : CallState) → slice_get calls place ≡ Some x → slice_get (slice_set calls place v) place ≡ Some v
set_at [] place x v h = cc
set_at (y ∷ ys) zero x v h = refl
set_at (y ∷ ys) (suc place) x v h = set_at ys place x v h

-- and what is said of its end is of the call as it is then
pub ended_at : (call place : ℕ) (f : CallState → CallState) (x v w : CallState) (calls new : List CallState) (over : Option Over) → position (has_number call) calls ≡ Some place → find (has_number call) calls ≡ Some x → v ≡ f x
    → slice_get (slice_set calls place v) place ≡ Some w → over ≡ over_of w → new ≡ cond (is_going w) (slice_set calls place v) (remove (slice_set calls place v) place)
    → (over ≡ over_of (f x)) × (new ≡ replaced call (λ u. going_on (f u)) calls)
ended_at call place f x v w calls new over at found is there over_is new_is =
    let p = place_at call (λ u. going_on (f u)) calls place at in
    let same : w ≡ v = let t : Some w ≡ Some v = sym there ∙ set_at calls place p.u v p.here in cc in (
      over_is ∙ ap over_of (same ∙ is),
      new_is ∙ ap (λ (y : CallState). cond (is_going y) (slice_set calls place v) (remove (slice_set calls place v) place)) same ∙ changed_at call place f x v calls at found is,
    )

-- one that stays under way is put in its place
pub put_at : (call place : ℕ) (f : CallState → CallState) (x v : CallState) (calls : List CallState) → position (has_number call) calls ≡ Some place → find (has_number call) calls ≡ Some x → v ≡ f x
    → slice_set calls place v ≡ replaced call (λ u. Some (f u)) calls
put_at call place f x v calls at found is =
    let p = place_at call (λ u. Some (f u)) calls place at in
    let same : p.u ≡ x = same_found (find (has_number call) calls) p.u x p.first found in
    sym (p.put v (ap (λ (y : CallState). Some (f y)) same ∙ ap Some (sym is)))

-- where no call has the number, nothing changes
pub none_replaced : (call : ℕ) (left : CallState → Option CallState) (calls : List CallState) → find (has_number call) calls ≡ None → replaced call left calls ≡ calls
none_replaced call left [] none = refl
none_replaced call left (x ∷ xs) none =
    elim (has_number call x) as (λ b. cond b (Some x) (find (has_number call) xs) ≡ None → cond b (cons_option (left x) xs) (x ∷ replaced call left xs) ≡ x ∷ xs) [
      | true ↦ λ none. cc
      | false ↦ λ none. ap (λ cs. x ∷ cs) (none_replaced call left xs none)
    ] none
