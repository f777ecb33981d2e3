-- A call so far, as one of its keys goes on by one phase, and as a round has called outside.
--     among_more       what is among some is among more
--     at_later         a phase at another key leaves what is said of this one
--     at_since         what is so since a later view is so since an earlier one
--     at_more          what is so stays so when a later round has called outside
--     place_or         the place of this key, or another key
--     goes_on          the key at this place goes on by one phase
--     more_rounds      the call so far, when a round has called outside
--     opens            before the first round
use Rattle.jc_rounds.proofs.Common.{◌≡◌, ◌==◌, ◌&&◌, ◌||◌, ◌⊎◌, ⊎_elim, inl, inr, ℕ, zero, suc, List, [], ◌∷◌, ◌++◌, length, length-set, set, Bool, true, false, None, Some, Ok, Err, Result, Option, slice_get, refl, sym, ap, subst, ◌∙◌, arith, and_from, and_parts, nat_list_eq_equiv, IsDistinct-head, IsDistinct-tail, same_Some, IsAmong, IsDistinct, list_all, keys_of, pointwise, same_text, stripe_of, Caller, Refusal, is_among, Bytes, Event, Op, Out, is_before_call, whole_history, View, prefix-trans, same_on, KeyProgress, Waiting, Reserved, Joined, Ended, all_waiting, State, Config, Reply, flat_map-append, list_any-append, IsAt, IsStepTold, MadeOn, WasRefused, steps_of, Round, asked_in, keys_asked, HasGrown, MovesAtKey, is_at, view_at, view_of, IsSoFar, is_target_of}
use Rattle.jc_rounds.proofs.Places.{many_waiting}
use mathlib.Core.List.{IsPrefix}
use Rattle.jc_outside.proofs.CallerLemmas.{at_place}
use Rattle.jc_engine.specs.MadeIn.{IsNext}
use Rattle.jc_rounds.proofs.CallSteps.{no-steps, still-before, or_true}
use Rattle.jc_rounds.proofs.SeatPhases.{Seated, found_later, found_since, grown_itself, grown_on, phases_among, phases_none, phases_on, longer}

-- 1. Rounds.

pub among_more : {X : Type 0} (xs ys : List X) (v : X) → IsAmong xs v → IsAmong (xs ++ ys) v
among_more [] ys v is = absurd (let near = is.1.0 in omega arith)
among_more (x ∷ xs) ys v (zero, (lt, is)) = (zero, (omega arith, is))
among_more (x ∷ xs) ys v (suc i, (lt, is)) = let rest = among_more xs ys v (i, (omega (arith, lt), is)) in (suc rest.0, (omega (arith, rest.1.0), rest.1.1))

-- 2. One key.

slice_on : (xs zs : List Event) (place : ℕ) (e : Event) → slice_get xs place ≡ Some e → slice_get (xs ++ zs) place ≡ Some e
slice_on [] zs place e at = cc
slice_on (x ∷ xs) zs zero e at = at
slice_on (x ∷ xs) zs (suc place) e at = slice_on xs zs place e at

pub there_on : (xs ys : List Event) (place : ℕ) (e : Event) → IsPrefix xs ys → slice_get xs place ≡ Some e → slice_get ys place ≡ Some e
there_on xs ys place e p at = subst (λ zs. slice_get zs place ≡ Some e) p.1 (slice_on xs p.0 place e at)

pub refused_later : (caller : Caller) (u v w : View) (key : Bytes) (op : Op) (refusal : Refusal) → HasGrown v w → WasRefused caller u v key op refusal → WasRefused caller u w key op refusal
refused_later caller u v w key op refusal grown was = record {
  seen = was.seen;
  reached = was.reached;
  since = was.since;
  later = prefix-trans (whole_history was.seen) v.front w.front was.later grown.front;
  next = (let one = was.next in let two = grown.next in omega arith);
  same = same_on was.seen v.noted w.noted was.same grown.same;
  found = found_later u v w was.seen was.seen grown was.found;
  may = was.may;
  why = was.why;
}

pub refused_since : (caller : Caller) (u v w : View) (key : Bytes) (op : Op) (refusal : Refusal) → HasGrown u v → WasRefused caller v w key op refusal → WasRefused caller u w key op refusal
refused_since caller u v w key op refusal grown was = record {
  seen = was.seen;
  reached = was.reached;
  since = prefix-trans u.front v.front (whole_history was.seen) grown.front was.since;
  later = was.later;
  next = was.next;
  same = was.same;
  found = found_since u v w was.seen was.seen grown was.found;
  may = was.may;
  why = was.why;
}

-- the place of a step is the next one of its state in a longer history too
next_on : (state : State) (key : Bytes) (place : ℕ) (xs ys : List Event) → IsPrefix xs ys → IsNext state key place xs → IsNext state key place ys
next_on state key place xs ys p next = ⊎_elim (λ at. inl at) (λ at. inr (at.0, at.1, (at.2.0, there_on xs ys (length (whole_history state)) _ p at.2.1))) next

made_later : (v w : View) (key : Bytes) (place : ℕ) (P : Option Bytes → Type 0) → HasGrown v w → MadeOn v key place P → MadeOn w key place P
made_later v w key place P grown made = record {
  decided = made.decided;
  reached = made.reached;
  later = prefix-trans (whole_history made.decided) v.front w.front made.later grown.front;
  same = same_on made.decided v.noted w.noted made.same grown.same;
  next = next_on made.decided key place v.front w.front grown.front made.next;
  entry = made.entry;
}

told_later : (config : Config) (rounds : List Round) (v w : View) (key : Bytes) (op : Op) (place : ℕ) (shared : Option ℕ) (out : Out) → HasGrown v w → IsStepTold config rounds v key op place shared out → IsStepTold config rounds w key op place shared out
told_later config rounds v w key op place None out grown (inl told) = inl (told.0, told.1, made_later v w key place _ grown told.2)
told_later config rounds v w key op place None out grown (inr told) = inr (told.0, told.1, told.2, made_later v w key place _ grown told.3)
told_later config rounds v w key op place (Some load) out grown told = told

-- what a round has told stays so in later rounds, which don't ask for the key
asked_more : (rounds more : List Round) (key : Bytes) → is_among (asked_in rounds) key ≡ false → is_among (asked_in more) key ≡ false → is_among (asked_in (rounds ++ more)) key ≡ false
asked_more rounds more key one two =
    ap (λ ks. is_among ks key) (flat_map-append keys_asked rounds more) ∙ list_any-append (pointwise ◌==◌ key) (asked_in rounds) (asked_in more) ∙ (λ i. one i || two i)

told_more : (config : Config) (rounds more : List Round) (w : View) (key : Bytes) (op : Op) (place : ℕ) (shared : Option ℕ) (out : Out) → is_among (asked_in more) key ≡ false
    → IsStepTold config rounds w key op place shared out → IsStepTold config (rounds ++ more) w key op place shared out
told_more config rounds more w key op place None out none (inl told) = inl (asked_more rounds more key told.0 none, told.1, told.2)
told_more config rounds more w key op place None out none (inr told) = inr (told.0, among_more rounds more told.0 told.1, told.2, told.3)
told_more config rounds more w key op place (Some load) out none told = (asked_more rounds more key told.0 none, told.1)

-- THE LEMMA: a phase at another key leaves what is said of this one
pub at_later : (config : Config) (caller : Caller) (rounds : List Round) (u v w : View) (key : Bytes) (op : Op) (p : KeyProgress) → HasGrown v w → steps_of caller key w.own ≡ steps_of caller key v.own
    → IsAt config caller rounds u v key op p → IsAt config caller rounds u w key op p
at_later config caller rounds u v w key op Waiting grown same at = same ∙ at
at_later config caller rounds u v w key op Reserved grown same at = same ∙ at
at_later config caller rounds u v w key op Joined grown same at = same ∙ at
at_later config caller rounds u v w key op (Ended (Ok reply)) grown same at = record {
  out = at.out;
  shared_with = at.shared_with;
  place = at.place;
  told = told_later config rounds v w key op at.place at.shared_with at.out grown at.told;
  one = same ∙ at.one;
  all = grown.all at.all;
  there = there_on v.front w.front at.place _ grown.front at.there;
  behind = at.behind;
}
at_later config caller rounds u v w key op (Ended (Err refusal)) grown same at =
    (same ∙ at.0, at.1, ⊎_elim (λ memory. inl memory) (λ full. inr (full.0, refused_later caller u v w key op refusal grown full.1)) at.2)

pub at_since : (config : Config) (caller : Caller) (rounds : List Round) (u v w : View) (key : Bytes) (op : Op) (p : KeyProgress) → HasGrown u v → IsAt config caller rounds v w key op p → IsAt config caller rounds u w key op p
at_since config caller rounds u v w key op Waiting grown at = at
at_since config caller rounds u v w key op Reserved grown at = at
at_since config caller rounds u v w key op Joined grown at = at
at_since config caller rounds u v w key op (Ended (Ok reply)) grown at = record {
  out = at.out;
  shared_with = at.shared_with;
  place = at.place;
  told = at.told;
  one = at.one;
  all = at.all;
  there = at.there;
  behind = (let one = longer u.front v.front grown.front in let two = at.behind in omega arith);
}
at_since config caller rounds u v w key op (Ended (Err refusal)) grown at =
    (at.0, at.1, ⊎_elim (λ memory. inl memory) (λ full. inr (full.0, refused_since caller u v w key op refusal grown full.1)) at.2)

-- a key that has ended isn't asked for in a later round
pub at_more : (config : Config) (caller : Caller) (rounds more : List Round) (u w : View) (key : Bytes) (op : Op) (p : KeyProgress) → ((ended : Result Reply Refusal) → p ≡ Ended ended → is_among (asked_in more) key ≡ false)
    → IsAt config caller rounds u w key op p → IsAt config caller (rounds ++ more) u w key op p
at_more config caller rounds more u w key op Waiting none at = at
at_more config caller rounds more u w key op Reserved none at = at
at_more config caller rounds more u w key op Joined none at = at
at_more config caller rounds more u w key op (Ended (Ok reply)) none at = record {
  out = at.out;
  shared_with = at.shared_with;
  place = at.place;
  told = told_more config rounds more w key op at.place at.shared_with at.out (none (Ok reply) refl) at.told;
  one = at.one;
  all = at.all;
  there = at.there;
  behind = at.behind;
}
at_more config caller rounds more u w key op (Ended (Err refusal)) none at = (
  at.0,
  asked_more rounds more key at.1 (none (Err refusal) refl),
  ⊎_elim (λ memory. inl (memory.0, some_more rounds memory.1, memory.2)) (λ full. inr full) at.2,
)
  where
    some_more : (rs : List Round) → (rs ≡ [] → ⊥) → rs ++ more ≡ [] → ⊥
    some_more [] some = absurd (some refl)
    some_more (r ∷ rs) some = λ none. cc

-- 3. All keys.

pub or_parts : (a b : Bool) → (a || b) ≡ false → (a ≡ false) × (b ≡ false)
or_parts true b h = cc
or_parts false b h = (refl, h)

pub key_at : (targets : List (Bytes × Op)) (i : ℕ) (key : Bytes) (op : Op) → slice_get targets i ≡ Some (key, op) → slice_get (keys_of targets) i ≡ Some key
key_at [] i key op at = cc
key_at (t ∷ targets) zero key op at = ap Some (ap (λ (u : Bytes × Op). u.0) (same_Some t (key, op) at))
key_at (t ∷ targets) (suc i) key op at = key_at targets i key op at

pub place_or : (targets : List (Bytes × Op)) (i j : ℕ) (key q : Bytes) (op o : Op) → IsDistinct (pointwise ◌==◌) (keys_of targets) → slice_get targets i ≡ Some (key, op) → slice_get targets j ≡ Some (q, o)
    → (ps : List KeyProgress) (p r : KeyProgress) → slice_get (set ps i p) j ≡ Some r → ((pointwise ◌==◌ key q ≡ false) × (slice_get ps j ≡ Some r)) ⊎ ((q ≡ key) × (o ≡ op) × (r ≡ p))
place_or [] i j key q op o d at there ps p r is = cc
place_or (t ∷ targets) i j key q op o d at there [] p r is = cc
place_or (t ∷ targets) zero zero key q op o d at there (x ∷ ps) p r is =
    let same : (q, o) ≡ (key, op) = sym (same_Some t (q, o) there) ∙ same_Some t (key, op) at in
    inr (ap (λ (u : Bytes × Op). u.0) same, ap (λ (u : Bytes × Op). u.1) same, sym (same_Some p r is))
place_or (t ∷ targets) zero (suc j) key q op o d at there (x ∷ ps) p r is =
    let apart = at_place (λ k. pointwise ◌==◌ t.0 k ≡ false) (keys_of targets) j q (IsDistinct-head (pointwise ◌==◌) t.0 (keys_of targets) d) (key_at targets j q o there) in
    let same : t.0 ≡ key = ap (λ (u : Bytes × Op). u.0) (same_Some t (key, op) at) in
    inl (subst (λ k. pointwise ◌==◌ k q ≡ false) same apart, is)
place_or (t ∷ targets) (suc i) zero key q op o d at there (x ∷ ps) p r is =
    let apart = at_place (λ k. pointwise ◌==◌ t.0 k ≡ false) (keys_of targets) i key (IsDistinct-head (pointwise ◌==◌) t.0 (keys_of targets) d) (key_at targets i key op at) in
    let same : t.0 ≡ q = ap (λ (u : Bytes × Op). u.0) (same_Some t (q, o) there) in
    inl (nat_list_eq_equiv.symm key q ∙ subst (λ k. pointwise ◌==◌ k key ≡ false) same apart, is)
place_or (t ∷ targets) (suc i) (suc j) key q op o d at there (x ∷ ps) p r is =
    place_or targets i j key q op o (IsDistinct-tail (pointwise ◌==◌) t.0 (keys_of targets) d) at there ps p r is

pub among_at : (targets : List (Bytes × Op)) (i : ℕ) (key : Bytes) (op : Op) → slice_get targets i ≡ Some (key, op) → is_among (keys_of targets) key ≡ true
among_at [] i key op at = cc
among_at (t ∷ targets) zero key op at =
    ap (λ k. pointwise ◌==◌ key k || is_among (keys_of targets) key) (ap (λ (u : Bytes × Op). u.0) (same_Some t (key, op) at)) ∙ ap (λ b. b || is_among (keys_of targets) key) (nat_list_eq_equiv.refl key)
among_at (t ∷ targets) (suc i) key op at = or_true (pointwise ◌==◌ key t.0) (is_among (keys_of targets) key) (among_at targets i key op at)

-- 4. The key at a place goes on.

pub and_left : (a b : Bool) → a ≡ false → (a && b) ≡ false
and_left a b is = ap (λ x. x && b) is

and_right : (a b : Bool) → b ≡ false → (a && b) ≡ false
and_right true b is = is
and_right false b is = refl

rest_false : (a b : Bool) → a ≡ true → (a && b) ≡ false → b ≡ false
rest_false true b is h = h
rest_false false b is h = cc

-- a key of no place, or on another stripe, isn't at this one
pub not_here : (targets : List (Bytes × Op)) (stripes place : ℕ) (key q : Bytes) (op : Op) (i : ℕ) (b : Bool) → pointwise ◌==◌ key q ≡ b → slice_get targets place ≡ Some (key, op) → is_target_of stripes targets q i ≡ false → is_at stripes key q i ≡ false
not_here targets stripes place key q op i false apart at none = and_left _ _ apart
not_here targets stripes place key q op i true same at none =
    let is : key ≡ q = same_text key q (sym same) in
    let elsewhere : (stripe_of q stripes == i) ≡ false = rest_false (is_among (keys_of targets) q) _ (subst (λ k. is_among (keys_of targets) k ≡ true) is (among_at targets place key op at)) none in
    and_right _ _ (ap (λ k. stripe_of k stripes == i) is ∙ elsewhere)

due_at : (targets : List (Bytes × Op)) (stripes place : ℕ) (key q : Bytes) (op : Op) (i : ℕ) → slice_get targets place ≡ Some (key, op) → is_at stripes key q i ≡ true → is_target_of stripes targets q i ≡ true
due_at targets stripes place key q op i at is =
    let parts = and_parts (pointwise ◌==◌ key q) (stripe_of key stripes == i) is in
    let same : key ≡ q = same_text key q (sym parts.0) in
    and_from (is_among (keys_of targets) q) (stripe_of q stripes == i) (subst (λ k. is_among (keys_of targets) k ≡ true) same (among_at targets place key op at)) (ap (λ k. stripe_of k stripes == i) (sym same) ∙ parts.1)

pub goes_on : (config : Config) (caller : Caller) (stripes : ℕ) (targets : List (Bytes × Op)) (rounds : List Round) (old mid new : List Seated) (ps : List KeyProgress) (place : ℕ) (key : Bytes) (op : Op) (p : KeyProgress)
    → IsDistinct (pointwise ◌==◌) (keys_of targets) → slice_get targets place ≡ Some (key, op) → IsSoFar config caller stripes targets rounds old mid ps → MovesAtKey caller stripes key mid new
    → IsAt config caller rounds (view_of stripes old key) (view_of stripes new key) key op p → IsSoFar config caller stripes targets rounds old new (set ps place p)
goes_on config caller stripes targets rounds old mid new ps place key op p d at was moves now = record {
  grown = λ i. grown_on (view_at old i) (view_at mid i) (view_at new i) (was.grown i) (moves.grown i);
  phases = λ i. phases_on caller (λ q. is_target_of stripes targets q i ≡ true) (view_at old i) (view_at mid i) (view_at new i) (was.phases i)
      (phases_among caller (λ q. is_at stripes key q i ≡ true) (λ q. is_target_of stripes targets q i ≡ true) (view_at mid i) (view_at new i) (λ q is. due_at targets stripes place key q op i at is) (moves.phases i));
  numbers = λ i. moves.numbers i (was.numbers i);
  former = λ i. moves.former i ∙ was.former i;
  many = length-set ps place p ∙ was.many;
  each = λ j q o r there is. by j q o r there (place_or targets place j key q op o d at there ps p r is);
  others = λ q i none. moves.others q i (not_here targets stripes place key q op i (pointwise ◌==◌ key q) refl at none) ∙ was.others q i none;
}
  where
    by : (j : ℕ) (q : Bytes) (o : Op) (r : KeyProgress) → slice_get targets j ≡ Some (q, o) → ((pointwise ◌==◌ key q ≡ false) × (slice_get ps j ≡ Some r)) ⊎ ((q ≡ key) × (o ≡ op) × (r ≡ p))
        → IsAt config caller rounds (view_of stripes old q) (view_of stripes new q) q o r
    by j q o r there (inl other) =
        at_later config caller rounds (view_of stripes old q) (view_of stripes mid q) (view_of stripes new q) q o r (moves.grown (stripe_of q stripes)) (moves.others q (stripe_of q stripes) (and_left _ _ other.0)) (was.each j q o r there other.1)
    by j q o r there (inr same) =
        subst (λ (k : Bytes). IsAt config caller rounds (view_of stripes old k) (view_of stripes new k) k o r) (sym same.0)
        (subst (λ (y : Op). IsAt config caller rounds (view_of stripes old key) (view_of stripes new key) key y r) (sym same.1) (subst (IsAt config caller rounds (view_of stripes old key) (view_of stripes new key) key op) (sym same.2) now))

pub more_rounds : (config : Config) (caller : Caller) (stripes : ℕ) (targets : List (Bytes × Op)) (rounds more : List Round) (old new : List Seated) (ps : List KeyProgress)
    → ((place : ℕ) (key : Bytes) (op : Op) (ended : Result Reply Refusal) → slice_get targets place ≡ Some (key, op) → slice_get ps place ≡ Some (Ended ended) → is_among (asked_in more) key ≡ false)
    → IsSoFar config caller stripes targets rounds old new ps → IsSoFar config caller stripes targets (rounds ++ more) old new ps
more_rounds config caller stripes targets rounds more old new ps none so = record {
  grown = so.grown;
  phases = so.phases;
  numbers = so.numbers;
  former = so.former;
  many = so.many;
  each = λ j q o r there is.
      at_more config caller rounds more (view_of stripes old q) (view_of stripes new q) q o r (λ e at. none j q o e there (is ∙ ap Some at)) (so.each j q o r there is);
  others = so.others;
}

-- 5. Before the first round.

pub waiting_there : (n place : ℕ) (p : KeyProgress) → slice_get (all_waiting n) place ≡ Some p → p ≡ Waiting
waiting_there zero place p at = cc
waiting_there (suc n) zero p at = sym (same_Some Waiting p at)
waiting_there (suc n) (suc place) p at = waiting_there n place p at

pub opens : (config : Config) (caller : Caller) (stripes : ℕ) (targets : List (Bytes × Op)) (seats : List Seated) (ps : List KeyProgress) → ((i : ℕ) → list_all (is_before_call caller.session caller.call) (view_at seats i).own ≡ true) → ps ≡ all_waiting (length targets)
    → IsSoFar config caller stripes targets [] seats seats ps
opens config caller stripes targets seats ps before is = record {
  grown = λ i. grown_itself (view_at seats i);
  phases = λ i. phases_none caller (λ q. is_target_of stripes targets q i ≡ true) (view_at seats i);
  numbers = λ i. still-before caller (view_at seats i).own (before i);
  former = λ i. refl;
  many = ap length is ∙ many_waiting (length targets);
  each = λ place key op p at there.
      subst (IsAt config caller [] (view_of stripes seats key) (view_of stripes seats key) key op) (sym (waiting_there (length targets) place p (subst (λ (qs : List KeyProgress). slice_get qs place ≡ Some p) is there)))
      (no-steps caller key (view_of stripes seats key).own (before (stripe_of key stripes)));
  others = λ q i none. no-steps caller q (view_at seats i).own (before i);
}
