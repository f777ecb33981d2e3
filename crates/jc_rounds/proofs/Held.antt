-- Keys that a round leaves waiting: each was put off, or there was no room for it.
--     goes_itself, goes_both, goes_set     what has ended stays so, every front grows, and no other key is held back than was before
--     held_since, held_later               what is said of a key that was held back, from an earlier view on, and up to a later one
--     kept_held                            what a first phase leaves held back
--     set_there                            the key at a place that was set
--     held_at                              what a first phase says of the key at its place
--     held_next                            one key more has had its first phase
--     held_after                           phases that leave no other key held back
--     not_held                             a settled key that doesn't wait isn't held back
--     fewer_out                            if some key isn't such, fewer are out than there are keys
--     full_by, full_later                  there is no room: the round is full, and stays so
--     have_more                            each key that has joined a load has done so since before the round, by one key more
use Rattle.jc_rounds.proofs.Common.{◌≡◌, ◌==◌, ◌*◌, ◌⊎◌, ⊎_elim, inl, inr, ◌<◌, ◌≤◌, ◌+◌, ℕ, zero, suc, List, [], ◌∷◌, length, set, slice_get, Bool, true, false, true≢false, MatchBool, if◌then◌else◌, Some, Result, Err, refl, sym, ap, ◌∙◌, subst, arith, same_Some, IsDistinct-cons, IsDistinct-head, IsDistinct-tail, AllByRecursion, IsAmong, IsDistinct, keys_of, pointwise, none_twice, stripe_of, Caller, Config, Refusal, Bytes, Op, Get, Reply, JoinClaim, Begun, Reservation, whole_history, View, prefix-trans, same_on, KeyProgress, Waiting, Reserved, Joined, Ended, is_held_back, is_settled, waits_for_joined_load, waits_for_round, HasBegun, HasJoined, IsHeldBack, IsJoinFor, HasGrown, view_at, view_of, AreHeldBack, AreIn, IsHeldAt, IsKept, KeysAdvance, AreManyJoined, HaveJoined, IsFull, IsRoomFor, IsTicketFor, holds_reservation, JOINERS_MAX, RESERVATIONS_MAX, TicketClaim}
use Rattle.jc_types.specs.Refusals.{is_put_off}
use Rattle.jc_stripe.specs.Outcomes as begun
use Rattle.jc_rounds.proofs.Asked.{among_there}
use Rattle.jc_rounds.proofs.Out.{is_no}
use Rattle.jc_rounds.proofs.SeatPhases.{Seated, found_later, found_since, grown_itself, grown_on}
use Rattle.jc_rounds.proofs.SoFar.{refused_later, refused_since}
use Rattle.jc_rounds.proofs.Underway.{below_or, set_get, stay_itself, stay_on, stay_set}

-- 1. All keys.

pub goes_itself : (seats : List Seated) (ps : List KeyProgress) → KeysAdvance seats seats ps ps
goes_itself seats ps = record { stay = stay_itself ps; grown = λ i. grown_itself (view_at seats i); held = λ place p at is. (p, at, is) }

pub goes_both : (a b c : List Seated) (ps qs rs : List KeyProgress) → KeysAdvance a b ps qs → KeysAdvance b c qs rs → KeysAdvance a c ps rs
goes_both a b c ps qs rs one two = record {
  stay = stay_on ps qs rs one.stay two.stay;
  grown = λ i. grown_on (view_at a i) (view_at b i) (view_at c i) (one.grown i) (two.grown i);
  held = λ place p at is. let q = two.held place p at is in one.held place q.0 q.1 q.2;
}

pub goes_set : (a b : List Seated) (ps : List KeyProgress) (i : ℕ) (q p : KeyProgress) → ((j : ℕ) → HasGrown (view_at a j) (view_at b j)) → slice_get ps i ≡ Some q → ((e : Result Reply Refusal) → q ≡ Ended e → ⊥)
    → (is_held_back p ≡ true → is_held_back q ≡ true) → KeysAdvance a b ps (set ps i p)
goes_set a b ps i q p grown at unended keeps = record {
  stay = stay_set ps i q p at unended;
  grown = grown;
  held = λ place r there is. ⊎_elim (λ t. (q, ap (slice_get ps) t.0 ∙ at, keeps (ap is_held_back (sym t.1) ∙ is))) (λ t. (r, t.1, is)) (set_get ps i place p r there);
}

-- 2. One key.

joined_later : (caller : Caller) (u v w : View) (key : Bytes) (op : Op) → HasGrown v w → HasJoined caller u v key op → HasJoined caller u w key op
joined_later caller u v w key op grown was = record {
  seen = was.seen;
  reached = was.reached;
  since = was.since;
  later = prefix-trans (whole_history was.seen) v.front w.front was.later grown.front;
  same = same_on was.seen v.noted w.noted was.same grown.same;
  load = was.load;
  found = found_later u v w was.seen _ grown was.found;
  may = was.may;
  why = was.why;
}

joined_since : (caller : Caller) (u v w : View) (key : Bytes) (op : Op) → HasGrown u v → HasJoined caller v w key op → HasJoined caller u w key op
joined_since caller u v w key op grown was = record {
  seen = was.seen;
  reached = was.reached;
  since = prefix-trans u.front v.front (whole_history was.seen) grown.front was.since;
  later = was.later;
  same = was.same;
  load = was.load;
  found = found_since u v w was.seen _ grown was.found;
  may = was.may;
  why = was.why;
}

pub held_later : (caller : Caller) (u v w : View) (key : Bytes) (op : Op) → HasGrown v w → IsHeldBack caller u v key op → IsHeldBack caller u w key op
held_later caller u v w key op grown (inl was) = inl (was.0, was.1, refused_later caller u v w key op was.0 grown was.2)
held_later caller u v w key op grown (inr was) = inr (joined_later caller u v w key op grown was)

pub held_since : (caller : Caller) (u v w : View) (key : Bytes) (op : Op) → HasGrown u v → IsHeldBack caller v w key op → IsHeldBack caller u w key op
held_since caller u v w key op grown (inl was) = inl (was.0, was.1, refused_since caller u v w key op was.0 grown was.2)
held_since caller u v w key op grown (inr was) = inr (joined_since caller u v w key op grown was)

refused_held : (refusal : Refusal) (b : Bool) (p : KeyProgress) → p ≡ (if b then Waiting else Ended (Err refusal)) → is_held_back p ≡ true → b ≡ true
refused_held refusal true p is held = refl
refused_held refusal false p is held = absurd (true≢false (sym held ∙ ap is_held_back is))

pub kept_held : (caller : Caller) (config : Config) (v w : View) (key : Bytes) (op : Op) (b : Begun) (p : KeyProgress) (ts ts' : List TicketClaim) (joins joins' : List JoinClaim) → HasBegun caller config v w key op b → IsKept b p ts ts' joins joins'
    → is_held_back p ≡ true → IsHeldBack caller v w key op
kept_held caller config v w key op (begun.Done done) p ts ts' joins joins' has kept held = absurd (true≢false (sym held ∙ ap is_held_back kept.0))
kept_held caller config v w key op (begun.Refused refusal) p ts ts' joins joins' has kept held = inl (refusal, refused_held refusal (is_put_off refusal) p kept.0 held, has.3)
kept_held caller config v w key op (begun.Asks ticket) p ts ts' joins joins' has kept held = absurd (true≢false (sym held ∙ ap is_held_back kept.0))
kept_held caller config v w key op (begun.Joined join) p ts ts' joins joins' has kept held = inr has.2

pub not_held : (p : KeyProgress) → waits_for_round p ≡ false → is_settled p ≡ true → is_held_back p ≡ true → ⊥
not_held Waiting w s h = cc
not_held Reserved w s h = cc
not_held Joined w s h = cc
not_held (Ended e) w s h = cc

-- 3. Keys one after the other.

pub set_there : (ps : List KeyProgress) (place : ℕ) (p : KeyProgress) → place < length ps → slice_get (set ps place p) place ≡ Some p
set_there [] place p near = absurd (omega arith)
set_there (q ∷ ps) zero p near = refl
set_there (q ∷ ps) (suc place) p near = set_there ps place p (omega arith)

-- what a first phase says of the key at its place
pub held_at : (caller : Caller) (stripes : ℕ) (targets : List (Bytes × Op)) (a b : List Seated) (ps : List KeyProgress) (place : ℕ) (target : Bytes × Op) (q : KeyProgress) → slice_get targets place ≡ Some target → slice_get ps place ≡ Some q
    → (is_held_back q ≡ true → IsHeldBack caller (view_of stripes a target.0) (view_of stripes b target.0) target.0 target.1) → IsHeldAt ⊥ place caller stripes targets a b ps
held_at caller stripes targets a b ps place target q there at held key op p is here back =
    let same : target ≡ (key, op) = same_Some target (key, op) (sym there ∙ is) in
    inr (subst (λ (u : Bytes × Op). IsHeldBack caller (view_of stripes a u.0) (view_of stripes b u.0) u.0 u.1) same (held (ap is_held_back (same_Some q p (sym at ∙ here)) ∙ back)))

pub held_next : (full full' : Type 0) (end : ℕ) (caller : Caller) (stripes : ℕ) (targets : List (Bytes × Op)) (a b c : List Seated) (os ps qs : List KeyProgress) → (full → full') → KeysAdvance a b os ps → KeysAdvance b c ps qs
    → AreHeldBack full end caller stripes targets a b ps → IsHeldAt full' end caller stripes targets b c qs → AreHeldBack full' (end + 1) caller stripes targets a c qs
held_next full full' end caller stripes targets a b c os ps qs fuller one two held here place less key op p there at is = by (below_or place end less)
  where
    grown : HasGrown (view_of stripes a key) (view_of stripes b key)
    grown = one.grown (stripe_of key stripes)

    by : (place ≡ end) ⊎ (place < end) → full' ⊎ IsHeldBack caller (view_of stripes a key) (view_of stripes c key) key op
    by (inl same) =
        ⊎_elim (λ f. inl f) (λ back. inr (held_since caller (view_of stripes a key) (view_of stripes b key) (view_of stripes c key) key op grown back))
        (here key op p (ap (slice_get targets) (sym same) ∙ there) (ap (slice_get qs) (sym same) ∙ at) is)
    by (inr below) =
        let q = two.held place p at is in
        ⊎_elim (λ f. inl (fuller f)) (λ back. inr (held_later caller (view_of stripes a key) (view_of stripes b key) (view_of stripes c key) key op (two.grown (stripe_of key stripes)) back))
        (held place below key op q.0 there q.1 q.2)

pub held_after : (full full' : Type 0) (end : ℕ) (caller : Caller) (stripes : ℕ) (targets : List (Bytes × Op)) (a b c : List Seated) (ps qs : List KeyProgress) → (full → full') → KeysAdvance b c ps qs
    → AreHeldBack full end caller stripes targets a b ps → AreHeldBack full' end caller stripes targets a c qs
held_after full full' end caller stripes targets a b c ps qs fuller goes held place less key op p there at is =
    let q = goes.held place p at is in
    ⊎_elim (λ f. inl (fuller f)) (λ back. inr (held_later caller (view_of stripes a key) (view_of stripes b key) (view_of stripes c key) key op (goes.grown (stripe_of key stripes)) back))
    (held place less key op q.0 there q.1 q.2)

-- 4. Room.

module _ {X : Type 0} (has : KeyProgress → Bool) (fits : Bytes → Op → X → Type 0) where
  at_most : (ts : List (Bytes × Op)) (ps : List KeyProgress) (xs : List X) → AreIn has fits ts ps xs → length xs ≤ length ts
  at_most [] ps xs are = let n = ap length are in omega arith
  at_most (t ∷ ts) [] xs are = let n = ap length are in omega arith
  at_most (t ∷ ts) (p ∷ ps) [] are = omega arith
  at_most (t ∷ ts) (p ∷ ps) (x ∷ xs) are = by (has p) are (λ rest. at_most ts ps xs rest) (λ rest. at_most ts ps (x ∷ xs) rest)
    where
      by : (b : Bool) → MatchBool b (fits t.0 t.1 x × AreIn has fits ts ps xs) (AreIn has fits ts ps (x ∷ xs)) → (AreIn has fits ts ps xs → length xs ≤ length ts) → (AreIn has fits ts ps (x ∷ xs) → length (x ∷ xs) ≤ length ts)
          → length (x ∷ xs) ≤ length (t ∷ ts)
      by true here f h = let n = f here.1 in omega arith
      by false rest f h = let n = h rest in omega arith

  pub fewer_out : (ts : List (Bytes × Op)) (ps : List KeyProgress) (xs : List X) (i : ℕ) (p : KeyProgress) → length ps ≡ length ts → slice_get ps i ≡ Some p → has p ≡ false → AreIn has fits ts ps xs → length xs < length ts
  fewer_out [] [] xs i p many at isnt are = cc
  fewer_out [] (q ∷ ps) xs i p many at isnt are = absurd (omega arith)
  fewer_out (t ∷ ts) [] xs i p many at isnt are = cc
  fewer_out (t ∷ ts) (q ∷ ps) [] i p many at isnt are = omega arith
  fewer_out (t ∷ ts) (q ∷ ps) (x ∷ xs) zero p many at isnt are =
      let n = at_most ts ps (x ∷ xs) (is_no (has q) _ _ (ap has (same_Some q p at) ∙ isnt) are) in omega arith
  fewer_out (t ∷ ts) (q ∷ ps) (x ∷ xs) (suc i) p many at isnt are = by (has q) are (λ rest. fewer_out ts ps xs i p (omega arith) at isnt rest) (λ rest. fewer_out ts ps (x ∷ xs) i p (omega arith) at isnt rest)
    where
      by : (b : Bool) → MatchBool b (fits t.0 t.1 x × AreIn has fits ts ps xs) (AreIn has fits ts ps (x ∷ xs)) → (AreIn has fits ts ps xs → length xs < length ts) → (AreIn has fits ts ps (x ∷ xs) → length (x ∷ xs) < length ts)
          → length (x ∷ xs) < length (t ∷ ts)
      by true here f h = let n = f here.1 in omega arith
      by false rest f h = let n = h rest in omega arith

-- the keys that have joined loads
abbrev joined_keys : List (Bytes × Op) → List KeyProgress → List Bytes
joined_keys [] ps = []
joined_keys (t ∷ ts) [] = []
joined_keys (t ∷ ts) (Waiting ∷ ps) = joined_keys ts ps
joined_keys (t ∷ ts) (Reserved ∷ ps) = joined_keys ts ps
joined_keys (t ∷ ts) (Joined ∷ ps) = t.0 ∷ joined_keys ts ps
joined_keys (t ∷ ts) (Ended e ∷ ps) = joined_keys ts ps

many_keys : {X : Type 0} (fits : Bytes → Op → X → Type 0) (ts : List (Bytes × Op)) (ps : List KeyProgress) (xs : List X) → AreIn waits_for_joined_load fits ts ps xs → length xs ≤ length (joined_keys ts ps)
many_keys fits [] ps xs are = let n = ap length are in omega arith
many_keys fits (t ∷ ts) [] xs are = let n = ap length are in omega arith
many_keys fits (t ∷ ts) (Waiting ∷ ps) [] are = omega arith
many_keys fits (t ∷ ts) (Reserved ∷ ps) [] are = omega arith
many_keys fits (t ∷ ts) (Joined ∷ ps) [] are = omega arith
many_keys fits (t ∷ ts) (Ended e ∷ ps) [] are = omega arith
many_keys fits (t ∷ ts) (Waiting ∷ ps) (x ∷ xs) are = many_keys fits ts ps (x ∷ xs) are
many_keys fits (t ∷ ts) (Reserved ∷ ps) (x ∷ xs) are = many_keys fits ts ps (x ∷ xs) are
many_keys fits (t ∷ ts) (Joined ∷ ps) (x ∷ xs) are = let n = many_keys fits ts ps xs are.1 in omega (arith, n)
many_keys fits (t ∷ ts) (Ended e ∷ ps) (x ∷ xs) are = many_keys fits ts ps (x ∷ xs) are

apart_joined : (key : Bytes) (ts : List (Bytes × Op)) (ps : List KeyProgress) → AllByRecursion (λ k. pointwise ◌==◌ key k ≡ false) (keys_of ts) → AllByRecursion (λ k. pointwise ◌==◌ key k ≡ false) (joined_keys ts ps)
apart_joined key [] ps apart = tt
apart_joined key (t ∷ ts) [] apart = tt
apart_joined key (t ∷ ts) (Waiting ∷ ps) apart = apart_joined key ts ps apart.1
apart_joined key (t ∷ ts) (Reserved ∷ ps) apart = apart_joined key ts ps apart.1
apart_joined key (t ∷ ts) (Joined ∷ ps) apart = (apart.0, apart_joined key ts ps apart.1)
apart_joined key (t ∷ ts) (Ended e ∷ ps) apart = apart_joined key ts ps apart.1

distinct_joined : (ts : List (Bytes × Op)) (ps : List KeyProgress) → IsDistinct (pointwise ◌==◌) (keys_of ts) → IsDistinct (pointwise ◌==◌) (joined_keys ts ps)
distinct_joined [] ps d = none_twice
distinct_joined (t ∷ ts) [] d = none_twice
distinct_joined (t ∷ ts) (Waiting ∷ ps) d = distinct_joined ts ps (IsDistinct-tail (pointwise ◌==◌) t.0 (keys_of ts) d)
distinct_joined (t ∷ ts) (Reserved ∷ ps) d = distinct_joined ts ps (IsDistinct-tail (pointwise ◌==◌) t.0 (keys_of ts) d)
distinct_joined (t ∷ ts) (Joined ∷ ps) d =
    IsDistinct-cons (pointwise ◌==◌) t.0 (joined_keys ts ps) (apart_joined t.0 ts ps (IsDistinct-head (pointwise ◌==◌) t.0 (keys_of ts) d)) (distinct_joined ts ps (IsDistinct-tail (pointwise ◌==◌) t.0 (keys_of ts) d))
distinct_joined (t ∷ ts) (Ended e ∷ ps) d = distinct_joined ts ps (IsDistinct-tail (pointwise ◌==◌) t.0 (keys_of ts) d)

all_joined : (Q : Bytes → Type 0) (ts : List (Bytes × Op)) (ps : List KeyProgress) → ((place : ℕ) (key : Bytes) (op : Op) → slice_get ts place ≡ Some (key, op) → slice_get ps place ≡ Some Joined → Q key) → AllByRecursion Q (joined_keys ts ps)
all_joined Q [] ps h = tt
all_joined Q (t ∷ ts) [] h = tt
all_joined Q (t ∷ ts) (Waiting ∷ ps) h = all_joined Q ts ps (λ place. h (suc place))
all_joined Q (t ∷ ts) (Reserved ∷ ps) h = all_joined Q ts ps (λ place. h (suc place))
all_joined Q (t ∷ ts) (Joined ∷ ps) h = (h zero t.0 t.1 refl refl, all_joined Q ts ps (λ place. h (suc place)))
all_joined Q (t ∷ ts) (Ended e ∷ ps) h = all_joined Q ts ps (λ place. h (suc place))

-- no room: the key at this place waits, so it is neither reserved nor has it joined a load
pub full_by : (caller : Caller) (config : Config) (before : Bytes → View) (stripes : ℕ) (ts : List (Bytes × Op)) (ps : List KeyProgress) (a b : List Seated) (calls : List Reservation) (joins : List JoinClaim) (most room place asked : ℕ) → IsDistinct (pointwise ◌==◌) (keys_of ts)
    → length ps ≡ length ts → slice_get ps place ≡ Some Waiting → HaveJoined caller stripes ts a b ps
    → AreIn holds_reservation (IsTicketFor caller config) ts ps calls → AreIn waits_for_joined_load (λ key op join. IsJoinFor caller (before key) key op join) ts ps joins → IsRoomFor RESERVATIONS_MAX (length ts) stripes most → IsRoomFor JOINERS_MAX (length ts) stripes room
    → asked ≡ length calls → (most ≤ asked) ⊎ (room ≤ length joins) → IsFull caller stripes ts a b asked
full_by caller config before stripes ts ps a b calls joins most room place asked d many waits have are joined most_is room_is same full = by full most_is room_is
  where
    fewer : length calls < length ts
    fewer = fewer_out holds_reservation (IsTicketFor caller config) ts ps calls place Waiting many waits refl are

    fewer_joined : length joins < length ts
    fewer_joined = fewer_out waits_for_joined_load (λ key op join. IsJoinFor caller (before key) key op join) ts ps joins place Waiting many waits refl joined

    many_joined : JOINERS_MAX * stripes < length joins → AreManyJoined caller stripes ts a b
    many_joined more = record {
      joined = joined_keys ts ps;
      distinct = distinct_joined ts ps d;
      many = (let n = many_keys (λ key op join. IsJoinFor caller (before key) key op join) ts ps joins joined in omega (arith, more, n));
      each = all_joined (λ (key : Bytes). IsAmong ts (key, Get) × HasJoined caller (view_of stripes a key) (view_of stripes b key) key Get) ts ps
          (λ i key op at there. let h = have i key op at there in (among_there ts i (key, Get) (at ∙ ap (λ o. Some (key, o)) h.0), subst (HasJoined caller (view_of stripes a key) (view_of stripes b key) key) h.0 h.1));
    }

    by : (most ≤ asked) ⊎ (room ≤ length joins) → IsRoomFor RESERVATIONS_MAX (length ts) stripes most → IsRoomFor JOINERS_MAX (length ts) stripes room → IsFull caller stripes ts a b asked
    by (inl none) (inl all) rooms = absurd (omega (arith, fewer, none, all, same))
    by (inl none) (inr more) rooms = inl (omega (arith, none, more))
    by (inr none) mosts (inl all) = absurd (omega (arith, fewer_joined, none, all))
    by (inr none) mosts (inr more) = inr (many_joined (omega (arith, none, more)))

-- a round stays full in a later view
all_later : (caller : Caller) (stripes : ℕ) (ts : List (Bytes × Op)) (a b c : List Seated) → ((i : ℕ) → HasGrown (view_at b i) (view_at c i)) → (keys : List Bytes)
    → AllByRecursion (λ (key : Bytes). IsAmong ts (key, Get) × HasJoined caller (view_of stripes a key) (view_of stripes b key) key Get) keys → AllByRecursion (λ (key : Bytes). IsAmong ts (key, Get) × HasJoined caller (view_of stripes a key) (view_of stripes c key) key Get) keys
all_later caller stripes ts a b c grown [] all = tt
all_later caller stripes ts a b c grown (k ∷ keys) all = ((all.0.0, joined_later caller (view_of stripes a k) (view_of stripes b k) (view_of stripes c k) k Get (grown (stripe_of k stripes)) all.0.1), all_later caller stripes ts a b c grown keys all.1)

pub full_later : (caller : Caller) (stripes : ℕ) (ts : List (Bytes × Op)) (a b c : List Seated) (m n : ℕ) → m ≤ n → ((i : ℕ) → HasGrown (view_at b i) (view_at c i)) → IsFull caller stripes ts a b m → IsFull caller stripes ts a c n
full_later caller stripes ts a b c m n more grown (inl many) = inl (omega (arith, many, more))
full_later caller stripes ts a b c m n more grown (inr j) = inr (record { joined = j.joined; distinct = j.distinct; many = j.many; each = all_later caller stripes ts a b c grown j.joined j.each })

-- a first phase, at the key of a place
pub have_more : (caller : Caller) (config : Config) (stripes : ℕ) (ts : List (Bytes × Op)) (a b c : List Seated) (ps : List KeyProgress) (i : ℕ) (k : Bytes) (o : Op) (begin : Begun) (p : KeyProgress) (xs xs' : List TicketClaim) (joins joins' : List JoinClaim)
    → slice_get ts i ≡ Some (k, o) → ((j : ℕ) → HasGrown (view_at a j) (view_at b j)) → ((j : ℕ) → HasGrown (view_at b j) (view_at c j)) → HasBegun caller config (view_of stripes b k) (view_of stripes c k) k o begin → IsKept begin p xs xs' joins joins'
    → HaveJoined caller stripes ts a b ps → HaveJoined caller stripes ts a c (set ps i p)
have_more caller config stripes ts a b c ps i k o begin p xs xs' joins joins' at one two has kept have place key op there is = by (set_get ps i place p Joined is)
  where
    joins_now : (b' : Begun) → HasBegun caller config (view_of stripes b k) (view_of stripes c k) k o b' → IsKept b' p xs xs' joins joins' → Joined ≡ p → (o ≡ Get) × HasJoined caller (view_of stripes b k) (view_of stripes c k) k o
    joins_now (begun.Joined join) has kept is = (has.1.op_is, has.2)
    joins_now (begun.Done done) has kept is = (let bad = is ∙ kept.0 in cc)
    joins_now (begun.Asks ticket) has kept is = (let bad = is ∙ kept.0 in cc)
    joins_now (begun.Refused refusal) has kept is = absurd (not_joined refusal (is_put_off refusal) (is ∙ kept.0))
      where
        not_joined : (refusal : Refusal) (t : Bool) → Joined ≡ (if t then Waiting else Ended (Err refusal)) → ⊥
        not_joined refusal true bad = cc
        not_joined refusal false bad = cc

    by : ((place ≡ i) × (Joined ≡ p)) ⊎ ((place ≡ i → ⊥) × (slice_get ps place ≡ Some Joined)) → (op ≡ Get) × HasJoined caller (view_of stripes a key) (view_of stripes c key) key op
    by (inl here) =
        let same : (k, o) ≡ (key, op) = same_Some (k, o) (key, op) (sym at ∙ ap (slice_get ts) (sym here.0) ∙ there) in
        let now = joins_now begin has kept here.1 in
        subst (λ (u : Bytes × Op). (u.1 ≡ Get) × HasJoined caller (view_of stripes a u.0) (view_of stripes c u.0) u.0 u.1) same (now.0, joined_since caller (view_of stripes a k) (view_of stripes b k) (view_of stripes c k) k o (one (stripe_of k stripes)) now.1)
    by (inr other) = let h = have place key op there other.1 in (h.0, joined_later caller (view_of stripes a key) (view_of stripes b key) (view_of stripes c key) key op (two (stripe_of key stripes)) h.1)
