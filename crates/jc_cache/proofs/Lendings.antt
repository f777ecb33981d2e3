-- What lendings of a lock leave of a session's seat.
--     lock_takes, lock_gives, lock_finds, lock_misses    the relations of a lock's gate, over any type of the reference
--     lock_speaks_for             whose its seat is
--     seat_itself, seat_on        a seat is the same as itself; and as one that is the same as the same one
--     seen_itself, seen_on        a view has seen itself; what was seen and then seen
--     RowLeft                     what a row of lendings leaves of a seat: it has these lendings more, each of which found the stripe between what
--                                 the seat had seen and what it has seen; the own steps stay if each left them
--     row_left, row_seen          so it is; and then the seat has seen them
--     Lending                     a lending of a session's seat: the state that was found fits the view before, and at most one phase of the
--                                 session led to the state that the view has seen and notes since
--     last_lent, turn_lent        the last one of a row, behind lendings that leave the own steps; and of a turn
--     all_seen                    the front is the whole history of the state that the view notes
--     front_grows                 the front continues the whole history of the state that was found
--     kept, added                 a phase that leaves the own steps, and one that adds its step
--     HasGrown, gained            one that gains an own step, whose place in the history is known alone
use Rattle.jc_cache.proofs.Common.{◌≡◌, ◌≤◌, ◌⊎◌, inl, ℕ, false, Option, Some, List, [], ◌∷◌, ◌++◌, length, slice_get, refl, sym, ap, subst, ◌∙◌, append_assoc, append-nil, arith, le_refl, length-append, Event, State, past_events, whole_history, whole_place, IsOfSameStripe, Renews, all_own_steps, IsReached, IsPhaseOf, IsUniform, GainsOwn, own_steps, AddsOwn, HasOneMore, whole_goes_on, own_stay, adds_whole, gains_whole, View, Finds, after_take, after_give, after_miss, own_steps_of, prefix-refl, prefix-trans, same_itself, same_on, AllLend, IsTurn, PhaseLaws, Row, Turn, Keeps, all_append, all_map, all_split, lent_grows, row_split, IsBetween, IsSameSeat, HasSeen, HasAllSeen, HasMade, HasLent}
use mathlib.Core.List.{IsPrefix}
use Rattle.jc_gate.specs.Lending.{Lends}

-- 1. The gate of a lock.

abbrev pub lock_takes : {G L : Type 0} → G → L × View → State → G → L × View → Type 0
lock_takes g t a h u = (u ≡ (t.0, after_take t.1 a)) × Finds t.1 a

abbrev pub lock_gives : {G L : Type 0} → G → L × View → State → G → L × View → Type 0
lock_gives g t b h u = u ≡ (t.0, after_give t.1 b)

abbrev pub lock_finds : {G L : Type 0} → G → L × View → State → Type 0
lock_finds g t a = Finds t.1 a

abbrev pub lock_misses : {G L : Type 0} → G → L × View → G → L × View → Type 0
lock_misses g t h u = u ≡ (t.0, after_miss t.1)

abbrev pub lock_speaks_for : {L : Type 0} → L × View → ℕ → Type 0
lock_speaks_for t session = t.1.session ≡ Some session

-- 2. Rows of lendings.

pub seat_itself : (v : View) → v.holds ≡ false → IsSameSeat v v
seat_itself v free = record { session = refl; next_session = refl; spent = refl; free = free; same = same_itself v.noted; next = le_refl v.noted.next; ended = prefix-refl v.noted.ended }

pub seat_on : (u v w : View) → IsSameSeat u v → IsSameSeat v w → IsSameSeat u w
seat_on u v w p q = record {
  session = q.session ∙ p.session;
  next_session = q.next_session ∙ p.next_session;
  spent = q.spent ∙ p.spent;
  free = q.free;
  same = same_on u.noted v.noted w.noted p.same q.same;
  next = (let one = p.next in let two = q.next in omega arith);
  ended = prefix-trans u.noted.ended v.noted.ended w.noted.ended p.ended q.ended;
}

pub seen_itself : (v : View) → v.holds ≡ false → HasSeen v v
seen_itself v free = record { seat = seat_itself v free; front = prefix-refl v.front; own = refl }

pub seen_on : (u v w : View) → HasSeen u v → HasSeen v w → HasSeen u w
seen_on u v w p q = record { seat = seat_on u v w p.seat q.seat; front = prefix-trans u.front v.front w.front p.front q.front; own = q.own ∙ p.own }

own_at : (o : Option ℕ) (session : ℕ) (a : State) → o ≡ Some session → own_steps_of o a ≡ all_own_steps session a
own_at o session a is = ap (λ (z : Option ℕ). own_steps_of z a) is

pub record RowLeft (session : ℕ) (before : View) (row : List (State × State)) (after : View) : Type 0 where
  pub lent : HasLent before row after
  pub seat : IsSameSeat before after
  pub front : IsPrefix before.front after.front
  pub between : AllLend (λ found left. IsBetween before found after) row
  pub own : AllLend (Keeps session) row → after.own ≡ before.own

pub row_seen : (session : ℕ) (v : View) (row : List (State × State)) (w : View) → RowLeft session v row w → AllLend (Keeps session) row → HasSeen v w
row_seen session v row w x kept = record { seat = x.seat; front = x.front; own = x.own kept }

none_left : (session : ℕ) (v : View) → v.holds ≡ false → RowLeft session v [] v
none_left session v free = record { lent = record { lendings = sym (append-nil v.lendings); misses = refl }; seat = seat_itself v free; front = prefix-refl v.front; between = tt; own = λ none. refl }

one_left : PhaseLaws → (session : ℕ) (v : View) (a b : State) → v.session ≡ Some session → Finds v a → IsPhaseOf session a b ⊎ Renews a b → RowLeft session v ((a, b) ∷ []) (after_give (after_take v a) b)
one_left law session v a b mine finds by =
    let g = lent_grows law session a b finds.reached by in
    record {
      lent = record { lendings = refl; misses = refl };
      seat = record { session = refl; next_session = refl; spent = refl; free = refl; same = same_on v.noted a b finds.same g.same; next = (let one = finds.next in let two = g.next in omega arith); ended = prefix-trans v.noted.ended a.ended b.ended finds.ended g.ended };
      front = prefix-trans v.front (whole_history a) (whole_history b) finds.front g.front;
      between = (record { reached = finds.reached; same = finds.same; front = finds.front; later = g.front }, tt);
      own = λ kept. own_at v.session session b mine ∙ kept.0 finds.reached ∙ finds.own session mine;
    }

both_left : (session : ℕ) (u v w : View) (ps qs : List (State × State)) → RowLeft session u ps v → RowLeft session v qs w → RowLeft session u (ps ++ qs) w
both_left session u v w ps qs p q = record {
  lent = record { lendings = q.lent.lendings ∙ ap (λ (ls : List (State × State)). ls ++ qs) p.lent.lendings ∙ append_assoc u.lendings ps qs; misses = q.lent.misses ∙ p.lent.misses };
  seat = seat_on u v w p.seat q.seat;
  front = prefix-trans u.front v.front w.front p.front q.front;
  between = all_append (λ a b. IsBetween u a w) ps qs
      (all_map (λ a b. IsBetween u a v) (λ a b. IsBetween u a w) ps (λ a b x. record { reached = x.reached; same = x.same; front = x.front; later = prefix-trans (whole_history a) v.front w.front x.later q.front }) p.between)
      (all_map (λ a b. IsBetween v a w) (λ a b. IsBetween u a w) qs (λ a b x. record { reached = x.reached; same = same_on u.noted v.noted a p.seat.same x.same; front = prefix-trans u.front v.front (whole_history a) p.front x.front; later = x.later }) q.between);
  own = λ kept. let parts = all_split (Keeps session) ps qs kept in q.own parts.1 ∙ p.own parts.0;
}

module _ {G L : Type 0} where
  abbrev pub LockRow : ℕ → G → L × View → List (State × State) → G → L × View → Type 0
  LockRow session g t row h u = Row lock_takes lock_gives lock_finds session g t row h u

  lend_seat : (g : G) (t : L × View) (a b : State) (h : G) (u : L × View) → Lends lock_takes lock_gives g t a b h u → u ≡ (t.0, after_give (after_take t.1 a) b)
  lend_seat g t a b h u one = one.gave ∙ ap (λ (z : L × View). (z.0, after_give z.1 b)) one.took.0

  pub row_left : PhaseLaws → (session : ℕ) (g : G) (t : L × View) (row : List (State × State)) (h : G) (u : L × View) → t.1.session ≡ Some session → t.1.holds ≡ false → LockRow session g t row h u
      → (u.0 ≡ t.0) × RowLeft session t.1 row u.1
  row_left law session g t [] h u mine free lent = (ap (λ (z : L × View). z.0) lent.1, subst (λ (z : L × View). RowLeft session t.1 [] z.1) (sym lent.1) (none_left session t.1 free))
  row_left law session g t (p ∷ ps) h u mine free lent =
      let is = lend_seat g t p.0 p.1 lent.0 lent.1 lent.2.lends in
      let first : RowLeft session t.1 (p ∷ []) lent.1.1 = subst (RowLeft session t.1 (p ∷ [])) (sym (ap (λ (z : L × View). z.1) is)) (one_left law session t.1 p.0 p.1 mine lent.2.finds_it lent.2.by) in
      let rest = row_left law session lent.0 lent.1 ps h u (first.seat.session ∙ mine) first.seat.free lent.3 in
      (rest.0 ∙ ap (λ (z : L × View). z.0) is, both_left session t.1 lent.1.1 u.1 (p ∷ []) ps first rest.1)

-- 3. The last lending of a row.

pub record Lending (session : ℕ) (before : View) (found left : State) (after : View) : Type 0 where
  pub reached : IsReached found
  pub same : IsOfSameStripe before.noted found
  pub front : IsPrefix before.front (whole_history found)
  pub own : all_own_steps session found ≡ before.own
  pub one : IsPhaseOf session found left
  pub uniform : IsUniform session found left
  pub seat : IsSameSeat before after
  pub noted : after.noted ≡ left
  pub front_is : after.front ≡ whole_history left
  pub own_is : after.own ≡ all_own_steps session left

lent_by : PhaseLaws → (session : ℕ) (v : View) (a b : State) → v.session ≡ Some session → Finds v a → IsPhaseOf session a b → Lending session v a b (after_give (after_take v a) b)
lent_by law session v a b mine finds one = record {
  reached = finds.reached;
  same = finds.same;
  front = finds.front;
  own = finds.own session mine;
  one = one;
  uniform = law.one_phase session a b finds.reached one;
  seat = (one_left law session v a b mine finds (inl one)).seat;
  noted = refl;
  front_is = refl;
  own_is = own_at v.session session b mine;
}

pub earlier : (session : ℕ) (u v : View) (a b : State) (w : View) → HasSeen u v → Lending session v a b w → Lending session u a b w
earlier session u v a b w p x = record {
  reached = x.reached;
  same = same_on u.noted v.noted a p.seat.same x.same;
  front = prefix-trans u.front v.front (whole_history a) p.front x.front;
  own = x.own ∙ p.own;
  one = x.one;
  uniform = x.uniform;
  seat = seat_on u v w p.seat x.seat;
  noted = x.noted;
  front_is = x.front_is;
  own_is = x.own_is;
}

module _ {G L : Type 0} where
  pub last_lent : PhaseLaws → (session : ℕ) (g : G) (t : L × View) (ps : List (State × State)) (a b : State) (h : G) (u : L × View) → t.1.session ≡ Some session → t.1.holds ≡ false → LockRow session g t (ps ++ (a, b) ∷ []) h u
      → AllLend (Keeps session) ps → IsPhaseOf session a b → (u.0 ≡ t.0) × Lending session t.1 a b u.1
  last_lent law session g t ps a b h u mine free lent kept one =
      let parts = row_split lock_takes lock_gives lock_finds session g t ps ((a, b) ∷ []) h u lent in
      let before = row_left law session g t ps parts.0 parts.1 mine free parts.2 in
      let seen = row_seen session t.1 ps parts.1.1 before.1 kept in
      let last = parts.3 in
      let is : u ≡ (parts.1.0, after_give (after_take parts.1.1 a) b) = last.3.1 ∙ lend_seat parts.0 parts.1 a b last.0 last.1 last.2.lends in (
        ap (λ (z : L × View). z.0) is ∙ before.0,
        subst (λ (z : L × View). Lending session t.1 a b z.1) (sym is) (earlier session t.1 parts.1.1 a b _ seen (lent_by law session parts.1.1 a b (seen.seat.session ∙ mine) last.2.finds_it one)),
      )

  pub turn_lent : PhaseLaws → (session : ℕ) (turn : Turn) (g : G) (t : L × View) (row : List (State × State)) (h : G) (u : L × View) → t.1.session ≡ Some session → t.1.holds ≡ false → ((a b : State) → turn.waits a b → Keeps session a b)
      → LockRow session g t row h u → (x : IsTurn turn row) → IsPhaseOf session x.found x.left → (u.0 ≡ t.0) × Lending session t.1 x.found x.left u.1
  turn_lent law session turn g t row h u mine free waits lent x one =
      last_lent law session g t x.waits x.found x.left h u mine free (subst (λ (ps : List (State × State)). LockRow session g t ps h u) x.row_is lent) (all_map turn.waits (Keeps session) x.waits waits x.waited) one

pub longer_on : (xs ys : List Event) → IsPrefix xs ys → length xs ≤ length ys
longer_on xs ys p = let n = length-append xs p.0 in let e = ap length p.1 in omega arith

-- 4. A phase, by what it leaves of the own steps.

pub front_grows : (session : ℕ) (v : View) (a b : State) (w : View) → Lending session v a b w → IsPrefix (whole_history a) w.front
front_grows session v a b w x = subst (IsPrefix (whole_history a)) (sym x.front_is) (whole_goes_on a b x.uniform.grows)

pub front_on : (session : ℕ) (v : View) (a b : State) (w : View) → Lending session v a b w → IsPrefix v.front w.front
front_on session v a b w x = prefix-trans v.front (whole_history a) w.front x.front (front_grows session v a b w x)

pub kept : (session : ℕ) (v : View) (a b : State) (w : View) → Lending session v a b w → own_steps session b ≡ own_steps session a → HasSeen v w
kept session v a b w x same = record { seat = x.seat; front = front_on session v a b w x; own = x.own_is ∙ own_stay session a b x.uniform.grows.same.ended same ∙ x.own }

pub all_seen : (session : ℕ) (v : View) (a b : State) (w : View) → Lending session v a b w → HasAllSeen w
all_seen session v a b w x = record { reached = subst IsReached (sym x.noted) x.uniform.reached; front = x.front_is ∙ ap whole_history (sym x.noted) }

more_by : (event : Event) (xs ys us vs : List Event) → xs ≡ us → ys ≡ vs → HasOneMore event xs ys → HasOneMore event us vs
more_by event xs ys us vs one two more = record { before = more.before; after = more.after; was = sym one ∙ more.was; is = sym two ∙ more.is }

-- a place in the history that it left is in the present generation
in_present : (left : State) (w : View) (place : ℕ) → w.noted ≡ left → length (past_events w.noted.ended) ≤ whole_place left place
in_present left w place is = let same : length (past_events w.noted.ended) ≡ length (past_events left.ended) = ap (λ (s : State). length (past_events s.ended)) is in omega arith

pub added : (session : ℕ) (v : View) (a b : State) (w : View) (event : Event) (place : ℕ) → Lending session v a b w → AddsOwn session a b event place → HasMade v w event (whole_place b place)
added session v a b w event place x adds =
    let whole = adds_whole session a b event place x.uniform.grows.same.ended adds in
    record {
      seat = x.seat;
      all = all_seen session v a b w x;
      front = front_on session v a b w x;
      behind = (let one = longer_on v.front (whole_history a) x.front in let two = whole.0 in omega arith);
      present = in_present b w place x.noted;
      there = ap (λ (xs : List Event). slice_get xs (whole_place b place)) x.front_is ∙ whole.1;
      own = more_by event (all_own_steps session a) (all_own_steps session b) v.own w.own x.own (sym x.own_is) whole.2;
    }

-- as HasMade, but that the step is behind the former front
pub record HasGrown (before after : View) (event : Event) (place : ℕ) : Type 0 where
  pub seat : IsSameSeat before after
  pub all : HasAllSeen after
  pub front : IsPrefix before.front after.front
  pub present : length (past_events after.noted.ended) ≤ place
  pub there : slice_get after.front place ≡ Some event
  pub own : HasOneMore event before.own after.own

pub gained : (session : ℕ) (v : View) (a b : State) (w : View) (event : Event) (place : ℕ) → Lending session v a b w → GainsOwn session a b event place → HasGrown v w event (whole_place b place)
gained session v a b w event place x gains =
    let whole = gains_whole session a b event place x.uniform.grows.same.ended gains in
    record {
      seat = x.seat;
      all = all_seen session v a b w x;
      front = front_on session v a b w x;
      present = in_present b w place x.noted;
      there = ap (λ (xs : List Event). slice_get xs (whole_place b place)) x.front_is ∙ whole.0;
      own = more_by event (all_own_steps session a) (all_own_steps session b) v.own w.own x.own (sym x.own_is) whole.1;
    }

pub grown_behind : (v w : View) (event : Event) (place : ℕ) → length v.front ≤ place → HasGrown v w event place → HasMade v w event place
grown_behind v w event place le x = record { seat = x.seat; all = x.all; front = x.front; behind = le; present = x.present; there = x.there; own = x.own }
