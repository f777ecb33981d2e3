-- Rows of lendings.
--     all_append, all_map       what is so of each lending, of two rows together; and said less of it
--     all_split, call_in        of the parts of a row; and of the states that decide a call
--     turn_map, lent_map        a turn that says less
--     comes_itself, comes_on    a state comes after itself; one after the other
--     way_by, way_apart         who makes way makes at most one phase of no session, or renews
--     comes_left                what is left without a phase comes after what was found
--     GrowsTo, lent_grows       so does what each lending leaves, but for own steps
--     Keeps                     a lending leaves the session's own steps
--     forgets_keep, way_keeps   so does a phase of no session, and who makes way
--     comes_way                 what is left after that comes after what was found
--     waited_keeps, start_keeps, turn_keeps, rejoins_keep, begun_row, asked_keeps
--                               so does one in which the session waited, each lending of a turn whose phase leaves them, and each one of a
--                               call that was told to retry, before its first phase, or up to where it has somebody to ask
--     row_append, row_split     two rows
--     once, left_once           a row of one lending; a lending in which no phase was made
--     since_found, row_since    what is found after lendings that leave the own steps comes after what a take could have found at first
--     found_since               so does what one of them found
--     begun_since               what a call's first phase found
--     starts_phase, commits_phase, picks_phase
--                               what each phase of a call is: one phase of its session
use Rattle.jc_engine.proofs.Common.{◌≡◌, ◌⊎◌, ⊎_elim, inl, inr, ℕ, zero, suc, List, [], ◌∷◌, ◌++◌, refl, sym, ap, subst, ◌∙◌, append_assoc, append-nil, le_refl, arith, ◌≤◌, Result, true, false, Caller, Refusal, Bytes, Op, Get, Out, Reply, State, IsReached, whole_history, present_generation, IsOfSameStripe, Ends, Forgetting, IsPhaseOf, Begins, PicksUp, Renewal, Renews, StaysOrRenews, all_own_steps, is_renewable, JoinClaim, TicketClaim, Begun, StepDone, Reservation, of_same, whole_goes_on, own_stay, ComesAfter, AllLend, IsLending, IsTurn, LentPhase, PhaseLaws, Row, Turn, HasWaited, IsLeft, MakesWay, HasMissed, StartsBy, AreRejoins, EndsBy, IsBegunRow, IsCallRow, IsRejoin, StartWaits, committing, picking, starting, state_decided, state_found, state_of_step, How, Waits}
use mathlib.Core.List.{IsPrefix}
use Rattle.jc_stripe.specs.Polled.{Polled}
use Rattle.jc_stripe.specs.Outcomes as begun
use Rattle.jc_stripe.specs.Polled as polled

-- 1. What is so of each.

pub all_append : (is : State → State → Type 0) (ps qs : List (State × State)) → AllLend is ps → AllLend is qs → AllLend is (ps ++ qs)
all_append is [] qs one two = two
all_append is (p ∷ ps) qs one two = (one.0, all_append is ps qs one.1 two)

pub all_map : (is so : State → State → Type 0) (ps : List (State × State)) → ((a b : State) → is a b → so a b) → AllLend is ps → AllLend so ps
all_map is so [] leads each = tt
all_map is so (p ∷ ps) leads each = (leads p.0 p.1 each.0, all_map is so ps leads each.1)

abbrev pub turn_map : (from to : Turn) (row : List (State × State)) → ((a b : State) → from.waits a b → to.waits a b) → ((a b : State) → from.makes a b → to.makes a b) → IsTurn from row → IsTurn to row
turn_map from to row waits leads x =
    record { waits = x.waits; found = x.found; left = x.left; row_is = x.row_is; waited = all_map from.waits to.waits x.waits waits x.waited; made = leads x.found x.left x.made }

pub all_split : (is : State → State → Type 0) (ps qs : List (State × State)) → AllLend is (ps ++ qs) → AllLend is ps × AllLend is qs
all_split is [] qs each = (tt, each)
all_split is (p ∷ ps) qs each = let rest = all_split is ps qs each.1 in ((each.0, rest.0), rest.1)

turn_in : (is : State → State → Type 0) (turn : Turn) (row : List (State × State)) → AllLend is row → (x : IsTurn turn row) → is x.found x.left
turn_in is turn row each x = (all_split is x.waits ((x.found, x.left) ∷ []) (subst (AllLend is) x.row_is each)).1.0

step_in : (is : State → Type 0) (b : Begun) (asked : Out) (ended : Result Reply Refusal) (row : List (State × State)) (first : State) → is first → AllLend (λ found left. is found) row → (ends : EndsBy b asked ended row) → is (state_of_step b asked ended row first ends)
step_in is (begun.Done done) asked ended row first at each ends = at
step_in is (begun.Refused refusal) asked ended row first at each ends = at
step_in is (begun.Asks ticket) asked ended row first at each ends = turn_in (λ found left. is found) (committing ticket.reservation asked ends.0) row each ends.2
step_in is (begun.Joined join) asked ended row first at each ends = at

pub call_in : (is : State → Type 0) (caller : Caller) (key : Bytes) (op : Op) (asked : Out) (ended : Result Reply Refusal) (row : List (State × State)) → AllLend (λ found left. is found) row → (x : IsCallRow caller key op asked ended row) → is (state_found x) × is (state_decided x)
call_in is caller key op asked ended row each x =
    let parts = all_split (λ found left. is found) x.start x.last (subst (AllLend (λ found left. is found)) x.row_is each) in
    let first = turn_in (λ found left. is found) (starting caller key op x.begun) x.begins.first (all_split (λ found left. is found) x.begins.rejoins x.begins.first (subst (AllLend (λ found left. is found)) x.begins.row_is parts.0)).1 x.begins.starts in
    (first, step_in is x.begun asked ended x.last (state_found x) first parts.1 x.ends)

-- 2. States that come after one another.

pub comes_itself : (session : ℕ) (a : State) → ComesAfter session a a
comes_itself session a = record {
  same = record { config = refl; stripe = refl; origin = refl; lives = refl; opening = refl };
  front = ([], append-nil (whole_history a));
  next = le_refl a.next;
  ended = ([], append-nil a.ended);
  own = refl;
}

prefix_on : {A : Type 0} (xs ys zs : List A) → IsPrefix xs ys → IsPrefix ys zs → IsPrefix xs zs
prefix_on xs ys zs p q = (p.0 ++ q.0, sym (append_assoc xs p.0 q.0) ∙ ap (λ l. l ++ q.0) p.1 ∙ q.1)

pub comes_on : (session : ℕ) (a b c : State) → ComesAfter session a b → ComesAfter session b c → ComesAfter session a c
comes_on session a b c p q = record {
  same = record { config = q.same.config ∙ p.same.config; stripe = q.same.stripe ∙ p.same.stripe; origin = q.same.origin ∙ p.same.origin; lives = q.same.lives ∙ p.same.lives; opening = q.same.opening ∙ p.same.opening };
  front = prefix_on (whole_history a) (whole_history b) (whole_history c) p.front q.front;
  next = (let one = p.next in let two = q.next in omega arith);
  ended = prefix_on a.ended b.ended c.ended p.ended q.ended;
  own = q.own ∙ p.own;
}

pub comes_left : Renewal → (session : ℕ) (a b : State) → IsReached a → StaysOrRenews a b → ComesAfter session a b
comes_left law session a b reached = ⊎_elim
    (λ same. subst (ComesAfter session a) (sym same) (comes_itself session a))
    (λ renews.
    let u = law a b reached renews in
    record { same = u.same; front = subst (IsPrefix (whole_history a)) (sym u.whole) ([], append-nil (whole_history a)); next = (let e = u.next in omega arith); ended = subst (λ (z : State). IsPrefix a.ended z.ended) (sym renews.after) (present_generation a ∷ [], refl); own = u.own session })

pub way_by : (session : ℕ) (a b : State) → MakesWay a b → IsPhaseOf session a b ⊎ Renews a b
way_by session a b way =
    elim (is_renewable a) as (λ r. is_renewable a ≡ r → IsPhaseOf session a b ⊎ Renews a b) [
      | true ↦ λ is. inr (way.0 is)
      | false ↦ λ is. inl (inr (inr (inr (inr (inr (inr (inr (way.1 is))))))))
    ] refl

pub way_apart : (a b : State) → MakesWay a b → StaysOrRenews a b ⊎ Forgetting a b
way_apart a b way =
    elim (is_renewable a) as (λ r. is_renewable a ≡ r → StaysOrRenews a b ⊎ Forgetting a b) [
      | true ↦ λ is. inl (inr (way.0 is))
      | false ↦ λ is. inr (inr (inr (way.1 is)))
    ] refl

-- the same but for own steps
pub record GrowsTo (a b : State) : Type 0 where
  pub same : IsOfSameStripe a b
  pub front : IsPrefix (whole_history a) (whole_history b)
  pub next : a.next ≤ b.next
  pub ended : IsPrefix a.ended b.ended

pub lent_grows : PhaseLaws → (session : ℕ) (a b : State) → IsReached a → IsPhaseOf session a b ⊎ Renews a b → GrowsTo a b
lent_grows law session a b reached by = ⊎_elim
    (λ one.
    let u = law.one_phase session a b reached one in
    record { same = of_same a b u.grows; front = whole_goes_on a b u.grows; next = u.next; ended = subst (IsPrefix a.ended) (sym u.grows.same.ended) ([], append-nil a.ended) })
    (λ renews.
    let c = comes_left law.renewal session a b reached (inr renews) in
    record { same = c.same; front = c.front; next = c.next; ended = c.ended })
    by

comes_lent : PhaseLaws → (session : ℕ) (a b : State) → IsReached a → IsPhaseOf session a b ⊎ Renews a b → all_own_steps session b ≡ all_own_steps session a → ComesAfter session a b
comes_lent law session a b reached by own = let g = lent_grows law session a b reached by in record { same = g.same; front = g.front; next = g.next; ended = g.ended; own = own }

-- 3. Lendings that leave the session's own steps.

abbrev pub Keeps : ℕ → State → State → Type 0
Keeps session a b = IsReached a → all_own_steps session b ≡ all_own_steps session a

pub forgets_keep : PhaseLaws → (session : ℕ) (a b : State) → Forgetting a b → Keeps session a b
forgets_keep law session a b forgets reached =
    own_stay session a b (law.one_phase session a b reached (inr (inr (inr (inr (inr forgets)))))).grows.same.ended (law.own_steps.forgets a b session reached forgets)

pub way_keeps : PhaseLaws → (session : ℕ) (a b : State) → MakesWay a b → Keeps session a b
way_keeps law session a b way reached =
    elim (is_renewable a) as (λ r. is_renewable a ≡ r → all_own_steps session b ≡ all_own_steps session a) [
      | true ↦ λ is. (law.renewal a b reached (way.0 is)).own session
      | false ↦ λ is. forgets_keep law session a b (inr (inr (way.1 is))) reached
    ] refl

pub comes_way : PhaseLaws → (session : ℕ) (a b : State) → IsReached a → MakesWay a b → ComesAfter session a b
comes_way law session a b reached way = comes_lent law session a b reached (way_by session a b way) (way_keeps law session a b way reached)

pub waited_keeps : PhaseLaws → (session : ℕ) (due puts_off : State → Type 0) (a b : State) → HasWaited due puts_off a b → Keeps session a b
waited_keeps law session due puts_off a b x = way_keeps law session a b x.way

pub start_keeps : PhaseLaws → (session : ℕ) (caller : Caller) (key : Bytes) (op : Op) (a b : State) → StartWaits Waits caller key op a b ⊎ ((op ≡ Get) × HasMissed caller key a b) → Keeps session a b
start_keeps law session caller key op a b = ⊎_elim (λ waited. waited_keeps law session _ _ a b waited) (λ missed reached. ap (λ (s : State). all_own_steps session s) missed.1.same)

pub turn_keeps : (session : ℕ) (turn : Turn) (row : List (State × State)) → ((a b : State) → turn.waits a b → Keeps session a b) → (x : IsTurn turn row) → Keeps session x.found x.left → AllLend (Keeps session) row
turn_keeps session turn row waits x kept =
    subst (AllLend (Keeps session)) (sym x.row_is) (all_append (Keeps session) x.waits ((x.found, x.left) ∷ []) (all_map turn.waits (Keeps session) x.waits waits x.waited) (kept, tt))

module _ (law : PhaseLaws) (caller : Caller) (key : Bytes) (op : Op) where
  pub joined_keeps : (join : JoinClaim) (a b : State) → Begins a caller key op (begun.Joined join) b → Keeps caller.session a b
  joined_keeps join a b begins reached = own_stay caller.session a b (ap (λ (s : State). s.ended) begins.3) (law.own_steps.joins a b caller key op join begins)

  again_keeps : (join : JoinClaim) (a b : State) → join.caller ≡ caller → PicksUp a join polled.Again b → Keeps caller.session a b
  again_keeps join a b mine picks reached =
      subst (λ (w : Caller). all_own_steps w.session b ≡ all_own_steps w.session a) mine (own_stay join.caller.session a b (ap (λ (s : State). s.ended) picks.2) (law.own_steps.again a b join reached picks))

  rejoin_keeps : (row : List (State × State)) → IsRejoin caller key op row → AllLend (Keeps caller.session) row
  rejoin_keeps row x =
      let begins = x.joined.made.first.begins in
      subst (AllLend (Keeps caller.session)) (sym x.row_is) (all_append (Keeps caller.session) x.joins x.retries
      (turn_keeps caller.session (starting caller key op (begun.Joined x.join)) x.joins (start_keeps law caller.session caller key op) x.joined (joined_keeps x.join x.joined.found x.joined.left begins))
      (turn_keeps caller.session (picking x.join polled.Again) x.retries (waited_keeps law caller.session _ _) x.retried (again_keeps x.join x.retried.found x.retried.left (ap (λ (j : JoinClaim). j.caller) begins.2) x.retried.made)))

  pub rejoins_keep : (n : ℕ) (row : List (State × State)) → AreRejoins caller key op n row → AllLend (Keeps caller.session) row
  rejoins_keep zero row x = subst (AllLend (Keeps caller.session)) (sym x) tt
  rejoins_keep (suc n) row x = subst (AllLend (Keeps caller.session)) (sym x.2) (all_append (Keeps caller.session) x.0 x.1 (rejoins_keep n x.0 x.3) (rejoin_keeps x.1 x.4))

  -- the lendings before the first phase that is the last one
  pub begun_row : (b : Begun) (row : List (State × State)) → (x : IsBegunRow caller key op b row) → (row ≡ (x.rejoins ++ x.starts.waits) ++ (x.starts.found, x.starts.left) ∷ []) × AllLend (Keeps caller.session) (x.rejoins ++ x.starts.waits)
  begun_row b row x =
      let s = x.starts in (
        x.row_is ∙ ap (λ (ps : List (State × State)). x.rejoins ++ ps) s.row_is ∙ sym (append_assoc x.rejoins s.waits ((s.found, s.left) ∷ [])),
        all_append (Keeps caller.session) x.rejoins s.waits (rejoins_keep x.rounds x.rejoins x.rejoined) (all_map (starting caller key op b).waits (Keeps caller.session) s.waits (start_keeps law caller.session caller key op) s.waited),
      )

  pub asked_keeps : (ticket : TicketClaim) (row : List (State × State)) → IsBegunRow caller key op (begun.Asks ticket) row → AllLend (Keeps caller.session) row
  asked_keeps ticket row x =
      let first = x.starts in
      let begins = first.made.first.begins in
      let before = begun_row (begun.Asks ticket) row x in
      subst (AllLend (Keeps caller.session)) (sym before.0)
      (all_append (Keeps caller.session) (x.rejoins ++ first.waits) ((first.found, first.left) ∷ []) before.1
      (λ reached. own_stay caller.session first.found first.left (ap (λ (s : State). s.ended) begins.5) (law.own_steps.reserves first.found first.left caller key op ticket begins), tt))

-- 4. Rows.

module _ {G T : Type 0} (takes gives : G → T → State → G → T → Type 0) (finds : G → T → State → Type 0) (session : ℕ) where
  abbrev Lendings : G → T → List (State × State) → G → T → Type 0
  Lendings g t row h u = Row takes gives finds session g t row h u

  pub row_append : (g : G) (t : T) (ps : List (State × State)) (h : G) (u : T) (qs : List (State × State)) (k : G) (v : T) → Lendings g t ps h u → Lendings h u qs k v → Lendings g t (ps ++ qs) k v
  row_append g t [] h u qs k v same two = subst (λ (z : G × T). Lendings z.0 z.1 qs k v) (λ i. (same.0 i, same.1 i)) two
  row_append g t (p ∷ ps) h u qs k v row two = (row.0, row.1, row.2, row_append row.0 row.1 ps h u qs k v row.3 two)

  pub row_split : (g : G) (t : T) (ps qs : List (State × State)) (h : G) (u : T) → Lendings g t (ps ++ qs) h u → (k : G) × (v : T) × Lendings g t ps k v × Lendings k v qs h u
  row_split g t [] qs h u row = (g, t, (refl, refl), row)
  row_split g t (p ∷ ps) qs h u row = let rest = row_split row.0 row.1 ps qs h u row.3 in (rest.0, rest.1, (row.0, row.1, row.2, rest.2), rest.3)

  abbrev pub once : (g : G) (t : T) (a b : State) (h : G) (u : T) → IsLending takes gives finds session g t a b h u → Lendings g t ((a, b) ∷ []) h u
  once g t a b h u one = (h, u, one, (refl, refl))

  pub left_once : (is_free : G → T → Type 0) (speaks_for : T → ℕ → Type 0) (g : G) (t : T) (a : State) (m : G) (w : T) (h : G) (u : T) → takes g t a m w → finds g t a → IsReached a → speaks_for w session
      → (x : IsLeft gives finds is_free speaks_for m w a h u) → IsLending takes gives finds session g t a x.left h u
  left_once is_free speaks_for g t a m w h u took found reached speaks x = record {
    lends = record { gate = m; token = w; took = took; reached = reached; gave = x.gave };
    finds_it = found;
    by = way_by session a x.left x.way;
    next = λ b later. x.next session b speaks later;
  }

  -- `a` comes after a state in which a take could have found the stripe
  abbrev pub Since : G → T → State → Type 0
  Since g t a = (first : State) × finds g t first × ComesAfter session first a

  pub since_found : (g : G) (t : T) (a : State) → finds g t a → Since g t a
  since_found g t a found = (a, found, comes_itself session a)

  pub row_since : PhaseLaws → (g : G) (t : T) (ps : List (State × State)) (h : G) (u : T) → Lendings g t ps h u → AllLend (Keeps session) ps → (a : State) → Since h u a → Since g t a
  row_since law g t [] h u row kept a since = subst (λ (z : G × T). Since z.0 z.1 a) (λ i. (row.0 i, row.1 i)) since
  row_since law g t (p ∷ ps) h u row kept a since =
      let later = row_since law row.0 row.1 ps h u row.3 kept.1 a since in
      let one = row.2 in
      (p.0, one.finds_it, comes_on session p.0 p.1 a (comes_lent law session p.0 p.1 one.lends.reached one.by (kept.0 one.lends.reached)) (comes_on session p.1 later.0 a (one.next later.0 later.1) later.2))

  -- what the lending after the first ones found
  pub found_since : PhaseLaws → (g : G) (t : T) (ps : List (State × State)) (a b : State) (qs : List (State × State)) (h : G) (u : T) → Lendings g t (ps ++ (a, b) ∷ qs) h u → AllLend (Keeps session) ps → Since g t a
  found_since law g t ps a b qs h u row kept =
      let parts = row_split g t ps ((a, b) ∷ qs) h u row in
      let last = parts.3 in
      row_since law g t ps parts.0 parts.1 parts.2 kept a (since_found parts.0 parts.1 a last.2.finds_it)

  abbrev pub lent_map : (g : G) (t : T) (from to : Turn) (h : G) (u : T) → ((a b : State) → from.waits a b → to.waits a b) → ((a b : State) → from.makes a b → to.makes a b)
      → LentPhase takes gives finds session g t from h u → LentPhase takes gives finds session g t to h u
  lent_map g t from to h u waits leads x = record { row = x.row; lent = x.lent; did = turn_map from to x.row waits leads x.did; one = x.one }

module _ {G T : Type 0} (takes gives : G → T → State → G → T → Type 0) (finds : G → T → State → Type 0) (law : PhaseLaws) (caller : Caller) (key : Bytes) (op : Op) where
  pub begun_since : (b : Begun) (g : G) (t : T) (row : List (State × State)) (h : G) (u : T) → Row takes gives finds caller.session g t row h u → (x : IsBegunRow caller key op b row) → Since takes gives finds caller.session g t x.starts.found
  begun_since b g t row h u lent x =
      let before = begun_row law caller key op b row x in
      found_since takes gives finds caller.session law g t (x.rejoins ++ x.starts.waits) x.starts.found x.starts.left [] h u (subst (λ (ps : List (State × State)). Row takes gives finds caller.session g t ps h u) before.0 lent) before.1

-- 5. What each phase is.

pub starts_phase : (how : How) (caller : Caller) (key : Bytes) (op : Op) (b : Begun) (old new : State) → StartsBy how caller key op b old new → IsPhaseOf caller.session old new
starts_phase how caller key op b old new x = inr (inl record { caller = caller; key = key; op = op; begun = b; own = refl; may = x.first.may; begins = x.first.begins })

pub commits_phase : (r : Reservation) (out : Out) (done : StepDone) (old new : State) → Ends old r out done new → IsPhaseOf r.caller.session old new
commits_phase r out done old new x = inr (inr (inl record { reservation = r; out = out; done = done; own = refl; ends = x }))

pub picks_phase : (join : JoinClaim) (p : Polled) (old new : State) → PicksUp old join p new → IsPhaseOf join.caller.session old new
picks_phase join p old new x = inr (inr (inr (inr (inl record { join = join; picked = p; own = refl; picks_up = x }))))
