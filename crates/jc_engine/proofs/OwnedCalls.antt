-- A whole call on a stripe that nobody else has.
--     there_is      the stripe that the owner has
--     swept_by      what holds after a sweep
--     alone_on      nobody else is there after a sweep, if nobody was before
--     turn_at       one turn leads from what the owner had to what it has
--     turn_swept    the same after sweeps
--     open_at       a call that isn't refused finds its stripe not shut, and its key not marked
--     unmarked_ends the end of such a call is its commit
--     no_rejoins    nobody is told to retry on an idle stripe
--     ends_owned    how the call ends there
--     owned_call    the whole call
--     owned_as      the same of an equal agent and an equal owner after it
use Rattle.jc_engine.proofs.Common.{◌≡◌, ◌⊎◌, ⊎_elim, ◌+◌, ◌∙◌, ℕ, zero, suc, List, [], ◌∷◌, Bool, true, false, cond, Option, Some, None, IsSome, Result, refl, sym, ap, subst, Caller, Refusal, Bytes, entry_at, nothing_said, Op, Get, Out, Reply, LoadRelation, WriteRelation, Begun, StepDone, First, Nobody, State, IsIdle, TicketClaim, JoinClaim, first_asked, load_joined, reserves, Steps, Begins, Commits, IsReached, WholeCall, JoinsOnlyLoads, Ends, Sweeps, after_sweep, end_with, first_refusal, has_place, inl, inr, is_barred, is_full, is_marked, is_renewable, not, sweep, told_drop, true≢false, without_entry, ◌&&◌, ◌||◌, if◌then◌else◌, length, Reservation, boxed, Agent, AllLend, IsTurn, Row, Turn, HasWaited, AreRejoins, EndsBy, IsCallRow, StartWaits, committing, starting, state_found, HasMissed, Starts, Waits, AsksLoader, AsksWriter, KeepsTypes, change_wanted, own_after, IsCall}
use Rattle.std.proofs.lemmas.Option.{same_Some}
use Rattle.jc_stripe.specs.Outcomes as begun
use Rattle.std.proofs.Common.{nat_lt}
use Rattle.jc_types.specs.declared.refusal.Refusal.TheVariants.{Busy}
use Rattle.jc_stripe.specs.OrderOfUse.{least_used}
use Rattle.jc_stripe.specs.Refusals.{full_refusal, has_room, needs_free_key, places_needed}
use Rattle.jc_stripe.specs.Renewal.{has_parked}
use Rattle.jc_stripe.specs.State.{is_reserved}
use Rattle.jc_gate.specs.Owned.{OwnerState}
use Rattle.jc_engine.specs.Owned.{next_after, AreSweeps, OneStep, EndsCall, IsOwnedCall}
use Rattle.jc_engine.proofs.Rows.{all_map, row_split}

-- 1. One phase.

abbrev pub owner_takes : {T : Type 0} → OwnerState → T → State → OwnerState → T → Type 0
owner_takes g t a h u = (g.here ≡ Some a) × (h ≡ record { here = None; taken = a })

abbrev pub owner_gives : {T : Type 0} → OwnerState → T → State → OwnerState → T → Type 0
owner_gives g t b h u = h.here ≡ Some b

abbrev pub owner_finds : {T : Type 0} → OwnerState → T → State → Type 0
owner_finds g t a = g.here ≡ Some a

and_false : (x : Bool) → (x && false) ≡ false
and_false true = refl
and_false false = refl

-- a generation of a stripe that doesn't live on never ends
not_renewable : (a : State) → a.lives ≡ false → is_renewable a ≡ false
not_renewable a alone = (λ i. is_full a && (alone i && nat_lt 0 (length a.history) && not (has_parked a))) ∙ and_false (is_full a)

unshut_stays : (a : State) → a.shut ≡ false → after_sweep a ≡ a
unshut_stays a unshut = λ i. if unshut i then sweep a (least_used a) else a

-- what holds after a sweep, by what it may do
swept_by : (P : State → Type 0) (a : State) → P a → P (record a { shut = false }) → ((key : Bytes) → P (without_entry a key)) → P (after_sweep a)
swept_by P a stays opens drops = elim a.shut as (λ shut. P (if shut then sweep a (least_used a) else a)) [ true ↦ by_least (least_used a) | false ↦ stays ]
  where
    by_least : (least : Option Bytes) → P (sweep a least)
    by_least None = opens
    by_least (Some key) = elim (has_place a) as (λ b. P (if b then without_entry a key else a)) [ true ↦ drops key | false ↦ stays ]

-- nobody else is there, and its history doesn't end
abbrev pub IsAlone : State → Type 0
IsAlone a = IsIdle a × (a.lives ≡ false)

alone_on : (a b : State) → Sweeps a b → IsAlone a → IsAlone b
alone_on a b swept alone =
    let idle = alone.0 in
    subst IsAlone (sym swept)
    (swept_by IsAlone a alone (record { reservations = idle.reservations; joiners = idle.joiners }, alone.1) (λ key. (record { reservations = idle.reservations; joiners = idle.joiners }, alone.1)))

-- such a stripe stays, or is swept if it is shut
abbrev SweptAlone : State → State → Type 0
SweptAlone a b = a.lives ≡ false → (b ≡ a) ⊎ Sweeps a b

abbrev StaysAlone : State → State → Type 0
StaysAlone a b = a.lives ≡ false → a.shut ≡ false → b ≡ a

waited_sweeps : (due puts_off : State → Type 0) (a b : State) → HasWaited due puts_off a b → SweptAlone a b
waited_sweeps due puts_off a b x alone = inr (x.way.1 (not_renewable a alone))

waited_stays : (due puts_off : State → Type 0) (a b : State) → HasWaited due puts_off a b → StaysAlone a b
waited_stays due puts_off a b x alone unshut = x.way.1 (not_renewable a alone) ∙ unshut_stays a unshut

start_sweeps : (caller : Caller) (key : Bytes) (op : Op) (a b : State) → StartWaits Waits caller key op a b ⊎ ((op ≡ Get) × HasMissed caller key a b) → SweptAlone a b
start_sweeps caller key op a b = ⊎_elim (λ waited. waited_sweeps _ _ a b waited) (λ missed alone. inl missed.1.same)

module _ {T : Type 0} (session : ℕ) where
  abbrev OwnerRow : OwnerState → T → List (State × State) → OwnerState → T → Type 0
  OwnerRow g t row h u = Row owner_takes owner_gives owner_finds session g t row h u

  idle_stays : (g : OwnerState) (t : T) (ps : List (State × State)) (h : OwnerState) (u : T) (a : State) → g.here ≡ Some a → a.lives ≡ false → a.shut ≡ false → OwnerRow g t ps h u → AllLend StaysAlone ps → h.here ≡ Some a
  idle_stays g t [] h u a is alone unshut row all = ap (λ (o : OwnerState). o.here) row.0 ∙ is
  idle_stays g t (p ∷ ps) h u a is alone unshut row all =
      let found : p.0 ≡ a = same_Some p.0 a (sym row.2.finds_it ∙ is) in
      let left : p.1 ≡ p.0 = all.0 (ap (λ (s : State). s.lives) found ∙ alone) (ap (λ (s : State). s.shut) found ∙ unshut) in
      idle_stays row.0 row.1 ps h u a (row.2.lends.gave ∙ ap (λ (z : State). Some z) (left ∙ found)) alone unshut row.3 all.1

  -- a turn on a stripe that isn't shut
  turn_at : (turn : Turn) → ((a b : State) → turn.waits a b → StaysAlone a b) → (g : OwnerState) (t : T) (row : List (State × State)) (h : OwnerState) (u : T) (a : State) → g.here ≡ Some a → a.lives ≡ false → a.shut ≡ false
      → OwnerRow g t row h u → (x : IsTurn turn row) → (x.found ≡ a) × (h.here ≡ Some x.left)
  turn_at turn waits g t row h u a is alone unshut lent x =
      let parts = row_split owner_takes owner_gives owner_finds session g t x.waits ((x.found, x.left) ∷ []) h u (subst (λ (ps : List (State × State)). OwnerRow g t ps h u) x.row_is lent) in
      let there = idle_stays g t x.waits parts.0 parts.1 a is alone unshut parts.2 (all_map turn.waits StaysAlone x.waits waits x.waited) in
      let last = parts.3 in
      (same_Some x.found a (sym last.2.finds_it ∙ there), ap (λ (o : OwnerState). o.here) last.3.0 ∙ last.2.lends.gave)

  swept_row : (g : OwnerState) (t : T) (ps : List (State × State)) (h : OwnerState) (u : T) (a : State) → g.here ≡ Some a → IsAlone a → OwnerRow g t ps h u → AllLend SweptAlone ps
      → (n : ℕ) × (b : State) × AreSweeps n a b × (h.here ≡ Some b) × IsAlone b
  swept_row g t [] h u a is alone row all = (zero, a, refl, ap (λ (o : OwnerState). o.here) row.0 ∙ is, alone)
  swept_row g t (p ∷ ps) h u a is alone row all =
      let found : p.0 ≡ a = same_Some p.0 a (sym row.2.finds_it ∙ is) in
      ⊎_elim
      (λ same. swept_row row.0 row.1 ps h u a (row.2.lends.gave ∙ ap (λ (z : State). Some z) (same ∙ found)) alone row.3 all.1)
      (λ swept.
      let next : Sweeps a p.1 = subst (λ (s : State). Sweeps s p.1) found swept in
      let rest = swept_row row.0 row.1 ps h u p.1 row.2.lends.gave (alone_on a p.1 next alone) row.3 all.1 in
      (suc rest.0, rest.1, (p.1, next, rest.2), rest.3, rest.4))
      (all.0 (ap (λ (s : State). s.lives) found ∙ alone.1))

  -- a turn on a stripe that may be shut
  turn_swept : (turn : Turn) → ((a b : State) → turn.waits a b → SweptAlone a b) → (g : OwnerState) (t : T) (row : List (State × State)) (h : OwnerState) (u : T) (a : State) → g.here ≡ Some a → IsAlone a
      → OwnerRow g t row h u → (x : IsTurn turn row) → (n : ℕ) × AreSweeps n a x.found × IsAlone x.found × (h.here ≡ Some x.left) × IsReached x.found
  turn_swept turn waits g t row h u a is alone lent x =
      let parts = row_split owner_takes owner_gives owner_finds session g t x.waits ((x.found, x.left) ∷ []) h u (subst (λ (ps : List (State × State)). OwnerRow g t ps h u) x.row_is lent) in
      let there = swept_row g t x.waits parts.0 parts.1 a is alone parts.2 (all_map turn.waits SweptAlone x.waits waits x.waited) in
      let last = parts.3 in
      let found : x.found ≡ there.1 = same_Some x.found there.1 (sym last.2.finds_it ∙ there.3) in
      (there.0, subst (AreSweeps there.0 a) (sym found) there.2, subst IsAlone (sym found) there.4, ap (λ (o : OwnerState). o.here) last.3.0 ∙ last.2.lends.gave, last.2.lends.reached)

pub there_is : (owner : Option State) → IsSome owner → (a : State) × (owner ≡ Some a)
there_is None there = cc
there_is (Some a) there = (a, refl)

-- 2. Nobody joins a load on an idle stripe.

either_way : (b : Bool) (load : Option ℕ) → cond b load load ≡ load
either_way true load = refl
either_way false load = refl

none_joined : (a : State) (key : Bytes) (op : Op) → IsIdle a → load_joined a key op ≡ None
none_joined a key op idle = (λ i. load_joined (record a { reservations = idle.reservations i }) key op) ∙ either_way _ None

module _ {T : Type 0} (law : JoinsOnlyLoads) (caller : Caller) (key : Bytes) (op : Op) where
  none_joins : (join : JoinClaim) (g : OwnerState) (t : T) (row : List (State × State)) (h : OwnerState) (u : T) (a : State) → g.here ≡ Some a → IsAlone a
      → OwnerRow caller.session g t row h u → IsTurn (starting caller key op (begun.Joined join)) row → ⊥
  none_joins join g t row h u a is idle lent x =
      let at = turn_swept caller.session (starting caller key op (begun.Joined join)) (start_sweeps caller key op) g t row h u a is idle lent x in
      law x.found x.left caller key op join (none_joined x.found key op at.2.0) x.made.first.begins

  no_rejoins : (n : ℕ) (g : OwnerState) (t : T) (row : List (State × State)) (h : OwnerState) (u : T) (a : State) → g.here ≡ Some a → IsAlone a → OwnerRow caller.session g t row h u → AreRejoins caller key op n row → h.here ≡ Some a
  no_rejoins zero g t row h u a is idle lent x = let same = subst (λ (ps : List (State × State)). OwnerRow caller.session g t ps h u) x lent in ap (λ (o : OwnerState). o.here) same.0 ∙ is
  no_rejoins (suc n) g t row h u a is idle lent x =
      let parts = row_split owner_takes owner_gives owner_finds caller.session g t x.0 x.1 h u (subst (λ (ps : List (State × State)). OwnerRow caller.session g t ps h u) x.2 lent) in
      let last = x.4 in
      let joins = row_split owner_takes owner_gives owner_finds caller.session parts.0 parts.1 last.joins last.retries h u (subst (λ (ps : List (State × State)). OwnerRow caller.session parts.0 parts.1 ps h u) last.row_is parts.3) in
      absurd (none_joins last.join parts.0 parts.1 last.joins joins.0 joins.1 a (no_rejoins n g t x.0 parts.0 parts.1 a is idle parts.2 x.3) idle joins.2 last.joined)

-- 3. One step.

next_is : (a : State) (key : Bytes) (op : Op) (first : First) (b : Bool) → first_asked a.config op (entry_at a.cache key) ≡ first → reserves first ≡ b → next_after a key op ≡ cond b (a.next + 1) a.next
next_is a key op first b asks is = ap (λ f. cond (reserves f) (a.next + 1) a.next) asks ∙ ap (λ x. cond x (a.next + 1) a.next) is

one_step : (a c : State) (caller : Caller) (key : Bytes) (op : Op) (out : Out) (done : StepDone) (next : ℕ) → next_after a key op ≡ next → Steps (record a { next = next }) caller key op out [] done c → OneStep a caller key op out done.reply c
one_step a c caller key op out done next is steps = record { done = done; reply_is = refl; steps = subst (λ n. Steps (record a { next = n }) caller key op out [] done c) (sym is) steps }

done_step : (a c : State) (caller : Caller) (key : Bytes) (op : Op) (done : StepDone) → Begins a caller key op (begun.Done done) c → OneStep a caller key op nothing_said done.reply c
done_step a c caller key op done begins = one_step a c caller key op nothing_said done a.next (next_is a key op Nobody false begins.1 refl) begins.2

reserved_step : WholeCall → (a m c : State) (caller : Caller) (key : Bytes) (op : Op) (ticket : TicketClaim) (out : Out) (done : StepDone) → IsReached a
    → Begins a caller key op (begun.Asks ticket) m → Commits m ticket.reservation out done c → OneStep a caller key op out done.reply c
reserved_step law a m c caller key op ticket out done reached begins commits =
    one_step a c caller key op out done (a.next + 1) (next_is a key op ticket.reservation.first true begins.2 begins.3) (law a m c caller key op ticket out done reached begins commits)

-- a call that isn't refused finds its key not barred
unbarred : (room barred taken : Bool) (full : Refusal) (others : Option Refusal) → (if not room then Some full else (if barred || taken then Some Busy else others)) ≡ None → barred ≡ false
unbarred false barred taken full others h = cc
unbarred true true taken full others h = cc
unbarred true false taken full others h = refl

neither : (x y : Bool) → (x || y) ≡ false → (x ≡ false) × (y ≡ false)
neither true y h = absurd (true≢false h)
neither false y h = (refl, h)

open_at : (a : State) (caller : Caller) (key : Bytes) (op : Op) → first_refusal a caller key op ≡ None → (a.shut ≡ false) × (is_marked a key ≡ false)
open_at a caller key op unrefused =
    neither a.shut (is_marked a key)
    (unbarred (has_room a caller.call (places_needed (needs_free_key a key op))) (is_barred a key) (is_reserved a key && needs_free_key a key op) (full_refusal a caller.call) _ unrefused)

-- so its commit is followed by nothing
unmarked_ends : (old : State) (r : Reservation) (out : Out) (done : StepDone) (new : State) → is_marked old r.key ≡ false → Ends old r out done new → Commits old r out done new
unmarked_ends old r out done new unmarked e =
    let step_is : done ≡ e.1 = e.3 ∙ (λ i. told_drop (unmarked i) e.0 r.key e.1) in
    let new_is : new ≡ e.0 = e.4 ∙ (λ i. end_with (unmarked i) e.0 r.key) in
    subst (λ (z : StepDone × State). Commits old r out z.0 z.1) (λ i. (sym step_is i, sym new_is i)) e.2

-- 4. How the call ends.

module _ {T : Type 0} (whole : WholeCall) (joins : JoinsOnlyLoads) (caller : Caller) (key : Bytes) (op : Op) where
  -- from the state that the first phase left
  ends_from : (b : Begun) (asked : Out) (ended : Result Reply Refusal) (first next : State) (g : OwnerState) (t : T) (row : List (State × State)) (h : OwnerState) (u : T) → ((join : JoinClaim) → b ≡ begun.Joined join → ⊥)
      → IsReached first → first.lives ≡ false → Starts caller key op b first next → g.here ≡ Some next → OwnerRow caller.session g t row h u → EndsBy b asked ended row → (c : State) × (h.here ≡ Some c) × EndsCall first caller key op asked ended c
  ends_from (begun.Done done) asked ended first next g t row h u alone reached lives made is lent ends =
      let same = subst (λ (ps : List (State × State)). OwnerRow caller.session g t ps h u) ends.2 lent in (
        next,
        ap (λ (o : OwnerState). o.here) same.0 ∙ is,
        subst (λ (z : Out × Result Reply Refusal). EndsCall first caller key op z.0 z.1 next) (λ i. (sym ends.1 i, sym ends.0 i)) (made.first.begins.0, done_step first next caller key op done made.first.begins),
      )
  ends_from (begun.Refused refusal) asked ended first next g t row h u alone reached lives made is lent ends =
      let same = subst (λ (ps : List (State × State)). OwnerRow caller.session g t ps h u) ends.2 lent in (
        next,
        ap (λ (o : OwnerState). o.here) same.0 ∙ is,
        subst (λ (z : Out × Result Reply Refusal). EndsCall first caller key op z.0 z.1 next) (λ i. (sym ends.1 i, sym ends.0 i)) (made.first.begins.0, refl, made.first.begins.1),
      )
  ends_from (begun.Asks ticket) asked ended first next g t row h u alone reached lives made is lent ends =
      let begins = made.first.begins in
      let x = ends.2 in
      let unbarred = open_at first caller key op begins.0 in
      let unmarked : is_marked next ticket.reservation.key ≡ false =
      (λ i. is_marked (begins.5 i) (begins.4 i).reservation.key) ∙ unbarred.1 in
      let at = turn_at caller.session (committing ticket.reservation asked ends.0) (waited_stays _ _) g t row h u next is (ap (λ (s : State). s.lives) begins.5 ∙ lives) (ap (λ (s : State). s.shut) begins.5 ∙ unbarred.0) lent x in
      let commits = unmarked_ends next ticket.reservation asked ends.0 x.left unmarked (subst (λ (z : State). Ends z ticket.reservation asked ends.0 x.left) at.0 x.made) in
      (x.left, at.1, subst (λ (z : Result Reply Refusal). EndsCall first caller key op asked z x.left) (sym ends.1) (begins.0, reserved_step whole first next x.left caller key op ticket asked ends.0 reached begins commits))
  ends_from (begun.Joined join) asked ended first next g t row h u alone reached lives made is lent ends = absurd (alone join refl)

  pub ends_owned : (asked : Out) (ended : Result Reply Refusal) (g : OwnerState) (t : T) (row : List (State × State)) (h : OwnerState) (u : T) (a : State) → g.here ≡ Some a → IsAlone a → OwnerRow caller.session g t row h u
      → (x : IsCallRow caller key op asked ended row) → (n : ℕ) × AreSweeps n a (state_found x) × (c : State) × (h.here ≡ Some c) × EndsCall (state_found x) caller key op asked ended c
  ends_owned asked ended g t row h u a is idle lent x =
      let start = x.begins in
      let parts = row_split owner_takes owner_gives owner_finds caller.session g t x.start x.last h u (subst (λ (ps : List (State × State)). OwnerRow caller.session g t ps h u) x.row_is lent) in
      let first = row_split owner_takes owner_gives owner_finds caller.session g t start.rejoins start.first parts.0 parts.1 (subst (λ (ps : List (State × State)). OwnerRow caller.session g t ps parts.0 parts.1) start.row_is parts.2) in
      let there = no_rejoins joins caller key op start.rounds g t start.rejoins first.0 first.1 a is idle first.2 start.rejoined in
      let at = turn_swept caller.session (starting caller key op x.begun) (start_sweeps caller key op) first.0 first.1 start.first parts.0 parts.1 a there idle first.3 start.starts in
      let alone : (join : JoinClaim) → x.begun ≡ begun.Joined join → ⊥ =
      λ join e. none_joins joins caller key op join first.0 first.1 start.first parts.0 parts.1 a there idle first.3 (subst (λ (b : Begun). IsTurn (starting caller key op b) start.first) e start.starts) in
      let ends = ends_from x.begun asked ended start.starts.found start.starts.left parts.0 parts.1 x.last h u alone at.4 at.2.1 start.starts.made at.3 parts.3 x.ends in
      (at.0, at.1, ends.0, ends.1, ends.2)

-- 5. The whole.

module _ {I J T : Type 0} {D : I → Type 0} {E : J → Type 0}
    (loads : LoadRelation ((i : I) × D i)) (load_state : (i : I) × D i → List ℕ)
    (writes : WriteRelation ((j : J) × E j)) (write_state : (j : J) × E j → List ℕ) where
  abbrev pub owned_call : WholeCall → JoinsOnlyLoads → (old new : Agent I J D E) (key : Bytes) (op : Op) (g : OwnerState) (t : T) (ended : Result Reply Refusal) (h : OwnerState) (u : T) (a : State) → g.here ≡ Some a → IsAlone a
      → IsCall loads load_state writes write_state owner_takes owner_gives owner_finds old key op g t ended new h u
      → IsOwnedCall loads load_state writes write_state old key op g.here ended new h.here
  owned_call whole joins old new key op g t ended h u a is idle x =
      let ends = ends_owned whole joins old.caller key op x.asked ended g t x.row h u a is idle x.lent x.did in
      record {
        was_in = a;
        sweeps = ends.0;
        before = state_found x.did;
        after = ends.2;
        out = x.asked;
        was = is;
        swept = ends.1;
        is = ends.3;
        ends = ends.4;
        loader = x.loader;
        writer = x.writer;
        types = x.types;
        held = x.held;
        agent = x.agent;
      }

module _ {I J : Type 0} {D : I → Type 0} {E : J → Type 0}
    (loads : LoadRelation ((i : I) × D i)) (load_state : (i : I) × D i → List ℕ)
    (writes : WriteRelation ((j : J) × E j)) (write_state : (j : J) × E j → List ℕ) where
  abbrev pub owned_as : (old : Agent I J D E) (key : Bytes) (op : Op) (owner : Option State) (ended : Result Reply Refusal) (one two : Agent I J D E) (here there : Option State) → two ≡ one → there ≡ here
      → IsOwnedCall loads load_state writes write_state old key op owner ended one here → IsOwnedCall loads load_state writes write_state old key op owner ended two there
  owned_as old key op owner ended one two here there same is x = record {
    was_in = x.was_in;
    sweeps = x.sweeps;
    before = x.before;
    after = x.after;
    out = x.out;
    was = x.was;
    swept = x.swept;
    is = is ∙ x.is;
    ends = x.ends;
    loader = subst (λ (a : Agent I J D E). AsksLoader (boxed loads) (boxed load_state) old.hands.outside.loader key x.out.load a.hands.outside.loader) (sym same) x.loader;
    writer = subst (λ (a : Agent I J D E). AsksWriter (boxed writes) (boxed write_state) old.hands.outside.writer key (change_wanted x.before key op x.out.process) x.out.write a.hands.outside.writer) (sym same) x.writer;
    types = subst (λ (a : Agent I J D E). KeepsTypes old a) (sym same) x.types;
    held = ap (λ (a : Agent I J D E). a.hands.held) same ∙ x.held;
    agent = subst (λ (a : Agent I J D E). a ≡ record old { counts = record old.counts { own = own_after old.counts.own ended }; hands = a.hands }) (sym same) x.agent;
  }
