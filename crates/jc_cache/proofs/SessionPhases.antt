-- One phase of a session, from that of its agent over the lock of one seat.
--     picked_late              a pick-up that waits isn't too early
--     holds_nothing            a session of a cache holds nothing between two calls
--     of_asked                 a session that has asked its loader or its writer is of the cache as before
--     start_needs, commit_needs    what a first phase and a commit ask of the stripe that they find
--     seat_phase               the phase at a seat
--     phase_left               a phase: what is said of the session, which is of the cache as before
--     phase_map                a phase that says less
--     look_lent                a look is a phase in which nothing was done
--     number_at, shape_found, agent_same   the seat at a stripe with a number, the shape of the stripe, and the agent after a look
--     holds_one                the agent that has taken a stripe, and its seat
use Rattle.jc_cache.proofs.Common.{◌≡◌, ⊎_elim, inl, ◌+◌, ◌<◌, ℕ, true, false, Some, IsSome, List, [], ◌++◌, filter, length, get_or, ◌∷◌, slice_get, slice_set, refl, sym, ap, subst, ◌∙◌, arith, true≢false, slice_get_read, length-append, stripe_of, Caller, Config, Bytes, Event, Reply, State, IsReached, past_events, whole_history, all_own_steps, IsPhaseOf, is_own_step, own_steps, may_come_all, polled_with, Finds, View, IsCounted, one_more, counts_after, Agent, LentPhase, PhaseLaws, Turn, BeginsIfClear, CommitsHere, IsReported, PicksUpBy, PicksUpLate, Keeps, all_map, counted_longer, once, steps_in, CacheState, IsSameSeat, GoesOn, IsSeatAt, IsOf, HoldsNothing, own_total, capped, Session, HasLent}
use Rattle.jc_stripe.specs.Tickets.{TicketClaim, JoinClaim}
use Rattle.jc_stripe.specs.declared.begun.Picked.{Picked}
use Rattle.jc_stripe.specs.declared.begun.Picked.TheVariants as picked
use Rattle.jc_session.specs.declared.counts.Counted.{Counted}
use Rattle.jc_session.specs.declared.counts.Counted.TheVariants.{Nothing, Step as OneStep, Reserved, Committed, Joined, Answered, Retried, Withdrawn}
use Rattle.jc_session.specs.declared.counts.Counts.{Counts}
use Rattle.jc_gate.specs.Lending.{ComesAfter}
use Rattle.jc_engine.specs.Answered.{CallAnswer, IsAnswered}
use Rattle.jc_cache.specs.PhaseCalls.{SeatPhase, PhaseAt, MayStart}
use Rattle.jc_cache.proofs.Lendings.{lock_takes, lock_gives, lock_finds, Lending, row_left, turn_lent}
use Rattle.jc_cache.proofs.Rows.{Seated, locks_of, length_locks, seat_is}
use Rattle.jc_cache.proofs.Seats.{set_get, set_locks, set_total, capped_more, seat_stays}

-- 1. Own steps.

-- so many more in the present generation are so many more in all of them
all_longer : (session more : ℕ) (old new : State) → new.ended ≡ old.ended → length (own_steps session new) ≡ length (own_steps session old) + more → length (all_own_steps session new) ≡ length (all_own_steps session old) + more
all_longer session more old new ended longer =
    let past : List Event = filter (is_own_step session []) (past_events old.ended) in
    let was = length-append past (own_steps session old) in
    let is = length-append past (own_steps session new) in
    let same : length (all_own_steps session new) ≡ length (past ++ own_steps session new) = λ i. length (filter (is_own_step session []) (past_events (ended i)) ++ own_steps session new) in
    omega arith

pub picked_late : (old new : State) (join : JoinClaim) (p : Picked) (reply : Reply) → PicksUpBy true old join p reply new → PicksUpLate old join (polled_with p reply) new
picked_late old new join (picked.Answer place shared_with) reply by = by.picks
picked_late old new join picked.Again reply by = by.picks
picked_late old new join (picked.NotYet back) reply by = absurd (true≢false by.last)

same_count : (counts : Counts) (own : ℕ) → counts.own ≡ capped own → counts.own ≡ capped (own + 0)
same_count counts own is = let none : own ≡ own + 0 = omega arith in is ∙ ap capped none

more_count : (counts : Counts) (own : ℕ) → counts.own ≡ capped own → one_more counts.own ≡ capped (own + 1)
more_count counts own is = ap one_more is ∙ sym (capped_more own)

counted_own : (counts : Counts) (counted : Counted) (own : ℕ) → counts.own ≡ capped own → (counts_after counts counted).own ≡ capped (own + steps_in counted)
counted_own counts Nothing own is = same_count counts own is
counted_own counts OneStep own is = more_count counts own is
counted_own counts Reserved own is = same_count counts own is
counted_own counts Committed own is = more_count counts own is
counted_own counts Joined own is = same_count counts own is
counted_own counts Answered own is = more_count counts own is
counted_own counts Retried own is = same_count counts own is
counted_own counts Withdrawn own is = same_count counts own is

-- 2. The phase at a seat.

seat_longer : PhaseLaws → (session : ℕ) (counted : Counted) (found left : State) (v w : View) → Lending session v found left w → IsCounted counted session found left → length w.own ≡ length v.own + steps_in counted
seat_longer law session counted found left v w l is =
    ap length l.own_is ∙ all_longer session (steps_in counted) found left l.uniform.grows.same.ended (counted_longer law.own_steps counted session found left l.reached is)
    ∙ ap (λ (es : List Event). length es + steps_in counted) l.own

module _ {G : Type 0} where
  pub seat_phase : PhaseLaws → (session : ℕ) (turn : Turn) (g : G) (t : Seated) (h : G) (u : Seated) → t.1.session ≡ Some session → t.1.holds ≡ false → ((a b : State) → turn.waits a b → Keeps session a b)
      → (x : LentPhase lock_takes lock_gives lock_finds session g t turn h u) → (u.0 ≡ t.0) × Lending session t.1 x.did.found x.did.left u.1 × SeatPhase session t.1 turn u.1
  seat_phase law session turn g t h u mine free waits x =
      let did = x.did in
      let lent = turn_lent law session turn g t x.row h u mine free waits x.lent did x.one in
      let row = (row_left law session g t x.row h u mine free x.lent).1 in
      let l : Lending session t.1 did.found did.left u.1 = lent.1 in (
        lent.0,
        l,
        record {
          found = did.found;
          reached = l.reached;
          same = l.same;
          front = l.front;
          own = l.own;
          made = subst (turn.makes did.found) (sym l.noted) did.made;
          waits = did.waits;
          waited = did.waited;
          lent = subst (λ (ps : List (State × State)). HasLent t.1 ps u.1) (did.row_is ∙ ap (λ (s : State). did.waits ++ (did.found, s) ∷ []) (sym l.noted)) row.lent;
          one = subst (IsPhaseOf session did.found) (sym l.noted) l.one;
          seat = l.seat;
          front_is = l.front_is ∙ ap whole_history (sym l.noted);
          own_is = l.own_is ∙ ap (all_own_steps session) (sym l.noted);
        },
      )

-- 3. The session.

module _ {I J : Type 0} {D : I → Type 0} {E : J → Type 0} where
  of_after : (cache : CacheState) (old new : Session I J D E) (at : ℕ) (t u : Seated) (counted : Counted) → IsOf cache old → slice_get old.seats.items at ≡ Some t → new.seats.items ≡ slice_set old.seats.items at u → u.0 ≡ t.0 → IsSameSeat t.1 u.1
      → new.agent ≡ record old.agent { counts = counts_after old.agent.counts counted } → length u.1.own ≡ length t.1.own + steps_in counted → IsOf cache new
  of_after cache old new at t u counted of was now same seat left longer =
      let number : new.agent.caller.session ≡ old.agent.caller.session = ap (λ (a : Agent I J D E). a.caller.session) left in
      let total : own_total new.seats.items ≡ own_total old.seats.items + steps_in counted = ap own_total now ∙ set_total (steps_in counted) old.seats.items at t u was longer in
      record {
        locks = ap locks_of now ∙ set_locks old.seats.items at t u was same ∙ of.locks;
        count = of.count;
        seats = λ i s there.
            subst (λ (n : ℕ). IsSeatAt cache.config i n s.1) (sym number)
            (⊎_elim
            (λ e. subst (λ (z : Seated). IsSeatAt cache.config i old.agent.caller.session z.1) (sym e.1)
            (subst (λ (k : ℕ). IsSeatAt cache.config k old.agent.caller.session u.1) (sym e.0) (seat_stays cache.config at old.agent.caller.session t.1 u.1 (of.seats at t was) seat)))
            (λ e. of.seats i s e)
            (set_get old.seats.items at i t u s was (ap (λ (seats : List Seated). slice_get seats i) (sym now) ∙ there)));
        held = ap (λ (a : Agent I J D E). a.hands.held) left ∙ of.held;
        loads = λ on. subst (λ (a : Agent I J D E). IsSome a.hands.outside.loader) (sym left) (of.loads on);
        writes = λ on. subst (λ (a : Agent I J D E). IsSome a.hands.outside.writer) (sym left) (of.writes on);
        own = ap (λ (a : Agent I J D E). a.counts.own) left ∙ counted_own old.agent.counts counted (own_total old.seats.items) of.own ∙ ap capped (sym total);
      }

  pub phase_left : {G : Type 0} → PhaseLaws → (cache : CacheState) (old new : Session I J D E) (stripe : ℕ) (counted : Counted) (turn : Turn) (g : G) (t : Seated) (h : G) (u : Seated)
      → IsOf cache old → slice_get old.seats.items stripe ≡ Some t → new.seats.items ≡ slice_set old.seats.items stripe u → new.agent ≡ record old.agent { counts = counts_after old.agent.counts counted }
      → ((a b : State) → turn.waits a b → Keeps old.agent.caller.session a b)
      → (x : LentPhase lock_takes lock_gives lock_finds old.agent.caller.session g t turn h u) → IsCounted counted old.agent.caller.session x.did.found x.did.left → GoesOn cache new (PhaseAt stripe old turn counted new)
  phase_left law cache old new stripe counted turn g t h u of was now left waits x is =
      let seat = of.seats stripe t was in
      let p = seat_phase law old.agent.caller.session turn g t h u seat.of_session seat.free waits x in record {
        own = of_after cache old new stripe t u counted of was now p.0 p.2.seat left (seat_longer law old.agent.caller.session counted x.did.found x.did.left t.1 u.1 p.1 is);
        phase = record { lock = t.0; before = t.1; after = u.1; was = was; now = now ∙ ap (slice_set old.seats.items stripe) (seat_is t u p.0); seat = p.2; left = left };
      }

  pub phase_map : (cache : CacheState) (stripe at : ℕ) (old : Session I J D E) (from to : Turn) (counted : Counted) (new : Session I J D E) → at ≡ stripe → ((a b : State) → from.waits a b → to.waits a b) → ((a b : State) → from.makes a b → to.makes a b) → GoesOn cache new (PhaseAt at old from counted new)
      → GoesOn cache new (PhaseAt stripe old to counted new)
  phase_map cache stripe at old from to counted new at_is waits leads g = let p = g.phase in record {
    own = g.own;
    phase = subst (λ (n : ℕ). PhaseAt n old to counted new) at_is record {
      lock = p.lock;
      before = p.before;
      after = p.after;
      was = p.was;
      now = p.now;
      seat = record {
        found = p.seat.found;
        reached = p.seat.reached;
        same = p.seat.same;
        front = p.seat.front;
        own = p.seat.own;
        made = leads p.seat.found p.after.noted p.seat.made;
        waits = p.seat.waits;
        waited = all_map from.waits to.waits p.seat.waits waits p.seat.waited;
        lent = p.seat.lent;
        one = p.seat.one;
        seat = p.seat.seat;
        front_is = p.seat.front_is;
        own_is = p.seat.own_is;
      };
      left = p.left;
    };
  }

  -- 4. What a phase asks of the stripe.

  pub start_needs : (cache : CacheState) (old : Session I J D E) (caller : Caller) (key : Bytes) (at : ℕ) (t : Seated) (state : State) → IsOf cache old → MayStart cache old key → caller ≡ old.agent.caller → at ≡ stripe_of key cache.config.stripes
      → slice_get old.seats.items at ≡ Some t → Finds t.1 state → BeginsIfClear caller key state
  start_needs cache old caller key at t state of may is at_is there finds =
      let seat = of.seats at t there in
      subst (λ (c : Caller). BeginsIfClear c key state) (sym is) record {
        live = finds.same.origin ∙ seat.origin_is;
        may = ap (λ (es : List Event). may_come_all es old.agent.caller key) (finds.own old.agent.caller.session seat.of_session) ∙ may t (subst (λ (i : ℕ). slice_get old.seats.items i ≡ Some t) at_is there);
      }

  pub commit_needs : (cache : CacheState) (old : Session I J D E) (ticket : TicketClaim) (answered : CallAnswer) (at : ℕ) (t : Seated) (state : State) → IsOf cache old → IsAnswered ticket answered → IsReported cache.config ticket.reservation answered
      → slice_get old.seats.items at ≡ Some t → Finds t.1 state → CommitsHere ticket answered state
  commit_needs cache old ticket answered at t state of is_answered reported there finds =
      let seat = of.seats at t there in record {
        live = finds.same.origin ∙ seat.origin_is;
        is_answered = is_answered;
        reported = subst (λ (c : Config). IsReported c ticket.reservation answered) (sym (finds.same.config ∙ seat.config_is)) reported;
      }

-- 5. A look, at the stripe with a number.

pub look_lent : {G : Type 0} (session : ℕ) (turn : Turn) (g : G) (t : Seated) (a : State) (gate : G) (token : Seated) (h : G) (u : Seated) → t.1.session ≡ Some session → lock_takes g t a gate token → IsReached a → lock_gives gate token a h u
    → ((n : ℕ) (b : State) → token.1.session ≡ Some n → Finds u.1 b → ComesAfter n a b) → turn.makes a a → (x : LentPhase lock_takes lock_gives lock_finds session g t turn h u) × IsCounted Nothing session x.did.found x.did.left
look_lent session turn g t a gate token h u mine took reached gave next is = (
  record {
    row = (a, a) ∷ [];
    lent = once lock_takes lock_gives lock_finds session g t a a h u record {
      lends = record { gate = gate; token = token; took = took; reached = reached; gave = gave };
      finds_it = took.1;
      by = inl (inl refl);
      next = λ b finds. next session b (ap (λ (s : Seated). s.1.session) took.0 ∙ mine) finds;
    };
    did = record { waits = []; found = a; left = a; row_is = refl; waited = tt; made = is };
    one = inl refl;
  },
  inl (refl, refl),
)

module _ {I J : Type 0} {D : I → Type 0} {E : J → Type 0} where
  pub number_at : (cache : CacheState) (session : Session I J D E) (number : ℕ) (t : Seated) → IsOf cache session → number < cache.config.stripes → t ≡ get_or session.seats.items number t → slice_get session.seats.items number ≡ Some t
  number_at cache session number t of below read =
      let long : length session.seats.items ≡ cache.config.stripes = length_locks session.seats.items cache.locks of.locks ∙ of.count in
      let near : number < length session.seats.items = omega arith in
      slice_get_read session.seats.items (length session.seats.items) number t refl near read

  pub shape_found : (cache : CacheState) (session : Session I J D E) (number : ℕ) (t : Seated) (a : State) → IsOf cache session → slice_get session.seats.items number ≡ Some t → Finds t.1 a → a.config ≡ cache.config
  shape_found cache session number t a of there finds = finds.same.config ∙ (of.seats number t there).config_is

  pub agent_same : (old mid new : Agent I J D E) → old.hands.held ≡ 0 → mid ≡ record old { hands = record old.hands { held = 1 } } → new ≡ record mid { hands = record mid.hands { held = 0 } } → new ≡ old
  agent_same old mid new free took gave =
      gave ∙ ap (λ (a : Agent I J D E). record a { hands = record a.hands { held = 0 } }) took ∙ ap (λ (n : ℕ). record old { hands = record old.hands { held = n } }) (sym free)

  pub holds_one : (old mid : Agent I J D E) (t : Seated) → mid ≡ record old { hands = record old.hands { held = 1 } } → t.1.session ≡ Some old.caller.session → (mid.hands.held ≡ 1) × (t.1.session ≡ Some mid.caller.session)
  holds_one old mid t took speaks = (ap (λ (a : Agent I J D E). a.hands.held) took, speaks ∙ ap (λ (a : Agent I J D E). Some a.caller.session) (sym took))

  -- 6. A call outside.

  pub holds_nothing : (cache : CacheState) (session : Session I J D E) → IsOf cache session → HoldsNothing session
  holds_nothing cache session of = record { held = of.held; seats = λ i seat there. (of.seats i seat there).free }

  pub of_asked : (cache : CacheState) (old new : Session I J D E) → new ≡ record old { agent = record old.agent { hands = new.agent.hands } } → new.agent.hands.held ≡ 0
      → (IsSome old.agent.hands.outside.loader → IsSome new.agent.hands.outside.loader) → (IsSome old.agent.hands.outside.writer → IsSome new.agent.hands.outside.writer) → IsOf cache old → IsOf cache new
  of_asked cache old new left held loads writes of =
      let seats : new.seats.items ≡ old.seats.items = ap (λ (s : Session I J D E). s.seats.items) left in
      let number : new.agent.caller.session ≡ old.agent.caller.session = ap (λ (s : Session I J D E). s.agent.caller.session) left in
      record {
        locks = ap locks_of seats ∙ of.locks;
        count = of.count;
        seats = λ i s there. subst (λ (n : ℕ). IsSeatAt cache.config i n s.1) (sym number) (of.seats i s (ap (λ (xs : List Seated). slice_get xs i) (sym seats) ∙ there));
        held = held;
        loads = λ on. loads (of.loads on);
        writes = λ on. writes (of.writes on);
        own = ap (λ (s : Session I J D E). s.agent.counts.own) left ∙ of.own ∙ ap (λ (xs : List Seated). capped (own_total xs)) (sym seats);
      }
