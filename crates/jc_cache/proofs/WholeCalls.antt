-- Whole calls of a session, from those of its agent over the lock of one seat.
--     some_stripe        there is a stripe
--     at_key, number_near    the number of a key's stripe, and that it is one of the cache's
--     free_at            the seat is at the lock in its place, which it has not taken
--     ready, ready_next  the session is at the door of the stripe, as it is and for its next call
--     may_begin          the seat's own steps let the next call come
--     writes_as          the stripe writes through if the cache does
--     may_call           the session's next call may be made there
--     completes_as       a whole call of which less is told
--     called, invoked, tried
--                        a whole call, one that runs a processor, and one that waits for nobody: what is said of the session, and that
--                        it may call again
use Rattle.jc_cache.proofs.Common.{DynBox, ◌≡◌, ◌<◌, ◌&&◌, MatchBool, Option, is_none, ℕ, List, length, sum, get_or, Bool, true, false, cond, nat_le, Some, IsSome, Result, Ok, Err, arith, slice_get, slice_set, option_map, refl, sym, ap, subst, ◌∙◌, and_parts, leb-true, slice_get_read, slice_get_within, TableId, check, is_between, stripe_of, Config, STRIPES_MAX, Caller, Refusal, Bytes, entry_at, Event, Out, Op, Get, Invoke, Reply, LoadRelation, WriteRelation, State, OwnNumbers, StepsBehind, may_come_all, View, Finds, Agent, BeginsIfClear, IsReady, PhaseLaws, HasLookedFirst, state_decided, state_found, call_in, IsBetween, CacheState, next_call, Completes, IsOf, MayCall, Session}
use Rattle.std.proofs.Math.Nat.{mod-lt}
use Rattle.jc_model.specs.Table.{is_process_given}
use Rattle.jc_mutentry.specs.Running.{ProcessRelation, RunsOnce}
use Rattle.jc_engine.specs.Asking.{own_after}
use Rattle.jc_engine.specs.Calls.{IsCall, IsInvocation, IsTried, MayCallHere}
use Rattle.jc_engine.specs.declared.access.Access.{Access}
use Rattle.jc_cache.specs.Calls.{CallsAt, Tried, Invoked}
use Rattle.jc_cache.proofs.Lendings.{lock_takes, lock_gives, lock_finds, lock_misses, lock_speaks_for, RowLeft, row_left}
use Rattle.jc_cache.proofs.CallEnds.{CallLeft, call_left, tried_left}
use Rattle.jc_cache.proofs.Rows.{length_locks, lock_there, seat_is}
use Rattle.jc_cache.proofs.Seats.{after_call, after_try, may_after}

-- 1. The seat of a key.

in_limits : (b : Bool) (more : Result (Unit {0}) Refusal) (refusal : Refusal) → cond b more (Err refusal) ≡ Ok tt → b ≡ true
in_limits true more refusal h = refl
in_limits false more refusal h = cc

pub some_stripe : (config : Config) → check config ≡ Ok tt → 0 < config.stripes
some_stripe config h = leb-true 1 config.stripes ((and_parts (nat_le 1 config.stripes) (nat_le config.stripes STRIPES_MAX) (in_limits (is_between 1 STRIPES_MAX config.stripes) _ _ h)).0)

below_stripes : (config : Config) (key : Bytes) (at : ℕ) → check config ≡ Ok tt → at ≡ stripe_of key config.stripes → at < config.stripes
below_stripes config key at fits at_is = subst (λ (n : ℕ). n < config.stripes) (sym at_is) (mod-lt (sum key) (some_stripe config fits))

pub number_near : (cache : CacheState) (config : Config) (key : Bytes) (at : ℕ) → check config ≡ Ok tt → config ≡ cache.config → at ≡ stripe_of key config.stripes → at < cache.config.stripes
number_near cache config key at fits same at_is = subst (λ (c : Config). at < c.stripes) same (below_stripes config key at fits at_is)

pub at_key : (cache : CacheState) (config : Config) (key : Bytes) (at : ℕ) → config ≡ cache.config → at ≡ stripe_of key config.stripes → at ≡ stripe_of key cache.config.stripes
at_key cache config key at is at_is = at_is ∙ ap (λ (c : Config). stripe_of key c.stripes) is

module _ {I J : Type 0} {D : I → Type 0} {E : J → Type 0} where
  -- 2. What a call needs.

  pub free_at : (cache : CacheState) (session : Session I J D E) (locks : List TableId) (at : ℕ) (t : TableId × View) (lock : TableId) → IsOf cache session → locks ≡ cache.locks → slice_get session.seats.items at ≡ Some t
      → lock ≡ get_or locks at lock → (t.0 ≡ lock) × (t.1.holds ≡ false)
  free_at cache session locks at t lock own are there read =
      let near : at < length session.seats.items = slice_get_within session.seats.items at t there in
      let seats : length session.seats.items ≡ length cache.locks = length_locks session.seats.items cache.locks own.locks in
      let count : length locks ≡ length cache.locks = ap length are in
      let within : at < length locks = omega arith in
      let is : slice_get cache.locks at ≡ Some lock = ap (λ (ls : List TableId). slice_get ls at) (sym are) ∙ slice_get_read locks _ at lock refl within read in
      (lock_there session.seats.items cache.locks at t lock own.locks there is, (own.seats at t there).free)

  module _ {G : Type 0} {is_free : G → TableId × View → Type 0} (cache : CacheState) (old : Session I J D E) (at : ℕ) (access : Access G (TableId × View) I J D E) (own : IsOf cache old)
      (there : slice_get old.seats.items at ≡ Some access.token.now) (free : is_free access.gate.now access.token.now) where
    pub ready : access.agent.now ≡ old.agent → IsReady is_free lock_speaks_for access
    ready is = record {
      held = ap (λ (a : Agent I J D E). a.hands.held) is ∙ own.held;
      free = free;
      speaks = subst (lock_speaks_for access.token.now) (sym (ap (λ (a : Agent I J D E). a.caller.session) is)) (own.seats at access.token.now there).of_session;
    }

    pub ready_next : access.agent.now ≡ (next_call old).agent → IsReady is_free lock_speaks_for access
    ready_next is = record {
      held = ap (λ (a : Agent I J D E). a.hands.held) is ∙ own.held;
      free = free;
      speaks = subst (lock_speaks_for access.token.now) (sym (ap (λ (a : Agent I J D E). a.caller.session) is)) (own.seats at access.token.now there).of_session;
    }

  pub may_begin : OwnNumbers → (cache : CacheState) (old : Session I J D E) (a : Agent I J D E) (at : ℕ) (t : TableId × View) (key : Bytes) (state : State) → MayCall cache old → a ≡ (next_call old).agent → slice_get old.seats.items at ≡ Some t → Finds t.1 state
      → BeginsIfClear a.caller key state
  may_begin law cache old a at t key state may is there finds =
      let seat = may.own.seats at t there in
      let caller : Caller = (next_call old).agent.caller in
      subst (λ (z : Agent I J D E). BeginsIfClear z.caller key state) (sym is) record {
        live = finds.same.origin ∙ seat.origin_is;
        may = ap (λ (es : List Event). may_come_all es caller key) (finds.own old.agent.caller.session seat.of_session) ∙ law.may_come t.1.own caller key (may.numbers at t there);
      }

  pub writes_as : (cache : CacheState) (old : Session I J D E) (at : ℕ) (t : TableId × View) (state : State) → MayCall cache old → slice_get old.seats.items at ≡ Some t → Finds t.1 state → state.config.write_through ≡ cache.config.write_through
  writes_as cache old at t state may there finds = ap (λ c. c.write_through) (finds.same.config ∙ (may.own.seats at t there).config_is)

  pub may_call : OwnNumbers → (cache : CacheState) (old : Session I J D E) (a : Agent I J D E) (at : ℕ) (t : TableId × View) (key : Bytes) → MayCall cache old → a ≡ (next_call old).agent
      → slice_get old.seats.items at ≡ Some t → MayCallHere (Finds t.1) key a
  may_call law cache old a at t key may is there = record {
    reservations = ap (λ (z : Agent I J D E). z.counts.reservations) is ∙ may.reservations;
    joins = ap (λ (z : Agent I J D E). z.counts.joins) is ∙ may.joins;
    begins = λ state finds. may_begin law cache old a at t key state may is there finds;
    writes = λ state finds on. subst (λ (z : Agent I J D E). IsSome z.hands.outside.writer) (sym is) (may.own.writes (sym (writes_as cache old at t state may there finds) ∙ on));
  }

  -- 3. What it leaves.

  pub tried : {G : Type 0} → PhaseLaws → OwnNumbers → (cache : CacheState) (old new : Session I J D E) (a : Agent I J D E) (key : Bytes) (op : Op) (at : ℕ) (ended : Result Reply Refusal) (g : G) (t : TableId × View) (h : G) (u : TableId × View)
      → MayCall cache old → a ≡ (next_call old).agent → at ≡ stripe_of key cache.config.stripes → slice_get old.seats.items at ≡ Some t → new.seats.items ≡ slice_set old.seats.items at u
      → new.agent ≡ record a { counts = record a.counts { own = own_after a.counts.own ended } } → IsTried lock_takes lock_gives lock_finds lock_misses a.caller key op g t ended h u
      → Completes cache new (Tried cache old key op ended new)
  tried law numbers cache old new a key op at ended g t h u may is at_is there now agent x =
      let b : Agent I J D E = (next_call old).agent in
      let seat = may.own.seats at t there in
      let left = tried_left law b.caller key op ended g t h u seat.of_session seat.free (subst (λ (z : Agent I J D E). IsTried lock_takes lock_gives lock_finds lock_misses z.caller key op g t ended h u) is x) in
      let new_is : new.agent ≡ record b { counts = record b.counts { own = own_after b.counts.own ended } } = agent ∙ ap (λ (z : Agent I J D E). record z { counts = record z.counts { own = own_after z.counts.own ended } }) is in
      let hands : new.agent.hands ≡ b.hands = ap (λ (z : Agent I J D E). z.hands) new_is in
      let now' : new.seats.items ≡ slice_set old.seats.items at (t.0, u.1) = now ∙ ap (slice_set old.seats.items at) (seat_is t u left.0) in
      let after = after_try t.1 b.caller key op ended u.1 left.1 left.2 in record {
        call = record {
          before = t.1;
          after = u.1;
          at = record {
            lock = t.0;
            was = subst (λ (i : ℕ). slice_get old.seats.items i ≡ Some t) at_is there;
            now = subst (λ (i : ℕ). new.seats.items ≡ slice_set old.seats.items i (t.0, u.1)) at_is now';
          };
          seat = left.1;
          left = new_is;
        };
        may = may_after numbers cache old new at t.0 t.1 u.1 ended may there now' after.0 after.1 record {
          left = new_is ∙ ap (λ z. record b { counts = record b.counts { own = own_after b.counts.own ended }; hands = z }) (sym hands);
          held = ap (λ z. z.held) hands ∙ may.own.held;
          types = (ap (λ z. option_map (λ k. k.vtable) z.outside.loader) hands, ap (λ z. option_map (λ k. k.vtable) z.outside.writer) hands);
        };
      }

  pub completes_as : (cache : CacheState) (new : Session I J D E) (Made Told : Type 0) → (Made → Told) → Completes cache new Made → Completes cache new Told
  completes_as cache new Made Told tells x = record { call = tells x.call; may = x.may }

  module _ {G : Type 0} (loads : LoadRelation ((i : I) × D i)) (load_state : (i : I) × D i → List ℕ) (writes : WriteRelation ((j : J) × E j)) (write_state : (j : J) × E j → List ℕ) where
    abbrev Whole : Agent I J D E → Bytes → Op → G → TableId × View → Result Reply Refusal → Agent I J D E → G → TableId × View → Type 0
    Whole a key op g t ended new h u = IsCall loads load_state writes write_state lock_takes lock_gives lock_finds a key op g t ended new h u

    -- what the row of a whole call, and the call, leave of the seat
    left_of : PhaseLaws → StepsBehind → OwnNumbers → (cache : CacheState) (old new : Session I J D E) (key : Bytes) (op : Op) (at : ℕ) (ended : Result Reply Refusal) (g : G) (t : TableId × View) (h : G) (u : TableId × View)
        → MayCall cache old → slice_get old.seats.items at ≡ Some t → (x : Whole (next_call old).agent key op g t ended new.agent h u)
        → RowLeft old.agent.caller.session t.1 x.row u.1 × CallLeft t (next_call old).agent.caller key op x.asked ended (state_found x.did) (state_decided x.did) u
    left_of law behind numbers cache old new key op at ended g t h u may there x =
        let seat = may.own.seats at t there in
        let caller : Caller = (next_call old).agent.caller in (
          (row_left law caller.session g t x.row h u seat.of_session seat.free x.lent).1,
          call_left law behind caller key op x.asked ended g t x.row h u seat.of_session seat.free (numbers.may_come t.1.own caller key (may.numbers at t there)) x.lent x.did,
        )

    abbrev calls_at : (cache : CacheState) (old new : Session I J D E) (key : Bytes) (op : Op) (at : ℕ) (ended : Result Reply Refusal) (g : G) (t : TableId × View) (h : G) (u : TableId × View) → at ≡ stripe_of key cache.config.stripes
        → slice_get old.seats.items at ≡ Some t → new.seats.items ≡ slice_set old.seats.items at u → (x : Whole (next_call old).agent key op g t ended new.agent h u) → RowLeft old.agent.caller.session t.1 x.row u.1
        → CallLeft t (next_call old).agent.caller key op x.asked ended (state_found x.did) (state_decided x.did) u → CallsAt loads load_state writes write_state cache (next_call old) key op ended new
    calls_at cache old new key op at ended g t h u at_is there now x row left = record {
      before = t.1;
      after = u.1;
      at = record {
        lock = t.0;
        was = subst (λ (i : ℕ). slice_get old.seats.items i ≡ Some t) at_is there;
        now = subst (λ (i : ℕ). new.seats.items ≡ slice_set old.seats.items i (t.0, u.1)) at_is (now ∙ ap (slice_set old.seats.items at) (seat_is t u left.lock));
      };
      asked = x.asked;
      seat = left.seat;
      row = x.row;
      lent = row.lent;
      between = row.between;
      did = x.did;
      loader = x.loader;
      writer = x.writer;
      types = x.types;
      left = x.agent;
    }

    may_again : OwnNumbers → (cache : CacheState) (old new : Session I J D E) (key : Bytes) (op : Op) (at : ℕ) (ended : Result Reply Refusal) (g : G) (t : TableId × View) (h : G) (u : TableId × View)
        → MayCall cache old → slice_get old.seats.items at ≡ Some t → new.seats.items ≡ slice_set old.seats.items at u → (x : Whole (next_call old).agent key op g t ended new.agent h u) (first decided : State)
        → CallLeft t (next_call old).agent.caller key op x.asked ended first decided u → MayCall cache new
    may_again numbers cache old new key op at ended g t h u may there now x first decided left =
        let after = after_call t.1 (next_call old).agent.caller key op x.asked ended u.1 left.seat left.below in
        may_after numbers cache old new at t.0 t.1 u.1 ended may there (now ∙ ap (slice_set old.seats.items at) (seat_is t u left.lock)) after.0 after.1 record { left = x.agent; held = x.held; types = x.types }

    pub called : PhaseLaws → StepsBehind → OwnNumbers
        → (cache : CacheState) (old new : Session I J D E) (a b : Agent I J D E) (key : Bytes) (op : Op) (at : ℕ) (ended : Result Reply Refusal) (g : G) (t : TableId × View) (h : G) (u : TableId × View)
        → MayCall cache old → a ≡ (next_call old).agent → new.agent ≡ b → at ≡ stripe_of key cache.config.stripes → slice_get old.seats.items at ≡ Some t → new.seats.items ≡ slice_set old.seats.items at u
        → Whole a key op g t ended b h u → Completes cache new (CallsAt loads load_state writes write_state cache (next_call old) key op ended new)
    called law behind numbers cache old new a b key op at ended g t h u may is left_is at_is there now y =
        let x = subst (λ (z : Agent I J D E). Whole z key op g t ended new.agent h u) is (subst (λ (z : Agent I J D E). Whole a key op g t ended z h u) (sym left_is) y) in
        let left = left_of law behind numbers cache old new key op at ended g t h u may there x in
        record {
          call = calls_at cache old new key op at ended g t h u at_is there now x left.0 left.1;
          may = may_again numbers cache old new key op at ended g t h u may there now x _ _ left.1;
        }

    -- a get, by what its first lending was
    pub got : PhaseLaws → StepsBehind → OwnNumbers
        → (cache : CacheState) (old new : Session I J D E) (a b : Agent I J D E) (key : Bytes) (at : ℕ) (ended : Result Reply Refusal) (g : G) (t : TableId × View) (h : G) (u : TableId × View)
        → MayCall cache old → a ≡ (next_call old).agent → new.agent ≡ b → at ≡ stripe_of key cache.config.stripes → slice_get old.seats.items at ≡ Some t → new.seats.items ≡ slice_set old.seats.items at u
        → (y : Whole a key Get g t ended b h u) → HasLookedFirst a.caller key y.row
        → Completes cache new ((did : CallsAt loads load_state writes write_state cache (next_call old) key Get ended new) × HasLookedFirst (next_call old).agent.caller key did.row)
    got law behind numbers cache old new a b key at ended g t h u may is left_is at_is there now y looked =
        let left = subst (λ (z : Agent I J D E). (w : Whole a key Get g t ended z h u) × HasLookedFirst a.caller key w.row) (sym left_is) (y, looked) in
        let x = subst (λ (z : Agent I J D E). (w : Whole z key Get g t ended new.agent h u) × HasLookedFirst z.caller key w.row) is left in
        let left = left_of law behind numbers cache old new key Get at ended g t h u may there x.0 in
        record {
          call = (calls_at cache old new key Get at ended g t h u at_is there now x.0 left.0 left.1, x.1);
          may = may_again numbers cache old new key Get at ended g t h u may there now x.0 _ _ left.1;
        }

    pub invoked : {P Z : Type 0} {F : P → Type 0} → PhaseLaws → StepsBehind → OwnNumbers
        → (processes : ProcessRelation (DynBox P Z F)) (process_state : DynBox P Z F → List ℕ)
        → (cache : CacheState) (old new : Session I J D E) (a b : Agent I J D E) (key : Bytes) (args : List Bytes) (before ran after : DynBox P Z F) (at : ℕ) (ended : Result Reply Refusal) (g : G) (t : TableId × View) (h : G) (u : TableId × View)
        → MayCall cache old → a ≡ (next_call old).agent → new.agent ≡ b → after ≡ ran → at ≡ stripe_of key cache.config.stripes → slice_get old.seats.items at ≡ Some t → new.seats.items ≡ slice_set old.seats.items at u
        → IsInvocation loads load_state writes write_state processes process_state lock_takes lock_gives lock_finds a key args before g t ended b ran h u
        → Completes cache new (Invoked loads load_state writes write_state processes process_state cache old key args before ended new after)
    invoked {P} {Z} {F} law behind numbers processes process_state cache old new a b key args before ran after at ended g t h u may is left_is ran_is at_is there now y =
        let made = subst (λ (z : Agent I J D E × DynBox P Z F). IsInvocation loads load_state writes write_state processes process_state lock_takes lock_gives lock_finds a key args before g t ended z.0 z.1 h u) (λ i. (sym left_is i, sym ran_is i)) y in
        let x = subst (λ (z : Agent I J D E). IsInvocation loads load_state writes write_state processes process_state lock_takes lock_gives lock_finds z key args before g t ended new.agent after h u) is made in
        let left = left_of law behind numbers cache old new key Invoke at ended g t h u may there x.call in
        let first : State = state_found x.call.did in
        let decided : State = state_decided x.call.did in
        let between = call_in (λ s. IsBetween t.1 s u.1) (next_call old).agent.caller key Invoke x.call.asked ended x.call.row left.0.between x.call.did in
        let config : first.config ≡ decided.config = between.0.same.config ∙ sym between.1.same.config in
        let entry : entry_at first.cache key ≡ entry_at decided.cache key = sym {a = entry_at decided.cache key} (left.1.entry refl) in
        let asked : Out = x.call.asked in record {
          call = record {
            call = calls_at cache old new key Invoke at ended g t h u at_is there now x.call left.0 left.1;
            run = subst (λ (p : Config × Option Bytes). MatchBool (is_process_given asked.process) (RunsOnce processes process_state before key args (p.0.read_through && is_none p.1) p.1 asked.load asked.process after) (after ≡ before))
                (λ i. (config i, entry i)) x.run;
            alone = left.1.made refl;
            type = x.type;
          };
          may = may_again numbers cache old new key Invoke at ended g t h u may there now x.call first decided left.1;
        }
