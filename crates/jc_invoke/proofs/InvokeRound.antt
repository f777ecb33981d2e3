-- The rounds of a call with many keys, each with a processor.
--     op_there         each operation of the call is an `Invoke`
--     IsCalled         a reservation is of a key of the call, and asks the processor
--     asks_for         the runs are on keys of the call, each shown what is due
--     each_invoked     each key of the call may be refused since an allocation failed
--     left_room, left_none, left_there   what a round that has asked has left
--     all_called       each reservation that a round has made is of a key of the call
--     ready_later      the memory for what the next round asks outside
--     may_run          the processor may be run for each ticket that a round has
--     told_of          what was answered for the keys that a round has reserved
--     calls_then       the calls of rounds, and of those after them
--     have_none, have_same, have_more    what the rounds have asked
use Rattle.jc_invoke.proofs.Common.{CacheState, HasAsked, Session, HaveAsked, IsInvoked, IsInvokeReady, IsRoundAsked, IsToBeRun, MayRunEach, LeavesBatches, IsRoundRoomFor, IsNextRoom, CallsEach, CallsRound, RunBehavior, in_boxes, Batches, RoundRoom, Bytes, Op, Clear, Get, Invoke, LoadAll, KeepsType, IsOutAt, all_map, all_mapped, all_out, among_there, distinct_reserved, types_on, RunState, done_room, key_run, reservations_of, AsksFor, reserved_keys, HasReserved, IsRoundTold, KeepsTickets, IsShown, KeyRun, ProcessAll, ProcessRound, Round, EachTakesMemory, ops_of, ops_with, CallPast, AreFresh, reserved_by, RoundAnswers, BulkCall, KeyProgress, TicketClaim, asks_processor, entry_seen, is_loadable, Reservation, ◌≡◌, ◌≤◌, ◌++◌, ℕ, zero, suc, List, [], ◌∷◌, map, slice_get, Bool, true, Option, None, Some, IfNone, IfSome, refl, sym, ap, subst, ◌∙◌, map-append, same_Some, Vec, All, AllByRecursion, IsAmong, DynBox}
use Rattle.jc_types.specs.declared.caller.Caller.{Caller}
use Rattle.jc_types.specs.declared.config.Config.{Config}
use Rattle.jc_stripe.specs.Refusals.{first_asked}
use Rattle.jc_rounds.specs.KeyProgress.{holds_reservation}
use Rattle.jc_rounds.specs.Keys.{IsTicketFor}
use Rattle.jc_invoke.proofs.RoundAsked.{keys_run}

-- 1. Keys.

pub op_there : (keys : List Bytes) (place : ℕ) (key : Bytes) (op : Op) → slice_get (ops_with Invoke keys) place ≡ Some (key, op) → op ≡ Invoke
op_there [] place key op at = cc
op_there (k ∷ keys) zero key op at = ap (λ (t : Bytes × Op). t.1) (sym (same_Some (k, Invoke) (key, op) at))
op_there (k ∷ keys) (suc place) key op at = op_there keys place key op at

-- what a reservation of the call is
abbrev pub IsCalled : Config → List (Bytes × Op) → Reservation → Type 0
IsCalled config targets r = (op : Op) × (entry : Option Bytes) × IsAmong targets (r.key, op) × (asks_processor (first_asked config op entry) ≡ true) × (r.first ≡ first_asked config op entry)

called : (caller : Caller) (config : Config) (targets : List (Bytes × Op)) (keys : List Bytes) (ps : List KeyProgress) (r : Reservation) → targets ≡ ops_with Invoke keys → IsOutAt holds_reservation (IsTicketFor caller config) targets ps r → IsCalled config targets r
called caller config targets keys ps r are out =
    let ticket = out.7 in
    let invoke : out.2 ≡ Invoke = op_there keys out.0 out.1 out.2 (ap (λ ts. slice_get ts out.0) (sym are) ∙ out.4) in
    (out.2, ticket.entry, subst (λ key. IsAmong targets (key, out.2)) (sym ticket.key_is) (among_there targets out.0 (out.1, out.2) out.4), ap (λ op. asks_processor (first_asked config op ticket.entry)) invoke, ticket.first_is)

on_runs : (P : Reservation → Type 0) (runs : List RunState) → AllByRecursion P (reservations_of runs) → AllByRecursion (λ (run : RunState). P run.reservation) runs
on_runs P [] all = tt
on_runs P (r ∷ runs) all = (all.0, on_runs P runs all.1)

abbrev IsDue : Config → List (Bytes × Op) → KeyRun → Type 0
IsDue config targets run = (op : Op) × (entry : Option Bytes) × IsAmong targets (run.key, op) × (asks_processor (first_asked config op entry) ≡ true) × IsShown (first_asked config op entry) run

asks_for : (config : Config) (targets : List (Bytes × Op)) (round : ProcessRound) (runs : List RunState) (calls : List Reservation) → round.runs ≡ map key_run runs → reservations_of runs ≡ calls → AllByRecursion (IsCalled config targets) calls
    → AsksFor config targets (ProcessAll round)
asks_for config targets round runs calls are same all =
    subst (All (IsDue config targets)) (sym are)
    (all_mapped key_run (IsDue config targets) runs
    (all_map (λ (run : RunState). IsCalled config targets run.reservation) (λ run. IsDue config targets (key_run run)) runs
    (λ run is. (is.0, is.1, is.2, is.3, (ap entry_seen is.4, ap is_loadable is.4)))
    (on_runs (IsCalled config targets) runs (subst (AllByRecursion (IsCalled config targets)) (sym same) all))))

to_be_run : (config : Config) (targets : List (Bytes × Op)) (rounds : List Round) (ts : List TicketClaim) → AreFresh rounds ts → AllByRecursion (IsCalled config targets) (map reserved_by ts) → AllByRecursion IsToBeRun ts
to_be_run config targets rounds [] fresh all = tt
to_be_run config targets rounds (t ∷ ts) fresh all = ((fresh.0.0, fresh.0.1, ap asks_processor all.0.4 ∙ all.0.3), to_be_run config targets rounds ts fresh.1 all.1)

-- the call runs a processor at each key, so its later rounds take memory if the cache writes through
pub each_invoked : (config : Config) (call : BulkCall) → IsInvoked call → config.write_through ≡ true → EachTakesMemory config (ops_of call.targets.now)
each_invoked config call invoked through place key op at =
    let is : op ≡ Invoke = op_there invoked.0 place key op (ap (λ ts. slice_get ts place) (sym invoked.1) ∙ at) in
    record {
      through = through;
      not_get = λ same. let bad : Invoke ≡ Get = sym is ∙ same in cc;
      not_load = λ replace same. let bad : Invoke ≡ LoadAll replace = sym is ∙ same in cc;
      not_clear = λ same. let bad : Invoke ≡ Clear = sym is ∙ same in cc;
    }

-- what a round that has asked has left
pub left_room : (most : ℕ) (through : Bool) (room : RoundRoom) (answers : RoundAnswers) (rest : Option Batches) (left : Option RoundRoom) → IsRoundRoomFor most through room → LeavesBatches room rest → IsNextRoom rest answers left → most ≤ done_room answers
    → IfSome left (λ next. IsRoundRoomFor most through next)
left_room most through room answers None None is quiet next few = tt
left_room most through room answers None (Some n) is quiet next few = absurd next
left_room most through room answers (Some b) None is quiet next few = tt
left_room most through room answers (Some b) (Some n) is quiet next few =
    subst (λ t. IsRoundRoomFor most t n) (sym quiet.0 ∙ is.through_is) (next most few (quiet.1 ∙ is.writes_are) (quiet.2 ∙ is.deletes_are))

pub left_none : (most : ℕ) (through : Bool) (room : RoundRoom) (answers : RoundAnswers) (rest : Option Batches) (left : Option RoundRoom) → IsRoundRoomFor most through room → LeavesBatches room rest → IsNextRoom rest answers left → IfNone left (through ≡ true)
left_none most through room answers None None is quiet next = sym is.through_is ∙ quiet
left_none most through room answers None (Some n) is quiet next = tt
left_none most through room answers (Some b) None is quiet next = absurd next
left_none most through room answers (Some b) (Some n) is quiet next = tt

pub left_there : {X : Type 0} (P : Type 0) (left : Option X) → left ≡ None → IfNone left P → P
left_there P None is it = it
left_there P (Some x) is it = cc

-- 2. A round.

pub ready_later : (config : Config) (call begun : BulkCall) (room : RoundRoom) → begun.targets ≡ call.targets → begun.most ≡ call.most → IsInvokeReady config call room → IsInvokeReady config begun room
ready_later config call begun room targets most ready = record {
  invoked = (ready.invoked.0, ap (λ t. ops_of t.now) targets ∙ ready.invoked.1);
  room_is = subst (λ n. IsRoundRoomFor n config.write_through room) (sym most) ready.room_is;
}

module _ {I J : Type 0} {D : I → Type 0} {E : J → Type 0} (cache : CacheState) where
  -- each ticket is of a key of the call, and asks its processor
  pub all_called : (past : CallPast) (mid : Session I J D E) (begun : BulkCall) → IsInvoked begun → HasReserved cache past mid begun → AllByRecursion (IsCalled cache.config (ops_of begun.targets.now)) (map reserved_by begun.tickets.items)
  all_called past mid begun invoked reserved =
      let ops = ops_of begun.targets.now in
      all_map (IsOutAt holds_reservation (IsTicketFor past.caller cache.config) ops begun.progress.items) (IsCalled cache.config ops) (map reserved_by begun.tickets.items)
      (λ r out. called past.caller cache.config ops invoked.0 begun.progress.items r invoked.1 out)
      (all_out holds_reservation (IsTicketFor past.caller cache.config) ops begun.progress.items (map reserved_by begun.tickets.items) reserved.started.on.under.calls_are)

  pub may_run : (past : CallPast) (mid : Session I J D E) (begun : BulkCall) (room : RoundRoom) → IsInvokeReady cache.config begun room → HasReserved cache past mid begun → MayRunEach mid begun.tickets room
  may_run past mid begun room ready reserved =
      let started = reserved.started in
      record {
        cache = cache;
        own = started.on.under.own;
        fresh = to_be_run cache.config (ops_of begun.targets.now) past.rounds begun.tickets.items started.fresh (all_called past mid begun ready.invoked reserved);
        distinct = distinct_reserved past.caller cache.config (ops_of begun.targets.now) begun.progress.items (map reserved_by begun.tickets.items) started.on.distinct started.on.under.calls_are;
        most = begun.most;
        few = started.few;
        room_is = ready.room_is;
      }

-- 3. What is asked outside.

module _ {P L W : Type 0} (behavior : RunBehavior L W P) (args : List Bytes) (through : Bool) where
  pub calls_then : (rounds more : List ProcessRound) (p q r : P) (l m n : Option L) (u v w : Option W)
      → CallsEach behavior args through p l u rounds q m v
      → CallsEach behavior args through q m v more r n w
      → CallsEach behavior args through p l u (rounds ++ more) r n w
  calls_then [] more p q r l m n u v w each later =
      subst (λ x. CallsEach behavior args through x l u more r n w) each.0
      (subst (λ x. CallsEach behavior args through q x u more r n w) each.1
      (subst (λ x. CallsEach behavior args through q m x more r n w) each.2 later))
  calls_then (x ∷ rounds) more p q r l m n u v w each later =
      (each.0, each.1, each.2, each.3, calls_then rounds more each.0 q r each.1 m n each.2 v w each.4 later)

module _ {I J P Z : Type 0} {D : I → Type 0} {E : J → Type 0} {F : P → Type 0}
    (behavior : RunBehavior ((i : I) × D i) ((j : J) × E j) (DynBox P Z F)) (args : List Bytes) (cache : CacheState) where
  abbrev Asked : List Bytes → Session I J D E → Bool → List TicketClaim → DynBox P Z F → Session I J D E → RoundAnswers → DynBox P Z F → Type 0
  Asked given mid through tickets processor after answers p = HasAsked mid after (IsRoundAsked behavior given through mid.agent tickets processor after.agent answers p)

  -- `given` are the arguments that the processor was run with
  pub told_of : (given : List Bytes) (past : CallPast) (mid after : Session I J D E) (begun filled : BulkCall) (v : Vec TicketClaim) (processor p : DynBox P Z F) (through : Bool) (answers : RoundAnswers) → HasReserved cache past mid begun → IsInvoked begun → through ≡ cache.config.write_through
      → KeepsTickets begun.tickets v → filled ≡ record begun { tickets = v } → (has : Asked given mid through begun.tickets.items processor after answers p) → IsRoundTold cache past (ProcessAll has.asked.round) after filled answers None
  told_of given past mid after begun filled v processor p through answers reserved invoked same kept is has =
      let a = has.asked in
      subst (λ (x : BulkCall). IsRoundTold cache past (ProcessAll a.round) after x answers None) (sym is) (record {
        asking = mid;
        reserving = begun;
        reserved = reserved;
        own = has.own cache reserved.started.on.under.own;
        rest = has.rest;
        kept = kept;
        call_is = refl;
        keys = ap (map (λ (run : KeyRun). run.key)) a.runs_are ∙ keys_run a.runs ∙ ap reserved_keys a.calls_are;
        asks = asks_for cache.config (ops_of begun.targets.now) a.round a.runs (map reserved_by begun.tickets.items) a.runs_are a.calls_are (all_called cache past mid begun invoked reserved);
        fault_is = refl;
        answered = a.answered cache.config (sym same);
      })

  -- what the rounds have asked

  abbrev Have : Session I J D E → DynBox P Z F → Session I J D E → DynBox P Z F → List Round → Type 0
  Have old processor new p rounds = HaveAsked behavior args cache old processor new p rounds

  pub have_none : (session : Session I J D E) (processor : DynBox P Z F) → Have session processor session processor []
  have_none session processor = record { runs = []; rounds_are = refl; calls = (refl, refl, refl); types = (refl, refl); processor_type = refl }

  pub have_same : (old mid new : Session I J D E) (processor p : DynBox P Z F) (rounds : List Round) → new.agent.hands ≡ mid.agent.hands → Have old processor mid p rounds → Have old processor new p rounds
  have_same old mid new processor p rounds same have = record {
    runs = have.runs;
    rounds_are = have.rounds_are;
    calls = subst (λ h. CallsEach (in_boxes behavior) args cache.config.write_through processor old.agent.hands.outside.loader old.agent.hands.outside.writer have.runs p h.outside.loader h.outside.writer) (sym same) have.calls;
    types = (
      subst (λ h. KeepsType old.agent.hands.outside.loader h.outside.loader) (sym same) have.types.0,
      subst (λ h. KeepsType old.agent.hands.outside.writer h.outside.writer) (sym same) have.types.1,
    );
    processor_type = have.processor_type;
  }

  -- `new` is the session once the round is over
  pub have_more : (old mid asking after new : Session I J D E) (processor p q : DynBox P Z F) (rounds : List Round) (tickets : List TicketClaim) (through : Bool) (answers : RoundAnswers) (given : List Bytes) → asking.agent.hands ≡ mid.agent.hands → Have old processor mid p rounds
      → given ≡ args → through ≡ cache.config.write_through → (has : Asked given asking through tickets p after answers q) → new.agent.hands ≡ after.agent.hands → Have old processor new q (rounds ++ ProcessAll has.asked.round ∷ [])
  unfolding have_same
  have_more old mid asking after new processor p q rounds tickets through answers given from have same_args same has to =
      let a = has.asked in
      let here = have_same old mid asking processor p rounds from have in
      let asked : CallsRound (in_boxes behavior) args cache.config.write_through p asking.agent.hands.outside.loader asking.agent.hands.outside.writer a.round q after.agent.hands.outside.loader after.agent.hands.outside.writer =
      subst (λ xs. CallsRound (in_boxes behavior) xs cache.config.write_through p asking.agent.hands.outside.loader asking.agent.hands.outside.writer a.round q after.agent.hands.outside.loader after.agent.hands.outside.writer) same_args
      (subst (λ t. CallsRound (in_boxes behavior) given t p asking.agent.hands.outside.loader asking.agent.hands.outside.writer a.round q after.agent.hands.outside.loader after.agent.hands.outside.writer) same a.asked) in
      have_same old after new processor q (rounds ++ ProcessAll a.round ∷ []) to (record {
        runs = have.runs ++ a.round ∷ [];
        rounds_are = ap (λ rs. rs ++ ProcessAll a.round ∷ []) have.rounds_are ∙ sym (map-append ProcessAll have.runs (a.round ∷ []));
        calls = calls_then (in_boxes behavior) args cache.config.write_through have.runs (a.round ∷ []) processor p q
            old.agent.hands.outside.loader asking.agent.hands.outside.loader after.agent.hands.outside.loader old.agent.hands.outside.writer asking.agent.hands.outside.writer after.agent.hands.outside.writer here.calls
            (q, after.agent.hands.outside.loader, after.agent.hands.outside.writer, asked, (refl, refl, refl));
        types = types_on old.agent asking.agent after.agent here.types a.types;
        processor_type = a.processor_type ∙ have.processor_type;
      })
