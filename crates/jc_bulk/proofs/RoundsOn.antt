-- The rounds of a bulk call.
--     calls_on        the calls outside of two lists of rounds
--     ready_later, left_ready, left_empty, left_as    what the next round asks outside with
--     each_takes      each key of a call that writes or deletes may be refused since an allocation failed
--     none_said, takes_new    what a round that has asked the writer has left
--     rest_on, spent_of    what is left is left also after the answers were taken
--     spent_loads, not_loads, again_left     of a call of the loader all memory is left
--     told_of         what was answered for the keys that a round has reserved
--     have_none, have_same, have_more        what the rounds have asked
use Rattle.jc_bulk.proofs.Common.{Answered, BulkBehavior, CallsInRounds, HaveAsked, IsAskedOf, IsRest, IsSpent, OutsideState, no_asks, IsOutsideReady, KeysAskAs, TakesNew, OutsideKind, Load, Write, Delete, CacheState, HasAsked, Session, Bytes, Op, types_on, AreAnswers, done_room, AreSpent, LoadCallState, no_loads, HasReserved, IsRoundTold, KeepsTickets, LoadAll, LoadRound, ProcessAll, Round, WriteAll, EachTakesMemory, ops_of, CallPast, reserved_by, RoundAnswers, BulkCall, SpentLoads, TicketClaim, Reservation, Config, Refusal, ◌≡◌, ◌≤◌, ◌++◌, List, [], ◌∷◌, map, IfNone, IfSome, Option, None, Some, option_map, ℕ, refl, sym, ap, ◌∙◌, subst, Vec}
use Rattle.jc_model.specs.declared.event.Op.TheVariants as op
use Rattle.jc_outside.specs.declared.hands.Outside.{Outside}
use Rattle.jc_bulk.proofs.Filling.{MayAsk, asks_for, keys_are}

-- 1. Calls outside.

module _ {I J : Type 0} {D : I → Type 0} {E : J → Type 0} (behavior : BulkBehavior ((i : I) × D i) ((j : J) × E j)) where
  calls_on : (a b c : Outside I J D E) (rs more : List Round) → CallsInRounds behavior a rs b → CallsInRounds behavior b more c → CallsInRounds behavior a (rs ++ more) c
  calls_on a b c [] more one two = subst (λ x. CallsInRounds behavior x more c) one two
  calls_on a b c (r ∷ rs) more one two = (one.0, one.1, calls_on one.0 b c rs more one.2 two)

-- 2. Rounds.

pub ready_later : (call later : BulkCall) (outside : OutsideState) → later.targets ≡ call.targets → later.most ≡ call.most → IsOutsideReady call outside → IsOutsideReady later outside
ready_later call later outside targets most ready = record {
  none = ready.none;
  kind = subst (λ t. KeysAskAs outside.kind (ops_of t.now)) (sym targets) ready.kind;
  room = subst (λ n. n ≤ outside.room) (sym most) ready.room;
}

pub left_ready : (kind : OutsideKind) (most : ℕ) (outside : OutsideState) (left : Option OutsideState) → IfSome left (λ l. l ≡ outside) → (outside.kind ≡ kind) × (outside.items ≡ []) × (most ≤ outside.room)
    → IfSome left (λ call. (call.kind ≡ kind) × (call.items ≡ []) × (most ≤ call.room))
left_ready kind most outside None left is = tt
left_ready kind most outside (Some l) left is = subst (λ (call : OutsideState). (call.kind ≡ kind) × (call.items ≡ []) × (most ≤ call.room)) (sym left) is

pub left_empty : (kind : OutsideKind) (most : ℕ) (left : Option OutsideState) → IfSome left (λ call. (call.kind ≡ kind) × (call.items ≡ []) × (most ≤ call.room)) → IfSome left (λ call. call.items ≡ [])
left_empty kind most None is = tt
left_empty kind most (Some l) is = is.1

pub left_as : (kind same : OutsideKind) (most less : ℕ) (left : Option OutsideState) → kind ≡ same → less ≡ most → IfSome left (λ call. (call.kind ≡ kind) × (call.items ≡ []) × (most ≤ call.room)) → IfSome left (λ call. (call.kind ≡ same) × (call.items ≡ []) × (less ≤ call.room))
left_as kind same most less left is few all = subst (λ k. IfSome left (λ call. (call.kind ≡ k) × (call.items ≡ []) × (less ≤ call.room))) is (subst (λ n. IfSome left (λ call. (call.kind ≡ kind) × (call.items ≡ []) × (n ≤ call.room))) (sym few) all)

-- the call writes or deletes, so its later rounds take memory
pub each_takes : (kind : OutsideKind) (config : Config) (targets : List (Bytes × Op)) → KeysAskAs kind targets → TakesNew kind config → EachTakesMemory config targets
each_takes Load config targets asks new place key o at = absurd new
each_takes Write config targets asks new place key o at =
    let put = asks place key o at in
    record {
      through = new;
      not_get = λ is. let bad : op.Put put.0 ≡ op.Get = sym put.1 ∙ is in cc;
      not_load = λ replace is. let bad : op.Put put.0 ≡ op.LoadAll replace = sym put.1 ∙ is in cc;
      not_clear = λ is. let bad : op.Put put.0 ≡ op.Clear = sym put.1 ∙ is in cc;
    }
each_takes Delete config targets asks new place key o at =
    let removed = asks place key o at in
    record {
      through = new;
      not_get = λ is. let bad : op.Remove ≡ op.Get = sym removed ∙ is in cc;
      not_load = λ replace is. let bad : op.Remove ≡ op.LoadAll replace = sym removed ∙ is in cc;
      not_clear = λ is. let bad : op.Remove ≡ op.Clear = sym removed ∙ is in cc;
    }

pub none_said : {X : Type 0} (P : Type 0) (left : Option X) → left ≡ None → IfNone left P → P
none_said P None is said = said
none_said P (Some x) is said = cc

pub takes_new : (kind : OutsideKind) (config : Config) → MayAsk kind config → (kind ≡ Load → ⊥) → TakesNew kind config
takes_new Load config may other = absurd (other refl)
takes_new Write config may other = may
takes_new Delete config may other = may

pub rest_on : (kind : OutsideKind) (room : ℕ) (a b : RoundAnswers) (rest : Option SpentLoads) → done_room b ≡ done_room a → IsRest kind room a rest → IsRest kind room b rest
rest_on Load room a b (Some rest) same is = (is.0, is.1, subst (λ n. room ≤ n) (sym same) is.2)
rest_on Load room a b None same is = absurd is
rest_on Write room a b (Some rest) same is = absurd is
rest_on Write room a b None same is = tt
rest_on Delete room a b (Some rest) same is = absurd is
rest_on Delete room a b None same is = tt

-- once none of the answers is left
pub spent_of : (kind : OutsideKind) (room : ℕ) (config : Config) (calls : List Reservation) (round : Round) (a b : RoundAnswers) (rest : Option SpentLoads) → IsAskedOf kind calls round → AreAnswers config round b [] → done_room b ≡ done_room a → IsRest kind room a rest → IsSpent kind room b rest
spent_of kind room config calls round a b rest asked none same is = record { config = config; calls = calls; round = round; asked = asked; none = none; rest_is = rest_on kind room a b rest same is }

-- of a call of the loader all memory is left
pub spent_loads : (kind : OutsideKind) (room : ℕ) (answers : RoundAnswers) (rest : Option SpentLoads) (r : SpentLoads) → IsSpent kind room answers rest → rest ≡ Some r
    → (kind ≡ Load) × ((config : Config) × (round : LoadRound) × AreAnswers config (LoadAll round) answers []) × AreSpent r × (r.batch.room ≡ room) × (room ≤ done_room answers)
spent_loads kind room answers rest r s is = by kind s.round s.asked s.none (subst (IsRest kind room answers) is s.rest_is)
  where
    by : (kind : OutsideKind) (round : Round) → IsAskedOf kind s.calls round → AreAnswers s.config round answers [] → IsRest kind room answers (Some r)
        → (kind ≡ Load) × ((config : Config) × (round : LoadRound) × AreAnswers config (LoadAll round) answers []) × AreSpent r × (r.batch.room ≡ room) × (room ≤ done_room answers)
    by Load (LoadAll loads) asked none left = (refl, (s.config, loads, none), left.0, left.1, left.2)
    by Load (WriteAll writes) asked none left = absurd asked
    by Load (ProcessAll runs) asked none left = absurd asked
    by Write round asked none left = absurd left
    by Delete round asked none left = absurd left

abbrev pub state_of : LoadCallState → OutsideState
state_of call = record { kind = Load; items = call.items; room = call.room }

pub again_left : (kind : OutsideKind) (room n : ℕ) (call : LoadCallState) → kind ≡ Load → n ≡ room → call ≡ no_loads n → state_of call ≡ no_asks kind room
again_left kind room n call is same of = ap state_of of ∙ (λ i. record { kind = sym is i; items = []; room = same i })

pub not_loads : (kind : OutsideKind) (room : ℕ) (answers : RoundAnswers) (rest : Option SpentLoads) → IsSpent kind room answers rest → rest ≡ None → kind ≡ Load → ⊥
not_loads Load room answers rest s is same = subst (IsRest Load room answers) is s.rest_is
not_loads Write room answers rest s is same = cc
not_loads Delete room answers rest s is same = cc

module _ {I J : Type 0} {D : I → Type 0} {E : J → Type 0} (behavior : BulkBehavior ((i : I) × D i) ((j : J) × E j)) where
  abbrev Asked : Session I J D E → OutsideState → List TicketClaim → RoundAnswers → Option Refusal → Option SpentLoads → Session I J D E → Type 0
  Asked mid outside tickets answers fault rest after = HasAsked mid after (Answered behavior mid outside.kind outside.room tickets answers fault rest after)

  pub told_of : (cache : CacheState) (past : CallPast) (mid after : Session I J D E) (begun filled : BulkCall) (outside : OutsideState) (v : Vec TicketClaim) (answers : RoundAnswers) (fault : Option Refusal) (rest : Option SpentLoads) → HasReserved cache past mid begun → IsOutsideReady begun outside
      → KeepsTickets begun.tickets v → filled ≡ record begun { tickets = v } → (asked : Asked mid outside begun.tickets.items answers fault rest after) → IsRoundTold cache past asked.asked.round after filled answers fault
  told_of cache past mid after begun filled outside v answers fault rest reserved ready kept is asked =
      let a = asked.asked in
      let calls = map reserved_by begun.tickets.items in
      let on = reserved.started.on in
      subst (λ (x : BulkCall). IsRoundTold cache past a.round after x answers fault) (sym is) (record {
        asking = mid;
        reserving = begun;
        reserved = reserved;
        own = asked.own cache on.under.own;
        rest = asked.rest;
        kept = kept;
        call_is = refl;
        keys = keys_are outside.kind calls a.round a.asked;
        asks = asks_for outside.kind past.caller cache.config (ops_of begun.targets.now) ready.kind calls a.round a.asked begun.progress.items on.under.calls_are;
        fault_is = a.fault_is;
        answered = a.answered cache.config;
      })

  pub have_none : (session : Session I J D E) → HaveAsked behavior session session []
  have_none session = record { calls = refl; types = (refl, refl) }

  pub have_same : (old mid new : Session I J D E) (rounds : List Round) → new.agent.hands ≡ mid.agent.hands → HaveAsked behavior old mid rounds → HaveAsked behavior old new rounds
  have_same old mid new rounds same have = record {
    calls = subst (λ h. CallsInRounds behavior old.agent.hands.outside rounds h.outside) (sym same) have.calls;
    types = (ap (λ h. option_map (λ b. b.vtable) h.outside.loader) same ∙ have.types.0, ap (λ h. option_map (λ b. b.vtable) h.outside.writer) same ∙ have.types.1);
  }

  -- `new` is the session once the round is over
  pub have_more : (old mid asking after new : Session I J D E) (rounds : List Round) (outside : OutsideState) (tickets : List TicketClaim) (answers : RoundAnswers) (fault : Option Refusal) (rest : Option SpentLoads) → asking.agent.hands ≡ mid.agent.hands → HaveAsked behavior old mid rounds
      → (asked : Asked asking outside tickets answers fault rest after) → new.agent.hands ≡ after.agent.hands → HaveAsked behavior old new (rounds ++ asked.asked.round ∷ [])
  unfolding have_same
  have_more old mid asking after new rounds outside tickets answers fault rest from have asked to =
      let a = asked.asked in
      let here = have_same old mid asking rounds from have in
      have_same old after new (rounds ++ a.round ∷ []) to (record {
        calls = calls_on behavior old.agent.hands.outside asking.agent.hands.outside after.agent.hands.outside rounds (a.round ∷ []) here.calls (after.agent.hands.outside, a.calls, refl);
        types = types_on old.agent asking.agent after.agent here.types a.types;
      })
