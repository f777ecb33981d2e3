-- A whole call with many keys, from its rounds.
--     near_full       a key that was refused for the history's sake: its stripe is near full
--     each_view       what is so of each seat is so of each view
--     opens_call      the session's next call, before its first round
--     may_again       once nothing of it is out, the session may begin another one
--     asked_call      those outside were asked for the keys that a round has reserved
--     nobody_asked    a round that has reserved no key asks nobody
--     round_of        a round, from its phases
--     refused_call, refused_round    each key that waits is refused
--     carried_out     after the last round the call is carried out
use Rattle.jc_rounds.proofs.Common.{◌≡◌, ◌&&◌, ◌⊎◌, ⊎_elim, inl, inr, ◌<◌, ◌≤◌, ◌+◌, ◌*◌, ◌++◌, ℕ, zero, suc, List, [], ◌∷◌, All, length, Bool, true, false, nat_le, nat_lt, Some, Result, Ok, Err, slice_get, refl, sym, ap, subst, ◌∙◌, arith, nat_tests, All-nil, All-cons, list_all, Caller, STEP_PLACES, RESERVATIONS_MAX, JOINERS_MAX, Refusal, Bytes, Op, Reply, lacks_room, is_before_call, has_room, last_number, needs_free_key, places_needed, State, promised, waits, View, one_more, CacheState, MayCall, Session, KeyProgress, Waiting, Reserved, Joined, Ended, are_before, view_at, view_of, map, true≢false, vec_capacity, same_Some, keys_of, pointwise, AllByRecursion, IsDistinct, is_among, Reservation, IsOf, IsMet, former_steps, steps_of, HasGrown, AreHeldBack, is_target_of, AsksAtMostOnce, HasStartedAll, IsRoomFor, filter_map-append, Vec, option_or, Config, TicketClaim, BulkCall, AsksFor, HasAskedSoFar, reserved_keys, IsCauseIn, IsNoted, StayEnded, all_waiting, failures, holds_reservation, is_held_back, is_settled, refused_if_waiting, waits_for_joined_load, EndsKey, IsAt, IsJoinFor, IsTicketFor, WasRefused, Round, asked_in, faults_in, keys_asked, round_fault, IsFirst, EachTakesMemory, HasRun, IsCarriedOut, IsNearFull, IsRound, WasNearFull, IsUnderway, KeysAdvance, IsFull, ops_of, CallPast, HasCommitted, HasStarted, IsBetween, IsNew, IsOn, IsOver, AreFresh, reserved_by, with_round, ◌==◌}
use Rattle.jc_rounds.proofs.Loops.{none_mapped}
use Rattle.std.proofs.lemmas.List.Sums.{count_by-le-length}
use Rattle.jc_types.specs.declared.refusal.Refusal.TheVariants.{HistoryFull, OutOfMemory}
use Rattle.jc_stripe.specs.Reached.{IsReached}
use Rattle.jc_lock.specs.Views.{spent_view}
use Rattle.jc_session.specs.Sessions.{next_call}
use Rattle.jc_rounds.specs.declared.targets.Targets.{Targets}
use Rattle.jc_rounds.specs.Lendings.{OnlyPhases}
use Rattle.jc_rounds.proofs.Failures.{cause_met}
use Rattle.jc_rounds.specs.Ends.{KeyEnd, key_end, key_ends, key_ops}
use Rattle.jc_rounds.proofs.Asked.{asked_more, asked_on, new_key, none_asked, some_there, unasked_at}
use Rattle.jc_rounds.proofs.Failures.{met_fault, noted_all}
use Rattle.jc_rounds.proofs.Held.{full_later, goes_both, held_after}
use Rattle.jc_rounds.proofs.OnCall.{met_stay}
use Rattle.jc_rounds.proofs.Out.{none_are, none_in}
use Rattle.jc_rounds.proofs.SeatPhases.{Seated, grown_itself, view_there}
use Rattle.jc_rounds.proofs.SoFar.{opens, waiting_there}
use Rattle.jc_rounds.proofs.Once.{at_most_once}
use Rattle.jc_rounds.proofs.Underway.{as_many, settled_by}

-- 1. Near full.

which : (a b c : Bool) → (a && b && c) ≡ false → (a ≡ false) ⊎ (b ≡ false) ⊎ (c ≡ false)
which false b c is = inl refl
which true false c is = inr (inl refl)
which true true c is = inr (inr is)

over_by : (a b : ℕ) → nat_le a b ≡ false → b < a
over_by a b is = grind (arith, nat_tests)

at_end : (a b : ℕ) → nat_lt a b ≡ false → b ≤ a
at_end a b is = grind (arith, nat_tests)

few_promised : (s : State) → IsReached s → promised s ≤ STEP_PLACES * RESERVATIONS_MAX + JOINERS_MAX
few_promised s reached =
    let reservations = reached.few_reservations in
    let joiners = reached.few_joiners in
    let waiting = count_by-le-length waits s.joiners in
    omega arith

few_needed : (b : Bool) → places_needed b ≤ STEP_PLACES
few_needed true = omega arith
few_needed false = omega arith

too_long : (h p n c : ℕ) → c < h + p + n → p ≤ STEP_PLACES * RESERVATIONS_MAX + JOINERS_MAX → n ≤ STEP_PLACES → c < h + (STEP_PLACES * RESERVATIONS_MAX + JOINERS_MAX + STEP_PLACES)
too_long h p n c over few need = omega arith

pub near_full : (caller : Caller) (before after : View) (key : Bytes) (op : Op) → WasRefused caller before after key op HistoryFull → WasNearFull caller before after
near_full caller before after key op was =
    let s = was.seen in
    let needed = places_needed (needs_free_key s key op) in
    let none : has_room s caller.call needed ≡ false = lacks_room s caller key op was.why in
    let full : IsNearFull caller s =
    ⊎_elim
    (λ full. inl (too_long (length s.history) (promised s) needed s.config.history (over_by (length s.history + promised s + needed) s.config.history full) (few_promised s was.reached) (few_needed (needs_free_key s key op))))
    (λ number. ⊎_elim (λ call. inr (inl (at_end caller.call last_number call))) (λ next. inr (inr (at_end s.next last_number next))) number)
    (which (nat_le (length s.history + promised s + needed) s.config.history) (nat_lt caller.call last_number) (nat_lt s.next last_number) none) in
    record { seen = s; reached = was.reached; same = was.same; since = was.since; later = was.later; found = was.found; full = full }

refused_near : (config : Config) (caller : Caller) (rounds : List Round) (v w : View) (key : Bytes) (op : Op) (ended : Result Reply Refusal) → EndsKey config caller rounds v w key op ended → ended ≡ Err HistoryFull → WasNearFull caller v w
refused_near config caller rounds v w key op (Ok reply) has is = let bad : Ok reply ≡ Err HistoryFull = is in cc
refused_near config caller rounds v w key op (Err refusal) has is =
    let same : refusal ≡ HistoryFull = cc in
    ⊎_elim (λ memory. absurd (let bad : OutOfMemory ≡ HistoryFull = sym memory.0 ∙ same in cc)) (λ full. near_full caller v w key op (subst (WasRefused caller v w key op) same full.1)) has.2

-- 2. Ends.

module _ (P : Bytes → Op → Result Reply Refusal → Type 0) where
  pub all_ended : (targets : List (Bytes × Op)) (ps : List KeyProgress)
      → ((i : ℕ) (key : Bytes) (op : Op) (ended : Result Reply Refusal) → slice_get targets i ≡ Some (key, op) → slice_get ps i ≡ Some (Ended ended) → P key op ended)
      → All (λ (e : KeyEnd). P e.key e.op e.ended) (key_ends targets ps)
  all_ended [] ps each = All-nil (λ (e : KeyEnd). P e.key e.op e.ended)
  all_ended (t ∷ targets) [] each = All-nil (λ (e : KeyEnd). P e.key e.op e.ended)
  all_ended (t ∷ targets) (Waiting ∷ ps) each = all_ended targets ps (λ i. each (suc i))
  all_ended (t ∷ targets) (Reserved ∷ ps) each = all_ended targets ps (λ i. each (suc i))
  all_ended (t ∷ targets) (Joined ∷ ps) each = all_ended targets ps (λ i. each (suc i))
  all_ended (t ∷ targets) (Ended ended ∷ ps) each =
      All-cons (λ (e : KeyEnd). P e.key e.op e.ended) (record { key = t.0; op = t.1; ended = ended }) (key_ends targets ps) (each zero t.0 t.1 ended refl refl) (all_ended targets ps (λ i. each (suc i)))

pub ops_are : (targets : List (Bytes × Op)) (ps : List KeyProgress) → length ps ≡ length targets → ((i : ℕ) (p : KeyProgress) → slice_get ps i ≡ Some p → (ended : Result Reply Refusal) × (p ≡ Ended ended)) → key_ops (key_ends targets ps) ≡ targets
ops_are [] ps many over = refl
ops_are (t ∷ targets) [] many over = cc
ops_are (t ∷ targets) (p ∷ ps) many over =
    ap (λ (q : KeyProgress). key_ops (key_end t q ++ key_ends targets ps)) (over zero p refl).1 ∙ ap (λ ts. t ∷ ts) (ops_are targets ps (omega (arith, many)) (λ i. over (suc i)))

is_over : (p : KeyProgress) → (p ≡ Waiting → ⊥) → holds_reservation p ≡ false → waits_for_joined_load p ≡ false → (ended : Result Reply Refusal) × (p ≡ Ended ended)
is_over Waiting late free alone = absurd (late refl)
is_over Reserved late free alone = let bad : true ≡ false = free in cc
is_over Joined late free alone = let bad : true ≡ false = alone in cc
is_over (Ended ended) late free alone = (ended, refl)

-- 3. Before the first round, and after the last one.

pub each_view : (P : View → Type 0) (xs : List Seated) → P spent_view → ((i : ℕ) (x : Seated) → slice_get xs i ≡ Some x → P x.1) → (i : ℕ) → P (view_at xs i)
each_view P [] gone each i = gone
each_view P (x ∷ xs) gone each zero = each zero x refl
each_view P (x ∷ xs) gone each (suc i) = each_view P xs gone (λ j y at. each (suc j) y at) i

pub none_failed : (n : ℕ) → failures (all_waiting n) ≡ []
none_failed zero = refl
none_failed (suc n) = none_failed n

none_such : (has : KeyProgress → Bool) (n : ℕ) (ps : List KeyProgress) → has Waiting ≡ false → ps ≡ all_waiting n → (i : ℕ) (p : KeyProgress) → slice_get ps i ≡ Some p → has p ≡ false
none_such has n ps isnt is i p there = ap has (waiting_there n i p (subst (λ (qs : List KeyProgress). slice_get qs i ≡ Some p) is there)) ∙ isnt

fresh_keys : (rounds : List Round) (ts : List TicketClaim) → AreFresh rounds ts → AllByRecursion (λ (r : Reservation). is_among (asked_in rounds) r.key ≡ false) (map reserved_by ts)
fresh_keys rounds [] all = tt
fresh_keys rounds (t ∷ ts) all = (all.0.2, fresh_keys rounds ts all.1)

module _ {I J : Type 0} {D : I → Type 0} {E : J → Type 0} where
  pub all_early : (cache : CacheState) (session : Session I J D E) → MayCall cache session → (i : ℕ) → list_all (is_before_call session.agent.caller.session (one_more session.agent.caller.call)) (view_at session.seats.items i).own ≡ true
  all_early cache session may =
      each_view (λ (v : View). list_all (is_before_call session.agent.caller.session (one_more session.agent.caller.call)) v.own ≡ true) session.seats.items refl may.numbers

  pub opens_call : (cache : CacheState) (session : Session I J D E) (targets : Targets) (call : BulkCall) → MayCall cache session → IsDistinct (pointwise ◌==◌) (keys_of (ops_of targets)) → IsNew targets cache.config.stripes call
      → IsBetween cache (record { caller = (next_call session).agent.caller; first = session.seats.items; rounds = [] }) (next_call session) call
  opens_call cache session targets call may distinct new =
      let caller = (next_call session).agent.caller in
      let ops = ops_of call.targets.now in
      let is : call.progress.items ≡ all_waiting (length ops) = new.waiting ∙ ap (λ t. all_waiting (length (ops_of t))) (sym new.targets_are) in
      let nothing : failures call.progress.items ≡ [] = ap failures new.waiting ∙ none_failed (length (ops_of targets)) in
      record {
        on = record {
          distinct = subst (λ t. IsDistinct (pointwise ◌==◌) (keys_of (ops_of t))) (sym new.targets_are) distinct;
          under = record {
            own = record { locks = may.own.locks; count = may.own.count; seats = may.own.seats; held = may.own.held; loads = may.own.loads; writes = may.own.writes; own = may.own.own };
            caller_is = refl;
            reservations = may.reservations;
            joins_out = may.joins;
            so_far = opens cache.config caller cache.config.stripes ops session.seats.items call.progress.items (all_early cache session may) is;
            calls_are = none_are holds_reservation (IsTicketFor caller cache.config) ops call.progress.items (none_such holds_reservation (length ops) call.progress.items refl is);
            joins_are = none_are waits_for_joined_load (λ key op join. IsJoinFor caller (view_of cache.config.stripes session.seats.items key) key op join) ops call.progress.items (none_such waits_for_joined_load (length ops) call.progress.items refl is);
          };
          asked = none_asked cache.config ops call.progress.items;
          met = subst (λ c. IsMet c call.progress.items []) (sym new.no_cause) refl;
          tickets_room = new.tickets_room;
          most = subst (λ t. IsRoomFor RESERVATIONS_MAX (length (ops_of t)) cache.config.stripes call.most) (sym new.targets_are) new.most;
          joins_room = subst (λ t. IsRoomFor JOINERS_MAX (length (ops_of t)) cache.config.stripes (vec_capacity call.joins)) (sym new.targets_are) new.joins_room;
        };
        no_tickets = new.no_tickets;
        no_joins = new.no_joins;
        cause = subst (λ c. IsCauseIn c (failures call.progress.items ++ [])) (sym new.no_cause) (ap (λ rs. rs ++ []) nothing);
      }

  pub may_again : (cache : CacheState) (past : CallPast) (session : Session I J D E) (call : BulkCall) → IsBetween cache past session call → MayCall cache session
  may_again cache past session call between =
      let u = between.on.under in
      record {
        own = u.own;
        reservations = u.reservations;
        joins = u.joins_out;
        numbers = λ i seat there.
            subst (λ (who : Caller). are_before who seat.1.own ≡ true) (sym u.caller_is) (subst (λ (v : View). are_before past.caller v.own ≡ true) (view_there session.seats.items i seat there) (u.so_far.numbers i));
      }

  -- those outside were asked for the keys that are reserved
  pub asked_call : (cache : CacheState) (past : CallPast) (start old new : Session I J D E) (call later : BulkCall) (v : Vec TicketClaim) (round : Round) → HasStarted cache past start old call → later ≡ record call { tickets = v; cause = option_or call.cause (round_fault round) }
      → map reserved_by v.items ≡ map reserved_by call.tickets.items → vec_capacity v ≡ vec_capacity call.tickets → (call.tickets.items ≡ [] → ⊥) → keys_asked round ≡ reserved_keys (map reserved_by call.tickets.items) → AsksFor cache.config (ops_of call.targets.now) round
      → IsOf cache new → new ≡ record old { agent = record old.agent { hands = new.agent.hands } } → IsOn cache (with_round past round) new later later.tickets.items later.joins.items
  asked_call cache past start old new call later v round started is same room some keys for own rest =
      let on = started.on in
      let ops = ops_of call.targets.now in
      let calls = map reserved_by call.tickets.items in
      subst (λ x. IsOn cache (with_round past round) new x x.tickets.items x.joins.items) (sym is) (record {
        distinct = on.distinct;
        under = subst (λ xs. IsUnderway cache past.caller ops (past.rounds ++ round ∷ []) past.first new call.progress.items xs call.joins.items) (sym same)
            (asked_on cache past.caller ops past.rounds round past.first old new call.progress.items calls call.joins.items on.distinct keys own rest on.under);
        asked = asked_more past.caller cache.config ops past.rounds round call.progress.items calls on.distinct on.under.so_far.many on.under.calls_are (λ none. some (none_mapped call.tickets.items none))
            (fresh_keys past.rounds call.tickets.items started.fresh) keys for on.asked;
        met = subst (IsMet (option_or call.cause (round_fault round)) call.progress.items) (sym (filter_map-append round_fault past.rounds (round ∷ []))) (met_fault call.cause (round_fault round) call.progress.items (faults_in past.rounds) on.met);
        tickets_room = omega (arith, on.tickets_room, room);
        most = on.most;
        joins_room = on.joins_room;
      })

  -- a round that has reserved no key
  pub nobody_asked : (cache : CacheState) (past : CallPast) (start session : Session I J D E) (call : BulkCall) → HasStarted cache past start session call → call.tickets.items ≡ [] → HasCommitted cache past session call
  nobody_asked cache past start session call started none = record { on = subst (λ ts. IsOn cache past session call ts call.joins.items) none started.on; no_tickets = none }

  pub round_of : (cache : CacheState) (past : CallPast) (old mid new : Session I J D E) (call begun later : BulkCall) (calls : List Round) → IsBetween cache past old call → HasStarted cache past old mid begun → begun.targets ≡ call.targets
      → KeysAdvance old.seats.items mid.seats.items call.progress.items begun.progress.items → KeysAdvance mid.seats.items new.seats.items begun.progress.items later.progress.items → length calls ≤ 1
      → asked_in calls ≡ reserved_keys (map reserved_by begun.tickets.items) → IsRound past.caller cache.config.stripes (ops_of call.targets.now) old.seats.items new.seats.items call.progress.items later.progress.items calls
  round_of cache past old mid new call begun later calls between started same one two few keys = record {
    few = few;
    goes = goes_both old.seats.items mid.seats.items new.seats.items call.progress.items begun.progress.items later.progress.items one two;
    held = held_after (IsFull past.caller n ops old.seats.items mid.seats.items (length begun.tickets.items)) (IsFull past.caller n ops old.seats.items new.seats.items (length (asked_in calls))) (length ops) past.caller n ops old.seats.items mid.seats.items new.seats.items begun.progress.items
        later.progress.items (full_later past.caller n ops old.seats.items mid.seats.items new.seats.items (length begun.tickets.items) (length (asked_in calls)) (omega (arith, many)) two.grown) two
        (subst (λ t. AreHeldBack (IsFull past.caller n (ops_of t.now) old.seats.items mid.seats.items (length begun.tickets.items)) (length (ops_of t.now)) past.caller n (ops_of t.now) old.seats.items mid.seats.items begun.progress.items) same started.held);
    waited = λ place key op at asked.
        let p = some_there ops call.progress.items place (key, op) between.on.under.so_far.many at in
        p.1 ∙ ap Some (by place key op at asked p.0 p.1 (settled_by p.0 (none_in holds_reservation _ ops call.progress.items between.on.under.so_far.many between.on.under.calls_are place p.0 p.1) (none_in waits_for_joined_load _ ops call.progress.items between.on.under.so_far.many between.on.under.joins_are place p.0 p.1)));
  }
    where
      n : ℕ
      n = cache.config.stripes

      ops : List (Bytes × Op)
      ops = ops_of call.targets.now

      many : length begun.tickets.items ≡ length (asked_in calls)
      many = sym (as_many reserved_by begun.tickets.items) ∙ sym (as_many (λ (r : Reservation). r.key) (map reserved_by begun.tickets.items)) ∙ ap length (sym keys)

      by : (place : ℕ) (key : Bytes) (op : Op) → slice_get ops place ≡ Some (key, op) → is_among (asked_in calls) key ≡ true → (p : KeyProgress) → slice_get call.progress.items place ≡ Some p → is_settled p ≡ true → p ≡ Waiting
      by place key op at asked Waiting there settled = refl
      by place key op at asked Reserved there settled = cc
      by place key op at asked Joined there settled = cc
      by place key op at asked (Ended e) there settled =
          absurd (true≢false (sym asked ∙ ap (λ ks. is_among ks key) keys
          ∙ new_key past.caller cache.config (ops_of begun.targets.now) begun.progress.items (map reserved_by begun.tickets.items) place key op (Ended e) started.on.distinct (ap (λ t. slice_get (ops_of t.now) place) same ∙ at) (one.stay.ended place e there) refl started.on.under.calls_are))

-- 4. Keys that wait are refused.

map_there : (ps : List KeyProgress) (i : ℕ) (p : KeyProgress) → slice_get ps i ≡ Some p → slice_get (map refused_if_waiting ps) i ≡ Some (refused_if_waiting p)
map_there [] i p at = cc
map_there (q ∷ ps) zero p at = ap Some (ap refused_if_waiting (same_Some q p at))
map_there (q ∷ ps) (suc i) p at = map_there ps i p at

pub map_from : (ps : List KeyProgress) (i : ℕ) (r : KeyProgress) → slice_get (map refused_if_waiting ps) i ≡ Some r → (p : KeyProgress) × (slice_get ps i ≡ Some p) × (r ≡ refused_if_waiting p)
map_from [] i r at = cc
map_from (q ∷ ps) zero r at = (q, refl, sym (same_Some (refused_if_waiting q) r at))
map_from (q ∷ ps) (suc i) r at = map_from ps i r at

pub refused_stay : (ps : List KeyProgress) → StayEnded ps (map refused_if_waiting ps)
refused_stay ps = record { many = as_many refused_if_waiting ps; ended = λ place e at. map_there ps place (Ended e) at }

pub none_waits : (ps : List KeyProgress) (place : ℕ) → slice_get (map refused_if_waiting ps) place ≡ Some Waiting → ⊥
none_waits ps place at = let from = map_from ps place Waiting at in by from.0 from.2
  where
    by : (p : KeyProgress) → Waiting ≡ refused_if_waiting p → ⊥
    by Waiting is = cc
    by Reserved is = cc
    by Joined is = cc
    by (Ended e) is = cc

refused_not_reserved : (p : KeyProgress) → holds_reservation p ≡ false → holds_reservation (refused_if_waiting p) ≡ false
refused_not_reserved Waiting is = refl
refused_not_reserved Reserved is = is
refused_not_reserved Joined is = refl
refused_not_reserved (Ended e) is = refl

refused_not_joined : (p : KeyProgress) → waits_for_joined_load p ≡ false → waits_for_joined_load (refused_if_waiting p) ≡ false
refused_not_joined Waiting is = refl
refused_not_joined Reserved is = refl
refused_not_joined Joined is = is
refused_not_joined (Ended e) is = refl

not_back : (p : KeyProgress) → waits_for_joined_load p ≡ false → is_held_back (refused_if_waiting p) ≡ true → ⊥
not_back Waiting j h = cc
not_back Reserved j h = cc
not_back Joined j h = cc
not_back (Ended e) j h = cc

refused_asked : (config : Config) (targets : List (Bytes × Op)) (rounds : List Round) (ps : List KeyProgress) → HasAskedSoFar config targets rounds ps → HasAskedSoFar config targets rounds (map refused_if_waiting ps)
refused_asked config targets rounds ps a = record {
  asked = a.asked;
  over = λ place key op at among. let p = a.over place key op at among in (refused_if_waiting p.0, map_there ps place p.0 p.1, still p.0 p.2);
}
  where
    still : (p : KeyProgress) → is_held_back p ≡ false → is_held_back (refused_if_waiting p) ≡ false
    still Waiting is = refl
    still Reserved is = refl
    still Joined is = is
    still (Ended e) is = refl

pub refused_over : (call later : BulkCall) → later.progress.items ≡ map refused_if_waiting call.progress.items → IsOver later
refused_over call later is place waits = none_waits call.progress.items place (ap (λ qs. slice_get qs place) (sym is) ∙ waits)

module _ {I J : Type 0} {D : I → Type 0} {E : J → Type 0} where
  refused_goes : (cache : CacheState) (past : CallPast) (session : Session I J D E) (call : BulkCall) → IsBetween cache past session call → KeysAdvance session.seats.items session.seats.items call.progress.items (map refused_if_waiting call.progress.items)
  refused_goes cache past session call between = record {
    stay = refused_stay call.progress.items;
    grown = λ i. grown_itself (view_at session.seats.items i);
    held = λ place p there is.
        let from = map_from call.progress.items place p there in
        absurd (not_back from.0 (none_in waits_for_joined_load _ (ops_of call.targets.now) call.progress.items between.on.under.so_far.many between.on.under.joins_are place from.0 from.1) (ap is_held_back (sym from.2) ∙ is));
  }

  -- a key that waits was not asked for
  refused_here : (cache : CacheState) (past : CallPast) (session : Session I J D E) (call : BulkCall) → (past.rounds ≡ [] → ⊥) → EachTakesMemory cache.config (ops_of call.targets.now) → IsBetween cache past session call → (place : ℕ) (key : Bytes) (op : Op) (p : KeyProgress) → slice_get (ops_of call.targets.now) place ≡ Some (key, op) → slice_get call.progress.items place ≡ Some p
      → IsAt cache.config past.caller past.rounds (view_of cache.config.stripes past.first key) (view_of cache.config.stripes session.seats.items key) key op (refused_if_waiting p)
  refused_here cache past session call some takes between place key op p at there = by p there (between.on.under.so_far.each place key op p at there)
    where
      by : (p : KeyProgress) → slice_get call.progress.items place ≡ Some p → IsAt cache.config past.caller past.rounds (view_of cache.config.stripes past.first key) (view_of cache.config.stripes session.seats.items key) key op p
          → IsAt cache.config past.caller past.rounds (view_of cache.config.stripes past.first key) (view_of cache.config.stripes session.seats.items key) key op (refused_if_waiting p)
      by Waiting there so = (so, unasked_at cache.config (ops_of call.targets.now) past.rounds call.progress.items place key op Waiting at there refl between.on.asked, inl (refl, some, takes place key op at))
      by Reserved there so = so
      by Joined there so = so
      by (Ended e) there so = so

  pub refused_call : (cache : CacheState) (past : CallPast) (session : Session I J D E) (call later : BulkCall) → later ≡ record call { progress = later.progress; cause = later.cause } → later.progress.items ≡ map refused_if_waiting call.progress.items
      → IsNoted call.cause (failures later.progress.items) later.cause → (past.rounds ≡ [] → ⊥) → EachTakesMemory cache.config (ops_of call.targets.now) → IsBetween cache past session call → IsBetween cache past session later
  refused_call cache past session call later rest is noted some takes between =
      let u = between.on.under in
      let ops = ops_of call.targets.now in
      let ps = call.progress.items in
      let n = cache.config.stripes in
      let met = met_stay call.cause ps later.progress.items (faults_in past.rounds) (subst (StayEnded ps) (sym is) (refused_stay ps)) between.on.met in
      let cause = noted_all call.cause later.cause later.progress.items (faults_in past.rounds) met noted in
      subst (IsBetween cache past session) (sym rest) (record {
        on = record {
          distinct = between.on.distinct;
          under = subst (λ qs. IsUnderway cache past.caller ops past.rounds past.first session qs [] []) (sym is) (record {
            own = u.own;
            caller_is = u.caller_is;
            reservations = u.reservations;
            joins_out = u.joins_out;
            so_far = record {
              grown = u.so_far.grown;
              phases = u.so_far.phases;
              numbers = u.so_far.numbers;
              former = u.so_far.former;
              many = as_many refused_if_waiting ps ∙ u.so_far.many;
              each = λ place key op r at there.
                  let from = map_from ps place r there in
                  subst (IsAt cache.config past.caller past.rounds (view_of n past.first key) (view_of n session.seats.items key) key op) (sym from.2) (refused_here cache past session call some takes between place key op from.0 at from.1);
              others = u.so_far.others;
            };
            calls_are = none_are holds_reservation (IsTicketFor past.caller cache.config) ops (map refused_if_waiting ps)
                (λ i r there. let from = map_from ps i r there in ap holds_reservation from.2 ∙ refused_not_reserved from.0 (none_in holds_reservation (IsTicketFor past.caller cache.config) ops ps u.so_far.many u.calls_are i from.0 from.1));
            joins_are = none_are waits_for_joined_load (λ key op join. IsJoinFor past.caller (view_of n past.first key) key op join) ops (map refused_if_waiting ps)
                (λ i r there. let from = map_from ps i r there in ap waits_for_joined_load from.2 ∙ refused_not_joined from.0 (none_in waits_for_joined_load (λ key op join. IsJoinFor past.caller (view_of n past.first key) key op join) ops ps u.so_far.many u.joins_are i from.0 from.1));
          });
          asked = subst (HasAskedSoFar cache.config ops past.rounds) (sym is) (refused_asked cache.config ops past.rounds ps between.on.asked);
          met = cause_met later.cause later.progress.items (faults_in past.rounds) cause;
          tickets_room = between.on.tickets_room;
          most = between.on.most;
          joins_room = between.on.joins_room;
        };
        no_tickets = between.no_tickets;
        no_joins = between.no_joins;
        cause = cause;
      })

  pub refused_round : (cache : CacheState) (past : CallPast) (session : Session I J D E) (call later : BulkCall) → later.progress.items ≡ map refused_if_waiting call.progress.items → IsBetween cache past session call
      → IsRound past.caller cache.config.stripes (ops_of call.targets.now) session.seats.items session.seats.items call.progress.items later.progress.items []
  refused_round cache past session call later is between =
      let goes = subst (KeysAdvance session.seats.items session.seats.items call.progress.items) (sym is) (refused_goes cache past session call between) in
      record {
        few = omega arith;
        goes = goes;
        held = λ place less key op p at there back.
            let from = map_from call.progress.items place p (ap (λ qs. slice_get qs place) (sym is) ∙ there) in
            absurd (not_back from.0 (none_in waits_for_joined_load _ (ops_of call.targets.now) call.progress.items between.on.under.so_far.many between.on.under.joins_are place from.0 from.1) (ap is_held_back (sym from.2) ∙ back));
        waited = λ place key op at asked. absurd (true≢false (sym asked));
      }

  -- 5. The call

  pub carried_out : (cache : CacheState) (past : CallPast) (old new : Session I J D E) (call : BulkCall) → past.caller ≡ (next_call old).agent.caller → past.first ≡ old.seats.items → IsOver call → new.agent ≡ record (next_call old).agent { counts = new.agent.counts; hands = new.agent.hands }
      → HasRun cache past new call
      → (carried : IsCarriedOut cache old (ops_of call.targets.now) (key_ends (ops_of call.targets.now) call.progress.items) past.rounds new)
      × IsFirst cache.config (next_call old).agent.caller (ops_of call.targets.now) old.seats.items [] carried.started.ends call.cause
  carried_out cache past old new call caller_is first_is late left run =
      let u = run.between.on.under in
      let ops = ops_of call.targets.now in
      let ps = call.progress.items in
      let n = cache.config.stripes in
      let over : (i : ℕ) (p : KeyProgress) → slice_get ps i ≡ Some p → (ended : Result Reply Refusal) × (p ≡ Ended ended) =
      λ i p there. is_over p (λ waits. late i (there ∙ ap Some waits)) (none_in holds_reservation _ ops ps u.so_far.many u.calls_are i p there) (none_in waits_for_joined_load _ ops ps u.so_far.many u.joins_are i p there) in
      let each : (i : ℕ) (key : Bytes) (op : Op) (ended : Result Reply Refusal) → slice_get ops i ≡ Some (key, op) → slice_get ps i ≡ Some (Ended ended)
      → EndsKey cache.config (next_call old).agent.caller past.rounds (view_of n old.seats.items key) (view_of n new.seats.items key) key op ended =
      λ i key op ended at there.
      subst (λ (s : List Seated). EndsKey cache.config (next_call old).agent.caller past.rounds (view_of n s key) (view_of n new.seats.items key) key op ended) first_is
      (subst (λ (c : Caller). EndsKey cache.config c past.rounds (view_of n past.first key) (view_of n new.seats.items key) key op ended) caller_is (u.so_far.each i key op (Ended ended) at there)) in
      let started : (has : HasStartedAll (next_call old).agent.caller n ops old.seats.items new.seats.items past.rounds) × IsFirst cache.config (next_call old).agent.caller ops old.seats.items [] has.ends call.cause =
      subst (λ (s : List Seated). (has : HasStartedAll (next_call old).agent.caller n ops s new.seats.items past.rounds) × IsFirst cache.config (next_call old).agent.caller ops s [] has.ends call.cause) first_is
      (subst (λ (c : Caller). (has : HasStartedAll c n ops past.first new.seats.items past.rounds) × IsFirst cache.config c ops past.first [] has.ends call.cause) caller_is (run.started, run.first)) in (
        record {
          targets_are = ops_are ops ps u.so_far.many over;
          grown = subst (λ (s : List Seated). (i : ℕ) → HasGrown (view_at s i) (view_at new.seats.items i)) first_is u.so_far.grown;
          phases = subst (λ (s : List Seated). (i : ℕ) → OnlyPhases (next_call old).agent.caller (λ key. is_target_of n ops key i ≡ true) (view_at s i) (view_at new.seats.items i)) first_is
              (subst (λ (c : Caller). (i : ℕ) → OnlyPhases c (λ key. is_target_of n ops key i ≡ true) (view_at past.first i) (view_at new.seats.items i)) caller_is u.so_far.phases);
          each = all_ended (λ key op ended. EndsKey cache.config (next_call old).agent.caller past.rounds (view_of n old.seats.items key) (view_of n new.seats.items key) key op ended) ops ps each;
          refused = all_ended (λ key op ended. ended ≡ Err HistoryFull → WasNearFull (next_call old).agent.caller (view_of n old.seats.items key) (view_of n new.seats.items key)) ops ps
              (λ i key op ended at there. refused_near cache.config (next_call old).agent.caller past.rounds (view_of n old.seats.items key) (view_of n new.seats.items key) key op ended (each i key op ended at there));
          others = subst (λ (c : Caller). (key : Bytes) (i : ℕ) → is_target_of n ops key i ≡ false → steps_of c key (view_at new.seats.items i).own ≡ []) caller_is u.so_far.others;
          former = subst (λ (s : List Seated). (i : ℕ) → former_steps (next_call old).agent.caller (view_at new.seats.items i).own ≡ former_steps (next_call old).agent.caller (view_at s i).own) first_is
              (subst (λ (c : Caller). (i : ℕ) → former_steps c (view_at new.seats.items i).own ≡ former_steps c (view_at past.first i).own) caller_is u.so_far.former);
          asked = run.between.on.asked.asked;
          started = started.0;
          once = subst (λ (s : List Seated). AsksAtMostOnce (next_call old).agent.caller n ops s new.seats.items past.rounds) first_is
              (subst (λ (c : Caller). AsksAtMostOnce c n ops past.first new.seats.items past.rounds) caller_is (at_most_once past.caller n ops cache.config past.first new.seats.items past.rounds run.between.on.asked.asked run.started));
          left = left;
        },
        started.1,
      )
