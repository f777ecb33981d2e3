-- A call with many keys, between its phases.
--     SameCall          another state of the same call, with as much room
--     met_stay          what a cause that was noted is among, once keys have ended
--     may_start, may_commit, may_pick    the session may make its next phase at a key
--     advances_itself, advances_both, advances_by    no phase, two, and one
--     unnoted_itself, unnoted_both, unnoted_by       the same, of what hasn't been noted
--     on_by             the call goes on, as its keys go on
--     starting_on, held_by, kept_joined       a first phase
--     committing_on     a commit
--     picking_on        a pick-up
use Rattle.jc_rounds.proofs.Common.{◌≡◌, ◌==◌, ◌⊎◌, inl, inr, ◌<◌, ◌≤◌, ◌+◌, ◌++◌, ℕ, List, [], ◌∷◌, length, map, set, slice_get, true, false, Option, None, Some, Result, Ok, vec_capacity, vec_len, refl, sym, ap, subst, ◌∙◌, arith, length-append, Vec, IsAmong, IsDistinct, keys_of, pointwise, JOINERS_MAX, RESERVATIONS_MAX, HaveJoined, IsRoomFor, Config, Refusal, is_among, Bytes, Op, Get, Out, Reply, Begun, Polled, Reservation, JoinClaim, TicketClaim, View, counted_begun, counted_polled, Agent, CacheState, Session, RoundAnswers, BulkCall, KeyProgress, Waiting, Reserved, Joined, Ended, AreAnswers, HasAskedSoFar, IsMet, StayEnded, failures, holds_reservation, is_held_back, waits_for_joined_load, HasBegun, HasPicked, IsCommitted, IsEarly, IsJoinFor, IsAnswer, LoadAll, ProcessAll, Round, WriteAll, asked_in, faults_in, keys_asked, AreBefore, HasGrown, view_of, steps_of, Caller, AreSettledFrom, AreUnder, IsHeldAt, IsKept, IsPicked, IsUnderway, KeysAdvance, ops_of, Advances, AdvancesUnnoted, CallPast, HasRoom, IsCommitting, IsFresh, IsOn, IsPicking, IsStarting, KeepsJoined, KeepsRoom, AreFresh, reserved_by}
use Rattle.jc_stripe.specs.Outcomes as begun
use Rattle.jc_session.specs.declared.counts.Counted.{Counted}
use Rattle.jc_session.specs.declared.counts.Counted.TheVariants.{Committed}
use Rattle.jc_rounds.specs.declared.answers.RoundAnswers.TheVariants as answers
use Rattle.jc_rounds.specs.KeyPhases.{IsKeyPhase, MayStep}
use Rattle.jc_rounds.proofs.Asked.{asked_set, unasked_at}
use Rattle.jc_rounds.proofs.Failures.{among_after, among_either, failures_stay, keeps_both, keeps_itself, keeps_same}
use Rattle.jc_rounds.proofs.Held.{goes_both, goes_itself, goes_set, have_more, held_at, kept_held, set_there}
use Rattle.jc_rounds.proofs.SoFar.{among_more}
use Rattle.jc_rounds.proofs.Underway.{committed_on, first_join, first_ticket, picked_not_joined, picked_on, place_near, settled_set, stay_set, started_on, under_set}

pub record SameCall (call later : BulkCall) : Type 0 where
  pub targets : later.targets ≡ call.targets
  pub most : later.most ≡ call.most
  pub cause : later.cause ≡ call.cause
  pub tickets_room : vec_capacity later.tickets ≡ vec_capacity call.tickets
  pub joins_room : vec_capacity later.joins ≡ vec_capacity call.joins

pub same_kept : (call mid : BulkCall) (qs : Vec KeyProgress) → KeepsRoom call mid → SameCall call (record mid { progress = qs })
same_kept call mid qs keeps = record {
  targets = ap (λ (x : BulkCall). x.targets) keeps.rest;
  most = ap (λ (x : BulkCall). x.most) keeps.rest;
  cause = ap (λ (x : BulkCall). x.cause) keeps.rest;
  tickets_room = keeps.tickets_room;
  joins_room = keeps.joins_room;
}

-- the place of a key is one of the vector's
pub near_in : (ps : Vec KeyProgress) (place : ℕ) (p : KeyProgress) → slice_get ps.items place ≡ Some p → place < vec_len ps
near_in ps place p there = omega (arith, place_near ps.items place p there, ps.ok.0)

pub progress_kept : (call mid : BulkCall) → KeepsRoom call mid → mid.progress.items ≡ call.progress.items
progress_kept call mid keeps = ap (λ (x : BulkCall). x.progress.items) keeps.rest

-- 1. The cause.

pub met_stay : (cause : Option Refusal) (ps qs : List KeyProgress) (faults : List Refusal) → StayEnded ps qs → IsMet cause ps faults → IsMet cause qs faults
met_stay None ps qs faults stay met = met
met_stay (Some c) ps qs faults stay met = by (among_either (failures ps) faults c met)
  where
    by : IsAmong (failures ps) c ⊎ IsAmong faults c → IsAmong (failures qs ++ faults) c
    by (inl h) = among_more (failures qs) faults c (failures_stay ps qs c stay h)
    by (inr h) = among_after (failures qs) faults c h

-- 2. The call goes on.

module _ {I J : Type 0} {D : I → Type 0} {E : J → Type 0} (cache : CacheState) (past : CallPast) (session : Session I J D E) (call : BulkCall) where
  -- the session may make its next phase at a key
  pub may_start : (place : ℕ) (key : Bytes) (op : Op) → slice_get (ops_of call.targets.now) place ≡ Some (key, op) → slice_get call.progress.items place ≡ Some Waiting → IsStarting cache past session call place
      → MayStep cache session key × AreBefore session.agent.caller session.seats.items
  may_start place key op at waits starting =
      let u = starting.on.under in (
        record { own = u.own; none = ap (λ (w : Caller). steps_of w key (view_of cache.config.stripes session.seats.items key).own) u.caller_is ∙ u.so_far.each place key op Waiting at waits },
        subst (λ (w : Caller). AreBefore w session.seats.items) (sym u.caller_is) u.so_far.numbers,
      )

  pub may_commit : (round : Round) (place : ℕ) (ticket : TicketClaim) (rest : List TicketClaim) (a : RoundAnswers) → slice_get call.progress.items place ≡ Some Reserved → IsCommitting cache past round session call (ticket ∷ rest) a place
      → MayStep cache session ticket.reservation.key × ((ticket.reservation.caller ≡ session.agent.caller) × IsEarly session.agent.caller)
  may_commit round place ticket rest a there next =
      let u = next.on.under in
      let r = ticket.reservation in
      let t = first_ticket cache past.caller (ops_of call.targets.now) past.rounds past.first session call.progress.items r (map reserved_by rest) call.joins.items place Waiting there next.committed refl u in (
        record { own = u.own; none = ap (λ (w : Caller). steps_of w r.key (view_of cache.config.stripes session.seats.items r.key).own) u.caller_is ∙ t.4 },
        (t.2.caller_is ∙ sym u.caller_is, subst IsEarly (sym u.caller_is) t.2.early),
      )

  pub may_pick : (place : ℕ) (join : JoinClaim) (rest : List JoinClaim) → slice_get call.progress.items place ≡ Some Joined → IsPicking cache past session call (join ∷ rest) place
      → MayStep cache session join.key × ((join.caller ≡ session.agent.caller) × IsEarly session.agent.caller) × (session.agent.counts.reservations ≡ 0)
  may_pick place join rest there next =
      let u = next.on.under in
      let t = first_join cache past.caller (ops_of call.targets.now) past.rounds past.first session call.progress.items [] join rest place Waiting there next.picked refl u in (
        record { own = u.own; none = ap (λ (w : Caller). steps_of w join.key (view_of cache.config.stripes session.seats.items join.key).own) u.caller_is ∙ t.3 },
        (t.1.caller_is ∙ sym u.caller_is, subst IsEarly (sym u.caller_is) t.1.early),
        u.reservations,
      )

pub advances_itself : {I J : Type 0} {D : I → Type 0} {E : J → Type 0} (session : Session I J D E) (call : BulkCall) → Advances session session call call
advances_itself session call = record { goes = goes_itself session.seats.items call.progress.items; agent = refl; targets = refl; most = refl; cause = keeps_itself call.cause }

pub advances_both : {I J : Type 0} {D : I → Type 0} {E : J → Type 0} (a b c : Session I J D E) (x y z : BulkCall) → Advances a b x y → Advances b c y z → Advances a c x z
advances_both a b c x y z one two = record {
  goes = goes_both a.seats.items b.seats.items c.seats.items x.progress.items y.progress.items z.progress.items one.goes two.goes;
  agent = two.agent ∙ (λ i. record (one.agent i) { counts = c.agent.counts });
  targets = two.targets ∙ one.targets;
  most = two.most ∙ one.most;
  cause = keeps_both x.cause y.cause z.cause one.cause two.cause;
}

pub unnoted_itself : {I J : Type 0} {D : I → Type 0} {E : J → Type 0} (session : Session I J D E) (call : BulkCall) → AdvancesUnnoted session session call call
unnoted_itself session call = record { advances = advances_itself session call; cause = refl }

pub unnoted_both : {I J : Type 0} {D : I → Type 0} {E : J → Type 0} (a b c : Session I J D E) (x y z : BulkCall) → AdvancesUnnoted a b x y → AdvancesUnnoted b c y z → AdvancesUnnoted a c x z
unnoted_both a b c x y z one two = record { advances = advances_both a b c x y z one.advances two.advances; cause = two.cause ∙ one.cause }

all_then : (rounds : List Round) (ts : List TicketClaim) (t : TicketClaim) → AreFresh rounds ts → IsFresh rounds t → AreFresh rounds (ts ++ t ∷ [])
all_then rounds [] t all one = (one, tt)
all_then rounds (x ∷ ts) t all one = (all.0, all_then rounds ts t all.1 one)

fresh_more : (rounds : List Round) (caller : Caller) (config : Config) (v w : View) (key : Bytes) (op : Op) (b : Begun) (p : KeyProgress) (ts ts' : List TicketClaim) (js js' : List JoinClaim) → HasBegun caller config v w key op b → IsKept b p ts ts' js js'
    → is_among (asked_in rounds) key ≡ false → AreFresh rounds ts → AreFresh rounds ts'
fresh_more rounds caller config v w key op (begun.Asks ticket) p ts ts' js js' has kept unasked all =
    subst (AreFresh rounds) (sym kept.1) (all_then rounds ts ticket all (has.1, has.2, ap (is_among (asked_in rounds)) has.3.key_is ∙ unasked))
fresh_more rounds caller config v w key op (begun.Done done) p ts ts' js js' has kept unasked all = subst (AreFresh rounds) (sym kept.1) all
fresh_more rounds caller config v w key op (begun.Refused refusal) p ts ts' js js' has kept unasked all = subst (AreFresh rounds) (sym kept.1) all
fresh_more rounds caller config v w key op (begun.Joined join) p ts ts' js js' has kept unasked all = subst (AreFresh rounds) (sym kept.1) all

pub kept_more : (b : Begun) (p : KeyProgress) (ts ts' : List TicketClaim) (js js' : List JoinClaim) → IsKept b p ts ts' js js' → (length ts ≤ length ts') × (length ts' ≤ length ts + 1)
kept_more (begun.Asks ticket) p ts ts' js js' kept = let n = ap length kept.1 ∙ length-append ts (ticket ∷ []) in (omega (arith, n), omega (arith, n))
kept_more (begun.Done done) p ts ts' js js' kept = let n = ap length kept.1 in (omega (arith, n), omega (arith, n))
kept_more (begun.Refused refusal) p ts ts' js js' kept = let n = ap length kept.1 in (omega (arith, n), omega (arith, n))
kept_more (begun.Joined join) p ts ts' js js' kept = let n = ap length kept.1 in (omega (arith, n), omega (arith, n))

-- a round asked for the key of each reservation that it answers
asked_next : (config : Config) (round : Round) (a : RoundAnswers) (r : Reservation) (rest : List Reservation) → AreAnswers config round a (r ∷ rest) → is_among (keys_asked round) r.key ≡ true
asked_next config (LoadAll round) (answers.Loads done) r rest are = are.1.0.1
asked_next config (WriteAll round) (answers.Writes done) r rest are = are.1.0.1
asked_next config (ProcessAll round) (answers.Processes done written deleted) r rest are = are.1.0.1
asked_next config (LoadAll round) (answers.Writes done) r rest are = absurd are
asked_next config (LoadAll round) (answers.Processes done written deleted) r rest are = absurd are
asked_next config (WriteAll round) (answers.Loads done) r rest are = absurd are
asked_next config (WriteAll round) (answers.Processes done written deleted) r rest are = absurd are
asked_next config (ProcessAll round) (answers.Loads done) r rest are = absurd are
asked_next config (ProcessAll round) (answers.Writes done) r rest are = absurd are

module _ {I J : Type 0} {D : I → Type 0} {E : J → Type 0} (cache : CacheState) (past : CallPast) (old new : Session I J D E) (call later : BulkCall) (same : SameCall call later) where
  pub on_by : (ts ts' : List TicketClaim) (js js' : List JoinClaim) → IsOn cache past old call ts js
      → IsUnderway cache past.caller (ops_of call.targets.now) past.rounds past.first new later.progress.items (map reserved_by ts') js'
      → HasAskedSoFar cache.config (ops_of call.targets.now) past.rounds later.progress.items → IsMet call.cause later.progress.items (faults_in past.rounds) → IsOn cache past new later ts' js'
  on_by ts ts' js js' on under asked met = record {
    distinct = subst (λ t. IsDistinct (pointwise ◌==◌) (keys_of (ops_of t.now))) (sym same.targets) on.distinct;
    under = subst (λ t. IsUnderway cache past.caller (ops_of t.now) past.rounds past.first new later.progress.items (map reserved_by ts') js') (sym same.targets) under;
    asked = subst (λ t. HasAskedSoFar cache.config (ops_of t.now) past.rounds later.progress.items) (sym same.targets) asked;
    met = subst (λ c. IsMet c later.progress.items (faults_in past.rounds)) (sym same.cause) met;
    tickets_room = omega (arith, on.tickets_room, same.tickets_room, same.most);
    most = subst (λ t. IsRoomFor RESERVATIONS_MAX (length (ops_of t.now)) cache.config.stripes later.most) (sym same.targets) (subst (IsRoomFor RESERVATIONS_MAX (length (ops_of call.targets.now)) cache.config.stripes) (sym same.most) on.most);
    joins_room = subst (λ t. IsRoomFor JOINERS_MAX (length (ops_of t.now)) cache.config.stripes (vec_capacity later.joins)) (sym same.targets) (subst (IsRoomFor JOINERS_MAX (length (ops_of call.targets.now)) cache.config.stripes) (sym same.joins_room) on.joins_room);
  }

  pub advances_by : (counted : Counted) (key : Bytes) (Made : Type 0) (place : ℕ) (q p : KeyProgress) → later.progress.items ≡ set call.progress.items place p → slice_get call.progress.items place ≡ Some q
      → ((e : Result Reply Refusal) → q ≡ Ended e → ⊥) → (is_held_back p ≡ true → is_held_back q ≡ true) → IsKeyPhase cache old key counted new Made → Advances old new call later
  advances_by counted key Made place q p is there unended held phase = record {
    goes = subst (KeysAdvance old.seats.items new.seats.items call.progress.items) (sym is) (goes_set old.seats.items new.seats.items call.progress.items place q p phase.moves.grown there unended held);
    agent = phase.agent ∙ ap (λ k. record old.agent { counts = k }) (sym (ap (λ (a : Agent I J D E). a.counts) phase.agent));
    targets = same.targets;
    most = same.most;
    cause = keeps_same call.cause later.cause same.cause;
  }

  pub unnoted_by : (counted : Counted) (key : Bytes) (Made : Type 0) (place : ℕ) (q p : KeyProgress) → later.progress.items ≡ set call.progress.items place p → slice_get call.progress.items place ≡ Some q
      → ((e : Result Reply Refusal) → q ≡ Ended e → ⊥) → (is_held_back p ≡ true → is_held_back q ≡ true) → IsKeyPhase cache old key counted new Made → AdvancesUnnoted old new call later
  unnoted_by counted key Made place q p is there unended held phase = record { advances = advances_by counted key Made place q p is there unended held phase; cause = same.cause }

  -- 3. First phases.

  pub starting_on : (place : ℕ) (key : Bytes) (op : Op) (b : Begun) (p : KeyProgress) → later.progress.items ≡ set call.progress.items place p → slice_get (ops_of call.targets.now) place ≡ Some (key, op) → slice_get call.progress.items place ≡ Some Waiting
      → HasRoom call → IsKept b p call.tickets.items later.tickets.items call.joins.items later.joins.items
      → IsKeyPhase cache old key (counted_begun b) new (HasBegun old.agent.caller cache.config (view_of cache.config.stripes old.seats.items key) (view_of cache.config.stripes new.seats.items key) key op b)
      → IsStarting cache past old call place → IsStarting cache past new later (place + 1)
  starting_on place key op b p is at waits room kept phase starting =
      let on = starting.on in
      let ops = ops_of call.targets.now in
      let ps = call.progress.items in
      let unasked = unasked_at cache.config ops past.rounds ps place key op Waiting at waits refl on.asked in
      record {
        on = on_by call.tickets.items later.tickets.items call.joins.items later.joins.items on
            (subst (λ qs. IsUnderway cache past.caller ops past.rounds past.first new qs (map reserved_by later.tickets.items) later.joins.items) (sym is)
            (started_on cache past.caller ops past.rounds past.first old new ps call.tickets.items later.tickets.items call.joins.items later.joins.items place key op b p on.distinct at (place_near ps place Waiting waits) waits starting.settled unasked phase room.few_tickets room.few_joins kept on.under))
            (subst (HasAskedSoFar cache.config ops past.rounds) (sym is) (asked_set cache.config ops past.rounds ps place key op Waiting p at waits (inl unasked) on.asked))
            (subst (λ qs. IsMet call.cause qs (faults_in past.rounds)) (sym is) (met_stay call.cause ps (set ps place p) (faults_in past.rounds) (stay_set ps place Waiting p waits (λ e bad. cc)) on.met));
        fresh = fresh_more past.rounds old.agent.caller cache.config _ _ key op b p call.tickets.items later.tickets.items call.joins.items later.joins.items phase.made kept unasked starting.fresh;
        few = omega (arith, (kept_more b p call.tickets.items later.tickets.items call.joins.items later.joins.items kept).1, room.tickets, same.most);
        settled = subst (AreSettledFrom (place + 1)) (sym is) (settled_set ps place p starting.settled);
      }

  pub held_by : (place : ℕ) (key : Bytes) (op : Op) (b : Begun) (p : KeyProgress) → later.progress.items ≡ set call.progress.items place p → slice_get (ops_of call.targets.now) place ≡ Some (key, op) → slice_get call.progress.items place ≡ Some Waiting
      → IsKept b p call.tickets.items later.tickets.items call.joins.items later.joins.items
      → IsKeyPhase cache old key (counted_begun b) new (HasBegun old.agent.caller cache.config (view_of cache.config.stripes old.seats.items key) (view_of cache.config.stripes new.seats.items key) key op b)
      → IsStarting cache past old call place → IsHeldAt ⊥ place past.caller cache.config.stripes (ops_of later.targets.now) old.seats.items new.seats.items later.progress.items
  held_by place key op b p is at waits kept phase starting =
      let n = cache.config.stripes in
      let u = starting.on.under in
      let has : HasBegun past.caller cache.config (view_of n old.seats.items key) (view_of n new.seats.items key) key op b =
      subst (λ (c : Caller). HasBegun c cache.config (view_of n old.seats.items key) (view_of n new.seats.items key) key op b) u.caller_is phase.made in
      subst (λ t. IsHeldAt ⊥ place past.caller n (ops_of t.now) old.seats.items new.seats.items later.progress.items) (sym same.targets)
      (subst (IsHeldAt ⊥ place past.caller n (ops_of call.targets.now) old.seats.items new.seats.items) (sym is)
      (held_at past.caller n (ops_of call.targets.now) old.seats.items new.seats.items (set call.progress.items place p) place (key, op) p at (set_there call.progress.items place p (place_near call.progress.items place Waiting waits))
      (kept_held past.caller cache.config (view_of n old.seats.items key) (view_of n new.seats.items key) key op b p call.tickets.items later.tickets.items call.joins.items later.joins.items has kept)))

  pub kept_joined : (place : ℕ) (key : Bytes) (op : Op) (b : Begun) (p : KeyProgress) → later.progress.items ≡ set call.progress.items place p → slice_get (ops_of call.targets.now) place ≡ Some (key, op)
      → IsKept b p call.tickets.items later.tickets.items call.joins.items later.joins.items
      → IsKeyPhase cache old key (counted_begun b) new (HasBegun old.agent.caller cache.config (view_of cache.config.stripes old.seats.items key) (view_of cache.config.stripes new.seats.items key) key op b)
      → IsStarting cache past old call place → KeepsJoined past.caller cache old new call later
  kept_joined place key op b p is at kept phase starting start grown have =
      let n = cache.config.stripes in
      let has : HasBegun past.caller cache.config (view_of n old.seats.items key) (view_of n new.seats.items key) key op b =
      subst (λ (c : Caller). HasBegun c cache.config (view_of n old.seats.items key) (view_of n new.seats.items key) key op b) starting.on.under.caller_is phase.made in
      subst (λ t. HaveJoined past.caller n (ops_of t.now) start new.seats.items later.progress.items) (sym same.targets)
      (subst (HaveJoined past.caller n (ops_of call.targets.now) start new.seats.items) (sym is)
      (have_more past.caller cache.config n (ops_of call.targets.now) start old.seats.items new.seats.items call.progress.items place key op b p call.tickets.items later.tickets.items call.joins.items later.joins.items at grown phase.moves.grown has kept have))

  -- 4. Last phases.

  pub committing_on : (round : Round) (place : ℕ) (ticket : TicketClaim) (rest : List TicketClaim) (reply : Reply) (a a' : RoundAnswers) → later.progress.items ≡ set call.progress.items place (Ended (Ok reply)) → later.joins.items ≡ call.joins.items
      → slice_get call.progress.items place ≡ Some Reserved → AreAnswers cache.config round a' (map reserved_by rest)
      → IsKeyPhase cache old ticket.reservation.key Committed new
      ((out : Out) × IsAnswer cache.config round ticket.reservation.key ticket.reservation.first out
      × IsCommitted cache.config old.agent.caller ticket.reservation out (view_of cache.config.stripes old.seats.items ticket.reservation.key) (view_of cache.config.stripes new.seats.items ticket.reservation.key) reply)
      → IsCommitting cache past round old call (ticket ∷ rest) a place → IsCommitting cache past round new later rest a' (place + 1)
  committing_on round place ticket rest reply a a' is joins there answered phase next =
      let on = next.on in
      let ops = ops_of call.targets.now in
      let ps = call.progress.items in
      let r = ticket.reservation in
      let others = map reserved_by rest in
      let t = first_ticket cache past.caller ops past.rounds past.first old ps r others call.joins.items place (Ended (Ok reply)) there next.committed refl on.under in
      record {
        on = subst (IsOn cache past new later rest) (sym joins)
            (on_by (ticket ∷ rest) rest call.joins.items call.joins.items on
            (subst (λ qs. IsUnderway cache past.caller ops past.rounds past.first new qs others call.joins.items) (sym is)
            (committed_on cache past.caller ops past.rounds past.first old new ps r phase.made.0 others call.joins.items place reply round on.distinct there next.committed next.among (asked_next cache.config round a r others next.answered) phase.made.1
            (record { own = phase.own; agent = phase.agent; moves = phase.moves; made = phase.made.2 }) on.under))
            (subst (HasAskedSoFar cache.config ops past.rounds) (sym is) (asked_set cache.config ops past.rounds ps place r.key t.0 Reserved (Ended (Ok reply)) t.1 there (inr refl) on.asked))
            (subst (λ qs. IsMet call.cause qs (faults_in past.rounds)) (sym is) (met_stay call.cause ps (set ps place (Ended (Ok reply))) (faults_in past.rounds) (stay_set ps place Reserved (Ended (Ok reply)) there (λ e bad. cc)) on.met)));
        among = next.among;
        answered = answered;
        committed = subst (AreUnder holds_reservation (place + 1)) (sym is) (under_set holds_reservation ps place (Ended (Ok reply)) refl next.committed);
      }

  -- 5. Pick-ups.

  pub picking_on : (place : ℕ) (join : JoinClaim) (rest : List JoinClaim) (p : Polled) (q : KeyProgress) → later.progress.items ≡ set call.progress.items place q → later.tickets.items ≡ call.tickets.items
      → slice_get call.progress.items place ≡ Some Joined → IsPicked p q
      → IsKeyPhase cache old join.key (counted_polled p) new
      ((before : View) → HasGrown before (view_of cache.config.stripes old.seats.items join.key) → IsJoinFor old.agent.caller before join.key Get join
      → HasPicked cache.config old.agent.caller before (view_of cache.config.stripes new.seats.items join.key) join.key Get p)
      → IsPicking cache past old call (join ∷ rest) place → IsPicking cache past new later rest (place + 1)
  picking_on place join rest p q is tickets there picked phase next =
      let on = next.on in
      let ops = ops_of call.targets.now in
      let ps = call.progress.items in
      let isnt = picked_not_joined p q picked in
      let t = first_join cache past.caller ops past.rounds past.first old ps [] join rest place q there next.picked isnt on.under in
      let unasked = unasked_at cache.config ops past.rounds ps place join.key Get Joined t.0 there refl on.asked in
      record {
        on =
            on_by [] [] (join ∷ rest) rest on
            (subst (λ qs. IsUnderway cache past.caller ops past.rounds past.first new qs [] rest) (sym is)
            (picked_on cache past.caller ops past.rounds past.first old new ps [] join rest place p q on.distinct there next.picked unasked phase picked on.under))
            (subst (HasAskedSoFar cache.config ops past.rounds) (sym is) (asked_set cache.config ops past.rounds ps place join.key Get Joined q t.0 there (inl unasked) on.asked))
            (subst (λ qs. IsMet call.cause qs (faults_in past.rounds)) (sym is) (met_stay call.cause ps (set ps place q) (faults_in past.rounds) (stay_set ps place Joined q there (λ e bad. cc)) on.met));
        no_tickets = tickets ∙ next.no_tickets;
        picked = subst (AreUnder waits_for_joined_load (place + 1)) (sym is) (under_set waits_for_joined_load ps place q isnt next.picked);
      }
