-- A call under way, as one of its keys goes on by one phase.
--     kept_at          how far a first phase leaves the key
--     join_since       a join that fits since a later view fits since an earlier one
--     count_more       one more is out
--     started_on       a first phase
--     committed_on     a commit
--     picked_on        a pick-up
--     first_ticket, first_join    the first of what is out is of the first key that is so far
--     stay_itself, stay_on, stay_set    keys that have ended stay so
--     under_set, under_next, settled_set, settled_next    the keys before a place, and from it on
use Rattle.jc_rounds.proofs.Common.{◌≡◌, ◌⊎◌, ⊎_elim, inl, inr, ◌<◌, ◌≤◌, ◌+◌, ◌-◌, ℕ, zero, suc, List, [], ◌∷◌, ◌++◌, length, length-set, set, reverse, Bool, true, false, None, Some, Result, Ok, Err, nat_lt, if◌then◌else◌, get_or, slice_get, refl, sym, ap, subst, ◌∙◌, arith, length-append, reverse-append, same_Some, slice_get-get_or, IsDistinct, keys_of, pointwise, stripe_of, Caller, Config, Refusal, Bytes, may_come, Op, Get, Out, Reply, last_number, JoinClaim, TicketClaim, is_among, reserved_by, map-append, IsAmong, map, Begun, Polled, Reservation, View, one_more, counts_after, counted_begun, counted_polled, Agent, CacheState, Session, KeyProgress, Waiting, Reserved, Joined, Ended, StayEnded, holds_reservation, is_settled, waits_for_joined_load, waits_for_round, HasBegun, HasPicked, IsAt, IsCommitted, IsJoinFor, IsTicketFor, steps_of, IsAnswer, Round, asked_in, keys_asked, HasGrown, MovesAtKey, view_of, AreIn, AreSettledFrom, AreUnder, IsKept, IsPicked, IsUnderway, ◌==◌, not, ◌||◌}
use Rattle.jc_types.specs.Refusals.{is_put_off}
use Rattle.jc_stripe.specs.Outcomes as begun
use Rattle.jc_stripe.specs.Polled as polled
use Rattle.jc_session.specs.declared.counts.Counted.TheVariants.{Committed}
use Rattle.jc_session.specs.declared.counts.Counts.{Counts}
use Rattle.jc_rounds.specs.KeyPhases.{IsKeyPhase}
use Rattle.jc_rounds.proofs.KeyPhases.{all_before}
use Rattle.jc_rounds.proofs.Out.{keep_in, pop_in, push_in}
use Rattle.jc_rounds.proofs.SeatPhases.{Seated}
use Rattle.jc_rounds.proofs.SoFar.{at_more, at_since, goes_on}

-- 1. First phases.

refused_at : (caller : Caller) (config : Config) (v w : View) (key : Bytes) (op : Op) (refusal : Refusal) (b : Bool) → is_put_off refusal ≡ b → HasBegun caller config v w key op (begun.Refused refusal)
    → IsAt config caller [] v w key op (if b then Waiting else Ended (Err refusal))
refused_at caller config v w key op refusal true is has = has.0
refused_at caller config v w key op refusal false is has = (has.0, refl, ⊎_elim (λ put_off. absurd (let bad : true ≡ false = sym put_off ∙ is in cc)) (λ full. inr (full, has.3)) has.1)

pub kept_at : (caller : Caller) (config : Config) (v w : View) (key : Bytes) (op : Op) (b : Begun) (p : KeyProgress) (ts ts' : List TicketClaim) (joins joins' : List JoinClaim) → HasBegun caller config v w key op b → IsKept b p ts ts' joins joins'
    → IsAt config caller [] v w key op p
kept_at caller config v w key op (begun.Done done) p ts ts' joins joins' has kept = subst (IsAt config caller [] v w key op) (sym kept.0) has
kept_at caller config v w key op (begun.Refused refusal) p ts ts' joins joins' has kept = subst (IsAt config caller [] v w key op) (sym kept.0) (refused_at caller config v w key op refusal (is_put_off refusal) refl has)
kept_at caller config v w key op (begun.Asks ticket) p ts ts' joins joins' has kept = subst (IsAt config caller [] v w key op) (sym kept.0) has.0
kept_at caller config v w key op (begun.Joined join) p ts ts' joins joins' has kept = subst (IsAt config caller [] v w key op) (sym kept.0) has.0

pub join_since : (caller : Caller) (u v : View) (key : Bytes) (op : Op) (join : JoinClaim) → HasGrown u v → IsJoinFor caller v key op join → IsJoinFor caller u key op join
join_since caller u v key op join grown is = record {
  caller_is = is.caller_is;
  key_is = is.key_is;
  op_is = is.op_is;
  early = is.early;
  fresh = all_before (λ e. may_come e caller key) u.front v.front grown.front is.fresh;
}

one_longer : {X : Type 0} (xs : List X) (x : X) → length (xs ++ x ∷ []) ≡ length xs + 1
one_longer xs x = length-append xs (x ∷ [])

pub one_less : {X : Type 0} (x : X) (xs : List X) → length (x ∷ xs) - 1 ≡ length xs
one_less x xs = omega arith

pub count_more : {X : Type 0} (xs : List X) (x : X) (n : ℕ) → n ≡ length xs → nat_lt (length xs) last_number ≡ true → one_more n ≡ length (xs ++ x ∷ [])
count_more xs x n is few = ap one_more is ∙ ap (λ b. if b then length xs + 1 else length xs) few ∙ sym (one_longer xs x)

pub reserved_more : (ts : List TicketClaim) (t : TicketClaim) → map reserved_by (ts ++ t ∷ []) ≡ map reserved_by ts ++ t.reservation ∷ []
reserved_more ts t = map-append reserved_by ts (t ∷ [])

pub as_many : {X Y : Type 0} (f : X → Y) (xs : List X) → length (map f xs) ≡ length xs
as_many f [] = refl
as_many f (x ∷ xs) = ap suc (as_many f xs)

-- what is counted of a first phase
reserved_count : (b : Begun) (p : KeyProgress) (counts : Counts) (ts ts' : List TicketClaim) (joins joins' : List JoinClaim) → IsKept b p ts ts' joins joins' → nat_lt (length ts) last_number ≡ true → counts.reservations ≡ length (map reserved_by ts)
    → (counts_after counts (counted_begun b)).reservations ≡ length (map reserved_by ts')
reserved_count (begun.Done done) p counts ts ts' joins joins' kept few is = is ∙ ap (λ xs. length (map reserved_by xs)) (sym kept.1)
reserved_count (begun.Refused refusal) p counts ts ts' joins joins' kept few is = is ∙ ap (λ xs. length (map reserved_by xs)) (sym kept.1)
reserved_count (begun.Asks ticket) p counts ts ts' joins joins' kept few is =
    count_more (map reserved_by ts) ticket.reservation counts.reservations is (ap (λ n. nat_lt n last_number) (as_many reserved_by ts) ∙ few) ∙ ap length (sym (reserved_more ts ticket)) ∙ ap (λ xs. length (map reserved_by xs)) (sym kept.1)
reserved_count (begun.Joined join) p counts ts ts' joins joins' kept few is = is ∙ ap (λ xs. length (map reserved_by xs)) (sym kept.1)

joined_count : (b : Begun) (p : KeyProgress) (counts : Counts) (ts ts' : List TicketClaim) (joins joins' : List JoinClaim) → IsKept b p ts ts' joins joins' → nat_lt (length joins) last_number ≡ true → counts.joins ≡ length joins
    → (counts_after counts (counted_begun b)).joins ≡ length joins'
joined_count (begun.Done done) p counts ts ts' joins joins' kept few is = is ∙ ap length (sym kept.2)
joined_count (begun.Refused refusal) p counts ts ts' joins joins' kept few is = is ∙ ap length (sym kept.2)
joined_count (begun.Asks ticket) p counts ts ts' joins joins' kept few is = is ∙ ap length (sym kept.2)
joined_count (begun.Joined join) p counts ts ts' joins joins' kept few is = count_more joins join counts.joins is few ∙ ap length (sym kept.2)

refused_is : (has : KeyProgress → Bool) (refusal : Refusal) (b : Bool) → has Waiting ≡ false → has (Ended (Err refusal)) ≡ false → has (if b then Waiting else Ended (Err refusal)) ≡ false
refused_is has refusal true w e = w
refused_is has refusal false w e = e

pub settled_not_reserved : (p : KeyProgress) → is_settled p ≡ true → holds_reservation p ≡ false
settled_not_reserved Waiting h = refl
settled_not_reserved Reserved h = cc
settled_not_reserved Joined h = refl
settled_not_reserved (Ended ended) h = refl

settled_not_joined : (p : KeyProgress) → is_settled p ≡ true → waits_for_joined_load p ≡ false
settled_not_joined Waiting h = refl
settled_not_joined Reserved h = refl
settled_not_joined Joined h = cc
settled_not_joined (Ended ended) h = refl

module _ (caller : Caller) (config : Config) (targets : List (Bytes × Op)) (ps : List KeyProgress) (place : ℕ) (key : Bytes) (op : Op) (v w : View) (there : slice_get targets place ≡ Some (key, op)) (near : place < length ps)
    (waits : slice_get ps place ≡ Some Waiting) (behind : AreSettledFrom place ps) where
  kept_same : (p : KeyProgress) (ts ts' : List TicketClaim) → ts' ≡ ts → holds_reservation p ≡ false → AreIn holds_reservation (IsTicketFor caller config) targets ps (map reserved_by ts) → AreIn holds_reservation (IsTicketFor caller config) targets (set ps place p) (map reserved_by ts')
  kept_same p ts ts' same isnt are =
      subst (AreIn holds_reservation (IsTicketFor caller config) targets (set ps place p)) (ap (map reserved_by) (sym same)) (keep_in holds_reservation (IsTicketFor caller config) targets ps (map reserved_by ts) place Waiting p waits (sym isnt) are)

  kept_calls : (b : Begun) (p : KeyProgress) (ts ts' : List TicketClaim) (joins joins' : List JoinClaim) → HasBegun caller config v w key op b → IsKept b p ts ts' joins joins'
      → AreIn holds_reservation (IsTicketFor caller config) targets ps (map reserved_by ts) → AreIn holds_reservation (IsTicketFor caller config) targets (set ps place p) (map reserved_by ts')
  kept_calls (begun.Asks ticket) p ts ts' joins joins' has kept are =
      subst (AreIn holds_reservation (IsTicketFor caller config) targets (set ps place p)) (sym (reserved_more ts ticket) ∙ ap (map reserved_by) (sym kept.1))
      (push_in holds_reservation (IsTicketFor caller config) targets ps (map reserved_by ts) place key op p ticket.reservation there near (λ j q le at. settled_not_reserved q (behind j q le at)) (ap holds_reservation kept.0) has.3 are)
  kept_calls (begun.Done done) p ts ts' joins joins' has kept are = kept_same p ts ts' kept.1 (ap holds_reservation kept.0) are
  kept_calls (begun.Refused refusal) p ts ts' joins joins' has kept are = kept_same p ts ts' kept.1 (ap holds_reservation kept.0 ∙ refused_is holds_reservation refusal (is_put_off refusal) refl refl) are
  kept_calls (begun.Joined join) p ts ts' joins joins' has kept are = kept_same p ts ts' kept.1 (ap holds_reservation kept.0) are

  kept_joins : (fits : Bytes → Op → JoinClaim → Type 0) → ((join : JoinClaim) → IsJoinFor caller v key op join → fits key op join) → (b : Begun) (p : KeyProgress) (ts ts' : List TicketClaim) (joins joins' : List JoinClaim)
      → HasBegun caller config v w key op b → IsKept b p ts ts' joins joins' → AreIn waits_for_joined_load fits targets ps joins → AreIn waits_for_joined_load fits targets (set ps place p) joins'
  kept_joins fits fit (begun.Joined join) p ts ts' joins joins' has kept are =
      subst (AreIn waits_for_joined_load fits targets (set ps place p)) (sym kept.2)
      (push_in waits_for_joined_load fits targets ps joins place key op p join there near (λ j q le at. settled_not_joined q (behind j q le at)) (ap waits_for_joined_load kept.0) (fit join has.1) are)
  kept_joins fits fit (begun.Done done) p ts ts' joins joins' has kept are =
      subst (AreIn waits_for_joined_load fits targets (set ps place p)) (sym kept.2) (keep_in waits_for_joined_load fits targets ps joins place Waiting p waits (sym (ap waits_for_joined_load kept.0)) are)
  kept_joins fits fit (begun.Refused refusal) p ts ts' joins joins' has kept are =
      subst (AreIn waits_for_joined_load fits targets (set ps place p)) (sym kept.2)
      (keep_in waits_for_joined_load fits targets ps joins place Waiting p waits (sym (ap waits_for_joined_load kept.0 ∙ refused_is waits_for_joined_load refusal (is_put_off refusal) refl refl)) are)
  kept_joins fits fit (begun.Asks ticket) p ts ts' joins joins' has kept are =
      subst (AreIn waits_for_joined_load fits targets (set ps place p)) (sym kept.2) (keep_in waits_for_joined_load fits targets ps joins place Waiting p waits (sym (ap waits_for_joined_load kept.0)) are)

module _ {I J : Type 0} {D : I → Type 0} {E : J → Type 0} where
  pub started_on : (cache : CacheState) (caller : Caller) (targets : List (Bytes × Op)) (rounds : List Round) (first : List Seated) (old new : Session I J D E) (ps : List KeyProgress) (ts ts' : List TicketClaim) (joins joins' : List JoinClaim)
      (place : ℕ) (key : Bytes) (op : Op) (b : Begun) (p : KeyProgress) → IsDistinct (pointwise ◌==◌) (keys_of targets) → slice_get targets place ≡ Some (key, op) → place < length ps → slice_get ps place ≡ Some Waiting → AreSettledFrom place ps
      → is_among (asked_in rounds) key ≡ false
      → IsKeyPhase cache old key (counted_begun b) new (HasBegun old.agent.caller cache.config (view_of cache.config.stripes old.seats.items key) (view_of cache.config.stripes new.seats.items key) key op b)
      → nat_lt (length ts) last_number ≡ true → nat_lt (length joins) last_number ≡ true → IsKept b p ts ts' joins joins'
      → IsUnderway cache caller targets rounds first old ps (map reserved_by ts) joins → IsUnderway cache caller targets rounds first new (set ps place p) (map reserved_by ts') joins'
  started_on cache caller targets rounds first old new ps ts ts' joins joins' place key op b p distinct there near waits behind unasked phase few few_joins kept u =
      let n = cache.config.stripes in
      let v = view_of n old.seats.items key in
      let w = view_of n new.seats.items key in
      let moved : MovesAtKey caller n key old.seats.items new.seats.items = subst (λ (c : Caller). MovesAtKey c n key old.seats.items new.seats.items) u.caller_is phase.moves in
      let has : HasBegun caller cache.config v w key op b = subst (λ (c : Caller). HasBegun c cache.config v w key op b) u.caller_is phase.made in
      let grown = u.so_far.grown (stripe_of key n) in
      record {
        own = phase.own;
        caller_is = ap (λ (a : Agent I J D E). a.caller) phase.agent ∙ u.caller_is;
        reservations = ap (λ (a : Agent I J D E). a.counts.reservations) phase.agent ∙ reserved_count b p old.agent.counts ts ts' joins joins' kept few u.reservations;
        joins_out = ap (λ (a : Agent I J D E). a.counts.joins) phase.agent ∙ joined_count b p old.agent.counts ts ts' joins joins' kept few_joins u.joins_out;
        so_far = goes_on cache.config caller n targets rounds first old.seats.items new.seats.items ps place key op p distinct there u.so_far moved
            (at_since cache.config caller rounds (view_of n first key) v w key op p grown
            (at_more cache.config caller [] rounds v w key op p (λ e is. unasked) (kept_at caller cache.config v w key op b p ts ts' joins joins' has kept)));
        calls_are = kept_calls caller cache.config targets ps place key op v w there near waits behind b p ts ts' joins joins' has kept u.calls_are;
        joins_are = kept_joins caller cache.config targets ps place key op v w there near waits behind
            (λ k o j. IsJoinFor caller (view_of n first k) k o j) (λ join is. join_since caller (view_of n first key) v key op join grown is)
            b p ts ts' joins joins' has kept u.joins_are;
      }

-- 2. Commits.

module _ {I J : Type 0} {D : I → Type 0} {E : J → Type 0} where
  -- the ticket of the first key that is reserved
  pub first_ticket : (cache : CacheState) (caller : Caller) (targets : List (Bytes × Op)) (rounds : List Round) (first : List Seated) (session : Session I J D E) (ps : List KeyProgress) (r : Reservation) (rest : List Reservation) (joins : List JoinClaim)
      (place : ℕ) (p : KeyProgress) → slice_get ps place ≡ Some Reserved → AreUnder holds_reservation place ps → holds_reservation p ≡ false → IsUnderway cache caller targets rounds first session ps (r ∷ rest) joins
      → (op : Op) × (slice_get targets place ≡ Some (r.key, op)) × IsTicketFor caller cache.config r.key op r × AreIn holds_reservation (IsTicketFor caller cache.config) targets (set ps place p) rest
      × (steps_of caller r.key (view_of cache.config.stripes session.seats.items r.key).own ≡ [])
  first_ticket cache caller targets rounds first session ps r rest joins place p there before isnt u =
      let popped = pop_in holds_reservation (IsTicketFor caller cache.config) targets ps (r ∷ rest) place Reserved p u.so_far.many there refl before isnt u.calls_are in
      let same : popped.2 ≡ r = cc in
      let others : popped.3 ≡ rest = cc in
      let fits : IsTicketFor caller cache.config popped.0 popped.1 r = subst (IsTicketFor caller cache.config popped.0 popped.1) same popped.6 in
      let key : popped.0 ≡ r.key = sym fits.key_is in
      let at : slice_get targets place ≡ Some (r.key, popped.1) = popped.4 ∙ ap (λ k. Some (k, popped.1)) key in (
        popped.1,
        at,
        subst (λ k. IsTicketFor caller cache.config k popped.1 r) key fits,
        subst (AreIn holds_reservation (IsTicketFor caller cache.config) targets (set ps place p)) others popped.7,
        u.so_far.each place r.key popped.1 Reserved at there,
      )

  pub committed_on : (cache : CacheState) (caller : Caller) (targets : List (Bytes × Op)) (rounds : List Round) (first : List Seated) (old new : Session I J D E) (ps : List KeyProgress) (r : Reservation) (out : Out) (rest : List Reservation) (joins : List JoinClaim)
      (place : ℕ) (reply : Reply) (round : Round) → IsDistinct (pointwise ◌==◌) (keys_of targets) → slice_get ps place ≡ Some Reserved → AreUnder holds_reservation place ps → IsAmong rounds round → is_among (keys_asked round) r.key ≡ true → IsAnswer cache.config round r.key r.first out
      → IsKeyPhase cache old r.key Committed new (IsCommitted cache.config old.agent.caller r out (view_of cache.config.stripes old.seats.items r.key) (view_of cache.config.stripes new.seats.items r.key) reply)
      → IsUnderway cache caller targets rounds first old ps (r ∷ rest) joins → IsUnderway cache caller targets rounds first new (set ps place (Ended (Ok reply))) rest joins
  committed_on cache caller targets rounds first old new ps r out rest joins place reply round distinct there before among asked said phase u =
      let n = cache.config.stripes in
      let v = view_of n old.seats.items r.key in
      let w = view_of n new.seats.items r.key in
      let t = first_ticket cache caller targets rounds first old ps r rest joins place (Ended (Ok reply)) there before refl u in
      let moved : MovesAtKey caller n r.key old.seats.items new.seats.items = subst (λ (c : Caller). MovesAtKey c n r.key old.seats.items new.seats.items) u.caller_is phase.moves in
      let made : IsCommitted cache.config caller r out v w reply = subst (λ (c : Caller). IsCommitted cache.config c r out v w reply) u.caller_is phase.made in
      let at : IsAt cache.config caller rounds v w r.key r.op (Ended (Ok reply)) = record {
        out = out;
        shared_with = None;
        place = made.place;
        told = inr (
          round,
          among,
          asked,
          record {
            decided = made.made.decided;
            reached = made.made.reached;
            later = made.made.later;
            same = made.made.same;
            next = made.made.next;
            entry = subst (λ f. IsAnswer cache.config round r.key f out) (sym made.made.entry) said;
          },
        );
        one = made.one;
        all = made.all;
        there = made.there;
        behind = made.behind;
      } in
      record {
        own = phase.own;
        caller_is = ap (λ (a : Agent I J D E). a.caller) phase.agent ∙ u.caller_is;
        reservations = ap (λ (a : Agent I J D E). a.counts.reservations) phase.agent ∙ ap (λ k. k - 1) u.reservations ∙ one_less r rest;
        joins_out = ap (λ (a : Agent I J D E). a.counts.joins) phase.agent ∙ u.joins_out;
        so_far = goes_on cache.config caller n targets rounds first old.seats.items new.seats.items ps place r.key t.0 (Ended (Ok reply)) distinct t.1 u.so_far moved
            (at_since cache.config caller rounds (view_of n first r.key) v w r.key t.0 (Ended (Ok reply)) (u.so_far.grown (stripe_of r.key n))
            (subst (λ o. IsAt cache.config caller rounds v w r.key o (Ended (Ok reply))) t.2.op_is at));
        calls_are = t.3;
        joins_are = keep_in waits_for_joined_load _ targets ps joins place Reserved (Ended (Ok reply)) there refl u.joins_are;
      }

-- 3. Pick-ups.

picked_at : (config : Config) (caller : Caller) (first w : View) (key : Bytes) (p : Polled) (q : KeyProgress) → HasPicked config caller first w key Get p → IsPicked p q → IsAt config caller [] first w key Get q
picked_at config caller first w key (polled.Answer reply place shared_with) q has is = subst (IsAt config caller [] first w key Get) (sym is) has
picked_at config caller first w key polled.Again q has is = subst (IsAt config caller [] first w key Get) (sym is) has
picked_at config caller first w key (polled.NotYet join) q has is = absurd is

picked_settled : (p : Polled) (q : KeyProgress) → IsPicked p q → is_settled q ≡ true
picked_settled (polled.Answer reply place shared_with) q is = ap is_settled is
picked_settled polled.Again q is = ap is_settled is
picked_settled (polled.NotYet join) q is = absurd is

picked_joins : (p : Polled) (q : KeyProgress) (counts : Counts) → IsPicked p q → (counts_after counts (counted_polled p)).joins ≡ counts.joins - 1
picked_joins (polled.Answer reply place shared_with) q counts is = refl
picked_joins polled.Again q counts is = refl
picked_joins (polled.NotYet join) q counts is = absurd is

picked_reservations : (p : Polled) (counts : Counts) → (counts_after counts (counted_polled p)).reservations ≡ counts.reservations
picked_reservations (polled.Answer reply place shared_with) counts = refl
picked_reservations polled.Again counts = refl
picked_reservations (polled.NotYet join) counts = refl

module _ {I J : Type 0} {D : I → Type 0} {E : J → Type 0} where
  -- the join of the first key that has joined a load
  pub first_join : (cache : CacheState) (caller : Caller) (targets : List (Bytes × Op)) (rounds : List Round) (first : List Seated) (session : Session I J D E) (ps : List KeyProgress) (calls : List Reservation) (join : JoinClaim) (rest : List JoinClaim)
      (place : ℕ) (p : KeyProgress) → slice_get ps place ≡ Some Joined → AreUnder waits_for_joined_load place ps → waits_for_joined_load p ≡ false → IsUnderway cache caller targets rounds first session ps calls (join ∷ rest)
      → (slice_get targets place ≡ Some (join.key, Get)) × IsJoinFor caller (view_of cache.config.stripes first join.key) join.key Get join
      × AreIn waits_for_joined_load (λ k o j. IsJoinFor caller (view_of cache.config.stripes first k) k o j) targets (set ps place p) rest
      × (steps_of caller join.key (view_of cache.config.stripes session.seats.items join.key).own ≡ [])
  first_join cache caller targets rounds first session ps calls join rest place p there before isnt u =
      let n = cache.config.stripes in
      let popped = pop_in waits_for_joined_load (λ k o j. IsJoinFor caller (view_of n first k) k o j) targets ps (join ∷ rest) place Joined p u.so_far.many there refl before isnt u.joins_are in
      let same : popped.2 ≡ join = cc in
      let others : popped.3 ≡ rest = cc in
      let fits : IsJoinFor caller (view_of n first popped.0) popped.0 popped.1 join = subst (IsJoinFor caller (view_of n first popped.0) popped.0 popped.1) same popped.6 in
      let key : popped.0 ≡ join.key = sym fits.key_is in
      let at : slice_get targets place ≡ Some (join.key, Get) = popped.4 ∙ ap (λ k. Some (k, popped.1)) key ∙ ap (λ o. Some (join.key, o)) fits.op_is in (
        at,
        subst (λ o. IsJoinFor caller (view_of n first join.key) join.key o join) fits.op_is (subst (λ k. IsJoinFor caller (view_of n first k) k popped.1 join) key fits),
        subst (AreIn waits_for_joined_load (λ k o j. IsJoinFor caller (view_of n first k) k o j) targets (set ps place p)) others popped.7,
        u.so_far.each place join.key Get Joined at there,
      )

  pub picked_on : (cache : CacheState) (caller : Caller) (targets : List (Bytes × Op)) (rounds : List Round) (first : List Seated) (old new : Session I J D E) (ps : List KeyProgress) (calls : List Reservation) (join : JoinClaim) (rest : List JoinClaim)
      (place : ℕ) (p : Polled) (q : KeyProgress) → IsDistinct (pointwise ◌==◌) (keys_of targets) → slice_get ps place ≡ Some Joined → AreUnder waits_for_joined_load place ps → is_among (asked_in rounds) join.key ≡ false
      → IsKeyPhase cache old join.key (counted_polled p) new
      ((before : View) → HasGrown before (view_of cache.config.stripes old.seats.items join.key) → IsJoinFor old.agent.caller before join.key Get join
      → HasPicked cache.config old.agent.caller before (view_of cache.config.stripes new.seats.items join.key) join.key Get p)
      → IsPicked p q → IsUnderway cache caller targets rounds first old ps calls (join ∷ rest) → IsUnderway cache caller targets rounds first new (set ps place q) calls rest
  picked_on cache caller targets rounds first old new ps calls join rest place p q distinct there before unasked phase is u =
      let n = cache.config.stripes in
      let settled = picked_settled p q is in
      let t = first_join cache caller targets rounds first old ps calls join rest place q there before (settled_not_joined q settled) u in
      let moved : MovesAtKey caller n join.key old.seats.items new.seats.items = subst (λ (c : Caller). MovesAtKey c n join.key old.seats.items new.seats.items) u.caller_is phase.moves in
      let gives : HasPicked cache.config caller (view_of n first join.key) (view_of n new.seats.items join.key) join.key Get p =
      subst (λ (c : Caller). HasPicked cache.config c (view_of n first join.key) (view_of n new.seats.items join.key) join.key Get p) u.caller_is
      (phase.made (view_of n first join.key) (u.so_far.grown (stripe_of join.key n)) (subst (λ (c : Caller). IsJoinFor c (view_of n first join.key) join.key Get join) (sym u.caller_is) t.1)) in
      record {
        own = phase.own;
        caller_is = ap (λ (a : Agent I J D E). a.caller) phase.agent ∙ u.caller_is;
        reservations = ap (λ (a : Agent I J D E). a.counts.reservations) phase.agent ∙ picked_reservations p old.agent.counts ∙ u.reservations;
        joins_out = ap (λ (a : Agent I J D E). a.counts.joins) phase.agent ∙ picked_joins p q old.agent.counts is ∙ ap (λ k. k - 1) u.joins_out ∙ one_less join rest;
        so_far = goes_on cache.config caller n targets rounds first old.seats.items new.seats.items ps place join.key Get q distinct t.0 u.so_far moved
            (at_more cache.config caller [] rounds (view_of n first join.key) (view_of n new.seats.items join.key) join.key Get q (λ e is. unasked) (picked_at cache.config caller (view_of n first join.key) (view_of n new.seats.items join.key) join.key p q gives is));
        calls_are = keep_in holds_reservation (IsTicketFor caller cache.config) targets ps calls place Joined q there (sym (settled_not_reserved q settled)) u.calls_are;
        joins_are = t.2;
      }

-- 4. Keys that have ended.

pub stay_itself : (ps : List KeyProgress) → StayEnded ps ps
stay_itself ps = record { many = refl; ended = λ place e at. at }

pub stay_on : (ps qs rs : List KeyProgress) → StayEnded ps qs → StayEnded qs rs → StayEnded ps rs
stay_on ps qs rs p q = record { many = q.many ∙ p.many; ended = λ place e at. q.ended place e (p.ended place e at) }

set_other : (ps : List KeyProgress) (i j : ℕ) (q p : KeyProgress) (e : Result Reply Refusal) → slice_get ps i ≡ Some q → (q ≡ Ended e → ⊥) → slice_get ps j ≡ Some (Ended e) → slice_get (set ps i p) j ≡ Some (Ended e)
set_other [] i j q p e at unended there = cc
set_other (x ∷ ps) zero zero q p e at unended there = absurd (unended (sym (same_Some x q at) ∙ same_Some x (Ended e) there))
set_other (x ∷ ps) zero (suc j) q p e at unended there = there
set_other (x ∷ ps) (suc i) zero q p e at unended there = there
set_other (x ∷ ps) (suc i) (suc j) q p e at unended there = set_other ps i j q p e at unended there

pub stay_set : (ps : List KeyProgress) (i : ℕ) (q p : KeyProgress) → slice_get ps i ≡ Some q → ((e : Result Reply Refusal) → q ≡ Ended e → ⊥) → StayEnded ps (set ps i p)
stay_set ps i q p at unended = record { many = length-set ps i p; ended = λ place e there. set_other ps i place q p e at (unended e) there }

-- what is under a place, once the key there goes on
pub set_get : (ps : List KeyProgress) (i j : ℕ) (p r : KeyProgress) → slice_get (set ps i p) j ≡ Some r → ((j ≡ i) × (r ≡ p)) ⊎ ((j ≡ i → ⊥) × (slice_get ps j ≡ Some r))
set_get [] i j p r at = cc
set_get (x ∷ ps) zero zero p r at = inl (refl, sym (same_Some p r at))
set_get (x ∷ ps) zero (suc j) p r at = inr ((λ e. cc), at)
set_get (x ∷ ps) (suc i) zero p r at = inr ((λ e. cc), at)
set_get (x ∷ ps) (suc i) (suc j) p r at = ⊎_elim (λ t. inl (ap suc t.0, t.1)) (λ t. inr ((λ e. t.0 (omega arith)), t.1)) (set_get ps i j p r at)

pub under_set : (has : KeyProgress → Bool) (ps : List KeyProgress) (i : ℕ) (p : KeyProgress) → has p ≡ false → AreUnder has i ps → AreUnder has (i + 1) (set ps i p)
under_set has ps i p isnt under j r less at = ⊎_elim (λ t. ap has t.1 ∙ isnt) (λ t. under j r (let apart = t.0 in omega arith) t.1) (set_get ps i j p r at)

pub below_or : (j i : ℕ) → j < i + 1 → (j ≡ i) ⊎ (j < i)
below_or zero zero less = inl refl
below_or zero (suc i) less = inr (omega arith)
below_or (suc j) zero less = absurd (omega arith)
below_or (suc j) (suc i) less = ⊎_elim (λ t. inl (ap suc t)) (λ t. inr (omega arith)) (below_or j i (omega arith))

pub under_next : (has : KeyProgress → Bool) (ps : List KeyProgress) (i : ℕ) (q : KeyProgress) → slice_get ps i ≡ Some q → has q ≡ false → AreUnder has i ps → AreUnder has (i + 1) ps
under_next has ps i q at isnt under j r less there = by (below_or j i less)
  where
    by : (j ≡ i) ⊎ (j < i) → has r ≡ false
    by (inl same) = ap has (same_Some r q (sym there ∙ ap (slice_get ps) same ∙ at)) ∙ isnt
    by (inr below) = under j r below there

pub settled_set : (ps : List KeyProgress) (i : ℕ) (p : KeyProgress) → AreSettledFrom i ps → AreSettledFrom (i + 1) (set ps i p)
settled_set ps i p from j r le at = ⊎_elim (λ t. absurd (let same = t.0 in omega arith)) (λ t. from j r (omega arith) t.1) (set_get ps i j p r at)

pub settled_next : (ps : List KeyProgress) (i : ℕ) → AreSettledFrom i ps → AreSettledFrom (i + 1) ps
settled_next ps i from j r le at = from j r (omega arith) at

pub picked_not_joined : (p : Polled) (q : KeyProgress) → IsPicked p q → waits_for_joined_load q ≡ false
picked_not_joined p q is = settled_not_joined q (picked_settled p q is)

-- 5. The ends of the loops.

pub place_near : (ps : List KeyProgress) (i : ℕ) (p : KeyProgress) → slice_get ps i ≡ Some p → i < length ps
place_near [] i p at = cc
place_near (q ∷ ps) zero p at = omega arith
place_near (q ∷ ps) (suc i) p at = let near = place_near ps i p at in omega arith

pub none_at_all : (has : KeyProgress → Bool) (ps : List KeyProgress) (end : ℕ) → length ps ≤ end → AreUnder has end ps → (i : ℕ) (p : KeyProgress) → slice_get ps i ≡ Some p → has p ≡ false
none_at_all has ps end past under i p at = under i p (let near = place_near ps i p at in omega arith) at

-- the key at a place
pub there_by : (ps : List KeyProgress) (place : ℕ) (p : KeyProgress) → place < length ps → p ≡ get_or ps place p → slice_get ps place ≡ Some p
there_by ps place p near is = slice_get-get_or ps place p near ∙ ap Some (sym is)

reserved_is : (p : KeyProgress) → holds_reservation p ≡ true → p ≡ Reserved
reserved_is Waiting h = cc
reserved_is Reserved h = refl
reserved_is Joined h = cc
reserved_is (Ended e) h = cc

pub reserved_there : (ps : List KeyProgress) (place : ℕ) (p : KeyProgress) → place < length ps → p ≡ get_or ps place p → holds_reservation p ≡ true → slice_get ps place ≡ Some Reserved
reserved_there ps place p near is h = there_by ps place p near is ∙ ap Some (reserved_is p h)

joined_is : (p : KeyProgress) → waits_for_joined_load p ≡ true → p ≡ Joined
joined_is Waiting h = cc
joined_is Reserved h = cc
joined_is Joined h = refl
joined_is (Ended e) h = cc

pub joined_there : (ps : List KeyProgress) (place : ℕ) (p : KeyProgress) → place < length ps → p ≡ get_or ps place p → waits_for_joined_load p ≡ true → slice_get ps place ≡ Some Joined
joined_there ps place p near is h = there_by ps place p near is ∙ ap Some (joined_is p h)

waiting_is : (p : KeyProgress) → waits_for_round p ≡ true → p ≡ Waiting
waiting_is Waiting h = refl
waiting_is Reserved h = cc
waiting_is Joined h = cc
waiting_is (Ended e) h = cc

pub waiting_there : (ps : List KeyProgress) (place : ℕ) (p : KeyProgress) → place < length ps → p ≡ get_or ps place p → waits_for_round p ≡ true → slice_get ps place ≡ Some Waiting
waiting_there ps place p near is h = there_by ps place p near is ∙ ap Some (waiting_is p h)

pub settled_by : (p : KeyProgress) → holds_reservation p ≡ false → waits_for_joined_load p ≡ false → is_settled p ≡ true
settled_by p r j = λ i. not (r i || j i)

pub last_first : {X : Type 0} (xs ys : List X) (x : X) → xs ≡ ys ++ x ∷ [] → reverse xs ≡ x ∷ reverse ys
last_first xs ys x is = ap reverse is ∙ reverse-append ys (x ∷ [])
