-- What a phase call on a cache tells a call with many keys of one of its keys.
--     may_start         the session's own steps let the call begin at a key at which it has made no step
--     start_told        a first phase
--     commit_told       a commit
--     pick_over         a pick-up that isn't too early
--     pick_told         a pick-up
use Rattle.jc_rounds.proofs.Common.{◌≡◌, ℕ, true, List, [], sym, ap, subst, ◌∙◌, stripe_of, Caller, Bytes, Op, Get, Out, State, OnePhase, OwnSteps, StepsBehind, may_come_all, JoinClaim, Begun, StepDone, Polled, Reservation, View, Turn, CacheState, MayStart, PhaseAt, IsOf, Session, HasBegun, HasPicked, IsCommitted, IsEarly, IsJoinFor, IsPickedUp, steps_of, AreBefore, HasGrown, MovesAtKey, view_at, view_of}
use Rattle.jc_stripe.specs.Polled as polled
use Rattle.jc_session.specs.declared.counts.Counted.{Counted}
use Rattle.jc_engine.specs.Needs.{PicksUpLate}
use Rattle.jc_engine.specs.Turns.{committing}
use Rattle.jc_cache.specs.Turns.{picking_late, starting_now}
use Rattle.jc_rounds.proofs.KeyPhases.{key_begun, key_committed, key_picked}
use Rattle.jc_rounds.proofs.CallSteps.{may-come-all}
use Rattle.jc_rounds.proofs.SeatPhases.{Seated, moves_all, view_here, view_there}

pub pick_over : (join : JoinClaim) (p : Polled) (a b : State) → PicksUpLate a join p b → IsPickedUp p
pick_over join (polled.Answer reply place shared_with) a b picks = tt
pick_over join polled.Again a b picks = tt
pick_over join (polled.NotYet back) a b picks = picks

module _ {I J : Type 0} {D : I → Type 0} {E : J → Type 0} where
  pub may_start : (cache : CacheState) (session : Session I J D E) (key : Bytes) → AreBefore session.agent.caller session.seats.items
      → steps_of session.agent.caller key (view_of cache.config.stripes session.seats.items key).own ≡ [] → MayStart cache session key
  may_start cache session key before none seat there =
      subst (λ (v : View). may_come_all v.own session.agent.caller key ≡ true) (view_there session.seats.items (stripe_of key cache.config.stripes) seat there)
      (may-come-all session.agent.caller key (view_of cache.config.stripes session.seats.items key).own (before (stripe_of key cache.config.stripes)) none)

  view_was : {old new : Session I J D E} {stripe : ℕ} {turn : Turn} {counted : Counted} → (x : PhaseAt stripe old turn counted new) → view_at old.seats.items stripe ≡ x.before
  view_was {old} {new} {stripe} x = view_there old.seats.items stripe (x.lock, x.before) x.was

  view_now : {old new : Session I J D E} {stripe : ℕ} {turn : Turn} {counted : Counted} → (x : PhaseAt stripe old turn counted new) → view_at new.seats.items stripe ≡ x.after
  view_now {old} {new} {stripe} x = ap (λ (xs : List Seated). view_at xs stripe) x.now ∙ view_here old.seats.items stripe (x.lock, x.before) (x.lock, x.after) x.was

  module _ (law : OnePhase) (steps : OwnSteps) (cache : CacheState) (old new : Session I J D E) (own : IsOf cache old) where
    pub start_told : (key : Bytes) (op : Op) (b : Begun) (counted : Counted) → PhaseAt (stripe_of key cache.config.stripes) old (starting_now old.agent.caller key op b) counted new
        → AreBefore old.agent.caller old.seats.items → steps_of old.agent.caller key (view_of cache.config.stripes old.seats.items key).own ≡ []
        → MovesAtKey old.agent.caller cache.config.stripes key old.seats.items new.seats.items
        × HasBegun old.agent.caller cache.config (view_of cache.config.stripes old.seats.items key) (view_of cache.config.stripes new.seats.items key) key op b
    start_told key op b counted x before none =
        let caller = old.agent.caller in
        let n = cache.config.stripes in
        let k = key_begun law steps caller cache.config key op b x.before x.after x.seat (own.seats (stripe_of key n) (x.lock, x.before) x.was).config_is
        (may_start cache old key before none (x.lock, x.before) x.was) (ap (λ (v : View). steps_of caller key v.own) (sym (view_was x)) ∙ none) in (
          moves_all caller n key old.seats.items new.seats.items x.lock x.before x.after x.was x.now k.0,
          subst (λ (v : View). HasBegun caller cache.config v (view_of n new.seats.items key) key op b) (sym (view_was x)) (subst (λ (w : View). HasBegun caller cache.config x.before w key op b) (sym (view_now x)) k.1),
        )

    pub commit_told : (r : Reservation) (out : Out) (done : StepDone) (counted : Counted) → PhaseAt (stripe_of r.key cache.config.stripes) old (committing r out done) counted new → r.caller ≡ old.agent.caller → IsEarly old.agent.caller
        → steps_of old.agent.caller r.key (view_of cache.config.stripes old.seats.items r.key).own ≡ []
        → MovesAtKey old.agent.caller cache.config.stripes r.key old.seats.items new.seats.items
        × IsCommitted cache.config old.agent.caller r out (view_of cache.config.stripes old.seats.items r.key) (view_of cache.config.stripes new.seats.items r.key) done.reply
    commit_told r out done counted x mine early none =
        let n = cache.config.stripes in
        let k = key_committed law steps cache.config old.agent.caller.session r out done x.before x.after x.seat (own.seats (stripe_of r.key n) (x.lock, x.before) x.was).config_is (sym (ap (λ (c : Caller). c.session) mine)) (subst IsEarly (sym mine) early)
        ((λ i. steps_of (mine i) r.key (sym (view_was x) i).own) ∙ none) in (
          subst (λ (c : Caller). MovesAtKey c n r.key old.seats.items new.seats.items) mine (moves_all r.caller n r.key old.seats.items new.seats.items x.lock x.before x.after x.was x.now k.0),
          subst (λ (c : Caller). IsCommitted cache.config c r out (view_of n old.seats.items r.key) (view_of n new.seats.items r.key) done.reply) mine
              (subst (λ (v : View). IsCommitted cache.config r.caller r out v (view_of n new.seats.items r.key) done.reply) (sym (view_was x)) (subst (λ (w : View). IsCommitted cache.config r.caller r out x.before w done.reply) (sym (view_now x)) k.1)),
        )

    pub pick_told : StepsBehind → (join : JoinClaim) (p : Polled) (counted : Counted) → PhaseAt (stripe_of join.key cache.config.stripes) old (picking_late join p) counted new → join.caller ≡ old.agent.caller → IsEarly old.agent.caller
        → steps_of old.agent.caller join.key (view_of cache.config.stripes old.seats.items join.key).own ≡ []
        → MovesAtKey old.agent.caller cache.config.stripes join.key old.seats.items new.seats.items
        × ((first : View) → HasGrown first (view_of cache.config.stripes old.seats.items join.key) → IsJoinFor old.agent.caller first join.key Get join
        → HasPicked cache.config old.agent.caller first (view_of cache.config.stripes new.seats.items join.key) join.key Get p)
    pick_told places join p counted x mine early none =
        let n = cache.config.stripes in
        let k = key_picked law steps cache.config places old.agent.caller.session join p x.before x.after x.seat (sym (ap (λ (c : Caller). c.session) mine)) (subst IsEarly (sym mine) early)
        ((λ i. steps_of (mine i) join.key (sym (view_was x) i).own) ∙ none) in (
          subst (λ (c : Caller). MovesAtKey c n join.key old.seats.items new.seats.items) mine (moves_all join.caller n join.key old.seats.items new.seats.items x.lock x.before x.after x.was x.now k.0),
          λ first grown is. subst (λ (w : View). HasPicked cache.config old.agent.caller first w join.key Get p) (sym (view_now x))
              (subst (λ (c : Caller). HasPicked cache.config c first x.after join.key Get p) mine
              (k.1 first (subst (HasGrown first) (view_was x) grown) (subst (λ (c : Caller). IsJoinFor c first join.key Get join) (sym mine) is))),
        )
