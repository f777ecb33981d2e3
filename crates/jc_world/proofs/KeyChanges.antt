-- The kinds of change that an event makes at the stripes of a world: none, or one phase at the stripe of a key.
--     AnswersNone, EndsNone     what an event shows is no answer; it ends no load
--     Reserves                  a first phase that reserves the key, whoever is asked
--     KeyChange                 what an event at a key leaves, by its kind
--     StripeChange              what any event leaves
--     is_at_key, key_change       the starts and pick-ups at a key, and the change that each makes
--     TellsDrop                   what is shown is what another outcome shows, with an eviction of the key
--     KeyEvent                    one such change, or one and the eviction of the invalidated key
--     ends_as                     the step of a last phase
--     is_end, end_event, invalid_event
--                                 the ends and invalidations at a key, and what each makes
--     change_of                 each event that fits makes one of these changes
--     IsStart, may_of           it is the start of a call at a key; in a sound world the call may start there
--     Move                      the same, as far as configuration, stripes and order go
use Rattle.jc_world.proofs.Asked.{asked_new}
use Rattle.jc_world.proofs.Common.{cond, None, Change, FitsAsked, IsDueIn, ◌≡◌, ℕ, Bool, true, false, not, ◌||◌, List, [], ◌∷◌, ◌++◌, length, drop, is_some, is_none, nat_lt, slice_get, slice_set, Some, Option, sym, refl, ap, ◌∙◌, subst, subst₂, inl, inr, append_assoc, append-nil, length-append, arith, nat_tests, events_of, new_group, after_commit, get, IsSomeAnd, IsHeld, may_invalidate, ◌==◌, ◌&&◌, ◌+◌, Caller, Config, Refusal, Bytes, Cache, entry_at, Event, Out, is_load_given, Op, Begins, Commits, Withdraws, PicksUp, State, without_key, callers_of, after_withdrawal, StepDone, IsReached, StaysReached, is_reserved, new_reservation, with_reservation, TicketClaim, JoinClaim, Begun, Polled, First, Loader, Nobody, Processor, Writer, Reservation, Outcome, Part, JoinAnswer, PartProgress, Shown, Stepped, WorldEvent, CallState, new_call, op_at, with_stripe, with_phase, step_of, not_over, shown_begun, fault_in, with_settled, new_progress, with_new_part, without_part, with_commit, with_join, without_join, ReservesAs, StartsAs, EndsAs, Picks, eviction_place, invalidated_as, foreign_committed, without_foreign, with_doubt, is_agreed, is_misled, entry_in, Happens, Step, fits, after_reopening, is_reopening, ends_load, is_answer_at, changes_cache, Agrees, ProgressAgrees, PartAgrees, IsSoundWorld, WorldState, home, stripe_for, open_call, part_of, out_of_part, join_of}
use Rattle.jc_world.proofs.Beginning.{MayStart, may_start_at}
use Rattle.jc_world.proofs.Shares.{added}
use Rattle.jc_world.proofs.NewCalls.{begun_cases}
use Rattle.jc_world.proofs.Beside.{beside}
use Rattle.jc_world.proofs.Reservations.{was_free}
use Rattle.jc_world.proofs.Underway.{of_call-at}
use Rattle.jc_world.proofs.Numbered.{some_of}
use Rattle.jc_world.proofs.Places.{stripe_put}
use Rattle.jc_world.proofs.Dropping.{freed_at, dropped_entry, marked_is, set_twice, added_one, added_none, same_phase, no_phase, with_dropped, Drop, forgotten_twice}
use Rattle.jc_stripe.specs.State.{is_marked, with_mark}
use Rattle.jc_stripe.specs.Invalidating.{has_place, dropped_event, without_entry, is_dropped, end_with, told_drop, Ends, GivesBack, Invalidates, drop_or_shut, after_invalidation}
use Rattle.jc_model.specs.declared.event.Cause.TheVariants.{Invalidated as InvalidatedCause}
use Rattle.jc_world.specs.declared.event.EvictionPlace.{EvictionPlace}

-- 1. What an event shows.

abbrev pub AnswersNone : Outcome → Type 0
AnswersNone seen = (number place : ℕ) → is_answer_at number place seen ≡ false

abbrev pub EndsNone : WorldEvent → Shown → Type 0
EndsNone e seen = (r : Reservation) → ends_load r (e, seen) ≡ false

-- 2. An event at a key.

-- a first phase that reserves the key: of its progress nothing was told yet
pub record Reserves (from : State) (caller : Caller) (key : Bytes) (op : Op) (p : PartProgress) (r : Reservation) (to : State) : Type 0 where
  pub b : Begun
  pub begins : Begins from caller key op b to
  pub free : is_reserved from key ≡ false
  pub is : r ≡ new_reservation from caller key op r.first
  pub after : to ≡ with_reservation from r
  pub asked : FitsAsked r.first p
  pub untold : (stored entry : Option Bytes) → Agrees entry stored → PartAgrees p stored entry
  pub unmisled : p.is_misled ≡ false
  pub due : (config : Config) → IsDueIn config r.first p
  pub unloaded : is_load_given p.out.load ≡ false

-- an event starts this operation of a call at a key
pub record IsStart (w : WorldState) (e : WorldEvent) (key : Bytes) (u : CallState) (op : Op) : Type 0 where
  pub call : ℕ
  pub e_is : e ≡ WorldEvent.Start call key
  pub here : open_call w call ≡ Some u
  pub op_is : op_at u key ≡ Some op

-- what an event at a key leaves
pub data KeyChange (w new : WorldState) (e : WorldEvent) (key : Bytes) (seen : Shown) : Type 0 where
  by_nothing : new ≡ w → AnswersNone seen.outcome → EndsNone e seen → KeyChange w new e key seen
  by_refusal : (u : CallState) (op : Op) (refusal : Refusal) → IsStart w e key u op → new ≡ with_settled w u.caller.call key (Some refusal) → AnswersNone seen.outcome → EndsNone e seen → KeyChange w new e key seen
  by_step : (u : CallState) (op : Op) (from to : State) (x : Stepped) → IsStart w e key u op → stripe_for w key ≡ Some from → Begins from u.caller key op (Begun.Done (step_of x)) to → x.stripe ≡ home w key
      → new ≡ with_settled (with_phase w key from to) u.caller.call key (fault_in x.reply) → seen.outcome ≡ Outcome.Stepped x → EndsNone e seen → KeyChange w new e key seen
  by_reservation : (u : CallState) (op : Op) (from to : State) (p : PartProgress) (r : Reservation) → IsStart w e key u op → stripe_for w key ≡ Some from → Reserves from u.caller key op p r to
      → new ≡ with_new_part w key to p r → AnswersNone seen.outcome → EndsNone e seen → KeyChange w new e key seen
  by_join : (u : CallState) (op : Op) (from to : State) (join : JoinClaim) → IsStart w e key u op → stripe_for w key ≡ Some from → Begins from u.caller key op (Begun.Joined join) to
      → new ≡ with_join (with_stripe w key to) join → AnswersNone seen.outcome → EndsNone e seen → KeyChange w new e key seen
  by_commit : (call : ℕ) (part : Part) (from to : State) (x : Stepped) → e ≡ WorldEvent.Commit call key → part_of w call key ≡ Some part → stripe_for w key ≡ Some from → Commits from part.reservation (out_of_part part) (step_of x) to → x.stripe ≡ home w key
      → new ≡ with_commit w key part from to call (fault_in x.reply) → seen.outcome ≡ Outcome.Stepped x → KeyChange w new e key seen
  by_withdrawal : (call : ℕ) (part : Part) (from to : State) → e ≡ WorldEvent.Withdraw call key → part_of w call key ≡ Some part → stripe_for w key ≡ Some from → Withdraws from part.reservation to
      → new ≡ without_part (with_stripe w key to) key → seen ≡ not_over (Outcome.Withdrawn None) → KeyChange w new e key seen
  by_mark : (from to : State) → stripe_for w key ≡ Some from → is_reserved from key ≡ true → to ≡ record from { marked = to.marked } → (StaysReached → IsReached from → IsReached to)
      → new ≡ with_stripe w key to → AnswersNone seen.outcome → EndsNone e seen → KeyChange w new e key seen
  by_answer : (call : ℕ) (join : JoinClaim) (from to : State) (x : JoinAnswer) → e ≡ WorldEvent.PickUp call key → join_of w call key ≡ Some join → stripe_for w key ≡ Some from → PicksUp from join (Polled.Answer x.reply x.place x.shared) to → x.stripe ≡ home w key
      → new ≡ with_settled (without_join (with_stripe w key to) call key) call key (fault_in x.reply) → seen.outcome ≡ Outcome.PickedUp x → EndsNone e seen → KeyChange w new e key seen
  by_retry : (call : ℕ) (join : JoinClaim) (from to : State) → e ≡ WorldEvent.PickUp call key → join_of w call key ≡ Some join → stripe_for w key ≡ Some from → PicksUp from join Polled.Again to
      → new ≡ without_join (with_stripe w key to) call key → seen.outcome ≡ Outcome.Again → EndsNone e seen → KeyChange w new e key seen

-- nothing was told yet of a key that was just reserved
new_untold : (first : First) (stored entry : Option Bytes) → Agrees entry stored → ProgressAgrees (new_progress first) stored entry
new_untold Nobody stored entry agrees = record { loaded = tt; unwritten = agrees }
new_untold Loader stored entry agrees = record { loaded = tt; unwritten = agrees }
new_untold (Writer change) stored entry agrees = record { written = λ e. absurd (let t : false ≡ true = e in cc); unwritten = λ e. agrees; honest = λ e. absurd (let t : false ≡ true = e in cc) }
new_untold (Processor seen may_load) stored entry agrees = record { loaded = tt; unwritten = agrees }

new_due : (config : Config) (first : First) → IsDueIn config first (new_progress first)
new_due config (Processor entry may_load) = no_ask config.write_through
  where
    no_ask : (on : Bool) → ◌≡◌ {A = Option Change} None (cond on None None)
    no_ask true = refl
    no_ask false = refl
new_due config first = tt

-- a key is reserved
reserved_change : (w new : WorldState) (e : WorldEvent) (u : CallState) (key : Bytes) (op : Op) (from to : State) (o : Outcome) (s : Shown) → AnswersNone s.outcome → EndsNone e s → IsStart w e key u op → stripe_for w key ≡ Some from
    → ReservesAs w u.caller key op from to o new → KeyChange w new e key s
reserved_change w new e u key op from to o s none ends may there h =
    let r = h.0.reservation in
    let m = h.1 in
    by_reservation u op from to (new_progress r.first) r may there (record {
      b = Begun.Asks h.0;
      begins = m;
      free = was_free from u.caller key op r.first m.0 m.1 m.2 m.3;
      is = ap (λ (t : TicketClaim). t.reservation) m.4;
      after = m.5;
      asked = asked_new r.first m.3;
      untold = λ stored entry agrees. record { kept = λ e. agrees; honest = λ m. new_untold r.first stored entry agrees };
      unmisled = refl;
      due = λ config. new_due config r.first;
      unloaded = refl;
    }) h.3 none ends

-- by what is shown of a first phase
pub start_change : (w new : WorldState) (e : WorldEvent) (u : CallState) (key : Bytes) (op : Op) (from to : State) (seen : Outcome) (s : Shown) → s.outcome ≡ seen → EndsNone e s → IsStart w e key u op → stripe_for w key ≡ Some from
    → StartsAs w u.caller key op from to seen new → KeyChange w new e key s
start_change w new e u key op from to (Outcome.Refused refusal) s shows ends may there h = by_refusal u op refusal may h.1 (λ n p. ap (is_answer_at n p) shows) ends
start_change w new e u key op from to (Outcome.PutOff refusal) s shows ends may there h = by_nothing h.1 (λ n p. ap (is_answer_at n p) shows) ends
start_change w new e u key op from to (Outcome.Stepped x) s shows ends may there h = by_step u op from to x may there h.0 h.1 h.2 shows ends
start_change w new e u key op from to Outcome.Loads s shows ends may there h = reserved_change w new e u key op from to Outcome.Loads s (λ n p. ap (is_answer_at n p) shows) ends may there h
start_change w new e u key op from to (Outcome.Asks change) s shows ends may there h = reserved_change w new e u key op from to (Outcome.Asks change) s (λ n p. ap (is_answer_at n p) shows) ends may there h
start_change w new e u key op from to (Outcome.Processes entry) s shows ends may there h = reserved_change w new e u key op from to (Outcome.Processes entry) s (λ n p. ap (is_answer_at n p) shows) ends may there h
start_change w new e u key op from to Outcome.Joins s shows ends may there h = by_join u op from to h.0 may there h.1 h.2 (λ n p. ap (is_answer_at n p) shows) ends
start_change w new e u key op from to seen s shows ends may there h = absurd h

-- of a pick-up
pub pick_change : (w new : WorldState) (call : ℕ) (key : Bytes) (join : JoinClaim) (from to : State) (seen : Outcome) (s : Shown) → s.outcome ≡ seen → join_of w call key ≡ Some join → stripe_for w key ≡ Some from
    → Picks w call key join from to seen new → KeyChange w new (WorldEvent.PickUp call key) key s
pick_change w new call key join from to (Outcome.PickedUp x) s shows is there h = by_answer call join from to x refl is there h.0 h.1 h.2 shows (λ r. refl)
pick_change w new call key join from to Outcome.Again s shows is there h = by_retry call join from to refl is there h.0 h.1 shows (λ r. refl)
pick_change w new call key join from to Outcome.Waits s shows is there h = by_nothing h.1 (λ n p. ap (is_answer_at n p) shows) (λ r. refl)
pick_change w new call key join from to seen s shows is there h = absurd h

-- the starts and pick-ups at a key
abbrev pub is_at_key : WorldEvent → Bool
is_at_key (WorldEvent.Start call key) = true
is_at_key (WorldEvent.PickUp call key) = true
is_at_key e = false

pub key_change : (w new : WorldState) (e : WorldEvent) (seen : Shown) → is_at_key e ≡ true → Happens w e seen new → (key : Bytes) × KeyChange w new e key seen
key_change w new (WorldEvent.Start call key) seen is h = (key, start_change w new (WorldEvent.Start call key) h.0 key h.1 h.4 h.6 seen.outcome seen refl (λ r. refl) (record { call = call; e_is = refl; here = h.2; op_is = h.3 }) h.5 h.7)
key_change w new (WorldEvent.PickUp call key) seen is h = (key, pick_change w new call key h.0 h.2 h.4 seen.outcome seen refl h.1 h.3 h.5)
key_change w new e seen is h = cc

-- 3. An end or an invalidation at a key.

-- what is shown is what another outcome shows, with an eviction of the key
pub data TellsDrop (seen shown : Shown) : Type 0 where
  of_step : (x y : Stepped) → seen.outcome ≡ Outcome.Stepped x → shown.outcome ≡ Outcome.Stepped y → x.reply ≡ y.reply → x.stripe ≡ y.stripe → x.place ≡ y.place → TellsDrop seen shown
  of_withdrawal : (place : Option EvictionPlace) → seen ≡ not_over (Outcome.Withdrawn place) → shown ≡ not_over (Outcome.Withdrawn None) → TellsDrop seen shown
  of_same : seen ≡ shown → TellsDrop seen shown

pub tells_same : (seen shown : Shown) (number place : ℕ) → TellsDrop seen shown → is_answer_at number place seen.outcome ≡ is_answer_at number place shown.outcome
tells_same seen shown number place (of_step x y sees shows reply stripe at) =
    ap (is_answer_at number place) sees ∙ (λ i. (stripe i == number) && (at i == place)) ∙ sym (ap (is_answer_at number place) shows)
tells_same seen shown number place (of_withdrawal evicted sees shows) = ap (λ (s : Shown). is_answer_at number place s.outcome) (sees ∙ refl) ∙ sym (ap (λ (s : Shown). is_answer_at number place s.outcome) shows)
tells_same seen shown number place (of_same is) = ap (λ (s : Shown). is_answer_at number place s.outcome) is

-- the ends and invalidations at a key
abbrev pub is_end : WorldEvent → Bool
is_end (WorldEvent.Commit call key) = true
is_end (WorldEvent.Withdraw call key) = true
is_end (WorldEvent.Invalidate key) = true
is_end e = false

-- a change at a key, or one and the eviction of the invalidated key
pub data KeyEvent (w new : WorldState) (e : WorldEvent) (key : Bytes) (seen : Shown) : Type 0 where
  plain : KeyChange w new e key seen → KeyEvent w new e key seen
  dropping : (mid : WorldState) (shown : Shown) → KeyChange w mid e key shown → TellsDrop seen shown → Drop w mid new key → is_end e ≡ true → KeyEvent w new e key seen

-- the step of a last phase
pub ends_as : (w new : WorldState) (call : ℕ) (key : Bytes) (part : Part) (from to : State) (o : Outcome) → EndsAs w call key part from to o new
    → (x : Stepped) × (o ≡ Outcome.Stepped x) × Ends from part.reservation (out_of_part part) (step_of x) to × (x.stripe ≡ home w key) × (new ≡ with_commit w key part from to call (fault_in x.reply))
ends_as w new call key part from to (Outcome.Stepped x) h = (x, refl, h.0, h.1, h.2)
ends_as w new call key part from to o h = absurd h

-- what an end leaves of the reservations
pub left_by : (from ended : State) (r : Reservation) (out : Out) (done : StepDone) → Commits from r out done ended → ended.reservations ≡ without_key r.key from.reservations
left_by from ended r out done h = ap (λ (s : State). s.reservations) h.1.after

-- the world of a commit, with the eviction that follows it
commit_dropped : (w : WorldState) (call : ℕ) (key : Bytes) (part : Part) (from ended to : State) (met : Option Refusal) (out : Out) (done : StepDone) → stripe_for w key ≡ Some from → Commits from part.reservation out done ended → to ≡ without_entry ended key
    → with_commit w key part from to call met ≡ with_dropped (with_commit w key part from ended call met) key ended true
commit_dropped w call key part from ended to met out done there commits to_is =
    let n = home w key in
    let doubt = with_doubt w.foreign key (is_misled part) in
    let stored = entry_at w.store key in
    let mid = with_commit w key part from ended call met in
    let gone : is_agreed (entry_at to.cache key) stored ≡ true = ap (λ (s : State). is_agreed (entry_at s.cache key) stored) to_is ∙ ap (λ o. is_agreed o stored) (dropped_entry ended key) in
    let foreign : foreign_committed w key part to ≡ without_foreign mid.foreign key true =
    ap (without_foreign doubt key) gone ∙ sym (forgotten_twice doubt key (is_agreed (entry_at ended.cache key) stored))
    in
    let group = events_of (length from.history) (new_group (after_commit from part.reservation done.place) part.reservation.caller part.reservation.key part.reservation.op out (callers_of part.reservation.number from.joiners) commits.1.short) in
    let before : ended.history ≡ from.history ++ group = ap (λ (s : State). s.history) commits.1.after in
    let order : w.order ++ drop (length from.history) to.history ≡ (w.order ++ drop (length from.history) ended.history) ++ drop (length ended.history) (without_entry ended key).history =
    ap (λ (s : State). w.order ++ drop (length from.history) s.history) to_is
    ∙ ap (λ more. w.order ++ more) (added_one from ended (without_entry ended key) group (dropped_event key) before refl)
    ∙ sym (append_assoc w.order (drop (length from.history) ended.history) (drop (length ended.history) (without_entry ended key).history))
    in
    let stripes : slice_set w.stripes n to ≡ slice_set (slice_set w.stripes n ended) n (without_entry ended key) = ap (slice_set w.stripes n) to_is ∙ sym (set_twice w.stripes n ended (without_entry ended key)) in
    (λ i. record mid { stripes = stripes i; order = order i; foreign = foreign i })

-- the last phase of a key
pub commit_event : (w new : WorldState) (call : ℕ) (key : Bytes) (part : Part) (from to : State) (x : Stepped) (seen : Shown) → seen.outcome ≡ Outcome.Stepped x → part.reservation.key ≡ key → part_of w call key ≡ Some part → stripe_for w key ≡ Some from
    → Ends from part.reservation (out_of_part part) (step_of x) to → x.stripe ≡ home w key → new ≡ with_commit w key part from to call (fault_in x.reply) → KeyEvent w new (WorldEvent.Commit call key) key seen
commit_event w new call key part from to x seen shows key_is is there (ended, step, commits, done_is, to_is) home_is left =
    let r = part.reservation in
    let marked = is_marked from r.key in
    elim (is_dropped marked ended r.key) as (λ b. step_of x ≡ cond b (record step { evicted = Some (record { cause = InvalidatedCause; place = length ended.history }) }) step → to ≡ cond b (without_entry ended r.key) ended → KeyEvent w new (WorldEvent.Commit call key) key seen) [
      | true ↦ λ done_is to_is.
          let y : Stepped = record { reply = step.reply; stripe = x.stripe; place = step.place; victim = step.victim; evicted = step.evicted } in
          let reply : x.reply ≡ step.reply = ap (λ (d : StepDone). d.reply) done_is in
          let place : x.place ≡ step.place = ap (λ (d : StepDone). d.place) done_is in
          let mid : WorldState = with_commit w key part from ended call (fault_in x.reply) in
          let shown : Shown = record { outcome = Outcome.Stepped y; over = seen.over } in
          let dropped : to ≡ without_entry ended key = to_is ∙ ap (without_entry ended) key_is in
          let ends : Ends from r (out_of_part part) (step_of x) (without_entry ended key) = subst (Ends from r (out_of_part part) (step_of x)) dropped (ended, step, commits, done_is_of, to_is_of) in
          dropping mid shown
          (by_commit call part from ended y refl is there commits home_is (ap (λ reply. with_commit w key part from ended call (fault_in reply)) reply) refl)
          (of_step x y shows refl reply refl place)
          (record {
            from = ended;
            there = stripe_put w.stripes (home w key) from ended there;
            free = freed_at ended key from.reservations (left_by from ended r (out_of_part part) step commits ∙ ap (λ k. without_key k from.reservations) key_is);
            told = true;
            is = left ∙ commit_dropped w call key part from ended to (fault_in x.reply) (out_of_part part) step there commits dropped;
            reached = λ stays sound. stays.ends from (without_entry ended key) r (out_of_part part) (step_of x) (sound.shape.each (home w key) from there).reached ends;
          })
          refl
      | false ↦ λ done_is to_is.
          let C : StepDone → State → Type 0 = λ d s. Commits from r (out_of_part part) d s in
          plain (by_commit call part from to x refl is there (subst₂ C (sym done_is) (sym to_is) commits) home_is left shows)
    ] done_is to_is
  where
    done_is_of : step_of x ≡ told_drop (is_marked from part.reservation.key) ended part.reservation.key step
    done_is_of = done_is

    to_is_of : to ≡ end_with (is_marked from part.reservation.key) ended part.reservation.key
    to_is_of = to_is

-- no event more
none_more : (stripe : ℕ) (from to : State) → to.history ≡ from.history → eviction_place stripe from to ≡ None
none_more stripe from to same =
    let n = length from.history in
    ap (λ b. cond b (Some (record { stripe = stripe; place = n })) None) (ap (λ h. nat_lt n (length h)) same ∙ not_below n)
  where
    not_below : (n : ℕ) → nat_lt n n ≡ false
    not_below n = grind (arith, nat_tests)

-- a reservation that is given back
pub withdrawal_event : (w new : WorldState) (call : ℕ) (key : Bytes) (part : Part) (from to : State) (seen : Shown) → seen ≡ not_over (Outcome.Withdrawn (eviction_place (home w key) from to)) → part.reservation.key ≡ key → part_of w call key ≡ Some part → stripe_for w key ≡ Some from
    → GivesBack from part.reservation to → new ≡ without_part (with_phase w key from to) key → KeyEvent w new (WorldEvent.Withdraw call key) key seen
withdrawal_event w new call key part from to seen shows key_is is there (ended, withdraws, to_is) left =
    let r = part.reservation in
    let marked = is_marked from r.key in
    let n = home w key in
    let history : ended.history ≡ from.history = ap (λ (s : State). s.history) withdraws.1 in
    elim (is_dropped marked ended r.key) as (λ b. to ≡ cond b (without_entry ended r.key) ended → KeyEvent w new (WorldEvent.Withdraw call key) key seen) [
      | true ↦ λ at.
          let mid : WorldState = without_part (with_stripe w key ended) key in
          let shown : Shown = not_over (Outcome.Withdrawn None) in
          let dropped : to ≡ without_entry ended key = at ∙ ap (without_entry ended) key_is in
          let gives : GivesBack from r (without_entry ended key) = subst (GivesBack from r) dropped (ended, withdraws, to_is_of) in
          let order : w.order ++ drop (length from.history) to.history ≡ w.order ++ drop (length ended.history) (without_entry ended key).history =
          ap (λ (s : State). w.order ++ drop (length from.history) s.history) dropped ∙ ap (λ (h : List Event). w.order ++ drop (length h) (without_entry ended key).history) (sym history)
          in
          let stripes : slice_set w.stripes n to ≡ slice_set (slice_set w.stripes n ended) n (without_entry ended key) = ap (slice_set w.stripes n) dropped ∙ sym (set_twice w.stripes n ended (without_entry ended key)) in
          dropping mid shown
          (by_withdrawal call part from ended refl is there withdraws refl refl)
          (of_withdrawal (eviction_place n from to) shows refl)
          (record {
            from = ended;
            there = stripe_put w.stripes n from ended there;
            free = freed_at ended key from.reservations (ap (λ (s : State). s.reservations) withdraws.1 ∙ ap (λ k. without_key k from.reservations) key_is);
            told = false;
            is = left ∙ (λ i. record mid { stripes = stripes i; order = order i });
            reached = λ stays sound. stays.gives_back from (without_entry ended key) r (sound.shape.each n from there).reached gives;
          })
          refl
      | false ↦ λ at.
          let same : to.history ≡ from.history = ap (λ (s : State). s.history) at ∙ history in
          plain (by_withdrawal call part from to refl is there (subst (Withdraws from r) (sym at) withdraws)
          (left ∙ ap (λ v. without_part v key) (same_phase w key from to same))
          (shows ∙ ap (λ o. not_over (Outcome.Withdrawn o)) (none_more n from to same)))
    ] to_is
  where
    to_is_of : to ≡ end_with (is_marked from part.reservation.key) ended part.reservation.key
    to_is_of = to_is

-- an invalidation is no answer
invalid_silent : (b : Bool) (place : Option EvictionPlace) → AnswersNone (cond b Outcome.Marked (Outcome.Invalidated place))
invalid_silent true place n p = refl
invalid_silent false place n p = refl

third_of : (a b c : Bool) → a ≡ false → b ≡ false → (a || b || c) ≡ true → c ≡ true
third_of false false c h k e = e
third_of a true c h k e = cc
third_of true b c h k e = cc

none_of : (o : Option Bytes) → is_some o ≡ true → is_none o ≡ false
none_of (Some x) h = refl
none_of None h = cc

-- an invalidation
pub invalidation_event : (w new : WorldState) (key : Bytes) (from to : State) (seen : Shown) → seen ≡ not_over (invalidated_as (home w key) key from to) → fits w (WorldEvent.Invalidate key) ≡ true → stripe_for w key ≡ Some from
    → Invalidates from key to → new ≡ with_phase w key from to → KeyEvent w new (WorldEvent.Invalidate key) key seen
invalidation_event w new key from to seen shows fit there made left =
    let may : (is_reserved from key || is_none (entry_at from.cache key) || has_place from) ≡ true = ap (λ o. may_invalidate o key) (sym there) ∙ fit in
    let none : AnswersNone seen.outcome = λ n p. ap (λ (s : Shown). is_answer_at n p s.outcome) shows ∙ invalid_silent (is_reserved from key) (eviction_place (home w key) from to) n p in
    elim (is_reserved from key) as (λ b. is_reserved from key ≡ b → to ≡ cond b (with_mark from key) (cond (is_some (entry_at from.cache key)) (drop_or_shut from key) from) → KeyEvent w new (WorldEvent.Invalidate key) key seen) [
      | true ↦ λ out at.
          let is : to ≡ record from { marked = to.marked } = at ∙ marked_is from key ∙ ap (λ (s : State). record from { marked = s.marked }) (sym at) in
          plain (by_mark from to there out is (λ stays reached. stays.invalidates from to key reached made) (left ∙ same_phase w key from to (ap (λ (s : State). s.history) is)) none (λ r. refl))
      | false ↦ λ free. elim (is_some (entry_at from.cache key)) as (λ b. is_some (entry_at from.cache key) ≡ b → to ≡ cond b (drop_or_shut from key) from → KeyEvent w new (WorldEvent.Invalidate key) key seen) [
        | true ↦ λ has at.
            let place : has_place from ≡ true = third_of (is_reserved from key) (is_none (entry_at from.cache key)) (has_place from) free (none_of (entry_at from.cache key) has) may in
            let dropped : to ≡ without_entry from key = at ∙ ap (λ b. cond b (without_entry from key) (record from { shut = true })) place in
            dropping w seen (by_nothing refl none (λ r. refl)) (of_same refl)
            (record {
              from = from;
              there = there;
              free = free;
              told = false;
              is = left ∙ ap (with_phase w key from) dropped;
              reached = λ stays sound. stays.invalidates from (without_entry from key) key (sound.shape.each (home w key) from there).reached (sym dropped ∙ made);
            })
            refl
        | false ↦ λ has at. plain (by_nothing (left ∙ no_phase w key from to there at) none (λ r. refl))
      ] refl
    ] refl made

-- the reservation of a part is of its key
pub key_of_part : (w : WorldState) (call : ℕ) (key : Bytes) (part : Part) → part_of w call key ≡ Some part → IsSoundWorld w → part.reservation.key ≡ key
key_of_part w call key part is old = (some_of (stripe_for w key) (λ s. IsHeld s key part) (old.held key part (of_call-at call (get w.parts key) part is).0)).2.key_is

-- the ends alone
abbrev pub is_last : WorldEvent → Bool
is_last (WorldEvent.Commit call key) = true
is_last (WorldEvent.Withdraw call key) = true
is_last e = false

pub end_event : (w new : WorldState) (e : WorldEvent) (seen : Shown) → is_last e ≡ true → fits w e ≡ true → Happens w e seen new → IsSoundWorld w → (key : Bytes) × KeyEvent w new e key seen
end_event w new (WorldEvent.Commit call key) seen is fit h old =
    let e = ends_as w new call key h.0 h.2 h.4 seen.outcome h.5 in
    (key, commit_event w new call key h.0 h.2 h.4 e.0 seen e.1 (key_of_part w call key h.0 h.1 old) h.1 h.3 e.2 e.3 e.4)
end_event w new (WorldEvent.Withdraw call key) seen is fit h old =
    (key, withdrawal_event w new call key h.0 h.2 h.4 seen h.6 (key_of_part w call key h.0 h.1 old) h.1 h.3 h.5 h.7)
end_event w new e seen is fit h old = cc

-- an invalidation makes its change, and no world is fresh then
abbrev pub worn_out : WorldState → WorldState
worn_out w = record w { is_fresh = false }

pub invalid_event : (w new : WorldState) (key : Bytes) (seen : Shown) → fits w (WorldEvent.Invalidate key) ≡ true → Happens w (WorldEvent.Invalidate key) seen new → (v : WorldState) × KeyEvent w v (WorldEvent.Invalidate key) key seen × (new ≡ worn_out v)
invalid_event w new key seen fit h = (with_phase w key h.0 h.2, invalidation_event w (with_phase w key h.0 h.2) key h.0 h.2 seen h.4 fit h.1 h.3 refl, h.5)

-- 4. Any event.

-- what any event leaves: the stripes, the order and the joins as they were, a change at a key, or a world that was opened again
pub data StripeChange (w new : WorldState) (e : WorldEvent) (seen : Shown) : Type 0 where
  by_key : (key : Bytes) → KeyEvent w new e key seen → StripeChange w new e seen
  by_invalidation : (key : Bytes) (v : WorldState) → e ≡ WorldEvent.Invalidate key → KeyEvent w v e key seen → new ≡ worn_out v → StripeChange w new e seen
  beside_stripes : (m : WorldState) → new ≡ m → m.config ≡ w.config → m.stripes ≡ w.stripes → m.order ≡ w.order → m.joins ≡ w.joins → AnswersNone seen.outcome → EndsNone e seen → StripeChange w new e seen
  by_reopening : (config : Config) → e ≡ WorldEvent.Reopen config → is_reopening seen.outcome ≡ true → new ≡ after_reopening config w → StripeChange w new e seen

-- what is shown of the beginning of a call is no answer
begins_silent : (u : CallState) (seen : Shown) → seen ≡ shown_begun u → AnswersNone seen.outcome
begins_silent u seen shows n p = ap (λ (s : Shown). is_answer_at n p s.outcome) shows ∙ begun_cases u (λ s. is_answer_at n p s.outcome ≡ false) refl refl

pub change_of : (w new : WorldState) (e : WorldEvent) (seen : Shown) → fits w e ≡ true → Happens w e seen new → IsSoundWorld w → StripeChange w new e seen
change_of w new (WorldEvent.Call call session command) seen fit h old = beside_stripes _ h.1 refl refl refl refl (begins_silent (new_call call session command) seen h.0) (λ r. refl)
change_of w new (WorldEvent.Look call stripe) seen fit h old = beside_stripes _ h.9 refl refl refl refl (λ n p. ap (λ (s : Shown). is_answer_at n p s.outcome) h.8) (λ r. refl)
change_of w new (WorldEvent.Read call key) seen fit h old = beside_stripes _ h.3 refl refl refl refl (λ n p. ap (λ (s : Shown). is_answer_at n p s.outcome) h.2) (λ r. refl)
change_of w new (WorldEvent.Say call key answer) seen fit h old = beside_stripes _ h.3 refl refl refl refl (λ n p. ap (λ (s : Shown). is_answer_at n p s.outcome) h.2) (λ r. refl)
change_of w new (WorldEvent.Process call key source calls fail) seen fit h old = beside_stripes _ h.3 refl refl refl refl (λ n p. ap (λ (s : Shown). is_answer_at n p s.outcome) h.2) (λ r. refl)
change_of w new (WorldEvent.Change call key) seen fit h old = beside_stripes _ h.5 refl refl refl refl (λ n p. ap (λ (s : Shown). is_answer_at n p s.outcome) h.4) (λ r. refl)
change_of w new (WorldEvent.Report call left fault) seen fit h old =
    beside_stripes _ (beside w new call h.0 left fault h.3).is refl refl refl refl (λ n p. ap (λ (s : Shown). is_answer_at n p s.outcome) h.2) (λ r. refl)
change_of w new (WorldEvent.Leave call) seen fit h old = beside_stripes _ h.1 refl refl refl refl (λ n p. ap (λ (s : Shown). is_answer_at n p s.outcome) h.0) (λ r. refl)
change_of w new (WorldEvent.Foreign key value) seen fit h old = beside_stripes _ h.1 refl refl refl refl (λ n p. ap (λ (s : Shown). is_answer_at n p s.outcome) h.0) (λ r. refl)
change_of w new (WorldEvent.Reopen config) seen fit h old = by_reopening config refl (ap (λ (s : Shown). is_reopening s.outcome) h.0) h.1
change_of w new (WorldEvent.Start call key) seen fit h old = let k = key_change w new (WorldEvent.Start call key) seen refl h in by_key k.0 (plain k.1)
change_of w new (WorldEvent.PickUp call key) seen fit h old = let k = key_change w new (WorldEvent.PickUp call key) seen refl h in by_key k.0 (plain k.1)
change_of w new (WorldEvent.Invalidate key) seen fit h old = let k = invalid_event w new key seen fit h in by_invalidation key k.0 refl k.1 k.2
change_of w new e seen fit h old = let k = end_event w new e seen refl fit h old in by_key k.0 k.1

-- in a sound world a call may start where it does
pub may_of : (w : WorldState) (e : WorldEvent) (key : Bytes) (u : CallState) (op : Op) → IsStart w e key u op → fits w e ≡ true → IsSoundWorld w → MayStart w u key op
may_of w e key u op s fit old = may_start_at w s.call key u op (ap (fits w) (sym s.e_is) ∙ fit) s.here s.op_is old

-- 5. Configuration, stripes and order alone.

pub data Move (w new : WorldState) (seen : Outcome) : Type 0 where
  no_move : new.config ≡ w.config → new.stripes ≡ w.stripes → new.order ≡ w.order → Move w new seen
  quiet_move : (key : Bytes) (from to : State) → stripe_for w key ≡ Some from → new.config ≡ w.config → new.stripes ≡ slice_set w.stripes (home w key) to → new.order ≡ w.order → to.cache ≡ from.cache → Move w new seen
  loud_move : (more : List Event) → new.config ≡ w.config → new.order ≡ w.order ++ more → changes_cache seen ≡ true → Move w new seen
  reopening_move : is_reopening seen ≡ true → Move w new seen

-- the world is another than `w` only beside them
still_as : (w m new : WorldState) (seen : Outcome) → new ≡ m → m.config ≡ w.config → m.stripes ≡ w.stripes → m.order ≡ w.order → Move w new seen
still_as w m new seen is config stripes order = no_move (ap (λ (x : WorldState). x.config) is ∙ config) (ap (λ (x : WorldState). x.stripes) is ∙ stripes) (ap (λ (x : WorldState). x.order) is ∙ order)

quiet_as : (w m new : WorldState) (seen : Outcome) (key : Bytes) (from to : State) → stripe_for w key ≡ Some from → to.cache ≡ from.cache → new ≡ m → m.config ≡ w.config → m.stripes ≡ slice_set w.stripes (home w key) to → m.order ≡ w.order → Move w new seen
quiet_as w m new seen key from to there cache is config stripes order =
    quiet_move key from to there (ap (λ (x : WorldState). x.config) is ∙ config) (ap (λ (x : WorldState). x.stripes) is ∙ stripes) (ap (λ (x : WorldState). x.order) is ∙ order) cache

-- a step was shown
step_as : (w m new : WorldState) (seen : Outcome) (from to : State) (x : Stepped) → seen ≡ Outcome.Stepped x → new ≡ m → m.config ≡ w.config → m.order ≡ w.order ++ added from to → Move w new seen
step_as w m new seen from to x shows is config order = loud_move (added from to) (ap (λ (v : WorldState). v.config) is ∙ config) (ap (λ (v : WorldState). v.order) is ∙ order) (ap changes_cache shows)

pub move_at : (w new : WorldState) (e : WorldEvent) (key : Bytes) (seen : Shown) → KeyChange w new e key seen → Move w new seen.outcome
move_at w new e key seen (by_nothing is none ends) = still_as w w new _ is refl refl refl
move_at w new e key seen (by_refusal u op refusal may is none ends) = still_as w _ new _ is refl refl refl
move_at w new e key seen (by_step u op from to x may there h home_is is shows ends) = step_as w _ new _ from to x shows is refl refl
move_at w new e key seen (by_reservation u op from to p r may there h is none ends) = quiet_as w _ new _ key from to there (ap (λ (s : State). s.cache) h.after) is refl refl refl
move_at w new e key seen (by_join u op from to join may there h is none ends) = quiet_as w _ new _ key from to there (ap (λ (s : State). s.cache) h.3) is refl refl refl
move_at w new e key seen (by_commit call part from to x e_is part_is there h home_is is shows) = step_as w _ new _ from to x shows is refl refl
move_at w new e key seen (by_withdrawal call part from to e_is part_is there h is shows) = quiet_as w _ new _ key from to there (ap (λ (s : State). s.cache) h.1) is refl refl refl
move_at w new e key seen (by_mark from to there out h reached is none ends) = quiet_as w _ new _ key from to there (ap (λ (s : State). s.cache) h) is refl refl refl
move_at w new e key seen (by_answer call join from to x e_is join_is there h home_is is shows ends) = quiet_as w _ new _ key from to there (ap (λ (s : State). s.cache) h.3) is refl refl refl
move_at w new e key seen (by_retry call join from to e_is join_is there h is shows ends) = quiet_as w _ new _ key from to there (ap (λ (s : State). s.cache) h.2) is refl refl refl

-- one more event than before
some_more : (stripe : ℕ) (from to : State) (e : Event) → to.history ≡ from.history ++ e ∷ [] → is_some (eviction_place stripe from to) ≡ true
some_more stripe from to e after =
    let n = length from.history in
    ap (λ b. is_some {T = EvictionPlace} (cond b (Some (record { stripe = stripe; place = n })) None)) (ap (λ h. nat_lt n (length h)) after ∙ ap (nat_lt n) (length-append from.history (e ∷ [])) ∙ below n)
  where
    below : (n : ℕ) → nat_lt n (n + 1) ≡ true
    below n = grind (arith, nat_tests)

-- a phase that appends nothing, and leaves the entries
phase_quiet : (w new : WorldState) (seen : Outcome) (key : Bytes) (from to : State) → stripe_for w key ≡ Some from → new.config ≡ w.config → new.stripes ≡ slice_set w.stripes (home w key) to → new.order ≡ w.order ++ added from to → to.cache ≡ from.cache → to.history ≡ from.history → Move w new seen
phase_quiet w new seen key from to there config stripes order cache history =
    quiet_move key from to there config stripes (order ∙ ap (λ more. w.order ++ more) (added_none from to history) ∙ append-nil w.order) cache

move_withdrawn : (w new : WorldState) (key : Bytes) (from to : State) (r : Reservation) (seen : Outcome) → stripe_for w key ≡ Some from → GivesBack from r to → seen ≡ Outcome.Withdrawn (eviction_place (home w key) from to)
    → new.config ≡ w.config → new.stripes ≡ slice_set w.stripes (home w key) to → new.order ≡ w.order ++ added from to → Move w new seen
move_withdrawn w new key from to r seen there (ended, withdraws, to_is) shows config stripes order =
    let history : ended.history ≡ from.history = ap (λ (s : State). s.history) withdraws.1 in
    elim (is_dropped (is_marked from r.key) ended r.key) as (λ b. to ≡ cond b (without_entry ended r.key) ended → Move w new seen) [
      | true ↦ λ at.
          let longer : to.history ≡ from.history ++ dropped_event r.key ∷ [] = ap (λ (s : State). s.history) at ∙ ap (λ h. h ++ dropped_event r.key ∷ []) history in
          loud_move (added from to) config order (ap changes_cache shows ∙ some_more (home w key) from to (dropped_event r.key) longer)
      | false ↦ λ at.
          phase_quiet w new seen key from to there config stripes order (ap (λ (s : State). s.cache) at ∙ ap (λ (s : State). s.cache) withdraws.1) (ap (λ (s : State). s.history) at ∙ history)
    ] to_is

move_invalidated : (w new : WorldState) (key : Bytes) (from to : State) (seen : Outcome) → stripe_for w key ≡ Some from → Invalidates from key to → seen ≡ invalidated_as (home w key) key from to
    → new.config ≡ w.config → new.stripes ≡ slice_set w.stripes (home w key) to → new.order ≡ w.order ++ added from to → Move w new seen
move_invalidated w new key from to seen there made shows config stripes order =
    let place = eviction_place (home w key) from to in
    let quiet : to.cache ≡ from.cache → to.history ≡ from.history → Move w new seen = phase_quiet w new seen key from to there config stripes order in
    elim (is_reserved from key) as (λ b. seen ≡ cond b Outcome.Marked (Outcome.Invalidated place) → to ≡ cond b (with_mark from key) (cond (is_some (entry_at from.cache key)) (drop_or_shut from key) from) → Move w new seen) [
      | true ↦ λ shows at. let is : to ≡ record from { marked = (with_mark from key).marked } = at ∙ marked_is from key in quiet (ap (λ (s : State). s.cache) is) (ap (λ (s : State). s.history) is)
      | false ↦ λ shows. elim (is_some (entry_at from.cache key)) as (λ b. to ≡ cond b (drop_or_shut from key) from → Move w new seen) [
        | true ↦ elim (has_place from) as (λ b. to ≡ cond b (without_entry from key) (record from { shut = true }) → Move w new seen) [
          | true ↦ λ at. loud_move (added from to) config order (ap changes_cache shows ∙ some_more (home w key) from to (dropped_event key) (ap (λ (s : State). s.history) at))
          | false ↦ λ at. quiet (ap (λ (s : State). s.cache) at) (ap (λ (s : State). s.history) at)
        ]
        | false ↦ λ at. quiet (ap (λ (s : State). s.cache) at) (ap (λ (s : State). s.history) at)
      ]
    ] shows made

-- of an event that fits, and of any
move_happens : (w new : WorldState) (e : WorldEvent) (seen : Shown) → Happens w e seen new → Move w new seen.outcome
move_happens w new (WorldEvent.Call call session command) seen h = still_as w _ new _ h.1 refl refl refl
move_happens w new (WorldEvent.Look call stripe) seen h = still_as w _ new _ h.9 refl refl refl
move_happens w new (WorldEvent.Read call key) seen h = still_as w _ new _ h.3 refl refl refl
move_happens w new (WorldEvent.Say call key answer) seen h = still_as w _ new _ h.3 refl refl refl
move_happens w new (WorldEvent.Process call key source calls fail) seen h = still_as w _ new _ h.3 refl refl refl
move_happens w new (WorldEvent.Change call key) seen h = still_as w _ new _ h.5 refl refl refl
move_happens w new (WorldEvent.Report call left fault) seen h = still_as w _ new _ (beside w new call h.0 left fault h.3).is refl refl refl
move_happens w new (WorldEvent.Commit call key) seen h =
    let e = ends_as w new call key h.0 h.2 h.4 seen.outcome h.5 in
    step_as w _ new seen.outcome h.2 h.4 e.0 e.1 e.4 refl refl
move_happens w new (WorldEvent.Withdraw call key) seen h =
    move_withdrawn w new key h.2 h.4 h.0.reservation seen.outcome h.3 h.5 (ap (λ (s : Shown). s.outcome) h.6) (ap (λ (v : WorldState). v.config) h.7) (ap (λ (v : WorldState). v.stripes) h.7) (ap (λ (v : WorldState). v.order) h.7)
move_happens w new (WorldEvent.Invalidate key) seen h =
    move_invalidated w new key h.0 h.2 seen.outcome h.1 h.3 (ap (λ (s : Shown). s.outcome) h.4) (ap (λ (v : WorldState). v.config) h.5) (ap (λ (v : WorldState). v.stripes) h.5) (ap (λ (v : WorldState). v.order) h.5)
move_happens w new (WorldEvent.Leave call) seen h = still_as w _ new _ h.1 refl refl refl
move_happens w new (WorldEvent.Foreign key value) seen h = still_as w _ new _ h.1 refl refl refl
move_happens w new (WorldEvent.Reopen config) seen h = reopening_move (ap (λ (s : Shown). is_reopening s.outcome) h.0)
move_happens w new e seen h = let k = key_change w new e seen refl h in move_at w new e k.0 seen k.1

pub move_step : (w new : WorldState) (e : WorldEvent) (seen : Shown) → Step w e seen new → Move w new seen.outcome
move_step w new e seen (inl (fit, happens)) = move_happens w new e seen happens
move_step w new e seen (inr (unfit, shows, is)) = still_as w w new _ is refl refl refl
