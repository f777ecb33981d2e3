-- The calls under way in a world of a program, by the numbers that its witness gives them; and that each event of a move but a
-- call's begin keeps that.
--     asked_in                        what an item has a call do, at which key
--     IsMirrored, AllMirrored         a call under way is that of the item which its thread began last, by the number of the thread's
--                                     progress; each is
--     mirrored_as                     so it is of a call, and with threads, that have the same
--     IsFree                          no call that has reserved a key has joined a load of it
--     Keeps, keeps_on                 both stay so, and so does the last number; one after another
--     is_within                       an event is one of a move, and no call's begin
--     keeps_run                       events of that kind keep it
use Rattle.std.specs.List.{AllByRecursion, cons_option}
use Rattle.std.specs.Cmp.Lexicographic.{pointwise}
use Rattle.std.specs.FinMap.{get, get-insert, get-remove, insert}
use Rattle.std.proofs.lemmas.Cmp.{nat_cmp_total, nat_list_cmp_total, on_total, then_total}
use Rattle.std.specs.Map.{set_value}
use Rattle.jc_types.specs.declared.caller.Caller.{Caller}
use Rattle.jc_types.specs.declared.refusal.Refusal.{Refusal}
use Rattle.jc_types.specs.declared.refusal.Refusal.TheVariants.{WriterFailed}
use Rattle.jc_types.proofs.CallerLemmas.{found_test}
use Rattle.jc_model.specs.Cache.{Bytes}
use Rattle.jc_model.specs.declared.event.Op.{Op}
use Rattle.jc_model.specs.declared.event.Op.TheVariants.{Invoke}
use Rattle.jc_model.specs.declared.event.WriteAnswer.{WriteAnswer}
use Rattle.jc_outside.proofs.CallerLemmas.{each_left, each_put, IsKeyOrder, keys_ordered, split}
use Rattle.jc_stripe.specs.Outcomes as begun
use Rattle.jc_stripe.specs.Phases.{Begins}
use Rattle.jc_stripe.specs.State.{State}
use Rattle.jc_stripe.specs.Tickets.{JoinClaim, TicketClaim}
use Rattle.jc_stripe.specs.declared.ticket.Reservation.{Reservation}
use Rattle.jc_world.proofs.CallerLemmas.{exact_joins}
use Rattle.jc_world.specs.Calls.{CallState, going_on, has_number, is_open, op_at, replaced, settled, with_met}
use Rattle.jc_world.specs.Events.{after_report, after_reports, EndsAs, fault_in, Happens, keys_reported, new_part, new_progress, Picks, reported_at, reported_now, ReservesAs, StartsAs, with_join, with_met_by, with_new_part, with_phase, with_settled, with_stripe, without_join}
use Rattle.jc_world.specs.Fits.{fits, is_free, may_start}
use Rattle.jc_world.specs.Premises.{report_for}
use Rattle.jc_world.specs.Runs.{Run}
use Rattle.jc_world.specs.World.{has_join, is_joined, join_cmp, join_key, JoinKey, of_call, part_of, waits_for_report, WorldState}
use Rattle.jc_world.specs.declared.command.CallKind.TheVariants.{Single}
use Rattle.jc_world.specs.declared.event.Outcome.{Outcome}
use Rattle.jc_world.specs.declared.event.Outcome.TheVariants as outcome
use Rattle.jc_world.specs.declared.event.Part.{Part}
use Rattle.jc_world.specs.declared.event.Shown.{Shown}
use Rattle.jc_world.specs.declared.event.WorldEvent.{WorldEvent}
use Rattle.jc_world.specs.declared.event.WorldEvent.TheVariants as event
use Rattle.jc_explore.specs.declared.program.Item.{Item}
use Rattle.jc_explore.specs.declared.program.Item.TheVariants as item
use Rattle.jc_explore.specs.declared.program.Program.{Program}
use Rattle.jc_explore.specs.Schedule.{item_at}
use Rattle.jc_litmus.specs.declared.witness.Progress.{Progress}
use Rattle.jc_litmus.proofs.Common.{[], and_parts, ap, Bool, cond, false, inl, inr, is_none, is_some, List, list_all, list_any, None, not, Option, refl, slice_get, Some, subst, sym, true, ℕ, ◌+◌, ◌==◌, ◌∙◌, ◌∷◌, ◌≡◌}
use Rattle.std.specs.Prelude.{IfSome, option_map, ◌-◌, ◌||◌}
use Rattle.std.proofs.Common.{eq-eqb, eqb-true, true≢false}

-- 1. Calls under way.

abbrev pub asked_in : Option Item → Option (Op × Bytes)
asked_in None = None
asked_in (Some (item.Call op key)) = Some (op, key)
asked_in (Some (item.Invoke key calls)) = Some (Invoke, key)
asked_in (Some (item.Foreign key value)) = None
asked_in (Some (item.Invalidate key)) = None

pub record IsMirrored (p : Program) (threads : List Progress) (u : CallState) : Type 0 where
  pub thread : ℕ
  pub progress : Progress
  pub op : Op
  pub key : Bytes
  pub there : slice_get threads thread ≡ Some progress
  pub session_is : u.caller.session ≡ thread + 1
  pub number_is : u.caller.call ≡ progress.call
  pub counts : progress.call ≡ 0 → ⊥
  pub asked : asked_in (item_at p thread (progress.begun - 1)) ≡ Some (op, key)
  pub kind_is : u.kind ≡ Single
  pub tasks_are : u.tasks ≡ (key, Some op) ∷ []
  pub sweep_is : u.sweep ≡ None

abbrev pub AllMirrored : Program → List Progress → List CallState → Type 0
AllMirrored p threads calls = AllByRecursion (IsMirrored p threads) calls

-- a call that differs in its cause alone, and threads that have the same of its own
pub mirrored_as : (p : Program) (threads other : List Progress) (u v : CallState) → v.caller ≡ u.caller → v.kind ≡ u.kind → v.tasks ≡ u.tasks → v.sweep ≡ u.sweep → (m : IsMirrored p threads u) → slice_get other m.thread ≡ Some m.progress → IsMirrored p other v
mirrored_as p threads other u v caller kind tasks sweep m there = record {
  thread = m.thread;
  progress = m.progress;
  op = m.op;
  key = m.key;
  there = there;
  session_is = ap (λ (c : Caller). c.session) caller ∙ m.session_is;
  number_is = ap (λ (c : Caller). c.call) caller ∙ m.number_is;
  counts = m.counts;
  asked = m.asked;
  kind_is = kind ∙ m.kind_is;
  tasks_are = tasks ∙ m.tasks_are;
  sweep_is = sweep ∙ m.sweep_is;
}

each_kept : (P : CallState → Type 0) (o : Option CallState) (us : List CallState) → IfSome o P → AllByRecursion P us → AllByRecursion P (cons_option o us)
each_kept P None us one all = all
each_kept P (Some u) us one all = (one, all)

each_replaced : (P : CallState → Type 0) (call : ℕ) (left : CallState → Option CallState) → ((u : CallState) → P u → IfSome (left u) P) → (us : List CallState) → AllByRecursion P us → AllByRecursion P (replaced call left us)
each_replaced P call left h [] all = all
each_replaced P call left h (u ∷ us) all =
    elim (has_number call u) as (λ b. AllByRecursion P (cond b (cons_option (left u) us) (u ∷ replaced call left us))) [
      | true ↦ each_kept P (left u) us (h u all.0) all.1
      | false ↦ (all.0, each_replaced P call left h us all.1)
    ]

module _ (p : Program) (threads : List Progress) where
  -- a call of one key is over once that is settled
  settled_kept : (key : Bytes) (met : Option Refusal) (u : CallState) → IsMirrored p threads u → IfSome (going_on (settled key met u)) (IsMirrored p threads)
  settled_kept key met u m = by (pointwise ◌==◌ key m.key) refl
    where
      next : CallState
      next = settled key met u

      tasks_are : next.tasks ≡ cond (pointwise ◌==◌ key m.key) ((m.key, None) ∷ []) ((m.key, Some m.op) ∷ [])
      tasks_are = ap (λ tasks. set_value (pointwise ◌==◌ key) tasks None) m.tasks_are

      by : (b : Bool) → pointwise ◌==◌ key m.key ≡ b → IfSome (going_on next) (IsMirrored p threads)
      by true e =
          let over : (is_some next.sweep || list_any is_open next.tasks) ≡ false =
          (λ i. is_some (m.sweep_is i) || list_any is_open ((tasks_are ∙ ap (λ b. cond b ((m.key, None) ∷ []) ((m.key, Some m.op) ∷ [])) e) i)) in
          subst (λ b. IfSome (cond b (Some next) None) (IsMirrored p threads)) (sym over) tt
      by false e =
          let tasks : next.tasks ≡ u.tasks = tasks_are ∙ ap (λ b. cond b ((m.key, None) ∷ []) ((m.key, Some m.op) ∷ [])) e ∙ sym m.tasks_are in
          let same : IsMirrored p threads next = mirrored_as p threads threads u next refl refl tasks refl m m.there in
          elim (is_some next.sweep || list_any is_open next.tasks) as (λ b. IfSome (cond b (Some next) None) (IsMirrored p threads)) [ true ↦ same | false ↦ tt ]

  met_kept : (met : Option Refusal) (u : CallState) → IsMirrored p threads u → IsMirrored p threads (with_met met u)
  met_kept met u m = mirrored_as p threads threads u (with_met met u) refl refl refl refl m m.there

-- 2. Reservations and joins.

abbrev pub IsFree : WorldState → Type 0
IsFree w = (key : Bytes) (part : Part) → get w.parts key ≡ Some part → is_joined w part.reservation.caller.call key ≡ false

joins_ordered : IsKeyOrder join_cmp
joins_ordered = record { total = then_total (on_total (λ (at : JoinKey). at.0) nat_cmp_total) (on_total (λ (at : JoinKey). at.1) nat_list_cmp_total); exact = exact_joins }

-- 3. What events keep.

module _ (p : Program) (threads : List Progress) where
  pub record Keeps (old new : WorldState) : Type 0 where
    pub last_is : new.last ≡ old.last
    pub calls : AllMirrored p threads old.calls → AllMirrored p threads new.calls
    pub free : IsFree old → IsFree new

  pub keeps_on : (a b c : WorldState) → Keeps a b → Keeps b c → Keeps a c
  keeps_on a b c one other = record { last_is = other.last_is ∙ one.last_is; calls = λ all. other.calls (one.calls all); free = λ free. other.free (one.free free) }

  pub keeps_as : (old new : WorldState) → new ≡ old → Keeps old new
  keeps_as old new is = subst (Keeps old) (sym is) (record { last_is = refl; calls = λ all. all; free = λ free. free })

  -- a key of a call is settled
  keeps_settled : (w : WorldState) (call : ℕ) (key : Bytes) (met : Option Refusal) → Keeps w (with_settled w call key met)
  keeps_settled w call key met = record {
    last_is = refl;
    calls = λ all. each_replaced (IsMirrored p threads) call (λ u. going_on (settled key met u)) (settled_kept p threads key met) w.calls all;
    free = λ free. free;
  }

  -- neither calls nor reservations nor joins change
  keeps_beside : (old new : WorldState) → new.last ≡ old.last → new.calls ≡ old.calls → new.parts ≡ old.parts → new.joins ≡ old.joins → Keeps old new
  keeps_beside old new last calls parts joins = record {
    last_is = last;
    calls = λ all. subst (AllMirrored p threads) (sym calls) all;
    free = λ free key part is. ap (λ js. has_join js part.reservation.caller.call key) joins ∙ free key part (ap (λ ps. get ps key) (sym parts) ∙ is);
  }

  -- a key has this part, and its call has no join of it
  keeps_part : (old new : WorldState) (key : Bytes) (part : Part) → new.last ≡ old.last → new.calls ≡ old.calls → new.parts ≡ insert old.parts key part → new.joins ≡ old.joins
      → is_joined old part.reservation.caller.call key ≡ false → Keeps old new
  keeps_part old new key part last calls parts joins none = record {
    last_is = last;
    calls = λ all. subst (AllMirrored p threads) (sym calls) all;
    free = λ free k x is.
        ap (λ js. has_join js x.reservation.caller.call k) joins
        ∙ each_put keys_ordered (λ k (x : Part). has_join old.joins x.reservation.caller.call k ≡ false) old.parts key part none free k x (ap (λ ps. get ps k) (sym parts) ∙ is);
  }

  -- a reserved key's part changes, and not its reservation
  keeps_progress : (old new : WorldState) (call : ℕ) (key : Bytes) (was part : Part) → new.last ≡ old.last → new.calls ≡ old.calls → new.parts ≡ insert old.parts key part → new.joins ≡ old.joins
      → part_of old call key ≡ Some was → part.reservation ≡ was.reservation → Keeps old new
  keeps_progress old new call key was part last calls parts joins there same = record {
    last_is = last;
    calls = λ all. subst (AllMirrored p threads) (sym calls) all;
    free = λ free. (keeps_part old new key part last calls parts joins (ap (λ (r : Reservation). is_joined old r.caller.call key) same ∙ free key was (part_at (get old.parts key) there))).free free;
  }
    where
      part_at : (o : Option Part) → of_call call o ≡ Some was → o ≡ Some was
      part_at None h = cc
      part_at (Some x) h = elim (x.reservation.caller.call == call) as (λ b. cond b (Some x) None ≡ Some was → Some x ≡ Some was) [ true ↦ λ h. h | false ↦ λ h. cc ] h

  -- a call that has neither reserved a key nor joined a load of it
  no_join : (w : WorldState) (call : ℕ) (key : Bytes) → is_free w call key ≡ true → is_joined w call key ≡ false
  no_join w call key free = not_true (is_joined w call key) (and_parts (is_none (part_of w call key)) (not (is_joined w call key)) free).1
    where
      not_true : (b : Bool) → not b ≡ true → b ≡ false
      not_true true h = cc
      not_true false h = refl

  keeps_reserved : (w new : WorldState) (caller : Caller) (key : Bytes) (op : Op) (from to : State) (seen : Outcome) → is_free w caller.call key ≡ true → ReservesAs w caller key op from to seen new → Keeps w new
  keeps_reserved w new caller key op from to seen free (ticket, begins, seen_is, new_is) =
      let r : Reservation = ticket.reservation in
      let mine : r.caller ≡ caller = ap (λ (t : TicketClaim). t.reservation.caller) begins.4 in
      subst (Keeps w) (sym new_is)
      (keeps_part w (with_new_part w key to (new_progress r.first) r) key (new_part (new_progress r.first) r) refl refl refl refl
      (ap (λ (c : Caller). is_joined w c.call key) mine ∙ no_join w caller.call key free))

  -- a join of another call, or of another key, isn't this one
  keeps_joined : (w new : WorldState) (caller : Caller) (key : Bytes) (op : Op) (from to : State) → is_free w caller.call key ≡ true
      → (join : JoinClaim) × Begins from caller key op (begun.Joined join) to × (new ≡ with_join (with_stripe w key to) join) → Keeps w new
  keeps_joined w new caller key op from to free (join, begins, new_is) = subst (Keeps w) (sym new_is) (record {
    last_is = refl;
    calls = λ all. all;
    free = λ apart k part is.
        let at : JoinKey = (part.reservation.caller.call, k) in
        ap is_some (get-insert joins_ordered.total w.joins (join_key join) join at)
        ∙ split joins_ordered at (join_key join) (λ b. is_some (cond b (Some join) (get w.joins at)) ≡ false)
        (λ same.
        let call_is : part.reservation.caller.call ≡ caller.call = ap (λ (q : JoinKey). q.0) same ∙ ap (λ (j : JoinClaim). j.caller.call) begins.2 in
        let key_is : k ≡ key = ap (λ (q : JoinKey). q.1) same ∙ ap (λ (j : JoinClaim). j.key) begins.2 in
        let there : get w.parts key ≡ Some part = ap (get w.parts) (sym key_is) ∙ is in
        let mine : part_of w caller.call key ≡ Some part = ap (of_call caller.call) there ∙ ap (λ b. cond b (Some part) None) (eq-eqb _ _ call_is) in
        let none = (and_parts (is_none (part_of w caller.call key)) (not (is_joined w caller.call key)) free).0 in
        let t : true ≡ false = sym none ∙ ap is_none mine in cc)
        (λ other. apart k part is);
  })

  -- the first phase of a call
  pub keeps_started : (w new : WorldState) (caller : Caller) (key : Bytes) (op : Op) (from to : State) (seen : Outcome) → is_free w caller.call key ≡ true → StartsAs w caller key op from to seen new → Keeps w new
  keeps_started w new caller key op from to (outcome.Refused refusal) free h = subst (Keeps w) (sym h.1) (keeps_settled w caller.call key (Some refusal))
  keeps_started w new caller key op from to (outcome.PutOff refusal) free h = keeps_as w new h.1
  keeps_started w new caller key op from to (outcome.Stepped x) free h = subst (Keeps w) (sym h.2) (keeps_on w _ _ (keeps_beside w (with_phase w key from to) refl refl refl refl) (keeps_settled (with_phase w key from to) caller.call key (fault_in x.reply)))
  keeps_started w new caller key op from to outcome.Loads free h = keeps_reserved w new caller key op from to outcome.Loads free h
  keeps_started w new caller key op from to (outcome.Asks change) free h = keeps_reserved w new caller key op from to (outcome.Asks change) free h
  keeps_started w new caller key op from to (outcome.Processes entry) free h = keeps_reserved w new caller key op from to (outcome.Processes entry) free h
  keeps_started w new caller key op from to outcome.Joins free h = keeps_joined w new caller key op from to free h
  keeps_started w new caller key op from to seen free h = absurd h

  -- the last phase
  keeps_ended : (w new : WorldState) (call : ℕ) (key : Bytes) (part : Part) (from to : State) (seen : Outcome) → EndsAs w call key part from to seen new → Keeps w new
  keeps_ended w new call key part from to (outcome.Stepped x) h = subst (Keeps w) (sym h.2) (record {
    last_is = refl;
    calls = λ all. each_replaced (IsMirrored p threads) call (λ u. going_on (settled key (fault_in x.reply) u)) (settled_kept p threads key (fault_in x.reply)) w.calls all;
    free = λ free. each_left keys_ordered (λ k (q : Part). is_joined w q.reservation.caller.call k ≡ false) w.parts key (λ k q other is. free k q is);
  })
  keeps_ended w new call key part from to seen h = absurd h

  -- a pick-up
  none_left : (b : Bool) (o : Option JoinClaim) → is_some o ≡ false → is_some (cond b None o) ≡ false
  none_left true o h = refl
  none_left false o h = h

  keeps_unjoined : (w : WorldState) (call : ℕ) (key : Bytes) (to : State) → Keeps w (without_join (with_stripe w key to) call key)
  keeps_unjoined w call key to = record {
    last_is = refl;
    calls = λ all. all;
    free = λ free k part is.
        let at : JoinKey = (part.reservation.caller.call, k) in
        ap is_some (get-remove joins_ordered.total w.joins (call, key) at) ∙ none_left _ (get w.joins at) (free k part is);
  }

  keeps_picked : (w new : WorldState) (call : ℕ) (key : Bytes) (join : JoinClaim) (from to : State) (seen : Outcome) → Picks w call key join from to seen new → Keeps w new
  keeps_picked w new call key join from to (outcome.PickedUp x) h = subst (Keeps w) (sym h.2) (keeps_on w _ _ (keeps_unjoined w call key to) (keeps_settled (without_join (with_stripe w key to) call key) call key (fault_in x.reply)))
  keeps_picked w new call key join from to outcome.Again h = subst (Keeps w) (sym h.1) (keeps_unjoined w call key to)
  keeps_picked w new call key join from to outcome.Waits h = keeps_as w new h.1
  keeps_picked w new call key join from to seen h = absurd h

  -- the writer's returns
  keeps_reported : (w : WorldState) (call : ℕ) (key : Bytes) (report : WriteAnswer) (part : Option Part) → part_of w call key ≡ part → Keeps w (reported_at w key report part)
  keeps_reported w call key report None there = keeps_as w w refl
  keeps_reported w call key report (Some part) there =
      elim (waits_for_report part) as (λ b. Keeps w (cond b (after_report w key part report) w)) [
        | true ↦ keeps_progress w (after_report w key part report) call key part _ refl refl refl refl there refl
        | false ↦ keeps_as w w refl
      ]

  keeps_reports : (w : WorldState) (call : ℕ) (answer : Bytes → WriteAnswer) (keys : List Bytes) → Keeps w (after_reports w call answer keys)
  keeps_reports w call answer [] = keeps_as w w refl
  keeps_reports w call answer (key ∷ keys) =
      keeps_on w _ _ (keeps_reported w call key (answer key) (part_of w call key) refl) (keeps_reports (reported_at w key (answer key) (part_of w call key)) call answer keys)

  keeps_met : (w : WorldState) (call : ℕ) (met : Option Refusal) → Keeps w (with_met_by w call met)
  keeps_met w call met = record {
    last_is = refl;
    calls = λ all. each_replaced (IsMirrored p threads) call (λ u. Some (with_met met u)) (met_kept p threads met) w.calls all;
    free = λ free. free;
  }

-- 4. Events of a move.

abbrev pub is_within : WorldEvent → Bool
is_within (event.Call call session command) = false
is_within (event.Look call stripe) = false
is_within (event.Withdraw call key) = false
is_within (event.Leave call) = false
is_within (event.Reopen config) = false
is_within e = true

module _ (p : Program) (threads : List Progress) where
  pub keeps_happens : (w new : WorldState) (e : WorldEvent) (seen : Shown) → is_within e ≡ true → fits w e ≡ true → Happens w e seen new → Keeps p threads w new
  keeps_happens w new (event.Start call key) seen within fit h =
      let number : h.0.caller.call ≡ call = eqb-true h.0.caller.call call (found_test (has_number call) w.calls h.0 h.2) in
      let free = (and_parts (is_some (op_at h.0 key)) (is_free w call key) (sym (ap (may_start w call key) h.2) ∙ fit)).1 in
      keeps_started p threads w new h.0.caller key h.1 h.4 h.6 seen.outcome (ap (λ c. is_free w c key) number ∙ free) h.7
  keeps_happens w new (event.Read call key) seen within fit h = subst (Keeps p threads w) (sym h.3) (keeps_progress p threads w _ call key h.0 _ refl refl refl refl h.1 refl)
  keeps_happens w new (event.Say call key answer) seen within fit h = subst (Keeps p threads w) (sym h.3) (keeps_progress p threads w _ call key h.0 _ refl refl refl refl h.1 refl)
  keeps_happens w new (event.Change call key) seen within fit h = subst (Keeps p threads w) (sym h.5) (keeps_progress p threads w _ call key h.0 _ refl refl refl refl h.2 refl)
  keeps_happens w new (event.Report call left fault) seen within fit h =
      subst (Keeps p threads w) (sym h.3)
      (keeps_on p threads w _ _ (keeps_met p threads w call (option_map WriterFailed fault))
      (keeps_reports p threads (with_met_by w call (option_map WriterFailed fault)) call (report_for h.0.kind left fault) (keys_reported (reported_now w call h.0))))
  keeps_happens w new (event.Process call key source calls fail) seen within fit h = subst (Keeps p threads w) (sym h.3) (keeps_progress p threads w _ call key h.0 _ refl refl refl refl h.1 refl)
  keeps_happens w new (event.Commit call key) seen within fit h = keeps_ended p threads w new call key h.0 h.2 h.4 seen.outcome h.5
  keeps_happens w new (event.PickUp call key) seen within fit h = keeps_picked p threads w new call key h.0 h.2 h.4 seen.outcome h.5
  keeps_happens w new (event.Foreign key value) seen within fit h = subst (Keeps p threads w) (sym h.1) (keeps_beside p threads w _ refl refl refl refl)
  keeps_happens w new (event.Invalidate key) seen within fit h = subst (Keeps p threads w) (sym h.5) (keeps_beside p threads w _ refl refl refl refl)
  keeps_happens w new e seen within fit h = absurd (true≢false (sym within))

  pub keeps_run : (w new : WorldState) (es : List WorldEvent) (ss : List Shown) → list_all is_within es ≡ true → Run w es ss new → Keeps p threads w new
  keeps_run w new [] [] within run = keeps_as p threads w new run
  keeps_run w new (e ∷ es) (s ∷ ss) within (mid, inl (fit, happens), rest) =
      let parts = and_parts (is_within e) (list_all is_within es) within in
      keeps_on p threads w mid new (keeps_happens w mid e s parts.0 fit happens) (keeps_run mid new es ss parts.1 rest)
  keeps_run w new (e ∷ es) (s ∷ ss) within (mid, inr (unfit, shows, is), rest) =
      keeps_on p threads w mid new (keeps_as p threads w mid is) (keeps_run mid new es ss (and_parts (is_within e) (list_all is_within es) within).1 rest)
  keeps_run w new es ss within run = absurd run
