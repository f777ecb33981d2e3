-- An event of a world is determined, but for insertions that are out of memory; and so is a run.
use Rattle.jc_world.proofs.Common.{◌≡◌, ℕ, List, [], ◌∷◌, Bool, true, false, cond, Option, Some, option_map, slice_get, sym, refl, ap, ◌∙◌, subst, true≢false, inl, inr, and_parts, Caller, Op, Reply, Event, JoinState, Waiting, Answered, Again, JoinAnswer, Bytes, entry_at, State, JoinClaim, Begun, StepDone, WorldEvent, Outcome, Shown, Stepped, Part, keys_of, AreKeys, by_use, CallState, SweepState, keeps_open, op_at, with_swept_keys, over_of, WorldState, home, out_of_part, writer_change, read_answer, report_for, load_from, Over, Change, WriterFailed}
use Rattle.jc_model.specs.declared.event.Reply.TheVariants as reply
use Rattle.jc_model.specs.declared.event.Event.TheVariants as stripe
use Rattle.jc_stripe.specs.Outcomes as begun
use Rattle.jc_stripe.specs.Phases.{Begins}
use Rattle.jc_stripe.specs.Invalidating.{GivesBack, after_invalidation}
use Rattle.jc_world.specs.declared.command.CallKind.{CallKind}
use Rattle.jc_world.specs.declared.event.WorldEvent.TheVariants as event
use Rattle.jc_world.specs.declared.event.Outcome.TheVariants as outcome
use Rattle.jc_world.proofs.SortedKeys.{sorted-once}
use Rattle.jc_world.specs.Events.{Happens, after_answer, after_change, after_process, run_result, shown_process, after_reports, with_met_by, keys_reported, reported_now, StartsAs, RefusesAs, EndsAs, Picks, eviction_place, invalidated_as, with_stripe, with_phase, step_of, with_settled, fault_in, asks_as, new_progress, with_new_part, with_join, with_commit, without_part, without_join, not_over, over_by, with_look}
use Rattle.jc_world.specs.Runs.{Step, Run}
use Rattle.jc_world.specs.Determinism.{has_memory, have_memory}
use Rattle.jc_world.proofs.DeterminedStripes.{begun_amply, begins-determined, end-determined, gives_back-determined}
use Rattle.jc_world.proofs.Facts.{some_back}

-- 1. A first phase, by what it returns.

abbrev stepped_of : ℕ → StepDone → Stepped
stepped_of stripe done = record { reply = done.reply; stripe = stripe; place = done.place; victim = done.victim; evicted = done.evicted }

abbrev outcome_by : WorldState → CallKind → Bytes → Begun → Outcome
outcome_by w kind key (begun.Refused r) = cond (keeps_open kind r) (outcome.PutOff r) (outcome.Refused r)
outcome_by w kind key (begun.Done done) = outcome.Stepped (stepped_of (home w key) done)
outcome_by w kind key (begun.Asks ticket) = asks_as ticket.reservation.first
outcome_by w kind key (begun.Joined join) = outcome.Joins

abbrev world_by : WorldState → CallKind → Caller → Bytes → State → State → Begun → WorldState
world_by w kind caller key from to (begun.Refused r) = cond (keeps_open kind r) w (with_settled w caller.call key (Some r))
world_by w kind caller key from to (begun.Done done) = with_settled (with_phase w key from to) caller.call key (fault_in done.reply)
world_by w kind caller key from to (begun.Asks ticket) = with_new_part w key to (new_progress ticket.reservation.first) ticket.reservation
world_by w kind caller key from to (begun.Joined join) = with_join (with_stripe w key to) join

record StartsBy (w : WorldState) (kind : CallKind) (caller : Caller) (key : Bytes) (op : Op) (from to : State) (o : Outcome) (n : WorldState) : Type 0 where
  by : Begun
  begins : Begins from caller key op by to
  ample : begun_amply by ≡ true
  shown : o ≡ outcome_by w kind key by
  leaves : n ≡ world_by w kind caller key from to by

starts-by : (w : WorldState) (kind : CallKind) (caller : Caller) (key : Bytes) (op : Op) (from to : State) (o : Outcome) (n : WorldState)
    → StartsAs w caller key op from to o n → RefusesAs kind o → has_memory o ≡ true → StartsBy w kind caller key op from to o n
starts-by w kind caller key op from to (outcome.Refused r) n starts kept ample =
    record { by = begun.Refused r; begins = starts.0; ample = refl; shown = rw kept refl; leaves = rw kept starts.1 }
starts-by w kind caller key op from to (outcome.PutOff r) n starts kept ample =
    record { by = begun.Refused r; begins = starts.0; ample = refl; shown = rw kept refl; leaves = rw kept starts.1 }
starts-by w kind caller key op from to (outcome.Stepped seen) n starts kept ample =
    record { by = begun.Done (step_of seen); begins = starts.0; ample = ample; shown = ap (λ (h : ℕ). outcome.Stepped (record seen { stripe = h })) starts.1; leaves = starts.2 }
starts-by w kind caller key op from to outcome.Loads n starts kept ample =
    record { by = begun.Asks starts.0; begins = starts.1; ample = refl; shown = starts.2; leaves = starts.3 }
starts-by w kind caller key op from to (outcome.Asks change) n starts kept ample =
    record { by = begun.Asks starts.0; begins = starts.1; ample = refl; shown = starts.2; leaves = starts.3 }
starts-by w kind caller key op from to (outcome.Processes entry) n starts kept ample =
    record { by = begun.Asks starts.0; begins = starts.1; ample = refl; shown = starts.2; leaves = starts.3 }
starts-by w kind caller key op from to outcome.Joins n starts kept ample =
    record { by = begun.Joined starts.0; begins = starts.1; ample = refl; shown = refl; leaves = starts.2 }
starts-by w kind caller key op from to o n starts kept ample = absurd starts

starts-determined : (w : WorldState) (kind : CallKind) (caller : Caller) (key : Bytes) (op : Op) (from to too : State) (o p : Outcome) (n m : WorldState)
    → StartsBy w kind caller key op from to o n → StartsBy w kind caller key op from too p m → (o ≡ p) × (n ≡ m)
starts-determined w kind caller key op from to too o p n m one other =
    let same = begins-determined from to too caller key op one.by other.by one.begins one.ample other.begins other.ample in (
      one.shown ∙ ap (λ (b : Begun). outcome_by w kind key b) same.0 ∙ sym other.shown,
      one.leaves ∙ ap (λ (b : Begun). world_by w kind caller key from to b) same.0 ∙ ap (λ (s : State). world_by w kind caller key from s other.by) same.1 ∙ sym other.leaves,
    )

-- 2. A last phase, and a pick-up.

ends-determined : (w : WorldState) (call : ℕ) (key : Bytes) (part : Part) (from to too : State) (o p : Outcome) (n m : WorldState)
    → EndsAs w call key part from to o n → has_memory o ≡ true → EndsAs w call key part from too p m → has_memory p ≡ true → (o ≡ p) × (n ≡ m)
ends-determined w call key part from to too (outcome.Stepped a) (outcome.Stepped b) n m one ample other ample_too =
    let same = end-determined from to too part.reservation (out_of_part part) (step_of a) (step_of b) one.0 ample other.0 ample_too in (
      ap (λ (h : ℕ). outcome.Stepped (record a { stripe = h })) one.1 ∙ ap (λ (d : StepDone). outcome.Stepped (stepped_of (home w key) d)) same.0 ∙ sym (ap (λ (h : ℕ). outcome.Stepped (record b { stripe = h })) other.1),
      one.2 ∙ ap (λ (d : StepDone). with_commit w key part from to call (fault_in d.reply)) same.0
          ∙ ap (λ (s : State). with_commit w key part from s call (fault_in b.reply)) same.1 ∙ sym other.2,
    )
ends-determined w call key part from to too (outcome.Stepped a) p n m one ample other ample_too = absurd other
ends-determined w call key part from to too o p n m one ample other ample_too = absurd one

abbrev place_in : JoinState → ℕ
place_in Waiting = 0
place_in (Answered place shared) = place
place_in Again = 0

abbrev shared_in : JoinState → ℕ
shared_in Waiting = 0
shared_in (Answered place shared) = shared
shared_in Again = 0

abbrev is_told : JoinState → Bool
is_told Waiting = false
is_told (Answered place shared) = true
is_told Again = false

abbrev is_again : JoinState → Bool
is_again Waiting = false
is_again (Answered place shared) = false
is_again Again = true

abbrev reply_in : Event → Reply
reply_in (stripe.Step caller op key out shared reply) = reply
reply_in (stripe.Evict key cause) = reply.Unit

unlike : (test : JoinState → Bool) (o : Option JoinState) (a b : JoinState) → o ≡ Some a → o ≡ Some b → test a ≡ true → test b ≡ false → ⊥
unlike test o a b one other is isnt = true≢false (sym is ∙ ap test (some_back a b (sym one ∙ other)) ∙ isnt)

answer-as : (a : JoinAnswer) (reply : Reply) (stripe place shared : ℕ) → a.reply ≡ reply → a.stripe ≡ stripe → a.place ≡ place → a.shared ≡ shared
    → a ≡ record { reply = reply; stripe = stripe; place = place; shared = shared }
answer-as a reply stripe place shared r s p q =
    ap (λ (x : Reply). record a { reply = x }) r
    ∙ ap (λ (x : ℕ). record a { reply = reply; stripe = x }) s
    ∙ ap (λ (x : ℕ). record a { reply = reply; stripe = stripe; place = x }) p
    ∙ ap (λ (x : ℕ). record { reply = reply; stripe = stripe; place = place; shared = x }) q

picks-determined : (w : WorldState) (call : ℕ) (key : Bytes) (join : JoinClaim) (from to too : State) (o p : Outcome) (n m : WorldState)
    → Picks w call key join from to o n → Picks w call key join from too p m → (o ≡ p) × (n ≡ m)
picks-determined w call key join from to too (outcome.PickedUp a) (outcome.PickedUp b) n m one other =
    let told : Answered a.place a.shared ≡ Answered b.place b.shared = some_back _ _ (sym one.0.1 ∙ other.0.1) in
    let place : a.place ≡ b.place = ap place_in told in
    let shared : a.shared ≡ b.shared = ap shared_in told in
    let reply : a.reply ≡ b.reply = ap reply_in (some_back _ _ (sym one.0.2.1 ∙ ap (λ (x : ℕ). slice_get from.history x) place ∙ other.0.2.1)) in
    let state : to ≡ too = one.0.3 ∙ sym other.0.3 in (
      ap (λ (x : JoinAnswer). outcome.PickedUp x) (answer-as a b.reply b.stripe b.place b.shared reply (one.1 ∙ sym other.1) place shared),
      one.2 ∙ ap (λ (s : State). with_settled (without_join (with_stripe w key s) call key) call key (fault_in a.reply)) state
          ∙ ap (λ (r : Reply). with_settled (without_join (with_stripe w key too) call key) call key (fault_in r)) reply ∙ sym other.2,
    )
picks-determined w call key join from to too (outcome.PickedUp a) outcome.Again n m one other = absurd (unlike is_told _ _ _ one.0.1 other.0.1 refl refl)
picks-determined w call key join from to too (outcome.PickedUp a) outcome.Waits n m one other = absurd (unlike is_told _ _ _ one.0.1 other.0.1 refl refl)
picks-determined w call key join from to too (outcome.PickedUp a) p n m one other = absurd other
picks-determined w call key join from to too outcome.Again (outcome.PickedUp b) n m one other = absurd (unlike is_told _ _ _ other.0.1 one.0.1 refl refl)
picks-determined w call key join from to too outcome.Again outcome.Again n m one other =
    (refl, one.1 ∙ ap (λ (s : State). without_join (with_stripe w key s) call key) (one.0.2 ∙ sym other.0.2) ∙ sym other.1)
picks-determined w call key join from to too outcome.Again outcome.Waits n m one other = absurd (unlike is_again _ _ _ one.0.1 other.0.1 refl refl)
picks-determined w call key join from to too outcome.Again p n m one other = absurd other
picks-determined w call key join from to too outcome.Waits (outcome.PickedUp b) n m one other = absurd (unlike is_told _ _ _ other.0.1 one.0.1 refl refl)
picks-determined w call key join from to too outcome.Waits outcome.Again n m one other = absurd (unlike is_again _ _ _ other.0.1 one.0.1 refl refl)
picks-determined w call key join from to too outcome.Waits outcome.Waits n m one other = (refl, one.1 ∙ sym other.1)
picks-determined w call key join from to too outcome.Waits p n m one other = absurd other
picks-determined w call key join from to too o p n m one other = absurd one

-- 3. An event.

shown-as : (s t : Shown) → s.outcome ≡ t.outcome → s.over ≡ t.over → s ≡ t
shown-as s t o v = ap (λ (x : Outcome). record s { outcome = x }) o ∙ ap (λ (x : Option Over). record { outcome = t.outcome; over = x }) v

abbrev shown_look : WorldState → ℕ → List Bytes → SweepState → CallState → Shown
shown_look w stripe keys sweep u = record { outcome = outcome.Looked; over = over_of (with_swept_keys w.config.stripes stripe keys sweep u) }

happens-determined : (w n m : WorldState) (e : WorldEvent) (s t : Shown)
    → Happens w e s n → has_memory s.outcome ≡ true → Happens w e t m → has_memory t.outcome ≡ true → (s ≡ t) × (n ≡ m)
happens-determined w n m (event.Call call session command) s t one _ other _ = (one.0 ∙ sym other.0, one.1 ∙ sym other.1)
happens-determined w n m (event.Look call stripe) s t one _ other _ =
    let u : one.0 ≡ other.0 = some_back one.0 other.0 (sym one.2 ∙ other.2) in
    let sweep : one.1 ≡ other.1 = some_back one.1 other.1 (sym one.3 ∙ ap (λ (x : CallState). x.sweep) u ∙ other.3) in
    let from : one.4 ≡ other.4 = some_back one.4 other.4 (sym one.5 ∙ other.5) in
    let his = subst (λ (x : State). AreKeys x other.6) (sym from) other.7 in
    let keys : one.6 ≡ other.6 = sorted-once (keys_of (by_use one.4.opening one.4.history)) one.6 other.6 one.7.each one.7.order his.each his.order in (
      one.8 ∙ ap (λ (ks : List Bytes). shown_look w stripe ks one.1 one.0) keys ∙ ap (λ (x : SweepState). shown_look w stripe other.6 x one.0) sweep
          ∙ ap (λ (x : CallState). shown_look w stripe other.6 other.1 x) u ∙ sym other.8,
      one.9 ∙ ap (λ (ks : List Bytes). with_look w call stripe ks one.1) keys ∙ ap (λ (x : SweepState). with_look w call stripe other.6 x) sweep ∙ sym other.9,
    )
happens-determined w n m (event.Start call key) s t one ample other ample_too =
    let u : one.0 ≡ other.0 = some_back one.0 other.0 (sym one.2 ∙ other.2) in
    let op : one.1 ≡ other.1 = some_back one.1 other.1 (sym one.3 ∙ ap (λ (x : CallState). op_at x key) u ∙ other.3) in
    let from : one.4 ≡ other.4 = some_back one.4 other.4 (sym one.5 ∙ other.5) in
    let mine = starts-by w one.0.kind one.0.caller key one.1 one.4 one.6 s.outcome n one.7 one.8 ample in
    let his = starts-by w other.0.kind other.0.caller key other.1 other.4 other.6 t.outcome m other.7 other.8 ample_too in
    let by_u = subst (λ (x : CallState). StartsBy w x.kind x.caller key other.1 other.4 other.6 t.outcome m) (sym u) his in
    let by_op = subst (λ (x : Op). StartsBy w one.0.kind one.0.caller key x other.4 other.6 t.outcome m) (sym op) by_u in
    let by_from = subst (λ (x : State). StartsBy w one.0.kind one.0.caller key one.1 x other.6 t.outcome m) (sym from) by_op in
    let same = starts-determined w one.0.kind one.0.caller key one.1 one.4 one.6 other.6 s.outcome t.outcome n m mine by_from in
    (shown-as s t same.0 (one.9 ∙ ap (λ (x : CallState). over_by w x.caller.call key s.outcome) u ∙ ap (λ (o : Outcome). over_by w other.0.caller.call key o) same.0 ∙ sym other.9), same.1)
happens-determined w n m (event.Read call key) s t one _ other _ =
    let part : one.0 ≡ other.0 = some_back one.0 other.0 (sym one.1 ∙ other.1) in
    (one.2 ∙ sym other.2, one.3 ∙ ap (λ (p : Part). after_answer w key p (read_answer (entry_at w.store key))) part ∙ sym other.3)
happens-determined w n m (event.Say call key answer) s t one _ other _ =
    let part : one.0 ≡ other.0 = some_back one.0 other.0 (sym one.1 ∙ other.1) in
    (one.2 ∙ sym other.2, one.3 ∙ ap (λ (p : Part). after_answer w key p answer) part ∙ sym other.3)
happens-determined w n m (event.Change call key) s t one _ other _ =
    let part : one.0 ≡ other.0 = some_back one.0 other.0 (sym one.2 ∙ other.2) in
    let change : one.1 ≡ other.1 = some_back one.1 other.1 (sym one.3 ∙ ap writer_change part ∙ other.3) in
    (one.4 ∙ sym other.4, one.5 ∙ ap (λ (p : Part). after_change w key p one.1) part ∙ ap (λ (c : Change). after_change w key other.0 c) change ∙ sym other.5)
happens-determined w n m (event.Report call left fault) s t one _ other _ =
    let u : one.0 ≡ other.0 = some_back one.0 other.0 (sym one.1 ∙ other.1) in (
      one.2 ∙ ap (λ (u : CallState). not_over (outcome.Reported (record { keys = reported_now w call u; fault = fault }))) u ∙ sym other.2,
      one.3 ∙ ap (λ (u : CallState). after_reports (with_met_by w call (option_map WriterFailed fault)) call (report_for u.kind left fault) (keys_reported (reported_now w call u))) u ∙ sym other.3,
    )
happens-determined w n m (event.Process call key source calls fail) s t one _ other _ =
    let part : one.0 ≡ other.0 = some_back one.0 other.0 (sym one.1 ∙ other.1) in (
      one.2 ∙ ap (λ (p : Part). not_over (outcome.Processed (shown_process w.config p.reservation (load_from source (entry_at w.store key)) calls fail))) part ∙ sym other.2,
      one.3 ∙ ap (λ (p : Part). after_process w key p (run_result p.reservation (load_from source (entry_at w.store key)) calls fail)) part ∙ sym other.3,
    )
happens-determined w n m (event.Commit call key) s t one ample other ample_too =
    let part : one.0 ≡ other.0 = some_back one.0 other.0 (sym one.1 ∙ other.1) in
    let from : one.2 ≡ other.2 = some_back one.2 other.2 (sym one.3 ∙ other.3) in
    let by_part = subst (λ (x : Part). EndsAs w call key x other.2 other.4 t.outcome m) (sym part) other.5 in
    let by_from = subst (λ (x : State). EndsAs w call key one.0 x other.4 t.outcome m) (sym from) by_part in
    let same = ends-determined w call key one.0 one.2 one.4 other.4 s.outcome t.outcome n m one.5 ample by_from ample_too in
    (shown-as s t same.0 (one.6 ∙ ap (λ (o : Outcome). over_by w call key o) same.0 ∙ sym other.6), same.1)
happens-determined w n m (event.Withdraw call key) s t one _ other _ =
    let part : one.0 ≡ other.0 = some_back one.0 other.0 (sym one.1 ∙ other.1) in
    let from : one.2 ≡ other.2 = some_back one.2 other.2 (sym one.3 ∙ other.3) in
    let by_part = subst (λ (p : Part). GivesBack other.2 p.reservation other.4) (sym part) other.5 in
    let by_from = subst (λ (x : State). GivesBack x one.0.reservation other.4) (sym from) by_part in
    let to : one.4 ≡ other.4 = gives_back-determined one.2 one.4 other.4 one.0.reservation one.5 by_from in (
      one.6 ∙ (λ i. not_over (outcome.Withdrawn (eviction_place (home w key) (from i) (to i)))) ∙ sym other.6,
      one.7 ∙ (λ i. without_part (with_phase w key (from i) (to i)) key) ∙ sym other.7,
    )
happens-determined w n m (event.Leave call) s t one _ other _ = (one.0 ∙ sym other.0, one.1 ∙ sym other.1)
happens-determined w n m (event.PickUp call key) s t one _ other _ =
    let join : one.0 ≡ other.0 = some_back one.0 other.0 (sym one.1 ∙ other.1) in
    let from : one.2 ≡ other.2 = some_back one.2 other.2 (sym one.3 ∙ other.3) in
    let by_join = subst (λ (x : JoinClaim). Picks w call key x other.2 other.4 t.outcome m) (sym join) other.5 in
    let by_from = subst (λ (x : State). Picks w call key one.0 x other.4 t.outcome m) (sym from) by_join in
    let same = picks-determined w call key one.0 one.2 one.4 other.4 s.outcome t.outcome n m one.5 by_from in
    (shown-as s t same.0 (one.6 ∙ ap (λ (o : Outcome). over_by w call key o) same.0 ∙ sym other.6), same.1)
happens-determined w n m (event.Foreign key value) s t one _ other _ = (one.0 ∙ sym other.0, one.1 ∙ sym other.1)
happens-determined w n m (event.Invalidate key) s t one _ other _ =
    let from : one.0 ≡ other.0 = some_back one.0 other.0 (sym one.1 ∙ other.1) in
    let to : one.2 ≡ other.2 = one.3 ∙ ap (λ (x : State). after_invalidation x key) from ∙ sym other.3 in (
      one.4 ∙ (λ i. not_over (invalidated_as (home w key) key (from i) (to i))) ∙ sym other.4,
      one.5 ∙ (λ i. record (with_phase w key (from i) (to i)) { is_fresh = false }) ∙ sym other.5,
    )
happens-determined w n m (event.Reopen config) s t one _ other _ = (one.0 ∙ sym other.0, one.1 ∙ sym other.1)

pub step-determined : (w n m : WorldState) (e : WorldEvent) (s t : Shown)
    → Step w e s n → has_memory s.outcome ≡ true → Step w e t m → has_memory t.outcome ≡ true → (s ≡ t) × (n ≡ m)
step-determined w n m e s t (inl one) ample (inl other) ample_too = happens-determined w n m e s t one.1 ample other.1 ample_too
step-determined w n m e s t (inl one) ample (inr other) ample_too = absurd (true≢false (sym one.0 ∙ other.0))
step-determined w n m e s t (inr one) ample (inl other) ample_too = absurd (true≢false (sym other.0 ∙ one.0))
step-determined w n m e s t (inr one) ample (inr other) ample_too = (one.1 ∙ sym other.1, one.2 ∙ sym other.2)

-- 4. A run.

pub run-determined : (w n m : WorldState) (es : List WorldEvent) (ss ts : List Shown)
    → Run w es ss n → have_memory ss ≡ true → Run w es ts m → have_memory ts ≡ true → (ss ≡ ts) × (n ≡ m)
run-determined w n m [] [] [] one _ other _ = (refl, one ∙ sym other)
run-determined w n m [] (s ∷ ss) ts one _ other _ = absurd one
run-determined w n m [] [] (t ∷ ts) one _ other _ = absurd other
run-determined w n m (e ∷ es) [] ts one _ other _ = absurd one
run-determined w n m (e ∷ es) (s ∷ ss) [] one _ other _ = absurd other
run-determined w n m (e ∷ es) (s ∷ ss) (t ∷ ts) one ample other ample_too =
    let a = and_parts _ _ ample in
    let b = and_parts _ _ ample_too in
    let same = step-determined w one.0 other.0 e s t one.1 a.0 other.1 b.0 in
    let rest = run-determined one.0 n m es ss ts one.2 a.1 (subst (λ (x : WorldState). Run x es ts m) (sym same.1) other.2) b.1 in
    (ap (λ (x : Shown). x ∷ ss) same.0 ∙ ap (λ (xs : List Shown). t ∷ xs) rest.0, rest.1)
