-- A step that was appended keeps a stripe's fields sound.
use Rattle.std.proofs.Common.{◌≡◌, ◌≤◌, ◌+◌, ◌-◌, ℕ, List, [], ◌∷◌, ◌++◌, length, count_by, IsTrue, None, refl, sym, ap, ◌∙◌, subst, arith}
use Rattle.std.specs.FinMap.{from_entries}
use Rattle.jc_model.specs.declared.event.Op.{Op}
use Rattle.jc_model.specs.declared.event.Out.{Out}
use Rattle.jc_stripe.specs.Outcomes.{StepDone}
use Rattle.jc_model.specs.Cache.{Bytes, entry_at}
use Rattle.jc_model.specs.Table.{answers_fit}
use Rattle.jc_model.specs.Group.{Group, events_of, nothing_said}
use Rattle.jc_entries.specs.ByUse.{ByUse}
use Rattle.jc_history.specs.Past.{Past, promise}
use Rattle.jc_history.specs.Values.{IsStorable}
use Rattle.jc_reserve.specs.Table.{Table}
use Rattle.jc_reserve.specs.Reserving as reserving
use Rattle.jc_inflight.specs.declared.joiner.Joiner.{Joiner}
use Rattle.jc_inflight.specs.Joining.{callers_of, waits_for, waits}
use Rattle.jc_inflight.specs.Resolving.{after_resolve}
use Rattle.jc_stripe.specs.declared.ticket.First.TheVariants.{Nobody}
use Rattle.jc_stripe.specs.declared.stripe.Stripe.TheInside.{Inside}
use Rattle.jc_stripe.specs.State.{State, IsOut, without_key, without_mark}
use Rattle.jc_model.specs.Statistics.{StatisticsLaws, statistics_of}
use Rattle.jc_stripe.specs.OrderOfUse.{by_use, pinned}
use Rattle.jc_stripe.specs.Occurrences.{occurrences}
use Rattle.jc_stripe.specs.Refusals.{first_refusal, first_asked, needs_free_key, places_needed}
use Rattle.jc_stripe.specs.Phases.{MayBegin, Steps, new_group, after_commit}
use Rattle.jc_stripe.specs.Appending.{NewGroup, new_step, AppliesStep, AnswersFirst, group_events, append_group, count_all}
use Rattle.jc_stripe.specs.Inside.{IsStripe, state_of}
use Rattle.jc_stripe.proofs.Lawfully.{MayShare}
use Rattle.jc_stripe.proofs.Fitting.{said_fits, said_given, nobody_fits}
use Rattle.jc_stripe.proofs.Settled.{shares_with, claim_asks}
use Rattle.jc_inflight.proofs.CallerLemmas.{length-callers_of, waiting-answered_from}
use Rattle.jc_types.specs.declared.limits.TheConstants.{STEP_PLACES}
use Rattle.jc_stripe.proofs.Stepping.{AreEntries, IsMade, IsTold, storable_made, group_is, steps_put, by_use_put, counted_put, few_put}
use Rattle.jc_stripe.proofs.Refusing.{alone_passes, answering_keeps}
use Rattle.jc_stripe.proofs.Stepped.{one_event}
use Rattle.jc_stripe.proofs.Making.{one_exactly}
use Rattle.jc_stripe.proofs.Reaching.{begins_done, reached_commits, few_done}
use Rattle.jc_types.specs.declared.caller.Caller.{Caller}
use Rattle.jc_stripe.specs.declared.ticket.Reservation.{Reservation}

-- 1. A call that is done at once.

-- the stripe after it
abbrev pub done_at : Inside → ByUse → Past → Inside
done_at i entries history = record i { entries = entries; history = history }

-- what is known of it
pub record IsDone (i : Inside) (caller : Caller) (key : Bytes) (op : Op) (entries : ByUse) (promised_in history : Past) (keys : List Bytes) (made : NewGroup) (done : StepDone) (kept : ℕ) : Type 0 where
  pub sound : IsStripe i
  pub keys_are : keys ≡ pinned i.reservations.held
  pub is : IsMade (state_of i) caller key op nothing_said made
  pub keeps : AppliesStep i.entries keys key op nothing_said made.victim made.evicted entries
  pub promises : promised_in ≡ promise kept i.history
  pub told : IsTold (length promised_in.events) made [] done
  pub put : history ≡ append_group made.found (group_events (length promised_in.events) made []) kept promised_in
  pub laws : StatisticsLaws

done_entries : (i : Inside) (keys : List Bytes) → IsStripe i → keys ≡ pinned i.reservations.held → AreEntries (state_of i) i.entries keys
done_entries i keys sound keys_are = record { list = sound.by_use; capacity = sound.capacity; cache = refl; pinned = keys_are; used = sound.state.used }

pub done_steps : (i : Inside) (caller : Caller) (key : Bytes) (op : Op) (entries : ByUse) (promised_in history : Past) (keys : List Bytes) (made : NewGroup) (done : StepDone) (kept : ℕ) → IsDone i caller key op entries promised_in history keys made done kept
    → IsTrue (answers_fit i.config op (entry_at (state_of i).cache key) nothing_said) → Steps (state_of i) caller key op nothing_said [] done (state_of (done_at i entries history))
done_steps i caller key op entries promised_in history keys made done kept d answers =
    let m : State = state_of i in
    let events : promised_in.events ≡ i.history.events = ap (λ (p : Past). p.events) d.promises in
    let T : ℕ → Type 0 = λ n. IsTold n made [] done in
    steps_put m (state_of (done_at i entries history)) i.entries entries keys caller key op nothing_said [] made done (done_entries i keys d.sound d.keys_are) d.sound.state.few_entries answers tt
    d.is d.keeps (subst T (ap length events) d.told)
    ((λ k. state_of (done_at i entries (d.put k))) ∙ (λ k. record m { cache = from_entries entries.list; history = events k ++ group_events (length (events k)) made [] }))

pub done_sound : (i : Inside) (caller : Caller) (key : Bytes) (op : Op) (entries : ByUse) (promised_in history : Past) (keys : List Bytes) (made : NewGroup) (done : StepDone) (kept : ℕ) → IsDone i caller key op entries promised_in history keys made done kept
    → first_refusal (state_of i) caller key op ≡ None → first_asked i.config op (entry_at (state_of i).cache key) ≡ Nobody → MayBegin (state_of i) caller key
    → Steps (state_of i) caller key op nothing_said [] done (state_of (done_at i entries history)) → IsStripe (done_at i entries history)
done_sound i caller key op entries promised_in history keys made done kept d none nobody may steps =
    let m : State = state_of i in
    let events : promised_in.events ≡ i.history.events = ap (λ (p : Past). p.events) d.promises in
    let after : history.events ≡ i.history.events ++ group_events (length i.history.events) made [] = ap (λ (p : Past). p.events) d.put ∙ (λ k. events k ++ group_events (length (events k)) made []) in
    let in_promise : promised_in.promised ≡ i.history.promised + kept = ap (λ (p : Past). p.promised) d.promises in
    let out_promise : history.promised ≡ promised_in.promised - kept = ap (λ (p : Past). p.promised) d.put in
    record {
      capacity = ap (λ (e : ByUse). e.capacity) d.keeps.left ∙ d.sound.capacity;
      limit = ap (λ (p : Past). p.limit) d.put ∙ ap (λ (p : Past). p.limit) d.promises ∙ d.sound.limit;
      by_use = by_use_put m i.entries entries keys caller key op nothing_said [] made (done_entries i keys d.sound d.keys_are) d.is d.keeps ∙ ap (by_use i.life.opening) (sym after);
      promised = let same : history.promised ≡ i.history.promised = omega arith in same ∙ d.sound.promised;
      counted =
          ap (λ (p : Past). p.statistics) d.put
          ∙ (λ k. count_all made.found (group_events (length (events k)) made []) ((d.promises k).statistics))
          ∙ counted_put d.laws m i.entries entries keys caller key op nothing_said [] made i.history.statistics (done_entries i keys d.sound d.keys_are) d.is d.keeps d.sound.counted
          ∙ ap (λ es. statistics_of (occurrences i.life.opening es)) (sym after);
      boxes = d.sound.boxes;
      state = begins_done m (state_of (done_at i entries history)) caller key op done d.sound.state may none nobody steps;
    }

-- the step that it appends can be stored
pub done_storable : (i : Inside) (caller : Caller) (key : Bytes) (op : Op) (made : NewGroup) → first_asked i.config op (entry_at (state_of i).cache key) ≡ Nobody → IsMade (state_of i) caller key op nothing_said made → IsStorable (new_step made)
done_storable i caller key op made nobody is = storable_made (state_of i) caller key op nothing_said made (nobody_fits i.config op (entry_at (state_of i).cache key) nobody) is

-- 2. A commit.

-- the stripe after it
abbrev pub committed_at : Inside → ByUse → Table Reservation → List Joiner → Past → ℕ → List Bytes → Inside
committed_at i entries table js history boxes marks = record i { entries = entries; reservations = table; joiners = js; history = history; boxes = boxes; marks = marks }

-- others may share the load of what is out
may_share_claimed : (i : Inside) (r : Reservation) (out : Out) (place : ℕ) (callers : List Caller) → IsStripe i → IsOut (state_of i) r → AnswersFirst i.config r.first out → callers_of r.number i.joiners ≡ callers
    → MayShare (after_commit (state_of i) r place) r.key r.op out callers
may_share_claimed i r out place [] sound found said same = tt
may_share_claimed i r out place (c ∷ cs) sound found said same =
    let known = shares_with (state_of i) r c cs sound.state found same in
    (known.read_through, known.whole, known.missing, said_given i.config r.first out known.first said)

-- what is known of a commit
pub record IsCommit (i : Inside) (r : Reservation) (out : Out) (entries : ByUse) (table : Table Reservation) (js : List Joiner) (history : Past) (boxes : ℕ) (marks keys : List Bytes) (made : NewGroup) (done : StepDone) (kept : ℕ) : Type 0 where
  pub sound : IsStripe i
  pub found : IsOut (state_of i) r
  pub said : AnswersFirst i.config r.first out
  pub unmarked : marks ≡ without_mark r.key i.marks
  pub released : table ≡ reserving.table_without (λ (x : Reservation). x.key) i.reservations r.key
  pub keys_are : keys ≡ pinned table.held
  pub is : IsMade (state_of i) r.caller r.key r.op out made
  pub keeps : AppliesStep i.entries keys r.key r.op out made.victim made.evicted entries
  pub told : IsTold (length i.history.events) made (callers_of r.number i.joiners) done
  pub put : history ≡ append_group made.found (group_events (length i.history.events) made (callers_of r.number i.joiners)) kept i.history
  pub laws : StatisticsLaws
  pub joiners : js ≡ after_resolve r.number done.place i.joiners
  pub kept_is : kept ≡ STEP_PLACES + count_by (waits_for r.number) i.joiners
  pub one_more : boxes ≡ i.boxes + 1

commit_entries : (i : Inside) (r : Reservation) (place : ℕ) (table : Table Reservation) (keys : List Bytes) → IsStripe i → table ≡ reserving.table_without (λ (x : Reservation). x.key) i.reservations r.key → keys ≡ pinned table.held
    → AreEntries (after_commit (state_of i) r place) i.entries keys
commit_entries i r place table keys sound released keys_are =
    let used = sound.state.used in
    record {
      list = sound.by_use;
      capacity = sound.capacity;
      cache = refl;
      pinned = keys_are ∙ ap (λ (t : Table Reservation). pinned t.held) released;
      used = record { once = used.once; own = used.own; cache = used.cache };
    }

-- the step is made of the same entry
made_after : (i : Inside) (r : Reservation) (place : ℕ) (out : Out) (made : NewGroup) → IsMade (state_of i) r.caller r.key r.op out made → IsMade (after_commit (state_of i) r place) r.caller r.key r.op out made
made_after i r place out made is = record { caller_is = is.caller_is; key_is = is.key_is; op_is = is.op_is; out_is = is.out_is; reply_is = is.reply_is; found_is = is.found_is }

pub commit_steps : (i : Inside) (r : Reservation) (out : Out) (entries : ByUse) (table : Table Reservation) (js : List Joiner) (history : Past) (boxes : ℕ) (marks keys : List Bytes) (made : NewGroup) (done : StepDone) (kept : ℕ)
    → IsCommit i r out entries table js history boxes marks keys made done kept
    → Steps (after_commit (state_of i) r done.place) r.caller r.key r.op out (callers_of r.number i.joiners) done (state_of (committed_at i entries table js history boxes marks))
commit_steps i r out entries table js history boxes marks keys made done kept c =
    let m : State = after_commit (state_of i) r done.place in
    let callers = callers_of r.number i.joiners in
    steps_put m (state_of (committed_at i entries table js history boxes marks)) i.entries entries keys r.caller r.key r.op out callers made done
    (commit_entries i r done.place table keys c.sound c.released c.keys_are) c.sound.state.few_entries
    (said_fits i.config r.op (entry_at (state_of i).cache r.key) r.first out (claim_asks (state_of i) r c.sound.state c.found) c.said)
    (may_share_claimed i r out done.place callers c.sound c.found c.said refl)
    (made_after i r done.place out made c.is) c.keeps c.told
    ((λ k. state_of (committed_at i entries (c.released k) (c.joiners k) (c.put k) boxes (c.unmarked k)))
    ∙ (λ k. record (state_of i) { cache = from_entries entries.list; reservations = without_key r.key i.reservations.held; joiners = after_resolve r.number done.place i.joiners; history = i.history.events ++ group_events (length i.history.events) made callers; marked = without_mark r.key i.marks }))

pub commit_sound : (i : Inside) (r : Reservation) (out : Out) (entries : ByUse) (table : Table Reservation) (js : List Joiner) (history : Past) (boxes : ℕ) (marks keys : List Bytes) (made : NewGroup) (done : StepDone) (kept : ℕ)
    → IsCommit i r out entries table js history boxes marks keys made done kept → IsStripe (committed_at i entries table js history boxes marks)
commit_sound i r out entries table js history boxes marks keys made done kept c =
    let m : State = after_commit (state_of i) r done.place in
    let callers = callers_of r.number i.joiners in
    let after : history.events ≡ i.history.events ++ group_events (length i.history.events) made callers = ap (λ (p : Past). p.events) c.put in
    let rest : table.held ≡ without_key r.key (state_of i).reservations = ap (λ (t : Table Reservation). t.held) c.released in
    let fewer : length (table.held) ≡ length (without_key r.key (state_of i).reservations) = ap length rest in
    let one = one_exactly r.key (state_of i).reservations r c.sound.state.numbered.once c.found in
    let left : count_by waits js ≡ count_by waits (after_resolve r.number done.place i.joiners) = ap (count_by waits) c.joiners in
    let count = waiting-answered_from r.number done.place (done.place + 1) i.joiners in
    let was = c.sound.promised in
    let kept_is = c.kept_is in
    let one_more = c.one_more in
    let were = c.sound.boxes in
    let now : history.promised ≡ i.history.promised - kept = ap (λ (p : Past). p.promised) c.put in
    record {
      capacity = ap (λ (e : ByUse). e.capacity) c.keeps.left ∙ c.sound.capacity;
      limit = ap (λ (p : Past). p.limit) c.put ∙ c.sound.limit;
      by_use = by_use_put m i.entries entries keys r.caller r.key r.op out callers made (commit_entries i r done.place table keys c.sound c.released c.keys_are) (made_after i r done.place out made c.is) c.keeps ∙ ap (by_use i.life.opening) (sym after);
      promised = omega arith;
      counted =
          ap (λ (p : Past). p.statistics) c.put
          ∙ counted_put c.laws m i.entries entries keys r.caller r.key r.op out callers made i.history.statistics (commit_entries i r done.place table keys c.sound c.released c.keys_are) (made_after i r done.place out made c.is) c.keeps c.sound.counted
          ∙ ap (λ es. statistics_of (occurrences i.life.opening es)) (sym after);
      boxes = omega arith;
      state = reached_commits (state_of i) (state_of (committed_at i entries table js history boxes marks)) r out done c.sound.state (c.found, commit_steps i r out entries table js history boxes marks keys made done kept c);
    }

-- what a commit appends fits into the room that was kept for it
pub commit_few : (load : ℕ) (js : List Joiner) (place waiting : ℕ) (made : NewGroup) → waiting ≡ count_by (waits_for load) js → length (group_events place made (callers_of load js)) ≤ STEP_PLACES + waiting
commit_few load js place waiting made w =
    let few = few_put place made (callers_of load js) in
    let n = length-callers_of load js in
    omega arith

-- the step that it appends can be stored
pub commit_storable : (i : Inside) (r : Reservation) (out : Out) (made : NewGroup) → IsStripe i → IsOut (state_of i) r → AnswersFirst i.config r.first out → IsMade (state_of i) r.caller r.key r.op out made → IsStorable (new_step made)
commit_storable i r out made sound found said is =
    storable_made (state_of i) r.caller r.key r.op out made (said_fits i.config r.op (entry_at (state_of i).cache r.key) r.first out (claim_asks (state_of i) r sound.state found) said) is

-- 3. The places of a call that is done at once.

-- what it appends fits into the places that it needs
pub done_few : (i : Inside) (caller : Caller) (key : Bytes) (op : Op) (entries : ByUse) (keys : List Bytes) (made : NewGroup) (place : ℕ) → IsStripe i
    → first_asked i.config op (entry_at (state_of i).cache key) ≡ Nobody → keys ≡ pinned i.reservations.held → IsMade (state_of i) caller key op nothing_said made
    → AppliesStep i.entries keys key op nothing_said made.victim made.evicted entries → length (group_events place made []) ≤ places_needed (needs_free_key (state_of i) key op)
done_few i caller key op entries keys made place sound nobody keys_are is keeps =
    let m : State = state_of i in
    let same = group_is m i.entries entries keys caller key op nothing_said [] made (done_entries i keys sound keys_are) is keeps in
    let events : length (group_events place made []) ≡ length (events_of place (new_group m caller key op nothing_said [] keeps.short)) = ap (λ (g : Group). length (events_of place g)) same in
    let three = few_put place made [] in
    few_done (needs_free_key m key op) (length (group_events place made []))
    (λ e. let one = one_event m caller key op nothing_said keeps.short place (answering_keeps i.config op (entry_at m.cache key) (alone_passes m key op nobody e)) in omega arith)
    (omega arith)
