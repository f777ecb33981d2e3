-- A step that was made in the entries and appended is a step of the phase machine.
use Rattle.std.proofs.Common.{◌≡◌, ◌≤◌, ◌+◌, ◌==◌, ◌&&◌, ◌++◌, ℕ, List, Option, length, cond, IsTrue, None, is_some, is_none, sym, ap, subst, ◌∙◌}
use Rattle.std.specs.FinMap.{len, from_entries}
use Rattle.std.specs.FinMap as finite
use Rattle.jc_model.specs.declared.event.Op.{Op}
use Rattle.jc_model.specs.declared.event.Out.{Out}
use Rattle.jc_model.specs.declared.event.Event.{Event}
use Rattle.jc_model.specs.declared.event.Event.TheVariants.{Step}
use Rattle.jc_stripe.specs.Outcomes.{StepDone}
use Rattle.jc_model.specs.Cache.{Bytes, key_cmp, entry_at}
use Rattle.jc_model.specs.Listed.{has_distinct_keys}
use Rattle.jc_model.specs.Statistics.{StatisticsLaws, statistics_of}
use Rattle.jc_model.specs.declared.statistics.Statistics.{Statistics}
use Rattle.jc_model.specs.Table.{answers_fit, entry_after, reply_after}
use Rattle.jc_model.specs.Group.{Group, victim_events, events_of, step_place, cache_after_group}
use Rattle.jc_model.proofs.CallerLemmas.{len-distinct}
use Rattle.jc_entries.specs.ByUse.{ByUse, lru_victim}
use Rattle.jc_history.specs.Values.{IsStorable}
use Rattle.jc_history.proofs.CallerLemmas.{storable_step}
use Rattle.jc_stripe.specs.State.{State}
use Rattle.jc_stripe.specs.OrderOfUse.{by_use, pinned}
use Rattle.jc_stripe.specs.Occurrences.{occurrences}
use Rattle.jc_stripe.proofs.Counting.{counted_group}
use Rattle.jc_stripe.specs.Phases.{new_group, inserts_here, overflows, own_cause, own_eviction, Steps}
use Rattle.jc_stripe.specs.Reached.{IsUsed}
use Rattle.jc_stripe.specs.Appending.{NewGroup, new_step, AppliesStep, inserts_into, overflows_in, victim_in, group_events, entries_after, eviction_of, count_all}
use Rattle.jc_stripe.proofs.Used.{find-entry, from-left}
use Rattle.jc_stripe.proofs.Lawfully.{MayShare, made_lawful}
use Rattle.jc_stripe.proofs.Stepped.{few_events, by_use_on}
use Rattle.jc_stripe.specs.Phases as phases
use Rattle.jc_types.specs.declared.caller.Caller.{Caller}

-- 1. What the entries say is what the state says.

-- the entries of a state, and the keys that are pinned in it
pub record AreEntries (m : State) (entries : ByUse) (keys : List Bytes) : Type 0 where
  pub list : entries.list ≡ by_use m.opening m.history
  pub capacity : entries.capacity ≡ m.config.capacity
  pub cache : m.cache ≡ from_entries entries.list
  pub pinned : keys ≡ pinned m.reservations
  pub used : IsUsed m

inserts_is : (m : State) (entries : ByUse) (keys : List Bytes) (key : Bytes) (op : Op) (out : Out) → AreEntries m entries keys → inserts_into entries.list key op out ≡ inserts_here m key op out
inserts_is m entries keys key op out are =
    ap (λ o. is_none o && is_some (entry_after op o out)) (find-entry entries.list key ∙ ap (λ c. entry_at c key) (sym are.cache))

length_is : (m : State) (entries : ByUse) (keys : List Bytes) → AreEntries m entries keys → length entries.list ≡ len m.cache
length_is m entries keys are = sym (ap len are.cache ∙ len-distinct entries.list (ap has_distinct_keys are.list ∙ are.used.once))

overflows_is : (m : State) (entries : ByUse) (keys : List Bytes) (key : Bytes) (op : Op) (out : Out) → AreEntries m entries keys → overflows_in entries key op out ≡ overflows m key op out
overflows_is m entries keys key op out are = λ i. inserts_is m entries keys key op out are i && (length_is m entries keys are i == are.capacity i)

victim_is : (m : State) (entries : ByUse) (keys : List Bytes) (key : Bytes) (op : Op) (out : Out) → AreEntries m entries keys → victim_in entries keys key op out ≡ phases.victim m key op out
victim_is m entries keys key op out are = λ i. cond (overflows_is m entries keys key op out are i) (lru_victim (are.list i) (are.pinned i)) None

-- 2. What was appended.

-- the group of what was appended
abbrev group_put : NewGroup → List Caller → Group
group_put made callers =
    record {
      victim = made.victim;
      caller = made.caller;
      step = record { op = made.op; key = made.key; out = made.out; reply = made.reply };
      joined = callers;
      evicted = made.evicted;
    }

-- three events at most, and one for each that shares the load
pub few_put : (place : ℕ) (made : NewGroup) (callers : List Caller) → length (group_events place made callers) ≤ 3 + length callers
few_put place made callers = few_events place (group_put made callers)

-- a step as it was made
pub record IsMade (m : State) (caller : Caller) (key : Bytes) (op : Op) (out : Out) (made : NewGroup) : Type 0 where
  pub caller_is : made.caller ≡ caller
  pub key_is : made.key ≡ key
  pub op_is : made.op ≡ op
  pub out_is : made.out ≡ out
  pub reply_is : made.reply ≡ reply_after op (entry_at m.cache key) out
  pub found_is : made.found ≡ is_some (entry_at m.cache key)

-- what is known of it from the entry that it found
pub made_is : (m : State) (caller : Caller) (key : Bytes) (op : Op) (out : Out) (entry : Option Bytes) (made : NewGroup)
    → made ≡ record { caller = caller; key = key; op = op; out = out; reply = reply_after op entry out; victim = made.victim; evicted = made.evicted; found = is_some entry } → entry ≡ entry_at m.cache key → IsMade m caller key op out made
made_is m caller key op out entry made is found =
    record {
      caller_is = ap (λ (g : NewGroup). g.caller) is;
      key_is = ap (λ (g : NewGroup). g.key) is;
      op_is = ap (λ (g : NewGroup). g.op) is;
      out_is = ap (λ (g : NewGroup). g.out) is;
      reply_is = ap (λ (g : NewGroup). g.reply) is ∙ ap (λ o. reply_after op o out) found;
      found_is = ap (λ (g : NewGroup). g.found) is ∙ ap is_some found;
    }

-- if the answers are those that the tables ask for, it can be stored
pub storable_made : (m : State) (caller : Caller) (key : Bytes) (op : Op) (out : Out) (made : NewGroup) → IsTrue (answers_fit m.config op (entry_at m.cache key) out) → IsMade m caller key op out made → IsStorable (new_step made)
storable_made m caller key op out made fits is =
    subst (λ (e : Event). IsStorable e) (λ i. Step (sym is.caller_is i) (sym is.op_is i) (sym is.key_is i) (sym is.out_is i) None (sym is.reply_is i))
    (storable_step m.config caller op key (entry_at m.cache key) out None fits)

-- its group is that of the phase machine
pub group_is : (m : State) (entries next : ByUse) (keys : List Bytes) (caller : Caller) (key : Bytes) (op : Op) (out : Out) (callers : List Caller) (made : NewGroup) → AreEntries m entries keys → IsMade m caller key op out made
    → (kept : AppliesStep entries keys key op out made.victim made.evicted next) → group_put made callers ≡ new_group m caller key op out callers kept.short
group_is m entries next keys caller key op out callers made are is kept =
    let victim : made.victim ≡ phases.victim m key op out = kept.victim_is ∙ victim_is m entries keys key op out are in
    let evicted : made.evicted ≡ own_cause (inserts_here m key op out) (overflows m key op out) (is_some (phases.victim m key op out)) kept.short =
    kept.evicted_is ∙ (λ i. own_cause (inserts_is m entries keys key op out are i) (overflows_is m entries keys key op out are i) (is_some (victim_is m entries keys key op out are i)) kept.short) in
    λ i. record {
      victim = victim i;
      caller = is.caller_is i;
      step = record { op = is.op_is i; key = is.key_is i; out = is.out_is i; reply = is.reply_is i };
      joined = callers;
      evicted = evicted i;
    }

-- what is told of a step that was appended
pub record IsTold (start : ℕ) (made : NewGroup) (callers : List Caller) (done : StepDone) : Type 0 where
  pub reply : done.reply ≡ made.reply
  pub place : done.place ≡ start + length (victim_events made.victim)
  pub victim : done.victim ≡ made.victim
  pub evicted : done.evicted ≡ eviction_of start made callers

-- the step, as the phase machine has it
pub steps_put : (m new : State) (entries next : ByUse) (keys : List Bytes) (caller : Caller) (key : Bytes) (op : Op) (out : Out) (callers : List Caller) (made : NewGroup) (done : StepDone) → AreEntries m entries keys
    → len m.cache ≤ m.config.capacity → IsTrue (answers_fit m.config op (entry_at m.cache key) out) → MayShare m key op out callers → IsMade m caller key op out made
    → AppliesStep entries keys key op out made.victim made.evicted next → IsTold (length m.history) made callers done
    → new ≡ record m { cache = from_entries next.list; history = m.history ++ group_events (length m.history) made callers } → Steps m caller key op out callers done new
steps_put m new entries next keys caller key op out callers made done are few answers may is kept told new_is =
    let g : Group = new_group m caller key op out callers kept.short in
    let same = group_is m entries next keys caller key op out callers made are is kept in
    let cache : from_entries {R = key_cmp} next.list ≡ cache_after_group m.cache g =
    ap (λ (e : ByUse). from_entries {R = key_cmp} e.list) kept.left
    ∙ (λ i. from_entries {R = key_cmp} (entries_after entries.list (sym is.key_is i) (sym is.op_is i) (sym is.out_is i) made.victim made.evicted))
    ∙ from-left entries.list (group_put made callers)
    ∙ (λ i. cache_after_group (sym are.cache i) (same i)) in
    record {
      short = kept.short;
      lawful = made_lawful m caller key op out callers kept.short are.used few answers may;
      reply = told.reply ∙ is.reply_is;
      place = told.place ∙ ap (λ (x : Group). step_place (length m.history) x) same;
      victim_is = told.victim ∙ kept.victim_is ∙ victim_is m entries keys key op out are;
      evicted = told.evicted ∙ ap (own_eviction (length m.history)) same;
      after = new_is ∙ (λ i. record m { cache = cache i; history = m.history ++ events_of (length m.history) (same i) });
    }

-- the entries are still in the order of use
pub by_use_put : (m : State) (entries next : ByUse) (keys : List Bytes) (caller : Caller) (key : Bytes) (op : Op) (out : Out) (callers : List Caller) (made : NewGroup) → AreEntries m entries keys → IsMade m caller key op out made
    → AppliesStep entries keys key op out made.victim made.evicted next → next.list ≡ by_use m.opening (m.history ++ group_events (length m.history) made callers)
by_use_put m entries next keys caller key op out callers made are is kept =
    ap (λ (e : ByUse). e.list) kept.left
    ∙ (λ i. entries_after (are.list i) (sym is.key_is i) (sym is.op_is i) (sym is.out_is i) made.victim made.evicted)
    ∙ sym (by_use_on m (group_put made callers))

-- what is counted with it is what occurred
pub counted_put : StatisticsLaws → (m : State) (entries next : ByUse) (keys : List Bytes) (caller : Caller) (key : Bytes) (op : Op) (out : Out) (callers : List Caller) (made : NewGroup) (counts : Statistics) → AreEntries m entries keys → IsMade m caller key op out made
    → AppliesStep entries keys key op out made.victim made.evicted next → counts ≡ statistics_of (occurrences m.opening m.history)
    → count_all made.found (group_events (length m.history) made callers) counts ≡ statistics_of (occurrences m.opening (m.history ++ group_events (length m.history) made callers))
counted_put laws m entries next keys caller key op out callers made counts are is kept counted =
    ap (count_all made.found (group_events (length m.history) made callers)) counted
    ∙ counted_group laws entries keys (length m.history) made callers m.opening m.history are.list
    (kept.victim_is ∙ (λ i. victim_in entries keys (sym is.key_is i) (sym is.op_is i) (sym is.out_is i)))
    (is.found_is ∙ ap is_some (ap (λ c. entry_at c key) are.cache ∙ sym (find-entry entries.list key)) ∙ ap (λ k. is_some (finite.find key_cmp k entries.list)) (sym is.key_is))
