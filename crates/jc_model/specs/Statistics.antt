-- The counts of a cache, by the names of JSR 107 (`CacheStatisticsMXBean`).
--     Occurrence             an event, and whether its key had an entry before it
--     has_value, has_none    a reply is a value, and is that there is none
--     has_flag               a reply is this yes or no
--     has_no_fault           a reply is no fault
--     sets, removes          a processor gives its entry a value in the end, and removes it
--     step_hits              a step asked for its entry, and found it cached: it counts with the entry that it found
--     step_misses            a step asked for its entry, and didn't find it cached
--     step_puts              a step gave its entry a value that the caller brought
--     step_removes           a step removed its entry, or its processor did
--     event_hits, event_misses, event_puts, event_removes, event_evicts    an event counts so, with what it found
--     is_hit, is_miss, is_put, is_removal, is_eviction    the same for an occurrence
--     capped                 a number, or the last one if it is beyond that
--     statistics_of          the counts of a list of occurrences
--     more_if                a count with one more, if a condition holds
--     with_event             the counts with one more event
--     together               two counts together
--     StatisticsLaws         the laws: how the counts of a list of events follow from those of its parts
use Rattle.std.specs.Prelude.{◌≡◌, ℕ, ◌+◌, List, [], ◌∷◌, ◌++◌, Bool, true, false, not, ◌&&◌, ◌||◌, None, Some, min, if◌then◌else◌}
use Rattle.std.specs.List.{count_by}
use Rattle.std.specs.Bool.{beq}
use Rattle.jc_types.specs.declared.limits.TheConstants.{LAST_NUMBER}
use Rattle.jc_model.specs.declared.event.Op.{Op}
use Rattle.jc_model.specs.declared.event.Op.TheVariants.{Get, ContainsKey, Put, GetAndPut, PutIfAbsent, Remove, RemoveIf}
use Rattle.jc_model.specs.declared.event.Op.TheVariants.{GetAndRemove, Replace, ReplaceIf, GetAndReplace, Clear, LoadAll, Invoke}
use Rattle.jc_model.specs.declared.event.Out.{Out}
use Rattle.jc_model.specs.declared.event.ProcessAnswer.{ProcessAnswer}
use Rattle.jc_model.specs.declared.event.ProcessAnswer.TheVariants as process
use Rattle.jc_model.specs.declared.event.Effect.TheVariants as effect
use Rattle.jc_model.specs.declared.event.Reply.{Reply}
use Rattle.jc_model.specs.declared.event.Reply.TheVariants as reply
use Rattle.jc_model.specs.declared.event.Cause.TheVariants.{Full, Memory, Invalidated}
use Rattle.jc_model.specs.declared.event.Event.{Event}
use Rattle.jc_model.specs.declared.event.Event.TheVariants.{Step, Evict}
use Rattle.jc_model.specs.declared.statistics.Statistics.{Statistics}
use Rattle.jc_model.specs.Table.{is_load_given}

-- an event, and whether its key had an entry before it: what the events before it have left
pub record Occurrence : Type 0 where
  pub found : Bool
  pub event : Event

-- 1. Replies.

abbrev pub has_value : Reply → Bool
has_value (reply.Value (Some value)) = true
has_value (reply.Value None) = false
has_value reply.Unit = false
has_value (reply.Flag flag) = false
has_value (reply.Fault fault) = false

abbrev pub has_none : Reply → Bool
has_none (reply.Value None) = true
has_none (reply.Value (Some value)) = false
has_none reply.Unit = false
has_none (reply.Flag flag) = false
has_none (reply.Fault fault) = false

abbrev pub has_flag : Bool → Reply → Bool
has_flag wanted (reply.Flag flag) = beq flag wanted
has_flag wanted reply.Unit = false
has_flag wanted (reply.Value value) = false
has_flag wanted (reply.Fault fault) = false

abbrev pub has_no_fault : Reply → Bool
has_no_fault (reply.Fault fault) = false
has_no_fault reply.Unit = true
has_no_fault (reply.Flag flag) = true
has_no_fault (reply.Value value) = true

-- 2. Processors.

abbrev pub sets : ProcessAnswer → Bool
sets (process.Ended (effect.Set value) outcome) = true
sets (process.Ended effect.Keep outcome) = false
sets (process.Ended effect.Remove outcome) = false
sets process.NotAsked = false
sets (process.Failed code) = false

abbrev pub removes : ProcessAnswer → Bool
removes (process.Ended effect.Remove outcome) = true
removes (process.Ended effect.Keep outcome) = false
removes (process.Ended (effect.Set value) outcome) = false
removes process.NotAsked = false
removes (process.Failed code) = false

-- 3. Steps. A `remove(key, oldValue)` or a `replace(key, oldValue, newValue)` asks for its entry whether or not it changes it, if
-- no writer fails. A processor's step asks for its entry, whatever the processor does.

abbrev pub step_hits : Bool → Op → Out → Reply → Bool
step_hits found Get out answer = not (is_load_given out.load) && has_value answer
step_hits found (GetAndPut value) out answer = has_value answer
step_hits found GetAndRemove out answer = has_value answer
step_hits found (GetAndReplace value) out answer = has_value answer
step_hits found (PutIfAbsent value) out answer = has_flag false answer
step_hits found (RemoveIf old) out answer = found && has_no_fault answer
step_hits found (Replace value) out answer = has_flag true answer
step_hits found (ReplaceIf old new) out answer = found && has_no_fault answer
step_hits found ContainsKey out answer = false
step_hits found (Put value) out answer = false
step_hits found Remove out answer = false
step_hits found Clear out answer = false
step_hits found (LoadAll replace) out answer = false
step_hits found Invoke out answer = found

abbrev pub step_misses : Bool → Op → Out → Reply → Bool
step_misses found Get out answer = is_load_given out.load || has_none answer
step_misses found (GetAndPut value) out answer = has_none answer
step_misses found GetAndRemove out answer = has_none answer
step_misses found (GetAndReplace value) out answer = has_none answer
step_misses found (PutIfAbsent value) out answer = has_flag true answer
step_misses found (Replace value) out answer = has_flag false answer
step_misses found (RemoveIf old) out answer = not found && has_no_fault answer
step_misses found (ReplaceIf old new) out answer = not found && has_no_fault answer
step_misses found ContainsKey out answer = false
step_misses found (Put value) out answer = false
step_misses found Remove out answer = false
step_misses found Clear out answer = false
step_misses found (LoadAll replace) out answer = false
step_misses found Invoke out answer = not found

abbrev pub step_puts : Op → Out → Reply → Bool
step_puts (Put value) out answer = has_no_fault answer
step_puts (GetAndPut value) out answer = has_no_fault answer
step_puts (GetAndReplace value) out answer = has_value answer
step_puts (PutIfAbsent value) out answer = has_flag true answer
step_puts (Replace value) out answer = has_flag true answer
step_puts (ReplaceIf old new) out answer = has_flag true answer
step_puts Invoke out answer = has_no_fault answer && sets out.process
step_puts Get out answer = false
step_puts ContainsKey out answer = false
step_puts Remove out answer = false
step_puts (RemoveIf old) out answer = false
step_puts GetAndRemove out answer = false
step_puts Clear out answer = false
step_puts (LoadAll replace) out answer = false

abbrev pub step_removes : Op → Out → Reply → Bool
step_removes Remove out answer = has_flag true answer
step_removes (RemoveIf old) out answer = has_flag true answer
step_removes GetAndRemove out answer = has_value answer
step_removes Invoke out answer = has_no_fault answer && removes out.process
step_removes Get out answer = false
step_removes ContainsKey out answer = false
step_removes (Put value) out answer = false
step_removes (GetAndPut value) out answer = false
step_removes (PutIfAbsent value) out answer = false
step_removes (Replace value) out answer = false
step_removes (ReplaceIf old new) out answer = false
step_removes (GetAndReplace value) out answer = false
step_removes Clear out answer = false
step_removes (LoadAll replace) out answer = false

-- 4. Events.

abbrev pub event_hits : Bool → Event → Bool
event_hits found (Step caller op key out shared_with answer) = step_hits found op out answer
event_hits found (Evict key cause) = false

abbrev pub event_misses : Bool → Event → Bool
event_misses found (Step caller op key out shared_with answer) = step_misses found op out answer
event_misses found (Evict key cause) = false

abbrev pub event_puts : Event → Bool
event_puts (Step caller op key out shared_with answer) = step_puts op out answer
event_puts (Evict key cause) = false

abbrev pub event_removes : Event → Bool
event_removes (Step caller op key out shared_with answer) = step_removes op out answer
event_removes (Evict key cause) = false

abbrev pub event_evicts : Event → Bool
event_evicts (Evict key Full) = true
event_evicts (Evict key Memory) = true
event_evicts (Evict key Invalidated) = false
event_evicts (Step caller op key out shared_with answer) = false

abbrev pub is_hit : Occurrence → Bool
is_hit o = event_hits o.found o.event

abbrev pub is_miss : Occurrence → Bool
is_miss o = event_misses o.found o.event

abbrev pub is_put : Occurrence → Bool
is_put o = event_puts o.event

abbrev pub is_removal : Occurrence → Bool
is_removal o = event_removes o.event

abbrev pub is_eviction : Occurrence → Bool
is_eviction o = event_evicts o.event

-- 5. Lists of events.

abbrev pub capped : ℕ → ℕ
capped number = min number LAST_NUMBER

abbrev pub statistics_of : List Occurrence → Statistics
statistics_of occurred = record {
  hits = capped (count_by is_hit occurred);
  misses = capped (count_by is_miss occurred);
  puts = capped (count_by is_put occurred);
  removals = capped (count_by is_removal occurred);
  evictions = capped (count_by is_eviction occurred);
}

abbrev pub more_if : Bool → ℕ → ℕ
more_if counts number = if counts then capped (number + 1) else number

abbrev pub with_event : Statistics → Bool → Event → Statistics
with_event statistics found event = record {
  hits = more_if (event_hits found event) statistics.hits;
  misses = more_if (event_misses found event) statistics.misses;
  puts = more_if (event_puts event) statistics.puts;
  removals = more_if (event_removes event) statistics.removals;
  evictions = more_if (event_evicts event) statistics.evictions;
}

abbrev pub together : Statistics → Statistics → Statistics
together first second = record {
  hits = capped (first.hits + second.hits);
  misses = capped (first.misses + second.misses);
  puts = capped (first.puts + second.puts);
  removals = capped (first.removals + second.removals);
  evictions = capped (first.evictions + second.evictions);
}

pub record StatisticsLaws : Type 0 where
  pub one_more : (occurred : List Occurrence) (o : Occurrence)
      → statistics_of (occurred ++ o ∷ []) ≡ with_event (statistics_of occurred) o.found o.event
  pub append : (first second : List Occurrence)
      → statistics_of (first ++ second) ≡ together (statistics_of first) (statistics_of second)
