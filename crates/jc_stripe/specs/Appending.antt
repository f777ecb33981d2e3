-- How a stripe makes a step in its entries and appends it to its history. No contract of a public function cites this.
--     NewGroup             a step, and what is evicted before and after it: a group without those that share its load
--     group_in             the meaning of the fields of a `NewGroup`, whose parts are lent
--     inserts_into         the step inserts: its key is missing in the entries, and it leaves an entry there
--     overflows_in         it inserts, and the stripe is full
--     victim_in            the victim before it, if one is needed and can be evicted
--     callers_in           the callers that share the load of the step, if it has one
--     new_step             the event of the step
--     group_events         the events of a step with all that belongs to it
--     count_all            the counts with more events, all of one key, which had an entry before them or not
--     append_all           the past with more events, in reserved room
--     append_group         the same, after which the reserved room that wasn't used is given back
--     eviction_of          the eviction of the step's own key, at the last place of its group, if it was evicted
--     is_write_due         the writer is due after a processor: write-through is on, neither loader nor processor failed, and
--                          there is a net effect on the store
--     AnswersProcess       the outside answers are those of a processor: its own, its loader's only if the loader may be asked,
--                          and the writer's exactly if it is due
--     AnswersFirst         the outside answers are those of whom a reservation asked first, and of the writer after a processor
--     HasToldStep          the step of a joiner that was answered is at the place in its answer
--     after_pick_up        the state after a joiner has asked: without the joiner if its load is over
--     without_own_entry    the entries without the step's own key, if that is evicted
--     entries_after        the entries after the step, without those evicted before and after it
--     AppliesStep          a step in the entries: they change so, this key was evicted before it, and its own key after it for
--                          this cause
use Rattle.std.specs.Prelude.{◌≡◌, ◌==◌, ℕ, ◌+◌, ◌-◌, List, [], ◌∷◌, ◌++◌, length, map, Bool, true, ◌&&◌, Option, None, Some}
use Rattle.std.specs.Prelude.{is_some, is_none, option_map, if◌then◌else◌}
use Rattle.std.specs.FinMap as finite
use Rattle.jc_types.specs.declared.caller.Caller.{Caller}
use Rattle.jc_types.specs.declared.config.Config.{Config}
use Rattle.jc_model.specs.declared.event.Op.{Op}
use Rattle.jc_model.specs.declared.event.Out.{Out}
use Rattle.jc_model.specs.declared.event.Cause.{Cause}
use Rattle.jc_model.specs.declared.event.Event.{Event}
use Rattle.jc_model.specs.declared.event.Event.TheVariants.{Step}
use Rattle.jc_model.specs.declared.event.Reply.{Reply}
use Rattle.jc_model.specs.Cache.{Bytes, key_cmp}
use Rattle.jc_model.specs.declared.event.LoadAnswer.{LoadAnswer}
use Rattle.jc_model.specs.declared.event.WriteAnswer.{WriteAnswer}
use Rattle.jc_model.specs.Table.{entry_after, is_load_given, is_write_given, is_process_given, load_fits, wanted_if, early_fault}
use Rattle.jc_model.specs.Table.{process_ask}
use Rattle.jc_model.specs.Group.{victim_events, shared_event, evicted_events, load_only, write_only}
use Rattle.jc_model.specs.Listed.{others}
use Rattle.jc_model.specs.Statistics.{with_event}
use Rattle.jc_model.specs.declared.statistics.Statistics.{Statistics}
use Rattle.jc_entries.specs.ByUse.{ByUse, lru_victim, after_eviction}
use Rattle.jc_history.specs.Past.{Past}
use Rattle.jc_inflight.specs.declared.joiner.Joiner.{Joiner}
use Rattle.jc_inflight.specs.declared.joiner.JoinState.{JoinState}
use Rattle.jc_inflight.specs.declared.joiner.JoinState.TheVariants.{Waiting, Answered, Again}
use Rattle.jc_inflight.specs.Joining.{callers_of}
use Rattle.jc_stripe.specs.declared.appending.NewGroup.TheInside.{Inside}
use Rattle.jc_stripe.specs.declared.begun.Eviction.{Eviction}
use Rattle.jc_stripe.specs.declared.ticket.First.{First}
use Rattle.jc_stripe.specs.declared.ticket.First.TheVariants.{Nobody, Loader, Writer, Processor}
use Rattle.jc_stripe.specs.OrderOfUse.{used_at}
use Rattle.jc_stripe.specs.Tickets.{JoinClaim}
use Rattle.jc_stripe.specs.State.{State}
use Rattle.jc_stripe.specs.Phases.{own_cause, IsSharedStep, without_joiner}

pub record NewGroup : Type 0 where
  pub caller : Caller
  pub key : Bytes
  pub op : Op
  pub out : Out
  pub reply : Reply
  pub victim : Option Bytes  -- the key that is evicted before it
  pub evicted : Option Cause  -- why its own key goes after it, if it does
  pub found : Bool  -- whether its key had an entry before it

abbrev pub group_in : Inside → NewGroup
group_in g =
    record {
      caller = g.caller;
      key = g.key.now;
      op = g.op.now;
      out = g.out.now;
      reply = g.reply.now;
      victim = g.victim;
      evicted = g.evicted;
      found = g.found;
    }

-- 1. The entries.

abbrev pub inserts_into : List (Bytes × Bytes) → Bytes → Op → Out → Bool
inserts_into entries key op out =
    is_none (finite.find key_cmp key entries) && is_some (entry_after op (finite.find key_cmp key entries) out)

abbrev pub overflows_in : ByUse → Bytes → Op → Out → Bool
overflows_in entries key op out = inserts_into entries.list key op out && (length entries.list == entries.capacity)

abbrev pub victim_in : ByUse → List Bytes → Bytes → Op → Out → Option Bytes
victim_in entries pinned key op out = if overflows_in entries key op out then lru_victim entries.list pinned else None

-- 2. The events.

abbrev pub callers_in : Option ℕ → List Joiner → List Caller
callers_in None joiners = []
callers_in (Some load) joiners = callers_of load joiners

-- it shares no load
abbrev pub new_step : NewGroup → Event
new_step new = Step new.caller new.op new.key new.out None new.reply

abbrev pub group_events : ℕ → NewGroup → List Caller → List Event
group_events place new callers =
    victim_events new.victim ++ new_step new
    ∷ map (shared_event (place + length (victim_events new.victim)) new.key new.out.load) callers
    ++ evicted_events new.key new.evicted

-- of the events of a group only the step itself counts by `found`
abbrev pub count_all : Bool → List Event → Statistics → Statistics
count_all found [] statistics = statistics
count_all found (event ∷ events) statistics = count_all found events (with_event statistics found event)

abbrev pub append_all : Bool → List Event → Past → Past
append_all found events past = record past {
  events = past.events ++ events;
  promised = past.promised - length events;
  statistics = count_all found events past.statistics;
}

abbrev pub append_group : Bool → List Event → ℕ → Past → Past
append_group found events kept past = record past {
  events = past.events ++ events;
  promised = past.promised - kept;
  statistics = count_all found events past.statistics;
}

-- `place` is that of the first event of the group
abbrev pub eviction_of : ℕ → NewGroup → List Caller → Option Eviction
eviction_of place new callers =
    option_map (λ cause. record { cause = cause; place = place + (length (group_events place new callers) - 1) }) new.evicted

abbrev pub is_write_due : Config → Out → Bool
is_write_due config out = config.write_through && is_none (early_fault out) && is_some (process_ask out.process)

pub record AnswersProcess (config : Config) (loads : Bool) (out : Out) : Type 0 where
  pub process : is_process_given out.process ≡ true
  pub load : load_fits (wanted_if loads) (is_load_given out.load) ≡ true
  pub write : is_write_given out.write ≡ is_write_due config out

-- the outside answers are those of whom a reservation asked first, and of the writer after a processor
abbrev pub AnswersFirst : Config → First → Out → Type 0
AnswersFirst config Nobody out = ⊥
AnswersFirst config Loader out = (answer : LoadAnswer) × (out ≡ load_only answer) × (is_load_given answer ≡ true)
AnswersFirst config (Writer change) out = (answer : WriteAnswer) × (out ≡ write_only answer) × (is_write_given answer ≡ true)
AnswersFirst config (Processor entry loads) out = AnswersProcess config loads out

-- the step of a joiner that was answered is at the place in its answer
abbrev pub HasToldStep : State → JoinClaim → JoinState → Type 0
HasToldStep state join (Answered place shared_with) = (reply : Reply) × IsSharedStep state join reply place shared_with
HasToldStep state join Again = Unit {0}
HasToldStep state join Waiting = Unit {0}

-- a joiner whose load isn't over stays
abbrev pub after_pick_up : State → JoinClaim → JoinState → State
after_pick_up state join (Answered place shared_with) = without_joiner state join
after_pick_up state join Again = without_joiner state join
after_pick_up state join Waiting = state

-- 3. A step in the entries: the key evicted before it, and why its own key was evicted after it.

abbrev pub without_own_entry : Bytes → Option Cause → List (Bytes × Bytes) → List (Bytes × Bytes)
without_own_entry key None entries = entries
without_own_entry key (Some cause) entries = others key entries

abbrev pub entries_after : List (Bytes × Bytes) → Bytes → Op → Out → Option Bytes → Option Cause → List (Bytes × Bytes)
entries_after entries key op out victim evicted = without_own_entry key evicted (used_at (after_eviction victim entries) key op out)

pub record AppliesStep (old : ByUse) (pinned : List Bytes) (key : Bytes) (op : Op) (out : Out) (victim : Option Bytes)
    (evicted : Option Cause) (new : ByUse) : Type 0 where
  pub short : Bool
  pub victim_is : victim ≡ victim_in old pinned key op out
  pub evicted_is : evicted
      ≡ own_cause (inserts_into old.list key op out) (overflows_in old key op out) (is_some (victim_in old pinned key op out)) short
  pub left : new ≡ record old { list = entries_after old.list key op out victim evicted }
