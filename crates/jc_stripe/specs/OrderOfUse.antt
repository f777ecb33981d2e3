-- The order in which a stripe's entries were used, from its opening and its events alone.
--     uses                 whether an operation without a fault, by the loader's answer, makes the entry that it leaves the most
--                          recently used: all do, except a `ContainsKey` and a `LoadAll` that kept no value
--     is_use               whether a step makes the entry that it leaves the most recently used: it has no fault, and its
--                          operation does
--     used_at              the entries after a step that isn't shared: its entry is moved or put to the front, or removed
--     order_after_event    the entries after an event, the most recently used first
--     by_use               the entries after a history
--     pinned               the keys that are reserved: their entries can't be evicted
--     least_used           the victim if there is no room: the least recently used key that isn't pinned, if there is one
--     next_victim          the victim of an insertion: none if there is room
use Rattle.std.specs.Prelude.{List, [], ◌∷◌, map, Bool, true, false, ◌&&◌, nat_lt, Option, None, Some, is_none, is_some}
use Rattle.std.specs.Prelude.{if◌then◌else◌}
use Rattle.std.specs.FinMap as finite
use Rattle.std.specs.FinMap.{len}
use Rattle.jc_model.specs.declared.event.Op.{Op}
use Rattle.jc_model.specs.declared.event.OpKind.TheVariants as kind
use Rattle.jc_model.specs.declared.event.Out.{Out}
use Rattle.jc_model.specs.declared.event.LoadAnswer.{LoadAnswer}
use Rattle.jc_model.specs.declared.event.Event.{Event}
use Rattle.jc_model.specs.declared.event.Event.TheVariants.{Step, Evict}
use Rattle.jc_model.specs.Cache.{Bytes, key_cmp}
use Rattle.jc_model.specs.Listed.{others, with_entry_first}
use Rattle.jc_model.specs.Table.{op_kind, first_fault, entry_after}
use Rattle.jc_model.specs.Processor.{found_in}
use Rattle.jc_entries.specs.ByUse.{lru_victim}
use Rattle.jc_stripe.specs.declared.ticket.Reservation.{Reservation}
use Rattle.jc_stripe.specs.State.{State}

-- 1. The use by a step.

-- for an operation that was made without a fault, with this answer of the loader
abbrev pub uses : Op → LoadAnswer → Bool
uses op load = elim (op_kind op) [
  | kind.ContainsKey ↦ false
  | kind.LoadAll replace ↦ is_some (found_in load)
  | kind.Get ↦ true
  | kind.Write ↦ true
  | kind.Clear ↦ true
  | kind.Invoke ↦ true
]

abbrev pub is_use : Op → Out → Bool
is_use op out = is_none (first_fault out) && uses op out.load

-- the entries after a step at a key: its entry is moved or put to the front, or removed
abbrev pub used_at : List (Bytes × Bytes) → Bytes → Op → Out → List (Bytes × Bytes)
used_at entries key op out =
    if is_use op out then with_entry_first key (entry_after op (finite.find key_cmp key entries) out) entries else entries

-- 2. The use by a history.

-- a shared step finds its entry, if there is one, in front already, so it leaves the order of use
abbrev pub order_after_event : List (Bytes × Bytes) → Event → List (Bytes × Bytes)
order_after_event entries (Step caller op key out None reply) = used_at entries key op out
order_after_event entries (Step caller op key out (Some place) reply) = entries
order_after_event entries (Evict key cause) = others key entries

abbrev pub by_use : List (Bytes × Bytes) → List Event → List (Bytes × Bytes)
by_use entries [] = entries
by_use entries (event ∷ events) = by_use (order_after_event entries event) events

-- 3. The victim.

abbrev pub pinned : List Reservation → List Bytes
pinned reservations = map (λ r. r.key) reservations

abbrev pub least_used : State → Option Bytes
least_used state = lru_victim (by_use state.opening state.history) (pinned state.reservations)

abbrev pub next_victim : State → Option Bytes
next_victim state = if nat_lt (len state.cache) state.config.capacity then None else least_used state
