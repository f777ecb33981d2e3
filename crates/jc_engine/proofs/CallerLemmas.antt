-- Lemmas for the crates above: in which state a step was made, and on which entry; what a whole history leaves.
--     next_place     the place of a step that is appended is the next one
--     next_ended     so is that of a call that ends, also if its key's entry is evicted then
--     shown_same     a processor's call: the entry is the same in the state in which it was committed as in the one that was found first
--     no_done, no_join
--                    it is not done by its first phase, and joins no load
--     row_append .. picks_phase
--                    rows of lendings (`Rows`)
--     steps_in, counted_longer
--                    how many own steps of its session what was counted stands for, and that this number more are there after it
--     one_longer     with one own step more the list is one longer
--     reached_cache  what is cached is what the whole history leaves of the first opening
use Rattle.jc_engine.proofs.Common.{◌≡◌, ◌==◌, ◌&&◌, ◌+◌, ◌++◌, [], ◌∷◌, map, inl, inr, zero, suc, is_marked, without_entry, ℕ, Bool, true, false, if◌then◌else◌, Option, None, Some, is_some, is_none, List, length, slice_get, append_assoc, refl, sym, ap, subst, ◌∙◌, arith, length-append, Caller, Bytes, entry_at, Group, victim_events, evicted_events, step_event, shared_event, step_place, entry_after, Event, Evict, Op, Invoke, Out, State, is_key, past_events, whole_history, whole_place, IsReached, TicketClaim, entry_seen, first_asked, Ends, Steps, new_group, StepDone, Reservation, ask_found, stands_at}
use Rattle.std.specs.FinMap.{len}
use Rattle.jc_model.specs.declared.event.Cause.TheVariants.{Full, Invalidated}
use Rattle.jc_stripe.specs.declared.begun.Eviction.{Eviction}
use Rattle.jc_stripe.specs.Invalidating.{dropped_event, is_dropped}
use Rattle.jc_stripe.specs.Phases.{after_commit}
use Rattle.jc_stripe.specs.OrderOfUse.{least_used}
use Rattle.jc_engine.specs.MadeIn.{IsNext}
pub use Rattle.jc_engine.proofs.Counted.{steps_in, counted_longer, one_longer}
pub use Rattle.jc_engine.proofs.Increments.{reached_cache}
pub use Rattle.jc_engine.proofs.Rows.{Keeps, all_append, all_map, all_split, begun_row, call_in, commits_phase, forgets_keep, lent_grows, once, picks_phase, row_split, start_keeps, starts_phase, turn_map, waited_keeps, way_by, way_keeps}
pub use Rattle.jc_engine.proofs.Unasked.{no_done, no_join}

-- 1. The place of a step.

-- the step's place, by whether its key is missing before it, is there after it, the stripe is full, and which entry could go
at_next : (state : State) (key : Bytes) (place : ℕ) (history : List Event) (missing has full : Bool) (least : Option Bytes) (middle last : List Event)
    → (missing ≡ true → entry_at state.cache key ≡ None)
    → place ≡ length (whole_history state) + length (victim_events (if (missing && has) && full then least else None))
    → history ≡ whole_history state ++ ((victim_events (if (missing && has) && full then least else None) ++ middle) ++ last)
    → IsNext state key place history
at_next state key place history false has full least middle last none at is = inl (omega (arith, at))
at_next state key place history true false full least middle last none at is = inl (omega (arith, at))
at_next state key place history true true false least middle last none at is = inl (omega (arith, at))
at_next state key place history true true true None middle last none at is = inl (omega (arith, at))
at_next state key place history true true true (Some victim) middle last none at is =
    inr (omega (arith, at), none refl, (victim, ap (λ (es : List Event). slice_get es (length (whole_history state))) is ∙ stands_at (whole_history state) (Evict victim Full) (middle ++ last)))

none_is : (entry : Option Bytes) → is_none entry ≡ true → entry ≡ None
none_is None h = refl
none_is (Some value) h = cc

pub next_place : (old new : State) (caller : Caller) (key : Bytes) (op : Op) (out : Out) (callers : List Caller) (done : StepDone) → Steps old caller key op out callers done new → IsNext old key (whole_place new done.place) (whole_history new)
next_place old new caller key op out callers done x =
    let group : Group = new_group old caller key op out callers x.short in
    let entry : Option Bytes = entry_at old.cache key in
    let past : List Event = past_events old.ended in
    let ended : past_events new.ended ≡ past = ap (λ (s : State). past_events s.ended) x.after in
    let far : length (past_events new.ended) ≡ length past = ap length ended in
    let long = length-append past old.history in
    let at = x.place in
    at_next old key (whole_place new done.place) (whole_history new) (is_none entry) (is_some (entry_after op entry out)) (len old.cache == old.config.capacity) (least_used old)
    (step_event group ∷ map (shared_event (step_place (length old.history) group) key out.load) group.joined) (evicted_events key group.evicted)
    (none_is entry) (omega arith) ((λ i. ended i ++ (x.after i).history) ∙ sym (append_assoc past old.history _))

-- what is at a place stays there
there_further : (history more : List Event) (place : ℕ) (event : Event) → slice_get history place ≡ Some event → slice_get (history ++ more) place ≡ Some event
there_further [] more place event is = cc
there_further (x ∷ xs) more zero event is = is
there_further (x ∷ xs) more (suc place) event is = there_further xs more place event is

next_further : (state : State) (key : Bytes) (place : ℕ) (history more : List Event) → IsNext state key place history → IsNext state key place (history ++ more)
next_further state key place history more (inl is) = inl is
next_further state key place history more (inr (is, none, there)) = inr (is, none, (there.0, there_further history more (length (whole_history state)) (Evict there.0 Full) there.1))

-- also behind the eviction of the key's entry
next_dropped : (state ended : State) (key : Bytes) (done : StepDone) (evicted : Option Eviction) (drops : Bool) → IsNext state key (whole_place ended done.place) (whole_history ended)
    → IsNext state key (whole_place (if drops then without_entry ended key else ended) (if drops then record done { evicted = evicted } else done).place) (whole_history (if drops then without_entry ended key else ended))
next_dropped state ended key done evicted false next = next
next_dropped state ended key done evicted true next =
    subst (IsNext state key (whole_place ended done.place)) (append_assoc (past_events ended.ended) ended.history (dropped_event key ∷ [])) (next_further state key (whole_place ended done.place) (whole_history ended) (dropped_event key ∷ []) next)

pub next_ended : (old new : State) (r : Reservation) (out : Out) (done : StepDone) → Ends old r out done new → IsNext old r.key (whole_place new done.place) (whole_history new)
next_ended old new r out done e =
    let marked : Bool = is_marked old r.key in
    subst (λ (z : StepDone × State). IsNext old r.key (whole_place z.1 z.0.place) (whole_history z.1)) (λ i. (sym e.3 i, sym e.4 i))
    (next_dropped old e.0 r.key e.1 (Some (record { cause = Invalidated; place = length e.0.history })) (is_dropped marked e.0 r.key) (next_place (after_commit old r e.1.place) e.0 r.caller r.key r.op out _ e.1 e.2.1))

-- 2. The entry that a processor is shown.

-- what a processor's reservation asks is the entry
pub shown_same : (before : State) (caller : Caller) (key : Bytes) (ticket : TicketClaim) (first : State) (out : Out) (done : StepDone) (after : State) → IsReached before → Ends before ticket.reservation out done after
    → ticket.reservation.key ≡ key → ticket.reservation.op ≡ Invoke → first_asked first.config Invoke (entry_at first.cache key) ≡ ticket.reservation.first
    → entry_at before.cache key ≡ entry_at first.cache key
shown_same before caller key ticket first out done after reached ends key_is op_is asks =
    let r : Reservation = ticket.reservation in
    let now : first_asked before.config r.op (entry_at before.cache r.key) ≡ r.first = ask_found before.config before.cache (is_key r.key) before.reservations r ends.2.0 reached.asks in
    let here : first_asked before.config Invoke (entry_at before.cache key) ≡ r.first = subst (λ (p : Op × Bytes). first_asked before.config p.0 (entry_at before.cache p.1) ≡ r.first) (λ i. (op_is i, key_is i)) now in
    ap entry_seen (here ∙ sym asks)
