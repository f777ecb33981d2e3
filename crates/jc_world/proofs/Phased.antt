-- What the machine of a world does in a first and a last phase is what the definitions say.
use Rattle.jc_world.proofs.Common.{Again, Cache, Joins, entry_in, ◌≡◌, ℕ, zero, suc, true, false, cond, List, [], ◌∷◌, ◌++◌, length, drop, is_some, IsSomeAnd, slice_get, slice_set, Some, None, Option, sym, refl, ap, ◌∙◌, subst, subst₂, append-nil, and_parts, get, insert, remove, Config, Refusal, Bytes, Event, Op, Played, MayBegin, Ends, GivesBack, Invalidates, eviction_place, invalidated_as, EvictionPlace, PicksUp, reserves, State, IsOut, IsJoined, TicketClaim, JoinClaim, Begun, Polled, StepDone, First, Loader, Nobody, Processor, Writer, Reservation, Outcome, Over, Part, JoinAnswer, PartProgress, Shown, Stepped, WorldEvent, keeps_open, CallState, op_at, settle, over_settled, step_of, not_over, fault_in, over_by, asks_as, new_progress, new_part, with_new_part, BeginsAs, ReservesAs, StartsAs, RefusesAs, Happens, is_free, may_start, fits, IsDue, IsHeld, IsSoundWorld, OrderedStripes, IsPhase, IsQuietPhase, Parts, join_key, WorldState, home, stripe_for, open_call, part_of, out_of_part, join_of, is_none, cached_entry, without_foreign, with_doubt, is_misled, is_agreed, entry_at, Bool, foreign_committed}
use Rattle.jc_world.proofs.Lemmas.{stripe_put, missing, join_at, may_start_at, begins_at, was_free, some_of}
use Rattle.jc_world.proofs.Holding.{is_part}
use Rattle.jc_world.proofs.Kept.{unheld, stripe_at}

-- what is shown of the world that is viewed is what happened
pub shown_as : (old v next : WorldState) (e : WorldEvent) (seen now : Shown) → v ≡ old → seen ≡ now → Happens v e now next → Happens old e seen next
shown_as old v next e seen now view is h = subst₂ (λ w s. Happens w e s next) view (sym is) h

-- 1. Before the first phase.

pub may_begin_at : (w : WorldState) (call : ℕ) (key : Bytes) (u : CallState) (op : Op) → fits w (WorldEvent.Start call key) ≡ true → open_call w call ≡ Some u → op_at u key ≡ Some op → IsSoundWorld w → IsSomeAnd (stripe_for w key) (λ s. MayBegin s u.caller key)
may_begin_at w call key u op fit is op_is sound =
    let s = stripe_at w key sound in
    rw s.1 (begins_at w call key u op s.0 fit is op_is s.1 sound)

-- the key of a call that starts is open in it
pub start_open : (w : WorldState) (call : ℕ) (key : Bytes) (u : CallState) → fits w (WorldEvent.Start call key) ≡ true → open_call w call ≡ Some u → is_some (op_at u key) ≡ true
start_open w call key u fit is = (and_parts (is_some (op_at u key)) (is_free w call key) (sym (ap (may_start w call key) is) ∙ fit)).0

-- 2. The stripe that a phase has changed.

-- what a machine knows once it has run a phase
pub record Phased (v : WorldState) (number : ℕ) (phase : State → State → Type 0) (stripes : List State) (order : List Event) : Type 0 where
  pub from : State
  pub at : slice_get v.stripes number ≡ Some from
  pub to : State
  pub made : phase from to
  pub stripes_are : stripes ≡ slice_set v.stripes number to
  pub order_is : order ≡ v.order ++ drop (length from.history) to.history

-- it knows it from what its stripes tell
pub phased_from : (v : WorldState) (old new : OrderedStripes) (number : ℕ) (phase : State → State → Type 0) → old.stripes ≡ v.stripes → old.order ≡ v.order → IsPhase old number phase new → Phased v number phase new.stripes new.order
phased_from v old new number phase stripes order p = record {
  from = p.from;
  at = ap (λ ss. slice_get ss number) (sym stripes) ∙ p.at;
  to = p.to;
  made = p.made;
  stripes_are = p.stripes_are ∙ ap (λ ss. slice_set ss number p.to) stripes;
  order_is = p.order_is ∙ ap (λ o. o ++ drop (length p.from.history) p.to.history) order;
}

-- 3. A first phase.

-- a phase at the stripe of a key
pub here : (v : WorldState) (key : Bytes) (number : ℕ) (phase : State → State → Type 0) (stripes : List State) (order : List Event) → number ≡ home v key → Phased v number phase stripes order → Phased v (home v key) phase stripes order
here v key number phase stripes order home_is p = let P : ℕ → Type 0 = λ n. Phased v n phase stripes order in subst P home_is p

-- what a machine knows once it has run a first phase: the call, its operation, and what was begun at the stripe of the key
pub record StartPhase (v : WorldState) (call : ℕ) (key : Bytes) (u : CallState) (op : Op) (b : Begun) (stripes : List State) (order : List Event) : Type 0 where
  pub is : open_call v call ≡ Some u
  pub op_is : op_at u key ≡ Some op
  pub phase : Phased v (home v key) (BeginsAs u.caller key op b) stripes order

-- what is left is as the first phase's definition says
started : (v next : WorldState) (call : ℕ) (key : Bytes) (u : CallState) (op : Op) (b : Begun) (seen : Shown) (stripes : List State) (order : List Event) → (p : StartPhase v call key u op b stripes order)
    → StartsAs v u.caller key op p.phase.from p.phase.to seen.outcome next × RefusesAs u.kind seen.outcome × (seen.over ≡ over_by v u.caller.call key seen.outcome) → Happens v (WorldEvent.Start call key) seen next
started v next call key u op b seen stripes order p h = (u, op, p.is, p.op_is, p.phase.from, p.phase.at, p.phase.to, h.0, h.1, h.2)

pub started_done : (v next : WorldState) (call : ℕ) (key : Bytes) (u : CallState) (op : Op) (done : StepDone) (seen : Stepped) (met : Option Refusal) (over : Option Over) (stripes : List State) (order : List Event)
    → StartPhase v call key u op (Begun.Done done) stripes order → step_of seen ≡ done → seen.stripe ≡ home v key
    → met ≡ fault_in done.reply → over ≡ over_settled u.caller.call key met v.calls
    → next ≡ record v { stripes = stripes; order = order; calls = settle u.caller.call key met v.calls } → Happens v (WorldEvent.Start call key) (record { outcome = Outcome.Stepped seen; over = over }) next
started_done v next call key u op done seen met over stripes order p shows stripe_is met_is over_is next_is =
    let same : met ≡ fault_in seen.reply = met_is ∙ sym (ap (λ (d : StepDone). fault_in d.reply) shows) in
    let left = next_is ∙ (λ i. record v { stripes = p.phase.stripes_are i; order = p.phase.order_is i; calls = settle u.caller.call key (same i) v.calls }) in
    started v next call key u op (Begun.Done done) (record { outcome = Outcome.Stepped seen; over = over }) stripes order p
    ((rw shows p.phase.made, stripe_is, left), tt, over_is ∙ ap (λ m. over_settled u.caller.call key m v.calls) same)

-- a refused call leaves its stripe
same_set : (xs : List State) (i : ℕ) (x y : State) → slice_get xs i ≡ Some x → y ≡ x → slice_set xs i y ≡ xs
same_set [] i x y h e = cc
same_set (z ∷ zs) zero x y h e = let is : z ≡ x = cc in ap (λ s. s ∷ zs) (e ∙ sym is)
same_set (z ∷ zs) (suc i) x y h e = ap (λ s. z ∷ s) (same_set zs i x y h e)

-- what a state has not appended
none_new : (order xs ys : List Event) → xs ≡ ys → order ++ drop (length ys) xs ≡ order
none_new order xs ys e = ap (λ zs. order ++ drop (length ys) zs) e ∙ ap (λ zs. order ++ zs) (gone ys) ∙ append-nil order
  where
    gone : (zs : List Event) → drop (length zs) zs ≡ []
    gone [] = refl
    gone (z ∷ zs) = gone zs

-- so a phase that appends nothing leaves the order
quiet_order : (v : WorldState) (number : ℕ) (phase : State → State → Type 0) (stripes : List State) (order : List Event) → (q : Phased v number phase stripes order) → q.to.history ≡ q.from.history → order ≡ v.order
quiet_order v number phase stripes order q same = q.order_is ∙ none_new v.order q.to.history q.from.history same

-- the last refusal of a key, and what is over with it
abbrev pub refused_with : WorldState → CallState → Bytes → Refusal → Shown
refused_with v u key refusal = record { outcome = Outcome.Refused refusal; over = over_settled u.caller.call key (Some refusal) v.calls }

-- a call was refused at a key, and is to try again there, or has its last refusal
pub started_refused : (v next : WorldState) (call : ℕ) (key : Bytes) (u : CallState) (op : Op) (refusal : Refusal) (seen : Shown) (stripes : List State) (order : List Event) (calls : List CallState)
    → StartPhase v call key u op (Begun.Refused refusal) stripes order
    → seen ≡ cond (keeps_open u.kind refusal) (not_over (Outcome.PutOff refusal)) (refused_with v u key refusal)
    → calls ≡ cond (keeps_open u.kind refusal) v.calls (settle u.caller.call key (Some refusal) v.calls)
    → next ≡ record v { stripes = stripes; order = order; calls = calls } → Happens v (WorldEvent.Start call key) seen next
started_refused v next call key u op refusal seen stripes order calls p shows calls_are next_is =
    let q = p.phase in
    let left : (cs : List CallState) → calls ≡ cs → next ≡ record v { calls = cs } = λ cs e. next_is ∙ (λ i. record v {
      stripes = (q.stripes_are ∙ same_set v.stripes (home v key) q.from q.to q.at q.made.1) i;
      order = quiet_order v (home v key) _ stripes order q (ap (λ (s : State). s.history) q.made.1) i;
      calls = e i;
    }) in
    let Goal : Shown → Type 0 = λ x. StartsAs v u.caller key op q.from q.to x.outcome next × RefusesAs u.kind x.outcome × (x.over ≡ over_by v u.caller.call key x.outcome) in
    started v next call key u op (Begun.Refused refusal) seen stripes order p
    (elim (keeps_open u.kind refusal) as (λ b. keeps_open u.kind refusal ≡ b → seen ≡ cond b (not_over (Outcome.PutOff refusal)) (refused_with v u key refusal) → calls ≡ cond b v.calls (settle u.caller.call key (Some refusal) v.calls) → Goal seen) [
      | true ↦ λ e s c. subst Goal (sym s) ((q.made, left v.calls c), e, refl)
      | false ↦ λ e s c. subst Goal (sym s) ((q.made, left (settle u.caller.call key (Some refusal) v.calls) c), e, refl)
    ] refl shows calls_are)

-- a key is reserved, and its stripe appends nothing
reserved : (v next : WorldState) (key : Bytes) (phase : State → State → Type 0) (stripes : List State) (order : List Event) (parts : Parts) (progress : PartProgress) (r : Reservation) (q : Phased v (home v key) phase stripes order) → r.key ≡ key → q.to.history ≡ q.from.history
    → parts ≡ insert v.parts r.key (new_part progress r) → next ≡ record v { stripes = stripes; order = order; parts = parts; foreign = without_foreign v.foreign key (is_none (cached_entry v key)) } → next ≡ with_new_part v key q.to progress r
reserved v next key phase stripes order parts progress r q key_is same put next_is =
    let parts_are = put ∙ ap (λ k. insert v.parts k (new_part progress r)) key_is in
    next_is ∙ (λ i. record v { stripes = q.stripes_are i; order = quiet_order v (home v key) phase stripes order q same i; parts = parts_are i; foreign = without_foreign v.foreign key (is_none (cached_entry v key)) })

-- a call has joined a load
pub started_joins : (v next : WorldState) (call : ℕ) (key : Bytes) (u : CallState) (op : Op) (join : JoinClaim) (stripes : List State) (order : List Event) → StartPhase v call key u op (Begun.Joined join) stripes order
    → next ≡ record v { stripes = stripes; order = order; joins = insert v.joins (join_key join) join } → Happens v (WorldEvent.Start call key) (not_over Outcome.Joins) next
started_joins v next call key u op join stripes order p next_is =
    let quiet = quiet_order v (home v key) _ stripes order p.phase (ap (λ (s : State). s.history) p.phase.made.3) in
    started v next call key u op (Begun.Joined join) (not_over Outcome.Joins) stripes order p
    ((join, p.phase.made, next_is ∙ (λ i. record v { stripes = p.phase.stripes_are i; order = quiet i; joins = insert v.joins (join_key join) join })), tt, refl)

-- a key is reserved, its ticket is held, and it is shown who is asked
pub started_ticket : (v next : WorldState) (call : ℕ) (key : Bytes) (u : CallState) (op : Op) (ticket : TicketClaim) (seen : Shown) (stripes : List State) (order : List Event) (parts : Parts) → StartPhase v call key u op (Begun.Asks ticket) stripes order
    → seen ≡ not_over (asks_as ticket.reservation.first) → parts ≡ insert v.parts ticket.reservation.key (new_part (new_progress ticket.reservation.first) ticket.reservation)
    → next ≡ record v { stripes = stripes; order = order; parts = parts; foreign = without_foreign v.foreign key (is_none (cached_entry v key)) } → Happens v (WorldEvent.Start call key) seen next
started_ticket v next call key u op ticket seen stripes order parts p shown put next_is =
    let m = p.phase.made in
    let first = ticket.reservation.first in
    let left = reserved v next key _ stripes order parts (new_progress first) ticket.reservation p.phase (ap (λ (t : TicketClaim). t.reservation.key) m.4) (ap (λ (s : State). s.history) m.5) put next_is in
    shown_as v v next (WorldEvent.Start call key) seen _ refl shown
    (asked first m.3 (λ o r is. started v next call key u op (Begun.Asks ticket) (not_over o) stripes order p (r (ticket, m, is, left))))
  where
    -- of the three outcomes of a key that is reserved
    asked : (first : First) → reserves first ≡ true → ((o : Outcome) → (ReservesAs v u.caller key op p.phase.from p.phase.to o next → StartsAs v u.caller key op p.phase.from p.phase.to o next × RefusesAs u.kind o × (None ≡ over_by v u.caller.call key o)) → o ≡ asks_as first → Happens v (WorldEvent.Start call key) (not_over o) next)
        → Happens v (WorldEvent.Start call key) (not_over (asks_as first)) next
    asked Nobody due f = cc
    asked Loader due f = f Outcome.Loads (λ h. (h, tt, refl)) refl
    asked (Writer change) due f = f (Outcome.Asks change) (λ h. (h, tt, refl)) refl
    asked (Processor entry may_load) due f = f (Outcome.Processes entry) (λ h. (h, tt, refl)) refl

-- what has just joined had not joined before
pub free_join : (v : WorldState) (call : ℕ) (u : CallState) (key : Bytes) (op : Op) (join : JoinClaim) (stripes : List State) (order : List Event) → StartPhase v call key u op (Begun.Joined join) stripes order
    → fits v (WorldEvent.Start call key) ≡ true → IsSoundWorld v → get v.joins (join_key join) ≡ None
free_join v call u key op join stripes order p fit sound =
    ap (get v.joins) (λ i. join_key (p.phase.made.2 i))
    ∙ missing (join_of v u.caller.call key) (λ other e. let t : true ≡ false = sym (ap is_some e) ∙ (may_start_at v call key u op fit p.is p.op_is sound).alone in cc)

-- nothing was held of a key that a ticket was given for
pub free_key : (v : WorldState) (call : ℕ) (u : CallState) (key : Bytes) (op : Op) (ticket : TicketClaim) (stripes : List State) (order : List Event) → StartPhase v call key u op (Begun.Asks ticket) stripes order → IsSoundWorld v
    → get v.parts ticket.reservation.key ≡ None
free_key v call u key op ticket stripes order p sound =
    let m = p.phase.made in
    ap (λ (t : TicketClaim). get v.parts t.reservation.key) m.4
    ∙ unheld v key p.phase.from p.phase.at (was_free p.phase.from u.caller key op ticket.reservation.first m.0 m.1 m.2 m.3) sound

-- 4. A last phase.

abbrev pub CommitsAs : Part → StepDone → State → State → Type 0
CommitsAs part done from to = Ends from part.reservation (out_of_part part) done to

pub ended : (v next : WorldState) (call : ℕ) (key : Bytes) (part : Part) (number : ℕ) (done : StepDone) (seen : Stepped) (met : Option Refusal) (over : Option Over) (stripes : List State) (order : List Event) (parts : Parts) (foreign : Cache) (misled agrees : Bool) → part_of v call key ≡ Some part → number ≡ home v key
    → Phased v number (CommitsAs part done) stripes order → step_of seen ≡ done → seen.stripe ≡ number → parts ≡ remove v.parts key
    → met ≡ fault_in done.reply → over ≡ over_settled call key met v.calls
    → misled ≡ is_misled part → agrees ≡ is_agreed (entry_in (slice_get stripes number) key) (entry_at v.store key) → foreign ≡ without_foreign (with_doubt v.foreign key misled) key agrees
    → next ≡ record v { stripes = stripes; order = order; calls = settle call key met v.calls; parts = parts; foreign = foreign } → Happens v (WorldEvent.Commit call key) (record { outcome = Outcome.Stepped seen; over = over }) next
ended v next call key part number done seen met over stripes order parts foreign misled agrees is home_is p shows stripe_is parts_are met_is over_is misled_is agrees_is foreign_is next_is =
    let same : met ≡ fault_in seen.reply = met_is ∙ sym (ap (λ (d : StepDone). fault_in d.reply) shows) in
    let q = here v key number (CommitsAs part done) stripes order home_is p in
    let B : StepDone → Type 0 = λ d. Ends q.from part.reservation (out_of_part part) d q.to in
    let put : entry_in (slice_get stripes number) key ≡ entry_at q.to.cache key = (λ i. entry_in (slice_get (q.stripes_are i) (home_is i)) key) ∙ ap (λ o. entry_in o key) (stripe_put v.stripes (home v key) q.from q.to q.at) in
    let agreed : agrees ≡ is_agreed (entry_at q.to.cache key) (entry_at v.store key) = agrees_is ∙ ap (λ e. is_agreed e (entry_at v.store key)) put in
    let left : foreign ≡ foreign_committed v key part q.to = foreign_is ∙ (λ i. without_foreign (with_doubt v.foreign key (misled_is i)) key (agreed i)) in
    let leaves = next_is ∙ (λ i. record v { stripes = q.stripes_are i; order = q.order_is i; calls = settle call key (same i) v.calls; parts = parts_are i; foreign = left i }) in
    (part, is, q.from, q.at, q.to, (subst B (sym shows) q.made, stripe_is ∙ home_is, leaves), over_is ∙ ap (λ m. over_settled call key m v.calls) same)

-- what a commit needs of the stripe
pub may_end_at : (v : WorldState) (call : ℕ) (key : Bytes) (part : Part) (number : ℕ) → part_of v call key ≡ Some part → number ≡ home v key → IsSoundWorld v
    → IsSomeAnd (slice_get v.stripes number) (λ s. IsOut s part.reservation × (s.origin ≡ Played) × IsDue s.config part)
may_end_at v call key part number is home_is sound =
    let found = some_of (stripe_for v key) (λ s. IsHeld s key part) (sound.held key part (is_part (get v.parts key) call part is)) in
    let s = found.0 in
    let held = found.2 in
    let shape = sound.shape.each (home v key) s found.1 in
    let due = subst (λ (c : Config). IsDue c part) (sym shape.config_is) (sound.due key part (is_part (get v.parts key) call part is)) in
    let P : State → Type 0 = λ s. IsOut s part.reservation × (s.origin ≡ Played) × IsDue s.config part in
    rw home_is (rw found.1 (held.out, shape.origin_is, due))

-- 5. A reservation that is given back.

-- the stripe of a phase that puts nothing down
pub record Changed (v : WorldState) (number : ℕ) (phase : State → State → Type 0) (stripes : List State) : Type 0 where
  pub from : State
  pub at : slice_get v.stripes number ≡ Some from
  pub to : State
  pub made : phase from to
  pub stripes_are : stripes ≡ slice_set v.stripes number to

-- a machine knows it from what its stripes tell
pub changed_from : (v : WorldState) (old new : OrderedStripes) (number : ℕ) (phase : State → State → Type 0) → old.stripes ≡ v.stripes → IsQuietPhase old number phase new → Changed v number phase new.stripes
changed_from v old new number phase stripes p = record {
  from = p.from;
  at = ap (λ ss. slice_get ss number) (sym stripes) ∙ p.at;
  to = p.to;
  made = p.made;
  stripes_are = p.stripes_are ∙ ap (λ ss. slice_set ss number p.to) stripes;
}

-- the same at the stripe of a key
changed_here : (v : WorldState) (key : Bytes) (number : ℕ) (phase : State → State → Type 0) (stripes : List State) → number ≡ home v key → Changed v number phase stripes → Changed v (home v key) phase stripes
changed_here v key number phase stripes home_is p = let P : ℕ → Type 0 = λ n. Changed v n phase stripes in subst P home_is p

-- what it needs of the stripe
pub may_withdraw_at : (v : WorldState) (call : ℕ) (key : Bytes) (part : Part) (number : ℕ) → part_of v call key ≡ Some part → number ≡ home v key → IsSoundWorld v → IsSomeAnd (slice_get v.stripes number) (λ s. IsOut s part.reservation)
may_withdraw_at v call key part number is home_is sound =
    weaker (slice_get v.stripes number) (may_end_at v call key part number is home_is sound)
  where
    weaker : (o : Option State) → IsSomeAnd o (λ s. IsOut s part.reservation × (s.origin ≡ Played) × IsDue s.config part) → IsSomeAnd o (λ s. IsOut s part.reservation)
    weaker None h = h
    weaker (Some s) h = h.0

-- the reservation was given back
pub withdrawn_at : (v next : WorldState) (call : ℕ) (key : Bytes) (part : Part) (number : ℕ) (evicted : Option EvictionPlace) (stripes : List State) (order : List Event) (parts : Parts) → part_of v call key ≡ Some part → number ≡ home v key
    → Phased v number (λ from to. GivesBack from part.reservation to × (evicted ≡ eviction_place number from to)) stripes order → parts ≡ remove v.parts key
    → next ≡ record v { stripes = stripes; order = order; parts = parts } → Happens v (WorldEvent.Withdraw call key) (not_over (Outcome.Withdrawn evicted)) next
withdrawn_at v next call key part number evicted stripes order parts is home_is p parts_are next_is =
    let q = here v key number (λ from to. GivesBack from part.reservation to × (evicted ≡ eviction_place number from to)) stripes order home_is p in (
      part,
      is,
      q.from,
      q.at,
      q.to,
      q.made.0,
      ap (λ e. not_over (Outcome.Withdrawn e)) (q.made.1 ∙ ap (λ n. eviction_place n q.from q.to) home_is),
      next_is ∙ (λ i. record v { stripes = q.stripes_are i; order = q.order_is i; parts = parts_are i }),
    )

-- a key was invalidated
pub invalidated_at : (v next : WorldState) (key : Bytes) (number : ℕ) (shown : Outcome) (stripes : List State) (order : List Event) → number ≡ home v key
    → Phased v number (λ from to. Invalidates from key to × (shown ≡ invalidated_as number key from to)) stripes order
    → next ≡ record v { stripes = stripes; order = order; is_fresh = false } → Happens v (WorldEvent.Invalidate key) (not_over shown) next
invalidated_at v next key number shown stripes order home_is p next_is =
    let q = here v key number (λ from to. Invalidates from key to × (shown ≡ invalidated_as number key from to)) stripes order home_is p in (
      q.from,
      q.at,
      q.to,
      q.made.0,
      ap not_over (q.made.1 ∙ ap (λ n. invalidated_as n key q.from q.to) home_is),
      next_is ∙ (λ i. record v { stripes = q.stripes_are i; order = q.order_is i; is_fresh = false }),
    )

-- 6. An answer that is picked up.

-- the joiner of a join is in the stripe of its key
pub joiner_at : (v : WorldState) (call : ℕ) (key : Bytes) (join : JoinClaim) (number : ℕ) → join_of v call key ≡ Some join → number ≡ home v key → IsSoundWorld v → IsSomeAnd (slice_get v.stripes number) (λ s. IsJoined s join)
joiner_at v call key join number is home_is sound =
    let h = join_at v call key join is sound.joins in
    rw (ap (home v) h.1 ∙ sym home_is) at h.2.out

-- a pick-up of this join
abbrev pub PicksAs : JoinClaim → Polled → State → State → Type 0
PicksAs join p from to = PicksUp from join p to

-- the answer was there
pub picked_answer : (v next : WorldState) (call : ℕ) (key : Bytes) (join : JoinClaim) (number : ℕ) (seen : JoinAnswer) (over : Option Over) (stripes : List State) → join_of v call key ≡ Some join → number ≡ home v key → seen.stripe ≡ number
    → Changed v number (PicksAs join (Polled.Answer seen.reply seen.place seen.shared)) stripes
    → over ≡ over_settled call key (fault_in seen.reply) v.calls
    → next ≡ record v { stripes = stripes; joins = remove v.joins (call, key); calls = settle call key (fault_in seen.reply) v.calls } → Happens v (WorldEvent.PickUp call key) (record { outcome = Outcome.PickedUp seen; over = over }) next
picked_answer v next call key join number seen over stripes is home_is stripe_is p over_is next_is =
    let q = changed_here v key number (PicksAs join (Polled.Answer seen.reply seen.place seen.shared)) stripes home_is p in
    let left = next_is ∙ (λ i. record v { stripes = q.stripes_are i; joins = remove v.joins (call, key); calls = settle call key (fault_in seen.reply) v.calls }) in
    (join, is, q.from, q.at, q.to, (q.made, stripe_is ∙ home_is, left), over_is)

-- the load was withdrawn
pub picked_again : (v next : WorldState) (call : ℕ) (key : Bytes) (join : JoinClaim) (number : ℕ) (stripes : List State) → join_of v call key ≡ Some join → number ≡ home v key
    → Changed v number (PicksAs join Polled.Again) stripes
    → next ≡ record v { stripes = stripes; joins = remove v.joins (call, key) } → Happens v (WorldEvent.PickUp call key) (not_over Outcome.Again) next
picked_again v next call key join number stripes is home_is p next_is =
    let q = changed_here v key number (PicksAs join Polled.Again) stripes home_is p in
    (join, is, q.from, q.at, q.to, (q.made, next_is ∙ (λ i. record v { stripes = q.stripes_are i; joins = remove v.joins (call, key) })), refl)

-- the load isn't over
pub picked_nothing : (v next : WorldState) (call : ℕ) (key : Bytes) (join back : JoinClaim) (number : ℕ) (stripes : List State) → join_of v call key ≡ Some join → number ≡ home v key
    → Changed v number (PicksAs join (Polled.NotYet back)) stripes
    → next ≡ record v { stripes = stripes } → Happens v (WorldEvent.PickUp call key) (not_over Outcome.Waits) next
picked_nothing v next call key join back number stripes is home_is p next_is =
    let q = changed_here v key number (PicksAs join (Polled.NotYet back)) stripes home_is p in
    let made : PicksUp q.from join (Polled.NotYet join) q.to = (q.made.0, q.made.1, refl, q.made.3) in
    let same = q.stripes_are ∙ same_set v.stripes (home v key) q.from q.to q.at q.made.3 in
    (join, is, q.from, q.at, q.to, (made, next_is ∙ (λ i. record v { stripes = same i })), refl)
