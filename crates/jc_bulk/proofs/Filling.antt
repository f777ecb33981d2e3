-- What a bulk call asks outside for the keys that a round has reserved.
--     MayAsk           calls of this kind are out only in such a cache: those that write, with write-through on
--     asked_first      what asks at all asks as its kind does
--     same_asks, puts_ask    each key of a call asks as the call does
--     may_write        the kind of a round that asks is out only in a cache in which it may be
--     may_fill         the tickets of a round may be asked for in one call
--     asks_for         a round asks for keys of the call alone, and only for what their operations ask for
use Rattle.jc_bulk.proofs.Common.{MayAskFor, holds_none, AsksAs, HasOneToAsk, IsAskedOf, IsWrittenOf, OutsideState, fits_first, wanted_changes, IsOutsideReady, KeysAskAs, OutsideKind, Load, Write, Delete, CacheState, IsOf, Session, Bytes, Change, Op, Put, IsOutAt, all_map, all_mapped, all_out, among_there, distinct_reserved, is_change_of, AsksFor, reserved_keys, holds_reservation, ProcessAll, Round, WriteAll, keys_asked, ops_of, ops_with, put_ops, HasStarted, CallPast, AreFresh, reserved_by, BulkCall, KeyProgress, first_asked, first_by, reserves, TicketClaim, asks_loader, change_asked, First, Writer, Reservation, Config, ◌≡◌, ◌&&◌, ◌||◌, inl, inr, ℕ, zero, suc, List, [], ◌∷◌, map, slice_get, Bool, true, false, true≢false, cond, Option, None, Some, is_none, refl, sym, ap, ◌∙◌, subst, arith, same_Some, AllByRecursion, IsAmong}
use Rattle.std.specs.List.{All}
use Rattle.jc_types.specs.declared.caller.Caller.{Caller}
use Rattle.jc_model.specs.Table.{always_if}
use Rattle.jc_model.specs.declared.event.Change.TheVariants as change
use Rattle.jc_rounds.specs.Keys.{IsTicketFor}
use Rattle.jc_rounds.specs.Rounds.{LoadAll as LoadsAll}
use Rattle.jc_rounds.specs.SoFar.{AreIn}

-- 1. Whom an operation asks.

abbrev pub MayAsk : OutsideKind → Config → Type 0
MayAsk Load config = Unit {0}
MayAsk Write config = config.write_through ≡ true
MayAsk Delete config = config.write_through ≡ true

loads_by : (loads writes : Bool) (first : First) → first ≡ first_by (always_if loads) (cond writes None None) → reserves first ≡ true → asks_loader first ≡ true
loads_by true writes first is asks = ap asks_loader is
loads_by false true first is asks = absurd (true≢false (sym asks ∙ ap reserves is))
loads_by false false first is asks = absurd (true≢false (sym asks ∙ ap reserves is))

-- the writer is asked only with write-through on
writes_by : (through : Bool) (c : Change) (first : First) → first ≡ first_by (always_if false) (cond through (Some c) None) → reserves first ≡ true → (first ≡ Writer c) × (through ≡ true)
writes_by true c first is asks = (is, refl)
writes_by false c first is asks = absurd (true≢false (sym asks ∙ ap reserves is))

pub asked_first : (config : Config) (op : Op) (entry : Option Bytes) (first : First) (kind : OutsideKind) → AsksAs kind op → first ≡ first_asked config op entry → reserves first ≡ true → (fits_first kind first ≡ true) × MayAsk kind config
asked_first config op entry first Load (inl is) asked asks =
    (loads_by (config.read_through && is_none entry) config.write_through first (asked ∙ ap (λ o. first_asked config o entry) is) asks, tt)
asked_first config op entry first Load (inr (inl is)) asked asks =
    (loads_by (is.0 || is_none entry) config.write_through first (asked ∙ ap (λ o. first_asked config o entry) is.1) asks, tt)
asked_first config op entry first Load (inr (inr is)) asked asks =
    (loads_by false config.write_through first (asked ∙ ap (λ o. first_asked config o entry) is) asks, tt)
asked_first config op entry first Write is asked asks =
    let w = writes_by config.write_through (change.Write is.0) first (asked ∙ ap (λ o. first_asked config o entry) is.1) asks in
    (ap (λ f. is_change_of false (change_asked f)) w.0, w.1)
asked_first config op entry first Delete is asked asks =
    let w = writes_by config.write_through change.Delete first (asked ∙ ap (λ o. first_asked config o entry) is) asks in
    (ap (λ f. is_change_of true (change_asked f)) w.0, w.1)

-- 2. The keys of a call.

each_asks : {A : Type 0} (target : A → Bytes × Op) (P : Op → Type 0) → ((x : A) → P (target x).1) → (xs : List A) (place : ℕ) (o : Bytes × Op) → slice_get (map target xs) place ≡ Some o → P o.1
each_asks target P all [] place o at = cc
each_asks target P all (x ∷ xs) zero o at = subst (λ (u : Bytes × Op). P u.1) (same_Some (target x) o at) (all x)
each_asks target P all (x ∷ xs) (suc place) o at = each_asks target P all xs place o at

pub same_asks : (kind : OutsideKind) (op : Op) (keys : List Bytes) → AsksAs kind op → KeysAskAs kind (ops_with op keys)
same_asks kind op keys is place key o at = each_asks (λ (k : Bytes). (k, op)) (AsksAs kind) (λ k. is) keys place (key, o) at

pub puts_ask : (entries : List (Bytes × Bytes)) → KeysAskAs Write (put_ops entries)
puts_ask entries place key o at = each_asks (λ (e : Bytes × Bytes). (e.0, Put e.1)) (AsksAs Write) (λ e. (e.1, refl)) entries place (key, o) at

-- 3. A round.

module _ (kind : OutsideKind) (caller : Caller) (config : Config) (targets : List (Bytes × Op)) (asks : KeysAskAs kind targets) where
  ticket_asks : (ps : List KeyProgress) (r : Reservation) → IsOutAt holds_reservation (IsTicketFor caller config) targets ps r → (fits_first kind r.first ≡ true) × MayAsk kind config
  ticket_asks ps r out = asked_first config out.2 out.7.entry r.first kind (asks out.0 out.1 out.2 out.4) out.7.first_is out.7.asks

  pub all_ask : (ps : List KeyProgress) (ts : List TicketClaim) → AreIn holds_reservation (IsTicketFor caller config) targets ps (map reserved_by ts) → AllByRecursion (λ (t : TicketClaim). fits_first kind t.reservation.first ≡ true) ts
  all_ask ps ts are = by ts (all_map (IsOutAt holds_reservation (IsTicketFor caller config) targets ps) (λ (r : Reservation). fits_first kind r.first ≡ true) (map reserved_by ts) (λ r out. (ticket_asks ps r out).0) (all_out holds_reservation (IsTicketFor caller config) targets ps (map reserved_by ts) are))
    where
      by : (xs : List TicketClaim) → AllByRecursion (λ (r : Reservation). fits_first kind r.first ≡ true) (map reserved_by xs) → AllByRecursion (λ (t : TicketClaim). fits_first kind t.reservation.first ≡ true) xs
      by [] all = tt
      by (x ∷ xs) all = (all.0, by xs all.1)

  pub may_ask : (ps : List KeyProgress) (ts : List TicketClaim) → (ts ≡ [] → ⊥) → AreIn holds_reservation (IsTicketFor caller config) targets ps (map reserved_by ts) → MayAsk kind config
  may_ask ps [] some are = absurd (some refl)
  may_ask ps (t ∷ ts) some are = (ticket_asks ps t.reservation (all_out holds_reservation (IsTicketFor caller config) targets ps (map reserved_by (t ∷ ts)) are).0).1

  abbrev Wanted : Reservation → Type 0
  Wanted r = (op : Op) × (entry : Option Bytes) × IsAmong targets (r.key, op) × (r.first ≡ first_asked config op entry) × (fits_first kind r.first ≡ true)

  all_wanted : (ps : List KeyProgress) (rs : List Reservation) → AreIn holds_reservation (IsTicketFor caller config) targets ps rs → AllByRecursion Wanted rs
  all_wanted ps rs are =
      all_map (IsOutAt holds_reservation (IsTicketFor caller config) targets ps) Wanted rs
      (λ r out. (
        out.2,
        out.7.entry,
        subst (λ k. IsAmong targets (k, out.2)) (sym out.7.key_is) (among_there targets out.0 (out.1, out.2) out.4),
        out.7.first_is,
        (ticket_asks ps r out).0,
      ))
      (all_out holds_reservation (IsTicketFor caller config) targets ps rs are)

  written_for : (deletes : Bool) (rs : List Reservation) (round : Round) → IsWrittenOf deletes rs round → AllByRecursion Wanted rs → AsksFor config targets round
  written_for deletes rs (LoadsAll r) asked all = absurd asked
  written_for deletes rs (ProcessAll r) asked all = absurd asked
  written_for deletes rs (WriteAll r) asked all =
      subst (All (λ (c : Bytes × Option Change). (op : Op) × (entry : Option Bytes) × IsAmong targets (c.0, op) × (c.1 ≡ change_asked (first_asked config op entry)))) (sym asked.1)
      (all_mapped (λ (q : Reservation). (q.key, change_asked q.first)) (λ (c : Bytes × Option Change). (op : Op) × (entry : Option Bytes) × IsAmong targets (c.0, op) × (c.1 ≡ change_asked (first_asked config op entry))) rs
      (all_map Wanted (λ (q : Reservation). (op : Op) × (entry : Option Bytes) × IsAmong targets (q.key, op) × (change_asked q.first ≡ change_asked (first_asked config op entry))) rs (λ q a. (a.0, a.1, a.2, ap change_asked a.3)) all))

loaded_for : (caller : Caller) (config : Config) (targets : List (Bytes × Op)) (asks : KeysAskAs Load targets) (rs : List Reservation) (round : Round) → IsAskedOf Load rs round → (ps : List KeyProgress) → AreIn holds_reservation (IsTicketFor caller config) targets ps rs → AsksFor config targets round
loaded_for caller config targets asks rs (LoadsAll r) asked ps are =
    subst (All (λ (key : Bytes). (op : Op) × (entry : Option Bytes) × IsAmong targets (key, op) × (asks_loader (first_asked config op entry) ≡ true))) (sym asked)
    (all_mapped (λ (q : Reservation). q.key) (λ (key : Bytes). (op : Op) × (entry : Option Bytes) × IsAmong targets (key, op) × (asks_loader (first_asked config op entry) ≡ true)) rs
    (all_map (Wanted Load caller config targets asks) (λ (q : Reservation). (op : Op) × (entry : Option Bytes) × IsAmong targets (q.key, op) × (asks_loader (first_asked config op entry) ≡ true)) rs
    (λ q a. (a.0, a.1, a.2, ap asks_loader (sym a.3) ∙ a.4)) (all_wanted Load caller config targets asks ps rs are)))
loaded_for caller config targets asks rs (WriteAll r) asked ps are = absurd asked
loaded_for caller config targets asks rs (ProcessAll r) asked ps are = absurd asked

pub asks_for : (kind : OutsideKind) (caller : Caller) (config : Config) (targets : List (Bytes × Op)) (asks : KeysAskAs kind targets) (rs : List Reservation) (round : Round) → IsAskedOf kind rs round → (ps : List KeyProgress) → AreIn holds_reservation (IsTicketFor caller config) targets ps rs → AsksFor config targets round
asks_for Load caller config targets asks rs round asked ps are = loaded_for caller config targets asks rs round asked ps are
asks_for Write caller config targets asks rs round asked ps are = written_for Write caller config targets asks false rs round asked (all_wanted Write caller config targets asks ps rs are)
asks_for Delete caller config targets asks rs round asked ps are = written_for Delete caller config targets asks true rs round asked (all_wanted Delete caller config targets asks ps rs are)

pub firsts : (calls : List Reservation) → map (λ (c : Bytes × Option Change). c.0) (wanted_changes calls) ≡ reserved_keys calls
firsts [] = refl
firsts (r ∷ rs) = ap (λ ks. r.key ∷ ks) (firsts rs)

written_keys : (deletes : Bool) (rs : List Reservation) (round : Round) → IsWrittenOf deletes rs round → keys_asked round ≡ reserved_keys rs
written_keys deletes rs (LoadsAll r) asked = absurd asked
written_keys deletes rs (ProcessAll r) asked = absurd asked
written_keys deletes rs (WriteAll r) asked = ap (map (λ (c : Bytes × Option Change). c.0)) asked.1 ∙ firsts rs

pub keys_are : (kind : OutsideKind) (rs : List Reservation) (round : Round) → IsAskedOf kind rs round → keys_asked round ≡ reserved_keys rs
keys_are Load rs (LoadsAll r) asked = asked
keys_are Load rs (WriteAll r) asked = absurd asked
keys_are Load rs (ProcessAll r) asked = absurd asked
keys_are Write rs round asked = written_keys false rs round asked
keys_are Delete rs round asked = written_keys true rs round asked

unasked : (rounds : List Round) (ts : List TicketClaim) → AreFresh rounds ts → AllByRecursion (λ (t : TicketClaim). t.asked ≡ false) ts
unasked rounds [] all = tt
unasked rounds (t ∷ ts) all = (all.0.0, unasked rounds ts all.1)

module _ {I J : Type 0} {D : I → Type 0} {E : J → Type 0} where
  one_of : (cache : CacheState) (session : Session I J D E) (kind : OutsideKind) → IsOf cache session → MayAsk kind cache.config → HasOneToAsk kind session.agent.hands.outside.writer
  one_of cache session Load of may = tt
  one_of cache session Write of may = of.writes may
  one_of cache session Delete of may = of.writes may

  pub may_write : (cache : CacheState) (past : CallPast) (start session : Session I J D E) (call : BulkCall) (outside : OutsideState) → HasStarted cache past start session call → IsOutsideReady call outside → (call.tickets.items ≡ [] → ⊥) → MayAsk outside.kind cache.config
  may_write cache past start session call outside started ready some =
      may_ask outside.kind past.caller cache.config (ops_of call.targets.now) ready.kind call.progress.items call.tickets.items some started.on.under.calls_are

  pub may_fill : (cache : CacheState) (past : CallPast) (start session : Session I J D E) (call : BulkCall) (outside : OutsideState) → HasStarted cache past start session call → IsOutsideReady call outside → (call.tickets.items ≡ [] → ⊥) → MayAskFor session outside call.tickets.items
  may_fill cache past start session call outside started ready some =
      let u = started.on.under in
      let ops = ops_of call.targets.now in
      record {
        nothing = holds_none cache past session u.own;
        writer = one_of cache session outside.kind u.own (may_ask outside.kind past.caller cache.config ops ready.kind call.progress.items call.tickets.items some u.calls_are);
        none = ready.none;
        some = some;
        unasked = unasked past.rounds call.tickets.items started.fresh;
        kind = all_ask outside.kind past.caller cache.config ops ready.kind call.progress.items call.tickets.items u.calls_are;
        distinct = distinct_reserved past.caller cache.config ops call.progress.items (map reserved_by call.tickets.items) started.on.distinct u.calls_are;
        room = omega (arith, started.few, ready.room);
      }
