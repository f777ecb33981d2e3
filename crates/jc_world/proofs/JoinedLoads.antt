-- What the joiners of a stripe tell of the load that they have joined.
--     Tells              what the state of a joiner tells of its load: it is out, or it was committed or withdrawn since, as was shown
--     TellsIn            a stripe has the joiner of a join, whose state tells that of the load
--     tells_kept         it does later, if the joiners are the same or more, and the load stays out
--     tells_committed, tells_withdrawn      it does where any load is over
use Rattle.jc_world.proofs.Common.{◌≡◌, ℕ, ◌+◌, ◌<◌, Bool, true, false, cond, ◌&&◌, ◌||◌, List, [], ◌∷◌, ◌++◌, length, IsSomeAnd, ◌==◌, slice_get, Some, Option, find, sym, refl, ap, ◌∙◌, subst, arith, take-append_seam, eqb-true, eq-eqb, and_parts, false_from_ne_true, take-append-le, list_any-append, slice_get_within, pointwise, list_any, Caller, Bytes, after_dissolve, belongs_to, is_waiting, waits_for, with_answer, answered_from, after_resolve, JoinState, Again, Answered, Waiting, Joiner, IsReached, State, is_key, without_key, IsOut, JoinClaim, Reservation, Outcome, EvictionPlace, Over, Shown, Stepped, WorldEvent, not_over, is_fit, ends_load, IsLoadEnd}
use Rattle.jc_world.proofs.Lemmas.{still_at, same_bytes, joiner_of, joined_front, same_number, split, found_left}
use Rattle.jc_world.proofs.Kept.{some_map}

-- what was shown so far, each with its event
abbrev pub Shows : Type 0
Shows = List (WorldEvent × Shown)

-- a step that was shown, and what was over with it
abbrev pub step_shown : Stepped → Option Over → Shown
step_shown step over = record { outcome = Outcome.Stepped step; over = over }

-- 1. What the state of a joiner tells.

abbrev pub Tells : ℕ → Shows → State → Reservation → JoinState → Type 0
Tells number shows s r Waiting = IsOut s r × (list_any (ends_load r) shows ≡ false)
Tells number shows s r (Answered place shared) = (at : ℕ) × (step : Stepped) × IsLoadEnd shows r at (WorldEvent.Commit r.caller.call r.key) (Outcome.Stepped step) × (step.stripe ≡ number) × (step.place ≡ shared)
Tells number shows s r Again = (at : ℕ) × (evicted : Option EvictionPlace) × IsLoadEnd shows r at (WorldEvent.Withdraw r.caller.call r.key) (Outcome.Withdrawn evicted)

-- of a joiner of this load
abbrev pub TellsOf : ℕ → Shows → State → Reservation → Joiner → Type 0
TellsOf number shows s r j = (j.load ≡ r.number) × Tells number shows s r j.state

abbrev pub TellsIn : ℕ → Shows → JoinClaim → Reservation → State → Type 0
TellsIn number shows join r s = IsSomeAnd (joiner_of join.caller join.key s.joiners) (TellsOf number shows s r)

-- 2. More was shown.

-- the one at the end of a list is there
there_last : {A : Type 0} (xs : List A) (x : A) → slice_get (xs ++ x ∷ []) (length xs) ≡ Some x
there_last [] x = refl
there_last (z ∷ zs) x = there_last zs x

-- the end of a load is its end later
end_more : (shows more : Shows) (r : Reservation) (at : ℕ) (e : WorldEvent) (o : Outcome) → IsLoadEnd shows r at e o → IsLoadEnd (shows ++ more) r at e o
end_more shows more r at e o h =
    let within : at < length shows = slice_get_within shows at (e, h.seen) h.there in
    record { seen = h.seen; there = still_at shows more at (e, h.seen) h.there; outcome_is = h.outcome_is; first = ap (list_any (ends_load r)) (take-append-le at shows more (omega arith)) ∙ h.first }

-- an event is the end of a load that was out before it
end_last : (shows : Shows) (r : Reservation) (e : WorldEvent) (seen : Shown) → list_any (ends_load r) shows ≡ false → IsLoadEnd (shows ++ (e, seen) ∷ []) r (length shows) e seen.outcome
end_last shows r e seen none = record { seen = seen; there = there_last shows (e, seen); outcome_is = refl; first = ap (list_any (ends_load r)) (take-append_seam shows ((e, seen) ∷ [])) ∙ none }

-- an event of another key ends no load of this one
pub none_of_key : (r : Reservation) (call : ℕ) (key : Bytes) (seen : Shown) → (r.key ≡ key → ⊥) → ((is_fit seen.outcome && (call == r.caller.call)) && pointwise ◌==◌ r.key key) ≡ false
none_of_key r call key seen apart = false_from_ne_true _ (λ t. apart (same_bytes r.key key (and_parts (is_fit seen.outcome && (call == r.caller.call)) (pointwise ◌==◌ r.key key) t).1))

-- it tells the same later, if a load that is waited for is still out
pub tells_on : (number : ℕ) (shows more : Shows) (s t : State) (r : Reservation) (state : JoinState) → (is_waiting state ≡ true → IsOut s r → IsOut t r × (list_any (ends_load r) more ≡ false)) → Tells number shows s r state
    → Tells number (shows ++ more) t r state
tells_on number shows more s t r Waiting on (out, none) = let k = on refl out in (k.0, list_any-append (ends_load r) shows more ∙ (λ i. none i || k.1 i))
tells_on number shows more s t r (Answered place shared) on (at, step, end, stripe, same) = (at, step, end_more shows more r at _ _ end, stripe, same)
tells_on number shows more s t r Again on (at, evicted, end) = (at, evicted, end_more shows more r at _ _ end)

-- a joiner that waits tells that the load is out
tells_out : (number : ℕ) (shows : Shows) (s : State) (r : Reservation) (state : JoinState) → is_waiting state ≡ true → Tells number shows s r state → IsOut s r × (list_any (ends_load r) shows ≡ false)
tells_out number shows s r Waiting waits h = h
tells_out number shows s r state waits h = cc

-- the joiners are the same, or there are more after them
pub tells_kept : (number : ℕ) (shows more : Shows) (join : JoinClaim) (r : Reservation) (s t : State) (behind : List Joiner) → t.joiners ≡ s.joiners ++ behind → list_any (ends_load r) more ≡ false → (IsOut s r → IsOut t r)
    → TellsIn number shows join r s → TellsIn number (shows ++ more) join r t
tells_kept number shows more join r s t behind joiners none out h =
    let Q : Joiner → Type 0 = TellsOf number (shows ++ more) t r in
    rw joiners
    (joined_front Q (belongs_to join.caller join.key) s.joiners behind
    (some_map (joiner_of join.caller join.key s.joiners) (TellsOf number shows s r) Q (λ j k. (k.0, tells_on number shows more s t r j.state (λ waits o. (out o, none)) k.1)) h))

-- 3. A load is over.

-- a joiner that is found, by whether it is answered
resolved_by : (P Q : Joiner → Type 0) (load step place : ℕ) (caller : Caller) (key : Bytes) (js : List Joiner) → ((place : ℕ) (x : Joiner) → waits_for load x ≡ true → P x → Q (with_answer place step x))
    → ((x : Joiner) → waits_for load x ≡ false → P x → Q x) → IsSomeAnd (joiner_of caller key js) P → IsSomeAnd (joiner_of caller key (answered_from load step place js)) Q
resolved_by P Q load step place caller key [] f g h = h
resolved_by P Q load step place caller key (x ∷ xs) f g h =
    let p = belongs_to caller key in
    elim (waits_for load x) as (λ b. waits_for load x ≡ b → IsSomeAnd (find p (cond b (with_answer place step x ∷ answered_from load step (place + 1) xs) (x ∷ answered_from load step place xs))) Q) [
      | true ↦ λ e. elim (p x) as (λ b. IsSomeAnd (cond b (Some x) (find p xs)) P → IsSomeAnd (cond b (Some (with_answer place step x)) (find p (answered_from load step (place + 1) xs))) Q) [
        | true ↦ λ h. f place x e h
        | false ↦ λ h. resolved_by P Q load step (place + 1) caller key xs f g h
      ] h
      | false ↦ λ e. elim (p x) as (λ b. IsSomeAnd (cond b (Some x) (find p xs)) P → IsSomeAnd (cond b (Some x) (find p (answered_from load step place xs))) Q) [
        | true ↦ λ h. g x e h
        | false ↦ λ h. resolved_by P Q load step place caller key xs f g h
      ] h
    ] refl

-- or told to retry
dissolved_by : (P Q : Joiner → Type 0) (load : ℕ) (caller : Caller) (key : Bytes) (js : List Joiner) → ((x : Joiner) → waits_for load x ≡ true → P x → Q (record x { state = Again }))
    → ((x : Joiner) → waits_for load x ≡ false → P x → Q x) → IsSomeAnd (joiner_of caller key js) P → IsSomeAnd (joiner_of caller key (after_dissolve load js)) Q
dissolved_by P Q load caller key [] f g h = h
dissolved_by P Q load caller key (x ∷ xs) f g h =
    let p = belongs_to caller key in
    elim (waits_for load x) as (λ b. waits_for load x ≡ b → IsSomeAnd (find p (cond b (record x { state = Again }) x ∷ after_dissolve load xs)) Q) [
      | true ↦ λ e. elim (p x) as (λ b. IsSomeAnd (cond b (Some x) (find p xs)) P → IsSomeAnd (cond b (Some (record x { state = Again })) (find p (after_dissolve load xs))) Q) [
        | true ↦ λ h. f x e h
        | false ↦ λ h. dissolved_by P Q load caller key xs f g h
      ] h
      | false ↦ λ e. elim (p x) as (λ b. IsSomeAnd (cond b (Some x) (find p xs)) P → IsSomeAnd (cond b (Some x) (find p (after_dissolve load xs))) Q) [
        | true ↦ λ h. g x e h
        | false ↦ λ h. dissolved_by P Q load caller key xs f g h
      ] h
    ] refl

-- two that are out by other numbers are of other keys
keys_apart : (p r : Reservation) (rs : List Reservation) → find (is_key p.key) rs ≡ Some p → find (is_key r.key) rs ≡ Some r → (r.number == p.number) ≡ false → r.key ≡ p.key → ⊥
keys_apart p r rs over out apart same =
    let e : Some r ≡ Some p = sym out ∙ ap (λ k. find (is_key k) rs) same ∙ over in
    let one : r ≡ p = cc in
    let t : true ≡ false = sym (eq-eqb r.number p.number (ap (λ (x : Reservation). x.number) one)) ∙ apart in
    cc

-- so the other is still out
out_past : (p r : Reservation) (rs : List Reservation) → find (is_key r.key) rs ≡ Some r → (r.key ≡ p.key → ⊥) → find (is_key r.key) (without_key p.key rs) ≡ Some r
out_past p r rs out apart = split r.key p.key (λ b. find (is_key r.key) (without_key p.key rs) ≡ Some r) (λ same. absurd (apart same)) (λ other. found_left r.key p.key rs other ∙ out)

-- the first of two tests fails, if both don't hold and the second does
first_fails : (a b : Bool) → (a && b) ≡ false → b ≡ true → a ≡ false
first_fails true b h t = sym t ∙ h
first_fails false b h t = refl

-- a joiner that didn't wait for the load that is over tells what it told
tells_past : (number : ℕ) (shows more : Shows) (p r : Reservation) (from to : State) (j : Joiner) → IsOut from p → to.reservations ≡ without_key p.key from.reservations → ((r.key ≡ p.key → ⊥) → list_any (ends_load r) more ≡ false)
    → waits_for p.number j ≡ false → TellsOf number shows from r j → TellsOf number (shows ++ more) to r j
tells_past number shows more p r from to j over left none other (load, told) = (
  load,
  tells_on number shows more from to r j.state
      (λ waits out.
      let number_apart : (r.number == p.number) ≡ false = ap (λ n. n == p.number) (sym load) ∙ first_fails (j.load == p.number) (is_waiting j.state) other waits in
      let apart = keys_apart p r from.reservations over out number_apart in
      (ap (find (is_key r.key)) left ∙ out_past p r from.reservations out apart, none apart)) told,
)

-- one that waited for it has joined that load, which was out before
load_over : (number : ℕ) (shows : Shows) (p r : Reservation) (from : State) (j : Joiner) → IsReached from → IsOut from p → waits_for p.number j ≡ true → TellsOf number shows from r j → (p ≡ r) × (list_any (ends_load r) shows ≡ false)
load_over number shows p r from j reached over waits (load, told) =
    let parts = and_parts (j.load == p.number) (is_waiting j.state) waits in
    let out = tells_out number shows from r j.state parts.1 told in
    (same_number (is_key p.key) (is_key r.key) from.reservations p r reached.numbered.numbers over out.0 (sym (eqb-true j.load p.number parts.0) ∙ load), out.1)

-- a load was committed
pub tells_committed : (number call : ℕ) (key : Bytes) (shows : Shows) (join : JoinClaim) (p r : Reservation) (from to : State) (seen : Stepped) (end : Option Over) → IsReached from → IsOut from p → p.caller.call ≡ call → p.key ≡ key → (r.key ≡ key → seen.stripe ≡ number)
    → to.reservations ≡ without_key p.key from.reservations → to.joiners ≡ after_resolve p.number seen.place from.joiners
    → TellsIn number shows join r from → TellsIn number (shows ++ (WorldEvent.Commit call key, step_shown seen end) ∷ []) join r to
tells_committed number call key shows join p r from to seen end reached over call_is key_is stripe_is left joiners h =
    let more : Shows = (WorldEvent.Commit call key, step_shown seen end) ∷ [] in
    let Q : Joiner → Type 0 = TellsOf number (shows ++ more) to r in
    subst (λ js. IsSomeAnd (joiner_of join.caller join.key js) Q) (sym joiners)
    (resolved_by (TellsOf number shows from r) Q p.number seen.place (seen.place + 1) join.caller join.key from.joiners
    (λ place j waits k.
    let one = load_over number shows p r from j reached over waits k in
    let call_of : call ≡ r.caller.call = sym call_is ∙ ap (λ (x : Reservation). x.caller.call) one.0 in
    let key_of : key ≡ r.key = sym key_is ∙ ap (λ (x : Reservation). x.key) one.0 in
    let E : WorldEvent → Type 0 = λ e. IsLoadEnd (shows ++ more) r (length shows) e (Outcome.Stepped seen) in
    (k.0, (length shows, seen, subst E (λ i. WorldEvent.Commit (call_of i) (key_of i)) (end_last shows r (WorldEvent.Commit call key) (step_shown seen end) one.1), stripe_is (sym key_of), refl)))
    (λ j other k. tells_past number shows more p r from to j over left (λ apart. ap (λ b. b || false) (none_of_key r call key (step_shown seen end) (λ same. apart (same ∙ sym key_is)))) other k) h)

-- a load was withdrawn
pub tells_withdrawn : (number call : ℕ) (key : Bytes) (shows : Shows) (join : JoinClaim) (p r : Reservation) (from to : State) (evicted : Option EvictionPlace) → IsReached from → IsOut from p → p.caller.call ≡ call → p.key ≡ key
    → to.reservations ≡ without_key p.key from.reservations → to.joiners ≡ after_dissolve p.number from.joiners
    → TellsIn number shows join r from → TellsIn number (shows ++ (WorldEvent.Withdraw call key, not_over (Outcome.Withdrawn evicted)) ∷ []) join r to
tells_withdrawn number call key shows join p r from to evicted reached over call_is key_is left joiners h =
    let more : Shows = (WorldEvent.Withdraw call key, not_over (Outcome.Withdrawn evicted)) ∷ [] in
    let Q : Joiner → Type 0 = TellsOf number (shows ++ more) to r in
    subst (λ js. IsSomeAnd (joiner_of join.caller join.key js) Q) (sym joiners)
    (dissolved_by (TellsOf number shows from r) Q p.number join.caller join.key from.joiners
    (λ j waits k.
    let one = load_over number shows p r from j reached over waits k in
    let call_of : call ≡ r.caller.call = sym call_is ∙ ap (λ (x : Reservation). x.caller.call) one.0 in
    let key_of : key ≡ r.key = sym key_is ∙ ap (λ (x : Reservation). x.key) one.0 in
    let E : WorldEvent → Type 0 = λ e. IsLoadEnd (shows ++ more) r (length shows) e (Outcome.Withdrawn evicted) in
    (k.0, (length shows, evicted, subst E (λ i. WorldEvent.Withdraw (call_of i) (key_of i)) (end_last shows r (WorldEvent.Withdraw call key) (not_over (Outcome.Withdrawn evicted)) one.1))))
    (λ j other k. tells_past number shows more p r from to j over left (λ apart. ap (λ b. b || false) (none_of_key r call key (not_over (Outcome.Withdrawn evicted)) (λ same. apart (same ∙ sym key_is)))) other k) h)
