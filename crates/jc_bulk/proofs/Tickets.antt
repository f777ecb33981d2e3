-- The tickets of a round, as they ask in one call, and what is answered.
--     asked_ticket     a ticket that has asked
--     asks_of          what these tickets ask for
--     next_ticket      the next ticket is as it was
--     tickets_next, asks_next    once it has asked
--     new_next         its key is that of none before it
--     whole_tickets    once all have asked
--     writes_rest, loads_rest    of a call of the writer nothing is left, of a call of the loader its memory
--     answered_loads, answered_writes    what the loader or the writer has answered
use Rattle.jc_bulk.proofs.Common.{changes_of, Batch, Answered, BulkBehavior, IsAskedOf, IsRest, fits_first, write_kind, wanted_changes, OutsideKind, Load, Session, is_among, Bytes, Change, IsToBeAnswered, done_room, asked_key, reserved_keys, AreSpent, LoadCallAsked, WriteCallAsked, WritesBatch, asked_keys, is_delete, wanted, LoadAll, Round, WriteAll, WriteRound, writer_failure, keys_asked, reserved_by, RoundAnswers, Loads, Writes, SpentLoads, Claim, TicketClaim, asks_loader, asks_writer, change_asked, claim_of, First, Nobody, Loader, Writer, Processor, Reservation, Refusal, ◌≡◌, ◌==◌, ◌||◌, ◌<◌, ◌≤◌, ◌+◌, ◌++◌, ℕ, zero, suc, List, [], ◌∷◌, length, map, set, take, drop, get_or, slice_get, Bool, true, false, Option, None, Some, option_map, Result, refl, sym, ap, ◌∙◌, subst, arith, map-append, take_all, take_more, pointwise, Vec, AllByRecursion, IsDistinct}
use Rattle.std.proofs.lemmas.Cmp.{nat_list_eq_equiv}
use Rattle.jc_model.specs.declared.event.WriteAnswer.{WriteAnswer}
use Rattle.jc_batch.proofs.CallerLemmas.{not_before}
use Rattle.jc_outside.specs.CallingAll.{LoadsAllOnce, WritesAllOnce, loads_done, writes_done}
use Rattle.jc_outside.specs.Done.{LoadResult, WriteResult}
use Rattle.jc_session.specs.Boxed.{boxed}
use Rattle.jc_bulk.proofs.Filling.{firsts}

-- 1. Lists.

next_item : {A : Type 0} (f : A → A) (xs : List A) (i : ℕ) (d : A) → get_or (map f (take i xs) ++ drop i xs) i d ≡ get_or xs i d
next_item f [] zero d = refl
next_item f [] (suc i) d = refl
next_item f (x ∷ xs) zero d = refl
next_item f (x ∷ xs) (suc i) d = next_item f xs i d

set_next : {A : Type 0} (f : A → A) (xs : List A) (i : ℕ) (d : A) → i < length xs → set (map f (take i xs) ++ drop i xs) i (f (get_or xs i d)) ≡ map f (take (suc i) xs) ++ drop (suc i) xs
set_next f [] i d near = absurd (omega (arith, near))
set_next f (x ∷ xs) zero d near = refl
set_next f (x ∷ xs) (suc i) d near = ap (λ ys. f x ∷ ys) (set_next f xs i d (omega (arith, near)))

whole_items : {A : Type 0} (f : A → A) (xs : List A) (i : ℕ) → length xs ≤ i → map f (take i xs) ++ drop i xs ≡ map f xs
whole_items f [] zero all = refl
whole_items f [] (suc i) all = refl
whole_items f (x ∷ xs) zero all = absurd (omega (arith, all))
whole_items f (x ∷ xs) (suc i) all = ap (λ ys. f x ∷ ys) (whole_items f xs i (omega (arith, all)))

-- 2. Tickets.

abbrev pub asked_ticket : TicketClaim → TicketClaim
asked_ticket ticket = record ticket { asked = true }

abbrev pub ask_of : TicketClaim → Claim
ask_of ticket = claim_of ticket.reservation

abbrev pub asks_of : List TicketClaim → List Claim
asks_of tickets = map ask_of tickets

pub next_ticket : (ts : List TicketClaim) (i : ℕ) (d : TicketClaim) → get_or (map asked_ticket (take i ts) ++ drop i ts) i d ≡ get_or ts i d
next_ticket ts i d = next_item asked_ticket ts i d

pub tickets_next : (ts : List TicketClaim) (i : ℕ) (d : TicketClaim) → i < length ts → set (map asked_ticket (take i ts) ++ drop i ts) i (asked_ticket (get_or ts i d)) ≡ map asked_ticket (take (i + 1) ts) ++ drop (i + 1) ts
tickets_next ts i d near =
    let next : suc i ≡ i + 1 = omega arith in
    set_next asked_ticket ts i d near ∙ ap (λ n. map asked_ticket (take n ts) ++ drop n ts) next

pub asks_next : (ts : List TicketClaim) (i : ℕ) (d : TicketClaim) → i < length ts → asks_of (take i ts) ++ ask_of (get_or ts i d) ∷ [] ≡ asks_of (take (i + 1) ts)
asks_next ts i d near = sym (ap asks_of (take_more ts i d near) ∙ map-append ask_of (take i ts) (get_or ts i d ∷ []))

keys_before : (ts : List TicketClaim) (i : ℕ) → asked_keys (asks_of (take i ts)) ≡ take i (reserved_keys (map reserved_by ts))
keys_before [] zero = refl
keys_before [] (suc i) = refl
keys_before (t ∷ ts) zero = refl
keys_before (t ∷ ts) (suc i) = ap (λ ks. t.reservation.key ∷ ks) (keys_before ts i)

ticket_key : (ts : List TicketClaim) (i : ℕ) (d : TicketClaim) → i < length ts → slice_get (reserved_keys (map reserved_by ts)) i ≡ Some (get_or ts i d).reservation.key
ticket_key [] i d near = absurd (omega (arith, near))
ticket_key (t ∷ ts) zero d near = refl
ticket_key (t ∷ ts) (suc i) d near = ticket_key ts i d (omega (arith, near))

pub new_next : (ts : List TicketClaim) (i : ℕ) (d : TicketClaim) → i < length ts → IsDistinct (pointwise ◌==◌) (reserved_keys (map reserved_by ts)) → is_among (asked_keys (asks_of (take i ts))) (get_or ts i d).reservation.key ≡ false
new_next ts i d near distinct =
    let key = (get_or ts i d).reservation.key in
    ap (λ ks. is_among ks key) (keys_before ts i) ∙ not_before (reserved_keys (map reserved_by ts)) i key distinct (ticket_key ts i d near)

same_calls : (ts : List TicketClaim) → map reserved_by (map asked_ticket ts) ≡ map reserved_by ts
same_calls [] = refl
same_calls (t ∷ ts) = ap (λ rs. t.reservation ∷ rs) (same_calls ts)

pub whole_tickets : (ts : List TicketClaim) (i : ℕ) (now : List TicketClaim) → length ts ≤ i → now ≡ map asked_ticket (take i ts) ++ drop i ts → map reserved_by now ≡ map reserved_by ts
whole_tickets ts i now all is = ap (map reserved_by) (is ∙ whole_items asked_ticket ts i all) ∙ same_calls ts

pub whole_asks : (ts : List TicketClaim) (i : ℕ) (asks : List Claim) → length ts ≤ i → asks ≡ asks_of (take i ts) → asks ≡ asks_of ts
whole_asks ts i asks all is = is ∙ ap asks_of (take_all i ts all)

-- 3. Answers.

asks_keys : (ts : List TicketClaim) → asked_keys (asks_of ts) ≡ reserved_keys (map reserved_by ts)
asks_keys [] = refl
asks_keys (t ∷ ts) = ap (λ ks. t.reservation.key ∷ ks) (asks_keys ts)

claims_are : (ts : List TicketClaim) → asks_of ts ≡ map claim_of (map reserved_by ts)
claims_are [] = refl
claims_are (t ∷ ts) = ap (λ cs. claim_of t.reservation ∷ cs) (claims_are ts)

wanted_are : (ts : List TicketClaim) → wanted (asks_of ts) ≡ wanted_changes (map reserved_by ts)
wanted_are [] = refl
wanted_are (t ∷ ts) = ap (λ cs. (t.reservation.key, change_asked t.reservation.first) ∷ cs) (wanted_are ts)

or_true : (b : Bool) → (b || true) ≡ true
or_true true = refl
or_true false = refl

to_be : (asks : First → Bool) (round : Round) (keys : List Bytes) (ts : List TicketClaim) → AllByRecursion (λ (t : TicketClaim). asks t.reservation.first ≡ true) ts
    → keys_asked round ≡ keys → ((key : Bytes) → is_among (reserved_keys (map reserved_by ts)) key ≡ true → is_among keys key ≡ true) → AllByRecursion (IsToBeAnswered asks round) (map reserved_by ts)
to_be asks round keys [] all are among = tt
to_be asks round keys (t ∷ ts) all are among = (
  (all.0, ap (λ ks. is_among ks t.reservation.key) are ∙ among t.reservation.key (ap (λ b. b || is_among (reserved_keys (map reserved_by ts)) t.reservation.key) (nat_list_eq_equiv.refl t.reservation.key))),
  to_be asks round keys ts all.1 are (λ key is. among key (ap (λ b. pointwise ◌==◌ key t.reservation.key || b) is ∙ or_true (pointwise ◌==◌ key t.reservation.key))),
)

writes_first : (deletes : Bool) (first : First) → fits_first (write_kind deletes) first ≡ true → asks_writer first ≡ true
writes_first false Nobody h = cc
writes_first false Loader h = cc
writes_first false (Writer change) h = refl
writes_first false (Processor entry loads) h = cc
writes_first true Nobody h = cc
writes_first true Loader h = cc
writes_first true (Writer change) h = refl
writes_first true (Processor entry loads) h = cc

all_write : (deletes : Bool) (ts : List TicketClaim) → AllByRecursion (λ (t : TicketClaim). fits_first (write_kind deletes) t.reservation.first ≡ true) ts → AllByRecursion (λ (t : TicketClaim). asks_writer t.reservation.first ≡ true) ts
all_write deletes [] all = tt
all_write deletes (t ∷ ts) all = (writes_first deletes t.reservation.first all.0, all_write deletes ts all.1)

-- of a call of the writer nothing is left, of a call of the loader its memory
writes_rest : (kind : OutsideKind) (deletes : Bool) (room : ℕ) (answers : RoundAnswers) → kind ≡ write_kind deletes → IsRest kind room answers None
writes_rest kind false room answers is = subst (λ k. IsRest k room answers None) (sym is) tt
writes_rest kind true room answers is = subst (λ k. IsRest k room answers None) (sym is) tt

pub loads_rest : (kind : OutsideKind) (room n : ℕ) (answers : RoundAnswers) (rest : SpentLoads) → kind ≡ Load → n ≡ room → AreSpent rest → (rest.batch.room ≡ n) × (n ≤ done_room answers) → IsRest kind room answers (Some rest)
loads_rest kind room n answers rest is same spent left = subst (λ k. IsRest k room answers (Some rest)) (sym is) (spent, left.0 ∙ same, subst (λ m. m ≤ done_room answers) same left.1)

module _ {I J : Type 0} {D : I → Type 0} {E : J → Type 0} (behavior : BulkBehavior ((i : I) × D i) ((j : J) × E j)) where
  pub answered_loads : (old new : Session I J D E) (kind : OutsideKind) (room : ℕ) (ts : List TicketClaim) (asks : List Claim) (done : Vec (LoadResult Claim)) (rest : SpentLoads) → kind ≡ Load → asks ≡ asks_of ts
      → AllByRecursion (λ (t : TicketClaim). fits_first kind t.reservation.first ≡ true) ts → LoadCallAsked behavior.loads_all behavior.load_state old asks done.items new
      → IsRest kind room (Loads done) (Some rest) → Answered behavior old kind room ts (Loads done) None (Some rest) new
  answered_loads old new kind room ts asks done rest is are all a left =
      let calls = map reserved_by ts in
      let keys : asked_keys asks ≡ reserved_keys calls = ap asked_keys are ∙ asks_keys ts in
      subst (λ k. Answered behavior old k room ts (Loads done) None (Some rest) new) (sym is) (record {
        round = LoadAll (record { keys = reserved_keys calls; said = a.said });
        asked = refl;
        fault_is = refl;
        calls = (subst (λ ks. LoadsAllOnce (boxed behavior.loads_all) (boxed behavior.load_state) old.agent.hands.outside.loader ks a.said new.agent.hands.outside.loader) keys a.loads, a.writer);
        answered = λ config. (
          a.done_are ∙ ap (loads_done asked_key a.said) (are ∙ claims_are ts),
          to_be asks_loader (LoadAll (record { keys = reserved_keys calls; said = a.said })) (reserved_keys calls) ts (subst (λ k. AllByRecursion (λ (t : TicketClaim). fits_first k t.reservation.first ≡ true) ts) is all) refl (λ key among. among),
        );
        rest_is = subst (λ k. IsRest k room (Loads done) (Some rest)) is left;
        types = (a.loader_type, ap (λ w. option_map (λ b. b.vtable) w) a.writer);
      })

  batch_of : (deletes : Bool) (ts : List TicketClaim) (old new : Session I J D E) (returned : Result (Unit {0}) ℕ) (said : Bytes → WriteAnswer) → (ts ≡ [] → ⊥)
      → WritesBatch (boxed behavior.writes_all) (boxed behavior.deletes_all) (boxed behavior.write_state) deletes (wanted (asks_of ts)) old.agent.hands.outside.writer returned said new.agent.hands.outside.writer
      → (batch : Batch) × (is_delete batch ≡ deletes) × (changes_of batch ≡ wanted_changes (map reserved_by ts)) × WritesAllOnce (boxed behavior.writes_all) (boxed behavior.deletes_all) (boxed behavior.write_state) old.agent.hands.outside.writer batch returned said new.agent.hands.outside.writer
  batch_of deletes [] old new returned said some writes = absurd (some refl)
  batch_of deletes (t ∷ ts) old new returned said some writes = (writes.0, writes.1, writes.2 ∙ wanted_are (t ∷ ts), writes.3)

  asked_of : (deletes : Bool) (calls : List Reservation) (r : WriteRound) → is_delete r.batch ≡ deletes → changes_of r.batch ≡ wanted_changes calls → IsAskedOf (write_kind deletes) calls (WriteAll r)
  asked_of false calls r kind are = (kind, are)
  asked_of true calls r kind are = (kind, are)

  pub answered_writes : (old new : Session I J D E) (deletes : Bool) (kind : OutsideKind) (room : ℕ) (ts : List TicketClaim) (asks : List Claim) (returned : Result (Unit {0}) ℕ) (done : Vec (WriteResult Claim)) (fault : Option Refusal) → kind ≡ write_kind deletes
      → asks ≡ asks_of ts → (ts ≡ [] → ⊥) → AllByRecursion (λ (t : TicketClaim). fits_first kind t.reservation.first ≡ true) ts → fault ≡ writer_failure returned → WriteCallAsked behavior.writes_all behavior.deletes_all behavior.write_state old deletes asks returned done.items new
      → Answered behavior old kind room ts (Writes done) fault None new
  answered_writes old new deletes kind room ts asks returned done fault is are some all fault_is a =
      let calls = map reserved_by ts in
      let b = batch_of deletes ts old new returned a.said some
      (subst (λ xs. WritesBatch (boxed behavior.writes_all) (boxed behavior.deletes_all) (boxed behavior.write_state) deletes (wanted xs) old.agent.hands.outside.writer returned a.said new.agent.hands.outside.writer) are a.writes) in
      let r : WriteRound = record { batch = b.0; returned = returned; said = a.said } in
      subst (λ k. Answered behavior old k room ts (Writes done) fault None new) (sym is) (record {
        round = WriteAll r;
        asked = asked_of deletes calls r b.1 b.2;
        fault_is = fault_is;
        calls = (b.3, a.loader);
        answered = λ config. (
          a.done_are ∙ ap (writes_done asked_key a.said) (are ∙ claims_are ts),
          to_be asks_writer (WriteAll r) (reserved_keys calls) ts (all_write deletes ts (subst (λ k. AllByRecursion (λ (t : TicketClaim). fits_first k t.reservation.first ≡ true) ts) is all))
              (ap (map (λ (c : Bytes × Option Change). c.0)) b.2 ∙ firsts calls) (λ key among. among),
        );
        rest_is = writes_rest (write_kind deletes) deletes room (Writes done) refl;
        types = (ap (λ l. option_map (λ b. b.vtable) l) a.loader, a.writer_type);
      })
