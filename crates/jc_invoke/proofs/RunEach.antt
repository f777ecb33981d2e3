-- Runs of a processor at the tickets of a round, in their order.
--     RoomLeft        there is room for the tickets from this place on
--     keeps_itself, keeps_both    the room is kept
--     room_of         the room of the next round
--     takes_same      the first tickets stand for the same reservations
--     split_at        the tickets before a place, the one there and those after it
--     reserved_set    a ticket was used: the reservations are the same
--     many_same       as many tickets stand for the same reservations
--     run_next, left_next    one ticket more
--     run_as          a run, under whichever names of its ticket and of its arguments
--     may_take        there is room for the next run, and its key is new
--     begins          before the first run
use Rattle.jc_invoke.proofs.Common.{HasRunEach, IsTicketRun, KeepsRunsRoom, TakesKey, IsRoundRoomFor, IsNextRoom, RunBehavior, in_boxes, Batches, RoundRoom, is_among, Bytes, RunState, claims_after, done_of, done_room, reservations_of, reserved_keys, WriteCallState, asked_keys, no_writes, reserved_by, RoundAnswers, Agent, TicketClaim, ◌≡◌, ◌≤◌, ◌<◌, ◌+◌, ◌++◌, ℕ, zero, suc, List, [], ◌∷◌, length, map, set, take, drop, get_or, Bool, false, true, Option, Some, vec_capacity, refl, sym, ap, subst, ◌∙◌, arith, drop_more, length-append, map-append, take-append-drop, take-map, take_more, pointwise, IsDistinct, DynBox, ◌==◌}
use Rattle.jc_invoke.proofs.Runs.{claims_push, new_claim, runs_push}

pub record RoomLeft (through : Bool) (all place : ℕ) (room : RoundRoom) : Type 0 where
  pub through_is : room.through ≡ through
  pub runs : length room.runs.items + all ≤ vec_capacity room.runs + place
  pub writes : all ≤ room.writes.room + place
  pub deletes : all ≤ room.deletes.room + place

-- 1. Room.

pub keeps_itself : (room : RoundRoom) → KeepsRunsRoom room room
keeps_itself room = record { through_is = refl; runs_room = refl; quiet = λ off. (refl, refl) }

pub keeps_both : (a b c : RoundRoom) → KeepsRunsRoom a b → KeepsRunsRoom b c → KeepsRunsRoom a c
keeps_both a b c one two = record {
  through_is = two.through_is ∙ one.through_is;
  runs_room = two.runs_room ∙ one.runs_room;
  quiet = λ off. let first = one.quiet off in let second = two.quiet (one.through_is ∙ off) in (second.0 ∙ first.0, second.1 ∙ first.1);
}

pub room_of : (rest : Option Batches) (batches : Batches) (answers : RoundAnswers) (room : RoundRoom) → rest ≡ Some batches
    → ((keys : ℕ) → keys ≤ done_room answers → batches.writes ≡ no_writes false keys → batches.deletes ≡ no_writes true keys → IsRoundRoomFor keys false room) → IsNextRoom rest answers (Some room)
room_of rest batches answers room is next = subst (λ r. IsNextRoom r answers (Some room)) (sym is) next

-- 2. Tickets.

pub takes_same : (xs ys : List TicketClaim) (i : ℕ) → map reserved_by ys ≡ map reserved_by xs → map reserved_by (take i xs) ≡ map reserved_by (take i ys)
takes_same xs ys i same = sym (take-map reserved_by i xs) ∙ ap (take i) (sym same) ∙ take-map reserved_by i ys

pub split_at : (xs ys : List TicketClaim) (i : ℕ) (d : TicketClaim) → map reserved_by ys ≡ map reserved_by xs → i < length ys
    → map reserved_by (take i xs) ++ (get_or ys i d).reservation ∷ map reserved_by (drop (i + 1) ys) ≡ map reserved_by xs
split_at xs ys i d same near =
    ap (λ rs. rs ++ (get_or ys i d).reservation ∷ map reserved_by (drop (i + 1) ys)) (takes_same xs ys i same)
    ∙ sym (map-append reserved_by (take i ys) (get_or ys i d ∷ drop (i + 1) ys))
    ∙ ap (λ zs. map reserved_by (take i ys ++ zs)) (sym (drop_more ys i d near))
    ∙ ap (map reserved_by) (take-append-drop i ys) ∙ same

pub reserved_set : (xs : List TicketClaim) (i : ℕ) (t d : TicketClaim) → t.reservation ≡ (get_or xs i d).reservation → map reserved_by (set xs i t) ≡ map reserved_by xs
reserved_set [] i t d same = refl
reserved_set (x ∷ xs) zero t d same = ap (λ r. r ∷ map reserved_by xs) same
reserved_set (x ∷ xs) (suc i) t d same = ap (λ rs. x.reservation ∷ rs) (reserved_set xs i t d same)

pub many_same : (xs ys : List TicketClaim) → map reserved_by ys ≡ map reserved_by xs → length ys ≡ length xs
many_same xs ys same = sym (as_many ys) ∙ ap length same ∙ as_many xs
  where
    as_many : (zs : List TicketClaim) → length (map reserved_by zs) ≡ length zs
    as_many [] = refl
    as_many (z ∷ zs) = ap suc (as_many zs)

-- 3. The next run.

module _ {I J P Z : Type 0} {D : I → Type 0} {E : J → Type 0} {F : P → Type 0}
    (behavior : RunBehavior ((i : I) × D i) ((j : J) × E j) (DynBox P Z F)) (args : List Bytes) (through : Bool)
    (first old new : Agent I J D E) (processor p q : DynBox P Z F) (tickets now : List TicketClaim) (place : ℕ) (d ticket : TicketClaim) (room room' : RoundRoom) where
  pub run_next : map reserved_by now ≡ map reserved_by tickets → place < length now → room.through ≡ through
      → HasRunEach behavior args through first (take place tickets) processor old room p
      → IsTicketRun behavior args old (get_or now place d) room p new ticket room' q
      → HasRunEach behavior args through first (take (place + 1) tickets) processor new room' q
  run_next same near writes_through has one = record {
    runs = has.runs ++ one.run ∷ [];
    calls_are = map-append (λ (r : RunState). r.reservation) has.runs (one.run ∷ [])
        ∙ (λ i. (has.calls_are ∙ takes_same tickets now place same) i ++ one.reservation i ∷ [])
        ∙ sym (map-append reserved_by (take place now) (get_or now place d ∷ []))
        ∙ ap (map reserved_by) (sym (take_more now place d near)) ∙ sym (takes_same tickets now (place + 1) same);
    each = runs_push (in_boxes behavior) args has.runs (has.runs ++ one.run ∷ []) one.run processor p q first.hands.outside.loader old.hands.outside.loader new.hands.outside.loader refl has.each one.one;
    done_are = one.done_is ∙ ap (λ ds. ds ++ done_of one.run ∷ []) has.done_are ∙ sym (map-append done_of has.runs (one.run ∷ []));
    writes_are = claims_push through false has.runs (has.runs ++ one.run ∷ []) one.run room.writes.items room'.writes.items refl has.writes_are (one.noted.writes_are ∙ ap (λ t. room.writes.items ++ claims_after t false (one.run ∷ [])) writes_through);
    deletes_are = claims_push through true has.runs (has.runs ++ one.run ∷ []) one.run room.deletes.items room'.deletes.items refl has.deletes_are (one.noted.deletes_are ∙ ap (λ t. room.deletes.items ++ claims_after t true (one.run ∷ [])) writes_through);
    writes_kind = one.noted.writes_kind ∙ has.writes_kind;
    deletes_kind = one.noted.deletes_kind ∙ has.deletes_kind;
    loader_type = one.loader_type ∙ has.loader_type;
    writer = one.writer ∙ has.writer;
    processor_type = one.processor_type ∙ has.processor_type;
  }

  pub left_next : (all : ℕ) → RoomLeft through all place room → IsTicketRun behavior args old (get_or now place d) room p new ticket room' q → RoomLeft through all (place + 1) room'
  left_next all left one = record {
    through_is = one.noted.through_is ∙ left.through_is;
    runs = let n = ap length one.done_is ∙ length-append room.runs.items (done_of one.run ∷ []) in omega (arith, n, one.noted.runs_room, left.runs);
    writes = omega (arith, one.noted.writes_room, left.writes);
    deletes = omega (arith, one.noted.deletes_room, left.deletes);
  }

  pub may_take : map reserved_by now ≡ map reserved_by tickets → place < length now → IsDistinct (pointwise ◌==◌) (reserved_keys (map reserved_by tickets)) → RoomLeft through (length tickets) place room
      → HasRunEach behavior args through first (take place tickets) processor old room p → TakesKey room (get_or now place d).reservation.key
  may_take same near distinct left has =
      let r = (get_or now place d).reservation in
      let rest = map reserved_by (drop (place + 1) now) in
      let many = many_same tickets now same in
      let apart : IsDistinct (pointwise ◌==◌) (reserved_keys (reservations_of has.runs ++ r ∷ rest)) =
      subst (λ rs. IsDistinct (pointwise ◌==◌) (reserved_keys rs)) (sym (ap (λ rs. rs ++ r ∷ rest) has.calls_are ∙ split_at tickets now place d same near)) distinct in
      record {
        writes_kind = has.writes_kind;
        deletes_kind = has.deletes_kind;
        runs_room = omega (arith, many, near, left.runs);
        writes_room = omega (arith, many, near, left.writes);
        deletes_room = omega (arith, many, near, left.deletes);
        writes_new = ap (λ xs. is_among (asked_keys xs) r.key) has.writes_are ∙ new_claim through false has.runs r rest apart;
        deletes_new = ap (λ xs. is_among (asked_keys xs) r.key) has.deletes_are ∙ new_claim through true has.runs r rest apart;
      }

-- a run of a ticket, under whichever names
pub run_as : {I J P Z : Type 0} {D : I → Type 0} {E : J → Type 0} {F : P → Type 0} (behavior : RunBehavior ((i : I) × D i) ((j : J) × E j) (DynBox P Z F)) (args given : List Bytes)
    (old new : Agent I J D E) (processor p : DynBox P Z F) (t same ticket : TicketClaim) (room room' : RoundRoom) → given ≡ args → t ≡ same
    → IsTicketRun behavior given old t room processor new ticket room' p → IsTicketRun behavior args old same room processor new ticket room' p
run_as behavior args given old new processor p t same ticket room room' given_is is run =
    subst (λ x. IsTicketRun behavior args old x room processor new ticket room' p) is (subst (λ xs. IsTicketRun behavior xs old t room processor new ticket room' p) given_is run)

-- before the first run
pub begins : {I J P Z : Type 0} {D : I → Type 0} {E : J → Type 0} {F : P → Type 0}
    (behavior : RunBehavior ((i : I) × D i) ((j : J) × E j) (DynBox P Z F)) (args : List Bytes)
    (most : ℕ) (through : Bool) (first : Agent I J D E) (processor : DynBox P Z F) (tickets : List TicketClaim) (room : RoundRoom) → length tickets ≤ most → IsRoundRoomFor most through room
    → RoomLeft room.through (length tickets) 0 room × HasRunEach behavior args room.through first [] processor first room processor
begins behavior args most through first processor tickets room few is =
    let writes = ap (λ (w : WriteCallState). w.room) is.writes_are in
    let deletes = ap (λ (w : WriteCallState). w.room) is.deletes_are in
    let none = ap length is.no_runs in (
      record { through_is = refl; runs = omega (arith, none, few, is.runs_room); writes = omega (arith, writes, few); deletes = omega (arith, deletes, few) },
      record {
        runs = [];
        calls_are = refl;
        each = (refl, refl);
        done_are = is.no_runs;
        writes_are = ap (λ (w : WriteCallState). w.items) is.writes_are;
        deletes_are = ap (λ (w : WriteCallState). w.items) is.deletes_are;
        writes_kind = ap (λ (w : WriteCallState). w.deletes) is.writes_are;
        deletes_kind = ap (λ (w : WriteCallState). w.deletes) is.deletes_are;
        loader_type = refl;
        writer = refl;
        processor_type = refl;
      },
    )
