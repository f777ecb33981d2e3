-- One seat of a session changes in a call.
--     OwnAfter          a call that has made its step has one own step more, which is of it, and is not the last call; else none
--     after_call, after_try    that is so of a whole call, and of a call that waits for nobody
--     may_after         a session that may call a cache, after its next call
--     set_get, set_locks, set_total    one seat of a row is replaced: the seats, their locks, and how many own steps there are
--     one_longer, capped_more          one own step more, and its count
--     seat_stays        a seat of a session stays one
use Rattle.jc_cache.proofs.Common.{DynBox, ◌≡◌, ◌⊎◌, ⊎_elim, inl, inr, ◌+◌, ℕ, zero, suc, true, false, if◌then◌else◌, nat_lt, Option, None, Some, IsSome, Result, Ok, Err, List, [], ◌∷◌, length, map, set, slice_get, slice_set, refl, sym, ap, subst, ◌∙◌, arith, length-append, and_parts, true≢false, nat_tests, same_Some, list_all, TableId, Caller, Config, Refusal, Bytes, Event, Step, Op, Get, Out, Reply, KeepsType, HasOneMore, OwnNumbers, is_before_call, View, one_more, Agent, CacheState, next_call, IsSameSeat, SeatAfter, SeatTried, IsSeatAt, MayCall, own_total, capped, Session}
use Rattle.jc_model.specs.declared.event.Reply.TheVariants.{Flag}
use Rattle.jc_model.specs.Group.{nothing_said}
use Rattle.jc_stripe.specs.Refusals.{last_number}
use Rattle.jc_engine.specs.Asking.{KeepsTypes, own_after}
use Rattle.jc_cache.proofs.CallEnds.{IsBelow}

-- 1. What a call leaves of its own steps.

abbrev pub OwnAfter : Caller → View → Result Reply Refusal → View → Type 0
OwnAfter caller before (Ok reply) after =
    (nat_lt caller.call last_number ≡ true) × (key : Bytes) × (op : Op) × (out : Out) × (shared_with : Option ℕ) × HasOneMore (Step caller op key out shared_with reply) before.own after.own
OwnAfter caller before (Err refusal) after = after.own ≡ before.own

pub after_call : (before : View) (caller : Caller) (key : Bytes) (op : Op) (asked : Out) (ended : Result Reply Refusal) (after : View) → SeatAfter before caller key op asked ended after → IsBelow caller ended
    → IsSameSeat before after × OwnAfter caller before ended after
after_call before caller key op asked (Ok reply) after x below = (x.made.seat, (below, key, op, x.out, x.shared_with, x.made.own))
after_call before caller key op asked (Err refusal) after x below = (x.0.seat, x.0.own)

pub after_try : (before : View) (caller : Caller) (key : Bytes) (op : Op) (ended : Result Reply Refusal) (after : View) → SeatTried before caller key op ended after → IsBelow caller ended
    → IsSameSeat before after × OwnAfter caller before ended after
after_try before caller key op (Ok reply) after x below = (x.0.made.seat, (below, key, op, x.0.out, x.0.shared_with, x.0.made.own))
after_try before caller key op (Err refusal) after x below = (x.0.seat, x.0.own)

-- 2. One seat in a row of them.

abbrev Seated : Type 0
Seated = TableId × View

pub set_get : (xs : List Seated) (i j : ℕ) (x y z : Seated) → slice_get xs i ≡ Some x → slice_get (set xs i y) j ≡ Some z → ((j ≡ i) × (z ≡ y)) ⊎ (slice_get xs j ≡ Some z)
set_get [] i j x y z at h = cc
set_get (w ∷ xs) zero zero x y z at h = inl (refl, sym (same_Some y z h))
set_get (w ∷ xs) zero (suc j) x y z at h = inr h
set_get (w ∷ xs) (suc i) zero x y z at h = inr h
set_get (w ∷ xs) (suc i) (suc j) x y z at h = ⊎_elim (λ t. inl (ap suc t.0, t.1)) (λ t. inr t) (set_get xs i j x y z at h)

pub set_locks : (xs : List Seated) (i : ℕ) (x y : Seated) → slice_get xs i ≡ Some x → y.0 ≡ x.0 → map (λ (s : Seated). s.0) (set xs i y) ≡ map (λ (s : Seated). s.0) xs
set_locks [] i x y at same = refl
set_locks (w ∷ xs) zero x y at same = ap (λ (l : TableId). l ∷ map (λ (s : Seated). s.0) xs) (same ∙ ap (λ (s : Seated). s.0) (sym (same_Some w x at)))
set_locks (w ∷ xs) (suc i) x y at same = ap (λ (ls : List TableId). w.0 ∷ ls) (set_locks xs i x y at same)

pub set_total : (n : ℕ) (xs : List Seated) (i : ℕ) (x y : Seated) → slice_get xs i ≡ Some x → length y.1.own ≡ length x.1.own + n → own_total (set xs i y) ≡ own_total xs + n
set_total n [] i x y at more = cc
set_total n (w ∷ xs) zero x y at more = let is = ap (λ (s : Seated). length s.1.own) (same_Some w x at) in omega arith
set_total n (w ∷ xs) (suc i) x y at more = let rest = set_total n xs i x y at more in omega arith

pub one_longer : (event : Event) (old new : List Event) → HasOneMore event old new → length new ≡ length old + 1
one_longer event old new more =
    let was = ap length more.was ∙ length-append more.before more.after in
    let is = ap length more.is ∙ length-append more.before (event ∷ more.after) in
    omega arith

pub capped_more : (n : ℕ) → capped (n + 1) ≡ one_more (capped n)
capped_more n = grind (arith, nat_tests)

-- 3. The numbers of the own steps.

abbrev AreBefore : Caller → ℕ → List Event → Type 0
AreBefore caller call own = list_all (is_before_call caller.session call) own ≡ true

-- any step of the call, to be one more
abbrev some_step : Caller → Event
some_step caller = Step caller Get [] nothing_said None (Flag true)

to_next : (caller : Caller) (P : ℕ → Type 0) → (nat_lt caller.call last_number ≡ true → P (caller.call + 1)) → (nat_lt caller.call last_number ≡ false → P caller.call) → P (one_more caller.call)
to_next caller P below last =
    elim (nat_lt caller.call last_number) as (λ b. nat_lt caller.call last_number ≡ b → P (if b then caller.call + 1 else caller.call)) [ true ↦ below | false ↦ last ] refl

numbers_stay : OwnNumbers → (caller : Caller) (own : List Event) → AreBefore caller caller.call own → AreBefore caller (one_more caller.call) own
numbers_stay law caller own before =
    to_next caller (λ n. AreBefore caller n own)
    (λ below. (and_parts (is_before_call caller.session (caller.call + 1) (some_step caller)) (list_all (is_before_call caller.session (caller.call + 1)) own)
    (law.next own (some_step caller ∷ own) caller Get [] nothing_said None (Flag true) record { before = []; after = own; was = refl; is = refl } before)).1)
    (λ last. before)

numbers_next : OwnNumbers → (caller : Caller) (before after : View) (ended : Result Reply Refusal) → OwnAfter caller before ended after → AreBefore caller caller.call before.own → AreBefore caller (one_more caller.call) after.own
numbers_next law caller before after (Ok reply) own are =
    to_next caller (λ n. AreBefore caller n after.own)
    (λ below. law.next before.own after.own caller own.2 own.1 own.3 own.4 reply own.5 are)
    (λ last. absurd (true≢false (sym own.0 ∙ last)))
numbers_next law caller before after (Err refusal) own are = subst (λ (es : List Event). AreBefore caller (one_more caller.call) es) (sym own) (numbers_stay law caller before.own are)

-- 4. The count of the own steps.

count_after : (caller : Caller) (before after : View) (ended : Result Reply Refusal) (xs : List Seated) (i : ℕ) (lock : TableId) → slice_get xs i ≡ Some (lock, before) → OwnAfter caller before ended after
    → own_after (capped (own_total xs)) ended ≡ capped (own_total (set xs i (lock, after)))
count_after caller before after (Ok reply) xs i lock at own =
    sym (capped_more (own_total xs)) ∙ ap capped (sym (set_total 1 xs i (lock, before) (lock, after) at (one_longer _ before.own after.own own.5)))
count_after caller before after (Err refusal) xs i lock at own =
    let longer : length after.own ≡ length before.own + 0 = let l = ap length own in omega arith in
    let total : own_total xs ≡ own_total (set xs i (lock, after)) = let e = set_total 0 xs i (lock, before) (lock, after) at longer in omega arith in
    ap capped total

-- 5. The session.

pub keeps_some : {I Z : Type 0} {D : I → Type 0} (old new : Option (DynBox I Z D)) → KeepsType old new → IsSome old → IsSome new
keeps_some None new keeps some = cc
keeps_some (Some b) None keeps some = cc
keeps_some (Some b) (Some c) keeps some = refl

pub seat_stays : (config : Config) (stripe session : ℕ) (before after : View) → IsSeatAt config stripe session before → IsSameSeat before after → IsSeatAt config stripe session after
seat_stays config stripe session before after at same = record {
  of_session = same.session ∙ at.of_session;
  free = same.free;
  unspent = same.spent ∙ at.unspent;
  config_is = same.same.config ∙ at.config_is;
  stripe_is = same.same.stripe ∙ at.stripe_is;
  origin_is = same.same.origin ∙ at.origin_is;
}

module _ {I J : Type 0} {D : I → Type 0} {E : J → Type 0} where
  -- what a call leaves of its agent
  pub record AgentAfter (old : Agent I J D E) (ended : Result Reply Refusal) (new : Agent I J D E) : Type 0 where
    pub left : new ≡ record old { counts = record old.counts { own = own_after old.counts.own ended }; hands = new.hands }
    pub held : new.hands.held ≡ 0
    pub types : KeepsTypes old new

  pub may_after : OwnNumbers → (cache : CacheState) (old new : Session I J D E) (at : ℕ) (lock : TableId) (before after : View) (ended : Result Reply Refusal) → MayCall cache old
      → slice_get old.seats.items at ≡ Some (lock, before) → new.seats.items ≡ slice_set old.seats.items at (lock, after) → IsSameSeat before after → OwnAfter (next_call old).agent.caller before ended after
      → AgentAfter (next_call old).agent ended new.agent → MayCall cache new
  may_after law cache old new at lock before after ended may was now same own left =
      let caller : Caller = (next_call old).agent.caller in
      let is : new.agent.caller ≡ caller = ap (λ (a : Agent I J D E). a.caller) left.left in
      let number : new.agent.caller.session ≡ old.agent.caller.session = ap (λ (c : Caller). c.session) is in
      let counted : new.agent.counts.own ≡ own_after old.agent.counts.own ended = ap (λ (a : Agent I J D E). a.counts.own) left.left in
      record {
        own = record {
          locks = ap (map (λ (s : Seated). s.0)) now ∙ set_locks old.seats.items at (lock, before) (lock, after) was refl ∙ may.own.locks;
          count = may.own.count;
          seats = λ i seat there.
              ⊎_elim
              (λ t. subst (λ (n : ℕ). IsSeatAt cache.config i n seat.1) (sym number) (subst (λ (z : Seated). IsSeatAt cache.config i old.agent.caller.session z.1) (sym t.1)
              (subst (λ (k : ℕ). IsSeatAt cache.config k old.agent.caller.session after) (sym t.0)
              (seat_stays cache.config at old.agent.caller.session before after (may.own.seats at (lock, before) was) same))))
              (λ t. subst (λ (n : ℕ). IsSeatAt cache.config i n seat.1) (sym number) (may.own.seats i seat t))
              (set_get old.seats.items at i (lock, before) (lock, after) seat was (ap (λ (xs : List Seated). slice_get xs i) (sym now) ∙ there));
          held = left.held;
          loads = λ on. keeps_some old.agent.hands.outside.loader new.agent.hands.outside.loader left.types.0 (may.own.loads on);
          writes = λ on. keeps_some old.agent.hands.outside.writer new.agent.hands.outside.writer left.types.1 (may.own.writes on);
          own = counted ∙ ap (λ (n : ℕ). own_after n ended) may.own.own ∙ count_after caller before after ended old.seats.items at lock was own ∙ ap (λ (xs : List Seated). capped (own_total xs)) (sym now);
        };
        reservations = ap (λ (a : Agent I J D E). a.counts.reservations) left.left ∙ may.reservations;
        joins = ap (λ (a : Agent I J D E). a.counts.joins) left.left ∙ may.joins;
        numbers = λ i seat there.
            subst (λ (c : Caller). list_all (is_before_call c.session (one_more c.call)) seat.1.own ≡ true) (sym is)
            (⊎_elim
            (λ t. subst (λ (z : Seated). AreBefore caller (one_more caller.call) z.1.own) (sym t.1) (numbers_next law caller before after ended own (may.numbers at (lock, before) was)))
            (λ t. numbers_stay law caller seat.1.own (may.numbers i seat t))
            (set_get old.seats.items at i (lock, before) (lock, after) seat was (ap (λ (xs : List Seated). slice_get xs i) (sym now) ∙ there)));
      }
