-- Runs of a processor, one after the other, and what the writer is to be asked for after them.
--     runs_then, runs_push     one more run
--     one_of                   a run of a ticket's reservation
--     done_as                  its done value
--     claims_then, claims_push what is to be asked for after one more
--     new_claim                the next key isn't among those that are to be asked for
--     changes_are              what is asked for, as changes of keys
--     has_writer               there is a writer if anything is asked for
--     rest_on                  two calls outside leave all of a session but its hands
use Rattle.jc_invoke.proofs.Common.{Session, RunBehavior, RunsEach, RunsOne, batch_changes, is_among, Bytes, Change, ProcessResult, RunState, claim_after, claims_after, done_of, is_change_of, key_run, reservations_of, reserved_keys, asked_keys, wanted, KeyRun, change_of, Claim, claim_of, change_asked, entry_seen, is_loadable, report_claim, writer_for, Reservation, ◌≡◌, ◌==◌, ◌||◌, ◌++◌, List, [], ◌∷◌, map, Bool, true, false, Option, None, Some, IsSome, if◌then◌else◌, refl, sym, ap, subst, ◌∙◌, nat_list_eq_equiv, map-append, pointwise, AllByRecursion, IsDistinct, cons_option}
use Rattle.std.proofs.lemmas.Map.Keys.{IsDistinct-head, IsDistinct-tail}
use Rattle.jc_outside.specs.declared.done.Origin.TheVariants.{Live}
use Rattle.jc_mutentry.specs.Running.{LoadsIfGiven, RunsOnce}

-- 1. Runs.

module _ {P L W : Type 0} (behavior : RunBehavior L W P) (args : List Bytes) where
  pub runs_then : (runs : List KeyRun) (run : KeyRun) (p q r : P) (l m n : Option L) → RunsEach behavior args p l runs q m → RunsOne behavior args q m run r n
      → RunsEach behavior args p l (runs ++ run ∷ []) r n
  runs_then [] run p q r l m n each one =
      (r, n, subst (λ x. RunsOne behavior args x l run r n) each.0 (subst (λ x. RunsOne behavior args q x run r n) each.1 one), (refl, refl))
  runs_then (x ∷ runs) run p q r l m n each one = (each.0, each.1, each.2, runs_then runs run each.0 q r each.1 m n each.3 one)

  -- a run of a ticket's reservation
  pub one_of : (run : RunState) (r : Reservation) (ask : Claim) (p q : P) (l m : Option L) → run.reservation ≡ r → ask ≡ claim_of r
      → RunsOnce behavior.processes behavior.process_state p ask.key args (is_loadable ask.asked) (entry_seen ask.asked) run.load run.process q
      → LoadsIfGiven behavior.loads behavior.load_state l ask.key run.load m → RunsOne behavior args p l (key_run run) q m
  one_of run r ask p q l m same is once load =
      let asks : ask ≡ claim_of run.reservation = is ∙ ap claim_of (sym same) in
      record {
        run_is = subst (λ (x : Claim). RunsOnce behavior.processes behavior.process_state p x.key args (is_loadable x.asked) (entry_seen x.asked) run.load run.process q) asks once;
        load_is = subst (λ (x : Claim). LoadsIfGiven behavior.loads behavior.load_state l x.key run.load m) asks load;
      }

  pub runs_push : (runs runs' : List RunState) (run : RunState) (p q r : P) (l m n : Option L) → runs' ≡ runs ++ run ∷ [] → RunsEach behavior args p l (map key_run runs) q m
      → RunsOne behavior args q m (key_run run) r n → RunsEach behavior args p l (map key_run runs') r n
  runs_push runs runs' run p q r l m n is each one =
      subst (λ xs. RunsEach behavior args p l xs r n) (sym (ap (map key_run) is ∙ map-append key_run runs (run ∷ []))) (runs_then (map key_run runs) (key_run run) p q r l m n each one)

pub done_as : (done : ProcessResult Claim) (r s : Reservation) (ask : Claim) → done.ask ≡ ask → ask ≡ claim_of r → s ≡ r → done.origin ≡ Live → done ≡ done_of (record { reservation = s; load = done.load; process = done.process })
done_as done r s ask is asks same live =
    let to : done.ask ≡ claim_of s = is ∙ asks ∙ ap claim_of (sym same) in
    λ i. record { ask = to i; origin = live i; load = done.load; process = done.process }

-- 2. Claims.

cons_on : {X : Type 0} (o : Option X) (xs ys : List X) → cons_option o (xs ++ ys) ≡ cons_option o xs ++ ys
cons_on None xs ys = refl
cons_on (Some x) xs ys = refl

pub claims_then : (through deletes : Bool) (runs more : List RunState) → claims_after through deletes (runs ++ more) ≡ claims_after through deletes runs ++ claims_after through deletes more
claims_then through deletes [] more = refl
claims_then through deletes (r ∷ runs) more =
    ap (cons_option (claim_after through deletes r)) (claims_then through deletes runs more) ∙ cons_on (claim_after through deletes r) (claims_after through deletes runs) (claims_after through deletes more)

all_at : (P : Bytes → Type 0) (runs : List RunState) (r : Reservation) (rest : List Reservation) → AllByRecursion P (reserved_keys (reservations_of runs ++ r ∷ rest)) → P r.key
all_at P [] r rest all = all.0
all_at P (x ∷ runs) r rest all = all_at P runs r rest all.1

among_head : (b : Bool) (key : Bytes) (x : Reservation) (ch : Option Change) (claims : List Claim) → pointwise ◌==◌ key x.key ≡ false → is_among (asked_keys claims) key ≡ false
    → is_among (asked_keys (cons_option (if b then Some (report_claim x ch) else None) claims)) key ≡ false
among_head true key x ch claims apart rest = λ i. apart i || rest i
among_head false key x ch claims apart rest = rest

pub new_claim : (through deletes : Bool) (runs : List RunState) (r : Reservation) (rest : List Reservation) → IsDistinct (pointwise ◌==◌) (reserved_keys (reservations_of runs ++ r ∷ rest)) → is_among (asked_keys (claims_after through deletes runs)) r.key ≡ false
new_claim through deletes [] r rest d = refl
new_claim through deletes (x ∷ runs) r rest d =
    let apart = all_at (λ k. pointwise ◌==◌ x.reservation.key k ≡ false) runs r rest (IsDistinct-head (pointwise ◌==◌) x.reservation.key (reserved_keys (reservations_of runs ++ r ∷ rest)) d) in
    among_head (is_change_of deletes (change_of through (key_run x))) r.key x.reservation (change_of through (key_run x)) (claims_after through deletes runs) (nat_list_eq_equiv.symm r.key x.reservation.key ∙ apart)
    (new_claim through deletes runs r rest (IsDistinct-tail (pointwise ◌==◌) x.reservation.key (reserved_keys (reservations_of runs ++ r ∷ rest)) d))

-- 3. A round.

for_writer : (change : Option Change) → change_asked (writer_for change) ≡ change
for_writer None = refl
for_writer (Some change) = refl

changes_head : (b : Bool) (r : Reservation) (ch : Option Change) (claims : List Claim) (changes : List (Bytes × Option Change)) → wanted claims ≡ changes
    → wanted (cons_option (if b then Some (report_claim r ch) else None) claims) ≡ cons_option (if b then Some (r.key, ch) else None) changes
changes_head true r ch claims changes is = ap (λ (c : Option Change). (r.key, c) ∷ wanted claims) (for_writer ch) ∙ ap (λ cs. (r.key, ch) ∷ cs) is
changes_head false r ch claims changes is = is

pub changes_are : (through deletes : Bool) (runs : List RunState) → wanted (claims_after through deletes runs) ≡ batch_changes through deletes (map key_run runs)
changes_are through deletes [] = refl
changes_are through deletes (r ∷ runs) =
    changes_head (is_change_of deletes (change_of through (key_run r))) r.reservation (change_of through (key_run r)) (claims_after through deletes runs) (batch_changes through deletes (map key_run runs)) (changes_are through deletes runs)

pub claims_push : (through deletes : Bool) (runs runs' : List RunState) (run : RunState) (items items' : List Claim) → runs' ≡ runs ++ run ∷ [] → items ≡ claims_after through deletes runs → items' ≡ items ++ claims_after through deletes (run ∷ [])
    → items' ≡ claims_after through deletes runs'
claims_push through deletes runs runs' run items items' more are is =
    is ∙ ap (λ xs. xs ++ claims_after through deletes (run ∷ [])) are ∙ sym (claims_then through deletes runs (run ∷ [])) ∙ ap (claims_after through deletes) (sym more)

-- 4. The calls of the writer.

claims_off : (deletes : Bool) (runs : List RunState) → claims_after false deletes runs ≡ []
claims_off deletes [] = refl
claims_off deletes (r ∷ runs) = claims_off deletes runs

pub has_writer : {W : Type 0} (through deletes : Bool) (runs : List RunState) (items : List Claim) (writer : Option W) → items ≡ claims_after through deletes runs → (through ≡ true → IsSome writer) → (items ≡ [] → ⊥) → IsSome writer
has_writer true deletes runs items writer is there some = there refl
has_writer false deletes runs items writer is there some = absurd (some (is ∙ claims_off deletes runs))

-- a run of calls outside leaves all of a session but its hands
pub rest_on : {I J : Type 0} {D : I → Type 0} {E : J → Type 0} (first mid new : Session I J D E) → new ≡ record mid { agent = record mid.agent { hands = new.agent.hands } } → mid ≡ record first { agent = record first.agent { hands = mid.agent.hands } }
    → new ≡ record first { agent = record first.agent { hands = new.agent.hands } }
rest_on {I} {J} {D} {E} first mid new one two = one ∙ ap (λ (s : Session I J D E). record s { agent = record s.agent { hands = new.agent.hands } }) two
