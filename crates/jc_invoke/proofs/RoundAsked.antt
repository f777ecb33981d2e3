-- What a round has asked outside, from the runs of its processor and the calls of the writer.
--     keys_run         the keys of the runs are those of their reservations
--     key_asked        the round asked for each of the keys that were reserved
--     each_among       each run is one of the round's
--     kind_asked       a call of the writer, as that of the round's changes of one kind
--     unasked_writer   the writer isn't called for nothing
--     round_asked      the round
use Rattle.jc_invoke.proofs.Common.{Session, HasRunEach, IsRoundAsked, IsToBeRun, RunBehavior, RunsEach, WritesKind, batch_changes, in_boxes, RoundRoom, is_among, Bytes, Change, ProcessResult, KeepsType, no_batch, or_true, IsToBeAnswered, RunState, claims_after, asked_key, key_run, reports, reservations_of, reserved_keys, WriteCallAsked, WritesBatch, wanted, KeyRun, ProcessAll, ProcessRound, keys_asked, reserved_by, Agent, Claim, TicketClaim, asks_processor, ◌≡◌, ◌==◌, ◌||◌, ℕ, zero, suc, List, [], ◌∷◌, map, reverse, Bool, true, false, Option, Result, Ok, refl, sym, ap, subst, ◌∙◌, arith, nat_list_eq_equiv, reverse-reverse, pointwise, Vec, AllByRecursion, IsAmong, DynBox}
use Rattle.jc_model.specs.declared.event.WriteAnswer.{WriteAnswer}
use Rattle.jc_model.specs.declared.event.WriteAnswer.TheVariants.{NotAsked}
use Rattle.jc_outside.specs.CallingAll.{DeleteAllRelation, WriteAllRelation, writes_done}
use Rattle.jc_outside.specs.Done.{WriteResult}
use Rattle.jc_session.specs.Boxed.{boxed}
use Rattle.jc_rounds.specs.declared.answers.RoundAnswers.TheVariants as answers
use Rattle.jc_invoke.proofs.Runs.{changes_are}

-- 1. Keys.

pub keys_run : (runs : List RunState) → map (λ (run : KeyRun). run.key) (map key_run runs) ≡ reserved_keys (reservations_of runs)
keys_run [] = refl
keys_run (r ∷ runs) = ap (λ ks. r.reservation.key ∷ ks) (keys_run runs)

key_asked : (round : ProcessRound) (ts : List TicketClaim) → ((key : Bytes) → is_among (reserved_keys (map reserved_by ts)) key ≡ true → is_among (keys_asked (ProcessAll round)) key ≡ true) → AllByRecursion IsToBeRun ts
    → AllByRecursion (IsToBeAnswered asks_processor (ProcessAll round)) (map reserved_by ts)
key_asked round [] among all = tt
key_asked round (t ∷ ts) among all = (
  (all.0.2, among t.reservation.key (ap (λ b. b || is_among (reserved_keys (map reserved_by ts)) t.reservation.key) (nat_list_eq_equiv.refl t.reservation.key))),
  key_asked round ts (λ key is. among key (or_true (pointwise ◌==◌ key t.reservation.key) (is_among (reserved_keys (map reserved_by ts)) key) is)) all.1,
)

among_on : {X : Type 0} (x : X) (xs : List X) (v : X) → IsAmong xs v → IsAmong (x ∷ xs) v
among_on x xs v is = (suc is.0, (let near = is.1.0 in omega arith, is.1.1))

each_among : (all : List KeyRun) (runs : List RunState) → ((run : KeyRun) → IsAmong (map key_run runs) run → IsAmong all run) → AllByRecursion (λ (r : RunState). IsAmong all (key_run r)) runs
each_among all [] among = tt
each_among all (r ∷ runs) among = (among (key_run r) (zero, (omega arith, refl)), each_among all runs (λ run is. among run (among_on (key_run r) (map key_run runs) run is)))

-- 2. The calls of the writer.

pub kind_asked : {L W P : Type 0} (behavior : RunBehavior L W P) (args : List Bytes) (through kind deletes : Bool) (runs : List RunState) (items : List Claim) (v w w' : Option W) (returned : Result (Unit {0}) ℕ) (said : Bytes → WriteAnswer)
    → deletes ≡ kind → items ≡ claims_after through kind runs → w ≡ v → WritesBatch behavior.writes_all behavior.deletes_all behavior.write_state deletes (wanted items) w returned said w'
    → WritesKind behavior args kind (batch_changes through kind (map key_run runs)) v said w'
kind_asked {L} {W} {P} behavior args through kind deletes runs items v w w' returned said same are from batch =
    let Writes : Bool → List (Bytes × Option Change) → Option W → Type 0 = λ k changes x. WritesBatch behavior.writes_all behavior.deletes_all behavior.write_state k changes x returned said w' in
    (returned, subst (Writes kind (batch_changes through kind (map key_run runs))) from (subst (λ x. Writes kind x w) (ap wanted are ∙ changes_are through kind runs) (subst (λ k. Writes k (wanted items) w) same batch)))

-- a writer that isn't called for nothing
pub unasked_writer : {I J : Type 0} {D : I → Type 0} {E : J → Type 0}
    (writes_all : WriteAllRelation ((j : J) × E j)) (deletes_all : DeleteAllRelation ((j : J) × E j)) (write_state : (j : J) × E j → List ℕ)
    (session : Session I J D E) (deletes : Bool) (items : List Claim) (done : List (WriteResult Claim)) → items ≡ [] → done ≡ []
    → WriteCallAsked writes_all deletes_all write_state session deletes items (Ok tt) done session
unasked_writer writes_all deletes_all write_state session deletes items done none nothing = record {
  said = λ key. NotAsked;
  writes = no_batch (boxed writes_all) (boxed deletes_all) (boxed write_state) deletes items session.agent.hands.outside.writer (λ key. NotAsked) none;
  done_are = ap reverse nothing ∙ sym (ap (writes_done asked_key (λ key. NotAsked)) none);
  writer_type = refl;
  loader = refl;
}

-- 3. The round.

module _ {I J P Z : Type 0} {D : I → Type 0} {E : J → Type 0} {F : P → Type 0}
    (behavior : RunBehavior ((i : I) × D i) ((j : J) × E j) (DynBox P Z F)) (args : List Bytes) (through : Bool) where
  pub round_asked : (first : Agent I J D E) (mid written_by new : Session I J D E) (processor p : DynBox P Z F) (tickets : List TicketClaim) (room : RoundRoom)
      (done : Vec (ProcessResult Claim)) (written deleted : Vec (WriteResult Claim)) (returned also_returned : Result (Unit {0}) ℕ)
      → HasRunEach behavior args through first tickets processor mid.agent room p
      → WriteCallAsked behavior.writes_all behavior.deletes_all behavior.write_state mid room.writes.deletes room.writes.items returned written.items written_by
      → WriteCallAsked behavior.writes_all behavior.deletes_all behavior.write_state written_by room.deletes.deletes room.deletes.items also_returned deleted.items new
      → done.items ≡ reverse room.runs.items → AllByRecursion IsToBeRun tickets
      → IsRoundAsked behavior args through first tickets processor new.agent (answers.Processes done written deleted) p
  round_asked first mid written_by new processor p tickets room done written deleted returned also_returned has w d back fresh =
      let round : ProcessRound = record { runs = map key_run has.runs; written = w.said; deleted = d.said } in
      let keys : keys_asked (ProcessAll round) ≡ reserved_keys (map reserved_by tickets) = keys_run has.runs ∙ ap reserved_keys has.calls_are in
      let loader = d.loader ∙ w.loader in
      record {
        round = round;
        runs = has.runs;
        calls_are = has.calls_are;
        runs_are = refl;
        answered = λ config same. (
          record {
            runs = has.runs;
            calls_are = sym has.calls_are;
            done_are = ap reverse back ∙ reverse-reverse room.runs.items ∙ has.done_are;
            written_are = w.done_are ∙ ap (writes_done asked_key w.said) has.writes_are ∙ (λ i. reports (sym same i) false w.said has.runs);
            deleted_are = d.done_are ∙ ap (writes_done asked_key d.said) has.deletes_are ∙ (λ i. reports (sym same i) true d.said has.runs);
            each = each_among (map key_run has.runs) has.runs (λ run is. is);
          },
          key_asked round tickets (λ key is. ap (λ ks. is_among ks key) keys ∙ is) fresh,
        );
        asked = record {
          runs_are = subst (λ x. RunsEach (in_boxes behavior) args processor first.hands.outside.loader (map key_run has.runs) p x) (sym loader) has.each;
          between = written_by.agent.hands.outside.writer;
          writes_are = kind_asked (in_boxes behavior) args through false room.writes.deletes has.runs room.writes.items first.hands.outside.writer mid.agent.hands.outside.writer written_by.agent.hands.outside.writer returned w.said
              has.writes_kind has.writes_are has.writer w.writes;
          deletes_are = kind_asked (in_boxes behavior) args through true room.deletes.deletes has.runs room.deletes.items written_by.agent.hands.outside.writer written_by.agent.hands.outside.writer new.agent.hands.outside.writer also_returned d.said
              has.deletes_kind has.deletes_are refl d.writes;
        };
        types = (
          subst (λ x. KeepsType first.hands.outside.loader x) (sym loader) has.loader_type,
          subst (λ x. KeepsType x new.agent.hands.outside.writer) has.writer (d.writer_type ∙ w.writer_type),
        );
        processor_type = has.processor_type;
      }
