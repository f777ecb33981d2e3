-- A batch of statements in one transaction, one for each item: how far it has come, and what its end leaves.
use Rattle.std.proofs.Common.{◌≡◌, ℕ, true, List, [], ◌∷◌, ◌++◌, map, Result, Ok, Err, IsTrue, OnOk, OnErr, IfErr, inl, inr, refl, sym, subst, ap, ◌∙◌, arith, append-nil, false}
use Rattle.std.proofs.lemmas.List.{append_assoc, map-append}
use Rattle.sqlite.specs.declared.error.Error.{Error}
use Rattle.sqlite.specs.declared.error.Error.TheVariants.{SqliteFailure}
use Rattle.sqlite.specs.declared.error.ErrorCode.TheVariants.{TransactionState}
use Rattle.sqlite.specs.Order.{Row}
use Rattle.sqlite.specs.Tree.{Trees}
use Rattle.sqlite.specs.Store.{Ghosts}
use Rattle.sqlite.specs.Effect.{Database}
use Rattle.sqlite.specs.State.{State, HasCleanDisk, Survives, Executes, ExecutesInside, KeepsCommit, KeepsCounts, IsRolledBack, Shows}
use Rattle.sqlite.specs.Held.{Held, state}
use Rattle.sqlite.specs.Steps.{FailsToCommit}
use Rattle.sqlite.proofs.StateLemmas.{survives_then}
use Rattle.sqlite.proofs.Callers.{survives_begin}
use Rattle.jc_sqlite.specs.Batch.{in_transaction, RanEach, RanAll, RunsAsOne}

pub stays : (s : State) (P : Trees → Type 0) → Survives s s P
stays s P = record { clean = omega arith; shield = λ h. h; counts = omega arith; limit = refl; closes = λ _ h. inl h; crash = λ _ db h. inl h }

pub record UnderWay {S X : Type 0} (g : Ghosts S) (sql : List ℕ) (row_of : X → Row) (items rest : List X) (begun now : Held S) : Type 0 where
  pub done : List X
  pub split : items ≡ done ++ rest
  pub survives : Survives (state g begun) (state g now) (λ _. ⊥)
  pub ran : HasCleanDisk (state g now) → RanEach g sql (map row_of done) begun now
  pub inside : HasCleanDisk (state g now) → now.in_transaction ≡ true
  pub kept : HasCleanDisk (state g now) → KeepsCommit (state g begun) (state g now)

ran-last : {S : Type 0} (g : Ghosts S) (sql : List ℕ) (rows : List Row) (row : Row) (old mid new : Held S) (count : ℕ) → RanEach g sql rows old mid
    → Executes sql row (state g mid) (state g new) (Ok count) → RanEach g sql (rows ++ row ∷ []) old new
ran-last g sql [] row old mid new count same ran = (new, count, subst (λ h. Executes sql row (state g h) (state g new) (Ok count)) same ran, refl)
ran-last g sql (r ∷ rs) row old mid new count h ran = (h.0, h.1, h.2, ran-last g sql rs row h.0 mid new count h.3 ran)

pub starts : {S X : Type 0} (g : Ghosts S) (sql : List ℕ) (row_of : X → Row) (items : List X) (begun : Held S) → begun.in_transaction ≡ true → UnderWay g sql row_of items items begun begun
starts g sql row_of items begun it = record {
  done = [];
  split = refl;
  survives = stays (state g begun) _;
  ran = λ _. refl;
  inside = λ _. it;
  kept = λ _. record { was_open = λ h. h; committed = λ _. refl };
}

pub goes : {S X : Type 0} (g : Ghosts S) (sql : List ℕ) (row_of : X → Row) (items rest tail : List X) (item : X) (begun now new : Held S) (count : ℕ)
    → UnderWay g sql row_of items rest begun now → rest ≡ item ∷ tail
    → (HasCleanDisk (state g new) → IsTrue (state g now).in_transaction → ExecutesInside 0 sql (row_of item) (state g now) (state g new) (Ok count))
    → Survives (state g now) (state g new) (λ _. ⊥) → UnderWay g sql row_of items tail begun new
goes g sql row_of items rest tail item begun now new count u takes runs survives =
    let earlier : HasCleanDisk (state g new) → HasCleanDisk (state g now) = λ clean. omega (arith, survives.clean) in
    let one = λ (clean : HasCleanDisk (state g new)). runs clean (u.inside (earlier clean)) in record {
      done = u.done ++ item ∷ [];
      split = u.split ∙ ap (λ r. u.done ++ r) takes ∙ sym (append_assoc u.done (item ∷ []) tail);
      survives = survives_then (state g begun) (state g now) (state g new) _ _ _ (λ _ db none. none) (λ _ db none. none) u.survives survives;
      ran = λ clean. subst (λ rows. RanEach g sql rows begun new) (sym (map-append row_of u.done (item ∷ [])))
          (ran-last g sql (map row_of u.done) (row_of item) begun now new count (u.ran (earlier clean)) (one clean).0);
      inside = λ clean. (one clean).1.mode;
      kept = λ clean. let shown = (one clean).1 in let before = u.kept (earlier clean) in
          record { was_open = λ _. before.was_open shown.was_open; committed = λ _. shown.committed_is ∙ before.committed shown.was_open };
    }

finished : {S X : Type 0} (g : Ghosts S) (sql : List ℕ) (row_of : X → Row) (items rest : List X) (begun last : Held S) → UnderWay g sql row_of items rest begun last → rest ≡ []
    → HasCleanDisk (state g last) → RanEach g sql (map row_of items) begun last
finished g sql row_of items rest begun last u none clean =
    subst (λ es. RanEach g sql (map row_of es) begun last) (sym (u.split ∙ ap (λ r. u.done ++ r) none ∙ append-nil u.done)) (u.ran clean)

commits_all : {S X : Type 0} (g : Ghosts S) (sql : List ℕ) (row_of : X → Row) (items rest : List X) (old last end : Held S) → UnderWay g sql row_of items rest (in_transaction old) last → rest ≡ []
    → (P : Trees → Type 0) → Survives (state g last) (state g end) P → HasCleanDisk (state g end) → Shows (state g last) (state g end) (state g last).now (state g last).now false
    → RanAll g sql (map row_of items) old (state g end).committed
commits_all g sql row_of items rest old last end u none P survives clean shown =
    record { last = last; ran = finished g sql row_of items rest (in_transaction old) last u none (omega (arith, survives.clean)); is = shown.committed_is }

crash_all : {S X : Type 0} (g : Ghosts S) (sql : List ℕ) (row_of : X → Row) (items rest : List X) (old last end : Held S) → UnderWay g sql row_of items rest (in_transaction old) last → rest ≡ []
    → Survives (state g last) (state g end) (λ db. db ≡ (state g last).now.trees)
    → Survives (state g old) (state g end) (λ trees. (db : Database) × RanAll g sql (map row_of items) old db × (trees ≡ db.trees))
crash_all g sql row_of items rest old last end u none survives =
    survives_then (state g old) (state g last) (state g end) _ _ _ (λ _ db none. absurd none)
    (λ clean db is. ((state g last).now, record { last = last; ran = finished g sql row_of items rest (in_transaction old) last u none (omega (arith, survives.clean)); is = refl }, is))
    (survives_begin g old (state g last) _ u.survives) survives

crash_none : {S X : Type 0} (g : Ghosts S) (sql : List ℕ) (row_of : X → Row) (items rest : List X) (old now mid end : Held S) (P : Trees → Type 0) → UnderWay g sql row_of items rest (in_transaction old) now
    → Survives (state g now) (state g mid) (λ _. ⊥) → Survives (state g mid) (state g end) (λ _. ⊥) → Survives (state g old) (state g end) P
crash_none g sql row_of items rest old now mid end P u one two =
    let first = survives_then (state g old) (state g now) (state g mid) _ _ (λ _. ⊥) (λ _ db none. none) (λ _ db none. none) (survives_begin g old (state g now) _ u.survives) one in
    survives_then (state g old) (state g mid) (state g end) _ _ P (λ _ db none. absurd none) (λ _ db none. absurd none) first two

fails_inside : (sql : List ℕ) (row : Row) (now mid : State) (e : Error) → ExecutesInside 0 sql row now mid (Err e) → KeepsCommit now mid
fails_inside sql row now mid e (inl (ran, inl same)) = record { was_open = λ _. same.0.was_open; committed = λ _. same.0.committed_is }
fails_inside sql row now mid e (inl (ran, inr back)) = record { was_open = back.was_open; committed = λ h. (back.undone h).1 }
fails_inside sql row now mid e (inr h) = record { was_open = λ _. h.2.0.was_open; committed = λ _. h.2.0.committed_is }

-- after a roll-back all is as it was before the transaction
undone : (old now mid end : State) → (IsTrue old.is_open → old.now ≡ old.committed) → KeepsCommit (record old { in_transaction = true }) now → KeepsCommit now mid → IsRolledBack mid end → IsTrue end.is_open
    → (end.now ≡ old.now) × (end.committed ≡ old.committed)
undone old now mid end settled first second back is_open =
    let was = back.was_open is_open in
    let same = second.committed was ∙ first.committed (second.was_open was) in (
      (back.undone is_open).0 ∙ same ∙ sym (settled (first.was_open (second.was_open was))),
      (back.undone is_open).1 ∙ same,
    )

-- a commit that fails rolls back, too
fails_to_commit : (old last end : State) (e : Error) → (IsTrue old.is_open → old.now ≡ old.committed) → KeepsCommit (record old { in_transaction = true }) last → last.in_transaction ≡ true
    → FailsToCommit last end e → IsTrue end.is_open → (end.now ≡ old.now) × (end.committed ≡ old.committed)
fails_to_commit old last end e settled kept inside (inl h) is_open = undone old last last end settled kept (record { was_open = λ h. h; committed = λ _. refl }) h.3 is_open
fails_to_commit old last end e settled kept inside (inr h) is_open = absurd (let no = sym inside ∙ h.1 in cc)

on_ok : {T E A B : Type 0} (r : Result T E) → (A → B) → OnOk r A → OnOk r B
on_ok (Ok x) f h = f h
on_ok (Err e) f h = tt

on_err : {T E B : Type 0} (r : Result T E) (P : E → Type 0) → ((e : E) → P e → B) → IfErr r P → OnErr r B
on_err (Ok x) P f h = tt
on_err (Err e) P f h = f e h

if_err : {T E : Type 0} (r : Result T E) (P Q : E → Type 0) → ((e : E) → P e → Q e) → IfErr r P → IfErr r Q
if_err (Ok x) P Q f h = tt
if_err (Err e) P Q f h = f e h

-- a transaction was open before
pub refused : {S : Type 0} (g : Ghosts S) (sql : List ℕ) (rows : List Row) (old : Held S) → old.in_transaction ≡ true → RunsAsOne g sql rows old old (Err (SqliteFailure TransactionState))
refused g sql rows old open_before = record {
  all = λ _. tt;
  none = λ _ _. (refl, refl);
  cause = λ _. inl (refl, open_before);
  mode = refl;
  crash = stays (state g old) _;
}

module _ {S X : Type 0} (g : Ghosts S) (sql : List ℕ) (row_of : X → Row) (items : List X) (old : Held S) (autocommit : old.in_transaction ≡ false) (settled : IsTrue (state g old).is_open → (state g old).now ≡ (state g old).committed) where
  -- the statement failed at an item, and the transaction was rolled back
  pub stopped : (rest tail : List X) (item : X) (now mid end : Held S) (e : Error) → UnderWay g sql row_of items rest (in_transaction old) now → rest ≡ item ∷ tail
      → (HasCleanDisk (state g mid) → IsTrue (state g now).in_transaction → ExecutesInside 0 sql (row_of item) (state g now) (state g mid) (Err e)) → Survives (state g now) (state g mid) (λ _. ⊥)
      → end.in_transaction ≡ false → (HasCleanDisk (state g end) → IsRolledBack (state g mid) (state g end)) → Survives (state g mid) (state g end) (λ _. ⊥) → RunsAsOne g sql (map row_of items) old end (Err e)
  stopped rest tail item now mid end e u takes runs one over back two =
      let mid_clean : HasCleanDisk (state g end) → HasCleanDisk (state g mid) = λ clean. omega (arith, two.clean) in
      let now_clean : HasCleanDisk (state g end) → HasCleanDisk (state g now) = λ clean. let h = mid_clean clean in omega (arith, one.clean) in
      let failed = λ (clean : HasCleanDisk (state g end)). runs (mid_clean clean) (u.inside (now_clean clean)) in record {
        all = λ _. tt;
        none = λ clean is_open.
            undone (state g old) (state g now) (state g mid) (state g end) settled (u.kept (now_clean clean)) (fails_inside sql (row_of item) (state g now) (state g mid) e (failed clean)) (back clean) is_open;
        cause = λ clean. inr (inl (record {
          before = map row_of u.done;
          row = row_of item;
          after = map row_of tail;
          split = ap (map row_of) (u.split ∙ ap (λ r. u.done ++ r) takes) ∙ map-append row_of u.done (item ∷ tail);
          reached = now;
          next = mid;
          ran = u.ran (now_clean clean);
          fails = failed clean;
        }));
        mode = over ∙ sym autocommit;
        crash = crash_none g sql row_of items rest old now mid end _ u one two;
      }

  -- the statement ran for each item, and the transaction was committed, or the commit failed
  pub ended : (rest : List X) (last end : Held S) (result : Result (Unit {0}) Error) → UnderWay g sql row_of items rest (in_transaction old) last → rest ≡ [] → end.in_transaction ≡ false
      → (HasCleanDisk (state g end) → OnOk result (IsTrue (state g last).in_transaction × Shows (state g last) (state g end) (state g last).now (state g last).now false × KeepsCounts (state g last) (state g end) × ((state g end).marks ≡ [])))
      → (HasCleanDisk (state g end) → IfErr result (FailsToCommit (state g last) (state g end))) → Survives (state g last) (state g end) (λ db. db ≡ (state g last).now.trees)
      → RunsAsOne g sql (map row_of items) old end result
  ended rest last end result u none over ok err survives =
      let last_clean : HasCleanDisk (state g end) → HasCleanDisk (state g last) = λ clean. omega (arith, survives.clean) in
      let Fails = FailsToCommit (state g last) (state g end) in record {
        all = λ clean. on_ok result (λ it. commits_all g sql row_of items rest old last end u none _ survives clean it.1) (ok clean);
        none = λ clean is_open. let before = last_clean clean in
            on_err result Fails (λ e failed. fails_to_commit (state g old) (state g last) (state g end) e settled (u.kept before) (u.inside before) failed is_open) (err clean);
        cause = λ clean.
            if_err result Fails _ (λ e failed. inr (inr (record { last = last; ran = finished g sql row_of items rest (in_transaction old) last u none (last_clean clean); fails = failed }))) (err clean);
        mode = over ∙ sym autocommit;
        crash = crash_all g sql row_of items rest old last end u none survives;
      }
