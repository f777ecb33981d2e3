-- What the parameters of a statement are, and what columns and rows are read as.
use Rattle.std.proofs.Common.{◌≡◌, ℕ, suc, ◌+◌, add-one, pos, List, [], ◌∷◌, length, Contains, drop, drop-cons, get_or, ◌<◌, Result, Ok, Err, IfOk, IfErr, IsErrAnd, inl, inr, refl, ap, sym, subst, ◌∙◌, arith}
use Rattle.std.proofs.lemmas.List.Elements.{Contains-get_or}
use Rattle.jc_outside.specs.Answers.{AnswersByKey}
use Rattle.sqlite.specs.declared.types.Value.TheVariants.{Int, Blob}
use Rattle.sqlite.specs.declared.types.ValueRef.{ValueRef}
use Rattle.sqlite.specs.declared.error.Error.{Error}
use Rattle.sqlite.specs.Order.{Row, column}
use Rattle.sqlite.specs.Reading.{IsReadError}
use Rattle.sqlite.specs.Tree.{Trees}
use Rattle.sqlite.specs.Store.{Ghosts}
use Rattle.sqlite.specs.State.{HasCleanDisk, Survives, CommitsShowing}
use Rattle.sqlite.specs.Held.{Held, state}
use Rattle.sqlite.specs.Value.{owned}
use Rattle.sqlite.specs.Values.{bound, bound_value}
use Rattle.sqlite.proofs.StateLemmas.{survives_then}
use Rattle.jc_sqlite.specs.declared.failure.Failure.{Failure}
use Rattle.jc_sqlite.specs.Statements.{IsCount, load_sql, entry_row, key_row, LoadsInto, LoadsAll, CommitsLoading}

pub bound_key : (given : ValueRef) (bytes key : List ℕ) → owned given ≡ Blob bytes → bytes ≡ key → bound (given ∷ []) ≡ key_row key
bound_key given bytes key is same = ap (λ it. bound_value it ∷ []) is ∙ ap key_row same

pub bound_entry : (first second : ValueRef) (k v key value : List ℕ) → owned first ≡ Blob k → k ≡ key → owned second ≡ Blob v → v ≡ value → bound (first ∷ second ∷ []) ≡ entry_row (key, value)
bound_entry first second k v key value first_is key_is second_is value_is =
    ap (λ it. bound_value it ∷ bound_value (owned second) ∷ []) first_is ∙ ap (λ it. Blob k ∷ bound_value it ∷ []) second_is ∙ ap (λ it. Blob it ∷ Blob v ∷ []) key_is ∙ ap (λ it. Blob key ∷ Blob it ∷ []) value_is

-- the error at the exit of a `?` is the callee's
pub same_error : {T E : Type 0} (r : Result T E) (e : E) → IsErrAnd r (λ it. it ≡ e) → r ≡ Err e
same_error (Ok x) e h = absurd h
same_error (Err it) e h = ap Err h

pub is_count : (row : Row) (r : Result ℕ Error) → IfOk r (λ n. (0 < length row) × (column row 0 ≡ Int (pos n))) → IfErr r (IsReadError 0 (column row 0)) → IsCount row r
is_count row (Ok n) ok err = ok.1
is_count row (Err e) ok err = err

pub next_key : (keys : List (List ℕ)) (i : ℕ) (key : List ℕ) → i < length keys → key ≡ get_or keys i key → drop i keys ≡ key ∷ drop (suc i) keys
next_key keys i key within is = drop-cons keys i key within ∙ ap (λ it. it ∷ drop (suc i) keys) (sym is)

-- how far the loads have come: whatever the rest does, all have done
abbrev pub Loading : {S : Type 0} → Ghosts S → List (List ℕ) → List (List ℕ) → Held S → Held S → AnswersByKey → AnswersByKey → Type 0
Loading {S = S} g keys rest old now before between =
    HasCleanDisk (state g now) → (new : Held S) (after : AnswersByKey) (result : Result (Unit {0}) Failure) → LoadsAll g rest now new between after result → LoadsAll g keys old new before after result

pub loads_more : {S : Type 0} (g : Ghosts S) (keys : List (List ℕ)) (i : ℕ) (key : List ℕ) (old now next : Held S) (before between after : AnswersByKey) (P : Trees → Type 0) → i < length keys → key ≡ get_or keys i key
    → Loading g keys (drop i keys) old now before between → Survives (state g now) (state g next) P → (HasCleanDisk (state g next) → LoadsInto key (state g now) (state g next) between after (Ok tt))
    → Loading g keys (drop (i + 1) keys) old next before after
loads_more g keys i key old now next before between after P within is so_far survives loaded clean new last result rest =
    so_far (omega (arith, survives.clean)) new last result (subst (λ it. LoadsAll g it now new between last result) (sym (next_key keys i key within is))
    (inr (next, after, loaded clean, subst (λ n. LoadsAll g (drop n keys) next new after last result) (add-one i) rest)))

pub loads_none : {S : Type 0} (g : Ghosts S) (keys : List (List ℕ)) (i : ℕ) (key : List ℕ) (old now next : Held S) (before between after : AnswersByKey) (P : Trees → Type 0) (failure : Failure) → i < length keys
    → key ≡ get_or keys i key → Loading g keys (drop i keys) old now before between → Survives (state g now) (state g next) P
    → (HasCleanDisk (state g next) → LoadsInto key (state g now) (state g next) between after (Err failure)) → HasCleanDisk (state g next) → LoadsAll g keys old next before after (Err failure)
loads_none g keys i key old now next before between after P failure within is so_far survives failed clean =
    so_far (omega (arith, survives.clean)) next after (Err failure) (subst (λ it. LoadsAll g it now next between after (Err failure)) (sym (next_key keys i key within is)) (inl (failure, refl, failed clean)))

pub survives_load : {S : Type 0} (g : Ghosts S) (keys : List (List ℕ)) (i : ℕ) (key : List ℕ) (old now next : Held S) → i < length keys → key ≡ get_or keys i key
    → Survives (state g old) (state g now) (CommitsLoading g keys) → Survives (state g now) (state g next) (CommitsShowing load_sql (key_row key) (state g now))
    → Survives (state g old) (state g next) (CommitsLoading g keys)
survives_load g keys i key old now next within is so_far one =
    let among : Contains keys key = subst (Contains keys) (sym is) (Contains-get_or keys i key within) in
    survives_then (state g old) (state g now) (state g next) _ _ _ (λ _ db may. may) (λ _ db may. (key, now, among, may)) so_far one
