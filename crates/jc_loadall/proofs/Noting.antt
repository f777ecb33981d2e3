-- What is noted of a piece, and how its keys ended.
--     piece_end    a call that loads the keys of a piece tells how it ended, and what is noted of it tells the same
use Rattle.jc_loadall.proofs.Common.{◌≡◌, ◌==◌, ◌<◌, ◌≤◌, ◌++◌, ◌⊎◌, inl, inr, ⊎_elim, ℕ, zero, suc, List, [], ◌∷◌, Bool, false, cond, length, map, Option, None, Some, Result, Ok, Err, option_map, refl, sym, ap, subst, ◌∙◌, arith, nat_list_eq_equiv, IsDistinct-head, IsDistinct-tail, AllByRecursion, IsAmong, IsDistinct, cons_option, filter_map, pointwise, lookup, Refusal, Bytes, Op, BulkFault, DoesAll, IsBulkCall, NamesNoKey, OrRefused, KeyEnd, failed_entries, key_ops, load_ops, PIECE_KEYS, PieceResult, Loaded, Refused, LoadsPiece, out_of_memory, IsResultOf, LoadsAndNotes, cause_noted, entries_noted}
use Rattle.jc_types.specs.declared.limits.TheConstants.{BULK_KEYS_MAX}
use Rattle.jc_types.specs.declared.refusal.Refusal.TheVariants.{OutOfMemory, WriterFailed}
use Rattle.jc_cache.specs.Caches.{CacheState}
use Rattle.jc_session.specs.declared.session.Session.{Session}
use Rattle.jc_bulk.specs.Outside.{BulkBehavior}
use Rattle.jc_rounds.specs.KeyProgress.{IsCauseIn, refusal_in}
use Rattle.jc_rounds.specs.Rounds.{LoadAll, ProcessAll, Round, WriteAll, faults_in, round_fault, writer_failure}
use Rattle.jc_loadall.proofs.JoinedNotes.{nothing_noted}

-- 1. The keys that failed, looked up one by one.

-- the entry of a key, if it has one
abbrev pick : List (Bytes × Refusal) → Bytes → Option (Bytes × Refusal)
pick all key = option_map (λ (r : Refusal). (key, r)) (lookup (pointwise ◌==◌ key) all)

skip : (key : Bytes) (r : Refusal) (rest : List (Bytes × Refusal)) (keys : List Bytes) → AllByRecursion (λ y. pointwise ◌==◌ key y ≡ false) keys
    → filter_map (pick ((key, r) ∷ rest)) keys ≡ filter_map (pick rest) keys
skip key r rest [] all = refl
skip key r rest (k ∷ keys) all =
    let apart : pointwise ◌==◌ k key ≡ false = nat_list_eq_equiv.symm k key ∙ all.0 in
    let here : pick ((key, r) ∷ rest) k ≡ pick rest k = ap (λ b. option_map (λ (q : Refusal). (k, q)) (cond b (Some r) (lookup (pointwise ◌==◌ k) rest))) apart in
    λ i. cons_option (here i) (skip key r rest keys all.1 i)

absent_step : (key : Bytes) (e : KeyEnd) (rest : List (Bytes × Refusal)) (o : Option Refusal) → pointwise ◌==◌ key e.key ≡ false → lookup (pointwise ◌==◌ key) rest ≡ None
    → lookup (pointwise ◌==◌ key) (cons_option (option_map (λ (r : Refusal). (e.key, r)) o) rest) ≡ None
absent_step key e rest None apart none = none
absent_step key e rest (Some r) apart none = ap (λ b. cond b (Some r) (lookup (pointwise ◌==◌ key) rest)) apart ∙ none

absent : (key : Bytes) (es : List KeyEnd) → AllByRecursion (λ y. pointwise ◌==◌ key y ≡ false) (map (λ (e : KeyEnd). e.key) es) → lookup (pointwise ◌==◌ key) (failed_entries es) ≡ None
absent key [] all = refl
absent key (e ∷ es) all = absent_step key e (failed_entries es) (refusal_in e.ended) all.0 (absent key es all.1)

looked_up_step : (e : KeyEnd) (rest : List (Bytes × Refusal)) (keys : List Bytes) (o : Option Refusal) → AllByRecursion (λ y. pointwise ◌==◌ e.key y ≡ false) keys
    → lookup (pointwise ◌==◌ e.key) rest ≡ None → filter_map (pick rest) keys ≡ rest
    → filter_map (pick (cons_option (option_map (λ (r : Refusal). (e.key, r)) o) rest)) (e.key ∷ keys) ≡ cons_option (option_map (λ (r : Refusal). (e.key, r)) o) rest
looked_up_step e rest keys None apart none ih =
    let here : pick rest e.key ≡ None = ap (λ (o : Option Refusal). option_map (λ (r : Refusal). (e.key, r)) o) none in
    λ i. cons_option (here i) (ih i)
looked_up_step e rest keys (Some r) apart none ih =
    let here : pick ((e.key, r) ∷ rest) e.key ≡ Some (e.key, r) =
    ap (λ b. option_map (λ (q : Refusal). (e.key, q)) (cond b (Some r) (lookup (pointwise ◌==◌ e.key) rest))) (nat_list_eq_equiv.refl e.key) in
    let later = skip e.key r rest keys apart ∙ ih in
    λ i. cons_option (here i) (later i)

looked_up : (es : List KeyEnd) → IsDistinct (pointwise ◌==◌) (map (λ (e : KeyEnd). e.key) es) → filter_map (pick (failed_entries es)) (map (λ (e : KeyEnd). e.key) es) ≡ failed_entries es
looked_up [] d = refl
looked_up (e ∷ es) d =
    let keys : List Bytes = map (λ (x : KeyEnd). x.key) es in
    let apart = IsDistinct-head (pointwise ◌==◌) e.key (map (λ (x : KeyEnd). x.key) es) d in
    looked_up_step e (failed_entries es) (map (λ (x : KeyEnd). x.key) es) (refusal_in e.ended) apart (absent e.key es apart)
    (looked_up es (IsDistinct-tail (pointwise ◌==◌) e.key (map (λ (x : KeyEnd). x.key) es) d))

abbrev first_key : List (Bytes × Op) → Bytes
first_key [] = []
first_key (t ∷ ts) = t.0

abbrev others : List (Bytes × Op) → List (Bytes × Op)
others [] = []
others (t ∷ ts) = ts

keys_ended : (replace : Bool) (es : List KeyEnd) (keys : List Bytes) → key_ops es ≡ load_ops replace keys → map (λ (e : KeyEnd). e.key) es ≡ keys
keys_ended replace [] [] is = refl
keys_ended replace [] (k ∷ keys) is = cc
keys_ended replace (e ∷ es) [] is = cc
keys_ended replace (e ∷ es) (k ∷ keys) is =
    let key : e.key ≡ k = ap first_key is in
    let rest : key_ops es ≡ load_ops replace keys = ap others is in
    λ i. key i ∷ keys_ended replace es keys rest i

-- 2. What is noted.

all_refused : (replace : Bool) (keys : List Bytes) → entries_noted Refused keys ≡ failed_entries (out_of_memory (load_ops replace keys))
all_refused replace [] = refl
all_refused replace (k ∷ keys) = ap (λ l. (k, OutOfMemory) ∷ l) (all_refused replace keys)

-- no call outside fails with OutOfMemory
among_cons : (o : Option Refusal) (rs : List Refusal) (r : Refusal) → IsAmong (cons_option o rs) r → (o ≡ Some r) ⊎ IsAmong rs r
among_cons None rs r h = inr h
among_cons (Some x) rs r (zero, (lt, is)) = inl (ap Some (sym is))
among_cons (Some x) rs r (suc i, (lt, is)) = inr (i, (omega (arith, lt), is))

code_only : (returned : Result (Unit {0}) ℕ) → writer_failure returned ≡ Some OutOfMemory → ⊥
code_only (Ok done) is = cc
code_only (Err code) is = let same : WriterFailed code ≡ OutOfMemory = cc in cc

no_memory_fault : (rounds : List Round) → IsAmong (faults_in rounds) OutOfMemory → ⊥
no_memory_fault [] h = omega (arith, h.1.0)
no_memory_fault (LoadAll r ∷ rounds) h = no_memory_fault rounds h
no_memory_fault (ProcessAll r ∷ rounds) h = no_memory_fault rounds h
no_memory_fault (WriteAll r ∷ rounds) h = ⊎_elim (code_only r.returned) (no_memory_fault rounds) (among_cons (round_fault (WriteAll r)) (faults_in rounds) OutOfMemory h)

-- 3. How a piece ended.

module _ {I J : Type 0} {D : I → Type 0} {E : J → Type 0}
    (behavior : BulkBehavior ((i : I) × D i) ((j : J) × E j)) (cache : CacheState) (replace : Bool) (keys : List Bytes) (few : length keys ≤ PIECE_KEYS) (distinct : IsDistinct (pointwise ◌==◌) keys)
    (old new : Session I J D E) where
  abbrev pub Ends : PieceResult → Type 0
  Ends result = LoadsAndNotes (LoadsPiece behavior cache) replace keys old result new

  abbrev Calls : List KeyEnd → Option Refusal → Type 0
  Calls ends cause = IsBulkCall behavior cache old (load_ops replace keys) ends cause new

  loaded : (ends : List KeyEnd) (cause : Option Refusal) (result : PieceResult) → result ≡ Loaded → Calls ends cause → cause ≡ None → failed_entries ends ≡ [] → Ends result
  loaded ends cause result is call none all = (
    record { ends = ends; cause = cause },
    inl call,
    record { cause = ap cause_noted is ∙ sym none; failed = ap (λ r. entries_noted r keys) is ∙ nothing_noted keys ∙ sym all },
  )

  failed : (ends : List KeyEnd) (cause : Option Refusal) (fault : BulkFault) (result : PieceResult) → IsResultOf (Err fault) result → Calls ends cause → cause ≡ Some fault.cause → failed_entries ends ≡ fault.failed.entries
      → Ends result
  failed ends cause fault result (inl whole) call is all =
      let met : IsCauseIn (Some OutOfMemory) (map (λ (e : Bytes × Refusal). e.1) [] ++ faults_in call.rounds) =
      subst (λ (z : Option Refusal × List (Bytes × Refusal)). IsCauseIn z.0 (map (λ (e : Bytes × Refusal). e.1) z.1 ++ faults_in call.rounds)) (λ i. ((is ∙ ap Some whole.1) i, (all ∙ whole.0) i)) call.met in
      absurd (no_memory_fault call.rounds met)
  failed ends cause fault result (inr part) call is all = (
    record { ends = ends; cause = cause },
    inl call,
    record {
      cause = ap cause_noted part.1 ∙ sym is;
      failed = ap (λ r. entries_noted r keys) part.1 ∙ (λ i. filter_map (pick (sym all i)) (sym ended i)) ∙ looked_up ends (subst (IsDistinct (pointwise ◌==◌)) (sym ended) distinct);
    },
  )
    where
      ended : map (λ (e : KeyEnd). e.key) ends ≡ keys
      ended = keys_ended replace ends keys call.carried.targets_are

  refused : (fault : BulkFault) (result : PieceResult) → IsResultOf (Err fault) result → NamesNoKey fault OutOfMemory → new ≡ old → Ends result
  refused fault result (inl whole) none same = (
    record { ends = out_of_memory (load_ops replace keys); cause = Some OutOfMemory },
    inr (refl, refl, same),
    record { cause = ap cause_noted whole.2; failed = ap (λ r. entries_noted r keys) whole.2 ∙ all_refused replace keys },
  )
  refused fault result (inr part) none same = absurd (part.0 none.1 none.0)

  pub piece_end : (returned : Result (Unit {0}) BulkFault) (result : PieceResult) → IsResultOf returned result
      → OrRefused (DoesAll behavior cache old (load_ops replace keys)) (length keys) old returned new → Ends result
  piece_end (Ok done) result is (inl h) = ⊎_elim (λ e. loaded e.0 e.1 result is e.2 e.3.0 e.3.1) (λ r. absurd r.0) h.1
  piece_end (Err fault) result is (inl h) = ⊎_elim (λ e. failed e.0 e.1 fault result is e.2 e.3.0 e.3.1) (λ r. refused fault result is r.0 r.1) h.1
  piece_end (Ok done) result is (inr h) = absurd h.1
  piece_end (Err fault) result is (inr h) = let many : BULK_KEYS_MAX < length keys = h.0 in absurd (omega arith)
