-- The notes of a worker about its pieces, and what a call makes of the notes of all workers. No contract of a public function cites
-- this.
--     IsResultOf      the note of a piece whose call returned this: a call that names no key, and whose cause is that an
--                     allocation failed, was refused whole
--     cause_noted     the cause of a piece that failed
--     refusal_noted   the fault or refusal in which a key of a piece ended, if it did
--     entries_noted   each of these keys that has one, with it, in their order
--     IsNoteOf        the note of a piece with these keys fits its end
--     LoadsAndNotes   the keys of a piece were loaded, and this is the note of it
--     find_note       the note of a piece, if there is one
--     result_in       the note of a piece that has one
--     first_noted     the first cause in the notes of the first `n` pieces
--     AreWithin       the keys of these entries are among the first `n` of these keys
--     MayAdd          the keys of this map are among the first `n` of these keys, and there is room in it for the others
--     all_noted       each key of the first `n` pieces that ended in a fault or a refusal, with it, in the order of the keys
use Rattle.std.specs.Prelude.{◌≡◌, ◌==◌, ◌≤◌, ◌+◌, ◌⊎◌, ◌++◌, ℕ, zero, suc, List, [], ◌∷◌, length, Bool, true, Option, None, Some}
use Rattle.std.specs.Prelude.{Result, Ok, Err, option_map, take, unwrap_or, if◌then◌else◌}
use Rattle.std.specs.Option.{option_or}
use Rattle.std.specs.List.{AllByRecursion, filter_map}
use Rattle.std.specs.Cmp.Lexicographic.{pointwise}
use Rattle.indexmap.specs.IndexMap.{IndexMap, get, spare}
use Rattle.jc_types.specs.declared.refusal.Refusal.{Refusal}
use Rattle.jc_types.specs.declared.refusal.Refusal.TheVariants.{OutOfMemory}
use Rattle.jc_model.specs.Batches.{is_among}
use Rattle.jc_model.specs.Cache.{Bytes}
use Rattle.jc_model.specs.declared.event.Op.{Op}
use Rattle.jc_bulk.specs.declared.fault.BulkFault.{BulkFault}
use Rattle.jc_bulk.specs.Targets.{load_ops}
use Rattle.jc_rounds.specs.Ends.{failed_entries}
use Rattle.jc_loadall.specs.declared.notes.Note.{Note}
use Rattle.jc_loadall.specs.declared.notes.PieceResult.{PieceResult}
use Rattle.jc_loadall.specs.declared.notes.PieceResult.TheVariants.{Loaded, Failed, Refused}
use Rattle.jc_loadall.specs.Loading.{PieceEnd}
use Rattle.jc_loadall.specs.Pieces.{piece_at}

-- 1. One piece.

abbrev pub IsResultOf : Result (Unit {0}) BulkFault → PieceResult → Type 0
IsResultOf (Ok done) result = result ≡ Loaded
IsResultOf (Err fault) result =
    ((fault.failed.entries ≡ []) × (fault.cause ≡ OutOfMemory) × (result ≡ Refused))
    ⊎ ((fault.failed.entries ≡ [] → fault.cause ≡ OutOfMemory → ⊥) × (result ≡ Failed fault))

abbrev pub cause_noted : PieceResult → Option Refusal
cause_noted Loaded = None
cause_noted (Failed fault) = Some fault.cause
cause_noted Refused = Some OutOfMemory

abbrev pub refusal_noted : PieceResult → Bytes → Option Refusal
refusal_noted Loaded key = None
refusal_noted (Failed fault) key = get (pointwise ◌==◌) fault.failed key
refusal_noted Refused key = Some OutOfMemory

abbrev pub entries_noted : PieceResult → List Bytes → List (Bytes × Refusal)
entries_noted result keys = filter_map (λ (key : Bytes). option_map (λ (r : Refusal). (key, r)) (refusal_noted result key)) keys

pub record IsNoteOf (keys : List Bytes) (result : PieceResult) (end : PieceEnd) : Type 0 where
  pub cause : cause_noted result ≡ end.cause
  pub failed : entries_noted result keys ≡ failed_entries end.ends

-- `Loads` is what was done to load a piece; `old` and `new` are who did it, before and after
abbrev pub LoadsAndNotes : {T : Type 0} → (List (Bytes × Op) → PieceEnd → T → T → Type 0) → Bool → List Bytes → T → PieceResult
    → T → Type 0
LoadsAndNotes Loads replace keys old result new =
    (end : PieceEnd) × Loads (load_ops replace keys) end old new × IsNoteOf keys result end

-- 2. All pieces.

abbrev pub find_note : ℕ → List Note → Option PieceResult
find_note piece [] = None
find_note piece (note ∷ notes) = if note.piece == piece then Some note.result else find_note piece notes

abbrev pub result_in : List Note → ℕ → PieceResult
result_in notes piece = unwrap_or (find_note piece notes) Loaded

abbrev pub first_noted : (ℕ → PieceResult) → ℕ → Option Refusal
first_noted results zero = None
first_noted results (suc n) = option_or (first_noted results n) (cause_noted (results n))

abbrev pub all_noted : (ℕ → PieceResult) → List Bytes → ℕ → List (Bytes × Refusal)
all_noted results keys zero = []
all_noted results keys (suc n) = all_noted results keys n ++ entries_noted (results n) (piece_at keys n)

abbrev pub AreWithin : List Bytes → ℕ → List (Bytes × Refusal) → Type 0
AreWithin keys n entries = AllByRecursion (λ (e : Bytes × Refusal). is_among (take n keys) e.0 ≡ true) entries

pub record MayAdd {S : Type 0} (keys : List Bytes) (n : ℕ) (failed : IndexMap Bytes Refusal S) : Type 0 where
  pub within : AreWithin keys n failed.entries
  pub room : length keys ≤ spare failed + n
