-- Workers, each of which loads pieces by a tool, with a function that loads one piece. No contract of a public function cites this.
--     CanLoadBy      the function may be called with the keys of a piece and this tool
--     LoadsBy        a call of the function with these keys: its result, and the tool before and after
--     Keeps          each call of the function leaves a tool with which it may be called again
--     CanLoadByAll   there is a tool; the function may be called with each tool, and can be called again
--     CanLoad        a worker can load the piece with this number: there is such a piece; there is room for its keys, and for the
--                    note of its end; and the function may be called with the tool
--     DoesPiece      a piece was loaded with the tool, and the worker noted its end
--     AreLoadedBy    each piece of these keys was loaded once, with one of these tools and this result
--     EndsByTeam     as `AreLoadedBy`, with the result of the call: that it is done, or the first cause that is noted, with each
--                    key of which a fault or a refusal is noted
--     IsIdleWorker   a worker has loaded nothing, and has room for this number of notes
use Rattle.std.specs.Prelude.{◌≡◌, ◌==◌, ◌<◌, ◌≤◌, ◌+◌, ◌++◌, ℕ, List, [], ◌∷◌, length, vec_capacity, Result}
use Rattle.std.specs.List.{All, IsDistinct}
use Rattle.std.specs.Cmp.Lexicographic.{pointwise}
use denote.Ref.{Bor, MutBor}
use denote.Param.Members.{Shared}
use Rattle.indexmap.specs.IndexSet.{IndexSet, spare}
use Rattle.jc_model.specs.Cache.{Bytes}
use Rattle.jc_bulk.specs.declared.fault.BulkFault.{BulkFault}
use Rattle.jc_bulk.specs.Bulk.{TellsDone}
use Rattle.jc_loadall.specs.declared.limits.TheConstants.{PIECE_KEYS}
use Rattle.jc_loadall.specs.declared.notes.Note.{Note}
use Rattle.jc_loadall.specs.declared.notes.PieceResult.{PieceResult}
use Rattle.jc_loadall.specs.declared.worker.Worker.{Worker}
use Rattle.jc_loadall.specs.Notes.{all_noted, first_noted}
use Rattle.jc_loadall.specs.Pieces.{LoadsEachOnce, piece_at, piece_count}

module _ {F S T : Type 0} (g : Shared F (Bor (IndexSet Bytes S) × (MutBor T × Unit {0})) (PieceResult × (MutBor T × Unit {0})))
    (f : F) where
  abbrev pub CanLoadBy : T → Type 0
  CanLoadBy tool =
      (shown : Bor (IndexSet Bytes S)) (lent : MutBor T) → lent.now ≡ tool → length shown.now.keys ≤ PIECE_KEYS
      → IsDistinct (pointwise ◌==◌) shown.now.keys
      → g.pre f (shown, (lent, tt))

  pub record LoadsBy (keys : List Bytes) (old : T) (result : PieceResult) (new : T) : Type 0 where
    pub shown : Bor (IndexSet Bytes S)
    pub keys_are : shown.now.keys ≡ keys
    pub lent : MutBor T
    pub before : lent.now ≡ old
    pub back : MutBor T
    pub after : back.now ≡ new
    pub call : g.post f (shown, (lent, tt)) (result, (back, tt))

  abbrev pub Keeps : Type 0
  Keeps = (keys : List Bytes) (old : T) (result : PieceResult) (new : T) → LoadsBy keys old result new → CanLoadBy new

  pub record CanLoadByAll (tools : List T) : Type 0 where
    pub some : 0 < length tools
    pub able : All CanLoadBy tools
    pub keeps : Keeps

  -- `noted` pieces are noted, there is room for `notes` notes, and for `room` keys
  pub record CanLoad (keys : List Bytes) (tool : T) (room noted notes piece : ℕ) : Type 0 where
    pub there : piece < piece_count (length keys)
    pub distinct : IsDistinct (pointwise ◌==◌) keys
    pub room_for_keys : PIECE_KEYS ≤ room
    pub noted_before : noted ≤ piece
    pub room_to_note : piece < notes
    pub may : CanLoadBy tool
    pub keeps : Keeps

  pub record DoesPiece (keys : List Bytes) (notes : List Note) (old : T) (piece : ℕ) (notes' : List Note) (new : T) : Type 0 where
    pub result : PieceResult
    pub noted : notes' ≡ notes ++ record { piece = piece; result = result } ∷ []
    pub loads : LoadsBy (piece_at keys piece) old result new

  -- `old` and `new` are the tools before and after
  abbrev pub AreLoadedBy : List Bytes → (ℕ → PieceResult) → List T → List T → Type 0
  AreLoadedBy keys results old new =
      LoadsEachOnce (λ before piece after. LoadsBy (piece_at keys piece) before (results piece) after)
      (piece_count (length keys)) old new

  abbrev pub EndsByTeam : List Bytes → List T → Result (Unit {0}) BulkFault → List T → Type 0
  EndsByTeam keys old result new =
      (results : ℕ → PieceResult) × AreLoadedBy keys results old new
      × TellsDone result (first_noted results (piece_count (length keys))) (all_noted results keys (piece_count (length keys)))

pub record IsIdleWorker {F : Type 0} (load : F) (keys : List Bytes) (pieces : ℕ) (worker : Worker F) : Type 0 where
  pub load_is : worker.load.now ≡ load
  pub keys_are : worker.keys.now ≡ keys
  pub room_for_keys : PIECE_KEYS ≤ length worker.piece_keys.keys + spare worker.piece_keys
  pub room_to_note : pieces ≤ vec_capacity worker.notes
  pub none : worker.notes.items ≡ []
