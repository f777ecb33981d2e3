-- The effect of a `loadAll`.
--     PieceEnd        the end of a piece: the end of each of its keys, in their order, and the first fault or refusal that its
--                     call met, if any
--     out_of_memory   the ends of a piece's keys, if its call was refused whole because an allocation failed
--     LoadsPiece      a session's next call, which loads the keys of a piece: it is carried out, and its cause is one of the
--                     first that it met; or it is refused whole, and nothing changes
--     ClientLoadsPiece  as `LoadsPiece`, for a client: its session does so on the client's cache, which stays the same
--     all_ends        the ends of the keys of the first `n` pieces, in the order of the keys
--     first_cause     the first cause among those of the first `n` pieces
--     LoadsInPieces   each piece of these keys was loaded once, by one of these sessions or clients, with this end
--     EndsInPieces    as `LoadsInPieces`, with the result: that it is done, or the cause of the first piece that has one, with
--                     each key that ended in a fault or a refusal
--     completion_of   what a listener hears of a call with this result
--     of_clients      the result of a call of clients that has ended like this
--     OnReturn        one condition if a call of clients returns that there is no client, and another one on what it returns
--                     otherwise
use Rattle.std.specs.Prelude.{◌≡◌, ◌⊎◌, ◌++◌, ℕ, zero, suc, List, [], length, map, Bool, Option, None, Some, Result, Ok, Err}
use Rattle.std.specs.Option.{option_or}
use Rattle.jc_types.specs.declared.refusal.Refusal.{Refusal}
use Rattle.jc_types.specs.declared.refusal.Refusal.TheVariants.{OutOfMemory}
use Rattle.jc_model.specs.Cache.{Bytes}
use Rattle.jc_model.specs.declared.event.Op.{Op}
use Rattle.jc_cache.specs.Caches.{CacheState}
use Rattle.jc_client.specs.Clients.{OnSameCache}
use Rattle.jc_client.specs.declared.client.Client.{Client}
use Rattle.jc_session.specs.declared.session.Session.{Session}
use Rattle.jc_bulk.specs.declared.fault.BulkFault.{BulkFault}
use Rattle.jc_bulk.specs.Bulk.{IsBulkCall, TellsDone}
use Rattle.jc_bulk.specs.Outside.{BulkBehavior}
use Rattle.jc_rounds.specs.Ends.{KeyEnd, failed_entries}
use Rattle.jc_bulk.specs.Targets.{load_ops}
use Rattle.jc_loadall.specs.declared.fault.LoadAllFault.{LoadAllFault}
use Rattle.jc_loadall.specs.declared.fault.LoadAllFault.TheVariants.{NoClient, Failed}
use Rattle.jc_loadall.specs.Pieces.{LoadsEachOnce, piece_at, piece_count}

pub record PieceEnd : Type 0 where
  pub ends : List KeyEnd
  pub cause : Option Refusal

-- 1. One piece.

abbrev pub out_of_memory : List (Bytes × Op) → List KeyEnd
out_of_memory targets = map (λ (t : Bytes × Op). record { key = t.0; op = t.1; ended = Err OutOfMemory }) targets

module _ {I J : Type 0} {D : I → Type 0} {E : J → Type 0} (behavior : BulkBehavior ((i : I) × D i) ((j : J) × E j)) where
  -- `old` and `new` are the session before and after
  abbrev pub LoadsPiece : CacheState → List (Bytes × Op) → PieceEnd → Session I J D E → Session I J D E → Type 0
  LoadsPiece cache targets end old new =
      IsBulkCall behavior cache old targets end.ends end.cause new
      ⊎ ((end.cause ≡ Some OutOfMemory) × (end.ends ≡ out_of_memory targets) × (new ≡ old))

  -- `old` and `new` are the client before and after
  abbrev pub ClientLoadsPiece : List (Bytes × Op) → PieceEnd → Client I J D E → Client I J D E → Type 0
  ClientLoadsPiece targets end old new =
      OnSameCache old.cache new.cache (LoadsPiece old.cache.now targets end old.session new.session)

-- 2. All pieces.

abbrev pub all_ends : (ℕ → PieceEnd) → ℕ → List KeyEnd
all_ends ends zero = []
all_ends ends (suc n) = all_ends ends n ++ (ends n).ends

abbrev pub first_cause : (ℕ → PieceEnd) → ℕ → Option Refusal
first_cause ends zero = None
first_cause ends (suc n) = option_or (first_cause ends n) (ends n).cause

-- `Loads` is what one of them did to load a piece
module _ {T : Type 0} (Loads : List (Bytes × Op) → PieceEnd → T → T → Type 0) where
  pub record LoadsInPieces (keys : List Bytes) (replace : Bool) (ends : ℕ → PieceEnd) (old new : List T) : Type 0 where
    pub loads : LoadsEachOnce (λ before piece after. Loads (load_ops replace (piece_at keys piece)) (ends piece) before after)
        (piece_count (length keys)) old new

  abbrev pub EndsInPieces : List Bytes → Bool → List T → Result (Unit {0}) BulkFault → List T → Type 0
  EndsInPieces keys replace old result new =
      (ends : ℕ → PieceEnd) × LoadsInPieces keys replace ends old new
      × TellsDone result (first_cause ends (piece_count (length keys))) (failed_entries (all_ends ends (piece_count (length keys))))

-- 3. Who is told.

abbrev pub completion_of : Result (Unit {0}) BulkFault → Result (Unit {0}) Refusal
completion_of (Ok done) = Ok done
completion_of (Err fault) = Err fault.cause

abbrev pub of_clients : Result (Unit {0}) BulkFault → Result (Unit {0}) LoadAllFault
of_clients (Ok done) = Ok done
of_clients (Err fault) = Err (Failed fault)

abbrev pub OnReturn : Result (Unit {0}) LoadAllFault → Type 0 → (Result (Unit {0}) BulkFault → Type 0) → Type 0
OnReturn (Ok done) Nobody Ended = Ended (Ok done)
OnReturn (Err NoClient) Nobody Ended = Nobody
OnReturn (Err (Failed fault)) Nobody Ended = Ended (Err fault)
