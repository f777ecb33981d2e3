-- The pieces into which keys are cut.
--     piece_count      the number of pieces for this number of keys
--     piece_at         the keys of the piece with this number, in their order
--     LoadsEachOnce    each of this number of pieces was loaded once, by one of these: each has a share of the pieces, loaded them
--                      one after another, and did nothing else
use Rattle.std.specs.Prelude.{◌≡◌, ◌<◌, ◌+◌, ◌-◌, ◌*◌, ◌/◌, ℕ, List, [], length, slice_index_or, take, drop}
use Rattle.std.specs.List.{concat}
use Rattle.jc_model.specs.Cache.{Bytes}
use Rattle.jc_pool.specs.Shares.{LeadsTo, once_below, times}
use Rattle.jc_loadall.specs.declared.limits.TheConstants.{PIECE_KEYS}

abbrev pub piece_count : ℕ → ℕ
piece_count keys = (keys + (PIECE_KEYS - 1)) / PIECE_KEYS

abbrev pub piece_at : List Bytes → ℕ → List Bytes
piece_at keys piece = take PIECE_KEYS (drop (PIECE_KEYS * piece) keys)

-- `Loads` is what one of them did to load a piece, `old` and `new` are they before and after
pub record LoadsEachOnce {T : Type 0} (Loads : T → ℕ → T → Type 0) (pieces : ℕ) (old new : List T) : Type 0 where
  pub shares : List (List ℕ)
  pub share_each : length shares ≡ length old
  pub count : length new ≡ length old
  pub each : (k : ℕ) (d : T) → k < length old
      → LeadsTo Loads (slice_index_or old k d) (slice_index_or shares k []) (slice_index_or new k d)
  pub once : (piece : ℕ) → times piece (concat shares) ≡ once_below piece pieces
