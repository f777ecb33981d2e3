-- Bytes that are kept inline: a buffer of fixed size, of which the first `len` bytes count and the rest is 0. No contract of a
-- public function cites this.
--     padded            the bytes, and then zeros up to a size
--     IsInline          of a buffer at least `least` and at most `size` bytes count, and the others are 0
--     length-inline     as many bytes count as `len` says
--     padded-inline     the bytes that count, padded, are the buffer
use Rattle.std.specs.Prelude.{◌≡◌, ℕ, ◌-◌, ◌≤◌, List, ◌++◌, length, take, replicate}
use Rattle.std.proofs.Common.{sym, ap, ◌∙◌, arith}
use Rattle.std.proofs.lemmas.List.{length-take-le}

-- the bytes, and then zeros up to a size
abbrev pub padded : ℕ → List ℕ → List ℕ
padded size bytes = bytes ++ replicate (size - length bytes) 0

-- of a buffer at least `least` and at most `size` bytes count, and the others are 0
pub record IsInline (least size : ℕ) (buf : List ℕ) (len : ℕ) : Type 0 where
  pub full : length buf ≡ size
  pub least_len : least ≤ len
  pub most_len : len ≤ size
  pub zeros : buf ≡ take len buf ++ replicate (size - len) 0

-- as many bytes as `len` count
pub length-inline : (least size : ℕ) (buf : List ℕ) (len : ℕ) → IsInline least size buf len → length (take len buf) ≡ len
length-inline least size buf len h = length-take-le len buf (omega arith)

-- the bytes that count, padded, are the buffer
pub padded-inline : (least size : ℕ) (buf : List ℕ) (len : ℕ) → IsInline least size buf len → padded size (take len buf) ≡ buf
padded-inline least size buf len h =
    ap (λ n. take len buf ++ replicate (size - n) 0) (length-inline least size buf len h) ∙ sym h.zeros
