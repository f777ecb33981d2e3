-- The fields of a key, found again from its bytes. No contract of a public function cites this.
--     again         the fields of the key of these bytes
--     key_again     the bytes that count give a key's fields back
use Rattle.std.specs.Prelude.{◌≡◌, List, ℕ, length, take}
use Rattle.jc_types.specs.Inline.{IsInline, padded, length-inline, padded-inline}
use Rattle.jc_types.specs.declared.key.Key.TheInside.{Inside}
use Rattle.jc_types.specs.declared.limits.TheConstants.{KEY_MAX}

-- the fields of the key of these bytes
abbrev pub again : List ℕ → Inside
again bytes = record { buf = padded KEY_MAX bytes; len = length bytes }

-- the bytes that count give a key's fields back
pub key_again : (k : Inside) → IsInline 1 KEY_MAX k.buf k.len → again (take k.len k.buf) ≡ k
key_again k h = λ i. record { buf = padded-inline 1 KEY_MAX k.buf k.len h i; len = length-inline 1 KEY_MAX k.buf k.len h i }
