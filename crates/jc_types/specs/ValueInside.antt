-- The fields of a value, found again from its bytes. No contract of a public function cites this.
--     again           the fields of the value of these bytes
--     value_again     the bytes that count give a value's fields back
use Rattle.std.specs.Prelude.{◌≡◌, List, ℕ, length, take}
use Rattle.jc_types.specs.Inline.{IsInline, padded, length-inline, padded-inline}
use Rattle.jc_types.specs.declared.value.Value.TheInside.{Inside}
use Rattle.jc_types.specs.declared.limits.TheConstants.{VALUE_MAX}

-- the fields of the value of these bytes
abbrev pub again : List ℕ → Inside
again bytes = record { buf = padded VALUE_MAX bytes; len = length bytes }

-- the bytes that count give a value's fields back
pub value_again : (v : Inside) → IsInline 0 VALUE_MAX v.buf v.len → again (take v.len v.buf) ≡ v
value_again v h = λ i. record { buf = padded-inline 0 VALUE_MAX v.buf v.len h i; len = length-inline 0 VALUE_MAX v.buf v.len h i }
