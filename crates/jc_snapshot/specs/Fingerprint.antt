-- The fingerprint of a snapshot: FNV-1a over its numbers.
--     print_with        a fingerprint with one more number
--     fingerprint_of    the fingerprint of a list
use Rattle.std.specs.Prelude.{ℕ, ◌*◌, ◌%◌, ◌^◌, List, bit_xor}
use Rattle.std.specs.List.{fold}
use Rattle.jc_snapshot.specs.declared.snapshot.TheConstants.{FINGERPRINT_START, FINGERPRINT_FACTOR}

abbrev pub print_with : ℕ → ℕ → ℕ
print_with print word = (bit_xor print word * FINGERPRINT_FACTOR) % 2 ^ 64

abbrev pub fingerprint_of : List ℕ → ℕ
fingerprint_of words = fold print_with FINGERPRINT_START words
